use Rattle.std.proofs.Common.{ℕ, List, length, map, refl, ap, subst, inl, inr}
use Rattle.std.proofs.lemmas.Result.{err_from_is_err_and}
use Rattle.pcap_blocks.specs.InterfaceDescription.{Interface, interface_of}
use Rattle.pcap_ng.specs.Bodies.{GrowsInBody}
use Rattle.pcap_ng.specs.Frames.{Framed}
use Rattle.pcap_ng.specs.Lent.{framed_around}
use Rattle.pcap_ng.specs.Reader.{body_of, interfaces_in_force, section_in_force}
use Rattle.pcapfile_info.specs.declared.totals.Totals.{Totals}
use Rattle.pcapfile_info.specs.Sights.{IsFramedSight}
use Rattle.pcapfile_info.specs.Telling.{AddsItem}
use Rattle.pcapfile_info.specs.Totals.{NeedsRoom}
use Rattle.pcapfile_info.proofs.Bodies.{room_named}
use Rattle.pcapfile_info.proofs.Describing.{adds_loses, described_behind, same_loses}
use Rattle.pcapfile_info.proofs.Telling.{nothing_same, nothing_behind, item_behind}
use Rattle.pcapfile_info.proofs.progress.tell_block.Goals as goal

pub returns-in_err-sight-clause-counts : goal.returns-in_err-sight-clause-counts
returns-in_err-sight-clause-counts g c =
    let p = err_from_is_err_and c.from_residual.result c.from_residual.ensures.1 in
    rw (p.1, p.2) (c.in_err-sight.ensures.0, nothing_same c.args.progress.now c.args.progress.now (refl, refl, refl), same_loses c.args.progress.now c.args.progress.now refl refl)

pub returns-in_err-keep-clause-counts : goal.returns-in_err-keep-clause-counts
returns-in_err-keep-clause-counts g c =
    let p = err_from_is_err_and c.from_residual-in_err-keep.result c.from_residual-in_err-keep.ensures.1 in
    rw (p.1, p.2) (tt, nothing_same c.args.progress.now c.keep.new.self c.keep.ensures.counts, c.in_err-keep.ensures.adds)

pub returns-in_err-add-clause-counts : goal.returns-in_err-add-clause-counts
returns-in_err-add-clause-counts g c =
    let p = err_from_is_err_and c.from_residual-in_err-add.result c.from_residual-in_err-add.ensures.1 in
    let keeps = rw (c.section.ensures, c.interfaces-2.ensures) at c.in_ok-keep.ensures.adds in
    let loses = adds_loses c.args.header.type_ (section_in_force c.args.reader.now) (interfaces_in_force c.args.reader.now) c.args.progress.now c.keep.new.self c.add.new.self keeps c.add.ensures.same in
    rw (p.1, p.2) (tt, nothing_behind c.args.progress.now c.keep.new.self c.add.new.self c.keep.ensures.counts c.in_err-add.ensures.adds, loses)

pub returns-clause-counts : goal.returns-clause-counts
returns-clause-counts g c =
    let sight = c.in_ok-sight.sight in
    let n = length c.as_slice-described.result.now in
    let block = framed_around c.args.header (body_of c.args.reader.now) in
    let framed = subst (λ (f : Framed). IsFramedSight n (map interface_of c.interfaces.result.now) f sight) c.block-block.ensures.block c.in_ok-sight.ensures.0 in
    let under = subst (λ (l : List Interface). IsFramedSight n l block sight) c.interfaces.ensures framed in
    let behind = subst (λ (m : ℕ). IsFramedSight m (interfaces_in_force c.args.reader.now) block sight) (ap length c.as_slice-described.ensures.value) under in
    let adds = item_behind sight (length c.text.result.now) c.args.progress.now c.keep.new.self c.add.new.self c.keep.ensures.counts c.in_ok-add.ensures.adds in
    (sight, behind, subst (λ (l : List ℕ). AddsItem sight (length l) c.args.progress.now c.add.new.self) c.text.ensures adds)

pub returns-clause-describes : goal.returns-clause-describes
returns-clause-describes g c =
    described_behind c.args.header.type_ (section_in_force c.args.reader.now) (interfaces_in_force c.args.reader.now) c.args.progress.now c.keep.new.self c.add.new.self
    (rw (c.section.ensures, c.interfaces-2.ensures) at c.in_ok-keep.ensures.adds) c.in_ok-add.ensures.same

pub returns-in_err-sight-clause-memory : goal.returns-in_err-sight-clause-memory
returns-in_err-sight-clause-memory g c =
    let p = err_from_is_err_and c.from_residual.result c.from_residual.ensures.1 in
    rw p.1 (inl (subst GrowsInBody c.block-block.ensures.block c.in_err-sight.ensures.1))

pub returns-in_err-keep-clause-memory : goal.returns-in_err-keep-clause-memory
returns-in_err-keep-clause-memory g c =
    let p = err_from_is_err_and c.from_residual-in_err-keep.result c.from_residual-in_err-keep.ensures.1 in
    rw p.1 (inr (inl c.in_err-keep.ensures.memory))

pub returns-in_err-add-clause-memory : goal.returns-in_err-add-clause-memory
returns-in_err-add-clause-memory g c =
    let p = err_from_is_err_and c.from_residual-in_err-add.result c.from_residual-in_err-add.ensures.1 in
    let sight = c.in_ok-sight.sight in
    let n = length c.as_slice-described.result.now in
    let own = interfaces_in_force c.args.reader.now in
    let block = framed_around c.args.header (body_of c.args.reader.now) in
    let framed = subst (λ (f : Framed). IsFramedSight n (map interface_of c.interfaces.result.now) f sight) c.block-block.ensures.block c.in_ok-sight.ensures.0 in
    let under = subst (λ (l : List Interface). IsFramedSight n l block sight) c.interfaces.ensures framed in
    let behind = subst (λ (m : ℕ). IsFramedSight m own block sight) (ap length c.as_slice-described.ensures.value) under in
    let room = subst (λ (t : Totals). NeedsRoom t sight) c.keep.ensures.counts.2 c.in_err-add.ensures.memory in
    rw p.1 (inr (room_named c.args.header.type_ (length c.args.progress.now.totals.interfaces.items) own block c.args.progress.now.totals sight behind room))
