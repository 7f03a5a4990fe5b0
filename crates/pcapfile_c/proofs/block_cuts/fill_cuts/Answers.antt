use Rattle.std.proofs.Common.{◌≡◌, ◌≤◌, ℕ, List, length, refl, subst, inl, inr, rules}
use Rattle.pcap_ng.specs.Opening.{OpeningSays}
use Rattle.pcap_parts.specs.declared.cut_ng.NgCut.{NgCut}
use Rattle.pcapfile_c.specs.Cuts.{CutMayGrow, Fills}
use Rattle.pcapfile_c.proofs.CutPlaces.{blocks_fit}
use Rattle.pcapfile_c.proofs.Refused.{tells_refusal_where}
use Rattle.pcapfile_c.proofs.block_cuts.fill_cuts.Goals as goal

pub fill-requires : goal.fill-requires
fill-requires c =
    let found = c.in-Ok.found in
    let places = length c.args.cuts.now in
    let fit : length found.cuts.items ≤ places = blocks_fit c.args.parting found c.args.bytes.now places c.in-Ok.ensures.cut c.requires.room in
    rw c.as_slice.ensures.value fit

pub returns-then-interfaces-known : goal.returns-then-interfaces-known
returns-then-interfaces-known c =
    let found = c.in-Ok.found in
    let known : c.len.result ≡ length found.interfaces.items = search rules in
    inr (c.requires.no_cut, refl, refl, inl (refl, refl, inr (found, c.in-Ok.ensures.cut, known, c.if-interfaces-known.true)))

pub returns-else-interfaces-known : goal.returns-else-interfaces-known
returns-else-interfaces-known c =
    let found = c.in-Ok.found in
    let cuts : Fills found.cuts.items c.args.cuts.now c.fill.new.places c.fill.result =
    subst (λ (values : List NgCut). Fills values c.args.cuts.now c.fill.new.places c.fill.result) c.as_slice.ensures.value c.fill.ensures in
    let places : Fills found.interfaces.items c.args.interfaces.now c.fill-in-Ok.new.places c.fill-in-Ok.result =
    subst (λ (values : List ℕ). Fills values c.args.interfaces.now c.fill-in-Ok.new.places c.fill-in-Ok.result) c.as_slice-in-Ok.ensures.value c.fill-in-Ok.ensures in
    let long : c.fill-in-Ok.result ≡ c.len.result = search rules in
    inl (refl, refl, found, c.in-Ok.ensures.cut, cuts, subst (λ (n : ℕ). Fills found.interfaces.items c.args.interfaces.now c.fill-in-Ok.new.places n) long places)

pub returns-in-Err : goal.returns-in-Err
returns-in-Err c =
    let says = OpeningSays c.args.bytes.now in
    inr (c.requires.no_cut, refl, refl, inr (c.requires.no_interface, tells_refusal_where (CutMayGrow c.args.bytes.now) says c.in-Err.e c.tell.new.told c.tell.result c.in-Err.ensures.refused c.tell.ensures))
