use Rattle.std.proofs.Common.{◌≡◌, ◌∙◌, ℕ, List, Err, sym, subst, inl, inr}
use Rattle.std.specs.Io.KnownBytes.{Appends}
use Rattle.pcap_items.specs.Writing.{WritesAll}
use Rattle.std.specs.Prelude.{⊤}
use Rattle.std.proofs.lemmas.Result.{err_from_is_err_and}
use Rattle.std.proofs.KnownBytes.{Keeps-refl}
use Rattle.pcap_core.specs.declared.common.Endianness.TheVariants.{Big}
use Rattle.pcap_items.specs.Held.{held_bytes}
use Rattle.pcap_ng.specs.State.{state_in, opening, order_at}
use Rattle.pcap_items.proofs.Copying.{torn_write}
use Rattle.pcap_ng.proofs.Copied.{opening_item, one_copied}
use Rattle.pcap_ng.proofs.HeadedFrames.{frames_lawful}
use Rattle.pcap_ng.proofs.Refusing.{opening_order}
use Rattle.pcap_ng.proofs.Causes.{pull_frame, pull_held, opening_says}
use Rattle.pcap_ng.proofs.pcapng.copying.copy_first.Goals as goal

pub fill_item-requires-clause-lawful : goal.fill_item-requires-clause-lawful
fill_item-requires-clause-lawful g c = frames_lawful

pub returns-in_err-head-clause-begins : goal.returns-in_err-head-clause-begins
returns-in_err-head-clause-begins g c =
    let p = err_from_is_err_and c.from_residual.result c.from_residual.ensures.1 in
    let is : Big ≡ order_at opening = sym opening_order in
    let x = pull_frame opening Big is _ _ _ c.in_err-head.field-0.0 c.in_err-head.ensures.fills in
    rw (p.1, p.2) (c.requires.new.none, inr (inr (record { refused = x.0; part = x.1; no_write_failed = c.requires.new.no_write_failed; out = Keeps-refl _ })))

pub returns-in_err-in_force-clause-begins : goal.returns-in_err-in_force-clause-begins
returns-in_err-in_force-clause-begins g c =
    let p = err_from_is_err_and c.from_residual-in_err-in_force.result c.from_residual-in_err-in_force.ensures.1 in
    let is : Big ≡ order_at opening = sym opening_order in
    let filled = rw c.in-Some.is at c.in_ok-head.ensures.fills in
    let held = held_bytes c.fill_item.new.held in
    let e = c.in_err-in_force.field-0.0 in
    let shown = rw c.as_slice.ensures at c.in_err-in_force.ensures in
    let x = pull_held opening Big is held _ _ _ filled.0 filled.4 filled.3 ⊤ e (opening_says ⊤ held e shown) in
    rw (p.1, p.2) (c.requires.new.none, inr (inr (record { refused = x.0; part = x.1; no_write_failed = c.requires.new.no_write_failed; out = Keeps-refl _ })))

pub returns-in_err-put-clause-begins : goal.returns-in_err-put-clause-begins
returns-in_err-put-clause-begins g c =
    let p = err_from_is_err_and c.from_residual-in_err-put.result c.from_residual-in_err-put.ensures.1 in
    let filled = rw c.in-Some.is at c.in_ok-head.ensures.fills in
    let held = held_bytes c.fill_item.new.held in
    let text = rw c.as_slice.ensures at c.in_ok-in_force.ensures in
    let item = opening_item held (state_in c.in_ok-in_force.in_force) text in
    let e = c.in_err-put.field-0.0 in
    let out = subst (λ (bytes : List ℕ). WritesAll (g.W.Write.contents c.args.writer.now) (g.W.Write.contents c.put.new.writer) bytes (Err e)) c.as_slice-2.ensures c.in_err-put.ensures.out in
    let part = torn_write held _ _ e out in
    rw (p.1, p.2) (
      c.requires.new.none,
      inr (inl (record {
        item = item.0;
        text = held;
        is_text = item.2;
        took = filled.4;
        refused = part.0;
        no_read_failed = filled.0;
        write_failed = c.in_err-put.ensures.told;
        out = part.1;
      })),
    )

pub returns-clause-begins : goal.returns-clause-begins
returns-clause-begins g c =
    let filled = rw c.in-Some.is at c.in_ok-head.ensures.fills in
    let held = held_bytes c.fill_item.new.held in
    let text = rw c.as_slice.ensures at c.in_ok-in_force.ensures in
    let item = opening_item held (state_in c.in_ok-in_force.in_force) text in
    let went = subst (λ (bytes : List ℕ). Appends (g.W.Write.contents c.args.writer.now) (g.W.Write.contents c.put.new.writer) bytes) c.as_slice-2.ensures c.in_ok-put.ensures.out in (
      record { none = c.requires.new.none; no_read_failed = filled.0; no_write_failed = c.in_ok-put.ensures.told ∙ c.requires.new.no_write_failed },
      (item.0, item.1, one_copied opening item.0 held _ _ _ _ item.2 filled.4 went),
    )
