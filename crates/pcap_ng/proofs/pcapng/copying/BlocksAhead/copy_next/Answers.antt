use Rattle.std.proofs.Common.{◌∙◌, ℕ, List, Err, refl, subst, arith, inl, inr}
use Rattle.std.specs.Prelude.{⊤}
use Rattle.std.proofs.lemmas.Result.{err_from_is_err_and}
use Rattle.std.specs.Io.KnownBytes.{Appends}
use Rattle.std.proofs.KnownBytes.{Keeps-refl}
use Rattle.pcap_items.specs.Held.{held_bytes}
use Rattle.pcap_items.specs.Writing.{WritesAll}
use Rattle.pcap_items.proofs.Copying.{step_fails, step_one, torn_write}
use Rattle.pcap_ng.specs.Blocks.{block_format}
use Rattle.pcap_items.specs.AsTheyCame.{as_they_came}
use Rattle.pcap_items.proofs.AsTheyCame.{bytes_writing}
use Rattle.pcap_ng.specs.State.{state_in}
use Rattle.pcap_ng.proofs.BlockFormat.{goes_after}
use Rattle.pcap_ng.proofs.HeadedFrames.{frames_lawful}
use Rattle.pcap_ng.proofs.Causes.{pull_frame, pull_held}
use Rattle.pcap_ng.proofs.pcapng.copying.BlocksAhead.copy_next.Goals as goal

pub fill_item-requires-clause-lawful : goal.fill_item-requires-clause-lawful
fill_item-requires-clause-lawful g c = frames_lawful

pub returns-in_err-head-clause-steps : goal.returns-in_err-head-clause-steps
returns-in_err-head-clause-steps g c =
    let p = err_from_is_err_and c.from_residual.result c.from_residual.ensures.1 in
    let q = state_in c.args.place.now in
    let n = c.args.tally.now.items in
    let x = pull_frame q c.order-order.result c.order-order.ensures _ _ _ c.in_err-head.field-0.0 c.in_err-head.ensures.fills in
    rw (p.1, p.2) (step_fails block_format as_they_came bytes_writing q _ _ _ _ n n c.in_err-head.field-0.0 _ _ refl (inr (record { refused = x.0; part = x.1; no_write_failed = c.requires.no_write_failed; out = Keeps-refl _ })))

pub returns-in_default-clause-steps : goal.returns-in_default-clause-steps
returns-in_default-clause-steps g c =
    let filled = rw c.in_default.is at c.in_ok-head.ensures.fills in
    (refl, filled.2, record { fine = refl; no_read_failed = filled.0; no_write_failed = c.requires.no_write_failed; taken = filled.3; out = Keeps-refl _ })

pub returns-in_err-follow_held-clause-steps : goal.returns-in_err-follow_held-clause-steps
returns-in_err-follow_held-clause-steps g c =
    let p = err_from_is_err_and c.from_residual-in_err-follow_held.result c.from_residual-in_err-follow_held.ensures.1 in
    let q = state_in c.args.place.now in
    let n = c.args.tally.now.items in
    let e = c.in_err-follow_held.field-0.0 in
    let filled = rw c.in-Some.is at c.in_ok-head.ensures.fills in
    let shown = rw c.as_slice.ensures at c.in_err-follow_held.ensures in
    let x = pull_held q c.order-order.result c.order-order.ensures (held_bytes c.fill_item.new.held) _ _ _ filled.0 filled.4 filled.3 ⊤ e shown in
    rw (p.1, p.2) (step_fails block_format as_they_came bytes_writing q _ _ _ _ n n e _ _ refl (inr (record { refused = x.0; part = x.1; no_write_failed = c.requires.no_write_failed; out = Keeps-refl _ })))

pub returns-in_err-put-clause-steps : goal.returns-in_err-put-clause-steps
returns-in_err-put-clause-steps g c =
    let p = err_from_is_err_and c.from_residual-in_err-put.result c.from_residual-in_err-put.ensures.1 in
    let q = state_in c.args.place.now in
    let n = c.args.tally.now.items in
    let e = c.in_err-put.field-0.0 in
    let held = held_bytes c.fill_item.new.held in
    let filled = rw c.in-Some.is at c.in_ok-head.ensures.fills in
    let item = rw c.as_slice.ensures at c.in_ok-follow_held.ensures in
    let out = subst (λ (bytes : List ℕ). WritesAll (g.W.Write.contents c.args.writer.now) (g.W.Write.contents c.put.new.writer) bytes (Err e)) c.as_slice-2.ensures c.in_err-put.ensures.out in
    let part = torn_write held _ _ e out in
    rw (p.1, p.2) (step_fails block_format as_they_came bytes_writing q _ _ _ _ n n e _ _ refl (inl (record {
      item = item.0;
      text = held;
      is_text = item.2;
      took = filled.4;
      refused = part.0;
      no_read_failed = filled.0;
      write_failed = c.in_err-put.ensures.told;
      out = part.1;
    })))

pub returns-clause-steps : goal.returns-clause-steps
returns-clause-steps g c =
    let q = state_in c.args.place.now in
    let next = state_in c.follow_held.new.in_force in
    let n = c.args.tally.now.items in
    let held = held_bytes c.fill_item.new.held in
    let filled = rw c.in-Some.is at c.in_ok-head.ensures.fills in
    let item = rw c.as_slice.ensures at c.in_ok-follow_held.ensures in
    let went = subst (λ (bytes : List ℕ). Appends (g.W.Write.contents c.args.writer.now) (g.W.Write.contents c.put.new.writer) bytes) c.as_slice-2.ensures c.in_ok-put.ensures.out in (
      step_one block_format as_they_came bytes_writing q next item.0 held _ _ _ _ n _ (goes_after q item.0 ∙ item.1) item.2 filled.4 went refl,
      omega arith,
      filled.0,
      c.in_ok-put.ensures.told ∙ c.requires.no_write_failed,
    )
