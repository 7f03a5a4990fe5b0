use Rattle.std.proofs.Common.{◌∙◌, ℕ, List, Err, refl, subst, arith, inl, inr}
use Rattle.std.proofs.lemmas.Result.{err_from_is_err_and}
use Rattle.std.specs.Io.KnownBytes.{Appends}
use Rattle.std.proofs.KnownBytes.{Keeps-refl}
use Rattle.pcap_items.specs.AsTheyCame.{as_they_came}
use Rattle.pcap_items.specs.Held.{held_bytes}
use Rattle.pcap_items.specs.Writing.{WritesAll}
use Rattle.pcap_items.proofs.AsTheyCame.{bytes_writing}
use Rattle.pcap_items.proofs.Copying.{step_fails, step_one, torn_write}
use Rattle.pcap_items.proofs.stream.as_they_came.AsTheyCameAhead.copy_next.Goals as goal

pub returns-in_err-hold_next-clause-steps : goal.returns-in_err-hold_next-clause-steps
returns-in_err-hold_next-clause-steps g c =
    let p = err_from_is_err_and c.from_residual.result c.from_residual.ensures.1 in
    let n = c.args.tally.now.items in
    let f = g.H.Holding.format c.args.self.now.items in
    let q = g.H.Holding.state c.args.place.now in
    let x = c.in_err-hold_next.ensures in
    rw (p.1, p.2) (step_fails f as_they_came bytes_writing q _ _ _ _ n n c.in_err-hold_next.field-0.0 _ _ refl (inr (record { refused = x.0; part = x.1; no_write_failed = c.requires.no_write_failed; out = Keeps-refl _ })))

pub returns-in_err-put-clause-steps : goal.returns-in_err-put-clause-steps
returns-in_err-put-clause-steps g c =
    let p = err_from_is_err_and c.from_residual-in_err-put.result c.from_residual-in_err-put.ensures.1 in
    let n = c.args.tally.now.items in
    let f = g.H.Holding.format c.args.self.now.items in
    let q = g.H.Holding.state c.args.place.now in
    let e = c.in_err-put.field-0.0 in
    let text = held_bytes c.hold_next.new.held in
    let came = rw c.if-not-branch.false at c.in_ok-hold_next.ensures in
    let out = subst (λ (bytes : List ℕ). WritesAll (g.W.Write.contents c.args.writer.now) (g.W.Write.contents c.put.new.writer) bytes (Err e)) c.as_slice.ensures c.in_err-put.ensures.out in
    let part = torn_write text _ _ e out in
    rw (p.1, p.2) (step_fails f as_they_came bytes_writing q _ _ _ _ n n e _ _ refl (inl (record {
      item = came.1.item;
      text = text;
      is_text = came.1.text;
      took = came.2;
      refused = part.0;
      no_read_failed = came.0;
      write_failed = c.in_err-put.ensures.told;
      out = part.1;
    })))

pub returns-clause-steps : goal.returns-clause-steps
returns-clause-steps g c =
    let n = c.args.tally.now.items in
    let f = g.H.Holding.format c.args.self.now.items in
    let q = g.H.Holding.state c.args.place.now in
    let next = g.H.Holding.state c.hold_next.new.place in
    let text = held_bytes c.hold_next.new.held in
    let came = rw c.if-not-branch.false at c.in_ok-hold_next.ensures in
    let went = subst (λ (bytes : List ℕ). Appends (g.W.Write.contents c.args.writer.now) (g.W.Write.contents c.put.new.writer) bytes) c.as_slice.ensures c.in_ok-put.ensures.out in (
      step_one f as_they_came bytes_writing q next came.1.item text _ _ _ _ n _ came.1.leads came.1.text came.2 went refl,
      omega arith,
      came.0,
      c.in_ok-put.ensures.told ∙ c.requires.no_write_failed,
    )
