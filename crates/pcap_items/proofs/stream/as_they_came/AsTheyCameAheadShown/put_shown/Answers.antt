use Rattle.std.proofs.Common.{◌+◌, ◌∙◌, ◌++◌, ℕ, List, take, Err, subst, sym, arith}
use Rattle.std.specs.Io.KnownBytes.{Appends}
use Rattle.pcap_items.specs.AsTheyCame.{as_they_came}
use Rattle.pcap_items.specs.Copying.{SendsWhole}
use Rattle.pcap_items.specs.Writing.{WritesAll}
use Rattle.pcap_items.proofs.AsTheyCame.{item_at, one_sent}
use Rattle.pcap_items.proofs.Copying.{torn_write}
use Rattle.pcap_items.proofs.stream.as_they_came.AsTheyCameAheadShown.put_shown.Goals as goal

pub returns-in-Err-clause-sends : goal.returns-in-Err-clause-sends
returns-in-Err-clause-sends g c =
    let f = g.H.Holding.format c.args.self.now.items in
    let q = g.H.Holding.state c.args.place.now in
    let shown = c.args.shown.now in
    let after = c.in-Some.after.now in
    let passed = rw c.in-Some.is at c.pass.ensures in
    let at = item_at f c.requires.stands q shown after c.loop-items.used passed.item c.loop-items.invariant.within passed.text in
    let out = subst (λ (bytes : List ℕ). WritesAll (g.W.Write.contents c.loop-items.writer) (g.W.Write.contents c.put.new.writer) bytes (Err c.in-Err.error)) {y = at.0} at.1 c.in-Err.ensures.out in
    let part = torn_write at.0 _ _ c.in-Err.error out in (
      record {
        front = take c.loop-items.used shown;
        text = at.0;
        split = at.3;
        mid = g.W.Write.contents c.loop-items.writer;
        whole_ones = c.loop-items.invariant.sent;
        item = passed.item;
        is_text = at.2;
        out = part.1;
      },
      c.loop-items-test.true,
      part.0,
      c.in-Err.ensures.told,
    )

pub loop-items-preserved : goal.loop-items-preserved
loop-items-preserved g c =
    let f = g.H.Holding.format c.args.self.now.items in
    let q = g.H.Holding.state c.args.place.now in
    let shown = c.args.shown.now in
    let after = c.in-Some.after.now in
    let passed = rw c.in-Some.is at c.pass.ensures in
    let at = item_at f c.requires.stands q shown after c.loop-items.used passed.item c.loop-items.invariant.within passed.text in
    let out = subst (λ (bytes : List ℕ). Appends (g.W.Write.contents c.loop-items.writer) (g.W.Write.contents c.put.new.writer) bytes) {y = at.0} at.1 c.in_default-put.ensures.out in
    let sent = one_sent f c.requires.stands q (take c.loop-items.used shown) at.0 _ _ _ c.loop-items.items passed.item c.loop-items.invariant.sent at.2 passed.stays out in
    record {
      sent = subst (λ (l : List ℕ). SendsWhole f as_they_came q l (g.W.Write.contents c.args.writer.now) (g.W.Write.contents c.put.new.writer) (c.loop-items.items + 1)) {x = take c.loop-items.used shown ++ at.0} (sym at.3) sent;
      within = omega arith;
      few = omega (arith, c.loop-items-test.true);
      same = c.in_default-put.ensures.told ∙ c.loop-items.invariant.same;
    }
