use Rattle.std.proofs.Common.{arith}
use Rattle.std.proofs.lemmas.List.{length_push}
use Rattle.pcap_items.proofs.Taking.{gives_more}
use Rattle.pcap_items.proofs.run.reads.read_items.Goals as goal

pub loop-turn-preserved : goal.loop-turn-preserved
loop-turn-preserved g c =
    let items = c.loop-turn.items.items in
    let item = c.in-Some-Ok.item in
    let step = rw c.in-Some-Ok.field-0-is at c.in-Some-Ok.ensures.steps in
    record {
      gave = rw (c.push_reserved.ensures.items, c.reserve.ensures.items) (gives_more g.R.Iterator.next_gives items item c.args.reader.now c.loop-turn.reader c.next.new.self c.loop-turn.invariant.gave step);
      count = rw (c.push_reserved.ensures.items, c.reserve.ensures.items) (omega (arith, length_push items item, c.loop-turn.invariant.count));
      can = c.in-Some-Ok.ensures.goes.keeps;
    }
