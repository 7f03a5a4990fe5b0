use Rattle.std.proofs.Common.{refl}
use Rattle.pcap_file.specs.Placing.{source_of}
use Rattle.pcap_ng.specs.Reader.{interfaces_in_force, lent_item}
use Rattle.pcap_file.proofs.Placing.{gives_next, turned}
use Rattle.pcap_file.proofs.run.placing.convert_next.Goals as goal

pub returns-clause-steps : goal.returns-clause-steps
returns-clause-steps g c =
    let reader = c.next_header.new.self in
    let a = source_of g.R.Read.remaining c.args.reader.now in
    let b = source_of g.R.Read.remaining reader in
    let header = c.in-Some-Ok.header in
    let item = lent_item reader header in
    let gives = rw c.in-Some-Ok.field-0-is at c.in-Some-Ok.ensures.next in
    let t = turned c.args.writer.now.header c.args.unplaced (interfaces_in_force reader) item.block _ _ c.in_ok-became.became _ _ c.in_ok-became.ensures.placed c.count.ensures in
    record {
      item = item;
      turn = t.0;
      next = gives_next (lent_item reader) a b header refl gives;
      becomes = t.1;
      goes = t.2;
      counts = t.3;
    }
