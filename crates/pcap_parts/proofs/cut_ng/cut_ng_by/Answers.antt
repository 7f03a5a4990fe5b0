use Rattle.std.proofs.Common.{[], rules, ◌≡◌}
use Rattle.pcap_ng.specs.Parser.{state_of}
use Rattle.pcap_parts.proofs.NgCaptures.{ng_cut_by}
use Rattle.pcap_parts.proofs.Placing.{placed_first}
use Rattle.pcap_parts.proofs.Walking.{walked_first}
use Rattle.pcap_parts.proofs.cut_ng.cut_ng_by.Goals as goal

pub cut_blocks-requires-clause-walked : goal.cut_blocks-requires-clause-walked
cut_blocks-requires-clause-walked c =
    let none : c.new-2.result.items ≡ [] = search rules in
    rw none (walked_first c.args.bytes.now c.in_ok-after.after.now (state_of c.in_ok-after.parser) c.in_ok-after.ensures.tells)

pub returns-clause-cut : goal.returns-clause-cut
returns-clause-cut c = record {
  first = state_of c.in_ok-after.parser;
  after = c.in_ok-after.after.now;
  opens = c.in_ok-after.ensures.tells;
  cuts_are = c.in_ok-cuts.ensures.cuts;
  resume = c.in_ok-cuts.ensures.resume;
}

pub returns-clause-asked : goal.returns-clause-asked
returns-clause-asked c =
    ng_cut_by c.args.parting (state_of c.in_ok-after.parser) c.in_ok-after.after.now c.args.bytes.now c.in_ok-cuts.cuts.items c.in_ok-after.ensures.tells c.in_ok-cuts.ensures.asked

pub cut_blocks-requires-clause-placed : goal.cut_blocks-requires-clause-placed
cut_blocks-requires-clause-placed c =
    let none : c.new-2.result.items ≡ [] = search rules in
    rw none (placed_first c.args.bytes.now c.in_ok-after.after.now (state_of c.in_ok-after.parser) c.in_ok-after.ensures.tells)
