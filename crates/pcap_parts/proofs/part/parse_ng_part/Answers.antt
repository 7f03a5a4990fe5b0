use Rattle.std.proofs.Common.{map, refl, sym, subst}
use Rattle.pcap_items.specs.Items.{ShowsFault}
use Rattle.pcap_items.specs.Run.{IsRest}
use Rattle.pcap_items.proofs.Items.{ended_rest, leads_front}
use Rattle.pcap_ng.specs.Blocks.{Item, block_format}
use Rattle.pcap_ng.specs.Frames.{framed_of}
use Rattle.pcap_ng.specs.Parser.{state_of}
use Rattle.pcap_ng.specs.State.{State}
use Rattle.pcap_ng.proofs.BlockFormat.{blocks_lawful}
use Rattle.pcap_parts.proofs.part.parse_ng_part.Goals as goal

pub parse_items-requires : goal.parse_items-requires
parse_items-requires c = λ k. ((refl, tt), blocks_lawful)

pub returns-clause-runs : goal.returns-clause-runs
returns-clause-runs c =
    let q = state_of c.args.parser in
    let last = state_of c.parse_items.new.parser in
    let run = c.in_ok-run.run' in
    let front = c.in_ok-run.ensures.front in
    let leads = front.leads in
    let rest : IsRest (block_format.says last) front.left c.from.result = rw c.from.ensures (ended_rest (block_format.says last) front.left run.ended front.ends) in
    record {
      items = leads.values;
      blocks = leads.parts;
      leads = leads.state_is;
      runs = record {
        left = front.left;
        front = leads_front block_format blocks_lawful (λ (item : Item). item.block) ShowsFault q last (map framed_of run.items.items) c.args.part.now front.left run.ended leads front.ends;
        used_is = front.used_is;
        rest = subst (λ (p : State). IsRest (block_format.says p) front.left c.from.result) (sym leads.state_is) rest;
      };
    }
