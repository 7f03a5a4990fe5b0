use Rattle.std.proofs.Common.{length, map, refl, ap, arith, length-append}
use Rattle.pcap_items.specs.Items.{ShowsFault}
use Rattle.pcap_items.proofs.Items.{ended_no_text, ended_rest}
use Rattle.pcap_ng.specs.Blocks.{block_format}
use Rattle.pcap_ng.specs.Frames.{framed_of}
use Rattle.pcap_ng.specs.Parser.{state_of}
use Rattle.pcap_ng.proofs.BlockFormat.{blocks_lawful}
use Rattle.pcap_ng.proofs.FedBlocks.{first_opening}
use Rattle.pcap_ng.proofs.Running.{run_front}
use Rattle.pcap_ng.proofs.run.parse_pcapng.Goals as goal

pub parse_items-requires : goal.parse_items-requires
parse_items-requires c = λ k. ((refl, tt), blocks_lawful)

pub returns-clause-front : goal.returns-clause-front
returns-clause-front c =
    let first = state_of c.in_ok-after_first.parser in
    let last = state_of c.parse_items.new.parser in
    let bytes = c.args.bytes.now in
    let after = c.in_ok-after_first.after_first.now in
    let run = c.in_ok-run.run' in
    let front = c.in_ok-run.ensures.front in
    let text = c.in_ok-after_first.ensures.tells in
    let opened = first_opening.ends bytes after first text in
    record {
      left = front.left;
      front = run_front first last (map framed_of run.items.items) bytes after front.left text front.leads (ended_no_text block_format blocks_lawful ShowsFault last front.left run.ended front.ends);
      used = omega (arith, front.used_is, ap length opened.1, length-append opened.0 after);
      rest = rw c.from.ensures (ended_rest (block_format.says last) front.left run.ended front.ends);
    }
