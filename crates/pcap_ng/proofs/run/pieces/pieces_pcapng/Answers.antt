use Rattle.std.proofs.Common.{[]}
use Rattle.pcap_items.specs.Pieces.{HoldsItems, joined_pieces}
use Rattle.pcap_items.proofs.Pieces.{after_each_more}
use Rattle.pcap_ng.specs.declared.run.NgRun.{NgRun}
use Rattle.pcap_ng.specs.Blocks.{block_format}
use Rattle.pcap_ng.specs.Opening.{OpeningSays}
use Rattle.pcap_ng.specs.Pieces.{HoldsBlocks}
use Rattle.pcap_ng.proofs.BlockFormat.{blocks_lawful}
use Rattle.pcap_ng.proofs.FedBlocks.{first_opening, holds_blocks, fed_run}
use Rattle.pcap_ng.proofs.run.pieces.pieces_pcapng.Goals as goal

pub feed_pieces-requires-clause-lawful : goal.feed_pieces-requires-clause-lawful
feed_pieces-requires-clause-lawful c = blocks_lawful

pub feed_pieces-requires-clause-opening : goal.feed_pieces-requires-clause-opening
feed_pieces-requires-clause-opening c = first_opening

pub returns-clause-run : goal.returns-clause-run
returns-clause-run c =
    let fed = c.in_ok-fed.fed in
    let run : NgRun = record { blocks = fed.items; parser = fed.parser; used = fed.used; rest = fed.rest } in
    fed_run (joined_pieces c.args.pieces.now) run c.in_ok-fed.ensures.fed

pub returns-clause-numbers : goal.returns-clause-numbers
returns-clause-numbers c = after_each_more (HoldsItems OpeningSays block_format) HoldsBlocks holds_blocks [] c.args.pieces.now _ c.in_ok-fed.ensures.numbers
