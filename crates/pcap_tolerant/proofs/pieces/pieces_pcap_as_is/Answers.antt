use Rattle.std.proofs.Common.{[]}
use Rattle.pcap_items.specs.Pieces.{HoldsItems, joined_pieces}
use Rattle.pcap_items.proofs.Pieces.{after_each_more}
use Rattle.pcap_tolerant.specs.declared.pieces.OwnedRunAsIs.{OwnedRunAsIs}
use Rattle.pcap_tolerant.specs.Pieces.{HoldsAsIs, OpensUnder}
use Rattle.pcap_tolerant.specs.Run.{any_as_is}
use Rattle.pcap_tolerant.proofs.Runs.{any_lawful}
use Rattle.pcap_tolerant.proofs.FedPackets.{fed_run, holds_as_is, under_opening}
use Rattle.pcap_tolerant.proofs.pieces.pieces_pcap_as_is.Goals as goal

pub feed_pieces-requires-clause-lawful : goal.feed_pieces-requires-clause-lawful
feed_pieces-requires-clause-lawful c = any_lawful

pub feed_pieces-requires-clause-opening : goal.feed_pieces-requires-clause-opening
feed_pieces-requires-clause-opening c = under_opening c.args.limit

pub returns-clause-run : goal.returns-clause-run
returns-clause-run c =
    let fed = c.in_ok-fed.fed in
    let run : OwnedRunAsIs = record { header = c.header.result.now; packets = fed.items; used = fed.used; rest = fed.rest } in
    fed_run c.args.limit (joined_pieces c.args.pieces.now) fed.parser run c.in_ok-fed.ensures.fed c.header.ensures

pub returns-clause-numbers : goal.returns-clause-numbers
returns-clause-numbers c =
    after_each_more (HoldsItems (OpensUnder c.args.limit) any_as_is) (HoldsAsIs c.args.limit) (holds_as_is c.args.limit) [] c.args.pieces.now _ c.in_ok-fed.ensures.numbers
