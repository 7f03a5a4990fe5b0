use Rattle.std.proofs.Common.{refl}
use Rattle.pcap_items.proofs.Fronts.{said_not_refused}
use Rattle.pcap_classic.specs.Parser.{header_of}
use Rattle.pcap_tolerant.specs.AsIs.{as_it_is, as_is_format}
use Rattle.pcap_tolerant.specs.Run.{as_is_under}
use Rattle.pcap_tolerant.proofs.KnownPackets.{under_lawful}
use Rattle.pcap_tolerant.proofs.copy.PacketsAsIsHolding.pass.Goals as goal

pub returns-in-Ok : goal.returns-in-Ok
unfolding as_is_format
returns-in-Ok c = record { item = as_it_is c.in-Ok._packet; text = c.in-Ok.ensures.tells; leaves = tt; stays = refl }

pub returns-in-Err : goal.returns-in-Err
unfolding as_is_format
returns-in-Err c =
    let header = header_of c.args.self.now.parser.now in
    let f = as_is_under c.args.self.now.limit header in
    λ packet after text leaves. said_not_refused (f.says tt c.args.bytes.now) ((under_lawful c.args.self.now.limit header).one tt c.args.bytes.now) packet after text c.in-Err._error c.in-Err.ensures.tells
