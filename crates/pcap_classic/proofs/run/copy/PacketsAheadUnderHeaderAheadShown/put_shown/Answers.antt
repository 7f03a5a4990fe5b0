use Rattle.std.proofs.Common.{◌-◌, length, arith}
use Rattle.pcap_classic.specs.Written.{written_under}
use Rattle.pcap_classic.proofs.Stretched.{sends_within, sends_shown}
use Rattle.pcap_classic.proofs.run.copy.PacketsAheadUnderHeaderAheadShown.put_shown.Goals as goal

pub overflow_sub-used : goal.overflow_sub-used
overflow_sub-used g c = sends_within c.args.self.now.header (written_under c.args.self.now.puts.out) _ _ _ _ _ _ _ _ c.put_front-packets.result.fault c.put_front-packets.ensures

pub returns-clause-sends : goal.returns-clause-sends
returns-clause-sends g c =
    let header = c.args.self.now.header in
    let out = c.args.self.now.puts.out in
    let shown = c.args.shown.now in
    let rest = c.put_front-packets.result.rest.now in
    let within = sends_within header (written_under out) _ _ _ _ _ _ _ _ c.put_front-packets.result.fault c.put_front-packets.ensures in
    sends_shown header out shown rest _ _ _ (length shown - length rest) (omega (arith, within)) c.args.most _ _ c.put_front-packets.result.fault c.put_front-packets.ensures
