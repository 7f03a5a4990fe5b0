use Rattle.std.proofs.Common.{◌+◌, [], refl, arith, inl, None, Some}
use Rattle.std.proofs.lemmas.Result.{err_from_is_err_and}
use Rattle.pcap_core.specs.Answer.{number_in}
use Rattle.pcap_items.specs.Format.{Format}
use Rattle.pcap_items.specs.Held.{held_bytes}
use Rattle.pcap_items.specs.Reading.{HasCause, TakesAsked}
use Rattle.pcap_classic.specs.Magic.{order_of, resolution_of}
use Rattle.pcap_classic.specs.PacketText.{Captured, packet_limit}
use Rattle.pcap_classic.specs.Packets.{format_under}
use Rattle.pcap_classic.proofs.Captures.{under_valid}
use Rattle.pcap_classic.proofs.HeadedPackets.{packets_lawful}
use Rattle.pcap_classic.proofs.Packets.{reader_lawful, reader_whole}
use Rattle.pcapfile_run.proofs.Passing.{packet_long}
use Rattle.pcapfile_info.specs.declared.seen.Sight.TheVariants.{Packet}
use Rattle.pcapfile_info.specs.Sights.{IsPacketSight, captured_seen}
use Rattle.pcapfile_info.specs.Telling.{KeepsTotals}
use Rattle.pcapfile_info.specs.Totals.{AllAre}
use Rattle.pcapfile_info.proofs.Turns.{ends_here, goes_more}
use Rattle.pcapfile_info.proofs.passing.pass_held.Goals as goal

pub fill_item-requires-clause-lawful : goal.fill_item-requires-clause-lawful
fill_item-requires-clause-lawful g c = reader_lawful packet_limit c.args.header.now

pub returns-in_err-head-clause-turn : goal.returns-in_err-head-clause-turn
returns-in_err-head-clause-turn g c =
    let p = err_from_is_err_and c.from_residual.result c.from_residual.ensures.1 in
    let header = c.args.header.now in
    let before = g.R.Read.remaining c.args.input.now in
    let after = g.R.Read.remaining c.fill_item.new.stream in
    let e = c.in_err-head.field-0.0 in
    let pulls = under_valid packet_limit header c.requires.valid (λ (f : Format (Unit {0}) Captured). HasCause (f.says tt) before c.fill_item.new.has_failed e × TakesAsked (f.says tt) before after) c.in_err-head.ensures.fills in
    rw (p.1, p.2) (ends_here (format_under packet_limit header) IsPacketSight 1 (KeepsTotals AllAre) (λ fault. KeepsTotals AllAre) tt before after _ 18446744073709551614 c.args.progress.now (Some e) (omega (arith, c.requires.fewer)) (c.requires.fewer, pulls.0, pulls.1) (λ q items sights kept. kept))

pub returns-in_default-clause-turn : goal.returns-in_default-clause-turn
returns-in_default-clause-turn g c =
    let filled = rw c.in_default.is at c.in_ok-head.ensures.fills in
    ends_here (format_under packet_limit c.args.header.now) IsPacketSight 1 (KeepsTotals AllAre) (λ fault. KeepsTotals AllAre) tt (g.R.Read.remaining c.args.input.now) (g.R.Read.remaining c.fill_item.new.stream) _ 18446744073709551614 c.args.progress.now None (omega (arith, c.requires.fewer)) (filled.0, filled.3, inl filled.2) (λ q items sights kept. kept)

pub returns-clause-turn : goal.returns-clause-turn
returns-clause-turn g c =
    let header = c.args.header.now in
    let before = g.R.Read.remaining c.args.input.now in
    let after = g.R.Read.remaining c.fill_item.new.stream in
    let held = held_bytes c.fill_item.new.held in
    let filled = rw c.in-Some.is at c.in_ok-head.ensures.fills in
    let added = rw c.as_slice.ensures at c.add_held.ensures.adds in
    let packet = added.0 in
    let adds = added.2 in (
      filled.0,
      goes_more (format_under packet_limit header) IsPacketSight 1 (KeepsTotals AllAre) (packets_lawful packet_limit (number_in (order_of header.magic_number)) (resolution_of header.magic_number)) tt tt before after c.args.progress.now c.add_held.new.progress (16 + packet.header.incl_len) packet
          (Packet (captured_seen packet)) (held, (reader_whole packet_limit header held [] packet added.1).1, filled.4) refl (packet_long header held packet added.1) (λ q items sights kept. (refl, adds.2 sights kept)) adds.0 adds.1,
    )
