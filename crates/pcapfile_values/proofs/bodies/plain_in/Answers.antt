use Rattle.std.proofs.Common.{refl}
use Rattle.pcap_ng.specs.Enhanced.{enhanced_with}
use Rattle.pcap_ng.proofs.EnhancedFrames.{no_room_refused, parts_read}
use Rattle.pcapfile_values.proofs.Plain.{options_not_plain, refused_not_plain}
use Rattle.pcapfile_values.proofs.bodies.plain_in.Goals as goal

pub returns-in_err-parts : goal.returns-in_err-parts
returns-in_err-parts g c =
    let order = g.B.ByteOrder.number_of in
    let body = c.args.body.now in
    rw c.from_residual.ensures (refused_not_plain order body (no_room_refused order body c.in_err-parts.ensures))

pub returns-in_err-_behind : goal.returns-in_err-_behind
returns-in_err-_behind g c =
    let parts = c.in_ok-parts in
    rw c.from_residual-in_err-_behind.ensures (options_not_plain g.B.ByteOrder.number_of parts.parts c.args.body.now parts.ensures c.in_err-_behind.ensures)

pub returns : goal.returns
returns g c =
    let parts = c.in_ok-parts.parts in
    let behind = c.in_ok-_behind._behind.now in
    let options = c.in_ok-_behind.ensures in (
      enhanced_with parts options.0,
      behind,
      record { type_is = refl; interface_is = refl; timestamp_is = refl; original_is = refl; bytes_are = refl },
      record { text = parts_read g.B.ByteOrder.number_of parts c.args.body.now c.in_ok-parts.ensures options.0 behind options.1.list; passed = options.1.passed },
    )
