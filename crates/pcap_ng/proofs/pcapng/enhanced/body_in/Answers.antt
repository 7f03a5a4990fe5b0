use Rattle.std.proofs.Common.{◌≡◌, [], inr, refl, rules}
use Rattle.std.proofs.lemmas.List.{nil_from_length}
use Rattle.pcap_options.specs.Options.{with_body}
use Rattle.pcap_ng.specs.Enhanced.{enhanced_with}
use Rattle.pcap_ng.proofs.EnhancedFrames.{no_room_refused, parts_read}
use Rattle.pcap_ng.proofs.pcapng.enhanced.body_in.Goals as goal

pub returns-in_err-parts : goal.returns-in_err-parts
returns-in_err-parts g c = rw c.from_residual.ensures (inr (no_room_refused g.B.ByteOrder.number_of c.args.body.now c.in_err-parts.ensures))

pub returns : goal.returns
returns g c =
    let parts = c.in_ok-parts.parts in
    let none : parts.options.now ≡ [] = nil_from_length _ (search rules) in
    let text = parts_read g.B.ByteOrder.number_of parts c.args.body.now c.in_ok-parts.ensures [] parts.options.now (with_body none tt none) in
    (enhanced_with parts [], parts.options.now, text, record { interface_is = refl; units_are = refl; stored_is = refl; original_is = refl })
