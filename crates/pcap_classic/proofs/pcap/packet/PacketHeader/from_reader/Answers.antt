use Rattle.std.proofs.Common.{◌≡◌, ◌∙◌, length, arith, false, refl}
use Rattle.std.proofs.lemmas.Result.{err_from_is_err_and}
use Rattle.pcap_core.specs.Answer.{faulty}
use Rattle.pcap_core.specs.Faults.{Shows}
use Rattle.pcap_classic.specs.PacketText.{packet_limit, PacketHeaderSays, LacksHead}
use Rattle.pcap_core.proofs.Refusals.{refuses_shows}
use Rattle.pcap_classic.proofs.Stable.{packet_header_stable}
use Rattle.pcap_items.proofs.Pulling.{array_told, array_refused, told_refuses}
use Rattle.pcap_classic.proofs.pcap.packet.PacketHeader.from_reader.Goals as goal

pub returns-in_err-fill_array : goal.returns-in_err-fill_array
returns-in_err-fill_array g c =
    let says = PacketHeaderSays packet_limit g.B.ByteOrder.number_of c.args.ts_resolution in
    let stable = packet_header_stable packet_limit g.B.ByteOrder.number_of c.args.ts_resolution in
    let p = err_from_is_err_and c.from_residual.result c.from_residual.ensures.1 in
    let e = c.in_err-fill_array.field-0.0 in
    let long : length c.fill_array.new.array ≡ 16 = omega (arith, c.fill_array.auto.array) in
    let after = g.R.Read.remaining c.fill_array.new.stream in
    rw (p.1, p.2) (told_refuses says stable ⊥ (λ header. header) e _ after _
    (array_told says stable (λ header. header) 16 (λ s n sum some. record { some = some; missing = sum }) e _ after _ _ refl (rw long at c.in_err-fill_array.ensures)))

pub returns-in_err-header : goal.returns-in_err-header
returns-in_err-header g c =
    let says = PacketHeaderSays packet_limit g.B.ByteOrder.number_of c.args.ts_resolution in
    let stable = packet_header_stable packet_limit g.B.ByteOrder.number_of c.args.ts_resolution in
    let bytes = c.fill_array.new.array in
    let long : length bytes ≡ 16 = omega (arith, c.fill_array.auto.array) in
    let p = err_from_is_err_and c.from_residual-in_err-header.result c.from_residual-in_err-header.ensures.1 in
    let e = c.in_err-header.field-0.0 in
    let shows : Shows (λ fault. says bytes (faulty fault)) e =
    refuses_shows (LacksHead bytes) (λ fault. says bytes (faulty fault)) e (λ n lack. omega (arith, long, lack.some, lack.missing)) c.in_err-header.ensures.tells in
    rw (p.1, p.2) (told_refuses says stable ⊥ (λ header. header) e _ (g.R.Read.remaining c.fill_array.new.stream) false
    (array_refused says stable (λ header. header) e bytes (omega (arith, long)) (λ s n sum some. record { some = some; missing = sum ∙ long }) shows _ (g.R.Read.remaining c.fill_array.new.stream) false refl c.in_ok-fill_array.ensures.1))
