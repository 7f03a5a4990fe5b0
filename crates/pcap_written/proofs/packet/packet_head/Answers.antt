use Rattle.std.proofs.Common.{◌≡◌, ℕ, length, refl, ◌∙◌}
use Rattle.pcap_core.proofs.Filling.{filled_first, filled_next, filled_whole, four}
use Rattle.pcap_written.proofs.packet.packet_head.Goals as goal

pub returns : goal.returns
returns g c =
    let write = g.B.ByteOrder.bytes_of 4 in
    let wide : (n : ℕ) → length (write n) ≡ 4 = g.met.B.ByteOrder.length_bytes 4 in
    let a = c.args in
    let high = filled_first (write a.high) _ c.write_u32.new.buf 4 12 (wide a.high) refl c.write_u32.ensures in
    let low = filled_next _ (write a.low) _ c.write_u32-2.new.buf 4 4 8 (wide a.low) high c.write_u32-2.ensures in
    let captured = filled_next _ (write a.captured_len) _ c.write_u32-3.new.buf 8 4 4 (wide a.captured_len) low c.write_u32-3.ensures in
    let original = filled_next _ (write a.original_len) _ c.write_u32-4.new.buf 12 4 0 (wide a.original_len) captured c.write_u32-4.ensures in
    filled_whole _ _ 16 original ∙ four (write a.high) (write a.low) (write a.captured_len) (write a.original_len)
