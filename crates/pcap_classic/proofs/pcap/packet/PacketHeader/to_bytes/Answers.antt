use Rattle.std.proofs.Common.{◌≡◌, ℕ, ◌++◌, length, refl, ap, ◌∙◌}
use Rattle.pcap_core.proofs.Filling.{filled_first, filled_next, filled_whole, four}
use Rattle.pcap_classic.proofs.pcap.packet.PacketHeader.to_bytes.Goals as goal

pub returns : goal.returns
returns g c =
    let bytes = g.B.ByteOrder.bytes_of in
    let wide : (n : ℕ) → length (bytes 4 n) ≡ 4 = g.met.B.ByteOrder.length_bytes 4 in
    let h = c.args.self.now in
    let fraction = c.fraction.result in
    let a = filled_first (bytes 4 h.ts_sec) _ c.write_u32.new.buf 4 12 (wide h.ts_sec) refl c.write_u32.ensures in
    let b = filled_next _ (bytes 4 fraction) _ c.write_u32-2.new.buf 4 4 8 (wide fraction) a c.write_u32-2.ensures in
    let d = filled_next _ (bytes 4 h.incl_len) _ c.write_u32-3.new.buf 8 4 4 (wide h.incl_len) b c.write_u32-3.ensures in
    let e = filled_next _ (bytes 4 h.orig_len) _ c.write_u32-4.new.buf 12 4 0 (wide h.orig_len) d c.write_u32-4.ensures in
    filled_whole _ _ 16 e ∙ four (bytes 4 h.ts_sec) (bytes 4 fraction) (bytes 4 h.incl_len) (bytes 4 h.orig_len)
    ∙ ap (λ (n : ℕ). bytes 4 h.ts_sec ++ (bytes 4 n ++ (bytes 4 h.incl_len ++ bytes 4 h.orig_len))) c.fraction.ensures
