use Rattle.std.proofs.Common.{◌≡◌, ℕ, List, ◌++◌, length, refl, ap, ◌∙◌, arith}
use Rattle.std.specs.Int.{w32, cast_unsigned}
use Rattle.std.proofs.lemmas.Int.{to_z-of_z}
use Rattle.byteorder.specs.Endian.{big_bytes}
use Rattle.pcap_core.proofs.Filling.{filled_first, filled_next, filled_whole, seven}
use Rattle.pcap_classic.proofs.pcap.header.PcapHeader.to_bytes.Goals as goal

pub returns : goal.returns
returns g c =
    let bytes = g.B.ByteOrder.bytes_of in
    let wide : (w n : ℕ) → length (bytes w n) ≡ w = g.met.B.ByteOrder.length_bytes in
    let h = c.args.self.now in
    let bits = c.cast_unsigned.result in
    let link = c.into.result in
    let shown : ℕ → ℕ → List ℕ = λ n m. big_bytes 4 h.magic_number ++ (bytes 2 h.version_major ++ (bytes 2 h.version_minor ++ (bytes 4 n ++ (bytes 4 h.ts_accuracy ++ (bytes 4 h.snaplen ++ bytes 4 m))))) in
    let magic = filled_first (big_bytes 4 h.magic_number) _ c.write_u32.new.buf 4 20 refl refl c.write_u32.ensures in
    let major = filled_next _ (bytes 2 h.version_major) _ c.write_u16.new.buf 4 2 18 (wide 2 h.version_major) magic c.write_u16.ensures in
    let minor = filled_next _ (bytes 2 h.version_minor) _ c.write_u16-2.new.buf 6 2 16 (wide 2 h.version_minor) major c.write_u16-2.ensures in
    let correction = filled_next _ (bytes 4 bits) _ c.write_u32-2.new.buf 8 4 12 (wide 4 bits) minor c.write_u32-2.ensures in
    let accuracy = filled_next _ (bytes 4 h.ts_accuracy) _ c.write_u32-3.new.buf 12 4 8 (wide 4 h.ts_accuracy) correction c.write_u32-3.ensures in
    let snaplen = filled_next _ (bytes 4 h.snaplen) _ c.write_u32-4.new.buf 16 4 4 (wide 4 h.snaplen) accuracy c.write_u32-4.ensures in
    let whole = filled_next _ (bytes 4 link) _ c.write_u32-5.new.buf 20 4 0 (wide 4 link) snaplen c.write_u32-5.ensures in
    filled_whole _ _ 24 whole
    ∙ seven (big_bytes 4 h.magic_number) (bytes 2 h.version_major) (bytes 2 h.version_minor) (bytes 4 bits) (bytes 4 h.ts_accuracy) (bytes 4 h.snaplen) (bytes 4 link)
    ∙ ap (λ (n : ℕ). shown n link) (c.cast_unsigned.ensures ∙ ap (cast_unsigned w32) (to_z-of_z w32 h.ts_correction (omega arith))) ∙ ap (shown (cast_unsigned w32 h.ts_correction)) c.into.ensures
