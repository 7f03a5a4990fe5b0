use Rattle.std.proofs.Common.{◌≡◌, ℕ, length}
use Rattle.pcapfile_values.proofs.Puts.{puts_both}
use Rattle.pcapfile_values.proofs.texts.put_packet_head.Goals as goal

pub returns-clause-put : goal.returns-clause-put
returns-clause-put g c =
    let wide : (n : ℕ) → length (g.B.ByteOrder.bytes_of 4 n) ≡ 4 = g.met.B.ByteOrder.length_bytes 4 in
    puts_both 4 (wide 6) c.put_u32-len_at.ensures.behind c.put_u32-len_at.ensures.put
    (puts_both 4 (wide _) c.put_u32-interface_at.ensures.behind c.put_u32-interface_at.ensures.put
    (puts_both 4 (wide _) c.put_u32-high_at.ensures.behind c.put_u32-high_at.ensures.put
    (puts_both 4 (wide _) c.put_u32-low_at.ensures.behind c.put_u32-low_at.ensures.put
    (puts_both 4 (wide _) c.put_u32-captured_at.ensures.behind c.put_u32-captured_at.ensures.put
    (puts_both 4 (wide _) c.put_u32-original_at.ensures.behind c.put_u32-original_at.ensures.put c.put_u32.ensures.put)))))
