use Rattle.std.proofs.Common.{◌≡◌, ◌/◌, ◌%◌, ◌^◌, ◌++◌, ℕ, List, append_assoc, ap, arith, length, length-append, sym, ◌∙◌}
use Rattle.pcapfile_values.proofs.Puts.{puts_all, puts_both}
use Rattle.pcapfile_values.proofs.texts.packet_head_in.Goals as goal

pub returns : goal.returns
returns g c =
    let write = g.B.ByteOrder.bytes_of 4 in
    let wide : (n : ℕ) → length (write n) ≡ 4 = g.met.B.ByteOrder.length_bytes 4 in
    let p = c.args.packet.now in
    let id = write p.interface_id in
    let high = write (p.timestamp / 2 ^ 32) in
    let low = write (p.timestamp % 2 ^ 32) in
    let lengths : List ℕ = write (length p.bytes.now) ++ write p.orig_len in
    let put = puts_both 4 (wide _) c.put_u32-high_at.ensures.behind c.put_u32-high_at.ensures.put
    (puts_both 4 (wide _) c.put_u32-low_at.ensures.behind c.put_u32-low_at.ensures.put
    (puts_both 4 (wide _) c.put_u32-captured_at.ensures.behind c.put_u32-captured_at.ensures.put
    (puts_both 4 (wide _) c.put_u32-original_at.ensures.behind c.put_u32-original_at.ensures.put c.put_u32.ensures.put))) in
    let long : length (id ++ (high ++ (low ++ lengths))) ≡ 20 =
    omega (arith, length-append id (high ++ (low ++ lengths)), length-append high (low ++ lengths), length-append low lengths, length-append (write (length p.bytes.now)) (write p.orig_len), wide p.interface_id, wide (p.timestamp / 2 ^ 32), wide (p.timestamp % 2 ^ 32), wide (length p.bytes.now), wide p.orig_len) in
    puts_all put long ∙ ap (λ (l : List ℕ). id ++ l) (sym (append_assoc high low lengths))
