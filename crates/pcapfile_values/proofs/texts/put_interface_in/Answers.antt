use Rattle.std.proofs.Common.{ℕ, List, subst}
use Rattle.pcapfile_values.specs.BlockTexts.{PutsAt, clock_len}
use Rattle.pcapfile_values.proofs.Puts.{puts_both}
use Rattle.pcapfile_values.proofs.Parts.{pair_long, clock_long, interface_parts}
use Rattle.pcapfile_values.proofs.texts.put_interface_in.Goals as goal

pub returns : goal.returns
returns g c =
    let write = g.B.ByteOrder.bytes_of in
    let wide = g.met.B.ByteOrder.length_bytes in
    let i = c.args.interface.now in
    let len = c.interface_len-len.result in
    let put = puts_both 4 (wide 4 1) c.put_u32-len_at.ensures.behind c.put_u32-len_at.ensures.put
    (puts_both 4 (wide 4 len) c.put_u32-link_at.ensures.behind c.put_u32-link_at.ensures.put
    (puts_both 4 (pair_long write wide c.from.result 0) c.put_pair-snaplen_at.ensures.behind c.put_pair-snaplen_at.ensures.put
    (puts_both 4 (wide 4 i.snaplen) c.put_u32-options_at.ensures.behind c.put_u32-options_at.ensures.put
    (puts_both (clock_len c.offset_bits.result) (clock_long write wide c.resolution.result c.offset_bits.result) c.put_clock-len_again_at.ensures.behind c.put_clock-len_again_at.ensures.put c.put_u32.ensures.put)))) in
    subst (λ (text : List ℕ). PutsAt 0 text c.args.room.now c.put_u32.new.room)
    (interface_parts write wide c.args.link i len c.from.result c.resolution.result c.offset_bits.result c.interface_len-len.ensures c.from.ensures c.resolution.ensures c.offset_bits.ensures) put
