use Rattle.std.proofs.Common.{◌≡◌, ◌+◌, ℕ, List, arith, length, refl, subst, sym}
use Rattle.pcap_core.specs.Padded.{up_to_4}
use Rattle.pcapfile_values.specs.BlockTexts.{PutsAt}
use Rattle.pcapfile_c.specs.PutParts.{parts_body, tail_bytes}
use Rattle.pcapfile_values.proofs.Puts.{puts_both}
use Rattle.pcapfile_c.proofs.PutParts.{block_parts, body_long, padded_long}
use Rattle.pcapfile_c.proofs.parts.put_block.Goals as goal

pub returns : goal.returns
returns g c =
    let write = g.B.ByteOrder.bytes_of in
    let wide = g.met.B.ByteOrder.length_bytes in
    let p = c.args.parts in
    let len = c.args.len in
    let whole : len ≡ length (parts_body write p) + 12 = omega (arith, c.requires.len, body_long write wide p) in
    let put = puts_both 4 (wide 4 p.type_) c.put_u32-len_at.ensures.behind c.put_u32-len_at.ensures.put
    (puts_both 4 (wide 4 len) c.put_u32-head_at.ensures.behind c.put_u32-head_at.ensures.put
    (puts_both (length p.head.now) refl c.put_bytes-data_at.ensures.behind c.put_bytes-data_at.ensures.put
    (puts_both (up_to_4 (length p.data_.now)) (padded_long p.data_.now) c.put_padded-options_at.ensures.behind c.put_padded-options_at.ensures.put
    (puts_both (length (tail_bytes write p.clocked p.options.now)) refl c.put_list-len_again_at.ensures.behind c.put_list-len_again_at.ensures.put c.put_u32.ensures.put)))) in
    subst (λ (text : List ℕ). PutsAt 0 text c.args.room.now c.put_u32.new.room) (block_parts write wide p len whole) put
