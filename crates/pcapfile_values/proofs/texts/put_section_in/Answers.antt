use Rattle.std.proofs.Common.{ℕ, List, subst}
use Rattle.pcap_core.specs.declared.common.Endianness.TheVariants.{Big}
use Rattle.pcap_core.proofs.Codec.{codec}
use Rattle.pcapfile_values.specs.BlockTexts.{PutsAt}
use Rattle.pcapfile_values.proofs.Puts.{puts_both}
use Rattle.pcapfile_values.proofs.Parts.{pair_long, section_parts}
use Rattle.pcapfile_values.proofs.texts.put_section_in.Goals as goal

pub returns : goal.returns
returns g c =
    let write = g.B.ByteOrder.bytes_of in
    let wide = g.met.B.ByteOrder.length_bytes in
    let put = puts_both 4 (wide 4 0x0A0D0D0A) c.put_u32-len_at.ensures.behind c.put_u32-len_at.ensures.put
    (puts_both 4 (wide 4 28) c.put_u32-magic_at.ensures.behind c.put_u32-magic_at.ensures.put
    (puts_both 4 ((codec Big).wide 4 c.args.section.now.magic_number) c.put_u32-version_at.ensures.behind c.put_u32-version_at.ensures.put
    (puts_both 4 (pair_long write wide c.args.section.now.version_major c.args.section.now.version_minor) c.put_pair-length_at.ensures.behind c.put_pair-length_at.ensures.put
    (puts_both 8 (wide 8 18446744073709551615) c.put_u64-len_again_at.ensures.behind c.put_u64-len_again_at.ensures.put c.put_u32.ensures.put)))) in
    subst (λ (text : List ℕ). PutsAt 0 text c.args.room.now c.put_u32.new.room) (section_parts write wide c.args.section.now) put
