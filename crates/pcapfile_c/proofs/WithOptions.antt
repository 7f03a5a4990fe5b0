-- The results of the calls that write blocks with options, and blocks of bytes.
use Rattle.std.proofs.Common.{◌≡◌, ◌≢◌, ℕ, ℤ, ◌+◌, ◌<◌, ◌≤◌, ◌^◌, List, [], ◌++◌, length, refl, sym, ap, subst, ◌∙◌, append-nil, length-append, arith, pos, w32, to_z, of_z}
use Rattle.std.specs.Prelude.{true, false, Some, Any, FitsSigned}
use Rattle.std.specs.Borrow.{Bor}
use Rattle.std.specs.Int.{w64, cast_unsigned}
use Rattle.pcap_core.specs.declared.common.Endianness.{Endianness}
use Rattle.pcap_core.specs.declared.link.DataLink.{DataLink}
use Rattle.pcap_core.specs.Codec.{number_bytes}
use Rattle.pcap_core.specs.Link.{Link}
use Rattle.pcap_core.specs.Padded.{up_to_4}
use Rattle.pcap_core.proofs.Codec.{codec}
use Rattle.pcap_blocks.specs.declared.block_type.BlockType.{BlockType}
use Rattle.pcap_blocks.specs.declared.block_type.BlockType.TheVariants as types
use Rattle.pcap_blocks.specs.BlockType.{block_type}
use Rattle.pcap_blocks.specs.SectionHeader.{magic_order}
use Rattle.pcap_written.specs.Bodies.{block_text, body_text, packet_head_text}
use Rattle.pcap_written.specs.Text.{padded_bytes}
use Rattle.pcap_written.proofs.Packets.{plain_length}
use Rattle.pcap_ng.specs.State.{is_kept}
use Rattle.pcapfile_values.specs.declared.blocks.PcapfileBlock.{PcapfileBlock}
use Rattle.pcapfile_values.specs.declared.blocks.PcapfileSection.{PcapfileSection}
use Rattle.pcapfile_values.specs.declared.bodies.PcapfileInterface.{PcapfileInterface}
use Rattle.pcapfile_values.specs.declared.bodies.PcapfileNgPacket.{PcapfileNgPacket}
use Rattle.pcapfile_values.specs.declared.errors.PcapfileError.{PcapfileError}
use Rattle.pcapfile_values.specs.declared.reasons.Reason.TheVariants.{BlockTooLong}
use Rattle.pcapfile_values.specs.BlockTexts.{clock_len, packet_block, section_block}
use Rattle.pcapfile_values.proofs.Parts.{section_long}
use Rattle.pcapfile_c.specs.declared.options.PcapfileOption.{PcapfileOption}
use Rattle.pcapfile_c.specs.declared.parts.Parts.{Parts}
use Rattle.pcapfile_c.specs.PutParts.{IsFitParts, IsUnlisted, PutsParts, list_bytes, parts_body, parts_text, tail_bytes}
use Rattle.pcapfile_c.specs.Putting.{BytesFlaw, InterfaceWithFlaw, IsTextOf, PacketWithFlaw, PutsBlock, SectionWithFlaw}
use Rattle.pcapfile_c.specs.Putting.{a_block, a_packet_with, a_section_with, an_interface_with, interface_front}
use Rattle.pcapfile_c.specs.Readers.{block_writer, writer}
use Rattle.pcapfile_c.proofs.Fitting.{parts_done, parts_kept, parts_same}
use Rattle.pcapfile_c.proofs.PutParts.{padded_long}
use Rattle.pcapfile_c.proofs.RawFitting.{block_is_text, front_long, interface_with_is_text, packet_body, packet_with_is_text, section_with_is_text}

-- The parts of a section header.
abbrev pub section_parts : Bor (List ℕ) → Bor (List ℕ) → Bor (List PcapfileOption) → Parts
section_parts head d o = record { type_ = 0x0A0D0D0A; head = head; data_ = d; options = o; clocked = false }

module _ (e : Endianness) (s : PcapfileSection) (o : Bor (List PcapfileOption)) {head d : Bor (List ℕ)} (room now : List ℕ) (before after : ℕ) (error told : PcapfileError) (z : ℤ)
    (puts : PutsParts (number_bytes e) (section_parts head d o) (writer room before error) (writer now after told) z)
    (none : padded_bytes d.now ≡ []) (is : head.now ≡ body_text (number_bytes e) (section_block s)) (order : magic_order s.magic_number ≡ Some e) where
  section_body : parts_body (number_bytes e) (section_parts head d o) ≡ body_text (number_bytes e) (section_block s) ++ list_bytes (number_bytes e) o.now
  section_body =
      let list = list_bytes (number_bytes e) o.now in
      ap (λ (pad : List ℕ). head.now ++ (pad ++ list)) none ∙ ap (λ (h : List ℕ). h ++ list) is

  section_text : IsFitParts (number_bytes e) (section_parts head d o) → IsTextOf (a_section_with s o.now) s (record s { interfaces = 0 }) (parts_text (number_bytes e) (section_parts head d o))
  section_text fit = section_with_is_text e s o.now (parts_body (number_bytes e) (section_parts head d o)) order section_body fit.listed fit.short

  section_too_long : 2 ^ 32 ≤ length (parts_body (number_bytes e) (section_parts head d o)) + 12 → SectionWithFlaw s o.now BlockTooLong
  section_too_long big =
      let front = body_text (number_bytes e) (section_block s) in
      (e, omega (arith, big, ap length section_body, length-append front (list_bytes (number_bytes e) o.now), section_long (number_bytes e) (codec e).wide s))

  pub section_kept : (of_z w32 z ≡ 0 → ⊥) → PutsBlock (SectionWithFlaw s o.now) (a_section_with s o.now) (block_writer s room before error) (block_writer s now after told) (to_z w32 (of_z w32 z))
  section_kept not =
      parts_kept (SectionWithFlaw s o.now) (a_section_with s o.now) s (record s { interfaces = 0 }) e (section_parts head d o) room now before after error told z section_text puts section_too_long (λ (x : Any (IsUnlisted false) o.now). x) not

  pub section_done : of_z w32 z ≡ 0 → PutsBlock (SectionWithFlaw s o.now) (a_section_with s o.now) (block_writer s room before error) (block_writer (record s { interfaces = 0 }) now after told) (pos 0)
  section_done done = parts_done (SectionWithFlaw s o.now) (a_section_with s o.now) s (record s { interfaces = 0 }) e (section_parts head d o) room now before after error told z section_text puts done

-- The parts of the description of an interface.
abbrev pub interface_parts : Bor (List ℕ) → Bor (List ℕ) → Bor (List PcapfileOption) → Parts
interface_parts head d o = record { type_ = 1; head = head; data_ = d; options = o; clocked = true }

module _ (e : Endianness) (link : DataLink) (s : PcapfileSection) (i : PcapfileInterface) (o : Bor (List PcapfileOption)) {head d : Bor (List ℕ)} (room now : List ℕ) (before after : ℕ) (error told : PcapfileError) (z : ℤ)
    (puts : PutsParts (number_bytes e) (interface_parts head d o) (writer room before error) (writer now after told) z)
    (none : padded_bytes d.now ≡ []) (is : head.now ≡ interface_front (number_bytes e) link i) (order : magic_order s.magic_number ≡ Some e)
    (link_is : Link i.link link) (exponent : i.ts_exponent < 128) (offset : FitsSigned w64 i.ts_offset) (places : s.interfaces + 1 < 2 ^ 32) where
  interface_body : parts_body (number_bytes e) (interface_parts head d o) ≡ interface_front (number_bytes e) link i ++ tail_bytes (number_bytes e) true o.now
  interface_body =
      let tail = tail_bytes (number_bytes e) true o.now in
      ap (λ (pad : List ℕ). head.now ++ (pad ++ tail)) none ∙ ap (λ (h : List ℕ). h ++ tail) is

  interface_text : IsFitParts (number_bytes e) (interface_parts head d o) → IsTextOf (an_interface_with i o.now) s (record s { interfaces = s.interfaces + 1 }) (parts_text (number_bytes e) (interface_parts head d o))
  interface_text fit = interface_with_is_text e link s i o.now (parts_body (number_bytes e) (interface_parts head d o)) order link_is exponent offset places interface_body fit.listed fit.short

  interface_too_long : 2 ^ 32 ≤ length (parts_body (number_bytes e) (interface_parts head d o)) + 12 → InterfaceWithFlaw s i o.now BlockTooLong
  interface_too_long big =
      (e, omega (arith, big, ap length interface_body, length-append (interface_front (number_bytes e) link i) (tail_bytes (number_bytes e) true o.now), front_long (number_bytes e) (codec e).wide link i))

  pub interface_kept : (of_z w32 z ≡ 0 → ⊥) → PutsBlock (InterfaceWithFlaw s i o.now) (an_interface_with i o.now) (block_writer s room before error) (block_writer s now after told) (to_z w32 (of_z w32 z))
  interface_kept not =
      parts_kept (InterfaceWithFlaw s i o.now) (an_interface_with i o.now) s (record s { interfaces = s.interfaces + 1 }) e (interface_parts head d o) room now before after error told z interface_text puts interface_too_long (λ (x : Any (IsUnlisted true) o.now). x) not

  pub interface_done : of_z w32 z ≡ 0 → PutsBlock (InterfaceWithFlaw s i o.now) (an_interface_with i o.now) (block_writer s room before error) (block_writer (record s { interfaces = s.interfaces + 1 }) now after told) (pos 0)
  interface_done done = parts_done (InterfaceWithFlaw s i o.now) (an_interface_with i o.now) s (record s { interfaces = s.interfaces + 1 }) e (interface_parts head d o) room now before after error told z interface_text puts done

-- The parts of an enhanced packet.
abbrev pub packet_parts : Bor (List ℕ) → PcapfileNgPacket → Bor (List PcapfileOption) → Parts
packet_parts head p o = record { type_ = 6; head = head; data_ = p.bytes; options = o; clocked = false }

pub packet_same : (e : Endianness) (s : PcapfileSection) (p : PcapfileNgPacket) (o : Bor (List PcapfileOption)) {head : Bor (List ℕ)} (room now : List ℕ) (before after : ℕ) (error told : PcapfileError) (z : ℤ)
    → PutsParts (number_bytes e) (packet_parts head p o) (writer room before error) (writer now after told) z
    → head.now ≡ number_bytes e 4 p.interface_id ++ packet_head_text (number_bytes e) p.timestamp (length p.bytes.now) p.orig_len → magic_order s.magic_number ≡ Some e → p.interface_id < s.interfaces → s.interfaces < 2 ^ 32
    → PutsBlock (PacketWithFlaw s p o.now) (a_packet_with p o.now) (block_writer s room before error) (block_writer s now after told) (to_z w32 (of_z w32 z))
packet_same e s p o {head = head} room now before after error told z puts is order known places =
    let write = number_bytes e in
    let list = list_bytes write o.now in
    let body = parts_body write (packet_parts head p o) in
    let body_is : body ≡ body_text write (packet_block p) ++ list = ap (λ (h : List ℕ). h ++ (padded_bytes p.bytes.now ++ list)) is ∙ packet_body write p list in
    let long : 2 ^ 32 ≤ length body + 12 → PacketWithFlaw s p o.now BlockTooLong =
    λ big. (e, omega (arith, big, ap length body_is, length-append (body_text write (packet_block p)) list, plain_length write (codec e).wide p.interface_id p.timestamp p.orig_len p.bytes.now)) in
    parts_same (PacketWithFlaw s p o.now) (a_packet_with p o.now) s s e (packet_parts head p o) room now before after error told z
    (λ (fit : IsFitParts write (packet_parts head p o)). packet_with_is_text e s p o.now body order known places body_is fit.listed fit.short) puts long (λ (x : Any (IsUnlisted false) o.now). x) refl

-- The parts of a block of bytes.
abbrev pub bytes_parts : Bor (List ℕ) → PcapfileBlock → Bor (List PcapfileOption) → Parts
bytes_parts head b o = record { type_ = b.type_; head = head; data_ = b.body; options = o; clocked = false }

pub bytes_same : (e : Endianness) (s : PcapfileSection) (b : PcapfileBlock) {o : Bor (List PcapfileOption)} {head : Bor (List ℕ)} (room now : List ℕ) (before after : ℕ) (error told : PcapfileError) (z : ℤ)
    → PutsParts (number_bytes e) (bytes_parts head b o) (writer room before error) (writer now after told) z
    → head.now ≡ [] → o.now ≡ [] → magic_order s.magic_number ≡ Some e → b.type_ < 2 ^ 32 → s.interfaces < 2 ^ 32 → is_kept (block_type b.type_) ≡ false
    → PutsBlock (BytesFlaw s b) (a_block b) (block_writer s room before error) (block_writer s now after told) (to_z w32 (of_z w32 z))
bytes_same e s b {o = o} {head = head} room now before after error told z puts no_head no_options order fits places unkept =
    let write = number_bytes e in
    let padded = padded_bytes b.body.now in
    let body = parts_body write (bytes_parts head b o) in
    let body_is : body ≡ padded =
    ap (λ (h : List ℕ). h ++ (padded ++ list_bytes write o.now)) no_head ∙ ap (λ (os : List PcapfileOption). padded ++ list_bytes write os) no_options ∙ append-nil padded in
    let text : IsFitParts write (bytes_parts head b o) → IsTextOf (a_block b) s s (block_text write b.type_ body) =
    λ fit. subst (λ (t : List ℕ). IsTextOf (a_block b) s s (block_text write b.type_ t)) (sym body_is) (block_is_text e s b order fits places unkept (omega (arith, fit.short, ap length body_is))) in
    let long : 2 ^ 32 ≤ length body + 12 → BytesFlaw s b BlockTooLong = λ big. omega (arith, big, ap length body_is, padded_long b.body.now) in
    parts_same (BytesFlaw s b) (a_block b) s s e (bytes_parts head b o) room now before after error told z text puts long (λ (x : Any (IsUnlisted false) o.now). absurd (omega (arith, x.2, ap length no_options))) refl

-- The type is neither a section header nor an interface.
pub unkept_of : (type : BlockType) → type ≢ types.SectionHeader → type ≢ types.InterfaceDescription → is_kept type ≡ false
unkept_of types.SectionHeader a b = absurd (a refl)
unkept_of types.InterfaceDescription a b = absurd (b refl)
unkept_of _ a b = refl
