-- The texts of blocks, in the parts in which they are written.
use Rattle.std.proofs.Common.{◌≡◌, ◌≢◌, ℕ, ◌+◌, ◌-◌, ◌≤◌, ◌/◌, ◌%◌, ◌^◌, List, [], ◌∷◌, ◌++◌, length, take, sym, ap, ◌∙◌, append_assoc, append-nil, length-append, arith, zero, suc}
use Rattle.std.specs.Prelude.{◌==◌, false}
use Rattle.std.specs.Int.{w64, cast_unsigned}
use Rattle.std.proofs.lemmas.Bool.{ne_eqb}
use Rattle.byteorder.specs.Endian.{big_bytes}
use Rattle.pcap_core.specs.declared.link.DataLink.{DataLink}
use Rattle.pcap_core.specs.Codec.{Encoder}
use Rattle.pcap_core.specs.Link.{link_number}
use Rattle.pcap_core.specs.Padded.{up_to_4}
use Rattle.pcap_blocks.specs.BlockType.{type_number}
use Rattle.pcap_options.specs.InterfaceOption.{interface_description}
use Rattle.pcap_blocks.specs.ParsedBlock.{Body}
use Rattle.pcap_written.specs.Bodies.{body_text, text_of, type_of}
use Rattle.pcap_written.specs.Plain.{plain_head}
use Rattle.pcap_written.specs.Text.{list_text}
use Rattle.pcap_written.proofs.Packets.{plain_length, plain_text}
use Rattle.pcapfile_values.specs.declared.blocks.PcapfileSection.{PcapfileSection}
use Rattle.pcapfile_values.specs.declared.bodies.PcapfileInterface.{PcapfileInterface}
use Rattle.pcapfile_values.specs.declared.bodies.PcapfileNgPacket.{PcapfileNgPacket}
use Rattle.pcapfile_values.specs.BlockTexts.{section_block, interface_block, packet_block, clock_options, clock_len, resolution_byte}

section_regrouped : (type len magic major minor unknown again : List ℕ)
    → type ++ (len ++ (magic ++ ((major ++ minor) ++ (unknown ++ again)))) ≡ type ++ (len ++ ((magic ++ (major ++ (minor ++ (unknown ++ [])))) ++ again))
section_regrouped type len magic major minor unknown again = simp (append_assoc, append-nil)

interface_regrouped : (type len link reserved snaplen list again : List ℕ)
    → type ++ (len ++ ((link ++ reserved) ++ (snaplen ++ (list ++ again)))) ≡ type ++ (len ++ ((link ++ (reserved ++ (snaplen ++ list))) ++ again))
interface_regrouped type len link reserved snaplen list again = simp append_assoc

-- The options of a clock have at most 24 bytes.
pub clock_short : (offset : ℕ) → clock_len offset ≤ 24
clock_short zero = omega arith
clock_short (suc n) = let is : (suc n == 0) ≡ false = ne_eqb (suc n) 0 (λ e. omega (arith, e)) in rw is (omega arith)

module _ (write : Encoder) (wide : (w n : ℕ) → length (write w n) ≡ w) where
  pub pair_long : (n m : ℕ) → length (write 2 n ++ write 2 m) ≡ 4
  pair_long n m = simp (length-append, wide)

  pub head_long : (len id high low captured original : ℕ) → length (plain_head write len id high low captured original) ≡ 28
  head_long len id high low captured original = simp (length-append, wide)

  pub section_long : (s : PcapfileSection) → length (body_text write (section_block s)) ≡ 16
  section_long s = simp (length-append, wide)

  pub section_parts : (s : PcapfileSection)
      → write 4 0x0A0D0D0A ++ (write 4 28 ++ (big_bytes 4 s.magic_number ++ ((write 2 s.version_major ++ write 2 s.version_minor) ++ (write 8 18446744073709551615 ++ write 4 28)))) ≡ text_of write (section_block s)
  section_parts s =
      let len : length (body_text write (section_block s)) + 12 ≡ 28 = omega (arith, section_long s) in
      rw len (section_regrouped (write 4 0x0A0D0D0A) (write 4 28) (big_bytes 4 s.magic_number) (write 2 s.version_major) (write 2 s.version_minor) (write 8 18446744073709551615) (write 4 28))

  pub unmoved_clock : (resolution : ℕ)
      → (write 2 9 ++ write 2 1) ++ ((resolution ∷ 0 ∷ 0 ∷ 0 ∷ []) ++ (write 2 0 ++ write 2 0)) ≡ list_text write interface_description (clock_options resolution 0)
  unmoved_clock resolution = simp (append_assoc, append-nil)

  pub moved_clock : (resolution offset : ℕ) → offset ≢ 0
      → (write 2 9 ++ write 2 1) ++ ((resolution ∷ 0 ∷ 0 ∷ 0 ∷ []) ++ ((write 2 14 ++ write 2 8) ++ (write 8 offset ++ (write 2 0 ++ write 2 0)))) ≡ list_text write interface_description (clock_options resolution offset)
  moved_clock resolution offset moved =
      let is : (offset == 0) ≡ false = ne_eqb offset 0 moved in
      rw (is, wide 8 offset) (simp (append_assoc, append-nil))

  pub clock_long : (resolution offset : ℕ) → length (list_text write interface_description (clock_options resolution offset)) ≡ clock_len offset
  clock_long resolution zero = simp (length-append, wide)
  clock_long resolution (suc n) =
      let is : (suc n == 0) ≡ false = ne_eqb (suc n) 0 (λ e. omega (arith, e)) in
      rw is (simp (length-append, wide))

  pub interface_long : (link : DataLink) (i : PcapfileInterface) → length (body_text write (interface_block link i)) ≡ 8 + clock_len (cast_unsigned w64 i.ts_offset)
  interface_long link i =
      let resolution = resolution_byte i.ts_base i.ts_exponent in
      rw (length-append, length-append, length-append, wide 2 (link_number link), wide 2 0, wide 4 i.snaplen, clock_long resolution (cast_unsigned w64 i.ts_offset)) (omega arith)

  pub interface_parts : (link : DataLink) (i : PcapfileInterface) (len number resolution offset : ℕ) → len ≡ clock_len (cast_unsigned w64 i.ts_offset) + 20
      → number ≡ link_number link → resolution ≡ resolution_byte i.ts_base i.ts_exponent → offset ≡ cast_unsigned w64 i.ts_offset
      → write 4 1 ++ (write 4 len ++ ((write 2 number ++ write 2 0) ++ (write 4 i.snaplen ++ (list_text write interface_description (clock_options resolution offset) ++ write 4 len)))) ≡ text_of write (interface_block link i)
  interface_parts link i len number resolution offset is number_is resolution_is offset_is =
      let all : length (body_text write (interface_block link i)) + 12 ≡ len = omega (arith, interface_long link i, is) in
      let list = list_text write interface_description (clock_options (resolution_byte i.ts_base i.ts_exponent) (cast_unsigned w64 i.ts_offset)) in
      rw (number_is, resolution_is, offset_is, all) (interface_regrouped (write 4 1) (write 4 len) (write 2 (link_number link)) (write 2 0) (write 4 i.snaplen) list (write 4 len))

  pub packet_parts : (p : PcapfileNgPacket) (len missing : ℕ) → len ≡ up_to_4 (length p.bytes.now) + 32 → length p.bytes.now + missing ≡ up_to_4 (length p.bytes.now)
      → plain_head write len p.interface_id (p.timestamp / 2 ^ 32) (p.timestamp % 2 ^ 32) (length p.bytes.now) p.orig_len ++ (p.bytes.now ++ (take missing (0 ∷ 0 ∷ 0 ∷ []) ++ write 4 len)) ≡ text_of write (packet_block p)
  packet_parts p len missing is padded =
      let head = plain_head write len p.interface_id (p.timestamp / 2 ^ 32) (p.timestamp % 2 ^ 32) (length p.bytes.now) p.orig_len in
      let zeros : List ℕ = 0 ∷ 0 ∷ 0 ∷ [] in
      let few : missing ≡ up_to_4 (length p.bytes.now) - length p.bytes.now = omega (arith, padded) in
      sym (append_assoc head p.bytes.now (take missing zeros ++ write 4 len))
      ∙ ap (λ (k : ℕ). (head ++ p.bytes.now) ++ (take k zeros ++ write 4 len)) few
      ∙ plain_text write wide p.interface_id p.timestamp p.orig_len p.bytes.now len is

  block_long : (body : Body) → length (text_of write body) ≡ length (body_text write body) + 12
  block_long body =
      rw (length-append, length-append, length-append, wide 4 (type_number (type_of body)), wide 4 (length (body_text write body) + 12)) (omega arith)

  pub section_text_long : (s : PcapfileSection) → length (text_of write (section_block s)) ≡ 28
  section_text_long s = omega (arith, block_long (section_block s), section_long s)

  pub interface_text_long : (link : DataLink) (i : PcapfileInterface) → length (text_of write (interface_block link i)) ≡ clock_len (cast_unsigned w64 i.ts_offset) + 20
  interface_text_long link i = omega (arith, block_long (interface_block link i), interface_long link i)

  pub packet_text_long : (p : PcapfileNgPacket) → length (text_of write (packet_block p)) ≡ up_to_4 (length p.bytes.now) + 32
  packet_text_long p = omega (arith, block_long (packet_block p), plain_length write wide p.interface_id p.timestamp p.orig_len p.bytes.now)
