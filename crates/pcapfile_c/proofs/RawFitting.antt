-- Blocks with options, and blocks of bytes, are blocks of the format.
use Rattle.std.proofs.Common.{◌≡◌, ℕ, ◌+◌, ◌<◌, ◌%◌, ◌^◌, List, [], ◌∷◌, ◌++◌, length, take, drop, refl, sym, ap, subst, ◌∙◌, append_assoc, append-nil, length-append, arith, zero, suc, ◌≢◌, rules}
use Rattle.std.specs.Prelude.{◌==◌, Bool, true, false, Some, None, Option, All, FitsSigned}
use Rattle.std.proofs.lemmas.Bool.{ne_eqb}
use Rattle.std.specs.Int.{w64, cast_unsigned}
use Rattle.std.specs.List.{flat_map}
use Rattle.std.proofs.lemmas.List.{take_at, drop_at}
use Rattle.std.proofs.lemmas.List.Concat.{flat_map-cons}
use Rattle.byteorder.specs.Endian.{big_bytes, big_number}
use Rattle.byteorder.specs.Numbers.{big_from-take}
use Rattle.pcap_core.specs.declared.common.Endianness.{Endianness}
use Rattle.pcap_core.specs.declared.common.Endianness.TheVariants.{Big}
use Rattle.pcap_core.specs.declared.link.DataLink.{DataLink}
use Rattle.pcap_core.specs.Codec.{Encoder, number_bytes}
use Rattle.pcap_core.specs.Link.{Link, link_number}
use Rattle.pcap_core.specs.Padded.{up_to_4}
use Rattle.pcap_core.proofs.Codec.{codec}
use Rattle.pcap_options.specs.InterfaceOption.{interface_description}
use Rattle.pcap_blocks.specs.declared.block_type.BlockType.{BlockType}
use Rattle.pcap_blocks.specs.declared.block_type.BlockType.TheVariants as types
use Rattle.pcap_blocks.specs.BlockType.{block_type, type_number}
use Rattle.pcap_blocks.specs.SectionHeader.{magic_order}
use Rattle.pcap_written.specs.Bodies.{block_text, body_text, order_under, packet_head_text, text_of}
use Rattle.pcap_written.specs.Raw.{magic_at}
use Rattle.pcap_written.specs.Text.{end_mark, option_text, padded_bytes}
use Rattle.pcap_written.specs.Writing.{interfaces_after}
use Rattle.pcap_written.proofs.Packets.{plain_length}
use Rattle.pcap_ng.specs.State.{is_kept}
use Rattle.pcapfile_values.specs.declared.blocks.PcapfileBlock.{PcapfileBlock}
use Rattle.pcapfile_values.specs.declared.blocks.PcapfileSection.{PcapfileSection}
use Rattle.pcapfile_values.specs.declared.bodies.PcapfileInterface.{PcapfileInterface}
use Rattle.pcapfile_values.specs.declared.bodies.PcapfileNgPacket.{PcapfileNgPacket}
use Rattle.pcapfile_values.specs.BlockTexts.{PutsAt, clock_len, clock_options, interface_block, packet_block, resolution_byte, section_block}
use Rattle.pcapfile_values.proofs.Parts.{interface_long, section_long}
use Rattle.pcapfile_c.specs.declared.options.PcapfileOption.{PcapfileOption}
use Rattle.pcapfile_c.specs.PutParts.{IsListed, each_bytes, list_bytes, option_bytes, tail_bytes}
use Rattle.pcapfile_c.specs.Putting.{IsTextOf, a_block, a_packet_with, a_section_with, an_interface_with, interface_front, raw_block}
use Rattle.pcapfile_c.proofs.Fitting.{magic_fits}
use Rattle.pcapfile_c.proofs.PutParts.{option_long, padded_long}

moved : (a b c d m : List ℕ) → a ++ (b ++ (c ++ (d ++ m))) ≡ (a ++ (b ++ (c ++ d))) ++ m
moved a b c d m = simp append_assoc

clock_4 : (offset : ℕ) → clock_len offset % 4 ≡ 0
clock_4 zero = refl
clock_4 (suc n) = let is : (suc n == 0) ≡ false = ne_eqb (suc n) 0 (λ e. omega (arith, e)) in rw is refl

module _ (write : Encoder) (wide : (w n : ℕ) → length (write w n) ≡ w) where
  each_aligned : (os : List PcapfileOption) → length (each_bytes write os) % 4 ≡ 0
  each_aligned [] = refl
  each_aligned (o ∷ os) =
      omega (arith, ap length (flat_map-cons (option_bytes write) o os), length-append (option_bytes write o) (each_bytes write os), option_long write wide o, each_aligned os)

  mark_long : length (end_mark write) ≡ 4
  mark_long = omega (arith, length-append (write 2 0) (write 2 0), wide 2 0)

  pub tail_aligned : (clocked : Bool) (os : List PcapfileOption) → length (tail_bytes write clocked os) % 4 ≡ 0
  tail_aligned true os = omega (arith, length-append (each_bytes write os) (end_mark write), each_aligned os, mark_long)
  tail_aligned false [] = refl
  tail_aligned false (o ∷ os) = omega (arith, length-append (each_bytes write (o ∷ os)) (end_mark write), each_aligned (o ∷ os), mark_long)

  -- The options of an interface without options of the program end with a mark.
  pub front_marked : (link : DataLink) (i : PcapfileInterface) → body_text write (interface_block link i) ≡ interface_front write link i ++ end_mark write
  front_marked link i =
      let clock = flat_map (option_text write interface_description) (clock_options (resolution_byte i.ts_base i.ts_exponent) (cast_unsigned w64 i.ts_offset)) in
      moved (write 2 (link_number link)) (write 2 0) (write 4 i.snaplen) clock (end_mark write)

  pub front_long : (link : DataLink) (i : PcapfileInterface) → length (interface_front write link i) ≡ clock_len (cast_unsigned w64 i.ts_offset) + 4
  front_long link i = omega (arith, ap length (front_marked link i), length-append (interface_front write link i) (end_mark write), mark_long, interface_long write wide link i)

-- The magic number of a section is read from the beginning of its body.
magic_read : (s : PcapfileSection) (e : Endianness) (list : List ℕ) → magic_order s.magic_number ≡ Some e
    → magic_order (big_number 4 (take 4 (body_text (number_bytes e) (section_block s) ++ list))) ≡ Some e
magic_read s e list order =
    let magic = big_bytes 4 s.magic_number in
    let rest = number_bytes e 2 s.version_major ++ (number_bytes e 2 s.version_minor ++ (number_bytes e 8 18446744073709551615 ++ [])) in
    let parts : (magic ++ rest) ++ list ≡ magic ++ (rest ++ list) = append_assoc magic rest list in
    let again : big_number 4 (take 4 (magic ++ (rest ++ list))) ≡ s.magic_number =
    big_from-take 0 4 4 (magic ++ (rest ++ list)) (omega arith) ∙ (codec Big).again 4 s.magic_number (rest ++ list) (magic_fits s.magic_number e order) in
    ap magic_order (ap (λ (t : List ℕ). big_number 4 (take 4 t)) parts ∙ again) ∙ order

pub section_with_is_text : (e : Endianness) (s : PcapfileSection) (os : List PcapfileOption) (body : List ℕ) → magic_order s.magic_number ≡ Some e
    → body ≡ body_text (number_bytes e) (section_block s) ++ list_bytes (number_bytes e) os → All (IsListed false) os → length body + 12 < 2 ^ 32
    → IsTextOf (a_section_with s os) s (record s { interfaces = 0 }) (block_text (number_bytes e) 0x0A0D0D0A body)
section_with_is_text e s os body order is listed short =
    let write = number_bytes e in
    let front = body_text write (section_block s) in
    record {
      block = raw_block types.SectionHeader e body;
      behind = record { endianness = e; interfaces = 0 };
      block_is = (listed, ap (raw_block types.SectionHeader e) is);
      written = λ at may. (
        (
          record { number = omega arith; named = refl; aligned = omega (arith, ap length is, length-append front (list_bytes write os), section_long write (codec e).wide s, tail_aligned write (codec e).wide false os); short = short },
          (record { named = ap (λ (t : List ℕ). magic_order (big_number 4 (take 4 t))) is ∙ magic_read s e (list_bytes write os) order; known = λ id is. absurd cc; room = omega arith }, refl),
          refl,
        ),
        refl,
      );
      order = order;
      next_is = refl;
    }

pub interface_with_is_text : (e : Endianness) (link : DataLink) (s : PcapfileSection) (i : PcapfileInterface) (os : List PcapfileOption) (body : List ℕ) → magic_order s.magic_number ≡ Some e → Link i.link link
    → i.ts_exponent < 128 → FitsSigned w64 i.ts_offset → s.interfaces + 1 < 2 ^ 32
    → body ≡ interface_front (number_bytes e) link i ++ tail_bytes (number_bytes e) true os → All (IsListed true) os → length body + 12 < 2 ^ 32
    → IsTextOf (an_interface_with i os) s (record s { interfaces = s.interfaces + 1 }) (block_text (number_bytes e) 1 body)
interface_with_is_text e link s i os body order link_is exponent offset room is listed short =
    let write = number_bytes e in
    let wide = (codec e).wide in
    let front = interface_front write link i in
    let clock_aligned : clock_len (cast_unsigned w64 i.ts_offset) % 4 ≡ 0 = clock_4 (cast_unsigned w64 i.ts_offset) in
    record {
      block = raw_block types.InterfaceDescription e body;
      behind = record { endianness = e; interfaces = s.interfaces + 1 };
      block_is = (listed, (link, record { named = link_is; exponent = exponent; offset = offset }, ap (raw_block types.InterfaceDescription e) is));
      written = λ at may. (
        (
          record { number = omega arith; named = refl; aligned = omega (arith, ap length is, length-append front (tail_bytes write true os), front_long write wide link i, clock_aligned, tail_aligned write wide true os); short = short },
          (record { named = sym may.0 ∙ order; known = λ id is. absurd cc; room = omega (arith, may.1, room) }, ap (λ (n : ℕ). n + 1) may.1),
          refl,
        ),
        refl,
      );
      order = order;
      next_is = refl;
    }

pub packet_with_is_text : (e : Endianness) (s : PcapfileSection) (p : PcapfileNgPacket) (os : List PcapfileOption) (body : List ℕ) → magic_order s.magic_number ≡ Some e → p.interface_id < s.interfaces
    → s.interfaces < 2 ^ 32
    → body ≡ body_text (number_bytes e) (packet_block p) ++ list_bytes (number_bytes e) os → All (IsListed false) os → length body + 12 < 2 ^ 32
    → IsTextOf (a_packet_with p os) s s (block_text (number_bytes e) 6 body)
packet_with_is_text e s p os body order known room is listed short =
    let write = number_bytes e in
    let wide = (codec e).wide in
    let front = body_text write (packet_block p) in
    record {
      block = raw_block types.EnhancedPacket e body;
      behind = record { endianness = e; interfaces = s.interfaces };
      block_is = (listed, known, ap (raw_block types.EnhancedPacket e) is);
      written = λ at may. (
        (
          record { number = omega arith; named = refl; aligned = omega (arith, ap length is, length-append front (list_bytes write os), plain_length write wide p.interface_id p.timestamp p.orig_len p.bytes.now, tail_aligned write wide false os); short = short },
          (record { named = sym may.0 ∙ order; known = λ id is. absurd cc; room = omega (arith, may.1, room) }, may.1),
          refl,
        ),
        refl,
      );
      order = order;
      next_is = refl;
    }

-- A block that isn't kept has no magic number.
magic_none : (type : BlockType) (body : List ℕ) → is_kept type ≡ false → magic_at type body ≡ None
magic_none types.SectionHeader body unkept = absurd cc
magic_none types.InterfaceDescription body unkept = absurd cc
magic_none _ body unkept = refl

never_counted : (n : ℕ) (type : BlockType) → is_kept type ≡ false → interfaces_after n type ≡ n
never_counted n types.SectionHeader unkept = absurd cc
never_counted n types.InterfaceDescription unkept = absurd cc
never_counted n _ unkept = refl

number_again : (n : ℕ) → type_number (block_type n) ≡ n
number_again n = search rules

pub block_is_text : (e : Endianness) (s : PcapfileSection) (b : PcapfileBlock) → magic_order s.magic_number ≡ Some e → b.type_ < 2 ^ 32 → s.interfaces < 2 ^ 32 → is_kept (block_type b.type_) ≡ false
    → length (padded_bytes b.body.now) + 12 < 2 ^ 32
    → IsTextOf (a_block b) s s (block_text (number_bytes e) b.type_ (padded_bytes b.body.now))
block_is_text e s b order fits room unkept short =
    let type = block_type b.type_ in
    let body = padded_bytes b.body.now in
    let number = number_again b.type_ in
    record {
      block = raw_block type e body;
      behind = record { endianness = e; interfaces = s.interfaces };
      block_is = (unkept, refl);
      written = λ at may. (
        (
          record { number = omega (arith, number, fits); named = ap block_type number; aligned = omega (arith, padded_long b.body.now); short = short },
          (
            record {
              named = ap (order_under at.endianness) (magic_none type body unkept) ∙ sym may.0 ∙ order;
              known = λ id is. absurd cc;
              room = omega (arith, never_counted at.interfaces type unkept, may.1, room);
            },
            may.1 ∙ sym (never_counted at.interfaces type unkept),
          ),
          refl,
        ),
        ap (λ (n : ℕ). block_text (number_bytes e) n body) (sym number),
      );
      order = order;
      next_is = refl;
    }

head_regrouped : (kind len front rest others : List ℕ) → (kind ++ (len ++ ((front ++ rest) ++ len))) ++ others ≡ (kind ++ len) ++ (front ++ (rest ++ (len ++ others)))
head_regrouped kind len front rest others = simp append_assoc

-- The beginning of the body of a block that was written without options.
pub head_read : (write : Encoder) (wide : (w n : ℕ) → length (write w n) ≡ w) (type : ℕ) (body front rest old now : List ℕ) (k : ℕ) → PutsAt 0 (block_text write type body) old now → body ≡ front ++ rest → length front ≡ k
    → take k (drop 8 now) ≡ front
head_read write wide type body front rest old now k put is long =
    let kind = write 4 type in
    let len = write 4 (length body + 12) in
    let others = drop (0 + length (block_text write type body)) old in
    let behind = front ++ (rest ++ (len ++ others)) in
    let parts : now ≡ (kind ++ len) ++ behind = put.is ∙ ap (λ (b : List ℕ). (kind ++ (len ++ (b ++ len))) ++ others) is ∙ head_regrouped kind len front rest others in
    let before : length (kind ++ len) ≡ 8 = omega (arith, length-append kind len, wide 4 type, wide 4 (length body + 12)) in
    ap (take k) (ap (drop 8) parts ∙ drop_at (kind ++ len) behind 8 before) ∙ take_at front (rest ++ (len ++ others)) k long

packet_regrouped : (id head padded list : List ℕ) → (id ++ head) ++ (padded ++ list) ≡ (id ++ (head ++ (padded ++ []))) ++ list
packet_regrouped id head padded list = simp (append_assoc, append-nil)

-- The body of a packet with options, in the parts in which it is written.
pub packet_body : (write : Encoder) (p : PcapfileNgPacket) (list : List ℕ) → (write 4 p.interface_id ++ packet_head_text write p.timestamp (length p.bytes.now) p.orig_len) ++ (padded_bytes p.bytes.now ++ list) ≡ body_text write (packet_block p) ++ list
packet_body write p list = packet_regrouped (write 4 p.interface_id) (packet_head_text write p.timestamp (length p.bytes.now) p.orig_len) (padded_bytes p.bytes.now) list

pub section_head : {old now : List ℕ} (e : Endianness) (opened s : PcapfileSection) → opened ≡ record s { interfaces = 0 } → PutsAt 0 (text_of (number_bytes e) (section_block opened)) old now
    → take 16 (drop 8 now) ≡ body_text (number_bytes e) (section_block s)
section_head {old = old} {now = now} e opened s shown put =
    let write = number_bytes e in
    let body = body_text write (section_block s) in
    let there = subst (λ (o : PcapfileSection). PutsAt 0 (text_of write (section_block o)) old now) shown put in
    head_read write (codec e).wide 0x0A0D0D0A body body [] old now 16 there (sym (append-nil body)) (section_long write (codec e).wide s)

pub interface_head : {old now : List ℕ} (e : Endianness) (link : DataLink) (i : PcapfileInterface) (k : ℕ) → k ≡ clock_len (cast_unsigned w64 i.ts_offset) + 4 → PutsAt 0 (text_of (number_bytes e) (interface_block link i)) old now
    → take k (drop 8 now) ≡ interface_front (number_bytes e) link i
interface_head {old = old} {now = now} e link i k is put =
    let write = number_bytes e in
    let wide = (codec e).wide in
    head_read write wide 1 (body_text write (interface_block link i)) (interface_front write link i) (end_mark write) old now k put (front_marked write wide link i) (omega (arith, front_long write wide link i, is))
