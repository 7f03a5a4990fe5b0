-- Written blocks are read as what the program passed.
use Rattle.std.proofs.Common.{◌≡◌, ℕ, ℤ, ◌+◌, ◌-◌, ◌<◌, List, [], ◌∷◌, map, refl, sym, ap, subst, ◌∙◌, arith, Option, Some, false, true, Bool, inl, inr, rules}
use Rattle.std.specs.Prelude.{if◌then◌else◌, nat_lt, unwrap_or, All, IsSome, FitsSigned}
use Rattle.std.proofs.lemmas.List.Elements.{All-nil, All-cons}
use Rattle.std.specs.Int.{w64, cast_signed, cast_unsigned}
use Rattle.std.specs.List.{AllZip}
use Rattle.std.proofs.lemmas.Bool.{le-ltb, lt-ltb}
use Rattle.std.proofs.lemmas.Bool.Decides.{eqb_tells}
use Rattle.std.proofs.lemmas.Int.{to_z-of_z}
use Rattle.pcap_core.specs.declared.common.Endianness.{Endianness}
use Rattle.pcap_core.specs.declared.link.DataLink.{DataLink}
use Rattle.pcap_blocks.specs.declared.block_type.BlockType.TheVariants as types
use Rattle.pcap_items.specs.Format.{Front}
use Rattle.pcap_times.specs.declared.unit.TimeUnit.TheVariants.{Binary, Decimal}
use Rattle.pcap_times.specs.Times.{unit_of}
use Rattle.pcap_options.specs.Held.{first_under, number_in}
use Rattle.pcap_blocks.specs.SectionHeader.{magic_order}
use Rattle.pcap_blocks.specs.ParsedBlock.{Body}
use Rattle.pcap_options.specs.Values.{Entry, Integer}
use Rattle.pcap_written.specs.declared.place.Place.{Place}
use Rattle.pcap_written.specs.Mixed.{GoOut, Written, of_value, type_written}
use Rattle.pcap_written.specs.Writing.{opening_place}
use Rattle.pcap_ng.specs.Blocks.{Item, block_format}
use Rattle.pcap_ng.specs.State.{opening}
use Rattle.pcap_ng.specs.Written.{IsReadable}
use Rattle.pcap_ng.specs.Written.{IsReadAs as IsRead}
use Rattle.pcap_ng.proofs.MixedAgain.{mixed_again}
use Rattle.pcapfile_values.specs.declared.blocks.PcapfileSection.{PcapfileSection}
use Rattle.pcapfile_values.specs.declared.bodies.PcapfileInterface.{PcapfileInterface}
use Rattle.pcapfile_values.specs.declared.bodies.PcapfileNgPacket.{PcapfileNgPacket}
use Rattle.pcapfile_values.specs.BlockTexts.{clock_options, interface_block, packet_block, resolution_byte, section_block}
use Rattle.pcapfile_values.specs.Bodies.{base_of, unit_shown}
use Rattle.pcapfile_c.specs.declared.options.PcapfileOption.{PcapfileOption}
use Rattle.pcapfile_c.specs.Putting.{Given, IsBlockOf, IsLinkOf, MayStandAt, a_block, a_section, a_section_with, an_interface, an_interface_with, a_packet, a_packet_with}
use Rattle.pcapfile_c.specs.PutsAgain.{ArePut, IsReadAs, IsShownBy, IsWrittenFor, section_given}

-- The unit that a byte encodes is that of its base and exponent.
byte_unit : (base exponent : ℕ) → exponent < 128 → unit_shown base exponent ≡ unit_of (resolution_byte base exponent)
byte_unit base exponent small = elim (eqb_tells base 2) [
  | inl two ↦
      let high : nat_lt (exponent + 128) 128 ≡ false = le-ltb (exponent + 128) 128 (omega arith) in
      let left : exponent + 128 - 128 ≡ exponent = omega arith in
      let said : Binary exponent ≡ unit_of (exponent + 128) = rw (high, left) refl in
      subst (λ (is : Bool). (if is then Binary exponent else Decimal exponent) ≡ unit_of (if is then exponent + 128 else exponent)) (sym two.0) said
  | inr ten ↦
      let low : nat_lt exponent 128 ≡ true = lt-ltb exponent 128 small in
      let said : Decimal exponent ≡ unit_of exponent = rw low refl in
      subst (λ (is : Bool). (if is then Binary exponent else Decimal exponent) ≡ unit_of (if is then exponent + 128 else exponent)) (sym ten.0) said
]

-- The base of a unit, with its exponent, gives the same unit.
same_unit : (base exponent : ℕ) → unit_shown (base_of (unit_shown base exponent)) exponent ≡ unit_shown base exponent
same_unit base exponent =
    let Same : Bool → Type 0 = λ is. unit_shown (base_of (if is then Binary exponent else Decimal exponent)) exponent ≡ (if is then Binary exponent else Decimal exponent) in
    elim (eqb_tells base 2) [
      | inl two ↦ subst Same (sym two.0) refl
      | inr ten ↦ subst Same (sym ten.0) refl
    ]

-- The offset is read again from the options of a unit and an offset.
offset_again : (resolution : ℕ) (z : ℤ) → FitsSigned w64 z → z ≡ cast_signed w64 (unwrap_or (first_under 14 number_in (clock_options resolution (cast_unsigned w64 z))) 0)
offset_again resolution z fits =
    let bits = cast_unsigned w64 z in
    let again : z ≡ cast_signed w64 bits = sym (to_z-of_z w64 z fits) in
    let unit : Entry = record { code = 9; value = Integer resolution } in
    let offset : Entry = record { code = 14; value = Integer bits } in
    elim (eqb_tells bits 0) [
      | inl none ↦
          let said : z ≡ cast_signed w64 0 = again ∙ ap (cast_signed w64) none.1 in
          subst (λ (is : Bool). z ≡ cast_signed w64 (unwrap_or (first_under 14 number_in (unit ∷ (if is then [] else offset ∷ []))) 0)) (sym none.0) said
      | inr some ↦
          subst (λ (is : Bool). z ≡ cast_signed w64 (unwrap_or (first_under 14 number_in (unit ∷ (if is then [] else offset ∷ []))) 0)) (sym some.0) again
    ]

interface_shown : (i : PcapfileInterface) (link : DataLink) → IsLinkOf i link → IsShownBy (interface_block link i) (an_interface i)
interface_shown i link is =
    let same = same_unit i.ts_base i.ts_exponent in
    record {
      taken = record {
        link = sym is.named.number;
        snaplen = refl;
        clock = record { unit = same ∙ byte_unit i.ts_base i.ts_exponent is.exponent; offset = offset_again (resolution_byte i.ts_base i.ts_exponent) i.ts_offset is.offset };
      };
      base = ap base_of (sym same);
    }

section_shown : (s : PcapfileSection) (e : Endianness) → magic_order s.magic_number ≡ Some e → IsShownBy (section_block s) (a_section s)
section_shown s e order =
    let some : IsSome {T = Endianness} (Some e) = search rules in
    record { magic = refl; named = subst (λ (o : Option Endianness). IsSome o) (sym order) some; major = refl; minor = refl }

packet_shown : (p : PcapfileNgPacket) → IsShownBy (packet_block p) (a_packet p)
packet_shown p = record { type_is = refl; interface_is = refl; timestamp_is = refl; original_is = refl; bytes_are = refl }

-- What is written for the passed struct shows it, if its section names a byte order.
block_shown : (given : Given) (section : PcapfileSection) (e : Endianness) (block : Written) → magic_order (section_given section given).magic_number ≡ Some e
    → IsBlockOf given (section_given section given) e block → IsWrittenFor given block
block_shown (a_section s) section e block order is = subst (IsWrittenFor (a_section s)) (sym is) (section_shown s e order)
block_shown (an_interface i) section e block order (link, link_is, is) = subst (IsWrittenFor (an_interface i)) (sym is) (interface_shown i link link_is)
block_shown (a_packet p) section e block order is = subst (IsWrittenFor (a_packet p)) (sym is) (packet_shown p)
block_shown (a_section_with s os) section e block order (listed, is) = subst (IsWrittenFor (a_section_with s os)) (sym is) (s, (listed, refl))
block_shown (an_interface_with i os) section e block order (listed, (link, link_is, is)) = subst (IsWrittenFor (an_interface_with i os)) (sym is) (section, (listed, (link, link_is, refl)))
block_shown (a_packet_with p os) section e block order (listed, known, is) = subst (IsWrittenFor (a_packet_with p os)) (sym is) (section, (listed, known, refl))
block_shown (a_block b) section e block order (unkept, is) = subst (IsWrittenFor (a_block b)) (sym is) (section, (unkept, refl))

may_stand : (given : Given) (section : PcapfileSection) (at : Place) → magic_order section.magic_number ≡ Some at.endianness → section.interfaces ≡ at.interfaces → MayStandAt given (section_given section given) at
may_stand (a_section s) section at order same = tt
may_stand (a_section_with s os) section at order same = tt
may_stand (an_interface i) section at order same = (order, same)
may_stand (an_interface_with i os) section at order same = (order, same)
may_stand (a_packet p) section at order same = (order, same)
may_stand (a_packet_with p os) section at order same = (order, same)
may_stand (a_block b) section at order same = (order, same)

-- The blocks are those that are written for what was passed.
abbrev AreWrittenFor : List Written → List Given → Type 0
AreWrittenFor = AllZip (λ (block : Written) (given : Given). IsWrittenFor given block)

-- Blocks that were written after others.
record WrittenAs (at : Place) (puts : List Given) (bytes : List ℕ) : Type 0 where
  blocks : List Written
  end : Place
  out : GoOut at blocks bytes end
  readable : All IsReadable blocks
  shown : AreWrittenFor blocks puts

blocks_written : (section : PcapfileSection) (at : Place) (puts : List Given) (bytes : List ℕ) → magic_order section.magic_number ≡ Some at.endianness → section.interfaces ≡ at.interfaces → ArePut section puts bytes → WrittenAs at puts bytes
blocks_written section at [] bytes order same none = record { blocks = []; end = at; out = (none, refl); readable = All-nil IsReadable; shown = tt }
blocks_written section at (given ∷ others) bytes order same (next, text, more, one, readable, parts, put) =
    let behind = one.behind in
    let order_next : magic_order next.magic_number ≡ Some behind.endianness = ap (λ (n : PcapfileSection). magic_order n.magic_number) one.next_is ∙ one.order in
    let same_next : next.interfaces ≡ behind.interfaces = ap (λ (n : PcapfileSection). n.interfaces) one.next_is in
    let tail = blocks_written next behind others more order_next same_next put in
    record {
      blocks = one.block ∷ tail.blocks;
      end = tail.end;
      out = (behind, text, more, one.written at (may_stand given section at order same), parts, tail.out);
      readable = All-cons IsReadable one.block tail.blocks readable tail.readable;
      shown = (block_shown given section behind.endianness one.block one.order one.block_is, tail.shown);
    }

-- The blocks that are read are what was passed for them.
all_read : (items : List Item) (blocks : List Written) (puts : List Given) → AllZip IsRead items blocks → AreWrittenFor blocks puts → AllZip IsReadAs items puts
all_read [] [] [] said shown = tt
all_read (item ∷ items) (block ∷ blocks) (given ∷ puts) said shown = ((block, said.0, shown.0), all_read items blocks puts said.1 shown.1)
all_read [] (block ∷ blocks) puts said shown = absurd said
all_read (item ∷ items) [] puts said shown = absurd said
all_read [] [] (given ∷ puts) said shown = absurd shown
all_read (item ∷ items) (block ∷ blocks) [] said shown = absurd shown

-- The section header that is written first.
first_type : (first : PcapfileSection) (block : Written) → block ≡ of_value (section_block first) → type_written block ≡ types.SectionHeader
first_type first block is = ap type_written is

pub puts_read : (first : PcapfileSection) (others : List Given) (section : PcapfileSection) (bytes : List ℕ) → ArePut section (a_section first ∷ others) bytes
    → (items : List Item) × Front block_format opening items bytes [] × AllZip IsReadAs items (a_section first ∷ others)
puts_read first others section bytes (next, text, more, one, readable, parts, put) =
    let behind = one.behind in
    let order_next : magic_order next.magic_number ≡ Some behind.endianness = ap (λ (n : PcapfileSection). magic_order n.magic_number) one.next_is ∙ one.order in
    let same_next : next.interfaces ≡ behind.interfaces = ap (λ (n : PcapfileSection). n.interfaces) one.next_is in
    let tail = blocks_written next behind others more order_next same_next put in
    let out : GoOut opening_place (one.block ∷ tail.blocks) bytes tail.end = (behind, text, more, one.written opening_place tt, parts, tail.out) in
    let read = mixed_again opening_place tail.end one.block tail.blocks bytes (first_type first one.block one.block_is) (All-cons IsReadable one.block tail.blocks readable tail.readable) out in
    let shown = block_shown (a_section first) first behind.endianness one.block one.order one.block_is in
    (read.0, read.1, all_read read.0 (one.block ∷ tail.blocks) (a_section first ∷ others) read.2 (shown, tail.shown))
