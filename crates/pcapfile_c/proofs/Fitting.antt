-- Written blocks fit into the room and are blocks of the format.
use Rattle.std.proofs.Common.{◌≡◌, ◌≢◌, ℕ, ℤ, ◌+◌, ◌-◌, ◌<◌, ◌≤◌, ◌^◌, List, [], ◌∷◌, length, take, drop, refl, sym, ap, subst, ◌∙◌, append-nil, arith, zero, suc, pos, negsuc, Some, None, inl, inr, w32, to_z, of_z}
use Rattle.std.specs.Prelude.{◌==◌, if◌then◌else◌, Bool, false, Any, FitsSigned}
use Rattle.std.specs.Int.{w64, cast_unsigned}
use Rattle.std.proofs.Math.Nat.{lt_of_not-le}
use Rattle.std.proofs.lemmas.Bool.{ne_eqb}
use Rattle.std.proofs.lemmas.List.{take_at, drop_at}
use Rattle.std.proofs.lemmas.List.Elements.{All-nil, All-cons}
use Rattle.std.proofs.lemmas.Option.{same_Some}
use Rattle.pcap_core.specs.declared.common.Endianness.{Endianness}
use Rattle.pcap_core.specs.declared.link.DataLink.{DataLink}
use Rattle.pcap_core.specs.Answer.{number_in}
use Rattle.pcap_core.specs.Codec.{number_bytes}
use Rattle.pcap_core.specs.Link.{Link}
use Rattle.pcap_core.proofs.Codec.{codec}
use Rattle.pcap_options.specs.InterfaceOption.{interface_description}
use Rattle.pcap_blocks.specs.SectionHeader.{magic_order}
use Rattle.pcap_options.specs.Values.{Entry, Integer}
use Rattle.pcap_written.specs.Bodies.{text_of}
use Rattle.pcap_written.specs.Fits.{AreFit, IsFitOption}
use Rattle.pcap_written.specs.Mixed.{of_value}
use Rattle.pcap_written.proofs.Packets.{packet_fit}
use Rattle.pcapfile_values.specs.declared.blocks.PcapfileSection.{PcapfileSection}
use Rattle.pcapfile_values.specs.declared.bodies.PcapfileInterface.{PcapfileInterface}
use Rattle.pcapfile_values.specs.declared.bodies.PcapfileNgPacket.{PcapfileNgPacket}
use Rattle.pcapfile_values.specs.declared.errors.PcapfileError.{PcapfileError}
use Rattle.pcapfile_values.specs.declared.reasons.Reason.{Reason}
use Rattle.pcapfile_values.specs.declared.reasons.Reason.TheVariants as reasons
use Rattle.pcapfile_values.specs.BlockTexts.{PutsAt, clock_options, section_block, interface_block, packet_block, resolution_byte}
use Rattle.pcapfile_values.specs.Reasons.{IsRefused}
use Rattle.pcapfile_values.proofs.Parts.{clock_short, interface_long, section_long}
use Rattle.pcapfile_c.specs.declared.options.PcapfileOption.{PcapfileOption}
use Rattle.pcapfile_c.specs.declared.parts.Parts.{Parts}
use Rattle.pcapfile_c.specs.PutParts.{IsFitParts, IsListed, IsUnlisted, PutsParts, parts_body, parts_text}
use Rattle.pcapfile_c.specs.Putting.{Given, IsMisused, IsTextOf, PutsBlock, a_section, an_interface, a_packet}
use Rattle.pcapfile_c.proofs.PutParts.{begins}
use Rattle.pcapfile_c.specs.Readers.{block_writer, writer}

resolution_fit : (e : Endianness) (resolution : ℕ) → IsFitOption (number_in e) (number_bytes e) interface_description (record { code = 9; value = Integer resolution })
resolution_fit e resolution = record { code = omega arith; no_mark = λ is. omega (arith, is); short = omega arith; kept = refl }

offset_fit : (e : Endianness) (offset : ℕ) → offset < 2 ^ 64 → IsFitOption (number_in e) (number_bytes e) interface_description (record { code = 14; value = Integer offset })
offset_fit e offset fits =
    let write = number_bytes e in
    let long : length (write 8 offset) ≡ 8 = (codec e).wide 8 offset in
    let again : number_in e 8 (write 8 offset) ≡ offset = ap (number_in e 8) (sym (append-nil (write 8 offset))) ∙ (codec e).again 8 offset [] (omega (arith, fits)) in
    record { code = omega arith; no_mark = λ is. omega (arith, is); short = omega (arith, long); kept = rw (long, again) refl }

clock_fit : (e : Endianness) (resolution offset : ℕ) → offset < 2 ^ 64 → AreFit (number_in e) (number_bytes e) interface_description (clock_options resolution offset)
clock_fit e resolution zero fits =
    let IsFit = IsFitOption (number_in e) (number_bytes e) interface_description in
    All-cons IsFit (record { code = 9; value = Integer resolution }) [] (resolution_fit e resolution) (All-nil IsFit)
clock_fit e resolution (suc n) fits =
    let IsFit = IsFitOption (number_in e) (number_bytes e) interface_description in
    let moved : suc n ≢ 0 = λ is. omega (arith, is) in
    let is : (suc n == 0) ≡ false = ne_eqb (suc n) 0 moved in
    let unit : Entry = record { code = 9; value = Integer resolution } in
    let offset : Entry = record { code = 14; value = Integer (suc n) } in
    subst (λ (none : Bool). AreFit (number_in e) (number_bytes e) interface_description (unit ∷ (if none then [] else offset ∷ []))) (sym is) (All-cons IsFit unit (offset ∷ []) (resolution_fit e resolution) (All-cons IsFit offset [] (offset_fit e (suc n) fits) (All-nil IsFit)))

bits_fit : (z : ℤ) → FitsSigned w64 z → cast_unsigned w64 z < 2 ^ 64
bits_fit (pos n) fits = omega (arith, fits.sfits)
bits_fit (negsuc n) fits = omega arith

-- A magic number that names a byte order has four bytes.
pub magic_fits : (n : ℕ) (e : Endianness) → magic_order n ≡ Some e → n < 2 ^ 32
unfolding magic_order
magic_fits n e names = lt_of_not-le (λ (big : 2 ^ 32 ≤ n).
    let not_big : (n == 0x1A2B3C4D) ≡ false = ne_eqb n 0x1A2B3C4D (λ is. omega (arith, is, big)) in
    let not_little : (n == 0x4D3C2B1A) ≡ false = ne_eqb n 0x4D3C2B1A (λ is. omega (arith, is, big)) in
    let none : magic_order n ≡ None = rw (not_big, not_little) refl in
    let wrong : None ≡ Some e = sym none ∙ names in
    absurd cc)

pub section_is_text : (e : Endianness) (s : PcapfileSection) → magic_order s.magic_number ≡ Some e → s.version_major < 2 ^ 16 → s.version_minor < 2 ^ 16
    → IsTextOf (a_section s) s (record s { interfaces = 0 }) (text_of (number_bytes e) (section_block s))
section_is_text e s order major minor =
    let unknown : FitsSigned w64 (negsuc 0) = record { sfits = omega arith } in
    record {
      block = of_value (section_block s);
      behind = record { endianness = e; interfaces = 0 };
      block_is = refl;
      written = λ at may. record {
        place = (record { named = order; known = λ id is. absurd cc; room = omega arith }, refl);
        fit = record {
          fit = record { magic = magic_fits s.magic_number e order; major = major; minor = minor; length_fits = unknown; options = λ k d lt. absurd (omega (arith, lt)) };
          short = omega (arith, section_long (number_bytes e) (codec e).wide s);
        };
        text = refl;
      };
      order = order;
      next_is = refl;
    }

pub interface_is_text : (e : Endianness) (link : DataLink) (s : PcapfileSection) (i : PcapfileInterface) → magic_order s.magic_number ≡ Some e → Link i.link link → i.link < 2 ^ 16 → i.ts_exponent < 128
    → i.snaplen < 2 ^ 32 → FitsSigned w64 i.ts_offset → s.interfaces + 1 < 2 ^ 32
    → IsTextOf (an_interface i) s (record s { interfaces = s.interfaces + 1 }) (text_of (number_bytes e) (interface_block link i))
interface_is_text e link s i order link_is number exponent snaplen offset room =
    let bits = cast_unsigned w64 i.ts_offset in
    record {
      block = of_value (interface_block link i);
      behind = record { endianness = e; interfaces = s.interfaces + 1 };
      block_is = (link, record { named = link_is; exponent = exponent; offset = offset }, refl);
      written = λ at may. record {
        place = (record { named = sym may.0 ∙ order; known = λ id is. absurd cc; room = omega (arith, may.1, room) }, ap (λ (n : ℕ). n + 1) may.1);
        fit = record {
          fit = record { plain = link_is.plain; link = omega (arith, link_is.number, number); reserved = omega arith; snaplen = snaplen; options = clock_fit e (resolution_byte i.ts_base i.ts_exponent) bits (bits_fit i.ts_offset offset) };
          short = omega (arith, interface_long (number_bytes e) (codec e).wide link i, clock_short bits);
        };
        text = refl;
      };
      order = order;
      next_is = refl;
    }

pub packet_is_text : (e : Endianness) (s : PcapfileSection) (p : PcapfileNgPacket) → magic_order s.magic_number ≡ Some e → p.interface_id < s.interfaces → s.interfaces < 2 ^ 32
    → p.timestamp < 2 ^ 64 → p.orig_len < 2 ^ 32 → length p.bytes.now ≤ 4294967260
    → IsTextOf (a_packet p) s s (text_of (number_bytes e) (packet_block p))
packet_is_text e s p order known room time original short = record {
  block = of_value (packet_block p);
  behind = record { endianness = e; interfaces = s.interfaces };
  block_is = refl;
  written = λ at may. record {
    place = (
      record { named = sym may.0 ∙ order; known = λ id is. subst (λ (n : ℕ). n < at.interfaces) (same_Some p.interface_id id is) (omega (arith, known, may.1)); room = omega (arith, room, may.1) },
      may.1,
    );
    fit = packet_fit e p.interface_id p.timestamp p.orig_len p.bytes.now (omega (arith, known, room)) time original short;
    text = refl;
  };
  order = order;
  next_is = refl;
}

-- The result for a block that was written.
pub puts_whole : (Stands : Reason → Type 0) (given : Given) (section next : PcapfileSection) (text room now : List ℕ) (n before : ℕ) (error : PcapfileError) → IsTextOf given section next text → n ≡ length text
    → PutsAt 0 text room now → PutsBlock Stands given (block_writer section room before error) (block_writer next now n error) (pos 0)
puts_whole Stands given section next text room now n before error is long put = inl (refl, refl, text, is, begins n long put)

-- The result for a room that is too short.
pub puts_nothing : (Stands : Reason → Type 0) (given : Given) (section after : PcapfileSection) (text room : List ℕ) (n before : ℕ) (error told : PcapfileError) (status : ℤ) → IsTextOf given section after text → n ≡ length text
    → length room < n → told.rule ≡ 0 → told.missing ≡ n - length room → status ≡ pos 9 → PutsBlock Stands given (block_writer section room before error) (block_writer section room before told) (to_z w32 (of_z w32 status))
puts_nothing Stands given section after text room n before error told status is long few rule missing said =
    inr (refl, refl, refl, inl (ap (λ (z : ℤ). to_z w32 (of_z w32 z)) said, text, after, is, record { no_rule = rule; some = omega (arith, few, missing); together = omega (arith, few, missing, long) }))

-- The result for a block with a reason against it.
pub puts_refused : (Stands : Reason → Type 0) (given : Given) (section : PcapfileSection) (room : List ℕ) (before : ℕ) (error told : PcapfileError) (status : ℤ) (reason : Reason) → Stands reason → IsRefused reason told status
    → PutsBlock Stands given (block_writer section room before error) (block_writer section room before told) (to_z w32 (of_z w32 status))
puts_refused Stands given section room before error told status reason stands refused =
    inr (refl, refl, refl, inr (inl (reason, stands, record { status_is = ap (λ (z : ℤ). to_z w32 (of_z w32 z)) refused.status_is; rule_is = refused.rule_is; none_missing = refused.none_missing })))

-- The result for what the call can't write.
pub puts_misused : (Stands : Reason → Type 0) (given : Given) (section : PcapfileSection) (room : List ℕ) (before : ℕ) (error : PcapfileError) → IsMisused given
    → PutsBlock Stands given (block_writer section room before error) (block_writer section room before error) (pos 10)
puts_misused Stands given section room before error misused = inr (refl, refl, refl, inr (inr (refl, refl, misused)))

-- A status as a call returns it.
abbrev kept : ℤ → ℤ
kept z = to_z w32 (of_z w32 z)

-- The results for a block from its parts.
module _ (Stands : Reason → Type 0) (given : Given) (section next : PcapfileSection) (e : Endianness) (p : Parts) (room now : List ℕ) (before after : ℕ) (error told : PcapfileError) (z : ℤ)
    (is : IsFitParts (number_bytes e) p → IsTextOf given section next (parts_text (number_bytes e) p)) (puts : PutsParts (number_bytes e) p (writer room before error) (writer now after told) z) where
  -- It was written.
  pub parts_done : of_z w32 z ≡ 0 → PutsBlock Stands given (block_writer section room before error) (block_writer next now after told) (pos 0)
  parts_done done =
      elim puts [
        | inl x ↦ inl (refl, x.1, parts_text (number_bytes e) p, is x.2, x.3)
        | inr (same_room, same_written, rest) ↦
            elim rest [
              | inl x ↦ absurd (omega (arith, sym (ap (of_z w32) x.0) ∙ done))
              | inr (inl x) ↦ absurd (omega (arith, sym (ap (of_z w32) x.1.status_is) ∙ done))
              | inr (inr x) ↦ absurd (omega (arith, sym (ap (of_z w32) x.0) ∙ done))
            ]
      ]

  module _ (long : 2 ^ 32 ≤ length (parts_body (number_bytes e) p) + 12 → Stands reasons.BlockTooLong) (misused : Any (IsUnlisted p.clocked) p.options.now → IsMisused given) where
    -- It wasn't written.
    pub parts_kept : (of_z w32 z ≡ 0 → ⊥) → PutsBlock Stands given (block_writer section room before error) (block_writer section now after told) (kept z)
    parts_kept not =
        elim puts [
          | inl x ↦ absurd (not (ap (of_z w32) x.0))
          | inr (same_room, same_written, rest) ↦
              elim rest [
                | inl x ↦ inr (refl, same_room, same_written, inl (ap kept x.0, parts_text (number_bytes e) p, next, is x.1, x.2))
                | inr (inl x) ↦
                    inr (refl, same_room, same_written, inr (inl (reasons.BlockTooLong, long x.0, record { status_is = ap kept x.1.status_is; rule_is = x.1.rule_is; none_missing = x.1.none_missing })))
                | inr (inr x) ↦ inr (refl, same_room, same_written, inr (inr (ap kept x.0, x.1, misused x.2)))
              ]
        ]

    -- It was written, or not, and the section is the same.
    pub parts_same : next ≡ section → PutsBlock Stands given (block_writer section room before error) (block_writer section now after told) (kept z)
    parts_same same =
        elim puts [
          | inl x ↦ inl (ap kept x.0, x.1, parts_text (number_bytes e) p, subst (λ (s : PcapfileSection). IsTextOf given section s (parts_text (number_bytes e) p)) same (is x.2), x.3)
          | inr (same_room, same_written, rest) ↦
              elim rest [
                | inl x ↦ inr (refl, same_room, same_written, inl (ap kept x.0, parts_text (number_bytes e) p, next, is x.1, x.2))
                | inr (inl x) ↦
                    inr (refl, same_room, same_written, inr (inl (reasons.BlockTooLong, long x.0, record { status_is = ap kept x.1.status_is; rule_is = x.1.rule_is; none_missing = x.1.none_missing })))
                | inr (inr x) ↦ inr (refl, same_room, same_written, inr (inr (ap kept x.0, x.1, misused x.2)))
              ]
        ]
