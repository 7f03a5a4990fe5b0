-- Where resynchronization finds blocks, the lenient parser returns the next one.
use Rattle.std.proofs.Common.{◌≡◌, ◌≤◌, ◌<◌, ℕ, suc, zero, List, ◌++◌, length, Option, Some, None, refl, sym, ap, subst, ◌∙◌, arith, append_assoc, inl, inr}
use Rattle.byteorder.specs.Endian.{big_number}
use Rattle.pcap_core.specs.declared.common.Endianness.{Endianness}
use Rattle.pcap_core.specs.declared.common.Endianness.TheVariants.{Big}
use Rattle.pcap_core.specs.Answer.{Number}
use Rattle.pcap_core.specs.Faults.{Fault}
use Rattle.pcap_items.specs.Headed.{HeadReading, good, bad}
use Rattle.pcap_core.proofs.Texts.{number_same}
use Rattle.pcap_blocks.specs.declared.block_type.BlockType.{BlockType}
use Rattle.pcap_blocks.specs.declared.block_type.BlockType.TheVariants as types
use Rattle.pcap_blocks.specs.BlockType.{block_type}
use Rattle.pcap_blocks.specs.InterfaceDescription.{Interface}
use Rattle.pcap_blocks.specs.SectionHeader.{Section, magic_order}
use Rattle.pcap_ng.specs.Frames.{Framed, FrameText, own_order}
use Rattle.pcap_ng.proofs.Refusing.{opening_order}
use Rattle.pcap_tolerant_blocks.specs.Flaws.{Said}
use Rattle.pcap_tolerant_blocks.specs.SectionAsIs.{NoSection, SectionText, short_section, unnamed}
use Rattle.pcap_tolerant_captures.specs.State.{State, opening, within, order_at, Role, begins_section, adds_interface, leaves_all, role_of, Led, MeansFor, Means}
use Rattle.pcap_tolerant_captures.specs.Resync.{frames_in_a_row, HasRoom, HeaderStands, BlocksStand, IsGiven}
use Rattle.pcap_tolerant_captures.proofs.Format.{means_one}

-- A section header has its type number.
header_number : (n : ℕ) → block_type n ≡ types.SectionHeader → n ≡ 0x0A0D0D0A
header_number n is = grind arith

named_there : (e own : Endianness) (number magic : ℕ) → number ≡ 0x0A0D0D0A → own_order e number magic ≡ Some own → magic_order magic ≡ Some own
unfolding own_order
named_there e own number magic is named = subst (λ (n : ℕ). own_order e n magic ≡ Some own) is named

magic_more : (magic : ℕ) (s rest more : List ℕ) → Number big_number 4 magic s rest → Number big_number 4 magic (s ++ more) (rest ++ more)
magic_more magic s rest more x = record { bytes = x.bytes; text = ap (λ (t : List ℕ). t ++ more) x.text ∙ append_assoc x.bytes rest more; length_is = x.length_is; value = x.value }

some_none : (e : Endianness) (o : Option Endianness) → o ≡ Some e → o ≡ None → ⊥
some_none e o is none = let no : Some e ≡ None = sym is ∙ none in absurd cc

-- A section header in its frame names its byte order.
module _ (e : Endianness) (b : Framed) (s rest : List ℕ) (frame : FrameText e b s rest) (is : b.type_ ≡ types.SectionHeader) where
  named : magic_order frame.head.magic ≡ Some b.endianness
  named = named_there e b.endianness frame.number frame.head.magic (header_number frame.number (sym frame.type_is ∙ is)) frame.head.own_is

  magic_names : (magic : ℕ) (after : List ℕ) → Number big_number 4 magic b.body after → magic_order magic ≡ Some b.endianness
  magic_names magic after number =
      let here : Number big_number 4 magic frame.after (after ++ frame.tail.after_body) =
      subst (λ (t : List ℕ). Number big_number 4 magic t (after ++ frame.tail.after_body)) (sym frame.tail.body_is) (magic_more magic b.body after frame.tail.after_body number)
      in
      let same = number_same big_number 4 magic frame.head.magic frame.after (after ++ frame.tail.after_body) frame.head.more here frame.head.magic_is in
      ap magic_order same.0 ∙ named

  pub order_known : (fault : Fault) → 16 ≤ length b.body → NoSection b.body fault → ⊥
  order_known fault room (short_section short) = omega (arith, room, short)
  order_known fault room (unnamed magic after long number none) = some_none b.endianness (magic_order magic) (magic_names magic after number) none

  -- The section that the block begins has the block's byte order.
  pub section_named : (section : Section) (flaws : List Said) (rest : List ℕ) → SectionText section flaws b.body rest → magic_order section.magic ≡ Some b.endianness
  section_named section flaws rest text = magic_names section.magic text.after_magic text.magic_is

pub section_role : (t : BlockType) → role_of t ≡ begins_section → t ≡ types.SectionHeader
section_role t e = grind arith

module _ (q : State) (b : Framed) where
  led_in : (r : HeadReading Led) → Means q b r → ((fault : Fault) → Means q b (bad fault) → ⊥) → (led : Led) × Means q b (good led)
  led_in (good led) means none = (led, means)
  led_in (bad fault) means none = absurd (none fault means)

  -- A block that nothing refuses leads on.
  pub led_unless : ((fault : Fault) → Means q b (bad fault) → ⊥) → (led : Led) × Means q b (good led)
  led_unless none = let one = means_one q b in led_in one.value one.holds none

-- Nothing refuses a section header that has the sixteen bytes before its options.
module _ (q : State) (s rest : List ℕ) (b : Framed) (frame : FrameText (order_at q) b s rest) where
  given_unless : ((fault : Fault) → Means q b (bad fault) → ⊥) → IsGiven q s
  given_unless none = let led = led_unless q b none in (record { block = b; led = led.0 }, rest, record { frame = frame; means = led.1 })

  header_given : b.type_ ≡ types.SectionHeader → 16 ≤ length b.body → IsGiven q s
  header_given is room =
      given_unless (λ fault means. order_known (order_at q) b s rest frame is fault room (subst (λ (role : Role). MeansFor role q b (bad fault)) (ap role_of is) means))

module _ (section : Section) (interfaces : List (Option Interface)) where
  abbrev q : State
  q = within section interfaces

  pub not_refused : (role : Role) (b : Framed) (fault : Fault) → ((role ≡ begins_section) → NoSection b.body fault → ⊥) → MeansFor role q b (bad fault) → ⊥
  not_refused begins_section b fault none means = none refl means
  not_refused adds_interface b fault none means = means
  not_refused leaves_all b fault none means = means

  frame_given : (s rest : List ℕ) (b : Framed) → FrameText (order_at q) b s rest → HasRoom b → IsGiven q s
  frame_given s rest b frame room =
      given_unless q s rest b frame (λ fault means. not_refused (role_of b.type_) b fault (λ begins. let is = section_role b.type_ begins in order_known (order_at q) b s rest frame is fault (room is)) means)

  pub standing_given : (k : ℕ) (s : List ℕ) → 0 < k → BlocksStand (order_at q) k s → IsGiven q s
  unfolding frames_in_a_row
  standing_given k s some (inl header) = header_given q s header.rest header.block header.frame header.is_header header.room
  standing_given zero s some (inr row) = absurd (omega (arith, some))
  standing_given (suc k) s some (inr row) = frame_given s row.1 row.0 row.2 row.3

pub header_opens : (s : List ℕ) → HeaderStands Big s → IsGiven opening s
header_opens s header =
    header_given opening s header.rest header.block (subst (λ (e : Endianness). FrameText e header.block s header.rest) (sym opening_order) header.frame) header.is_header header.room
