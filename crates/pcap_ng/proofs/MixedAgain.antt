-- Blocks of values and of bytes that were written one after another are read as they were.
use Rattle.std.proofs.Common.{◌≡◌, ◌≤◌, ℕ, List, [], ◌∷◌, ◌++◌, length, length-append, take, refl, sym, ap, subst, ◌∙◌, arith}
use Rattle.std.specs.Prelude.{All, Option, Some, Ok}
use Rattle.std.specs.List.{AllZip}
use Rattle.std.proofs.lemmas.List.Elements.{All-head, All-tail}
use Rattle.byteorder.specs.Endian.{big_number}
use Rattle.byteorder.specs.Numbers.{big_from-append, big_from-take}
use Rattle.pcap_core.specs.declared.common.Endianness.{Endianness}
use Rattle.pcap_core.specs.Answer.{Number, whole}
use Rattle.pcap_items.specs.Format.{Front, Texts, state_after}
use Rattle.pcap_items.specs.Headed.{good}
use Rattle.pcap_items.proofs.Formats.{nothing_no_text}
use Rattle.pcap_blocks.specs.declared.block_type.BlockType.{BlockType}
use Rattle.pcap_blocks.specs.declared.block_type.BlockType.TheVariants as types
use Rattle.pcap_blocks.specs.BlockType.{block_type, type_number}
use Rattle.pcap_blocks.specs.InterfaceDescription.{Interface}
use Rattle.pcap_blocks.specs.ParsedBlock.{SectionBody, InterfaceBody, OldPacketBody, SimpleBody, NamesBody, StatisticsBody, EnhancedBody, JournalBody, OtherBody}
use Rattle.pcap_blocks.specs.SectionHeader.{Section, magic_order}
use Rattle.pcap_written.specs.declared.place.Place.{Place}
use Rattle.pcap_written.specs.Bodies.{text_of, type_of}
use Rattle.pcap_core.specs.Codec.{number_bytes}
use Rattle.pcap_written.specs.Mixed.{GoesOut, GoOut, Written, of_bytes, of_value, type_written}
use Rattle.pcap_written.specs.Raw.{Raw, TellsRaw, raw_text}
use Rattle.pcap_written.specs.Writing.{interfaces_after}
use Rattle.pcap_ng.specs.Blocks.{Item, BlockText, block_format}
use Rattle.pcap_ng.specs.Bodies.{SaysOfBody}
use Rattle.pcap_ng.specs.Frames.{Framed, FrameText}
use Rattle.pcap_ng.specs.RawBlocks.{framed_raw}
use Rattle.pcap_ng.specs.State.{State, opening, order_at, within, Means}
use Rattle.pcap_ng.specs.Written.{IsReadable, IsReadAs, StandsAt}
use Rattle.pcap_ng.proofs.BlockFormat.{blocks_lawful}
use Rattle.pcap_ng.proofs.MarkedLists.{block_unmarked}
use Rattle.pcap_ng.proofs.RawAgain.{raw_again, section_again}
use Rattle.pcap_ng.proofs.WrittenAgain.{item_in, one_again, order_within, says_again, section_read}

-- The number at the front is that of the first four bytes.
first_number : (n : ℕ) (s rest : List ℕ) → Number big_number 4 n s rest → big_number 4 (take 4 s) ≡ n
first_number n s rest x =
    let long : 4 ≤ length x.bytes = omega (arith, x.length_is) in
    big_from-take 0 4 4 s (omega arith) ∙ ap (big_number 4) x.text ∙ big_from-append 4 x.bytes rest long ∙ x.value

-- A block that was written at a place is read under this state, and the writer's place after it agrees with the state to which it
-- leads.
record IsReadHere (q : State) (behind : Place) (block : Written) (text rest : List ℕ) : Type 0 where
  framed : Framed
  section : Section
  interfaces : List Interface
  names : magic_order section.magic ≡ Some behind.endianness
  counted : length interfaces ≡ behind.interfaces
  read : BlockText q (record { block = framed; after = within section interfaces }) (text ++ rest) rest
  as_it_was : IsReadAs (record { block = framed; after = within section interfaces }) block

-- IsLed q behind b: a block of bytes leads to a section whose state agrees with the writer's place after it.
record IsLed (q : State) (behind : Place) (b : Framed) : Type 0 where
  section : Section
  interfaces : List Interface
  names : magic_order section.magic ≡ Some behind.endianness
  counted : length interfaces ≡ behind.interfaces
  means : Means q b (good (within section interfaces))

-- A section header as a block of bytes.
abbrev header_raw : Endianness → List ℕ → Raw
header_raw e body = record { type_ = types.SectionHeader; endianness = e; body = body }

-- The body of a section header names the byte order of the place after it.
section_led : (q : State) (behind : Place) (e : Endianness) (body : List ℕ) → magic_order (big_number 4 (take 4 body)) ≡ Some behind.endianness
    → behind.interfaces ≡ 0
    → ((section : Section) (rest : List ℕ) → SaysOfBody (framed_raw (header_raw e body)) (whole (SectionBody section) rest)
    → Means q (framed_raw (header_raw e body)) (good (within section [])))
    → IsReadable (of_bytes (header_raw e body)) → IsLed q behind (framed_raw (header_raw e body))
section_led q behind e body named none means readable =
    let read = readable refl in
    let text = read.2.2 in
    let section = read.2.0 in
    let says : SaysOfBody (framed_raw (header_raw e body)) (whole (SectionBody section) read.1) = (section, refl, text) in
    let magic : section.magic ≡ big_number 4 (take 4 body) = sym (first_number section.magic body text.after_magic text.magic_is) in
    record { section = section; interfaces = []; names = ap magic_order magic ∙ named; counted = sym none; means = means section read.1 says }

-- A block of bytes is read if its frame is read and it leads to the place after it.
raw_here : (q : State) (behind : Place) (raw : Raw) (text rest : List ℕ) → text ≡ raw_text raw → IsLed q behind (framed_raw raw)
    → FrameText (order_at q) (framed_raw raw) (raw_text raw ++ rest) rest
    → IsReadHere q behind (of_bytes raw) text rest
raw_here q behind raw text rest is_text led frame =
    let item : Item = record { block = framed_raw raw; after = within led.section led.interfaces } in
    record {
      framed = framed_raw raw;
      section = led.section;
      interfaces = led.interfaces;
      names = led.names;
      counted = led.counted;
      read = subst (λ (t : List ℕ). BlockText q item (t ++ rest) rest) (sym is_text) (record { frame = frame; means = led.means });
      as_it_was = refl;
    }

module _ (s : Section) (is : List Interface) (at behind : Place) (names : magic_order s.magic ≡ Some at.endianness) (counted : length is ≡ at.interfaces) where
  abbrev here : State
  here = within s is

  -- A block of bytes that is neither a section header nor an interface description leaves what is in force unchanged.
  abbrev stays : (type : BlockType) (e : Endianness) (body : List ℕ) → ◌≡◌ {A = Option Endianness} (Some at.endianness) (Some behind.endianness)
      → behind.interfaces ≡ at.interfaces
      → Means here (framed_raw (record { type_ = type; endianness = e; body = body })) (good here)
      → IsLed here behind (framed_raw (record { type_ = type; endianness = e; body = body }))
  stays type e body same still means = record { section = s; interfaces = is; names = names ∙ same; counted = counted ∙ sym still; means = means }

  raw_led : (type : BlockType) (e : Endianness) (body : List ℕ) → TellsRaw at (record { type_ = type; endianness = e; body = body }) (Ok behind)
      → IsReadable (of_bytes (record { type_ = type; endianness = e; body = body }))
      → IsLed here behind (framed_raw (record { type_ = type; endianness = e; body = body }))
  raw_led types.SectionHeader e body (fit, place, same) readable = section_led here behind e body place.0.named place.1 (λ section rest says. (SectionBody section, rest, says, refl)) readable
  raw_led types.InterfaceDescription e body (fit, place, same) readable =
      let read = readable refl in
      let interface = read.2.0 in
      let says : SaysOfBody (framed_raw (record { type_ = types.InterfaceDescription; endianness = e; body = body })) (whole (InterfaceBody interface) read.1) = (interface, refl, read.2.2) in
      record {
        section = s;
        interfaces = is ++ interface ∷ [];
        names = names ∙ place.0.named;
        counted = omega (arith, length-append is (interface ∷ []), counted, place.1);
        means = (InterfaceBody interface, read.1, says, refl);
      }
  raw_led types.Packet e body (fit, place, same) readable = stays types.Packet e body place.0.named place.1 refl
  raw_led types.SimplePacket e body (fit, place, same) readable = stays types.SimplePacket e body place.0.named place.1 refl
  raw_led types.NameResolution e body (fit, place, same) readable = stays types.NameResolution e body place.0.named place.1 refl
  raw_led types.InterfaceStatistics e body (fit, place, same) readable = stays types.InterfaceStatistics e body place.0.named place.1 refl
  raw_led types.EnhancedPacket e body (fit, place, same) readable = stays types.EnhancedPacket e body place.0.named place.1 refl
  raw_led types.SystemdJournalExport e body (fit, place, same) readable = stays types.SystemdJournalExport e body place.0.named place.1 refl
  raw_led (types.Unknown n) e body (fit, place, same) readable = stays (types.Unknown n) e body place.0.named place.1 refl

  read_here : (block : Written) (text rest : List ℕ) → IsReadable block → GoesOut at block text behind → IsReadHere here behind block text rest
  read_here (of_value body) text rest readable one =
      let e = behind.endianness in
      let named = one.place.0.named in
      let read = one_again s is at.endianness e body rest names named one.fit in
      let item = item_in e body (within read.section read.interfaces) in
      let there : BlockText here item (text ++ rest) rest = subst (λ (t : List ℕ). BlockText here item (t ++ rest) rest) (sym one.text) (block_unmarked here item (text_of (number_bytes e) body ++ rest) rest read.text) in
      record {
        framed = item.block;
        section = read.section;
        interfaces = read.interfaces;
        names = read.names;
        counted = read.counted ∙ ap (λ (n : ℕ). interfaces_after n (type_of body)) counted ∙ sym one.place.1;
        read = there;
        as_it_was = says_again at.endianness e body named one.fit;
      }
  read_here (of_bytes raw) text rest readable (tells, is_text) =
      let b = framed_raw raw in
      let there = raw_again at behind raw.type_ raw.endianness raw.body rest tells in
      let frame : FrameText (order_at here) b (raw_text raw ++ rest) rest =
      subst (λ (o : Endianness). FrameText o b (raw_text raw ++ rest) rest) (order_within at.endianness s is names) there in
      raw_here here behind raw text rest is_text (raw_led raw.type_ raw.endianness raw.body tells readable) frame

-- A section header is read at the beginning of a capture.
first_here : (at behind : Place) (block : Written) (text rest : List ℕ) → type_written block ≡ types.SectionHeader → IsReadable block
    → GoesOut at block text behind → IsReadHere opening behind block text rest
first_here at behind (of_value (SectionBody s)) text rest is readable one =
    let e = behind.endianness in
    let body = SectionBody s in
    let named = one.place.0.named in
    let item = item_in e body (within s []) in
    let read = block_unmarked opening item (text_of (number_bytes e) body ++ rest) rest (section_read opening e s rest named one.fit) in
    record {
      framed = item.block;
      section = s;
      interfaces = [];
      names = named;
      counted = sym one.place.1;
      read = subst (λ (t : List ℕ). BlockText opening item (t ++ rest) rest) (sym one.text) read;
      as_it_was = says_again at.endianness e body named one.fit;
    }
first_here at behind (of_value (InterfaceBody b)) text rest is readable one = absurd cc
first_here at behind (of_value (OldPacketBody b)) text rest is readable one = absurd cc
first_here at behind (of_value (SimpleBody b)) text rest is readable one = absurd cc
first_here at behind (of_value (NamesBody b)) text rest is readable one = absurd cc
first_here at behind (of_value (StatisticsBody b)) text rest is readable one = absurd cc
first_here at behind (of_value (EnhancedBody b)) text rest is readable one = absurd cc
first_here at behind (of_value (JournalBody b)) text rest is readable one = absurd cc
first_here at behind (of_value (OtherBody u)) text rest is readable one =
    let wrong : types.SectionHeader ≡ types.Unknown 0x0A0D0D0A = subst (λ (t : BlockType). block_type (type_number t) ≡ types.Unknown (type_number t)) is one.fit.fit.unnamed in
    absurd cc
first_here at behind (of_bytes raw) text rest is readable one = raw_first at behind raw.type_ raw.endianness raw.body text rest is readable one
  where
    raw_first : (at behind : Place) (type : BlockType) (e : Endianness) (body text rest : List ℕ) → type ≡ types.SectionHeader
        → IsReadable (of_bytes (record { type_ = type; endianness = e; body = body }))
        → GoesOut at (of_bytes (record { type_ = type; endianness = e; body = body })) text behind
        → IsReadHere opening behind (of_bytes (record { type_ = type; endianness = e; body = body })) text rest
    raw_first at behind types.SectionHeader e body text rest is readable ((fit, place, same), is_text) =
        let named : magic_order (big_number 4 (take 4 body)) ≡ Some e = place.0.named ∙ ap (λ (o : Endianness). Some o) same in
        let led = section_led opening behind e body place.0.named place.1 (λ section rest says. (SectionBody section, rest, says, refl)) readable in
        raw_here opening behind (header_raw e body) text rest is_text led (section_again (order_at opening) e body rest fit named)
    raw_first at behind types.InterfaceDescription e body text rest is readable one = absurd cc
    raw_first at behind _ e body text rest is readable one = absurd cc

-- AreReadHere q end blocks bytes: written blocks are read from their bytes as they were, under this state.
record AreReadHere (q : State) (end : Place) (blocks : List Written) (bytes : List ℕ) : Type 0 where
  items : List Item
  texts : Texts block_format q items bytes []
  as_they_were : AllZip IsReadAs items blocks
  stands : StandsAt end (state_after block_format q items)

all_here : (s : Section) (is : List Interface) (at : Place) (blocks : List Written) (bytes : List ℕ) (end : Place)
    → magic_order s.magic ≡ Some at.endianness → length is ≡ at.interfaces
    → All IsReadable blocks → GoOut at blocks bytes end → AreReadHere (within s is) end blocks bytes
unfolding block_format
all_here s is at [] bytes end names counted readable out =
    let there : StandsAt at (within s is) = (sym (order_within at.endianness s is names), counted) in
    record { items = []; texts = out.0; as_they_were = tt; stands = subst (λ (p : Place). StandsAt p (within s is)) (sym out.1) there }
all_here s is at (block ∷ blocks) bytes end names counted readable (behind, text, more, one, parts, others) =
    let read = read_here s is at behind names counted block text more (All-head IsReadable block blocks readable) one in
    let item : Item = record { block = read.framed; after = within read.section read.interfaces } in
    let tail = all_here read.section read.interfaces behind blocks more end read.names read.counted (All-tail IsReadable block blocks readable) others in
    let there : BlockText (within s is) item bytes more = subst (λ (t : List ℕ). BlockText (within s is) item t more) (sym parts) read.read in
    record { items = item ∷ tail.items; texts = (more, there, tail.texts); as_they_were = (read.as_it_was, tail.as_they_were); stands = tail.stands }

-- A capture of blocks of values and of bytes is read as it was written.
pub mixed_again : (at end : Place) (first : Written) (blocks : List Written) (bytes : List ℕ) → type_written first ≡ types.SectionHeader
    → All IsReadable (first ∷ blocks) → GoOut at (first ∷ blocks) bytes end
    → (items : List Item) × Front block_format opening items bytes [] × AllZip IsReadAs items (first ∷ blocks) × StandsAt end (state_after block_format opening items)
unfolding block_format
mixed_again at end first blocks bytes is readable (behind, text, more, one, parts, others) =
    let read = first_here at behind first text more is (All-head IsReadable first blocks readable) one in
    let item : Item = record { block = read.framed; after = within read.section read.interfaces } in
    let tail = all_here read.section read.interfaces behind blocks more end read.names read.counted (All-tail IsReadable first blocks readable) others in
    let there : BlockText opening item bytes more = subst (λ (t : List ℕ). BlockText opening item t more) (sym parts) read.read in
    let front : Front block_format opening (item ∷ tail.items) bytes [] = record {
      texts = (more, there, tail.texts);
      longest = λ other after t. nothing_no_text block_format blocks_lawful _ other after t;
    } in
    (item ∷ tail.items, front, (read.as_it_was, tail.as_they_were), tail.stands)
