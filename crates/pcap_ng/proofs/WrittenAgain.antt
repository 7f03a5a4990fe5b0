-- A capture that was written is read as it was.
use Rattle.std.proofs.Common.{◌≡◌, ◌≢◌, ℕ, ◌<◌, ◌%◌, ◌^◌, List, [], ◌∷◌, ◌++◌, length, length-append, map, take, refl, sym, ap, subst, ◌∙◌, arith}
use Rattle.std.specs.Prelude.{◌==◌, false, Option, Some, None}
use Rattle.std.specs.List.{AllZip}
use Rattle.std.proofs.lemmas.Bool.{ne_eqb}
use Rattle.byteorder.specs.Endian.{big_number}
use Rattle.byteorder.specs.Numbers.{big_from-take}
use Rattle.pcap_core.specs.declared.common.Endianness.{Endianness}
use Rattle.pcap_core.specs.declared.common.Endianness.TheVariants.{Big}
use Rattle.pcap_core.specs.Answer.{number_in, whole}
use Rattle.pcap_core.specs.Codec.{number_bytes}
use Rattle.pcap_items.specs.Format.{Texts, Front}
use Rattle.pcap_core.proofs.Codec.{codec}
use Rattle.pcap_items.proofs.Formats.{nothing_no_text, texts_extend}
use Rattle.pcap_blocks.specs.declared.block_type.BlockType.{BlockType}
use Rattle.pcap_blocks.specs.declared.block_type.BlockType.TheVariants as types
use Rattle.pcap_blocks.specs.BlockType.{block_type, type_number}
use Rattle.pcap_options.specs.InterfaceOption.{interface_description}
use Rattle.pcap_blocks.specs.InterfaceDescription.{Interface}
use Rattle.pcap_options.specs.SectionOption.{section_header}
use Rattle.pcap_blocks.specs.SectionHeader.{Section, magic_order}
use Rattle.pcap_blocks.specs.ParsedBlock.{Body, SectionBody, InterfaceBody, OldPacketBody, SimpleBody, NamesBody, StatisticsBody, EnhancedBody, JournalBody, OtherBody}
use Rattle.pcap_written.specs.declared.place.Place.{Place}
use Rattle.pcap_written.specs.Bodies.{after_magic_text, body_text, interface_text, magic_in, order_under, section_text, text_of, type_of}
use Rattle.pcap_written.specs.Capture.{AreWritten}
use Rattle.pcap_written.specs.Fits.{IsFitUnknown, kept_body}
use Rattle.pcap_written.specs.Raw.{IsFitRaw, Raw, raw_text}
use Rattle.pcap_written.specs.Text.{list_text}
use Rattle.pcap_written.specs.Writing.{IsFitIn, interfaces_after}
use Rattle.pcap_written.proofs.Aligned.{body_aligned}
use Rattle.pcap_written.proofs.BodiesAgain.{body_again, interface_head_again, magic_again, version_again}
use Rattle.pcap_written.proofs.OptionsAgain.{options_marked}
use Rattle.pcap_ng.specs.Blocks.{Item, block_format}
use Rattle.pcap_ng.specs.Bodies.{SaysOfBody}
use Rattle.pcap_ng.specs.Frames.{Framed, FrameText}
use Rattle.pcap_ng.specs.MarkedLists.{MarkedInterface, MarkedLeads, MarkedSection, MarkedText, marked_format, nowhere, to_interface, to_section}
use Rattle.pcap_ng.specs.RawBlocks.{raw_in}
use Rattle.pcap_ng.specs.State.{State, opening, order_at, within, is_kept}
use Rattle.pcap_ng.specs.Written.{IsBodyOf, IsMadeOf, framed_in}
use Rattle.pcap_ng.proofs.BlockFormat.{blocks_lawful}
use Rattle.pcap_ng.proofs.MarkedLists.{marked_extends}
use Rattle.pcap_ng.proofs.RawAgain.{plain_again, section_again}

-- The type number of a block that is not a section header.
record IsPlainType (body : Body) : Type 0 where
  fits : type_number (type_of body) < 2 ^ 32
  other : (type_number (type_of body) == 0x0A0D0D0A) ≡ false
  named : type_of body ≡ block_type (type_number (type_of body))

other_plain : (type : BlockType) (len : ℕ) (bytes : List ℕ) → IsFitUnknown (record { type_ = type; len = len; bytes = bytes })
    → IsPlainType (OtherBody (record { type_ = type; len = len; bytes = bytes }))
other_plain (types.Unknown n) len bytes fit =
    let differ : n ≢ 0x0A0D0D0A = λ is. let wrong : block_type 0x0A0D0D0A ≡ types.Unknown n = subst (λ (k : ℕ). block_type k ≡ types.Unknown n) is fit.unnamed in absurd cc in
    record { fits = fit.number; other = ne_eqb n 0x0A0D0D0A differ; named = sym fit.unnamed }
other_plain types.SectionHeader len bytes fit = absurd cc
other_plain _ len bytes fit = absurd cc

length_good : (e : Endianness) (body : Body) → length (body_text (number_bytes e) body) % 4 ≡ 0
length_good e body = omega (arith, body_aligned (number_bytes e) (codec e).wide body)

-- The body of a value, as a block of bytes.
abbrev raw_of_body : Endianness → Body → Raw
raw_of_body e body = record { type_ = type_of body; endianness = e; body = body_text (number_bytes e) body }

raw_fit : (e : Endianness) (body : Body) → type_number (type_of body) < 2 ^ 32 → type_of body ≡ block_type (type_number (type_of body)) → IsFitIn e body → IsFitRaw (raw_of_body e body)
raw_fit e body number named fit = record { number = number; named = sym named; aligned = length_good e body; short = fit.short }

-- The frame of a block that is not a section header.
plain_frame : (e : Endianness) (body : Body) (rest : List ℕ) → IsPlainType body → IsFitIn e body
    → FrameText e (framed_in e body) (text_of (number_bytes e) body ++ rest) rest
plain_frame e body rest plain fit = plain_again (raw_of_body e body) rest (raw_fit e body plain.fits plain.named fit) plain.other

-- The frame of a section header, in any byte order of the state before it.
section_frame : (there e : Endianness) (s : Section) (rest : List ℕ) → magic_order s.magic ≡ Some e → IsFitIn e (SectionBody s)
    → FrameText there (framed_in e (SectionBody s)) (text_of (number_bytes e) (SectionBody s) ++ rest) rest
section_frame there e s rest names fit =
    let inner = section_text (number_bytes e) s in
    let first : big_number 4 (take 4 inner) ≡ s.magic = big_from-take 0 4 4 inner (omega arith) ∙ (codec Big).again 4 s.magic (after_magic_text (number_bytes e) s) fit.fit.magic in
    section_again there e inner rest (raw_fit e (SectionBody s) (omega arith) refl fit) (subst (λ (n : ℕ). magic_order n ≡ Some e) (sym first) names)

-- The byte order that a block names by itself.
own_named : (there e : Endianness) (magic : Option ℕ) → order_under there magic ≡ Some e → order_under e magic ≡ Some e
own_named there e None named = refl
own_named there e (Some n) named = named

pub says_again : (there e : Endianness) (body : Body) → order_under there (magic_in body) ≡ Some e → IsFitIn e body
    → (rest : List ℕ) × SaysOfBody (framed_in e body) (whole (kept_body body) rest)
says_again there e body named fit = body_again e body fit (own_named there e (magic_in body) named)

-- The byte order of a section is in force in that section.
pub order_within : (e : Endianness) (s : Section) (is : List Interface) → magic_order s.magic ≡ Some e → e ≡ order_at (within s is)
unfolding order_at
order_within e s is names = rw names refl

-- A block that was made from a value is read as it was.
pub made_again : (order : Endianness) (body : Body) (b : Framed) → IsMadeOf order body b
    → ((rest : List ℕ) × SaysOfBody b (whole (kept_body body) rest)) × (raw_text (raw_in b) ≡ text_of (number_bytes b.endianness) body)
made_again order body b made =
    let e = b.endianness in
    let says = says_again order e body made.named made.fit in (
      (says.0, subst (λ (x : Framed). SaysOfBody x (whole (kept_body body) says.0)) (sym made.frame) says.1),
      subst (λ (x : Framed). raw_text (raw_in x) ≡ text_of (number_bytes e) body) (sym made.frame) refl,
    )

abbrev pub item_in : Endianness → Body → State → Item
item_in e body after = record { block = framed_in e body; after = after }

-- The options of a section header that was written end with their mark.
section_marked : (e : Endianness) (s : Section) → magic_order s.magic ≡ Some e → IsFitIn e (SectionBody s) → MarkedSection s (section_text (number_bytes e) s) []
section_marked e s names fit =
    let list = list_text (number_bytes e) section_header s.options in
    record {
      after_magic = after_magic_text (number_bytes e) s;
      after_version = list;
      endianness = e;
      magic_is = magic_again e s fit.fit;
      names = names;
      version = version_again (number_in e) (number_bytes e) (codec e) s list fit.fit;
      options_are = options_marked e section_header s.options fit.fit.options;
    }

-- The options of an interface description that was written end with their mark.
interface_marked : (e : Endianness) (i : Interface) → IsFitIn e (InterfaceBody i) → MarkedInterface (number_in e) i (interface_text (number_bytes e) i) []
interface_marked e i fit =
    let list = list_text (number_bytes e) interface_description i.options in
    record {
      after_head = list;
      head = interface_head_again (number_in e) (number_bytes e) (codec e) i list fit.fit;
      options_are = options_marked e interface_description i.options fit.fit.options;
    }

-- A written block is read under the section in force, and a section with its byte order is in force after it.
pub record IsReadUnder (q : State) (e : Endianness) (body : Body) (n : ℕ) (rest : List ℕ) : Type 0 where
  pub section : Section
  pub interfaces : List Interface
  pub names : magic_order section.magic ≡ Some e
  pub counted : length interfaces ≡ interfaces_after n (type_of body)
  pub text : MarkedText q (item_in e body (within section interfaces)) (text_of (number_bytes e) body ++ rest) rest

-- A section header is read under any state.
pub section_read : (q : State) (e : Endianness) (s : Section) (rest : List ℕ) → magic_order s.magic ≡ Some e → IsFitIn e (SectionBody s)
    → MarkedText q (item_in e (SectionBody s) (within s [])) (text_of (number_bytes e) (SectionBody s) ++ rest) rest
section_read q e s rest names fit =
    record { frame = section_frame (order_at q) e s rest names fit; leads_on = to_section q s [] refl (section_marked e s names fit) refl }

-- A block that is not a section header is read under a section and keeps it in force.
plain_read : (s : Section) (is next : List Interface) (there e : Endianness) (body : Body) (rest : List ℕ) → IsPlainType body → magic_order s.magic ≡ Some there
    → ◌≡◌ {A = Option Endianness} (Some there) (Some e) → IsFitIn e body → length next ≡ interfaces_after (length is) (type_of body)
    → MarkedLeads (framed_in e body) (within s next) (within s is) → IsReadUnder (within s is) e body (length is) rest
plain_read s is next there e body rest plain names same fit counted leads_on =
    let now = names ∙ same in
    let frame : FrameText (order_at (within s is)) (framed_in e body) (text_of (number_bytes e) body ++ rest) rest =
    subst (λ (o : Endianness). FrameText o (framed_in e body) (text_of (number_bytes e) body ++ rest) rest) (order_within e s is now) (plain_frame e body rest plain fit) in
    record { section = s; interfaces = next; names = now; counted = counted; text = record { frame = frame; leads_on = leads_on } }

never_kept : (type : BlockType) (len : ℕ) (bytes : List ℕ) → IsFitUnknown (record { type_ = type; len = len; bytes = bytes }) → is_kept type ≡ false
never_kept (types.Unknown n) len bytes fit = refl
never_kept types.SectionHeader len bytes fit = absurd cc
never_kept types.InterfaceDescription len bytes fit = absurd cc
never_kept types.Packet len bytes fit = refl
never_kept types.SimplePacket len bytes fit = refl
never_kept types.NameResolution len bytes fit = refl
never_kept types.InterfaceStatistics len bytes fit = refl
never_kept types.EnhancedPacket len bytes fit = refl
never_kept types.SystemdJournalExport len bytes fit = refl

numbered : (body : Body) → type_number (type_of body) < 2 ^ 32 → (type_number (type_of body) == 0x0A0D0D0A) ≡ false
    → type_of body ≡ block_type (type_number (type_of body)) → IsPlainType body
numbered body fits other named = record { fits = fits; other = other; named = named }

-- A block whose body is not kept describes no interface.
never_counted : (n : ℕ) (type : BlockType) → is_kept type ≡ false → n ≡ interfaces_after n type
never_counted n types.SectionHeader fit = absurd cc
never_counted n types.InterfaceDescription fit = absurd cc
never_counted n _ fit = refl

pub one_again : (s : Section) (is : List Interface) (there e : Endianness) (body : Body) (rest : List ℕ) → magic_order s.magic ≡ Some there
    → order_under there (magic_in body) ≡ Some e → IsFitIn e body → IsReadUnder (within s is) e body (length is) rest
one_again s is there e (SectionBody t) rest names same fit =
    record { section = t; interfaces = []; names = same; counted = refl; text = section_read (within s is) e t rest same fit }
one_again s is there e (InterfaceBody i) rest names same fit =
    let leads_on = to_interface s is i [] refl (interface_marked e i fit) refl in
    plain_read s is (is ++ i ∷ []) there e (InterfaceBody i) rest (numbered (InterfaceBody i) (omega arith) refl refl) names same fit (length-append is (i ∷ [])) leads_on
one_again s is there e (OldPacketBody p) rest names same fit =
    plain_read s is is there e (OldPacketBody p) rest (numbered (OldPacketBody p) (omega arith) refl refl) names same fit refl (nowhere (within s is) refl refl)
one_again s is there e (SimpleBody p) rest names same fit =
    plain_read s is is there e (SimpleBody p) rest (numbered (SimpleBody p) (omega arith) refl refl) names same fit refl (nowhere (within s is) refl refl)
one_again s is there e (NamesBody b) rest names same fit =
    plain_read s is is there e (NamesBody b) rest (numbered (NamesBody b) (omega arith) refl refl) names same fit refl (nowhere (within s is) refl refl)
one_again s is there e (StatisticsBody x) rest names same fit =
    plain_read s is is there e (StatisticsBody x) rest (numbered (StatisticsBody x) (omega arith) refl refl) names same fit refl (nowhere (within s is) refl refl)
one_again s is there e (EnhancedBody x) rest names same fit =
    plain_read s is is there e (EnhancedBody x) rest (numbered (EnhancedBody x) (omega arith) refl refl) names same fit refl (nowhere (within s is) refl refl)
one_again s is there e (JournalBody entry) rest names same fit =
    plain_read s is is there e (JournalBody entry) rest (numbered (JournalBody entry) (omega arith) refl refl) names same fit refl (nowhere (within s is) refl refl)
one_again s is there e (OtherBody u) rest names same fit =
    let unkept = never_kept u.type_ u.len u.bytes fit.fit in
    plain_read s is is there e (OtherBody u) rest (other_plain u.type_ u.len u.bytes fit.fit) names same fit (never_counted (length is) u.type_ unkept) (nowhere (within s is) unkept refl)

blocks_again : (s : Section) (is : List Interface) (at : Place) (bodies : List Body) (bytes : List ℕ) (end : Place) → magic_order s.magic ≡ Some at.endianness
    → AreWritten at bodies bytes end
    → (items : List Item) × Texts marked_format (within s is) items bytes [] × AllZip IsBodyOf items (map kept_body bodies)
unfolding marked_format
blocks_again s is at [] bytes end names written = ([], written.0, tt)
blocks_again s is at (body ∷ bodies) bytes end names (behind, text, more, one, parts, others) =
    let e = behind.endianness in
    let named = one.place.0.named in
    let read = one_again s is at.endianness e body more names named one.fit in
    let item = item_in e body (within read.section read.interfaces) in
    let tail = blocks_again read.section read.interfaces behind bodies more end read.names others in
    let there : MarkedText (within s is) item bytes more = subst (λ (t : List ℕ). MarkedText (within s is) item t more) (sym (parts ∙ ap (λ (t : List ℕ). t ++ more) one.text)) read.text in
    (item ∷ tail.0, (more, there, tail.1), (says_again at.endianness e body named one.fit, tail.2))

-- A capture that was written has all marks at the ends of its lists.
pub capture_marked : (at end : Place) (s : Section) (bodies : List Body) (bytes : List ℕ) → AreWritten at (SectionBody s ∷ bodies) bytes end
    → (items : List Item) × Front marked_format opening items bytes [] × AllZip IsBodyOf items (map kept_body (SectionBody s ∷ bodies))
unfolding marked_format block_format
capture_marked at end s bodies bytes (behind, text, more, one, parts, others) =
    let e = behind.endianness in
    let body = SectionBody s in
    let named = one.place.0.named in
    let says = says_again at.endianness e body named one.fit in
    let read = section_read opening e s more named one.fit in
    let item = item_in e body (within s []) in
    let tail = blocks_again s [] behind bodies more end named others in
    let there : MarkedText opening item bytes more = subst (λ (t : List ℕ). MarkedText opening item t more) (sym (parts ∙ ap (λ (t : List ℕ). t ++ more) one.text)) read in
    let front : Front marked_format opening (item ∷ tail.0) bytes [] = record {
      texts = (more, there, tail.1);
      longest = λ other after t. nothing_no_text block_format blocks_lawful _ other after (marked_extends.texts _ [] after other t);
    } in
    (item ∷ tail.0, front, (says, tail.2))

pub capture_again : (at end : Place) (s : Section) (bodies : List Body) (bytes : List ℕ) → AreWritten at (SectionBody s ∷ bodies) bytes end
    → (items : List Item) × Front block_format opening items bytes [] × AllZip IsBodyOf items (map kept_body (SectionBody s ∷ bodies))
capture_again at end s bodies bytes written =
    let there = capture_marked at end s bodies bytes written in
    let front : Front block_format opening there.0 bytes [] = record {
      texts = texts_extend marked_format block_format marked_extends opening there.0 bytes [] (there.1).texts;
      longest = λ other after t. nothing_no_text block_format blocks_lawful _ other after t;
    } in
    (there.0, front, there.2)
