-- Lenient reading of options, of an interface or of a section gives exactly one answer for any bytes.
use Rattle.std.proofs.Common.{◌≡◌, ◌<◌, ◌≤◌, ℕ, List, [], ◌∷◌, length, map, Option, Some, None, Result, Ok, refl, sym, ap, subst, ◌∙◌, arith, inl, inr}
use Rattle.std.specs.Prelude.{ℤ}
use Rattle.std.specs.Int.{w64, cast_signed}
use Rattle.std.proofs.lemmas.Bool.{cases_lt}
use Rattle.byteorder.specs.Endian.{big_number}
use Rattle.pcap_core.specs.declared.common.Endianness.{Endianness}
use Rattle.pcap_core.specs.declared.link.DataLink.{DataLink}
use Rattle.pcap_core.specs.declared.rules.Rule.TheVariants.{SectionTooShort, SectionMagic, InterfaceTooShort}
use Rattle.pcap_core.specs.Answer.{Order, Number, number_in, Verdict, whole, lacks, faulty, Says}
use Rattle.pcap_core.specs.Faults.{Fault, Invalid}
use Rattle.pcap_core.specs.Laws.{ExactlyOne}
use Rattle.pcap_core.specs.Padded.{Chain}
use Rattle.pcap_core.proofs.Links.{plain_same, link_of}
use Rattle.pcap_core.proofs.Numbers.{Values, number_there}
use Rattle.pcap_core.proofs.Texts.{number_same, number_length}
use Rattle.pcap_options.specs.Values.{Entry, Value, Unknown, Kind, shape_at, value_of, value_bytes}
use Rattle.pcap_options.specs.Options.{may_end_with_body, OptionText}
use Rattle.pcap_options.specs.InterfaceOption.{interface_description}
use Rattle.pcap_blocks.specs.InterfaceDescription.{Interface}
use Rattle.pcap_options.specs.SectionOption.{section_header}
use Rattle.pcap_blocks.specs.SectionHeader.{magic_order, Section}
use Rattle.pcap_blocks.proofs.NumbersThen.{IsNumbersThen, numbers_then_one}
use Rattle.pcap_blocks.proofs.OneSection.{version_length}
use Rattle.pcap_raw_options.specs.UpTo.{UpTo, StopsAt, ReadUpTo, no_kind}
use Rattle.pcap_raw_options.proofs.OneUpTo.{up_to_one}
use Rattle.pcap_tolerant_blocks.specs.Flaws.{Said, Flawed}
use Rattle.pcap_tolerant_blocks.specs.OptionsAsIs.{Judged, judged, JudgedText, entry_in, cut_by, flaws_in, OptionsAsIsSay}
use Rattle.pcap_tolerant_blocks.specs.InterfaceAsIs.{WithHead, InterfaceText, InterfaceAsIsSays}
use Rattle.pcap_tolerant_blocks.specs.SectionAsIs.{AfterMagic, SectionText, NoSection, short_section, unnamed, SectionAsIsSays}

-- If exactly one value has a property, and a second property holds exactly for its image, then exactly one value has the second.
pub one_image : {X Y : Type 0} (P : X → Type 0) (Q : Y → Type 0) (make : X → Y) → ((x : X) → P x → Q (make x)) → ((y : Y) → Q y → (x : X) × P x × (y ≡ make x)) → ExactlyOne P → ExactlyOne Q
one_image P Q make to from one =
    record { value = make one.value; holds = to one.value one.holds; only = λ y h. let t = from y h in t.2 ∙ ap make (one.only t.0 t.1) }

-- ---- a body that there may be no room for

abbrev pub said : Fault → List Said
said fault = record { code = None; fault = fault } ∷ []

placed : {V : Type 0} → List ℕ → Verdict (Flawed V) → Verdict (Flawed (Option V))
placed s (whole x rest) = whole (record { value = Some x.value; flaws = x.flaws }) rest
placed s (lacks n) = lacks n
placed s (faulty fault) = whole (record { value = None; flaws = said fault }) s

-- The answers of lenient reading where the bytes should be a body.
abbrev pub BodySays : {V : Type 0} → (Option V → List Said → List ℕ → List ℕ → Type 0) → List ℕ → Verdict (Flawed (Option V)) → Type 0
BodySays IsBody s = Says (λ x rest. IsBody x.value x.flaws s rest) (λ n. ⊥) (λ fault. ⊥)

module _ {V : Type 0} (IsBody : Option V → List Said → List ℕ → List ℕ → Type 0) (HasFault : List ℕ → Fault → Type 0) (s : List ℕ) (none_to : (fault : Fault) → HasFault s fault → IsBody None (said fault) s s)
    (none_from : (flaws : List Said) (rest : List ℕ) → IsBody None flaws s rest → (fault : Fault) × HasFault s fault × (flaws ≡ said fault) × (rest ≡ s)) where
  abbrev Fitted : Verdict (Flawed V) → Type 0
  Fitted = Says (λ x rest. IsBody (Some x.value) x.flaws s rest) (λ n. ⊥) (HasFault s)

  placed_to : (v : Verdict (Flawed V)) → Fitted v → BodySays IsBody s (placed s v)
  unfolding placed
  placed_to (whole x rest) h = h
  placed_to (lacks n) h = h
  placed_to (faulty fault) h = none_to fault h

  none_with : List Said → List ℕ → Verdict (Flawed (Option V))
  none_with flaws rest = whole (record { value = None; flaws = flaws }) rest

  none_same : (flaws : List Said) (rest : List ℕ) (fault : Fault) → flaws ≡ said fault → rest ≡ s → none_with flaws rest ≡ placed s (faulty fault)
  unfolding placed none_with
  none_same flaws rest fault f r = rw (f, r) refl

  placed_text : (value : Option V) (flaws : List Said) (rest : List ℕ) → IsBody value flaws s rest → (v : Verdict (Flawed V)) × Fitted v × (whole (record { value = value; flaws = flaws }) rest ≡ placed s v)
  unfolding placed none_with
  placed_text (Some value) flaws rest h = (whole (record { value = value; flaws = flaws }) rest, h, refl)
  placed_text None flaws rest h =
      let t = none_from flaws rest h in
      (faulty t.0, t.1, none_same flaws rest t.0 t.2 t.3)

  placed_from : (v : Verdict (Flawed (Option V))) → BodySays IsBody s v → (w : Verdict (Flawed V)) × Fitted w × (v ≡ placed s w)
  placed_from (whole x rest) h = placed_text x.value x.flaws rest h
  placed_from _ h = absurd h

  pub placed_one : ExactlyOne Fitted → ExactlyOne (BodySays IsBody s)
  placed_one one = one_image Fitted (BodySays IsBody s) (placed s) placed_to placed_from one

-- ---- options: the raw ones up to their fault, each judged by its kind

module _ (order : Order) (kind : Kind) where
  pub judge_raw : Entry → Judged
  judge_raw o = judged o.code (value_bytes o.value) (value_of order (shape_at kind o.code) (value_bytes o.value))

  pub raw_text : (option : Judged) (s after : List ℕ) → JudgedText order kind option s after → (o : Entry) × OptionText order no_kind o s after × (option ≡ judge_raw o)
  unfolding judge_raw
  raw_text option s after t = (
    record { code = t.code; value = Unknown (length t.v) t.v },
    record { v = t.v; after_head = t.after_head; head = t.head; no_mark = t.no_mark; padded = t.padded; value_is = refl },
    t.is,
  )

  raw_is : (v : List ℕ) (value : Value) → ◌≡◌ {A = Result Value Fault} (Ok (Unknown (length v) v)) (Ok value) → value_bytes value ≡ v
  raw_is v value e = let same : Unknown (length v) v ≡ value = cc in sym (ap value_bytes same)

  judged_text : (o : Entry) (s after : List ℕ) → OptionText order no_kind o s after → JudgedText order kind (judge_raw o) s after
  unfolding judge_raw
  judged_text o s after t = record {
    code = o.code;
    v = t.v;
    after_head = t.after_head;
    head = t.head;
    no_mark = t.no_mark;
    padded = t.padded;
    is = ap (λ (v : List ℕ). judged o.code v (value_of order (shape_at kind o.code) v)) (raw_is t.v o.value t.value_is);
  }

  both_same : (a b : Judged) (l m : List Judged) → a ≡ b → l ≡ m → a ∷ l ≡ b ∷ m
  both_same a b l m x y = rw (x, y) refl

  raws_of : (each : List Judged) (s stop : List ℕ) → Chain (JudgedText order kind) each s stop → (raws : List Entry) × Chain (OptionText order no_kind) raws s stop × (each ≡ map judge_raw raws)
  raws_of [] s stop are = ([], are, refl)
  raws_of (option ∷ each) s stop are =
      let raw = raw_text option s are.0 are.1 in
      let more = raws_of each are.0 stop are.2 in
      (raw.0 ∷ more.0, (are.0, raw.1, more.1), both_same option (judge_raw raw.0) each (map judge_raw more.0) raw.2 more.2)

  judged_all : (raws : List Entry) (s stop : List ℕ) → Chain (OptionText order no_kind) raws s stop → Chain (JudgedText order kind) (map judge_raw raws) s stop
  judged_all [] s stop are = are
  judged_all (o ∷ raws) s stop are = (are.0, judged_text o s are.0 are.1, judged_all raws are.0 stop are.2)

  pub stops_any : (options others : List Entry) (cut : Option Fault) (s rest : List ℕ) → StopsAt may_end_with_body order no_kind options cut s rest → StopsAt may_end_with_body order no_kind others cut s rest
  stops_any options others None s rest x = x
  stops_any options others (Some fault) s rest x = x

  list_of : UpTo → Verdict (Flawed (List Entry))
  list_of x = whole (record { value = map entry_in (map judge_raw x.options); flaws = flaws_in (map judge_raw x.options) (cut_by x.flaw) }) x.left

  list_to : (s : List ℕ) (x : UpTo) → ReadUpTo may_end_with_body order no_kind x s → OptionsAsIsSay order kind s (list_of x)
  unfolding list_of
  list_to s x h = record {
    each = map judge_raw x.options;
    cut = x.flaw;
    stop = h.stop;
    are = judged_all x.options s h.stop h.are_good;
    stops = stops_any x.options (map entry_in (map judge_raw x.options)) x.flaw h.stop x.left h.stops;
    options_are = refl;
    flaws_are = refl;
  }

  list_with : List Entry → List Said → List ℕ → Verdict (Flawed (List Entry))
  list_with options flaws rest = whole (record { value = options; flaws = flaws }) rest

  list_from : (s : List ℕ) (v : Verdict (Flawed (List Entry))) → OptionsAsIsSay order kind s v → (x : UpTo) × ReadUpTo may_end_with_body order no_kind x s × (v ≡ list_of x)
  unfolding list_of list_with
  list_from s (whole x rest) h =
      let raws = raws_of h.each s h.stop h.are in
      let up_to : UpTo = record { options = raws.0; flaw = h.cut; left = rest } in
      let read : ReadUpTo may_end_with_body order no_kind up_to s = record { stop = h.stop; are_good = raws.1; stops = stops_any x.value raws.0 h.cut h.stop rest h.stops } in
      let options : x.value ≡ map entry_in (map judge_raw raws.0) = h.options_are ∙ ap (map entry_in) raws.2 in
      let flaws : x.flaws ≡ flaws_in (map judge_raw raws.0) (cut_by h.cut) = h.flaws_are ∙ ap (λ (l : List Judged). flaws_in l (cut_by h.cut)) raws.2 in
      let same : list_with x.value x.flaws rest ≡ list_with (map entry_in (map judge_raw raws.0)) (flaws_in (map judge_raw raws.0) (cut_by h.cut)) rest = rw (options, flaws) refl in
      (up_to, read, same)
  list_from s _ h = absurd h

  pub list_one : (s : List ℕ) → ExactlyOne (OptionsAsIsSay order kind s)
  list_one s = one_image (λ (x : UpTo). ReadUpTo may_end_with_body order no_kind x s) (OptionsAsIsSay order kind s) list_of (list_to s) (list_from s) (up_to_one may_end_with_body order no_kind s)

-- ---- interfaces: a head of three numbers, and options

abbrev head_widths : List ℕ
head_widths = 2 ∷ 2 ∷ 4 ∷ []

interface_with : Values head_widths → Flawed (List Entry) → Flawed Interface
interface_with ns x = record { value = record { linktype = (link_of ns.0).0; reserved = ns.1.0; snaplen = ns.1.1.0; options = x.value }; flaws = x.flaws }

with_link : Flawed Interface → DataLink → Flawed Interface
with_link x link = record { value = record { linktype = link; reserved = x.value.reserved; snaplen = x.value.snaplen; options = x.value.options }; flaws = x.flaws }

abbrev HeadedText : Order → Flawed Interface → List ℕ → List ℕ → Type 0
HeadedText order x s rest = WithHead order x.value x.flaws s rest

abbrev NoHead : List ℕ → Fault → Type 0
NoHead s fault = (fault ≡ Invalid InterfaceTooShort) × (length s < 8)

interface_then : (order : Order) → IsNumbersThen order (Invalid InterfaceTooShort) head_widths interface_with (OptionsAsIsSay order interface_description) (HeadedText order) NoHead
unfolding interface_with with_link
interface_then order = record {
  text_to = λ x s rest h. (
    (h.head.link_number, (x.value.reserved, (x.value.snaplen, tt))),
    h.after_head,
    (h.head.after_link, h.head.link_number_is, (h.head.after_reserved, h.head.reserved_is, (h.after_head, h.head.snaplen_is, refl))),
    record { value = x.value.options; flaws = x.flaws },
    ap (with_link x) (plain_same x.value.linktype (link_of h.head.link_number).0 h.head.link_is.plain (link_of h.head.link_number).1.plain (h.head.link_is.number ∙ sym (link_of h.head.link_number).1.number)),
    h.options_are,
  );
  text_from = λ ns x s after rest n h. record {
    after_head = after;
    head = record {
      link_number = ns.0;
      after_link = n.0;
      after_reserved = n.2.0;
      link_number_is = n.1;
      link_is = (link_of ns.0).1;
      reserved_is = n.2.1;
      snaplen_is = subst (λ (t : List ℕ). Number order 4 ns.1.1.0 n.2.0 t) n.2.2.2 n.2.2.1;
    };
    options_are = h;
  };
  fault_to = λ fault s h. inl h;
  short_from = λ s lt. (refl, lt);
  fault_from = λ fault s after behind h. absurd h;
  no_lack = λ s n h. h;
}

pub interface_one : (order : Order) (s : List ℕ) → ExactlyOne (InterfaceAsIsSays order s)
interface_one order s =
    let one = numbers_then_one order (Invalid InterfaceTooShort) head_widths interface_with (OptionsAsIsSay order interface_description) (HeadedText order) NoHead (interface_then order) (list_one order interface_description) s in
    placed_one (InterfaceText order) NoHead s (λ fault h. (h.1, ap said h.0, refl)) (λ flaws rest h. (Invalid InterfaceTooShort, (refl, h.0), h.1, h.2)) one

-- ---- sections: a magic number, a version of three numbers in its order, and options

abbrev version_widths : List ℕ
version_widths = 2 ∷ 2 ∷ 8 ∷ []

section_with : ℕ → Values version_widths → Flawed (List Entry) → Flawed Section
section_with magic ns x = record { value = record { magic = magic; major_version = ns.0; minor_version = ns.1.0; section_length = cast_signed w64 ns.1.1.0; options = x.value }; flaws = x.flaws }

abbrev VersionedText : Order → ℕ → Flawed Section → List ℕ → List ℕ → Type 0
VersionedText order magic x s rest = (x.value.magic ≡ magic) × AfterMagic order x.value x.flaws s rest

abbrev NoVersion : List ℕ → Fault → Type 0
NoVersion s fault = (fault ≡ Invalid SectionTooShort) × (length s < 12)

with_length : Flawed Section → ℕ → ℤ → Flawed Section
with_length x magic n = record { value = record { magic = magic; major_version = x.value.major_version; minor_version = x.value.minor_version; section_length = n; options = x.value.options }; flaws = x.flaws }

same_section : (x : Flawed Section) (magic : ℕ) (n : ℤ) → x.value.magic ≡ magic → x.value.section_length ≡ n → x ≡ with_length x magic n
unfolding with_length
same_section x magic n m l = let same : with_length x x.value.magic x.value.section_length ≡ with_length x magic n = rw (m, l) refl in same

version_then : (order : Order) (magic : ℕ) → IsNumbersThen order (Invalid SectionTooShort) version_widths (section_with magic) (OptionsAsIsSay order section_header) (VersionedText order magic) NoVersion
unfolding section_with with_length
version_then order magic = record {
  text_to = λ x s rest h.
      let v = h.1.version in (
        (x.value.major_version, (x.value.minor_version, (v.length_bits, tt))),
        h.1.after_version,
        (v.after_major, v.major, (v.after_minor, v.minor, (h.1.after_version, v.length_number, refl))),
        record { value = x.value.options; flaws = x.flaws },
        same_section x magic (cast_signed w64 v.length_bits) h.0 v.length_is,
        h.1.options_are,
      );
  text_from = λ ns x s after rest n h. (
    refl,
    record {
      after_version = after;
      version = record {
        after_major = n.0;
        after_minor = n.2.0;
        length_bits = ns.1.1.0;
        major = n.1;
        minor = n.2.1;
        length_number = subst (λ (t : List ℕ). Number order 8 ns.1.1.0 n.2.0 t) n.2.2.2 n.2.2.1;
        length_is = refl;
      };
      options_are = h;
    },
  );
  fault_to = λ fault s h. inl h;
  short_from = λ s lt. (refl, lt);
  fault_from = λ fault s after behind h. absurd h;
  no_lack = λ s n h. h;
}

abbrev Versioned : Order → ℕ → List ℕ → Verdict (Flawed Section) → Type 0
Versioned order magic s = Says (λ x rest. VersionedText order magic x s rest) (λ n. ⊥) (NoVersion s)

version_one : (order : Order) (magic : ℕ) (s : List ℕ) → ExactlyOne (Versioned order magic s)
version_one order magic =
    numbers_then_one order (Invalid SectionTooShort) version_widths (section_with magic) (OptionsAsIsSay order section_header) (VersionedText order magic) NoVersion (version_then order magic) (list_one order section_header)

module _ (s : List ℕ) where
  versioned : (magic : ℕ) (after : List ℕ) (e : Endianness) → 16 ≤ length s → Number big_number 4 magic s after → magic_order magic ≡ Some e → (v : Verdict (Flawed Section)) → Versioned (number_in e) magic after v → (v : Verdict (Flawed Section)) × SectionAsIsSays s v
  versioned magic after e long number is (whole x rest) h =
      (whole x rest, record { after_magic = after; endianness = e; magic_is = rw h.0 number; names = rw h.0 is; after = h.1 })
  versioned magic after e long number is (lacks n) h = absurd h
  versioned magic after e long number is (faulty f) h = absurd (omega (arith, number_length big_number 4 magic s after number, long, h.1))

  named : (magic : ℕ) (after : List ℕ) → 16 ≤ length s → Number big_number 4 magic s after → (e : Option Endianness) → magic_order magic ≡ e → (v : Verdict (Flawed Section)) × SectionAsIsSays s v
  named magic after long number None is = (faulty (Invalid SectionMagic), unnamed magic after long number is)
  named magic after long number (Some e) is = let one = version_one (number_in e) magic after in versioned magic after e long number is one.value one.holds

  section_there : (v : Verdict (Flawed Section)) × SectionAsIsSays s v
  section_there =
      elim (cases_lt (length s) 16) [
        | inl lt ↦ (faulty (Invalid SectionTooShort), short_section lt)
        | inr long ↦
            let fits : 4 ≤ length s = omega (arith, long) in
            let m = number_there big_number 4 s fits in
            named m.0 m.1 long m.2 (magic_order m.0) refl
      ]

  long_text : (x : Flawed Section) (rest : List ℕ) → SectionText x.value x.flaws s rest → 16 ≤ length s
  long_text x rest h =
      omega (arith, number_length big_number 4 x.value.magic s h.after_magic h.magic_is, version_length (number_in h.endianness) x.value h.after_magic h.after.after_version h.after.version)

  some_same : (e f : Endianness) → Some e ≡ Some f → e ≡ f
  some_same e f same = cc

  none_some : (e : Endianness) → None ≡ Some e → ⊥
  none_some e same = absurd cc

  text_only : (x y : Flawed Section) (a b : List ℕ) → SectionText x.value x.flaws s a → SectionText y.value y.flaws s b → whole x a ≡ whole y b
  text_only x y a b h k =
      let n = number_same big_number 4 x.value.magic y.value.magic s h.after_magic k.after_magic h.magic_is k.magic_is in
      let e : h.endianness ≡ k.endianness = some_same h.endianness k.endianness (sym h.names ∙ ap magic_order n.0 ∙ k.names) in
      let one = version_one (number_in k.endianness) y.value.magic k.after_magic in
      let there : Versioned (number_in h.endianness) x.value.magic h.after_magic (whole x a) = (refl, h.after) in
      let first : Versioned (number_in k.endianness) y.value.magic k.after_magic (whole x a) =
      subst (λ (t : List ℕ). Versioned (number_in k.endianness) y.value.magic t (whole x a)) n.1
      (subst (λ (m : ℕ). Versioned (number_in k.endianness) m h.after_magic (whole x a)) n.0
      (subst (λ (f : Endianness). Versioned (number_in f) x.value.magic h.after_magic (whole x a)) e there)) in
      one.only (whole x a) first ∙ sym (one.only (whole y b) (refl, k.after))

  text_no_fault : (x : Flawed Section) (a : List ℕ) (f : Fault) → SectionText x.value x.flaws s a → NoSection s f → ⊥
  text_no_fault x a f h (short_section lt) = omega (arith, long_text x a h, lt)
  text_no_fault x a f h (unnamed magic after long number none) =
      let n = number_same big_number 4 magic x.value.magic s after h.after_magic number h.magic_is in
      none_some h.endianness (sym none ∙ ap magic_order n.0 ∙ h.names)

  fault_only : (f g : Fault) → NoSection s f → NoSection s g → f ≡ g
  fault_only f g (short_section lt) (short_section more) = refl
  fault_only f g (short_section lt) (unnamed magic after long number none) = absurd (omega (arith, lt, long))
  fault_only f g (unnamed magic after long number none) (short_section lt) = absurd (omega (arith, lt, long))
  fault_only f g (unnamed magic after long number none) (unnamed other behind more is nothing) = refl

  section_only : (v w : Verdict (Flawed Section)) → SectionAsIsSays s v → SectionAsIsSays s w → v ≡ w
  section_only (whole x a) (whole y b) h k = text_only x y a b h k
  section_only (whole x a) (faulty f) h k = absurd (text_no_fault x a f h k)
  section_only (lacks n) w h k = absurd h
  section_only (faulty f) (whole y b) h k = absurd (text_no_fault y b f k h)
  section_only (faulty f) (faulty g) h k = rw (fault_only f g h k) refl
  section_only _ _ h k = absurd k

  pub section_one : ExactlyOne (SectionAsIsSays s)
  section_one = let t = section_there in record { value = t.0; holds = t.1; only = λ w k. section_only w t.0 k t.1 }
