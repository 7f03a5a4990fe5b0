-- The conditions under which a list grows when bodies are read leniently.
use Rattle.std.proofs.Common.{◌≡◌, ◌≢◌, ◌≤◌, ℕ, List, [], ◌∷◌, length, map, Option, Some, None, refl, sym, ap, subst, ◌∙◌, arith}
use Rattle.byteorder.specs.Endian.{big_number}
use Rattle.pcap_core.specs.declared.common.Endianness.{Endianness}
use Rattle.pcap_core.specs.Answer.{Order, Number, number_in, Verdict, whole}
use Rattle.pcap_core.specs.Faults.{Fault}
use Rattle.pcap_core.specs.Laws.{ExactlyOne}
use Rattle.pcap_core.specs.Padded.{Chain}
use Rattle.pcap_core.specs.declared.rules.Rule.{Rule}
use Rattle.pcap_core.proofs.Texts.{number_same}
use Rattle.pcap_options.specs.Values.{Entry, Kind}
use Rattle.pcap_options.specs.Options.{may_end_with_body, OptionFault}
use Rattle.pcap_options.specs.SectionOption.{section_header}
use Rattle.pcap_blocks.specs.SectionHeader.{Section, VersionText, magic_order}
use Rattle.pcap_options.proofs.OneList.{Ends, mark_no_fault, mark_no_item}
use Rattle.pcap_raw_options.specs.UpTo.{StopsAt, no_kind}
use Rattle.pcap_tolerant_blocks.specs.Flaws.{Said, Flawed, alone, KeepsSome}
use Rattle.pcap_tolerant_blocks.specs.OptionsAsIs.{Judged, JudgedText, entry_in, cut_by, flaws_in, OptionsAsIs, OptionsAsIsSay, OptionsGrow}
use Rattle.pcap_tolerant_blocks.specs.SectionAsIs.{AfterMagic, NoSection, SectionGrows, SectionText, VersionGrows, short_section, unnamed}
use Rattle.pcap_tolerant_blocks.proofs.Lists.{ReadSoFar}
use Rattle.pcap_tolerant_blocks.proofs.OneAsIs.{BodySays, raw_text, list_one}
use Rattle.pcap_core.proofs.Verdicts.{whole_same}

-- ---- lists

module _ (order : Order) (kind : Kind) where
  -- A list that ends where it begins keeps nothing.
  bare_ends : (each : List Judged) (cut : Option Fault) (s stop rest : List ℕ) → [] ≡ map entry_in each → [] ≡ flaws_in each (cut_by cut) → Chain (JudgedText order kind) each s stop
      → StopsAt may_end_with_body order no_kind [] cut stop rest → Ends may_end_with_body order [] s rest
  bare_ends [] None s stop rest o f are stops = subst (λ (t : List ℕ). Ends may_end_with_body order [] t rest) (sym are) stops
  bare_ends [] (Some fault) s stop rest o f are stops = absurd cc
  bare_ends (option ∷ each) cut s stop rest o f are stops = absurd cc

  ends_no_option : (option : Judged) (s after rest : List ℕ) → Ends may_end_with_body order [] s rest → JudgedText order kind option s after → ⊥
  ends_no_option option s after rest ends text = let raw = raw_text order kind option s after text in mark_no_item may_end_with_body order no_kind [] s rest raw.0 after ends raw.1

  ends_here : (each : List Judged) (s left rest : List ℕ) → Chain (JudgedText order kind) each s left → Ends may_end_with_body order [] s rest → Ends may_end_with_body order [] left rest
  ends_here [] s left rest are ends = subst (λ (t : List ℕ). Ends may_end_with_body order [] t rest) are ends
  ends_here (option ∷ each) s left rest are ends = absurd (ends_no_option option s are.0 rest ends are.1)

  -- A list grows if it doesn't end after what was read.
  grows_at : (options : List Entry) (flaws : List Said) (s left : List ℕ) → ReadSoFar order kind options flaws s left → ((rest : List ℕ) → Ends may_end_with_body order [] left rest → ⊥) → OptionsGrow order kind s
  grows_at options flaws s left so_far goes_on value rest text bare =
      let stops : StopsAt may_end_with_body order no_kind [] text.cut text.stop rest = subst (λ (l : List Entry). StopsAt may_end_with_body order no_kind l text.cut text.stop rest) bare text.stops in
      goes_on rest (ends_here so_far.each s left rest so_far.are (bare_ends text.each text.cut s text.stop rest (sym bare ∙ text.options_are) text.flaws_are text.are stops))

  pub grows_by_option : (options : List Entry) (flaws : List Said) (s left after : List ℕ) (option : Judged) → ReadSoFar order kind options flaws s left → JudgedText order kind option left after → OptionsGrow order kind s
  grows_by_option options flaws s left after option so_far text = grows_at options flaws s left so_far (λ rest ends. ends_no_option option left after rest ends text)

  pub grows_by_fault : (options : List Entry) (flaws : List Said) (s left : List ℕ) (fault : Fault) → ReadSoFar order kind options flaws s left → left ≢ [] → OptionFault order no_kind left fault → OptionsGrow order kind s
  grows_by_fault options flaws s left fault so_far some stands = grows_at options flaws s left so_far (λ rest ends. mark_no_fault may_end_with_body order no_kind [] left rest fault ends (λ over. some) stands)

-- ---- bodies

module _ {V : Type 0} (IsBody : Option V → List Said → List ℕ → List ℕ → Type 0) (s : List ℕ) (one : ExactlyOne (BodySays IsBody s)) where
  body_same : (x y : Flawed (Option V)) (a b : List ℕ) → IsBody x.value x.flaws s a → IsBody y.value y.flaws s b → x ≡ y
  body_same x y a b h k = (whole_same x y a b (one.only (whole x a) h ∙ sym (one.only (whole y b) k))).0

  body : Option V → List Said → Flawed (Option V)
  body value flaws = record { value = value; flaws = flaws }

  pub grows_without_room : (IsBare : V → Type 0) (rule : Rule) → IsBody None (alone rule) s s → KeepsSome (λ x. IsBody (Some x)) IsBare s
  unfolding body
  grows_without_room IsBare rule none value rest text bare = let same : None ≡ Some value = ap (λ (z : Flawed (Option V)). z.value) (body_same (body None (alone rule)) (body (Some value) []) s rest none text) in absurd cc

  -- A list grows if the options grow with which the body ends.
  module _ (order : Order) (kind : Kind) (after : List ℕ) (options_in : V → List Entry) (made : List Entry → V) (made_of : (options : List Entry) → options_in (made options) ≡ options)
      (behind : (options : List Entry) (flaws : List Said) (rest : List ℕ) → OptionsAsIs order kind options flaws after rest → IsBody (Some (made options)) flaws s rest) where
    bare_options : (v : Verdict (Flawed (List Entry))) → OptionsAsIsSay order kind after v → (value : V) (rest : List ℕ) → IsBody (Some value) [] s rest → options_in value ≡ [] → (left : List ℕ) × OptionsAsIs order kind [] [] after left
    unfolding body
    bare_options (whole x left) h value rest text bare =
        let same = body_same (body (Some (made x.value)) x.flaws) (body (Some value) []) left rest (behind x.value x.flaws left h) text in
        let some : Some (made x.value) ≡ Some value = ap (λ (z : Flawed (Option V)). z.value) same in
        let value_same : made x.value ≡ value = cc in
        let flaws_same : x.flaws ≡ [] = ap (λ (z : Flawed (Option V)). z.flaws) same in
        let none : x.value ≡ [] = sym (made_of x.value) ∙ ap options_in value_same ∙ bare in
        (left, subst (λ (l : List Entry). OptionsAsIs order kind l [] after left) none (subst (λ (l : List Said). OptionsAsIs order kind x.value l after left) flaws_same h))
    bare_options _ h value rest text bare = absurd h

    pub grows_behind : OptionsGrow order kind after → KeepsSome (λ x. IsBody (Some x)) (λ x. options_in x ≡ []) s
    grows_behind grows value rest text bare =
        let list = list_one order kind after in
        let t = bare_options list.value list.holds value rest text bare in
        grows [] t.0 t.1 refl

-- ---- sections

-- A list grows behind a version.
pub grows_behind_version : (order : Order) (section : Section) (s after : List ℕ) → VersionText order section s after → OptionsGrow order section_header after → VersionGrows order s
grows_behind_version order section s after version grows = λ value rest text bare.
    let v = text.version in
    let major = number_same order 2 _ _ s v.after_major version.after_major v.major version.major in
    let minor = number_same order 2 _ _ version.after_major v.after_minor version.after_minor (subst (λ (t : List ℕ). Number order 2 value.minor_version t v.after_minor) major.1 v.minor) version.minor in
    let length = number_same order 8 _ _ version.after_minor text.after_version after (subst (λ (t : List ℕ). Number order 8 v.length_bits t text.after_version) minor.1 v.length_number) version.length_number in
    grows value.options rest (subst (λ (t : List ℕ). OptionsAsIs order section_header value.options [] t rest) length.1 text.options_are) bare

-- Bytes that begin with the magic number of a byte order are a section.
named_is_one : (magic : ℕ) (s after : List ℕ) (e : Endianness) → 16 ≤ length s → Number big_number 4 magic s after → magic_order magic ≡ Some e
    → (fault : Fault) → NoSection s fault → ⊥
named_is_one magic s after e long number names fault (short_section lt) = omega (arith, long, lt)
named_is_one magic s after e long number names fault (unnamed other behind _ there none) =
    let same = number_same big_number 4 _ _ s behind after there number in
    let no : None ≡ Some e = sym none ∙ ap magic_order same.0 ∙ names in
    absurd cc

-- A list grows behind a magic number.
keeps_behind_magic : (magic : ℕ) (s after : List ℕ) (e : Endianness) → Number big_number 4 magic s after → magic_order magic ≡ Some e → VersionGrows (number_in e) after → KeepsSome SectionText (λ x. x.options ≡ []) s
keeps_behind_magic magic s after e number names grows = λ value rest text bare.
    let same = number_same big_number 4 _ _ s text.after_magic after text.magic_is number in
    let named : Some text.endianness ≡ Some e = sym text.names ∙ ap magic_order same.0 ∙ names in
    let order : text.endianness ≡ e = cc in
    let behind : AfterMagic (number_in e) value [] after rest = subst (λ (t : List ℕ). AfterMagic (number_in e) value [] t rest) same.1 (subst (λ (d : Endianness). AfterMagic (number_in d) value [] text.after_magic rest) order text.after) in
    grows value rest behind bare

pub grows_behind_magic : (magic : ℕ) (s after : List ℕ) (e : Endianness) → 16 ≤ length s → Number big_number 4 magic s after → magic_order magic ≡ Some e
    → VersionGrows (number_in e) after → SectionGrows s
grows_behind_magic magic s after e long number names grows =
    record { is_one = named_is_one magic s after e long number names; keeps = keeps_behind_magic magic s after e number names grows }
