-- Lists of options read leniently, one option after the other.
use Rattle.std.proofs.Common.{◌≡◌, ◌≢◌, ℕ, List, [], ◌∷◌, ◌++◌, length, map, Option, Some, None, Err, refl, sym, ap, subst, ◌∙◌, append_assoc}
use Rattle.std.proofs.lemmas.List.{append-nil, map-append}
use Rattle.pcap_core.specs.Answer.{Order}
use Rattle.pcap_core.specs.Faults.{Fault}
use Rattle.pcap_core.specs.Padded.{Chain}
use Rattle.pcap_core.proofs.Padded.{chain_more}
use Rattle.pcap_options.specs.Values.{Entry, Kind, Unknown}
use Rattle.pcap_options.specs.Options.{may_end_with_body, OptionFault}
use Rattle.pcap_raw_options.specs.UpTo.{StopsAt, no_kind}
use Rattle.pcap_tolerant_blocks.specs.declared.flaws.Flaw.{Flaw}
use Rattle.pcap_tolerant_blocks.specs.Flaws.{Said, said_of}
use Rattle.pcap_tolerant_blocks.specs.OptionsAsIs.{Judged, judged, JudgedText, entry_in, cut_by, flaws_in, OptionsAsIs}

flaws_push : (each : List Judged) (option : Judged) → flaws_in (each ++ option ∷ []) [] ≡ flaws_in each [] ++ option.flaws
flaws_push [] option = append-nil option.flaws
flaws_push (first ∷ each) option = ap (λ (l : List Said). first.flaws ++ l) (flaws_push each option) ∙ sym (append_assoc first.flaws (flaws_in each []) option.flaws)

flaws_last : (each : List Judged) (last : List Said) → flaws_in each last ≡ flaws_in each [] ++ last
flaws_last [] last = refl
flaws_last (first ∷ each) last = ap (λ (l : List Said). first.flaws ++ l) (flaws_last each last) ∙ sym (append_assoc first.flaws (flaws_in each []) last)

-- An option that has only its bytes, by the fault of its value.
pub only_bytes : (code len : ℕ) (v : List ℕ) (entry : Entry) (fault : Fault) → entry ≡ record { code = code; value = Unknown len v } → len ≡ length v
    → record { entry = entry; flaws = record { code = Some code; fault = fault } ∷ [] } ≡ judged code v (Err fault)
only_bytes code len v entry fault is long = rw (is, long) refl

-- These options were read from `s`, and `left` remains to be read.
pub record ReadSoFar (order : Order) (kind : Kind) (options : List Entry) (flaws : List Said) (s left : List ℕ) : Type 0 where
  pub each : List Judged
  pub are : Chain (JudgedText order kind) each s left
  pub options_are : options ≡ map entry_in each
  pub flaws_are : flaws ≡ flaws_in each []

module _ (order : Order) (kind : Kind) where
  pub read_more : (options : List Entry) (flaws : List Said) (s left after : List ℕ) (option : Judged) → ReadSoFar order kind options flaws s left → JudgedText order kind option left after
      → ReadSoFar order kind (options ++ option.entry ∷ []) (flaws ++ option.flaws) s after
  read_more options flaws s left after option so_far is = record {
    each = so_far.each ++ option ∷ [];
    are = chain_more (JudgedText order kind) so_far.each s left after option so_far.are is;
    options_are = ap (λ (l : List Entry). l ++ option.entry ∷ []) so_far.options_are ∙ sym (map-append entry_in so_far.each (option ∷ []));
    flaws_are = ap (λ (l : List Said). l ++ option.flaws) so_far.flaws_are ∙ sym (flaws_push so_far.each option);
  }

  pub read_ends : (options : List Entry) (flaws : List Said) (s left rest : List ℕ) (cut : Option Fault) → ReadSoFar order kind options flaws s left
      → StopsAt may_end_with_body order no_kind options cut left rest → OptionsAsIs order kind options (flaws ++ cut_by cut) s rest
  read_ends options flaws s left rest cut so_far stops = record {
    each = so_far.each;
    cut = cut;
    stop = left;
    are = so_far.are;
    stops = stops;
    options_are = so_far.options_are;
    flaws_are = ap (λ (l : List Said). l ++ cut_by cut) so_far.flaws_are ∙ sym (flaws_last so_far.each (cut_by cut));
  }

  -- A flaw that ends the list.
  pub read_cut : (options : List Entry) (flaws : List Flaw) (flaw : Flaw) (s left : List ℕ) (fault : Fault) → said_of flaw ≡ record { code = None; fault = fault } → ReadSoFar order kind options (map said_of flaws) s left → left ≢ []
      → OptionFault order no_kind left fault → OptionsAsIs order kind options (map said_of (flaws ++ flaw ∷ [])) s left
  read_cut options flaws flaw s left fault is so_far some stands =
      let said : map said_of (flaws ++ flaw ∷ []) ≡ map said_of flaws ++ cut_by (Some fault) = map-append said_of flaws (flaw ∷ []) ∙ ap (λ (x : Said). map said_of flaws ++ x ∷ []) is in
      subst (λ (l : List Said). OptionsAsIs order kind options l s left) (sym said) (read_ends options (map said_of flaws) s left left (Some fault) so_far (λ over. some, stands, refl))
