-- The flaws of options, one after another, are those of their list.
use Rattle.std.proofs.Common.{◌≡◌, ◌≢◌, ◌<◌, ℕ, List, [], ◌∷◌, ◌++◌, length, map, Option, Some, None, refl, sym, ap, subst, ◌∙◌, append_assoc, arith, inr}
use Rattle.pcap_core.specs.Answer.{Order, Verdict, whole}
use Rattle.pcap_core.specs.Faults.{Fault}
use Rattle.pcap_core.specs.Padded.{Chain}
use Rattle.pcap_core.proofs.OnePadded.{padded_length}
use Rattle.pcap_options.specs.Values.{Entry, Kind}
use Rattle.pcap_options.proofs.OneList.{head_length}
use Rattle.pcap_options.specs.Options.{may_end_with_body, OptionFault}
use Rattle.pcap_raw_options.specs.UpTo.{StopsAt, no_kind}
use Rattle.pcap_tolerant_blocks.specs.Flaws.{Said, Flawed}
use Rattle.pcap_tolerant_blocks.specs.NextFlaw.{HasFlaws}
use Rattle.pcap_tolerant_blocks.specs.OptionsAsIs.{Judged, JudgedText, entry_in, cut_by, flaws_in, OptionsAsIs, OptionsAsIsSay}
use Rattle.pcap_tolerant_blocks.proofs.Lists.{ReadSoFar, read_more, read_ends}
use Rattle.pcap_tolerant_blocks.proofs.OneAsIs.{list_one, stops_any}

chain_both : {V : Type 0} (IsItem : V → List ℕ → List ℕ → Type 0) (items others : List V) (s mid stop : List ℕ) → Chain IsItem items s mid → Chain IsItem others mid stop → Chain IsItem (items ++ others) s stop
chain_both IsItem [] others s mid stop are more = subst (λ (x : List ℕ). Chain IsItem others x stop) (sym are) more
chain_both IsItem (item ∷ items) others s mid stop are more = (are.0, are.1, chain_both IsItem items others are.0 mid stop are.2 more)

flaws_both : (each others : List Judged) (last : List Said) → flaws_in each [] ++ flaws_in others last ≡ flaws_in (each ++ others) last
flaws_both [] others last = refl
flaws_both (first ∷ each) others last = append_assoc first.flaws (flaws_in each []) (flaws_in others last) ∙ ap (λ (l : List Said). first.flaws ++ l) (flaws_both each others last)

options_of : Verdict (Flawed (List Entry)) → List Entry
options_of (whole x rest) = x.value
options_of _ = []

flaws_of : Verdict (Flawed (List Entry)) → List Said
flaws_of (whole x rest) = x.flaws
flaws_of _ = []

module _ (order : Order) (kind : Kind) where
  verdict_of : List Entry → List Said → List ℕ → Verdict (Flawed (List Entry))
  verdict_of options flaws rest = whole (record { value = options; flaws = flaws }) rest

  same_list : (options others : List Entry) (flaws more : List Said) (s rest left : List ℕ) → OptionsAsIs order kind options flaws s rest → OptionsAsIs order kind others more s left → verdict_of options flaws rest ≡ verdict_of others more left
  unfolding verdict_of
  same_list options others flaws more s rest left x y =
      let one = list_one order kind s in
      one.only (whole (record { value = options; flaws = flaws }) rest) x ∙ sym (one.only (whole (record { value = others; flaws = more }) left) y)

  -- The same bytes are the same options.
  pub options_same : (options others : List Entry) (flaws more : List Said) (s rest left : List ℕ) → OptionsAsIs order kind options flaws s rest → OptionsAsIs order kind others more s left → options ≡ others
  unfolding verdict_of options_of
  options_same options others flaws more s rest left x y = ap options_of (same_list options others flaws more s rest left x y)

  -- They have the same flaws.
  flaws_same : (flaws more : List Said) (s : List ℕ) → HasFlaws order kind flaws s → HasFlaws order kind more s → flaws ≡ more
  unfolding verdict_of flaws_of
  flaws_same flaws more s x y = ap flaws_of (same_list x.options y.options flaws more s x.rest y.rest x.are y.are)

  -- Any bytes are options that have some flaws, or none.
  flaws_in_verdict : (s : List ℕ) (v : Verdict (Flawed (List Entry))) → OptionsAsIsSay order kind s v → (flaws : List Said) × HasFlaws order kind flaws s
  flaws_in_verdict s (whole x rest) h = (x.flaws, record { options = x.value; rest = rest; are = h })
  flaws_in_verdict s _ h = absurd h

  pub flaws_there : (s : List ℕ) → (flaws : List Said) × HasFlaws order kind flaws s
  flaws_there s = let one = list_one order kind s in flaws_in_verdict s one.value one.holds

  -- The flaws of the options that were read, and then those of the options that are left.
  flaws_behind : (options : List Entry) (flaws others : List Said) (s left : List ℕ) → ReadSoFar order kind options flaws s left → HasFlaws order kind others left → HasFlaws order kind (flaws ++ others) s
  flaws_behind options flaws others s left so_far x =
      let all = so_far.each ++ x.are.each in
      let both : flaws ++ others ≡ flaws_in all (cut_by x.are.cut) =
      ap (λ (l : List Said). l ++ others) so_far.flaws_are ∙ ap (λ (l : List Said). flaws_in so_far.each [] ++ l) x.are.flaws_are ∙ flaws_both so_far.each x.are.each (cut_by x.are.cut) in
      record {
        options = map entry_in all;
        rest = x.rest;
        are = record {
          each = all;
          cut = x.are.cut;
          stop = x.are.stop;
          are = chain_both (JudgedText order kind) so_far.each x.are.each s left x.are.stop so_far.are x.are.are;
          stops = stops_any order kind x.options (map entry_in all) x.are.cut x.are.stop x.rest x.are.stops;
          options_are = refl;
          flaws_are = both;
        };
      }

  -- No option has a flaw, and none ends the list.
  pub no_flaw : (options : List Entry) (s left rest : List ℕ) → ReadSoFar order kind options [] s left → StopsAt may_end_with_body order no_kind options None left rest
      → (flaws : List Said) → HasFlaws order kind flaws s → flaws ≡ []
  no_flaw options s left rest so_far stops flaws has =
      flaws_same flaws [] s has (record { options = options; rest = rest; are = read_ends order kind options [] s left rest None so_far stops })

  -- The first option with a flaw.
  pub first_flaw : (options : List Entry) (s left after : List ℕ) (option : Judged) (said : Said) → ReadSoFar order kind options [] s left → JudgedText order kind option left after → option.flaws ≡ said ∷ []
      → (flaws : List Said) → HasFlaws order kind flaws s → (others : List Said) × (flaws ≡ said ∷ others) × HasFlaws order kind others after
  first_flaw options s left after option said so_far text is flaws has =
      let there = flaws_there after in
      let upto = read_more order kind options [] s left after option so_far text in
      let all = flaws_behind (options ++ option.entry ∷ []) ([] ++ option.flaws) there.0 s after upto there.1 in
      (there.0, flaws_same flaws (([] ++ option.flaws) ++ there.0) s has all ∙ ap (λ (l : List Said). l ++ there.0) is, there.1)

  -- The flaw that ends the list.
  pub last_flaw : (options : List Entry) (s left : List ℕ) (fault : Fault) (said : Said) → ReadSoFar order kind options [] s left → left ≢ [] → OptionFault order no_kind left fault → said ≡ record { code = None; fault = fault }
      → (flaws : List Said) → HasFlaws order kind flaws s → (others : List Said) × (flaws ≡ said ∷ others) × HasFlaws order kind others []
  last_flaw options s left fault said so_far some stands is flaws has =
      let cut = read_ends order kind options [] s left left (Some fault) so_far (λ over. some, stands, refl) in
      let list : HasFlaws order kind ([] ++ cut_by (Some fault)) s = record { options = options; rest = left; are = cut } in
      let ended : HasFlaws order kind [] [] = record { options = []; rest = []; are = record { each = []; cut = None; stop = []; are = refl; stops = inr (refl, tt, refl); options_are = refl; flaws_are = refl } } in
      let same : flaws ≡ said ∷ [] = flaws_same flaws (cut_by (Some fault)) s has list ∙ ap (λ (x : Said). x ∷ []) (sym is) in
      ([], same, ended)

  -- One more option without a flaw.
  pub sound_more : (options : List Entry) (s left after : List ℕ) (option : Judged) → ReadSoFar order kind options [] s left → JudgedText order kind option left after → option.flaws ≡ []
      → ReadSoFar order kind (options ++ option.entry ∷ []) [] s after
  sound_more options s left after option so_far text none =
      subst (λ (l : List Said). ReadSoFar order kind (options ++ option.entry ∷ []) l s after) none (read_more order kind options [] s left after option so_far text)

  -- What follows an option is shorter.
  pub after_option : (option : Judged) (left after : List ℕ) → JudgedText order kind option left after → length after < length left
  after_option option left after text =
      omega (arith, head_length order text.code (length text.v) left text.after_head text.head, padded_length text.v text.after_head after text.padded)
