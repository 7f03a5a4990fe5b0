-- No more is taken than a grammar requests.
use Rattle.std.proofs.Common.{◌≡◌, ◌<◌, ◌≤◌, ◌-◌, ◌+◌, ℕ, List, [], ◌++◌, length, take, drop, length-append, sym, ap, ◌∙◌, subst, arith, inl, inr}
use Rattle.std.proofs.lemmas.Bool.{cases_lt}
use Rattle.std.proofs.lemmas.List.{length-take-le, take-append-drop, take-append-le}
use Rattle.std.proofs.Math.Seq.{take-append-add}
use Rattle.pcap_core.specs.Answer.{Verdict, whole, lacks, faulty}
use Rattle.pcap_items.specs.Filling.{IsAskedFor}
use Rattle.pcap_items.specs.Format.{Format, IsLawful}
use Rattle.pcap_items.specs.Reading.{IsShort}
use Rattle.pcap_items.proofs.Formats.{text_same, fault_no_text}

module _ {S V : Type 0} (f : Format S V) (laws : IsLawful f) (q : S) where
  pub asked_none : IsAskedFor (f.says q) []
  asked_none n less = absurd (omega (arith, less))

  -- no more bytes came than were requested
  pub asked_more : (n : ℕ) (held more : List ℕ) → f.says q held (lacks n) → length more ≤ n → IsAskedFor (f.says q) held → IsAskedFor (f.says q) (held ++ more)
  asked_more n held more ask few before k less =
      elim (cases_lt k (length held)) [
        | inl lt ↦ subst (λ (s : List ℕ). IsShort (f.says q) s) (sym (take-append-le k held more (omega (arith, lt)))) (before k lt)
        | inr le ↦
            let m = k - length held in
            let at : length held + m ≡ k = omega (arith, le) in
            let within : m ≤ length more = omega (arith, le, less, length-append held more) in
            let count : length (take m more) ≡ m = length-take-le m more within in
            let fewer : length (take m more) < n = omega (arith, count, few, less, le, length-append held more) in
            let short : IsShort (f.says q) (held ++ take m more) = record { n = n - length (take m more); lack = (laws.stable q).request held (take m more) n fewer ask } in
            let there : held ++ take m more ≡ take k (held ++ more) = sym (take-append-add held more m) ∙ ap (λ (i : ℕ). take i (held ++ more)) at in
            subst (λ (s : List ℕ). IsShort (f.says q) s) there short
      ]

  part_lacks : (v : V) (s more : List ℕ) → 0 < length more → f.says q (s ++ more) (whole v []) → (w : Verdict V) → f.says q s w → IsShort (f.says q) s
  part_lacks v s more some text (lacks n) x = record { n = n; lack = x }
  part_lacks v s more some text (faulty fault) x = absurd (fault_no_text f laws q fault (s ++ more) ((laws.stable q).fault s more fault x) v [] text)
  part_lacks v s more some text (whole w rest) x =
      let same = text_same f laws q w v (s ++ more) (rest ++ more) [] ((laws.stable q).text s more rest w x) text in
      absurd (omega (arith, some, ap length same.1, length-append rest more))

  -- an item is no more than is requested
  pub asked_text : (v : V) (s : List ℕ) → f.says q s (whole v []) → IsAskedFor (f.says q) s
  asked_text v s text k less =
      let parts : take k s ++ drop k s ≡ s = take-append-drop k s in
      let count : length (take k s) ≡ k = length-take-le k s (omega (arith, less)) in
      let some : 0 < length (drop k s) = omega (arith, count, less, ap length parts, length-append (take k s) (drop k s)) in
      let one = laws.one q (take k s) in
      part_lacks v (take k s) (drop k s) some (subst (λ (t : List ℕ). f.says q t (whole v [])) (sym parts) text) one.value one.holds
