-- Copies of all items that are left, if nothing fails, and the bytes that a copy writes in any case, for any format.
use Rattle.std.proofs.Common.{◌≡◌, ◌≤◌, ◌⊎◌, ℕ, List, [], ◌∷◌, ◌++◌, length, Bool, refl, ap, sym, ◌∙◌, subst, arith, length-append, append-nil, append_assoc, false, Some, None, inl, inr}
use Rattle.std.specs.Prelude.{Option, IfSome}
use Rattle.std.specs.Option.{IsSomeAnd}
use Rattle.std.specs.Io.KnownBytes.{Appends, Keeps}
use Rattle.std.proofs.KnownBytes.{Consumes-trans, Appends-kept, Appends-trans}
use Rattle.std.proofs.lemmas.Bool.{true≢false}
use Rattle.std.proofs.lemmas.List.{nil_from_length}
use Rattle.pcap_core.specs.declared.errors.PcapError.{PcapError}
use Rattle.pcap_core.specs.Answer.{Verdict, whole}
use Rattle.pcap_items.specs.Copying.{IsWriting, CopiesTexts, Ends, Fails}
use Rattle.pcap_core.specs.Errors.{IsMemory}
use Rattle.pcap_items.specs.Format.{Format, Texts, state_after, Front, IsLawful}
use Rattle.pcap_items.specs.Reading.{HasCause, read_failed, no_memory, torn, refused, IsFaultOf, TakesAsked}
use Rattle.pcap_items.specs.Takes.{EndsFront, TakesTexts}
use Rattle.pcap_items.proofs.Formats.{front_goes_on, texts_more, texts_push, nothing_more, nothing_no_text}
use Rattle.pcap_core.proofs.Refusals.{shown_fault}
use Rattle.pcap_items.proofs.Taking.{ends_front, taken_known}

-- if all items that were left were taken, and nothing failed, there is no error
pub no_fault_left : {V : Type 0} (IsSaid : List ℕ → Verdict V → Type 0) (more : List V) (failed : Bool) (count most : ℕ) (fault : Option PcapError) → failed ≡ false → IfSome fault (λ e. IsMemory e → ⊥)
    → EndsFront IsSaid [] more failed count most fault → (fault ≡ None) × ((more ≡ []) ⊎ (count ≡ most))
no_fault_left IsSaid more failed count most None unfailed memory ends = (refl, elim ends.1 [ inl end ↦ inl end.0 | inr full ↦ inr full ])
no_fault_left IsSaid more failed count most (Some e) unfailed memory ends =
    elim ends.1 [
      | inl io ↦ absurd (true≢false (sym io.1 ∙ unfailed))
      | inr (inl out) ↦ absurd (memory out.0)
      | inr (inr rest) ↦ elim rest.1 [
        | read_failed io is ↦ absurd (true≢false (sym is ∙ unfailed))
        | no_memory out is ↦ absurd (memory out)
        | torn io is short ↦ absurd (omega (arith, short.0))
        | refused shows is ↦ let bad = shown_fault (IsFaultOf IsSaid (Some [])) e shows in absurd (omega (arith, bad.1.some))
      ]
    ]

-- nor is what follows refused, if that is items and no more
pub no_stop : {S V : Type 0} (f : Format S V) → IsLawful f → (failed : Bool) (fault : Option PcapError) (q : S) (more : List V) (s : List ℕ) (now : Option (List ℕ)) → failed ≡ false
    → IfSome fault (λ e. IsMemory e → ⊥) → Front f q more s [] → IsSomeAnd fault (HasCause (f.says q) (Some s) failed) → TakesAsked (f.says q) (Some s) now → ⊥
no_stop f laws failed None q more s now read memory front cause part = cause
no_stop f laws failed (Some e) q more s now read memory front cause part =
    let ends = ends_front f laws q (Some e) s [] more now failed 0 1 front (omega arith, cause, part) in
    let none : Some e ≡ None = (no_fault_left (f.says q) more failed 0 1 (Some e) read memory ends).0 in
    absurd cc

module _ {S V : Type 0} (f : Format S V) (laws : IsLawful f) (written : List V → List ℕ → List ℕ) (failed_read failed_write : Bool) where
  -- a copy of such items does not end with an error
  pub no_fails : (fault : Option PcapError) (q : S) (more : List V) (s : List ℕ) (now mid out : Option (List ℕ)) → failed_read ≡ false → failed_write ≡ false → IfSome fault (λ e. IsMemory e → ⊥)
      → Front f q more s [] → Fails written (f.says q) (Some s) now mid out fault failed_read failed_write → ⊥
  no_fails fault q more s now mid out read wrote memory front (inl tear) = true≢false (sym tear.write_failed ∙ wrote)
  no_fails fault q more s now mid out read wrote memory front (inr bad) = no_stop f laws failed_read fault q more s now read memory front bad.refused bad.part

  module _ (fault : Option PcapError) (q : S) (vs : List V) (before left now out mid out_now : Option (List ℕ)) (most n : ℕ) where
    -- it copies them all, if there are no more than it may copy
    pub copies_accepted : (all : List V) (s : List ℕ) → failed_read ≡ false → failed_write ≡ false → IfSome fault (λ e. IsMemory e → ⊥) → Front f q all s [] → (n ≡ most → length all ≤ length vs)
        → CopiesTexts f written q vs (Some s) left out mid → Ends written (f.says (state_after f q vs)) left now mid out_now most n fault failed_read failed_write
        → (fault ≡ None) × (all ≡ vs) × Appends out out_now (written all s)
    copies_accepted all s read wrote memory front few texts ends =
        let l = taken_known s texts.bytes left texts.took in
        let here : Texts f q vs s l.0 = subst (λ (t : List ℕ). Texts f q vs t l.0) (sym l.2) (texts_more f laws q vs texts.bytes [] l.0 texts.texts) in
        let on = front_goes_on f laws q vs all s l.0 [] here front in
        let p = state_after f q vs in
        elim (subst (λ (o : Option (List ℕ)). Ends written (f.says p) o now mid out_now most n fault failed_read failed_write) l.1 ends) [
          | inr fails ↦ absurd (no_fails fault p on.0 l.0 now mid out_now read wrote memory on.2 fails.1)
          | inl ended ↦
              let none : on.0 ≡ [] = elim ended.1 [
                | inl end ↦ (nothing_more f laws p on.0 l.0 [] on.2 (λ v r text. nothing_no_text f laws p v r (subst (λ (t : List ℕ). f.says p t (whole v r)) end text))).0
                | inr full ↦ nil_from_length on.0 (omega (arith, few full, ap length on.1, length-append vs on.0))
              ] in
              let empty : l.0 ≡ [] = (subst (λ (more : List V). Front f p more l.0 []) none on.2).texts in
              let items : all ≡ vs = on.1 ∙ ap (λ (more : List V). vs ++ more) none ∙ append-nil vs in
              let bytes : s ≡ texts.bytes = l.2 ∙ ap (λ (t : List ℕ). texts.bytes ++ t) empty ∙ append-nil texts.bytes in
              let went = Appends-kept out mid out_now (written vs texts.bytes) texts.went ended.0.out in
              (ended.0.fine, items, subst (λ (t : List ℕ). Appends out out_now (written all t)) (sym bytes) (subst (λ (ws : List V). Appends out out_now (written ws texts.bytes)) (sym items) went))
        ]

    whole_begin : (texts : CopiesTexts f written q vs before left out mid) → Keeps mid out_now
        → (ws : List V) × (end : Option (List ℕ)) × (took : TakesTexts f q ws before end) × (gone more : List ℕ) × (written ws took.bytes ≡ gone ++ more) × Appends out out_now gone
    whole_begin texts kept =
        let front = written vs texts.bytes in
        (vs, left, record { bytes = texts.bytes; texts = texts.texts; took = texts.took }, front, [], sym (append-nil front), Appends-kept out mid out_now front texts.went kept)

    -- whatever fails, the written bytes are a beginning of what is written of items that were taken
    pub copies_begin : IsWriting written → CopiesTexts f written q vs before left out mid → Ends written (f.says (state_after f q vs)) left now mid out_now most n fault failed_read failed_write
        → (ws : List V) × (end : Option (List ℕ)) × (took : TakesTexts f q ws before end) × (gone more : List ℕ) × (written ws took.bytes ≡ gone ++ more) × Appends out out_now gone
    copies_begin writing texts (inl ended) = whole_begin texts ended.0.out
    copies_begin writing texts (inr (few, inr bad)) = whole_begin texts bad.out
    copies_begin writing texts (inr (few, inl tear)) =
        let part = tear.out in
        let front = written vs texts.bytes in (
          vs ++ tear.item ∷ [],
          now,
          record {
            bytes = texts.bytes ++ tear.text;
            texts = texts_push f q vs tear.item (texts.bytes ++ tear.text) tear.text [] (texts_more f laws q vs texts.bytes [] tear.text texts.texts) tear.is_text;
            took = Consumes-trans before left now texts.bytes tear.text texts.took tear.took;
          },
          front ++ part.2.gone,
          part.0,
          writing.joined vs (tear.item ∷ []) texts.bytes tear.text ∙ ap (λ (t : List ℕ). front ++ t) part.2.split ∙ sym (append_assoc front part.2.gone part.0),
          Appends-trans out mid out_now front part.2.gone texts.went part.2.out,
        )
