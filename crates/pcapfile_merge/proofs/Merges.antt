-- Merges that go on while their inputs are read.
use Rattle.std.proofs.Common.{◌≡◌, ℕ, suc, List, [], ◌∷◌, ◌++◌, map, length, refl, sym, ap, ◌∙◌, subst, append_assoc}
use Rattle.std.specs.List.{AllByRecursion, AllZip}
use Rattle.std.proofs.lemmas.List.{append-nil}
use Rattle.pcapfile_merge.specs.Merges.{ComesLater, IsNotBefore, Gives, Merges}

-- If a mapped list splits at an item, so does the list itself.
pub map_split : {S T : Type 0} (f : S → T) (ss : List S) (front : List T) (x : T) (back : List T) → map f ss ≡ front ++ x ∷ back
    → (before : List S) × (s : S) × (behind : List S) × (ss ≡ before ++ s ∷ behind) × (map f before ≡ front) × (f s ≡ x) × (map f behind ≡ back)
map_split f [] [] x back e = absurd (let no : ⊥ = cc in no)
map_split f [] (y ∷ front) x back e = absurd (let no : ⊥ = cc in no)
map_split f (s ∷ ss) [] x back e = ([], s, ss, refl, refl, cc, cc)
map_split f (s ∷ ss) (y ∷ front) x back e =
    let rest : map f ss ≡ front ++ x ∷ back = cc in
    let head : f s ≡ y = cc in
    let there = map_split f ss front x back rest in
    (s ∷ there.0, there.1, there.2, ap (λ l. s ∷ l) there.3, cc (there.4, head), there.5, there.6)

pub map_join : {S T : Type 0} (f : S → T) (before behind : List S) (s : S) → map f (before ++ s ∷ behind) ≡ map f before ++ f s ∷ map f behind
map_join f [] behind s = refl
map_join f (b ∷ before) behind s = ap (λ l. f b ∷ l) (map_join f before behind s)

pub all_of_map : {S T : Type 0} (f : S → T) (Q : T → Type 0) (ss : List S) → AllByRecursion Q (map f ss) → AllByRecursion (λ s. Q (f s)) ss
all_of_map f Q [] all = tt
all_of_map f Q (s ∷ ss) all = (all.0, all_of_map f Q ss all.1)

module _ {S P : Type 0} (IsEarlier : P → P → Type 0) (gone pending : S → List P) where
  -- What an input gives from here on begins with the packet that it holds. If it holds none, it gives nothing.
  abbrev Continues : S → List P → Type 0
  Continues s tail = (after : List P) × (tail ≡ pending s ++ after) × (pending s ≡ [] → after ≡ [])

  -- What each input gave, and then what it gives from here on.
  abbrev joined : List S → List (List P) → List (List P)
  joined [] tails = []
  joined (s ∷ ss) [] = []
  joined (s ∷ ss) (tail ∷ tails) = (gone s ++ tail) ∷ joined ss tails

  -- The written packets are the beginning of a merge, whatever the inputs give from here on.
  abbrev pub GoesOn : List S → List (ℕ × P) → Type 0
  GoesOn ss out = (tails : List (List P)) (more : List (ℕ × P)) (left : List (List P)) → AllZip Continues ss tails → Merges IsEarlier tails more left → Merges IsEarlier (joined ss tails) (out ++ more) left

  joined_none : (ss : List S) (tails : List (List P)) → AllByRecursion (λ s. gone s ≡ []) ss → AllZip Continues ss tails → joined ss tails ≡ tails
  joined_none [] [] none zip = refl
  joined_none [] (t ∷ ts) none zip = absurd zip
  joined_none (s ∷ ss) [] none zip = absurd zip
  joined_none (s ∷ ss) (t ∷ ts) none zip = rw (none.0, joined_none ss ts none.1 zip.1) refl

  pub goes_none : (ss : List S) → AllByRecursion (λ s. gone s ≡ []) ss → GoesOn ss []
  goes_none ss none tails more left zip merges = subst (λ l. Merges IsEarlier l more left) (sym (joined_none ss tails none zip)) merges

  zip_split : (F : List S) (s : S) (B : List S) (tails : List (List P)) → AllZip Continues (F ++ s ∷ B) tails
      → (TF : List (List P)) × (t : List P) × (TB : List (List P)) × (tails ≡ TF ++ t ∷ TB) × AllZip Continues F TF × Continues s t × AllZip Continues B TB
  zip_split [] s B [] zip = absurd zip
  zip_split [] s B (t ∷ ts) zip = ([], t, ts, refl, tt, zip.0, zip.1)
  zip_split (f ∷ F) s B [] zip = absurd zip
  zip_split (f ∷ F) s B (t ∷ ts) zip =
      let there = zip_split F s B ts zip.1 in
      (t ∷ there.0, there.1, there.2, ap (λ l. t ∷ l) there.3, (zip.0, there.4), there.5, there.6)

  zip_join : (F : List S) (s : S) (B : List S) (TF : List (List P)) (t : List P) (TB : List (List P)) → AllZip Continues F TF → Continues s t → AllZip Continues B TB → AllZip Continues (F ++ s ∷ B) (TF ++ t ∷ TB)
  zip_join [] s B [] t TB front here back = (here, back)
  zip_join [] s B (x ∷ TF) t TB front here back = absurd front
  zip_join (f ∷ F) s B [] t TB front here back = absurd front
  zip_join (f ∷ F) s B (x ∷ TF) t TB front here back = (front.0, zip_join F s B TF t TB front.1 here back)

  zip_long : (F : List S) (TF : List (List P)) → AllZip Continues F TF → length F ≡ length TF
  zip_long [] [] zip = refl
  zip_long [] (t ∷ ts) zip = absurd zip
  zip_long (f ∷ F) [] zip = absurd zip
  zip_long (f ∷ F) (t ∷ ts) zip = ap suc (zip_long F ts zip.1)

  joined_join : (F : List S) (s : S) (B : List S) (TF : List (List P)) (t : List P) (TB : List (List P)) → AllZip Continues F TF
      → joined (F ++ s ∷ B) (TF ++ t ∷ TB) ≡ joined F TF ++ (gone s ++ t) ∷ joined B TB
  joined_join [] s B [] t TB zip = refl
  joined_join [] s B (x ∷ TF) t TB zip = absurd zip
  joined_join (f ∷ F) s B [] t TB zip = absurd zip
  joined_join (f ∷ F) s B (x ∷ TF) t TB zip = ap (λ l. (gone f ++ x) ∷ l) (joined_join F s B TF t TB zip.1)

  -- If the packet that an input holds comes later, so does all that the input gives.
  later_there : (p : P) (held tail after : List P) → tail ≡ held ++ after → (held ≡ [] → after ≡ []) → ComesLater IsEarlier p held → ComesLater IsEarlier p tail
  later_there p [] tail after is none later = subst (ComesLater IsEarlier p) (sym (is ∙ none refl)) tt
  later_there p (q ∷ held) tail after is none later = subst (ComesLater IsEarlier p) (sym is) later

  not_before_there : (p : P) (held tail after : List P) → tail ≡ held ++ after → (held ≡ [] → after ≡ []) → IsNotBefore IsEarlier p held → IsNotBefore IsEarlier p tail
  not_before_there p [] tail after is none later = subst (IsNotBefore IsEarlier p) (sym (is ∙ none refl)) tt
  not_before_there p (q ∷ held) tail after is none later = subst (IsNotBefore IsEarlier p) (sym is) later

  all_later : (p : P) (F : List S) (TF : List (List P)) → AllZip Continues F TF → AllByRecursion (λ s. ComesLater IsEarlier p (pending s)) F → AllByRecursion (ComesLater IsEarlier p) TF
  all_later p [] [] zip all = tt
  all_later p [] (t ∷ ts) zip all = absurd zip
  all_later p (f ∷ F) [] zip all = absurd zip
  all_later p (f ∷ F) (t ∷ ts) zip all = (later_there p (pending f) t zip.0.0 zip.0.1 zip.0.2 all.0, all_later p F ts zip.1 all.1)

  all_not_before : (p : P) (F : List S) (TF : List (List P)) → AllZip Continues F TF → AllByRecursion (λ s. IsNotBefore IsEarlier p (pending s)) F → AllByRecursion (IsNotBefore IsEarlier p) TF
  all_not_before p [] [] zip all = tt
  all_not_before p [] (t ∷ ts) zip all = absurd zip
  all_not_before p (f ∷ F) [] zip all = absurd zip
  all_not_before p (f ∷ F) (t ∷ ts) zip all = (not_before_there p (pending f) t zip.0.0 zip.0.1 zip.0.2 all.0, all_not_before p F ts zip.1 all.1)

  -- The merge goes on by one packet.
  pub goes_next : (F : List S) (s t : S) (B : List S) (p : P) (out : List (ℕ × P)) → pending s ≡ p ∷ [] → gone t ≡ gone s ++ p ∷ []
      → AllByRecursion (λ s. ComesLater IsEarlier p (pending s)) F → AllByRecursion (λ s. IsNotBefore IsEarlier p (pending s)) B
      → GoesOn (F ++ s ∷ B) out → GoesOn (F ++ t ∷ B) (out ++ (length F, p) ∷ [])
  goes_next F s t B p out holds gives later not_before so_far tails more left zip merges =
      let parts = zip_split F t B tails zip in
      let TF = parts.0 in
      let tail = parts.1 in
      let TB = parts.2 in
      let old : Continues s (p ∷ tail) = (tail, ap (λ l. l ++ tail) (sym holds), λ none. absurd (let no : ⊥ = cc (none, holds) in no)) in
      let first : Gives IsEarlier (TF ++ (p ∷ tail) ∷ TB) (length F) p (TF ++ tail ∷ TB) = record {
        front = TF;
        rest = tail;
        back = TB;
        place_is = zip_long F TF parts.4;
        inputs_are = refl;
        left_are = refl;
        later = all_later p F TF parts.4 later;
        not_before = all_not_before p B TB parts.6 not_before;
      } in
      let rest = subst (λ l. Merges IsEarlier l more left) parts.3 merges in
      let whole = so_far (TF ++ (p ∷ tail) ∷ TB) ((length F, p) ∷ more) left (zip_join F s B TF (p ∷ tail) TB parts.4 old parts.6) (TF ++ tail ∷ TB, first, rest) in
      let same : gone s ++ p ∷ tail ≡ gone t ++ tail = sym (ap (λ l. l ++ tail) gives ∙ append_assoc (gone s) (p ∷ []) tail) in
      let inputs : joined (F ++ s ∷ B) (TF ++ (p ∷ tail) ∷ TB) ≡ joined (F ++ t ∷ B) tails =
      joined_join F s B TF (p ∷ tail) TB parts.4 ∙ ap (λ l. joined F TF ++ l ∷ joined B TB) same ∙ sym (joined_join F t B TF tail TB parts.4) ∙ ap (λ l. joined (F ++ t ∷ B) l) (sym parts.3) in
      let outs : out ++ (length F, p) ∷ more ≡ (out ++ (length F, p) ∷ []) ++ more = sym (append_assoc out ((length F, p) ∷ []) more) in
      subst (λ l. Merges IsEarlier l ((out ++ (length F, p) ∷ []) ++ more) left) inputs (subst (λ o. Merges IsEarlier (joined (F ++ s ∷ B) (TF ++ (p ∷ tail) ∷ TB)) o left) outs whole)

  zip_pending : (ss : List S) → AllZip Continues ss (map pending ss)
  zip_pending [] = tt
  zip_pending (s ∷ ss) = (([], sym (append-nil (pending s)), λ none. refl), zip_pending ss)

  joined_pending : (ss : List S) → joined ss (map pending ss) ≡ map (λ s. gone s ++ pending s) ss
  joined_pending [] = refl
  joined_pending (s ∷ ss) = ap (λ l. (gone s ++ pending s) ∷ l) (joined_pending ss)

  -- So far the inputs gave these packets, and each holds at most one more.
  pub goes_so_far : (ss : List S) (out : List (ℕ × P)) → GoesOn ss out → Merges IsEarlier (map (λ s. gone s ++ pending s) ss) out (map pending ss)
  goes_so_far ss out so_far =
      let whole = so_far (map pending ss) [] (map pending ss) (zip_pending ss) refl in
      subst (λ l. Merges IsEarlier l out (map pending ss)) (joined_pending ss) (subst (λ o. Merges IsEarlier (joined ss (map pending ss)) o (map pending ss)) (append-nil out) whole)
