-- Proofs that parts begin where shares end.
use Rattle.std.proofs.Common.{◌≡◌, ◌<◌, ◌≤◌, ◌+◌, ◌-◌, ◌*◌, ◌⊎◌, ℕ, suc, List, [], ◌∷◌, ◌++◌, length, refl, sym, ap, subst, arith, length-append, inl, inr}
use Rattle.std.specs.Prelude.{Some, None}
use Rattle.std.specs.List.{AllByRecursion, Contains}
use Rattle.std.proofs.lemmas.List.Elements.{Contains-append_left, Contains-push}
use Rattle.std.proofs.Math.Nat.{mul-le-mul_right}
use Rattle.std.proofs.lemmas.Bool.{cases_lt}
use Rattle.pcap_items.specs.declared.rest.Rest.{Rest}
use Rattle.pcap_core.specs.Answer.{whole}
use Rattle.pcap_items.specs.Format.{Format, Texts, state_after, IsLawful}
use Rattle.pcap_items.proofs.Formats.{text_same, texts_all}
use Rattle.pcap_items.proofs.Requested.{texts_long}
use Rattle.pcap_items.proofs.Showing.{rest_no_text}
use Rattle.pcap_items.proofs.Copying.{state_all}
use Rattle.pcap_parts.specs.declared.cut.Cut.{Cut}
use Rattle.pcap_parts.specs.Parts.{LastIsNeeded, Passes, Bound, FirstBound, EndsShares, AreFair, share_of}
use Rattle.pcap_parts.proofs.Cutting.{each_push}
use Rattle.pcap_parts.proofs.InParts.{beyond}

abbrev cut_at : ℕ → ℕ → Cut
cut_at offset before = record { offset = offset; before = before }

cut_same : (a b : Cut) → a.offset ≡ b.offset → a.before ≡ b.before → a ≡ b
cut_same a b place count =
    let e : cut_at a.offset a.before ≡ cut_at b.offset b.before = rw (place, count) refl in
    e

module _ {S V : Type 0} (f : Format S V) (q : S) (s : List ℕ) (total front parts : ℕ) where
  -- FairSoFar: the cuts are fair up to the bytes that were skipped.
  pub record FairSoFar (passed : ℕ) (cuts : List Cut) : Type 0 where
    pub wanted : AllByRecursion (EndsShares f q s total front parts) cuts
    pub followed : AllByRecursion (λ (cut : Cut). (cut.offset ≡ front) ⊎ (cut.offset < total)) cuts
    pub served : (k : ℕ) (cut : Cut) → k ≤ parts - 1 → k * share_of (length s) parts ≤ passed → FirstBound f q s total (front + k * share_of (length s) parts) cut → Contains cuts cut
    pub done : ℕ
    pub few : length cuts ≤ done + 1
    pub not_all : done ≤ parts - 1
    pub behind : done * share_of (length s) parts ≤ passed

module _ {S V : Type 0} (f : Format S V) (laws : IsLawful f) (q : S) (s : List ℕ) (total : ℕ) where
  first_item : (p : S) (more : List V) (mid rest after : List ℕ) (v : V) → Texts f p more mid rest → f.says p mid (whole v after) → length rest < length mid
      → length rest ≤ length after
  first_item p [] mid rest after v texts text less = absurd (omega (arith, less, ap length texts))
  first_item p (w ∷ more) mid rest after v texts text less =
      let one = text_same f laws p w v mid texts.0 after texts.1 text in
      omega (arith, texts_long f laws (f.goes p w) more texts.0 rest texts.2, ap length one.1)

  -- A boundary behind the beginning of an item is behind the whole item.
  behind_item : (us : List V) (mid after : List ℕ) (v : V) → Texts f q us s mid → f.says (state_after f q us) mid (whole v after)
      → (d : Cut) (y : Bound f q s total d) → length y.rest < length mid → length y.rest ≤ length after
  behind_item us mid after v texts text d y less =
      let on = beyond f laws q us y.items s mid y.rest texts y.texts (omega (arith, less)) in
      first_item (state_after f q us) on.0 mid y.rest after v on.2 text less

  no_item : (p : S) (more : List V) (mid rest : List ℕ) → Texts f p more mid rest → ((v : V) (after : List ℕ) → f.says p mid (whole v after) → ⊥) → length rest < length mid → ⊥
  no_item p [] mid rest texts none less = absurd (omega (arith, less, ap length texts))
  no_item p (w ∷ more) mid rest texts none less = none w texts.0 texts.1

  -- No boundary is behind a place where no item begins.
  none_behind : (us : List V) (mid : List ℕ) → Texts f q us s mid → ((v : V) (after : List ℕ) → f.says (state_after f q us) mid (whole v after) → ⊥)
      → (d : Cut) (y : Bound f q s total d) → length y.rest < length mid → ⊥
  none_behind us mid texts none d y less =
      let on = beyond f laws q us y.items s mid y.rest texts y.texts (omega (arith, less)) in
      no_item (state_after f q us) on.0 mid y.rest on.2 none less

  -- Two boundaries at one place are the same.
  bound_same : (a b : Cut) → Bound f q s total a → Bound f q s total b → a.offset ≡ b.offset → a ≡ b
  bound_same a b x y e =
      let on = beyond f laws q x.items y.items s x.rest y.rest x.texts y.texts (omega (arith, x.place, y.place, e)) in
      let long = texts_long f laws (state_after f q x.items) on.0 x.rest y.rest on.2 in
      let none : length on.0 ≡ 0 = omega (arith, long, x.place, y.place, e) in
      let count : length y.items ≡ length x.items = omega (arith, ap length on.1, length-append x.items on.0, none) in
      cut_same a b e (omega (arith, count, x.count, y.count))

  first_same : (place : ℕ) (a b : Cut) → FirstBound f q s total place a → FirstBound f q s total place b → a ≡ b
  first_same place a b x y =
      let e : a.offset ≡ b.offset = omega (arith, x.first b y.bound y.behind, y.first a x.bound x.behind) in
      bound_same a b x.bound y.bound e

  -- The first boundary at or behind a place is also the first for each later place up to the boundary.
  first_further : (place further : ℕ) (a : Cut) → place ≤ further → further ≤ a.offset → FirstBound f q s total place a → FirstBound f q s total further a
  first_further place further a le there x =
      record { bound = x.bound; behind = there; first = λ other y less. x.first other y (omega (arith, le, less)) }

  -- A boundary at or behind the place that the skip must reach is not before the end of the skip.
  passed_last : (us items : List V) (left after : List ℕ) (at_least : ℕ) (d : Cut) (y : Bound f q s total d) → Texts f q us s left
      → Texts f (state_after f q us) items left after → LastIsNeeded f (state_after f q us) items left after at_least → 0 < at_least
      → at_least + length after ≤ length left → length y.rest + at_least ≤ length left → length y.rest ≤ length after
  passed_last us items left after at_least d y texts passed (inl none) some enough there =
      let all : left ≡ after = subst (λ (vs : List V). Texts f (state_after f q us) vs left after) none passed in
      absurd (omega (arith, ap length all, some, enough))
  passed_last us items left after at_least d y texts passed (inr needed) some enough there =
      let before = needed.0 in
      let last = needed.1 in
      let mid = needed.2 in
      let state : state_after f q (us ++ before) ≡ state_after f (state_after f q us) before = state_all f q us before in
      let text : f.says (state_after f q (us ++ before)) mid (whole last after) = subst (λ (p : S). f.says p mid (whole last after)) (sym state) needed.5 in
      behind_item (us ++ before) mid after last (texts_all f q us before s left mid texts needed.4) text d y (omega (arith, there, needed.6))

  -- A skip ends at the first boundary at or behind the place that it must reach.
  pub passed_first : (us : List V) (left after : List ℕ) (at_least n place : ℕ) (x : Cut) → Texts f q us s left → Passes f (state_after f q us) left after at_least n None
      → 0 < at_least → place + length left ≡ total + at_least → (b : Bound f q s total x) → length b.rest ≡ length after → FirstBound f q s total place x
  passed_first us left after at_least n place x texts p some at b same = record {
    bound = b;
    behind = omega (arith, p.stops, at, b.place, same);
    first = λ other y less. omega (arith, b.place, y.place, same, passed_last us p.items left after at_least other y texts p.texts p.needed some p.stops (omega (arith, less, at, y.place)));
  }

  -- If the items end before enough bytes are skipped, no boundary is that far.
  pub none_further : (us : List V) (left after : List ℕ) (n count : ℕ) (said : Rest) → Texts f q us s left → Passes f (state_after f q us) left after n count (Some said)
      → (cut : Cut) (y : Bound f q s total cut) → length y.rest + n ≤ length left → ⊥
  none_further us left after n count said texts p cut y there =
      let state = state_all f q us p.items in
      none_behind (us ++ p.items) after (texts_all f q us p.items s left after texts p.texts)
      (λ v more text. rest_no_text f laws (state_after f (state_after f q us) p.items) after said p.stops.1 v more (subst (λ (z : S). f.says z after (whole v more)) state text))
      cut y (omega (arith, p.stops.0, there))

  -- If no bytes follow what is skipped, no boundary that has bytes behind it is that far.
  pub all_passed : (us : List V) (left after : List ℕ) (n count : ℕ) → Texts f q us s left → Passes f (state_after f q us) left after n count None → 0 < n → length after ≡ 0
      → (cut : Cut) (y : Bound f q s total cut) → length y.rest + n ≤ length left → cut.offset < total → ⊥
  all_passed us left after n count texts p some empty cut y there less =
      omega (arith, empty, passed_last us p.items left after n cut y texts p.texts p.needed some p.stops there, y.place, less)

  module _ (front parts : ℕ) where
    abbrev share : ℕ
    share = share_of (length s) parts

    pub fair_none : (first : Cut) (b : Bound f q s total first) → first.offset ≡ front → length b.rest ≡ length s → (passed : ℕ) → passed ≡ 0
        → FairSoFar f q s total front parts passed (first ∷ [])
    fair_none first b place all passed none =
        let here : (other : Cut) (y : Bound f q s total other) → first.offset ≤ other.offset = λ other y. omega (arith, b.place, y.place, all, texts_long f laws q y.items s y.rest y.texts) in
        record {
          wanted = (record { shares = 0; not_all = omega arith; first_bound = record { bound = b; behind = omega (arith, place); first = λ other y less. here other y } }, tt);
          followed = (inl place, tt);
          served = λ k cut most le x.
              let e : first ≡ cut = bound_same first cut b x.bound (omega (arith, here cut x.bound, x.first first b (omega (arith, place, le)))) in
              subst (λ (c : Cut). Contains (first ∷ []) c) e (Contains-push [] first);
          done = 0;
          few = omega arith;
          not_all = omega arith;
          behind = omega arith;
        }

    further : (k j passed n : ℕ) → k < j → passed + n ≡ suc k * share → passed + n ≤ j * share
    further k j passed n less e = omega (arith, e, mul-le-mul_right {m = suc k} {n = j} share (omega (arith, less)))

    -- Shares that ended at or before what was skipped are not after the share that ends next.
    up_to : (k done passed n : ℕ) → done * share ≤ passed → passed + n ≡ suc k * share → 0 < n → done ≤ k
    up_to k done passed n le e some = up_to_by (cases_lt k done)
      where
        up_to_by : (k < done) ⊎ (done ≤ k) → done ≤ k
        up_to_by (inl less) = absurd (omega (arith, further k done passed n less e, le, some))
        up_to_by (inr there) = there

    pub fair_more : (us : List V) (left after : List ℕ) (n count k : ℕ) (cuts : List Cut) (x : Cut) → FairSoFar f q s total front parts (length s - length left) cuts
        → Texts f q us s left → Passes f (state_after f q us) left after n count None → k < parts - 1 → k * share ≤ length s - length left
        → length s - length left + n ≡ suc k * share → 0 < n → front + length s ≡ total → 0 < length after → length left ≤ length s → (b : Bound f q s total x) → length b.rest ≡ length after
        → FairSoFar f q s total front parts (length s - length after) (cuts ++ x ∷ [])
    fair_more us left after n count k cuts x so_far texts p most le e some at bytes fits b same =
        let place = front + suc k * share in
        let here : FirstBound f q s total place x = passed_first us left after n count place x texts p some (omega (arith, e, at, fits)) b same in
        let there : suc k * share ≤ length s - length after = omega (arith, here.behind, b.place, same, at) in
        let less : length after ≤ length left = omega (arith, p.stops) in
        record {
          wanted = each_push (EndsShares f q s total front parts) cuts x so_far.wanted (record { shares = suc k; not_all = omega (arith, most); first_bound = here });
          followed = each_push (λ (cut : Cut). (cut.offset ≡ front) ⊎ (cut.offset < total)) cuts x so_far.followed (inr (omega (arith, b.place, same, bytes)));
          served = λ j cut j_most j_le y. served_by j cut (cases_lt k j) place here so_far j_most j_le y le b same at;
          done = suc k;
          few = omega (arith, length-append cuts (x ∷ []), so_far.few, up_to k so_far.done (length s - length left) n so_far.behind e some);
          not_all = omega (arith, most);
          behind = there;
        }
      where
        served_by : (j : ℕ) (cut : Cut) → (k < j) ⊎ (j ≤ k) → (place : ℕ) → FirstBound f q s total (front + suc k * share) x → FairSoFar f q s total front parts (length s - length left) cuts → j ≤ parts - 1
            → j * share ≤ length s - length after → FirstBound f q s total (front + j * share) cut → k * share ≤ length s - length left → (b : Bound f q s total x) → length b.rest ≡ length after
            → front + length s ≡ total → Contains (cuts ++ x ∷ []) cut
        served_by j cut (inl later) place here so_far most j_le y le b same at =
            let x_there : FirstBound f q s total (front + j * share) x =
            first_further (front + suc k * share) (front + j * share) x (omega (arith, mul-le-mul_right {m = suc k} {n = j} share (omega (arith, later)))) (omega (arith, j_le, b.place, same, at)) here in
            subst (λ (c : Cut). Contains (cuts ++ x ∷ []) c) (first_same (front + j * share) x cut x_there y) (Contains-push cuts x)
        served_by j cut (inr earlier) place here so_far most j_le y le b same at =
            Contains-append_left cuts (x ∷ []) cut (so_far.served j cut most (omega (arith, le, mul-le-mul_right {m = j} {n = k} share earlier)) y)

    -- Cuts are fair if what was skipped covers each share whose first boundary has bytes behind it.
    fair_all : (passed : ℕ) (cuts : List Cut) → FairSoFar f q s total front parts passed cuts
        → ((k : ℕ) (cut : Cut) → k ≤ parts - 1 → FirstBound f q s total (front + k * share) cut → cut.offset < total → k * share ≤ passed) → AreFair f q s total front parts cuts
    fair_all passed cuts so_far none = record {
      wanted = so_far.wanted;
      followed = so_far.followed;
      all = λ cut ends less. so_far.served ends.shares cut ends.not_all (none ends.shares cut ends.not_all ends.first_bound less) ends.first_bound;
      few = omega (arith, so_far.few, so_far.not_all);
    }

    -- Cuts are fair if all shares but the last have ended.
    pub fair_enough : (passed : ℕ) (cuts : List Cut) → FairSoFar f q s total front parts passed cuts → ((k : ℕ) → k ≤ parts - 1 → k * share ≤ passed) → AreFair f q s total front parts cuts
    fair_enough passed cuts so_far ended = fair_all passed cuts so_far (λ k cut most x less. ended k most)

    -- Cuts are fair if no boundary with bytes behind it is at or behind the next end of a share.
    pub fair_at_last : (left : List ℕ) (n k : ℕ) (cuts : List Cut) → FairSoFar f q s total front parts (length s - length left) cuts → k * share ≤ length s - length left
        → length s - length left + n ≡ suc k * share → front + length s ≡ total → length left ≤ length s
        → ((cut : Cut) (y : Bound f q s total cut) → length y.rest + n ≤ length left → cut.offset < total → ⊥) → AreFair f q s total front parts cuts
    fair_at_last left n k cuts so_far le e at fits none =
        fair_all (length s - length left) cuts so_far (λ j cut most x less. by_cases j cut (cases_lt k j) x less)
      where
        by_cases : (j : ℕ) (cut : Cut) → (k < j) ⊎ (j ≤ k) → FirstBound f q s total (front + j * share) cut → cut.offset < total → j * share ≤ length s - length left
        by_cases j cut (inl later) x less =
            absurd (none cut x.bound (omega (arith, further k j (length s - length left) n later e, x.behind, x.bound.place, at, fits)) less)
        by_cases j cut (inr earlier) x less = omega (arith, le, mul-le-mul_right {m = j} {n = k} share earlier)
