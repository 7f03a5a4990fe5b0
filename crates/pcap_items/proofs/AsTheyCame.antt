-- Lemmas about items that a copy writes unchanged, for any format.
use Rattle.std.proofs.Common.{◌≡◌, ◌≤◌, ◌+◌, ◌-◌, ℕ, List, [], ◌∷◌, ◌++◌, length, take, drop, refl, ap, sym, ◌∙◌, subst, arith, length-append, take_all, length-drop}
use Rattle.std.specs.Prelude.{Option}
use Rattle.std.proofs.Math.Seq.{take-add, take-append_seam}
use Rattle.std.specs.Io.KnownBytes.{Appends}
use Rattle.std.proofs.KnownBytes.{Appends-trans}
use Rattle.pcap_items.specs.AsTheyCame.{as_they_came}
use Rattle.pcap_core.specs.Answer.{whole}
use Rattle.pcap_items.specs.Copying.{IsWriting, SendsWhole}
use Rattle.pcap_items.specs.Format.{Format, IsLawful}
use Rattle.pcap_items.proofs.Formats.{state_push, texts_more, texts_push}

pub bytes_writing : {V : Type 0} → IsWriting {V = V} as_they_came
bytes_writing = record { nothing = refl; joined = λ vs ws s t. refl }

front_is : (s t after : List ℕ) (n : ℕ) → s ≡ t ++ after → n ≡ length t → take n s ≡ t
front_is s t after n split long = rw (long, split) (take-append_seam t after)

module _ {S V : Type 0} (f : Format S V) (laws : IsLawful f) (q : S) where
  -- the item in a buffer between `used` bytes and `after`
  pub item_at : (shown after : List ℕ) (used : ℕ) (item : V) → used ≤ length shown → f.says q (take (length shown - used) (drop used shown)) (whole item after)
      → (text : List ℕ) × (take (length shown - length after - used) (drop used shown) ≡ text) × f.says q text (whole item []) × (take (length shown - length after) shown ≡ take used shown ++ text)
  item_at shown after used item within says =
      let rest : take (length shown - used) (drop used shown) ≡ drop used shown = take_all (length shown - used) (drop used shown) (omega (arith, length-drop used shown)) in
      let own = laws.own q (drop used shown) after item (subst (λ (l : List ℕ). f.says q l (whole item after)) rest says) in
      let long : length shown - length after - used ≡ length own.0 = omega (arith, within, length-drop used shown, ap length own.1, length-append own.0 after) in
      let is = front_is (drop used shown) own.0 after (length shown - length after - used) own.1 long in
      let count : used + (length shown - length after - used) ≡ length shown - length after = omega (arith, within, length-drop used shown, ap length own.1, length-append own.0 after) in
      let both = subst (λ (n : ℕ). take n shown ≡ take used shown ++ take (length shown - length after - used) (drop used shown)) count (take-add used (length shown - length after - used) shown) in
      (own.0, is, own.2, both ∙ ap (λ (l : List ℕ). take used shown ++ l) is)

  -- one more item was written
  pub one_sent : (front text : List ℕ) (a b c : Option (List ℕ)) (n : ℕ) (item : V) → SendsWhole f as_they_came q front a b n → f.says q text (whole item []) → f.goes q item ≡ q → Appends b c text
      → SendsWhole f as_they_came q (front ++ text) a c (n + 1)
  one_sent front text a b c n item so_far says stays out =
      let there = subst (λ (p : S). f.says p text (whole item [])) (sym so_far.leave) says in
      record {
        items = so_far.items ++ item ∷ [];
        count = length-append so_far.items (item ∷ []) ∙ omega (arith, so_far.count);
        texts = texts_push f q so_far.items item (front ++ text) text [] (texts_more f laws q so_far.items front [] text so_far.texts) there;
        leave = state_push f q so_far.items item ∙ ap (λ (p : S). f.goes p item) so_far.leave ∙ stays;
        out = Appends-trans a b c front text so_far.out out;
      }
