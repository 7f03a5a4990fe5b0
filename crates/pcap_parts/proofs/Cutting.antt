-- Proofs about cuts that are made one by one.
use Rattle.std.proofs.Common.{◌≡◌, ◌<◌, ◌≤◌, ◌+◌, ◌-◌, ℕ, List, [], ◌∷◌, ◌++◌, length, refl, sym, ◌∙◌, arith, length-append}
use Rattle.std.specs.Prelude.{None}
use Rattle.pcap_items.specs.Format.{Format, Texts, state_after}
use Rattle.pcap_items.proofs.Formats.{texts_all}
use Rattle.std.specs.List.{AllByRecursion}
use Rattle.pcap_parts.specs.declared.cut.Cut.{Cut}
use Rattle.pcap_parts.specs.Parts.{Passes, Bound, Rising, Starts, AreCuts}

pub each_push : {X : Type 0} (P : X → Type 0) (xs : List X) (x : X) → AllByRecursion P xs → P x → AllByRecursion P (xs ++ x ∷ [])
each_push P [] x all one = (one, tt)
each_push P (y ∷ xs) x all one = (all.0, each_push P xs x all.1 one)

pub rising_push : (cuts : List Cut) (x : Cut) → Rising cuts → AllByRecursion (λ (c : Cut). c.offset < x.offset) cuts → Rising (cuts ++ x ∷ [])
rising_push [] x r a = (tt, tt)
rising_push (c ∷ cs) x r a = (each_push (λ (d : Cut). c.offset < d.offset) cs x r.0 a.0, rising_push cs x r.1 a.1)

pub starts_push : (front : ℕ) (cuts : List Cut) (x : Cut) → Starts front cuts → Starts front (cuts ++ x ∷ [])
starts_push front [] x s = absurd s
starts_push front (c ∷ cs) x s = s

all_more : (cuts : List Cut) (m n : ℕ) → m ≤ n → AllByRecursion (λ (c : Cut). c.offset ≤ m) cuts → AllByRecursion (λ (c : Cut). c.offset ≤ n) cuts
all_more [] m n le a = tt
all_more (c ∷ cs) m n le a = (omega (arith, le, a.0), all_more cs m n le a.1)

all_less : (cuts : List Cut) (m n : ℕ) → m < n → AllByRecursion (λ (c : Cut). c.offset ≤ m) cuts → AllByRecursion (λ (c : Cut). c.offset < n) cuts
all_less [] m n le a = tt
all_less (c ∷ cs) m n le a = (omega (arith, le, a.0), all_less cs m n le a.1)

module _ {S V : Type 0} (f : Format S V) where
  -- Cutting: the cuts so far, with the items before `left`, the bytes behind them.
  pub record Cutting (q : S) (s : List ℕ) (front total : ℕ) (left : List ℕ) (before : ℕ) (cuts : List Cut) : Type 0 where
    pub items : List V
    pub texts : Texts f q items s left
    pub count : length items ≡ before
    pub behind : AllByRecursion (λ (c : Cut). c.offset ≤ total - length left) cuts
    pub cuts_are : AreCuts f q s front total cuts

module _ {S V : Type 0} (f : Format S V) (q : S) (s : List ℕ) (total : ℕ) where
  pub cutting_none : (first : Cut) → length s ≤ total → first.offset ≡ total - length s → first.before ≡ 0 → Cutting f q s (total - length s) total s 0 (first ∷ [])
  cutting_none first fits place none =
      let bound : Bound f q s total first = record { items = []; rest = s; texts = refl; count = sym none; place = omega (arith, fits, place) } in
      record {
        items = [];
        texts = refl;
        count = refl;
        behind = (omega (arith, place), tt);
        cuts_are = record { bounds = (bound, tt); rising = (tt, tt); starts = (place, none) };
      }

  -- Skipping from a boundary ends at a boundary.
  pub bound_next : (us : List V) (left after : List ℕ) (before at_least n : ℕ) (x : Cut) → Texts f q us s left → length us ≡ before
      → Passes f (state_after f q us) left after at_least n None → x.offset + length after ≡ total → x.before ≡ before + n → (b : Bound f q s total x) × (length b.rest ≡ length after)
  bound_next us left after before at_least n x texts count p place counts = (
    record {
      items = us ++ p.items;
      rest = after;
      texts = texts_all f q us p.items s left after texts p.texts;
      count = length-append us p.items ∙ omega (arith, count, p.count, counts);
      place = place;
    },
    refl,
  )

  pub cutting_more : (front : ℕ) (left after : List ℕ) (before at_least n : ℕ) (cuts : List Cut) (x : Cut) (so_far : Cutting f q s front total left before cuts)
      → Passes f (state_after f q so_far.items) left after at_least n None → 0 < at_least → length s ≤ total → length left ≤ length s → x.offset ≡ total - length after → x.before ≡ before + n
      → Cutting f q s front total after (before + n) (cuts ++ x ∷ [])
  cutting_more front left after before at_least n cuts x so_far p some fits within place counts =
      let items = so_far.items ++ p.items in
      let texts : Texts f q items s after = texts_all f q so_far.items p.items s left after so_far.texts p.texts in
      let count : length items ≡ before + n = length-append so_far.items p.items ∙ omega (arith, so_far.count, p.count) in
      let less : length after < length left = omega (arith, p.stops, some) in
      let here : x.offset + length after ≡ total = omega (arith, place, fits, within, less) in
      let bound = (bound_next so_far.items left after before at_least n x so_far.texts so_far.count p here counts).0 in
      let further : total - length left < x.offset = omega (arith, here, less, fits, within) in
      record {
        items = items;
        texts = texts;
        count = count;
        behind = each_push (λ (c : Cut). c.offset ≤ total - length after) cuts x (all_more cuts (total - length left) (total - length after) (omega (arith, less)) so_far.behind) (omega (arith, place));
        cuts_are = record {
          bounds = each_push (Bound f q s total) cuts x so_far.cuts_are.bounds bound;
          rising = rising_push cuts x so_far.cuts_are.rising (all_less cuts (total - length left) x.offset further so_far.behind);
          starts = starts_push front cuts x so_far.cuts_are.starts;
        };
      }
