-- Any bytes have exactly one reading as names.
use Rattle.std.proofs.Common.{◌≡◌, ◌≢◌, ℕ, zero, suc, Bool, true, false, List, [], ◌∷◌, ◌++◌, length, Ok, Err, refl, sym, ap, subst, ◌∙◌, arith, inl, inr}
use Rattle.std.specs.Prelude.{◌⊎◌}
use Rattle.std.specs.Str.{is_utf8}
use Rattle.std.proofs.lemmas.List.Elements.{All-cons, All-nil}
use Rattle.pcap_core.specs.Answer.{Verdict, whole, lacks, faulty}
use Rattle.pcap_core.specs.Faults.{Fault, Invalid, Utf8}
use Rattle.pcap_core.specs.Laws.{ExactlyOne}
use Rattle.pcap_core.specs.declared.rules.Rule.TheVariants.{NameUnended}
use Rattle.pcap_core.specs.Padded.{Chain}
use Rattle.pcap_options.specs.Values.{string_at}
use Rattle.pcap_options.specs.Names.{HasNoZero, NameText, NameFault, unended, no_string, NameSays, NamesSay}
use Rattle.pcap_options.proofs.Naming.{name_shorter}
use Rattle.pcap_options.proofs.OneVerdict.{IsDecided, one_said, same_said}
use Rattle.pcap_core.proofs.Verdicts.{one_moved, Then, one_then, Stopped, IsMany, one_stopped, whole_no_fault}
use Rattle.pcap_core.proofs.Verdicts.{whole_same}

no_zero_head : (b : ℕ) (s : List ℕ) → HasNoZero (b ∷ s) → b ≢ 0
no_zero_head b s all = all 0 0 (omega arith)

no_zero_tail : (b : ℕ) (s : List ℕ) → HasNoZero (b ∷ s) → HasNoZero s
no_zero_tail b s all k d lt = all (suc k) d (omega arith)

-- `s` has a zero byte, with these bytes before it and after it.
record HasZero (s : List ℕ) : Type 0 where
  before : List ℕ
  after : List ℕ
  parts : s ≡ before ++ 0 ∷ after
  no_zero : HasNoZero before

zero_or_not : (s : List ℕ) → HasZero s ⊎ HasNoZero s
zero_or_not [] = inr (All-nil (λ b. b ≢ 0))
zero_or_not (zero ∷ s) = inl (record { before = []; after = s; parts = refl; no_zero = All-nil (λ b. b ≢ 0) })
zero_or_not (suc b ∷ s) =
    elim (zero_or_not s) [
      | inl z ↦ inl (record { before = suc b ∷ z.before; after = z.after; parts = ap (λ (x : List ℕ). suc b ∷ x) z.parts; no_zero = All-cons (λ b. b ≢ 0) (suc b) z.before (λ e. omega (arith, e)) z.no_zero })
      | inr none ↦ inr (All-cons (λ b. b ≢ 0) (suc b) s (λ e. omega (arith, e)) none)
    ]

-- The first zero byte ends exactly one name.
one_front : (a b x y : List ℕ) → HasNoZero a → HasNoZero b → a ++ 0 ∷ x ≡ b ++ 0 ∷ y → (a ≡ b) × (x ≡ y)
one_front [] [] x y p q e = (refl, cc)
one_front [] (d ∷ b) x y p q e = absurd (no_zero_head d b q cc)
one_front (c ∷ a) [] x y p q e = absurd (no_zero_head c a p cc)
one_front (c ∷ a) (d ∷ b) x y p q e =
    let tails : a ++ 0 ∷ x ≡ b ++ 0 ∷ y = cc in
    let both = one_front a b x y (no_zero_tail c a p) (no_zero_tail d b q) tails in
    let heads : c ≡ d = cc in
    (rw (heads, both.0) refl, both.1)

zero_inside : (a x : List ℕ) → HasNoZero (a ++ 0 ∷ x) → ⊥
zero_inside [] x all = no_zero_head 0 x all refl
zero_inside (b ∷ a) x all = zero_inside a x (no_zero_tail b (a ++ 0 ∷ x) all)

-- The bytes of a name up to its zero byte; whether they are UTF-8 comes later.
ZeroSays : List ℕ → Verdict (List ℕ) → Type 0
ZeroSays s (whole name rest) = (s ≡ name ++ 0 ∷ rest) × HasNoZero name
ZeroSays s (lacks n) = ⊥
ZeroSays s (faulty f) = (f ≡ Invalid NameUnended) × HasNoZero s

StringSays : List ℕ → List ℕ → Verdict (List ℕ) → Type 0
StringSays name rest (whole n r) = (string_at name ≡ Ok n) × (n ≡ name) × (r ≡ rest)
StringSays name rest (lacks n) = ⊥
StringSays name rest (faulty f) = string_at name ≡ Err f

zero_one : (s : List ℕ) → ExactlyOne (ZeroSays s)
unfolding ZeroSays
zero_one s =
    let is : IsDecided (ZeroSays s) = record {
      wholes = λ n m r q h k. one_front m n q r k.1 h.1 (sym k.0 ∙ h.0);
      faults = λ f g h k. k.0 ∙ sym h.0;
      not_both = λ n r f h k. zero_inside n r (subst HasNoZero h.0 k.1);
      no_lack = λ m h. h;
    } in
    elim (zero_or_not s) [
      | inl z ↦ one_said (ZeroSays s) is (whole z.before z.after) (z.parts, z.no_zero)
      | inr none ↦ one_said (ZeroSays s) is (faulty (Invalid NameUnended)) (refl, none)
    ]

string_cases : (name : List ℕ) (b : Bool) → is_utf8 name ≡ b → (string_at name ≡ Ok name) ⊎ (string_at name ≡ Err Utf8)
string_cases name true e = inl (rw e refl)
string_cases name false e = inr (rw e refl)

string_one : (name rest : List ℕ) → ExactlyOne (StringSays name rest)
unfolding StringSays
string_one name rest =
    let is : IsDecided (StringSays name rest) = record {
      wholes = λ n m r q h k. (k.1 ∙ sym h.1, k.2 ∙ sym h.2);
      faults = λ f g h k. let e = sym k ∙ h in cc;
      not_both = λ n r f h k. let e = sym h.0 ∙ k in absurd cc;
      no_lack = λ m h. h;
    } in
    elim (string_cases name (is_utf8 name) refl) [
      | inl ok ↦ one_said (StringSays name rest) is (whole name rest) (ok, refl, refl)
      | inr err ↦ one_said (StringSays name rest) is (faulty Utf8) err
    ]

NameThen : List ℕ → Verdict (List ℕ) → Type 0
NameThen s = Then (ZeroSays s) StringSays

name_to : (s : List ℕ) (w : Verdict (List ℕ)) → NameSays s w → NameThen s w
unfolding NameThen ZeroSays StringSays
name_to s (whole n r) h = (n, r, (h.parts, h.no_zero), (h.string, refl, refl))
name_to s (lacks m) h = absurd h
name_to s (faulty f) (unended none) = inl (refl, none)
name_to s (faulty f) (no_string _ name rest parts no_zero e) = inr (name, rest, (parts, no_zero), e)

name_from : (s : List ℕ) (w : Verdict (List ℕ)) → NameThen s w → NameSays s w
unfolding NameThen ZeroSays StringSays
name_from s (whole n r) t = record {
  parts = rw (t.3.1, t.3.2) t.2.0;
  no_zero = rw t.3.1 t.2.1;
  string = subst (λ (x : List ℕ). string_at x ≡ Ok n) (sym t.3.1) t.3.0;
}
name_from s (lacks m) (inl t) = t
name_from s (lacks m) (inr t) = t.3
name_from s (faulty f) (inl t) = rw t.0 (unended t.1)
name_from s (faulty f) (inr t) = no_string f t.0 t.1 t.2.0 t.2.1 t.3

pub name_one : (s : List ℕ) → ExactlyOne (NameSays s)
unfolding NameThen
name_one s = one_moved (NameSays s) (NameThen s) (name_to s) (name_from s) (one_then (ZeroSays s) StringSays (zero_one s) (λ name rest h. string_one name rest))

-- Names stop at the end of the bytes or at a fault.
NamesStop : List (List ℕ) → List ℕ → Verdict (List (List ℕ)) → Type 0
NamesStop good s (whole names rest) = (names ≡ good) × (s ≡ []) × (rest ≡ [])
NamesStop good s (lacks m) = ⊥
NamesStop good s (faulty f) = (s ≢ []) × NameFault s f

name_same : (n m s a b : List ℕ) → NameText n s a → NameText m s b → (n ≡ m) × (a ≡ b)
name_same n m s a b h k = whole_same n m a b ((name_one s).only (whole n a) h ∙ sym ((name_one s).only (whole m b) k))

name_some : (n s a : List ℕ) → NameText n s a → s ≢ []
name_some n s a h e = omega (arith, name_shorter n s a h, ap length e)

fault_same : (s : List ℕ) (f g : Fault) → NameFault s f → NameFault s g → g ≡ f
fault_same s f g h k = let e = (name_one s).only (faulty g) k ∙ sym ((name_one s).only (faulty f) h) in cc

stop_decided : (good : List (List ℕ)) (s : List ℕ) → IsDecided (NamesStop good s)
unfolding NamesStop
stop_decided good s = record { wholes = λ n m r q h k. (k.0 ∙ sym h.0, k.2 ∙ sym h.2); faults = λ f g h k. fault_same s f g h.1 k.1; not_both = λ n r f h k. k.0 h.1; no_lack = λ m h. h }

stop_no_item : (good : List (List ℕ)) (s : List ℕ) (w : Verdict (List (List ℕ))) (n a : List ℕ) → NamesStop good s w → NameText n s a → ⊥
unfolding NamesStop
stop_no_item good s (whole m q) n a h k = name_some n s a k h.1
stop_no_item good s (lacks m) n a h k = h
stop_no_item good s (faulty f) n a h k = whole_no_fault n a f ((name_one s).only (whole n a) k ∙ sym ((name_one s).only (faulty f) h.1))

item_or_fault : (s : List ℕ) (v : Verdict (List ℕ)) → NameSays s v → ((f : Fault) × NameFault s f) ⊎ ((n : List ℕ) × (a : List ℕ) × NameText n s a)
item_or_fault s (whole n a) h = inr (n, a, h)
item_or_fault s (lacks m) h = absurd h
item_or_fault s (faulty f) h = inl (f, h)

stop_or_name : (good : List (List ℕ)) (s : List ℕ) → ((w : Verdict (List (List ℕ))) × NamesStop good s w) ⊎ ((n : List ℕ) × (a : List ℕ) × NameText n s a)
unfolding NamesStop
stop_or_name good [] = inl (whole good [], (refl, refl, refl))
stop_or_name good (b ∷ s) =
    elim (item_or_fault (b ∷ s) (name_one (b ∷ s)).value (name_one (b ∷ s)).holds) [
      | inl bad ↦ inl (faulty bad.0, (λ e. cc, bad.1))
      | inr item ↦ inr item
    ]

names_many : IsMany NameText NamesStop
names_many = record { item_same = name_same; item_shorter = λ n s a h. name_shorter n s a h; stop_same = λ good s v w h k. same_said (stop_decided good s) v w h k; stop_no_item = stop_no_item; one_of_both = stop_or_name }

names_to : (s : List ℕ) (w : Verdict (List (List ℕ))) → NamesSay s w → Stopped NameText NamesStop s w
unfolding NamesStop
names_to s (whole names rest) h = (names, [], h.are, (refl, refl, h.nothing_left))
names_to s (lacks m) h = absurd h
names_to s (faulty f) h = (h.good, h.bad, h.are_good, (h.some, h.fault_is))

names_from : (s : List ℕ) (w : Verdict (List (List ℕ))) → Stopped NameText NamesStop s w → NamesSay s w
unfolding NamesStop
names_from s (whole names rest) t = record { are = rw t.3.0 (subst (λ (x : List ℕ). Chain NameText t.0 s x) t.3.1 t.2); nothing_left = t.3.2 }
names_from s (lacks m) t = t.3
names_from s (faulty f) t = record { good = t.0; bad = t.1; are_good = t.2; some = t.3.0; fault_is = t.3.1 }

pub names_one : (s : List ℕ) → ExactlyOne (NamesSay s)
names_one s = one_moved (NamesSay s) (Stopped NameText NamesStop s) (names_to s) (names_from s) (one_stopped NameText NamesStop names_many s)
