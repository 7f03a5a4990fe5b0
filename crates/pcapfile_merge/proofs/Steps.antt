-- The steps of a merge that goes on.
use Rattle.std.proofs.Common.{◌≡◌, ◌+◌, ◌<◌, ℕ, List, [], ◌∷◌, ◌++◌, map, length, get_or, Bool, true, false, Option, None, Some, Result, Ok, Err, refl, sym, ap, ◌∙◌, subst, arith, append_assoc, inl, inr}
use Rattle.std.specs.Prelude.{◌==◌, ◌&&◌, if◌then◌else◌}
use Rattle.std.specs.List.{AllByRecursion}
use Rattle.std.specs.Option.{IsSomeAnd}
use Rattle.std.specs.Io.KnownBytes.{Appends}
use Rattle.std.proofs.KnownBytes.{Appends-nil, Appends-trans}
use Rattle.std.proofs.Math.ListN.{set}
use Rattle.std.proofs.Math.Seq.{set-append_seam, get_or-append_seam}
use Rattle.std.proofs.lemmas.Grind.{flat_map-append}
use Rattle.std.proofs.lemmas.List.{map-append, append-nil, length-append, set-get_or}
use Rattle.pcap_core.specs.declared.errors.PcapError.{PcapError}
use Rattle.pcap_core.specs.Errors.{IsMemory}
use Rattle.pcap_items.specs.Writing.{AppendsPart, WritesAll}
use Rattle.pcapfile_merge.specs.declared.choice.PacketOrder.{PacketOrder}
use Rattle.pcapfile_merge.specs.declared.packet.Pending.{Pending}
use Rattle.pcapfile_merge.specs.declared.reader.Reader.{Reader}
use Rattle.pcapfile_merge.specs.declared.source.Source.{Source}
use Rattle.pcapfile_merge.specs.Choosing.{Chooses, IsFirst}
use Rattle.pcapfile_merge.specs.Merges.{ComesLater, IsNotBefore}
use Rattle.pcapfile_merge.specs.Merging.{AllHaveNumbers, EndsMerge, HasNumbers, Input, Merging, MergesAt, MergesRun, Output, asked_of, held_of, next_after, next_after_all, next_number, numbers_given, packets_in}
use Rattle.pcapfile_merge.specs.Packets.{Packet, IsEarlierIn, left_out_with, text_of, texts}
use Rattle.pcapfile_merge.specs.Holding.{Holds, TakesNext, bytes_in, held_by, holds_interface}
use Rattle.pcapfile_merge.specs.Sources.{Advances, AdvancesTo, Gave, GaveBy, LacksMemory, numbers_of, numbers_with, pending_of}
use Rattle.pcapfile_merge.specs.Taking.{packet_in, text_by}
use Rattle.pcapfile_merge.proofs.Given.{gave_more, gave_unnumbered, left_out_both, left_out_held}
use Rattle.pcapfile_merge.proofs.Merges.{GoesOn, all_of_map, goes_next, goes_none, goes_so_far, map_join, map_split}

-- A merge in this order that has written n packets so far.
pub record Going {R : Type 0} (remaining : R → Option (List ℕ)) (order : PacketOrder) (starts nows : List (Source R)) (before now : Output) (n : ℕ) : Type 0 where
  pub inputs : List (Input remaining)
  pub starts_are : map (λ (input : Input remaining). input.start) inputs ≡ starts
  pub nows_are : map (λ (input : Input remaining). input.now) inputs ≡ nows
  pub out : List (ℕ × Packet)
  pub goes : GoesOn (IsEarlierIn order) (λ (input : Input remaining). input.gone) held_of inputs out
  pub count : length out ≡ n
  pub went_out : Appends before.bytes now.bytes (texts (packets_in out))
  pub next : now.next ≡ next_after_all (packets_in out) before.next
  pub numbers : AllHaveNumbers 0 before.next out inputs

-- If a source has a next packet, it holds one.
some_held : {R : Type 0} (source : Source R) (next : Option Pending) (p : Packet) → source.taken.next ≡ next → pending_of source ≡ p ∷ [] → (n : Pending) × (source.taken.next ≡ Some n)
some_held source None p is holds = absurd (let no : ⊥ = cc (ap (held_by source.reader) is, holds) in no)
some_held source (Some n) p is holds = (n, is)

-- The source at the chosen index is the chosen source.
pub old_there : {R : Type 0} (order : PacketOrder) (nows : List (Source R)) (place : ℕ) (p : Packet) (x : Source R) (first : IsFirst order nows place p) → x ≡ get_or nows place x → x ≡ first.source
old_there order nows place p x first is =
    is ∙ ap (λ (l : List (Source _)). get_or l place x) first.sources_are ∙ ap (λ (k : ℕ). get_or (first.front ++ first.source ∷ first.back) k x) first.place_is ∙ get_or-append_seam first.front first.source first.back x

pub chosen_within : {R : Type 0} (order : PacketOrder) (nows : List (Source R)) (place : ℕ) (p : Packet) → IsFirst order nows place p → place < length nows
chosen_within order nows place p first = omega (arith, ap length first.sources_are, length-append first.front (first.source ∷ first.back), first.place_is)

-- The chosen source holds a packet.
pub chosen_holds : {R : Type 0} (order : PacketOrder) (nows : List (Source R)) (place : ℕ) (p : Packet) (x : Source R) → IsFirst order nows place p → x ≡ get_or nows place x → Holds x.taken.next
chosen_holds order nows place p x first is = some_held x x.taken.next p refl (ap pending_of (old_there order nows place p x first is) ∙ first.holds)

-- The number that a packet takes, if it is an interface.
abbrev taken_by : Bool → ℕ → List ℕ
taken_by b number = if b then number ∷ [] else []

with_taken : (b : Bool) (number : ℕ) (numbers : List ℕ) → numbers_with b number numbers ≡ numbers ++ taken_by b number
with_taken true number numbers = refl
with_taken false number numbers = sym (append-nil numbers)

different : (a b : ℕ) (c : Bool) → (a == b) ≡ c → (a ≡ b → ⊥) → c ≡ false
different a b true same other = absurd (other (grind (arith, same)))
different a b false same other = refl

equal : (a : ℕ) (c : Bool) → (a == a) ≡ c → c ≡ true
equal a true same = refl
equal a false same = absurd (let no : ⊥ = grind (arith, same) in no)

-- The numbers that are given with one more packet.
numbers_push : (k next : ℕ) (out : List (ℕ × Packet)) (o : ℕ × Packet)
    → numbers_given k next (out ++ o ∷ []) ≡ numbers_given k next out ++ taken_by ((o.0 == k) && o.1.is_interface) (next_after_all (packets_in out) next)
numbers_push k next [] o = append-nil (taken_by ((o.0 == k) && o.1.is_interface) next)
numbers_push k next (x ∷ out) o =
    let first = taken_by ((x.0 == k) && x.1.is_interface) next in
    let after = next_after x.1 next in
    ap (λ (l : List ℕ). first ++ l) (numbers_push k after out o) ∙ sym (append_assoc first (numbers_given k after out) (taken_by ((o.0 == k) && o.1.is_interface) (next_after_all (packets_in out) after)))

-- Another input gives no number.
numbers_stay : (k next : ℕ) (out : List (ℕ × Packet)) (o : ℕ × Packet) → (o.0 ≡ k → ⊥) → numbers_given k next (out ++ o ∷ []) ≡ numbers_given k next out
numbers_stay k next out o other =
    numbers_push k next out o ∙ ap (λ (b : Bool). numbers_given k next out ++ taken_by (b && o.1.is_interface) (next_after_all (packets_in out) next)) (different o.0 k (o.0 == k) refl other)
    ∙ append-nil (numbers_given k next out)

numbers_gain : (k next : ℕ) (out : List (ℕ × Packet)) (p : Packet) → numbers_given k next (out ++ (k, p) ∷ []) ≡ numbers_given k next out ++ taken_by p.is_interface (next_after_all (packets_in out) next)
numbers_gain k next out p =
    numbers_push k next out (k, p) ∙ ap (λ (b : Bool). numbers_given k next out ++ taken_by (b && p.is_interface) (next_after_all (packets_in out) next)) (equal k (k == k) refl)

next_push : (ps : List Packet) (p : Packet) (next : ℕ) → next_after_all (ps ++ p ∷ []) next ≡ next_after p (next_after_all ps next)
next_push [] p next = refl
next_push (q ∷ ps) p next = next_push ps p (next_after q next)

some_and : {X : Type 0} (Q : X → Type 0) (o : Option X) → IsSomeAnd o Q → (x : X) × (o ≡ Some x) × Q x
some_and Q None is = absurd is
some_and Q (Some x) is = (x, refl, is)

-- A packet that is held is an interface if the source holds one.
held_kind : {R : Type 0} (reader : Reader R) (next : Option Pending) (p : Packet) → held_by reader next ≡ p ∷ [] → holds_interface next ≡ p.is_interface
held_kind reader None p is = absurd (let no : ⊥ = cc in no)
held_kind reader (Some n) p is = let same : packet_in (bytes_in reader n) n ≡ p = cc in ap (λ (q : Packet). q.is_interface) same

-- The number of the output's next interface, after what a source holds.
pub next_held : {R : Type 0} (reader : Reader R) (next : Option Pending) (number : ℕ) → next_number (holds_interface next) number ≡ next_after_all (held_by reader next) number
next_held reader None number = refl
next_held reader (Some n) number = refl

none_or_some : {X : Type 0} (o : Option X) (x : X) → o ≡ Some x → o ≡ None → ⊥
none_or_some o x some none = let no : ⊥ = cc (some, none) in no

module _ {R : Type 0} (remaining : R → Option (List ℕ)) (order : PacketOrder) where
  fresh : Source R → Input remaining
  fresh source = record {
    start = source;
    now = source;
    based = refl;
    gone = [];
    gave = λ from earlier gave. subst (λ (l : List Packet). Gave remaining from source l) (sym (append-nil earlier)) gave;
  }

  fresh_starts : (sources : List (Source R)) → map (λ (input : Input remaining). input.start) (map fresh sources) ≡ sources
  unfolding fresh
  fresh_starts [] = refl
  fresh_starts (s ∷ sources) = ap (λ (l : List (Source R)). s ∷ l) (fresh_starts sources)

  fresh_nows : (sources : List (Source R)) → map (λ (input : Input remaining). input.now) (map fresh sources) ≡ sources
  unfolding fresh
  fresh_nows [] = refl
  fresh_nows (s ∷ sources) = ap (λ (l : List (Source R)). s ∷ l) (fresh_nows sources)

  fresh_gone : (sources : List (Source R)) → AllByRecursion (λ (input : Input remaining). input.gone ≡ []) (map fresh sources)
  unfolding fresh
  fresh_gone [] = tt
  fresh_gone (s ∷ sources) = (refl, fresh_gone sources)

  fresh_numbers : (k next : ℕ) (sources : List (Source R)) → AllHaveNumbers k next [] (map fresh sources)
  unfolding fresh
  fresh_numbers k next [] = tt
  fresh_numbers k next (s ∷ sources) = (inl (sym (append-nil (numbers_of s))), fresh_numbers (k + 1) next sources)

  pub going_none : (sources : List (Source R)) (before : Output) → Going remaining order sources sources before before 0
  going_none sources before = record {
    inputs = map fresh sources;
    starts_are = fresh_starts sources;
    nows_are = fresh_nows sources;
    out = [];
    goes = goes_none (IsEarlierIn order) (λ (input : Input remaining). input.gone) held_of (map fresh sources) (fresh_gone sources);
    count = refl;
    went_out = Appends-nil before.bytes;
    next = refl;
    numbers = fresh_numbers 0 before.next sources;
  }

  -- An input after another, which gave one more packet and maybe a number to its interface.
  Follows : ℕ → Input remaining → Source R → Input remaining → Type 0
  Follows number s new t =
      (t.start ≡ s.start) × (t.now ≡ new) × (t.gone ≡ s.gone ++ pending_of s.now)
      × ((given : List ℕ) → HasNumbers s given → HasNumbers t (given ++ taken_by (holds_interface s.now.taken.next) number))

  gave_on : (number : ℕ) (s : Input remaining) (new : Source R) (n : Pending) → s.now.taken.next ≡ Some n → AdvancesTo remaining (numbers_with (holds_interface s.now.taken.next) number (numbers_of s.now)) s.now new
      → (from : Reader R) (earlier : List Packet) → Gave remaining from s.start earlier → Gave remaining from new (earlier ++ (s.gone ++ pending_of s.now))
  gave_on number s new n is advances from earlier gave =
      let given = (earlier ++ s.gone) ++ pending_of s.now in
      let numbers = numbers_of s.now in
      let more = taken_by (holds_interface s.now.taken.next) number in
      let same : numbers_with (holds_interface s.now.taken.next) number numbers ≡ numbers ++ more = with_taken (holds_interface s.now.taken.next) number numbers in
      let takes = subst (λ (l : List ℕ). TakesNext remaining s.now.base l s.now.reader new.reader new.taken) same advances.2 in
      let so_far = s.gave from earlier gave in
      let on = gave_more remaining s.now.base numbers more from s.now.reader new.reader given s.now.taken new.taken n is so_far.0 takes in
      let there = subst (λ (base : ℕ). GaveBy remaining base (numbers ++ more) from new.reader (given ++ pending_of new) new.taken) (sym advances.0) on in
      let here = subst (λ (l : List ℕ). GaveBy remaining new.base l from new.reader (given ++ pending_of new) new.taken) (sym (advances.1 ∙ same)) there in
      let count : new.left_out ≡ left_out_with (given ++ pending_of new) 0 =
      advances.3 ∙ left_out_held new.reader new.taken.next s.now.left_out ∙ ap (left_out_with (pending_of new)) so_far.1 ∙ sym (left_out_both given (pending_of new) 0) in
      subst (λ (l : List Packet). Gave remaining from new l) (append_assoc earlier s.gone (pending_of s.now)) (here, count)

  -- An input whose source gave a packet and took the next one.
  input_on : (number : ℕ) (s : Input remaining) (new : Source R) (n : Pending) → s.now.taken.next ≡ Some n → AdvancesTo remaining (numbers_with (holds_interface s.now.taken.next) number (numbers_of s.now)) s.now new
      → (t : Input remaining) × Follows number s new t
  unfolding Follows
  input_on number s new n is advances = (
    record { start = s.start; now = new; based = advances.0 ∙ s.based; gone = s.gone ++ pending_of s.now; gave = gave_on number s new n is advances },
    (
      refl,
      refl,
      refl,
      λ given has.
          elim has [
            | inl are ↦ inl (advances.1 ∙ with_taken (holds_interface s.now.taken.next) number (numbers_of s.now)
                ∙ ap (λ (l : List ℕ). l ++ taken_by (holds_interface s.now.taken.next) number) are ∙ append_assoc (numbers_of s.start) given (taken_by (holds_interface s.now.taken.next) number))
            | inr lacks ↦ absurd (none_or_some s.now.taken.next n is lacks.0)
          ],
    ),
  )

  gave_off : (s : Input remaining) (new : Source R) (n : Pending) → s.now.taken.next ≡ Some n → LacksMemory s.now new
      → (from : Reader R) (earlier : List Packet) → Gave remaining from s.start earlier → Gave remaining from new (earlier ++ (s.gone ++ pending_of s.now))
  gave_off s new n is lacks from earlier gave =
      let before = earlier ++ s.gone in
      let now = s.now in
      let interface : n.is_interface ≡ true = sym (ap holds_interface is) ∙ lacks.interface in
      let fault = some_and IsMemory new.taken.fault lacks.fault in
      let so_far = subst (λ (o : Option Pending). GaveBy remaining now.base (numbers_of now) from now.reader (before ++ held_by now.reader o) now.taken) is (s.gave from earlier gave).0 in
      let ends = gave_unnumbered remaining now.base (numbers_of now) from now.reader before now.taken new.taken n fault.0 is interface so_far lacks.ended fault.1 fault.2 in
      let all = before ++ pending_of now in
      let there = subst (λ (o : Option Pending). GaveBy remaining now.base (numbers_of now) from now.reader (before ++ held_by now.reader o) new.taken) (sym is) ends in
      let none : all ≡ (earlier ++ (s.gone ++ pending_of now)) ++ pending_of new =
      append_assoc earlier s.gone (pending_of now) ∙ sym (append-nil (earlier ++ (s.gone ++ pending_of now))) ∙ ap (λ (o : Option Pending). (earlier ++ (s.gone ++ pending_of now)) ++ held_by new.reader o) (sym lacks.ended) in
      let listed = subst (λ (l : List Packet). GaveBy remaining now.base (numbers_of now) from now.reader l new.taken) none there in
      let based = subst (λ (b : ℕ). GaveBy remaining b (numbers_of now) from now.reader ((earlier ++ (s.gone ++ pending_of now)) ++ pending_of new) new.taken) (sym lacks.base) listed in
      let numbered = subst (λ (l : List ℕ). GaveBy remaining new.base l from now.reader ((earlier ++ (s.gone ++ pending_of now)) ++ pending_of new) new.taken) (sym lacks.numbers) based in
      let count : new.left_out ≡ left_out_with ((earlier ++ (s.gone ++ pending_of now)) ++ pending_of new) 0 =
      lacks.left_out ∙ (s.gave from earlier gave).1 ∙ ap (λ (l : List Packet). left_out_with l 0) none in
      (subst (λ (reader : Reader R). GaveBy remaining new.base (numbers_of new) from reader ((earlier ++ (s.gone ++ pending_of now)) ++ pending_of new) new.taken) (sym lacks.reader) numbered, count)

  -- An input whose source gave an interface for whose number there is no memory.
  input_off : (number : ℕ) (s : Input remaining) (new : Source R) (n : Pending) → s.now.taken.next ≡ Some n → LacksMemory s.now new → (t : Input remaining) × Follows number s new t
  unfolding Follows
  input_off number s new n is lacks = (
    record { start = s.start; now = new; based = lacks.base ∙ s.based; gone = s.gone ++ pending_of s.now; gave = gave_off s new n is lacks },
    (refl, refl, refl, λ given has. inr (lacks.ended, lacks.fault)),
  )

  next_input : (number : ℕ) (s : Input remaining) (new : Source R) (n : Pending) → s.now.taken.next ≡ Some n → Advances remaining number s.now new → (t : Input remaining) × Follows number s new t
  next_input number s new n is (inl advances) = input_on number s new n is advances
  next_input number s new n is (inr lacks) = input_off number s new n is lacks

  -- The numbers of the inputs behind the one that gave a packet.
  numbers_behind : (first next place : ℕ) (out : List (ℕ × Packet)) (p : Packet) (B : List (Input remaining)) → place < first → AllHaveNumbers first next out B → AllHaveNumbers first next (out ++ (place, p) ∷ []) B
  numbers_behind first next place out p [] before all = tt
  numbers_behind first next place out p (b ∷ B) before all =
      let stays = numbers_stay first next out (place, p) (λ same. let no : ⊥ = omega (arith, same, before) in no) in
      (subst (HasNumbers b) (sym stays) all.0, numbers_behind (first + 1) next place out p B (omega (arith, before)) all.1)

  -- The numbers of all inputs, after one gave a packet.
  numbers_on : (first next place : ℕ) (out : List (ℕ × Packet)) (p : Packet) (F : List (Input remaining)) (s t : Input remaining) (B : List (Input remaining)) → place ≡ first + length F
      → (HasNumbers s (numbers_given place next out) → HasNumbers t (numbers_given place next (out ++ (place, p) ∷ []))) → AllHaveNumbers first next out (F ++ s ∷ B)
      → AllHaveNumbers first next (out ++ (place, p) ∷ []) (F ++ t ∷ B)
  numbers_on first next place out p [] s t B is step all =
      let here : place ≡ first = omega (arith, is) in (
        subst (λ (k : ℕ). HasNumbers t (numbers_given k next (out ++ (place, p) ∷ []))) here (step (subst (λ (k : ℕ). HasNumbers s (numbers_given k next out)) (sym here) all.0)),
        numbers_behind (first + 1) next place out p B (omega (arith, here)) all.1,
      )
  numbers_on first next place out p (f ∷ F) s t B is step all =
      let stays = numbers_stay first next out (place, p) (λ same. let no : ⊥ = omega (arith, same, is) in no) in
      (subst (HasNumbers f) (sym stays) all.0, numbers_on (first + 1) next place out p F s t B (omega (arith, is)) step all.1)

  -- The merge goes on by one packet.
  pub going_more : (starts nows : List (Source R)) (before mid now : Output) (n place : ℕ) (p : Packet) (old new : Source R) → Going remaining order starts nows before mid n → IsFirst order nows place p → old ≡ get_or nows place old
      → Advances remaining mid.next old new → Appends mid.bytes now.bytes (texts (pending_of old)) → now.next ≡ next_after_all (pending_of old) mid.next → Going remaining order starts (set nows place new) before now (n + 1)
  unfolding Follows
  going_more starts nows before mid now n place p old new so_far first old_is advances out counts =
      let there : old ≡ first.source = old_is ∙ ap (λ (l : List (Source R)). get_or l place old) first.sources_are ∙ ap (λ (k : ℕ). get_or (first.front ++ first.source ∷ first.back) k old) first.place_is ∙ get_or-append_seam first.front first.source first.back old in
      let parts = map_split (λ (input : Input remaining). input.now) so_far.inputs first.front first.source first.back (so_far.nows_are ∙ first.sources_are) in
      let F = parts.0 in
      let s = parts.1 in
      let B = parts.2 in
      let holds : held_of s ≡ p ∷ [] = ap pending_of parts.5 ∙ first.holds in
      let some = some_held s.now s.now.taken.next p refl holds in
      let next = next_input mid.next s new some.0 some.1 (subst (λ (x : Source R). Advances remaining mid.next x new) (there ∙ sym parts.5) advances) in
      let t = next.0 in
      let later : AllByRecursion (λ (input : Input remaining). ComesLater (IsEarlierIn order) p (held_of input)) F =
      all_of_map (λ (input : Input remaining). input.now) (λ (x : Source R). ComesLater (IsEarlierIn order) p (pending_of x)) F (subst (AllByRecursion (λ (x : Source R). ComesLater (IsEarlierIn order) p (pending_of x))) (sym parts.4) first.later) in
      let not_before : AllByRecursion (λ (input : Input remaining). IsNotBefore (IsEarlierIn order) p (held_of input)) B =
      all_of_map (λ (input : Input remaining). input.now) (λ (x : Source R). IsNotBefore (IsEarlierIn order) p (pending_of x)) B (subst (AllByRecursion (λ (x : Source R). IsNotBefore (IsEarlierIn order) p (pending_of x))) (sym parts.6) first.not_before) in
      let goes = goes_next (IsEarlierIn order) (λ (input : Input remaining). input.gone) held_of F s t B p so_far.out holds (next.1.2 ∙ ap (λ (l : List Packet). s.gone ++ l) holds) later not_before
      (subst (λ (l : List (Input remaining)). GoesOn (IsEarlierIn order) (λ (input : Input remaining). input.gone) held_of l so_far.out) parts.3 so_far.goes) in
      let given : ℕ × Packet = (length F, p) in
      let held_p : pending_of old ≡ p ∷ [] = ap pending_of there ∙ first.holds in
      let listed : packets_in (so_far.out ++ given ∷ []) ≡ packets_in so_far.out ++ p ∷ [] = map-append (λ (o : ℕ × Packet). o.1) so_far.out (given ∷ []) in
      let texts_are : texts (packets_in (so_far.out ++ given ∷ [])) ≡ texts (packets_in so_far.out) ++ texts (pending_of old) =
      ap texts listed ∙ flat_map-append text_of (packets_in so_far.out) (p ∷ [])
      ∙ ap (λ (l : List Packet). texts (packets_in so_far.out) ++ texts l) (sym held_p) in
      let next_is : now.next ≡ next_after_all (packets_in (so_far.out ++ given ∷ [])) before.next =
      counts ∙ ap (λ (l : List Packet). next_after_all l mid.next) held_p ∙ ap (next_after p) so_far.next ∙ sym (next_push (packets_in so_far.out) p before.next) ∙ ap (λ (l : List Packet). next_after_all l before.next) (sym listed) in
      let kind : holds_interface s.now.taken.next ≡ p.is_interface = held_kind s.now.reader s.now.taken.next p holds in
      let step : HasNumbers s (numbers_given (length F) before.next so_far.out) → HasNumbers t (numbers_given (length F) before.next (so_far.out ++ given ∷ [])) =
      λ has. subst (HasNumbers t)
      (ap (λ (b : Bool). numbers_given (length F) before.next so_far.out ++ taken_by b mid.next) kind ∙ ap (λ (m : ℕ). numbers_given (length F) before.next so_far.out ++ taken_by p.is_interface m) so_far.next
      ∙ sym (numbers_gain (length F) before.next so_far.out p)) (next.1.3 (numbers_given (length F) before.next so_far.out) has) in
      let starts_same : map (λ (input : Input remaining). input.start) (F ++ t ∷ B) ≡ starts =
      map_join (λ (input : Input remaining). input.start) F B t ∙ ap (λ (x : Source R). map (λ (input : Input remaining). input.start) F ++ x ∷ map (λ (input : Input remaining). input.start) B) next.1.0
      ∙ sym (map_join (λ (input : Input remaining). input.start) F B s) ∙ ap (map (λ (input : Input remaining). input.start)) (sym parts.3) ∙ so_far.starts_are in
      let set_is : set nows place new ≡ first.front ++ new ∷ first.back =
      ap (λ (l : List (Source R)). set l place new) first.sources_are ∙ ap (λ (k : ℕ). set (first.front ++ first.source ∷ first.back) k new) first.place_is ∙ set-append_seam first.front first.source first.back new in
      let nows_same : map (λ (input : Input remaining). input.now) (F ++ t ∷ B) ≡ set nows place new =
      map_join (λ (input : Input remaining). input.now) F B t ∙ ap (λ (x : Source R). map (λ (input : Input remaining). input.now) F ++ x ∷ map (λ (input : Input remaining). input.now) B) next.1.1
      ∙ ap (λ (l : List (Source R)). l ++ new ∷ map (λ (input : Input remaining). input.now) B) parts.4 ∙ ap (λ (l : List (Source R)). first.front ++ new ∷ l) parts.6 ∙ sym set_is in
      record {
        inputs = F ++ t ∷ B;
        starts_are = starts_same;
        nows_are = nows_same;
        out = so_far.out ++ given ∷ [];
        goes = goes;
        count = length-append so_far.out (given ∷ []) ∙ omega (arith, so_far.count);
        went_out = subst (λ (l : List ℕ). Appends before.bytes now.bytes l) (sym texts_are) (Appends-trans before.bytes mid.bytes now.bytes (texts (packets_in so_far.out)) (texts (pending_of old)) so_far.went_out out);
        next = next_is;
        numbers = numbers_on 0 before.next (length F) so_far.out p F s t B (omega arith) step (subst (AllHaveNumbers 0 before.next so_far.out) parts.3 so_far.numbers);
      }

  merging_so_far : (starts nows : List (Source R)) (before now : Output) (n : ℕ) (so_far : Going remaining order starts nows before now n) → Merging remaining order starts nows before.next so_far.out
  merging_so_far starts nows before now n so_far = record {
    inputs = so_far.inputs;
    starts_are = so_far.starts_are;
    nows_are = so_far.nows_are;
    merges = goes_so_far (IsEarlierIn order) (λ (input : Input remaining). input.gone) held_of so_far.inputs so_far.out so_far.goes;
    numbers = so_far.numbers;
  }

  -- The merge goes on by one packet of the source at an index.
  pub going_step : (starts nows news : List (Source R)) (before mid now : Output) (n place : ℕ) (done : Unit {0}) → Going remaining order starts nows before mid n → Chooses order nows (Some place)
      → MergesAt remaining place nows news mid now (Ok done) → Going remaining order starts news before now (n + 1)
  going_step starts nows news before mid now n place done so_far chosen merged =
      subst (λ (l : List (Source R)). Going remaining order starts l before now (n + 1)) (sym merged.3)
      (going_more starts nows before mid now n place chosen.0 merged.0 merged.1 so_far chosen.1 merged.2 merged.4.0 merged.4.1 merged.4.2)

  -- The merge ends.
  pub ends_merge : (starts nows : List (Source R)) (before mid now : Output) (n most : ℕ) (fault : Option PcapError) → Going remaining order starts nows before mid n → now.next ≡ mid.next → EndsMerge (asked_of order most) nows mid.bytes now.bytes n fault
      → MergesRun remaining starts nows before now (asked_of order most) (record { packets = n; interfaces = now.next; fault = fault })
  ends_merge starts nows before mid now n most fault so_far same ends = record {
    out = so_far.out;
    mid = mid.bytes;
    merging = merging_so_far starts nows before mid n so_far;
    count = so_far.count;
    went_out = so_far.went_out;
    next = same ∙ so_far.next;
    ends = ends;
  }

  -- The merge ends because a write of the next packet failed.
  pub ends_failed : (starts nows news : List (Source R)) (before mid now : Output) (n place most : ℕ) (e : PcapError) → n < most → Going remaining order starts nows before mid n → Chooses order nows (Some place)
      → MergesAt remaining place nows news mid now (Err e) → MergesRun remaining starts news before now (asked_of order most) (record { packets = n; interfaces = now.next; fault = Some e })
  ends_failed starts nows news before mid now n place most e fewer so_far chosen merged =
      let old = merged.0 in
      let first = chosen.1 in
      let stays : news ≡ nows = merged.3 ∙ ap (λ (x : Source R). set nows place x) (merged.4.0 ∙ merged.2) ∙ set-get_or nows place old in
      let there : old ≡ first.source = old_there order nows place chosen.0 old first merged.2 in
      let text : texts (pending_of old) ≡ text_of chosen.0 = ap texts (ap pending_of there ∙ first.holds) ∙ append-nil (text_of chosen.0) in
      subst (λ (l : List (Source R)). MergesRun remaining starts l before now (asked_of order most) (record { packets = n; interfaces = now.next; fault = Some e })) (sym stays)
      (ends_merge starts nows before mid now n most (Some e) so_far merged.4.3 (fewer, merged.4.1, place, chosen.0, first, subst (λ (t : List ℕ). AppendsPart mid.bytes now.bytes t) text merged.4.2))

-- The packet that a source holds was written.
pub held_put : {R : Type 0} (source : Source R) (pending : Pending) (bytes : List ℕ) (made : Bool) (a b : Option (List ℕ)) (result : Result (Unit {0}) PcapError) → source.taken.next ≡ Some pending → bytes ≡ bytes_in source.reader pending
    → pending.is_made ≡ made → WritesAll a b (text_by made pending bytes) result → WritesAll a b (texts (pending_of source)) result
held_put source pending bytes made a b result is bytes_are is_made out =
    let first = subst (λ (m : Bool). WritesAll a b (text_by m pending bytes) result) (sym is_made) out in
    let there = subst (λ (l : List ℕ). WritesAll a b (text_by pending.is_made pending l) result) bytes_are first in
    let p : Packet = packet_in (bytes_in source.reader pending) pending in
    let text : texts (pending_of source) ≡ text_of p = ap (λ (next : Option Pending). texts (held_by source.reader next)) is ∙ append-nil (text_of p) in
    subst (λ (t : List ℕ). WritesAll a b t result) (sym text) there
