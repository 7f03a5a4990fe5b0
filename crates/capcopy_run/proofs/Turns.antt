-- This file proves how the turns of a list follow each other, over any lawful format.
use Rattle.std.proofs.Common.{◌≡◌, ◌∙◌, ◌<◌, ◌+◌, ◌-◌, ℕ, List, [], ◌++◌, length, take, drop, Bool, true, false, Option, Some, None, Result, Ok, Err, IfSome, refl, sym, ap, subst, arith, length-append, append_assoc, take-append-drop, drop_at}
use Rattle.std.specs.Io.{StartsWith}
use Rattle.std.specs.Io.KnownBytes.{Keeps, Consumes, prepend_known}
use Rattle.std.proofs.KnownBytes.{Consumes-kept, Appends-kept, Keeps-refl, starts_with_rest}
use Rattle.std.specs.Prelude.{option_map}
use Rattle.pcap_core.specs.Answer.{whole}
use Rattle.pcap_items.specs.Format.{Format, IsLawful}
use Rattle.pcap_items.specs.Reading.{Takes}
use Rattle.pcap_program.specs.declared.exit.Exit.{Exit}
use Rattle.pcap_program.specs.declared.exit.Exit.TheVariants.{Memory}
use Rattle.pcap_program.proofs.Shown.{behind_shown, shown_split, shown_used, takes_shown}
use Rattle.capcopy_run.specs.Listing.{Listing, LinesEnd, InputEnd}
use Rattle.pcap_program.specs.Lines.{WritesLine}
use Rattle.capcopy_run.specs.Turns.{GoesOn, Ends, TurnGives, WalkGives, turn, walk}
use Rattle.capcopy_run.proofs.Listing.{listing_more, ends_torn, any_torn}

module _ {S V : Type 0} (IsLine : ℕ → V → List ℕ → Type 0) (f : Format S V) where
  -- A step that reads and writes nothing keeps the list.
  pub goes_kept : (here : S) (left now mid out : Option (List ℕ)) (n : ℕ) → Keeps left now → Keeps mid out → GoesOn IsLine f here here left now mid out n n
  goes_kept here left now mid out n kept still = λ q before start so_far. record {
    items = so_far.items;
    count = so_far.count;
    leads = so_far.leads;
    took = record { bytes = so_far.took.bytes; texts = so_far.took.texts; took = Consumes-kept before left now so_far.took.bytes so_far.took.took kept };
    lines = so_far.lines;
    are_lines = so_far.are_lines;
    out = Appends-kept start mid out so_far.lines so_far.out still;
  }

  -- The list ends where it is.
  pub ends_here : (here : S) (left now mid out : Option (List ℕ)) (n most : ℕ) (result : Result (Unit {0}) Exit) → LinesEnd IsLine (f.says here) left mid out n most result
      → InputEnd (f.says here) left now result → Ends IsLine f here left now mid out n most result
  ends_here here left now mid out n most result ends input = λ q before start so_far. record { n = n; here = here; left = left; mid = mid; so_far = so_far; ends = ends; input = input }

  -- One more item was read from a stream, and its line was written.
  pub turn_more : IsLawful f → (here there : S) (left now mid out : Option (List ℕ)) (n : ℕ) (item : V) → Takes (f.says here) left now item → f.goes here item ≡ there
      → WritesLine (IsLine (n + 1) item) mid out (Ok tt) → GoesOn IsLine f here there left now mid out n (n + 1)
  turn_more laws here there left now mid out n item took goes written = λ q before start so_far. listing_more IsLine f q laws here there before left now start mid out n item so_far took goes written

  -- A turn after a list that goes on.
  pub turn_behind : (here to there : S) (a b c p r t : Option (List ℕ)) (n k m most : ℕ) (result : Result Bool Exit) → GoesOn IsLine f here to a b p r n k
      → TurnGives IsLine f (turn to b r k) (turn there c t m) most result → TurnGives IsLine f (turn here a p n) (turn there c t m) most result
  turn_behind here to there a b c p r t n k m most (Ok true) on next = λ q before start so_far. next q before start (on q before start so_far)
  turn_behind here to there a b c p r t n k m most (Ok false) on next = λ q before start so_far. next q before start (on q before start so_far)
  turn_behind here to there a b c p r t n k m most (Err exit) on next = λ q before start so_far. next q before start (on q before start so_far)

module _ {S V : Type 0} (IsLine : ℕ → V → List ℕ → Type 0) (f : Format S V) where
  -- Walked: a walk over buffered bytes has come to this rest of them.
  pub record Walked (from here : S) (shown rest : List ℕ) (start mid : Option (List ℕ)) (first n : ℕ) : Type 0 where
    pub front : List ℕ
    pub split : shown ≡ front ++ rest
    pub on : (behind : Option (List ℕ)) → GoesOn IsLine f from here (prepend_known shown behind) (prepend_known rest behind) start mid first n

  -- The walk begins.
  pub walked_none : (from : S) (shown : List ℕ) (start : Option (List ℕ)) (first : ℕ) → Walked from from shown shown start start first first
  walked_none from shown start first = record { front = []; split = refl; on = λ behind q before out so_far. so_far }

  -- The walk ends before the rest.
  pub walked_used : (from here : S) (shown rest : List ℕ) (start mid : Option (List ℕ)) (first n most : ℕ) → Walked from here shown rest start mid first n
      → WalkGives IsLine f shown (walk from start first) (walk here mid n) most (Ok (length shown - length rest))
  walked_used from here shown rest start mid first n most walked =
      let used = length shown - length rest in
      let count : length walked.front ≡ used = omega (arith, ap length walked.split, length-append walked.front rest) in
      let back : drop used shown ≡ rest = ap (drop used) walked.split ∙ drop_at walked.front rest used count in
      rw back walked.on

  -- The walk ends before the rest, because it is out of memory.
  pub walked_refused : (from here to : S) (shown rest : List ℕ) (start mid : Option (List ℕ)) (first n m most : ℕ) → Walked from here shown rest start mid first n → n < most
      → WalkGives IsLine f shown (walk from start first) (walk to mid m) most (Err Memory)
  walked_refused from here to shown rest start mid first n m most walked fewer = λ behind end q before out so_far.
      ends_here IsLine f here (prepend_known rest behind) end mid mid n most (Err Memory) (fewer, Keeps-refl mid) tt q before out (walked.on behind q before out so_far)

  -- An item is at the front of the rest.
  module _ (laws : IsLawful f) (from here : S) (shown rest after : List ℕ) (start mid : Option (List ℕ)) (first n : ℕ) (walked : Walked from here shown rest start mid first n) (item : V)
      (stands : f.says here rest (whole item after)) where
    -- The walk goes on, because the item's line was written.
    pub walked_more : (there : S) (now : Option (List ℕ)) → f.goes here item ≡ there → WritesLine (IsLine (n + 1) item) mid now (Ok tt) → Walked from there shown after start now first (n + 1)
    walked_more there now goes written =
        let own = laws.own here rest after item stands in
        record {
          front = walked.front ++ own.0;
          split = walked.split ∙ ap (λ l. walked.front ++ l) own.1 ∙ sym (append_assoc walked.front own.0 after);
          on = λ behind q before out so_far. turn_more IsLine f laws here there _ _ mid now n item (takes_shown f laws here rest after item stands behind) goes written q before out (walked.on behind q before out so_far);
        }

    -- The walk ends, because the item's line wasn't written.
    pub walked_torn : (to : S) (now : Option (List ℕ)) (m most : ℕ) (exit : Exit) → n < most → WritesLine (IsLine (n + 1) item) mid now (Err exit) → WalkGives IsLine f shown (walk from start first) (walk to now m) most (Err exit)
    walked_torn to now m most exit fewer part = λ behind end q before out so_far.
        let left = prepend_known rest behind in
        let torn = ends_torn IsLine (f.says here) left mid n most fewer (prepend_known after behind) now item exit (takes_shown f laws here rest after item stands behind) part in
        ends_here IsLine f here left end mid now n most (Err exit) torn (any_torn IsLine (f.says here) left mid n most fewer end now item exit part) q before out (walked.on behind q before out so_far)

module _ {S V : Type 0} (IsLine : ℕ → V → List ℕ → Type 0) (f : Format S V) (here : S) (left mid kept : Option (List ℕ)) (still : Keeps mid kept) (shown : List ℕ) (front : IfSome left (λ xs. StartsWith xs shown)) (n : ℕ) where
  -- A list over the buffered bytes and those that follow them.
  listed_shown : (q : S) (before start : Option (List ℕ)) → Listing IsLine f q here before left start mid n → Listing IsLine f q here before (prepend_known shown (behind_shown shown left)) start kept n
  listed_shown q before start so_far =
      subst (λ (l : Option (List ℕ)). Listing IsLine f q here before l start kept n) (shown_split shown left front) (goes_kept IsLine f here left left mid kept n (Keeps-refl left) still q before start so_far)

  -- A walk over the buffered bytes ends the list.
  pub ends_shown : (now out : Option (List ℕ)) (most : ℕ) (result : Result (Unit {0}) Exit) → ((behind : Option (List ℕ)) → Ends IsLine f here (prepend_known shown behind) now kept out n most result)
      → Ends IsLine f here left now mid out n most result
  ends_shown now out most result ends = λ q before start so_far. ends (behind_shown shown left) q before start (listed_shown q before start so_far)

  -- The list goes on after the bytes that the walk used.
  pub goes_shown : (there : S) (now out : Option (List ℕ)) (used m : ℕ) → ((behind : Option (List ℕ)) → GoesOn IsLine f here there (prepend_known shown behind) (prepend_known (drop used shown) behind) kept out n m)
      → Consumes left now (take used shown) → GoesOn IsLine f here there left now mid out n m
  goes_shown there now out used m on came = λ q before start so_far.
      goes_kept IsLine f there (prepend_known (drop used shown) (behind_shown shown left)) now out out m (shown_used shown used left now front came) (Keeps-refl out) q before start
      (on (behind_shown shown left) q before start (listed_shown q before start so_far))
