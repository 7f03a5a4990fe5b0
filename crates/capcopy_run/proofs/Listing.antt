-- This file proves how items are listed one after another, over any lawful format.
use Rattle.std.proofs.Common.{◌≡◌, ◌<◌, ◌≤◌, ◌+◌, IfSome, ◌⊎◌, ℕ, suc, List, [], ◌∷◌, ◌++◌, length, Bool, false, Option, Some, None, Result, Ok, Err, inl, inr, refl, sym, ap, ◌∙◌, subst, arith, length-append, append_assoc}
use Rattle.std.specs.Io.KnownBytes.{Appends, Keeps, IsAtEnd}
use Rattle.std.proofs.KnownBytes.{Appends-trans, Consumes-kept, Keeps-refl}
use Rattle.pcap_core.specs.declared.errors.PcapError.{PcapError}
use Rattle.pcap_core.specs.declared.errors.PcapError.TheVariants as errors
use Rattle.pcap_core.specs.Answer.{Verdict, whole}
use Rattle.pcap_core.specs.Errors.{IsIo, IsMemory}
use Rattle.pcap_core.specs.Faults.{Shows}
use Rattle.pcap_items.specs.Format.{Format, Front, Texts, IsLawful, state_after}
use Rattle.pcap_core.specs.Laws.{IsStable}
use Rattle.pcap_items.specs.Reading.{IsFaultOf, Takes, TakesAsked, HasCause, read_failed, no_memory, torn, refused}
use Rattle.pcap_items.specs.Takes.{TakesTexts, ReadsFront, Stops}
use Rattle.pcap_items.proofs.Pulling.{nothing_asked}
use Rattle.pcap_items.specs.Writing.{AppendsPart}
use Rattle.pcap_items.proofs.Formats.{state_push, lacks_no_text, fault_no_text, texts_more, front_goes_on, nothing_more}
use Rattle.pcap_core.proofs.Refusals.{shown_fault}
use Rattle.pcap_items.proofs.Taking.{takes_more, run_reads}
use Rattle.pcap_program.specs.declared.exit.Exit.{Exit}
use Rattle.pcap_program.specs.declared.exit.Exit.TheVariants as exits
use Rattle.pcap_program.specs.Exits.{EndsAt, exit_of}
use Rattle.pcap_program.specs.Lines.{WritesLine}
use Rattle.capcopy_run.specs.Listing.{Kind, Listing, TearsNext, LinesEnd, InputEnd, ListsItems, Listed, TearsLine, ListsUntil, streams}
use Rattle.capcopy_run.proofs.Lines.{lines_push}

-- An error that is neither of a read nor of memory shows a fault of the bytes.
shows : {V : Type 0} (IsSaid : List ℕ → Verdict V → Type 0) (left : Option (List ℕ)) (failed : Bool) (e : PcapError) → (IsIo e → ⊥) → (IsMemory e → ⊥)
    → HasCause IsSaid left failed e → Shows (IsFaultOf IsSaid left) e
shows IsSaid left failed e no_io no_memory_ cause =
    elim cause [ read_failed io is ↦ absurd (no_io io) | no_memory memory is ↦ absurd (no_memory_ memory) | torn io is short ↦ absurd (no_io io) | refused stands is ↦ stands ]

module _ {V : Type 0} (IsLine : ℕ → V → List ℕ → Type 0) (IsSaid : List ℕ → Verdict V → Type 0) (left mid : Option (List ℕ)) (n most : ℕ) (fewer : n < most) where
  -- An error of the reader ends the lines.
  pub ends_refused : (failed : Bool) (e : PcapError) (exit : Exit) → HasCause IsSaid left failed e → EndsAt e exit → LinesEnd IsLine IsSaid left mid mid n most (Err exit)
  ends_refused failed (errors.IoError x) exit cause ends = rw ends (fewer, inl (Keeps-refl mid))
  ends_refused failed (errors.OutOfMemory x) exit cause ends = rw ends (fewer, Keeps-refl mid)
  ends_refused failed (errors.InvalidField t) exit cause ends = rw ends (fewer, shows IsSaid left failed (errors.InvalidField t) (λ x. x) (λ x. x) cause, Keeps-refl mid)
  ends_refused failed (errors.Utf8Error x) exit cause ends = rw ends (fewer, shows IsSaid left failed (errors.Utf8Error x) (λ x. x) (λ x. x) cause, Keeps-refl mid)
  ends_refused failed (errors.IncompleteBuffer k) exit cause ends = absurd (shows IsSaid left failed (errors.IncompleteBuffer k) (λ x. x) (λ x. x) cause)
  ends_refused failed (errors.FromUtf8Error x) exit cause ends = absurd (shows IsSaid left failed (errors.FromUtf8Error x) (λ x. x) (λ x. x) cause)
  ends_refused failed errors.WriterFailed exit cause ends = absurd (shows IsSaid left failed errors.WriterFailed (λ x. x) (λ x. x) cause)

  -- After that error, no more of the input was read than the item needs.
  pub asked_refused : (now : Option (List ℕ)) (e : PcapError) (exit : Exit) → TakesAsked IsSaid left now → EndsAt e exit → InputEnd IsSaid left now (Err exit)
  asked_refused now (errors.IoError x) exit asked ends = rw ends tt
  asked_refused now (errors.OutOfMemory x) exit asked ends = rw ends tt
  asked_refused now (errors.InvalidField t) exit asked ends = rw ends asked
  asked_refused now (errors.Utf8Error x) exit asked ends = rw ends asked
  asked_refused now (errors.FromUtf8Error x) exit asked ends = rw ends asked
  asked_refused now errors.WriterFailed exit asked ends = rw ends asked
  asked_refused now (errors.IncompleteBuffer k) (exits.Io e) asked ends = tt
  asked_refused now (errors.IncompleteBuffer k) _ asked ends = absurd ends

  -- Any part of the input may be left if a line wasn't written.
  pub any_torn : (now out_now : Option (List ℕ)) (item : V) (exit : Exit) → WritesLine (IsLine (n + 1) item) mid out_now (Err exit) → InputEnd IsSaid left now (Err exit)
  any_torn now out_now item (exits.Io e) part = tt
  any_torn now out_now item exits.Memory part = tt
  any_torn now out_now item _ part = absurd part

  -- A line that wasn't written ends the lines.
  pub ends_torn : (now out_now : Option (List ℕ)) (item : V) (exit : Exit) → Takes IsSaid left now item
      → WritesLine (IsLine (n + 1) item) mid out_now (Err exit) → LinesEnd IsLine IsSaid left mid out_now n most (Err exit)
  ends_torn now out_now item (exits.Io (errors.IoError x)) took part =
      let next : n + 1 ≡ suc n = omega arith in
      (fewer, inr (record { item = item; now = now; took = took; line = part.0; is_line = subst (λ k. IsLine k item part.0) next part.1; out = part.2 }))
  ends_torn now out_now item exits.Memory took part = (fewer, part)
  ends_torn now out_now item _ took part = absurd part

module _ {S V : Type 0} (IsLine : ℕ → V → List ℕ → Type 0) (f : Format S V) (q : S) where
  -- One more item, which leads to the next state.
  pub listing_more : IsLawful f → (here there : S) (a b c p r t : Option (List ℕ)) (n : ℕ) (item : V) → Listing IsLine f q here a b p r n
      → Takes (f.says here) b c item → f.goes here item ≡ there → WritesLine (IsLine (n + 1) item) r t (Ok tt) → Listing IsLine f q there a c p t (n + 1)
  listing_more laws here there a b c p r t n item so_far took goes out =
      let index : n + 1 ≡ 1 + length so_far.items = omega (arith, so_far.count) in
      let next : Takes (f.says (state_after f q so_far.items)) b c item = subst (λ (s : S). Takes (f.says s) b c item) (sym so_far.leads) took in
      record {
        items = so_far.items ++ item ∷ [];
        count = length-append so_far.items (item ∷ []) ∙ omega (arith, so_far.count);
        leads = state_push f q so_far.items item ∙ ap (λ (s : S). f.goes s item) so_far.leads ∙ goes;
        took = takes_more f laws q so_far.items item a b c so_far.took next;
        lines = so_far.lines ++ out.0;
        are_lines = lines_push IsLine 1 so_far.items item so_far.lines out.0 so_far.are_lines (subst (λ k. IsLine k item out.0) index out.1);
        out = Appends-trans p r t so_far.lines out.0 so_far.out out.2;
      }

-- The exit if the opening is refused.
module _ {O S V : Type 0} (kind : Kind O S V) (most : ℕ) (s : List ℕ) (now before after : Option (List ℕ)) (kept : Keeps before after) (asked : TakesAsked kind.opens (Some s) now) where
  opening_shown : (e : PcapError) → Shows (IsFaultOf kind.opens (Some s)) e → (exit : Exit) → EndsAt e exit → ListsUntil kind most s now before after exit
  opening_shown (errors.IoError x) stands exit ends = rw ends (inl kept)
  opening_shown (errors.InvalidField t) stands exit ends = rw ends (inl (stands, asked, kept))
  opening_shown (errors.Utf8Error x) stands exit ends = rw ends (inl (stands, asked, kept))
  opening_shown _ stands exit ends = absurd stands

  opening_io : (e : PcapError) → IsIo e → (exit : Exit) → EndsAt e exit → ListsUntil kind most s now before after exit
  opening_io (errors.IoError x) io exit ends = rw ends (inl kept)
  opening_io _ io exit ends = absurd io

  opening_memory : (e : PcapError) → kind.grows → IsMemory e → (exit : Exit) → EndsAt e exit → ListsUntil kind most s now before after exit
  opening_memory (errors.OutOfMemory x) grows memory exit ends = rw ends (inl (grows, kept))
  opening_memory _ grows memory exit ends = absurd memory

-- A capture whose opening is refused.
pub lists_none : {O S V : Type 0} (kind : Kind O S V) (most : ℕ) (known now before after : Option (List ℕ)) → Keeps before after → TakesAsked kind.opens known now → (e : PcapError)
    → (IsMemory e → kind.grows) → IsIo e ⊎ IsMemory e ⊎ Shows (IsFaultOf kind.opens known) e → (exit : Exit) → EndsAt e exit → IfSome known (λ s. ListsUntil kind most s now before after exit)
lists_none kind most None now before after kept asked e grows cause exit ends = tt
lists_none kind most (Some s) now before after kept asked e grows cause exit ends =
    elim cause [
      | inl io ↦ opening_io kind most s now before after kept asked e io exit ends
      | inr (inl memory) ↦ opening_memory kind most s now before after kept asked e (grows memory) memory exit ends
      | inr (inr stands) ↦ opening_shown kind most s now before after kept asked e stands exit ends
    ]

-- An opening that was read, and whose line wasn't written.
module _ {O S V : Type 0} (kind : Kind O S V) (grows : kind.grows) (most : ℕ) (s : List ℕ) (now before after : Option (List ℕ)) (opening : O) (rest : List ℕ) (opens : kind.opens s (whole opening rest)) where
  heading_torn : (exit : Exit) → WritesLine (λ line. line ≡ kind.heading opening) before after (Err exit) → ListsUntil kind most s now before after exit
  heading_torn (exits.Io (errors.IoError x)) part = inr (inl (record { opening = opening; rest = rest; opens = opens; out = subst (λ line. AppendsPart before after line) part.1 part.2 }))
  heading_torn exits.Memory part = inl (grows, part)
  heading_torn _ part = absurd part

-- An opening whose line was written, and the run over the items after it.
module _ {O S V : Type 0} (kind : Kind O S V) (opening : O) (laws : IsLawful (kind.format opening)) (s rest : List ℕ) (opens : kind.opens s (whole opening rest))
    (before start : Option (List ℕ)) (headed : Appends before start (kind.heading opening)) where
  abbrev f : Format S V
  f = kind.format opening

  abbrev q : S
  q = kind.start opening

  -- The items that were listed.
  abbrev ListingTo : S → Option (List ℕ) → Option (List ℕ) → ℕ → Type 0
  ListingTo here left mid n = Listing kind.IsLine f q here (Some rest) left start mid n

  -- The items that were read are the beginning of the front, up to where the run stopped.
  reads : (items : List V) (left : Option (List ℕ)) (most : ℕ) (fault : Option PcapError) → TakesTexts f q items (Some rest) left → length items ≤ most
      → Stops (f.says (state_after f q items)) left left false (length items) most fault → ReadsFront f q rest most items fault false
  reads items left most fault took within stops = run_reads f laws q rest left false most items fault (record { left = left; took = took; within = within; stops = stops })

  -- They are first items of the front, whatever ended the run.
  some_reads : (items : List V) (left : Option (List ℕ)) → TakesTexts f q items (Some rest) left → ReadsFront f q rest (length items) items None false
  some_reads items left took = reads items left (length items) None took (omega arith) (refl, Keeps-refl left, inr refl)

  abbrev listed_from : (most n : ℕ) (here : S) (mid left : Option (List ℕ)) (fault : Option PcapError) (so_far : ListingTo here left mid n) → ReadsFront f q rest most so_far.items fault false → Listed kind s before
  listed_from most n here mid left fault so_far read = record {
    opening = opening;
    after = rest;
    opens = opens;
    items = so_far.items;
    more = read.more;
    left = read.rest;
    front = read.front;
    lines = so_far.lines;
    are_lines = so_far.are_lines;
    mid = mid;
    out = Appends-trans before start mid (kind.heading opening) so_far.lines headed so_far.out;
  }

  -- Nothing more was read after the items.
  still_took : (items : List V) (left now : Option (List ℕ)) → TakesTexts f q items (Some rest) left → Keeps left now → TakesTexts f q items (Some rest) now
  still_took items left now took still = record { bytes = took.bytes; texts = took.texts; took = Consumes-kept (Some rest) left now took.bytes took.took still }

  still_at_end : (items : List V) (left now : Option (List ℕ)) → TakesTexts f q items (Some rest) left → IsAtEnd left → Keeps left now → IsAtEnd now
  still_at_end items None now took end still = absurd took.took
  still_at_end items (Some l) None took end still = absurd still
  still_at_end items (Some l) (Some m) took end still = still ∙ end

  -- If the next item is refused, what is left of the input is the rest of the front.
  left_is_rest : (items more : List V) (left : Option (List ℕ)) (end : List ℕ) (e : PcapError) → TakesTexts f q items (Some rest) left → Front f q (items ++ more) rest end
      → Shows (IsFaultOf (f.says (state_after f q items)) left) e → left ≡ Some end
  left_is_rest items more None end e took front bad = absurd took.took
  left_is_rest items more (Some l) end e took front bad =
      let p = state_after f q items in
      let texts : Texts f q items rest l = subst (λ (t : List ℕ). Texts f q items t l) (sym took.took) (texts_more f laws q items took.bytes [] l took.texts) in
      let on = front_goes_on f laws q items (items ++ more) rest l end texts front in
      let fault = shown_fault (IsFaultOf (f.says p) (Some l)) e bad in
      let none : (v : V) (r : List ℕ) → f.says p l (whole v r) → ⊥ =
      λ v r text. elim fault.1.shown [ inl stands ↦ fault_no_text f laws p fault.0 l stands v r text | inr early ↦ lacks_no_text f laws p early.n l early.lack v r text ] in
      ap Some (sym (nothing_more f laws p on.0 l end on.2 none).1)

  lists_clean : (most n : ℕ) (here : S) (mid now after left : Option (List ℕ)) → ListingTo here left mid n → n < most → IsAtEnd left → Keeps left now → Keeps mid after → ListsUntil kind most s now before after exits.Done
  lists_clean most n here mid now after left so_far fewer end still kept =
      let few : length so_far.items < most = omega (arith, so_far.count, fewer) in
      let read = reads so_far.items left most None so_far.took (omega (arith, few)) (refl, Keeps-refl left, inl end) in
      elim read.ends.1 [
        | inl all ↦ (listed_from most n here mid left None so_far read, record { fewer = few; all = all.0; nothing = all.1; input = still_at_end so_far.items left now so_far.took end still; out = kept })
        | inr full ↦ absurd (omega (arith, few, full))
      ]

  lists_most : (most n : ℕ) (here : S) (mid now after left : Option (List ℕ)) → ListingTo here left mid n → n ≡ most → Keeps left now → Keeps mid after → ListsUntil kind most s now before after exits.Most
  lists_most most n here mid now after left so_far full still kept = (
    listed_from _ n here mid left None so_far (some_reads so_far.items left so_far.took),
    record { count = so_far.count ∙ full; took = still_took so_far.items left now so_far.took still; out = kept },
  )

  lists_refused : (most n : ℕ) (here : S) (mid now after left : Option (List ℕ)) (e : PcapError) → (IsIo e → ⊥) → (IsMemory e → ⊥) → ListingTo here left mid n → n < most
      → Shows (IsFaultOf (f.says here) left) e → TakesAsked (f.says here) left now → Keeps mid after → ListsUntil kind most s now before after (exits.Refused e)
  lists_refused most n here mid now after left e no_io no_memory_ so_far fewer stands asked kept =
      let few : length so_far.items < most = omega (arith, so_far.count, fewer) in
      let there = subst (λ (p : S). Shows (IsFaultOf (f.says p) left) e) (sym so_far.leads) stands in
      let asked_there = subst (λ (p : S). TakesAsked (f.says p) left now) (sym so_far.leads) asked in
      let read = reads so_far.items left most (Some e) so_far.took (omega (arith, few)) (few, refused there refl, nothing_asked (f.says (state_after f q so_far.items)) left) in
      elim read.ends.1 [
        | inl io ↦ absurd (no_io io.0)
        | inr (inl memory) ↦ absurd (no_memory_ memory.0)
        | inr (inr all) ↦ inr (
          listed_from most n here mid left (Some e) so_far read,
          record {
            fewer = few;
            all = all.0;
            refused = shows (f.says (state_after f q so_far.items)) (Some read.rest) false e no_io no_memory_ all.1;
            asked = subst (λ (l : Option (List ℕ)). TakesAsked (f.says (state_after f q so_far.items)) l now) (left_is_rest so_far.items read.more left read.rest e so_far.took read.front there) asked_there;
            out = kept;
          },
        )
      ]

  lists_some : (most n : ℕ) (here : S) (mid left : Option (List ℕ)) → ListingTo here left mid n → n < most → (listed : Listed kind s before) × (length listed.items < most) × (listed.mid ≡ mid)
  lists_some most n here mid left so_far fewer = (listed_from _ n here mid left None so_far (some_reads so_far.items left so_far.took), omega (arith, so_far.count, fewer), refl)

  lists_torn : (most n : ℕ) (here : S) (mid after left : Option (List ℕ)) → ListingTo here left mid n → n < most → TearsNext kind.IsLine (f.says here) left mid after n
      → (listed : Listed kind s before) × (length listed.items < most) × (Keeps listed.mid after ⊎ TearsLine kind after listed)
  lists_torn most n here mid after left so_far fewer torn_ =
      let items = so_far.items in
      let took = subst (λ (p : S). Takes (f.says p) left torn_.now torn_.item) (sym so_far.leads) torn_.took in
      let longer = takes_more f laws q items torn_.item (Some rest) left torn_.now so_far.took took in
      let read = some_reads (items ++ torn_.item ∷ []) torn_.now longer in
      let listed : Listed kind s before = record {
        opening = opening;
        after = rest;
        opens = opens;
        items = items;
        more = torn_.item ∷ read.more;
        left = read.rest;
        front = subst (λ (l : List V). Front f q l rest read.rest) (append_assoc items (torn_.item ∷ []) read.more) read.front;
        lines = so_far.lines;
        are_lines = so_far.are_lines;
        mid = mid;
        out = Appends-trans before start mid (kind.heading opening) so_far.lines headed so_far.out;
      } in
      let is_line = subst (λ k. kind.IsLine (suc k) torn_.item torn_.line) (sym so_far.count) torn_.is_line in
      (listed, omega (arith, so_far.count, fewer), inr (record { next = torn_.item; others = read.more; more = refl; line = torn_.line; is_line = is_line; out = torn_.out }))

  lists_from : (most : ℕ) (now after : Option (List ℕ)) (result : Result (Unit {0}) Exit) → ListsItems kind.IsLine f q (streams (Some rest) start) (streams now after) most result → ListsUntil kind most s now before after (exit_of result)
  lists_from most now after (Ok done) run = lists_clean most run.n run.here run.mid now after run.left run.so_far run.ends.0 run.ends.1 run.input run.ends.2
  lists_from most now after (Err exits.Most) run = lists_most most run.n run.here run.mid now after run.left run.so_far run.ends.0 run.input run.ends.1
  lists_from most now after (Err (exits.Refused (errors.InvalidField t))) run =
      lists_refused most run.n run.here run.mid now after run.left (errors.InvalidField t) (λ x. x) (λ x. x) run.so_far run.ends.0 run.ends.1 run.input run.ends.2
  lists_from most now after (Err (exits.Refused (errors.Utf8Error x))) run =
      lists_refused most run.n run.here run.mid now after run.left (errors.Utf8Error x) (λ x. x) (λ x. x) run.so_far run.ends.0 run.ends.1 run.input run.ends.2
  lists_from most now after (Err (exits.Refused (errors.IoError x))) run = absurd run.ends
  lists_from most now after (Err (exits.Refused (errors.IncompleteBuffer k))) run = absurd run.ends.1
  lists_from most now after (Err (exits.Refused (errors.FromUtf8Error x))) run = absurd run.ends.1
  lists_from most now after (Err (exits.Refused (errors.OutOfMemory x))) run = absurd run.ends.1
  lists_from most now after (Err (exits.Refused errors.WriterFailed)) run = absurd run.ends.1
  lists_from most now after (Err (exits.Io (errors.IoError x))) run =
      elim run.ends.1 [
        | inl kept ↦ let some = lists_some most run.n run.here run.mid run.left run.so_far run.ends.0 in inr (inr (some.0, some.1, inl (rw some.2 kept)))
        | inr part ↦ inr (inr (lists_torn most run.n run.here run.mid after run.left run.so_far run.ends.0 part))
      ]
  lists_from most now after (Err exits.Memory) run = let some = lists_some most run.n run.here run.mid run.left run.so_far run.ends.0 in inr (some.0, some.1, rw some.2 run.ends.1)
  lists_from most now after _ run = absurd run.ends

-- A capture whose opening was read.
module _ {O S V : Type 0} (kind : Kind O S V) (stable : IsStable kind.opens) (opening : O) where
  opens_there : (s rest : List ℕ) → Takes kind.opens (Some s) (Some rest) opening → kind.opens s (whole opening rest)
  opens_there s rest took = subst (λ (l : List ℕ). kind.opens l (whole opening rest)) (sym took.2) (stable.text took.0 rest [] opening took.1)

  -- The opening's line wasn't written.
  pub lists_heading : kind.grows → (most : ℕ) (bytes known before after : Option (List ℕ)) → Takes kind.opens bytes known opening → (exit : Exit)
      → WritesLine (λ line. line ≡ kind.heading opening) before after (Err exit) → IfSome bytes (λ s. ListsUntil kind most s known before after exit)
  lists_heading grows most None known before after took exit part = tt
  lists_heading grows most (Some s) None before after took exit part = absurd took.2
  lists_heading grows most (Some s) (Some rest) before after took exit part = heading_torn kind grows most s (Some rest) before after opening rest (opens_there s rest took) exit part

  -- The items after the opening were listed.
  pub lists_known : IsLawful (kind.format opening) → (bytes known before start : Option (List ℕ)) → Takes kind.opens bytes known opening → Appends before start (kind.heading opening) → (most : ℕ) (now after : Option (List ℕ))
      (result : Result (Unit {0}) Exit) → ListsItems kind.IsLine (kind.format opening) (kind.start opening) (streams known start) (streams now after) most result → IfSome bytes (λ s. ListsUntil kind most s now before after (exit_of result))
  lists_known laws None known before start took headed most now after result run = tt
  lists_known laws (Some s) None before start took headed most now after result run = absurd took.2
  lists_known laws (Some s) (Some rest) before start took headed most now after result run =
      lists_from kind opening laws s rest (opens_there s rest took) before start headed most now after result run
