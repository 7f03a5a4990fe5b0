-- Turns of a run over the items of any lawful format.
use Rattle.std.proofs.Common.{◌≡◌, ◌∙◌, ◌≤◌, ◌+◌, ◌-◌, ℕ, List, [], ◌∷◌, ◌++◌, length, take, drop, Bool, Option, IfSome, refl, sym, ap, subst, arith, length-append, append_assoc, drop_at}
use Rattle.std.specs.Io.{StartsWith}
use Rattle.std.specs.Io.KnownBytes.{Keeps, Consumes, prepend_known}
use Rattle.std.specs.Prelude.{sum_by}
use Rattle.std.proofs.KnownBytes.{Consumes-kept}
use Rattle.pcap_core.specs.declared.errors.PcapError.{PcapError}
use Rattle.pcap_core.specs.Answer.{whole}
use Rattle.pcap_items.specs.Format.{Format, IsLawful}
use Rattle.pcap_items.specs.Reading.{Takes}
use Rattle.pcap_items.specs.Takes.{Stops}
use Rattle.pcap_program.proofs.Shown.{behind_shown, shown_split, shown_used, takes_shown}
use Rattle.pcapfile_run.specs.Passing.{counted}
use Rattle.pcapfile_info.specs.declared.progress.Progress.{Progress}
use Rattle.pcapfile_info.specs.declared.seen.Sight.{Sight}
use Rattle.pcapfile_info.specs.Telling.{Ends, GoesOn, Telling}
use Rattle.pcapfile_info.specs.Totals.{interfaces_in}
use Rattle.pcapfile_info.proofs.Telling.{telling_ends, telling_more}

module _ {S V : Type 0} (f : Format S V) (IsSight : ℕ → V → Sight → Type 0) (first : ℕ) (Kept : S → List V → List Sight → Progress → Type 0) where
  -- A run that keeps its progress goes on.
  pub goes_kept : (here : S) (left now : Option (List ℕ)) (mid : Progress) → Keeps left now → GoesOn f IsSight first Kept here here left now mid mid
  goes_kept here left now mid kept = λ q before old so_far. record {
    items = so_far.items;
    count = so_far.count;
    leads = so_far.leads;
    took = record { bytes = so_far.took.bytes; texts = so_far.took.texts; took = Consumes-kept before left now so_far.took.bytes so_far.took.took kept };
    number = so_far.number;
    bytes = so_far.bytes;
    sights = so_far.sights;
    are_sights = so_far.are_sights;
    kept = so_far.kept;
  }

  -- A run takes one more item of this many bytes, with this sight.
  pub goes_more : IsLawful f → (here there : S) (left now : Option (List ℕ)) (mid new : Progress) (k : ℕ) (item : V) (sight : Sight) → (took : Takes (f.says here) left now item) → f.goes here item ≡ there → length took.0 ≡ k
      → ((q : S) (items : List V) (sights : List Sight) → Kept q items sights mid → IsSight (first + sum_by interfaces_in sights) item sight × Kept q (items ++ item ∷ []) (sights ++ sight ∷ []) new) → new.items ≡ mid.items + 1 → new.bytes ≡ counted (mid.bytes + k)
      → GoesOn f IsSight first Kept here there left now mid new
  goes_more laws here there left now mid new k item sight took goes long adds number bytes = λ q before old so_far.
      subst (λ (n : ℕ). Telling f q IsSight first Kept there before now old new n) (sym number)
      (telling_more f q IsSight first Kept laws here there before left now old mid new mid.items k item sight so_far took goes long (adds q so_far.items so_far.sights so_far.kept).0 number bytes (λ items sights kept. (adds q items sights kept).1))

  -- The run ends where it is.
  pub ends_here : (To : Option PcapError → S → List V → List Sight → Progress → Type 0) (here : S) (left now : Option (List ℕ)) (failed : Bool) (most : ℕ) (mid : Progress) (fault : Option PcapError) → mid.items ≤ most
      → Stops (f.says here) left now failed mid.items most fault → ((q : S) (items : List V) (sights : List Sight) → Kept q items sights mid → To fault q items sights mid) → Ends f IsSight first Kept To here left now failed most mid mid fault
  ends_here To here left now failed most mid fault within stops tells = λ q before old so_far.
      telling_ends f q IsSight first Kept (To fault) here before left now failed most old mid mid mid.items fault so_far within stops refl refl (tells q)

  -- A walk over shown bytes has reached this rest of them.
  pub record Walked (from here : S) (shown rest : List ℕ) (mid new : Progress) : Type 0 where
    pub front : List ℕ
    pub split : shown ≡ front ++ rest
    pub on : (behind : Option (List ℕ)) → GoesOn f IsSight first Kept from here (prepend_known shown behind) (prepend_known rest behind) mid new

  -- A walk begins.
  pub walked_none : (from : S) (shown : List ℕ) (mid : Progress) → Walked from from shown shown mid mid
  walked_none from shown mid = record { front = []; split = refl; on = λ behind q before old so_far. so_far }

  -- A walk continues with the item at the front of the rest.
  pub walked_more : IsLawful f → (from here there : S) (shown rest after : List ℕ) (mid new next : Progress) (k : ℕ) (item : V) (sight : Sight) → Walked from here shown rest mid new → f.says here rest (whole item after)
      → f.goes here item ≡ there → ((t : List ℕ) → f.says here t (whole item []) → length t ≡ k) → next.items ≡ new.items + 1 → next.bytes ≡ counted (new.bytes + k)
      → ((q : S) (items : List V) (sights : List Sight) → Kept q items sights new → IsSight (first + sum_by interfaces_in sights) item sight × Kept q (items ++ item ∷ []) (sights ++ sight ∷ []) next) → Walked from there shown after mid next
  walked_more laws from here there shown rest after mid new next k item sight walked stands goes long number bytes adds =
      let own = laws.own here rest after item stands in
      record {
        front = walked.front ++ own.0;
        split = walked.split ∙ ap (λ l. walked.front ++ l) own.1 ∙ sym (append_assoc walked.front own.0 after);
        on = λ behind q before old so_far. goes_more laws here there (prepend_known rest behind) (prepend_known after behind) new next k item sight (takes_shown f laws here rest after item stands behind) goes (long _ (takes_shown f laws here rest after item stands behind).1) adds number bytes q before old (walked.on behind q before old so_far);
      }

  -- A walk is where it was, and the progress is of the same items.
  pub walked_stays : (from here : S) (shown rest : List ℕ) (mid new next : Progress) → Walked from here shown rest mid new → next.items ≡ new.items → next.bytes ≡ new.bytes
      → ((q : S) (items : List V) (sights : List Sight) → Kept q items sights new → Kept q items sights next) → Walked from here shown rest mid next
  walked_stays from here shown rest mid new next walked number bytes stays = record {
    front = walked.front;
    split = walked.split;
    on = λ behind q before old so_far.
        let told = walked.on behind q before old so_far in
        record {
          items = told.items;
          count = told.count ∙ sym number;
          leads = told.leads;
          took = told.took;
          number = number ∙ told.number ∙ ap (λ (n : ℕ). old.items + n) (sym number);
          bytes = bytes ∙ told.bytes;
          sights = told.sights;
          are_sights = told.are_sights;
          kept = stays q told.items told.sights told.kept;
        };
  }

  -- A walk ends before the rest.
  pub walked_used : (from here : S) (shown rest : List ℕ) (mid new : Progress) → Walked from here shown rest mid new
      → (behind : Option (List ℕ)) → GoesOn f IsSight first Kept from here (prepend_known shown behind) (prepend_known (drop (length shown - length rest) shown) behind) mid new
  walked_used from here shown rest mid new walked =
      let used = length shown - length rest in
      let count : length walked.front ≡ used = omega (arith, ap length walked.split, length-append walked.front rest) in
      let back : drop used shown ≡ rest = ap (drop used) walked.split ∙ drop_at walked.front rest used count in
      rw back walked.on

  -- After a walk over the bytes that a stream shows, the run goes on after the used bytes.
  pub goes_shown : (here there : S) (left now : Option (List ℕ)) (mid new : Progress) (shown : List ℕ) (used : ℕ) → IfSome left (λ xs. StartsWith xs shown)
      → ((behind : Option (List ℕ)) → GoesOn f IsSight first Kept here there (prepend_known shown behind) (prepend_known (drop used shown) behind) mid new)
      → Consumes left now (take used shown) → GoesOn f IsSight first Kept here there left now mid new
  goes_shown here there left now mid new shown used front on came = λ q before old so_far.
      goes_kept there (prepend_known (drop used shown) (behind_shown shown left)) now new (shown_used shown used left now front came) q before old
      (on (behind_shown shown left) q before old (subst (λ (l : Option (List ℕ)). Telling f q IsSight first Kept here before l old mid mid.items) (shown_split shown left front) so_far))
