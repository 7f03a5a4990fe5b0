-- Lemmas about items that are copied one after another, for any format.
use Rattle.std.proofs.Common.{◌≡◌, ◌<◌, ◌≤◌, ◌+◌, ℕ, List, [], ◌∷◌, ◌++◌, Bool, refl, ap, sym, ◌∙◌, subst, arith, length-append, append_assoc, ◌⊎◌, inl, inr, Err, Some, None, true, false}
use Rattle.std.specs.Prelude.{Option, IfSome}
use Rattle.std.specs.Io.KnownBytes.{Consumes, Appends, Keeps, IsAtEnd}
use Rattle.std.proofs.KnownBytes.{Consumes-nil, Consumes-trans, Appends-nil, Appends-trans, Appends-kept}
use Rattle.std.proofs.lemmas.Bool.{true≢false}
use Rattle.std.proofs.lemmas.Grind.{flat_map-append}
use Rattle.pcap_core.specs.declared.errors.PcapError.{PcapError}
use Rattle.pcap_core.specs.declared.errors.PcapError.TheVariants as errors
use Rattle.pcap_items.specs.declared.stream.copying.Tally.{Tally}
use Rattle.pcap_core.specs.Answer.{Verdict, whole}
use Rattle.pcap_items.specs.Copying.{IsWriting, each_written, EndsWhole, Fails, CopiesTexts, CopiesTo, FailsBehind, CopiesBehind, Ends, SendsWhole, SendsTorn}
use Rattle.pcap_core.specs.Errors.{IsIo}
use Rattle.pcap_items.specs.Format.{Format, state_after, IsLawful}
use Rattle.pcap_items.specs.Takes.{Stops, TakesItems}
use Rattle.pcap_items.specs.Writing.{AppendsPart, WritesAll}
use Rattle.pcap_items.proofs.Formats.{texts_more, texts_all}

-- a write returns an error only if it failed
pub torn_write : (bytes : List ℕ) (mid out : Option (List ℕ)) (e : PcapError) → WritesAll mid out bytes (Err e) → IsIo e × AppendsPart mid out bytes
torn_write bytes mid out (errors.IoError x) part = (tt, part)
torn_write bytes mid out _ part = absurd part

-- a reader that shows nothing is at its end
pub shows_nothing : (a : Option (List ℕ)) (n : ℕ) → n ≡ 0 → IfSome a (λ xs. n ≡ 0 → xs ≡ []) → IsAtEnd a
shows_nothing None n none end = tt
shows_nothing (Some xs) n none end = end none

-- bytes that were written in two parts
pub appends_apart : (a c : Option (List ℕ)) (first second : List ℕ) → Appends a c (first ++ second) → (b : Option (List ℕ)) × Appends a b first × Appends b c second
appends_apart None c first second out = (None, tt, tt)
appends_apart (Some x) None first second out = absurd out
appends_apart (Some x) (Some z) first second out = (Some (x ++ first), refl, out ∙ sym (append_assoc x first second))

-- bytes that came in two parts
pub consumes_apart : (a c : Option (List ℕ)) (first second : List ℕ) → Consumes a c (first ++ second) → (b : Option (List ℕ)) × Consumes a b first × Consumes b c second
consumes_apart None c first second took = (None, tt, tt)
consumes_apart (Some x) None first second took = absurd took
consumes_apart (Some x) (Some z) first second took = (Some (second ++ z), took ∙ append_assoc first second z, refl)

pub state_all : {S V : Type 0} (f : Format S V) (q : S) (vs ws : List V) → state_after f q (vs ++ ws) ≡ state_after f (state_after f q vs) ws
state_all f q [] ws = refl
state_all f q (v ∷ vs) ws = state_all f (f.goes q v) vs ws

pub each_writing : {V : Type 0} (text : V → List ℕ) → IsWriting (each_written text)
each_writing text = record { nothing = refl; joined = λ vs ws s t. flat_map-append text vs ws }

-- the end of a copy in which no write failed
pub ends_stops : {V : Type 0} (written : List V → List ℕ → List ℕ) (IsSaid : List ℕ → Verdict V → Type 0) (left now mid out : Option (List ℕ)) (most n : ℕ) (fault : Option PcapError)
    (read_failed write_failed : Bool) → write_failed ≡ false → Ends written IsSaid left now mid out most n fault read_failed write_failed
    → Stops IsSaid left now read_failed n most fault × Keeps mid out
ends_stops written IsSaid left now mid out most n None read_failed write_failed unfailed (inl whole_ones) = ((whole_ones.0.no_read_failed, whole_ones.0.taken, whole_ones.1), whole_ones.0.out)
ends_stops written IsSaid left now mid out most n (Some e) read_failed write_failed unfailed (inl whole_ones) = absurd (let none : Some e ≡ None = whole_ones.0.fine in cc)
ends_stops written IsSaid left now mid out most n fault read_failed write_failed unfailed (inr (few, inl tear)) = absurd (true≢false (sym tear.write_failed ∙ unfailed))
ends_stops written IsSaid left now mid out most n None read_failed write_failed unfailed (inr (few, inr bad)) = absurd bad.refused
ends_stops written IsSaid left now mid out most n (Some e) read_failed write_failed unfailed (inr (few, inr bad)) = ((few, bad.refused, bad.part), bad.out)

module _ {S V : Type 0} (f : Format S V) (written : List V → List ℕ → List ℕ) (writing : IsWriting written) where
  pub copies_none : (q : S) (before out : Option (List ℕ)) → CopiesTexts f written q [] before before out out
  copies_none q before out = record { bytes = []; texts = refl; took = Consumes-nil before; went = subst (λ (l : List ℕ). Appends out out l) (sym writing.nothing) (Appends-nil out) }

  pub to_none : (q : S) (before out : Option (List ℕ)) (n m : ℕ) → m ≡ n → CopiesTo f written q q before before out out n m
  to_none q before out n m same = record { items = []; leads = refl; texts = copies_none q before out; count = omega (arith, same) }

  -- one more item was copied
  pub step_one : (q next : S) (item : V) (text : List ℕ) (a b p r : Option (List ℕ)) (n m : ℕ) → f.goes q item ≡ next → f.says q text (whole item []) → Consumes a b text → Appends p r (written (item ∷ []) text) → m ≡ n + 1
      → CopiesTo f written q next a b p r n m
  step_one q next item text a b p r n m leads says took went same =
      record { items = item ∷ []; leads = leads; texts = record { bytes = text; texts = ([], says, refl); took = took; went = went }; count = omega (arith, same) }

  -- an error before anything was copied
  pub step_fails : (q : S) (before now out out_now : Option (List ℕ)) (n m : ℕ) (e : PcapError) (read_failed write_failed : Bool) → m ≡ n
      → Fails written (f.says q) before now out out_now (Some e) read_failed write_failed → FailsBehind f written q before now out out_now n (n + 1) m (Some e) read_failed write_failed
  step_fails q before now out out_now n m e read_failed write_failed same why = record { left = before; mid = out; so_far = to_none q before out n m same; few = omega (arith, same); why = why }

  -- the whole items that were written were taken and copied
  pub whole_taken : (q : S) (bytes : List ℕ) (before now out out_now : Option (List ℕ)) (n k : ℕ) → Consumes before now bytes → SendsWhole f written q bytes out out_now k
      → CopiesTo f written q q before now out out_now n (n + k)
  whole_taken q bytes before now out out_now n k took sent = record {
    items = sent.items;
    leads = sent.leave;
    texts = record { bytes = bytes; texts = sent.texts; took = took; went = sent.out };
    count = omega (arith, sent.count);
  }

  -- and after them an item that was torn
  pub torn_taken : (q : S) (bytes : List ℕ) (before now out out_now : Option (List ℕ)) (n k most : ℕ) (e : PcapError) (read_failed write_failed : Bool) → Consumes before now bytes → SendsTorn f written q bytes out out_now k
      → n + k < most → IsIo e → read_failed ≡ false → write_failed ≡ true → FailsBehind f written q before now out out_now n most (n + k) (Some e) read_failed write_failed
  torn_taken q bytes before now out out_now n k most e read_failed write_failed took sent few io read wrote =
      let apart = consumes_apart before now sent.front sent.text (subst (λ (l : List ℕ). Consumes before now l) sent.split took) in
      record {
        left = apart.0;
        mid = sent.mid;
        so_far = whole_taken q sent.front before apart.0 out sent.mid n k apart.1 sent.whole_ones;
        few = few;
        why = inl (record { item = sent.item; text = sent.text; is_text = sent.is_text; took = apart.2; refused = io; no_read_failed = read; write_failed = wrote; out = sent.out });
      }

  module _ (laws : IsLawful f) where
    -- items after items
    pub copies_all : (q : S) (vs ws : List V) (a b c p r s : Option (List ℕ)) → CopiesTexts f written q vs a b p r → CopiesTexts f written (state_after f q vs) ws b c r s
        → CopiesTexts f written q (vs ++ ws) a c p s
    copies_all q vs ws a b c p r s so_far more = record {
      bytes = so_far.bytes ++ more.bytes;
      texts = texts_all f q vs ws (so_far.bytes ++ more.bytes) more.bytes [] (texts_more f laws q vs so_far.bytes [] more.bytes so_far.texts) more.texts;
      took = Consumes-trans a b c so_far.bytes more.bytes so_far.took more.took;
      went = subst (λ (l : List ℕ). Appends p s l) (sym (writing.joined vs ws so_far.bytes more.bytes)) (Appends-trans p r s (written vs so_far.bytes) (written ws more.bytes) so_far.went more.went);
    }

    pub to_all : (q p next : S) (a b c s r t : Option (List ℕ)) (n m k : ℕ) → CopiesTo f written q p a b s r n m → CopiesTo f written p next b c r t m k → CopiesTo f written q next a c s t n k
    to_all q p next a b c s r t n m k so_far more =
        let here : CopiesTexts f written (state_after f q so_far.items) more.items b c r t = subst (λ (x : S). CopiesTexts f written x more.items b c r t) (sym so_far.leads) more.texts in
        record {
          items = so_far.items ++ more.items;
          leads = state_all f q so_far.items more.items ∙ ap (λ (x : S). state_after f x more.items) so_far.leads ∙ more.leads;
          texts = copies_all q so_far.items more.items a b c s r t so_far.texts here;
          count = omega (arith, more.count, so_far.count, length-append so_far.items more.items);
        }

    -- an error after items
    pub to_fails : (q p : S) (a b now s r out : Option (List ℕ)) (n most few : ℕ) (tally : Tally) (e : PcapError) → CopiesTo f written q p a b s r 0 n
        → FailsBehind f written p b now r out n few tally.items (Some e) tally.read_failed tally.write_failed → few ≤ most
        → CopiesBehind f written q a now s out most tally.items (Some e) tally.read_failed tally.write_failed
    to_fails q p a b now s r out n most few tally e so_far fails within =
        let all = to_all q p p a b fails.left s r fails.mid 0 n tally.items so_far fails.so_far in
        record {
          items = all.items;
          left = fails.left;
          mid = fails.mid;
          texts = all.texts;
          count = omega (arith, all.count);
          within = omega (arith, fails.few, within);
          ends = inr (
            omega (arith, fails.few, within),
            subst (λ (x : S). Fails written (f.says x) fails.left now fails.mid out (Some e) tally.read_failed tally.write_failed) (sym all.leads) fails.why,
          );
        }

  -- the end after items
  pub to_ends : (q p : S) (a b now s r out : Option (List ℕ)) (n most : ℕ) (tally : Tally) → CopiesTo f written q p a b s r 0 n → tally.items ≡ n → n ≤ most
      → EndsWhole b now r out None tally.read_failed tally.write_failed → IsAtEnd b ⊎ (tally.items ≡ most)
      → CopiesBehind f written q a now s out most tally.items None tally.read_failed tally.write_failed
  to_ends q p a b now s r out n most tally so_far same few ends why = record {
    items = so_far.items;
    left = b;
    mid = r;
    texts = so_far.texts;
    count = omega (arith, same, so_far.count);
    within = omega (arith, same, few);
    ends = inl (ends, why);
  }

  -- the items that a copy took in which no write failed, and the bytes that it wrote
  pub copies_take : (q : S) (before now out out_now : Option (List ℕ)) (most n : ℕ) (fault : Option PcapError) (read_failed write_failed : Bool) → write_failed ≡ false
      → (c : CopiesBehind f written q before now out out_now most n fault read_failed write_failed)
      → TakesItems f q before now read_failed most c.items fault × Appends out out_now (written c.items c.texts.bytes)
  copies_take q before now out out_now most n fault read_failed write_failed unfailed c =
      let IsSaid = f.says (state_after f q c.items) in
      let ended = ends_stops written IsSaid c.left now c.mid out_now most n fault read_failed write_failed unfailed c.ends in (
        record {
          left = c.left;
          took = record { bytes = c.texts.bytes; texts = c.texts.texts; took = c.texts.took };
          within = omega (arith, c.count, c.within);
          stops = subst (λ (k : ℕ). Stops IsSaid c.left now read_failed k most fault) c.count ended.0;
        },
        Appends-kept out c.mid out_now (written c.items c.texts.bytes) c.texts.went ended.1,
      )
