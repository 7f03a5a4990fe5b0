-- The results of filling with a head and the bytes that it states, for any lawful format.
use Rattle.std.proofs.Common.{◌≡◌, ◌<◌, ℕ, List, [], ◌++◌, length, Bool, true, false, refl, sym, ap, subst, ◌∙◌, arith, append-nil, length-append, inl, inr, Some, None, Ok}
use Rattle.std.specs.Prelude.{Option}
use Rattle.std.proofs.lemmas.Bool.{cases_lt}
use Rattle.std.proofs.lemmas.List.{nil_from_length}
use Rattle.std.specs.Io.KnownBytes.{Consumes}
use Rattle.std.proofs.KnownBytes.{Consumes-nil}
use Rattle.pcap_core.specs.declared.errors.PcapError.{PcapError}
use Rattle.pcap_core.specs.Answer.{Verdict, whole, lacks, faulty}
use Rattle.pcap_core.specs.Faults.{Shows}
use Rattle.pcap_items.specs.Format.{Format, IsLawful}
use Rattle.pcap_items.specs.Reading.{HasCause, TakesAsked}
use Rattle.pcap_items.specs.Streams.{Adds, AddsFewer, FillGives, EndsInside, EndsBefore, HasCauseToFill, TakesFewer, HasCauseToTake}
use Rattle.pcap_items.proofs.Asked.{asked_none, asked_more}
use Rattle.pcap_items.proofs.Formats.{nothing_lacks, fault_some, exact}
use Rattle.pcap_items.proofs.Pulling.{unmet_cause, asked_cause}
use Rattle.pcap_items.proofs.StreamBytes.{held_more}
use Rattle.pcap_items.specs.Filling.{IsSettled, IsAskedFor, StatesRest, Stated, TakesStated}

-- the held bytes, if nothing was held before
pub record Begins {S V : Type 0} (f : Format S V) (laws : IsLawful f) (q : S) (before now : Option (List ℕ)) (held : List ℕ) : Type 0 where
  pub came : Consumes before now held
  pub asked : IsAskedFor (f.says q) held

module _ {S V : Type 0} (f : Format S V) (laws : IsLawful f) (q : S) where
  pub begins_none : (held : List ℕ) (before : Option (List ℕ)) → held ≡ [] → Begins f laws q before before held
  begins_none held before none = rw none (record { came = Consumes-nil before; asked = asked_none f laws q })

  pub none_lacks : (held : List ℕ) → held ≡ [] → f.says q held (lacks (f.head q))
  none_lacks held none = rw none (nothing_lacks f laws q)

  -- a request was met
  pub begins_more : (held new : List ℕ) (before mid after : Option (List ℕ)) (n : ℕ) → Begins f laws q before mid held → f.says q held (lacks n)
      → Adds held new mid after n → Begins f laws q before after new
  begins_more held new before mid after n b ask adds = record {
    came = held_more held new before mid after n b.came adds;
    asked = rw adds.added (asked_more f laws q n held adds.taken ask (omega (arith, adds.count)) b.asked);
  }

  -- a request was not met, and the bytes that came are held
  pub unmet_held : (held new : List ℕ) (before mid after : Option (List ℕ)) (n : ℕ) → Begins f laws q before mid held → AddsFewer n held new mid after → Consumes before after new
  unmet_held held new before mid after n b part = held_more held new before mid after part.0 b.came part.2

  -- a request was not met
  pub unmet : (e : PcapError) (held new : List ℕ) (before mid after : Option (List ℕ)) (old failed : Bool) (n : ℕ) → Begins f laws q before mid held → f.says q held (lacks n)
      → old ≡ false → AddsFewer n held new mid after → HasCauseToFill n held mid old failed e
      → HasCause (f.says q) before failed e × TakesAsked (f.says q) before after
  unmet e held new before mid after old failed n b ask unfailed part cause =
      let adds = part.2 in (
        unmet_cause (f.says q) (laws.stable q) e held n ask before mid old failed unfailed b.came cause,
        record {
          taken = new;
          from_stream = held_more held new before mid after part.0 b.came adds;
          asked = rw adds.added (asked_more f laws q n held adds.taken ask (omega (arith, adds.count, part.1)) b.asked);
        },
      )

  -- the held bytes are refused
  pub held_refused : (e : PcapError) (held : List ℕ) (before now : Option (List ℕ)) (failed : Bool) → Begins f laws q before now held → failed ≡ false
      → Shows (λ fault. f.says q held (faulty fault)) e → HasCause (f.says q) before failed e × TakesAsked (f.says q) before now
  held_refused e held before now failed b unfailed shown = (
    asked_cause (f.says q) (laws.stable q) e held (fault_some f laws q held) shown before now failed unfailed b.came,
    record { taken = held; from_stream = b.came; asked = b.asked },
  )

  settled_by : (n : ℕ) (held more : List ℕ) → f.head q ≡ length held → f.says q held (lacks n) → length more ≡ n → (v : Verdict V) → f.says q (held ++ more) v → IsSettled (f.says q (held ++ more))
  settled_by n held more long ask count (whole v rest) x =
      inl (v, subst (λ (l : List ℕ). f.says q (held ++ more) (whole v l)) (exact f laws q n held more ask count v rest x) x)
  settled_by n held more long ask count (lacks m) x = absurd (laws.last q held more n m (omega (arith, long)) ask count x)
  settled_by n held more long ask count (faulty fault) x = inr (fault, x)

  -- the request after a head is for all bytes that are missing
  pub settled : (n : ℕ) (held new : List ℕ) (before after : Option (List ℕ)) → length held ≡ f.head q → f.says q held (lacks n) → Adds held new before after n → IsSettled (f.says q new)
  settled n held new before after long ask adds =
      let one = laws.one q (held ++ adds.taken) in
      rw adds.added (settled_by n held adds.taken (sym long) ask adds.count one.value one.holds)

-- some bytes are held, so the stream ended inside an item
ends_inside : (n : ℕ) (held : List ℕ) (known : Option (List ℕ)) → 0 < length held → EndsBefore n known → EndsInside n held known
ends_inside n held None some ends = tt
ends_inside n held (Some rest) some ends = (ends, omega (arith, some))

cause_behind : (n : ℕ) (held : List ℕ) (known : Option (List ℕ)) (old new : Bool) (e : PcapError) → 0 < length held → HasCauseToTake n known old new e → HasCauseToFill n held known old new e
cause_behind n held known old new e some cause = elim cause [ inl told ↦ inl told | inr ended ↦ inr (ended.0, ended.1, ends_inside n held known some ended.2) ]

-- some bytes are held, so the requested ones were added
pub adds_behind : (n : ℕ) (held new : List ℕ) (before after : Option (List ℕ)) (some : Bool) → 0 < length held → FillGives n held new before after some → Adds held new before after n
adds_behind n held new before after true long gives = gives
adds_behind n held new before after false long gives = absurd (omega (arith, long, ap length gives.0))

pub adds_length : (k : ℕ) (held new : List ℕ) (before after : Option (List ℕ)) → held ≡ [] → Adds held new before after k → length new ≡ k
adds_length k held new before after none adds = ap length adds.added ∙ length-append held adds.taken ∙ omega (arith, ap length none, adds.count)

pub stated_alone : {H : Type 0} (Knows : H → ℕ → List ℕ → Type 0) (head n : ℕ) (known : H) (held : List ℕ) → length held ≡ head → n ≡ 0 → Knows known n held → Stated Knows head known held
stated_alone Knows head n known held long none knows =
    record { front = held; body = []; split = sym (append-nil held); length_is = long; knows = subst (λ (k : ℕ). Knows known k held) none knows }

pub stated_more : {H : Type 0} (Knows : H → ℕ → List ℕ → Type 0) (head n : ℕ) (known : H) (held new : List ℕ) (before after : Option (List ℕ)) → length held ≡ head → Knows known n held
    → Adds held new before after n → Stated Knows head known new
stated_more Knows head n known held new before after long knows adds =
    record { front = held; body = adds.taken; split = adds.added; length_is = long; knows = subst (λ (k : ℕ). Knows known k held) (sym adds.count) knows }

module _ {S V : Type 0} (f : Format S V) (laws : IsLawful f) (q : S) where
  -- a request after the held bytes was not met
  pub unmet_behind : (e : PcapError) (held : List ℕ) (before mid after : Option (List ℕ)) (old failed : Bool) (n : ℕ) → Begins f laws q before mid held → 0 < length held
      → f.says q held (lacks n) → old ≡ false → TakesFewer n mid after → HasCauseToTake n mid old failed e → HasCause (f.says q) before failed e × TakesAsked (f.says q) before after
  unmet_behind e held before mid after old failed n b some ask unfailed part cause =
      unmet f laws q e held (held ++ part.0) before mid after old failed n b ask unfailed
      (length part.0, part.2, record { taken = part.0; count = refl; added = refl; from_stream = part.1 }) (cause_behind n held mid old failed e some cause)

  -- a head was taken, and then the bytes that it states
  pub taken_stated : {H : Type 0} (Knows : H → ℕ → List ℕ → Type 0) (known : H) (n : ℕ) (held body : List ℕ) (before mid after : Option (List ℕ)) → length held ≡ f.head q
      → StatesRest (f.says q) Knows held (Ok (known, n)) → Begins f laws q before mid held → length body ≡ n → Consumes mid after body
      → TakesStated (f.says q) Knows (f.head q) before after known body
  unfolding stated_more
  taken_stated Knows known n held body before mid after long stated b count came =
      let adds : Adds held (held ++ body) mid after n = record { taken = body; count = count; added = refl; from_stream = came } in
      elim (cases_lt 0 n) [
        | inl some ↦
            let all = begins_more f laws q held (held ++ body) before mid after n b (stated.2 some) adds in
            record {
              bytes = held ++ body;
              stated = stated_more Knows (f.head q) n known held (held ++ body) mid after long stated.0 adds;
              body_is = refl;
              settled = settled f laws q n held (held ++ body) mid after long (stated.2 some) adds;
              asked = all.asked;
              took = all.came;
            }
        | inr none ↦
            let nothing : body ≡ [] = nil_from_length body (omega (arith, count, none)) in
            let same : held ≡ held ++ body = sym (append-nil held) ∙ ap (λ (l : List ℕ). held ++ l) (sym nothing) in
            record {
              bytes = held ++ body;
              stated = stated_more Knows (f.head q) n known held (held ++ body) mid after long stated.0 adds;
              body_is = refl;
              settled = subst (λ (l : List ℕ). IsSettled (f.says q l)) same (stated.1 (omega (arith, none)));
              asked = subst (λ (l : List ℕ). IsAskedFor (f.says q) l) same b.asked;
              took = held_more held (held ++ body) before mid after n b.came adds;
            }
      ]
