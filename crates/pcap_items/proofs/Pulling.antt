-- The causes of errors of a call that takes an item from a stream, for any grammar with stable verdicts.
use Rattle.std.proofs.Common.{◌≡◌, ℕ, List, [], ◌++◌, ◌-◌, ◌<◌, ◌≤◌, length, take, sym, ap, ◌∙◌, subst, arith, length-append, true, false, Bool, Some, None, Err, ◌+◌, ◌⊎◌, inl, inr}
use Rattle.std.specs.Prelude.{Option, IfSome}
use Rattle.std.specs.Io.KnownBytes.{Consumes}
use Rattle.std.proofs.KnownBytes.{Consumes-nil}
use Rattle.std.proofs.lemmas.List.{length-take-le}
use Rattle.pcap_core.specs.declared.errors.PcapError.{PcapError}
use Rattle.pcap_core.specs.Answer.{Verdict, lacks, faulty}
use Rattle.pcap_items.specs.Early.{EarlyFault}
use Rattle.pcap_core.specs.Faults.{Fault, Shows}
use Rattle.pcap_core.specs.Laws.{IsStable}
use Rattle.pcap_core.specs.Errors.{IsIo}
use Rattle.pcap_items.specs.Streams.{EndsInside, EndsBefore, HasCauseToFill, TakesFewer}
use Rattle.pcap_items.specs.Filling.{IsAskedFor}
use Rattle.pcap_items.specs.Reading.{HasCause, read_failed, no_memory, torn, refused, IsShort, IsTorn, IsFaultOf, TakesAsked, ReadsTold, ReadsWhere}
use Rattle.pcap_core.proofs.Refusals.{shows_more}

-- nothing was taken
pub nothing_asked : {V : Type 0} (IsSaid : List ℕ → Verdict V → Type 0) (known : Option (List ℕ)) → TakesAsked IsSaid known known
nothing_asked IsSaid known = record { taken = []; from_stream = Consumes-nil known; asked = λ n less. absurd (omega (arith, less)) }

module _ {V : Type 0} (IsSaid : List ℕ → Verdict V → Type 0) (stable : IsStable IsSaid) where
  -- the stream ended inside the requested item
  ended_torn : (held : List ℕ) (n : ℕ) → IsSaid held (lacks n) → (before now : Option (List ℕ)) → Consumes before now held → EndsInside n held now → IfSome before (IsTorn IsSaid)
  ended_torn held n ask None now came ends = tt
  ended_torn held n ask (Some xs) None came ends = absurd came
  ended_torn held n ask (Some xs) (Some ys) came ends =
      let short : IsShort IsSaid (held ++ ys) = record {
        n = n - length ys;
        lack = stable.request held ys n ends.0 ask;
      } in
      let some : 0 < length (held ++ ys) = omega (arith, ends.1, length-append held ys) in
      subst (λ (l : List ℕ). IsTorn IsSaid l) (sym came) (some, short)

  -- the request could not be met
  pub unmet_cause : (e : PcapError) (held : List ℕ) (n : ℕ) → IsSaid held (lacks n) → (before now : Option (List ℕ)) (old new : Bool) → old ≡ false
      → Consumes before now held → HasCauseToFill n held now old new e → HasCause IsSaid before new e
  unmet_cause e held n ask before now old new unfailed came cause =
      elim cause [
        | inl told ↦ elim told [
          | inl memory ↦ no_memory memory.0 (memory.1 ∙ unfailed)
          | inr failed ↦ read_failed failed.0 failed.1
        ]
        | inr ended ↦ torn ended.0 (ended.1 ∙ unfailed) (ended_torn held n ask before now came ended.2)
      ]

  -- a fault has at least one byte, and so has the rest from which the bytes came
  rest_some : (held : List ℕ) → 0 < length held → (before now : Option (List ℕ)) → Consumes before now held → IfSome before (λ rest. 0 < length rest)
  rest_some held some None now came = tt
  rest_some held some (Some xs) None came = absurd came
  rest_some held some (Some xs) (Some ys) came = omega (arith, some, ap length came, length-append held ys)

  fault_shown : (held : List ℕ) (fault : Fault) → IsSaid held (faulty fault) → (before now : Option (List ℕ)) → Consumes before now held
      → IfSome before (λ rest. IsSaid rest (faulty fault) ⊎ EarlyFault IsSaid rest fault)
  fault_shown held fault bad None now came = tt
  fault_shown held fault bad (Some xs) None came = absurd came
  fault_shown held fault bad (Some xs) (Some ys) came =
      inl (subst (λ (l : List ℕ). IsSaid l (faulty fault)) (sym came) (stable.fault held ys fault bad))

  -- the held bytes are refused
  pub asked_shows : (e : PcapError) (held : List ℕ) → ((fault : Fault) → IsSaid held (faulty fault) → 0 < length held) → Shows (λ fault. IsSaid held (faulty fault)) e
      → (before now : Option (List ℕ)) → Consumes before now held → Shows (IsFaultOf IsSaid before) e
  asked_shows e held some bad before now came =
      let step : (fault : Fault) → IsSaid held (faulty fault) → IsFaultOf IsSaid before fault = λ fault stands. record {
        bytes = held;
        stands = stands;
        some = rest_some held (some fault stands) before now came;
        shown = fault_shown held fault stands before now came;
      } in
      shows_more step e bad

  pub asked_cause : (e : PcapError) (held : List ℕ) → ((fault : Fault) → IsSaid held (faulty fault) → 0 < length held) → Shows (λ fault. IsSaid held (faulty fault)) e
      → (before now : Option (List ℕ)) (failed : Bool) → failed ≡ false → Consumes before now held → HasCause IsSaid before failed e
  asked_cause e held some bad before now failed unfailed came = refused (asked_shows e held some bad before now came) unfailed

  array_short : (head : ℕ) → ((s : List ℕ) (n : ℕ) → length s + n ≡ head → 0 < n → IsSaid s (lacks n)) → (before : Option (List ℕ))
      → EndsBefore head before → IfSome before (IsShort IsSaid)
  array_short head short None ended = tt
  array_short head short (Some rest) ended = record { n = head - length rest; lack = short rest (head - length rest) (omega (arith, ended)) (omega (arith, ended)) }

  -- no more came than a head of fixed length
  pub array_asked : (head : ℕ) → ((s : List ℕ) (n : ℕ) → length s + n ≡ head → 0 < n → IsSaid s (lacks n)) → (taken : List ℕ) → length taken ≤ head → IsAskedFor IsSaid taken
  array_asked head short taken within n less =
      let long : length (take n taken) ≡ n = length-take-le n taken (omega (arith, less)) in
      record { n = head - n; lack = short (take n taken) (head - n) (omega (arith, long, less, within)) (omega (arith, less, within)) }

  -- too few bytes came for a head of fixed length, or a read failed
  pub array_told : {X : Type 0} (view : X → V) (head : ℕ) → ((s : List ℕ) (n : ℕ) → length s + n ≡ head → 0 < n → IsSaid s (lacks n))
      → (e : PcapError) (before after : Option (List ℕ)) (old new : Bool) → old ≡ false
      → IsIo e × TakesFewer head before after × ((new ≡ true) ⊎ ((new ≡ old) × EndsBefore head before)) → ReadsTold IsSaid view before after new (Err e)
  array_told view head short e before after old new unfailed why =
      let part = why.1 in (
        record { taken = part.0; from_stream = part.1; asked = array_asked head short part.0 (omega (arith, part.2)) },
        elim why.2 [
          | inl failed ↦ inl (why.0, failed)
          | inr ended ↦ inr (inl (why.0, ended.0 ∙ unfailed, array_short head short before ended.1))
        ],
      )

  -- the bytes of an array are refused
  pub array_refused : {X : Type 0} (view : X → V) (e : PcapError) (bytes : List ℕ) → 0 < length bytes → ((s : List ℕ) (n : ℕ) → length s + n ≡ length bytes → 0 < n → IsSaid s (lacks n))
      → Shows (λ fault. IsSaid bytes (faulty fault)) e → (before after : Option (List ℕ)) (failed : Bool) → failed ≡ false → Consumes before after bytes → ReadsTold IsSaid view before after failed (Err e)
  array_refused view e bytes some short bad before after failed unfailed came = (
    record { taken = bytes; from_stream = came; asked = array_asked (length bytes) short bytes (omega arith) },
    inr (inr (asked_shows e bytes (λ fault stands. some) bad before after came, unfailed)),
  )

  -- a call that reports whether it failed returns the same errors as one that does not
  pub told_refuses : {X : Type 0} (M : Type 0) (view : X → V) (e : PcapError) (before after : Option (List ℕ)) (failed : Bool) → ReadsTold IsSaid view before after failed (Err e)
      → ReadsWhere M IsSaid view before after (Err e)
  told_refuses M view e before after failed why =
      (why.0, elim why.1 [ inl io ↦ inl io.0 | inr (inl short) ↦ inl short.0 | inr (inr bad) ↦ inr (inr bad.0) ])
