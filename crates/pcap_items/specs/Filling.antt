-- The results of filling a buffer with an item that has a head.
use Rattle.std.specs.Prelude.{◌≡◌, ◌<◌, ◌⊎◌, ℕ, List, [], ◌++◌, length, take, Bool, false, Option, Some, None, Result, Ok, Err}
use Rattle.std.specs.Io.KnownBytes.{Consumes, Keeps, IsAtEnd}
use Rattle.pcap_core.specs.declared.errors.PcapError.{PcapError}
use Rattle.pcap_core.specs.Answer.{Verdict, whole, lacks, faulty}
use Rattle.pcap_core.specs.Faults.{Fault, Shows}
use Rattle.pcap_items.specs.Reading.{IsShort, HasCause, TakesAsked}

-- IsSettled IsSaid: the bytes are exactly one item, or they are refused. None are missing.
abbrev pub IsSettled : {V : Type 0} → (Verdict V → Type 0) → Type 0
IsSettled {V = V} IsSaid = ((v : V) × IsSaid (whole v [])) ⊎ ((fault : Fault) × IsSaid (faulty fault))

-- StatesRest: the bytes of a head are known, and this many bytes are missing after them, or none; or the bytes are refused.
abbrev pub StatesRest : {H V : Type 0} → (List ℕ → Verdict V → Type 0) → (H → ℕ → List ℕ → Type 0) → List ℕ → Result (H × ℕ) PcapError → Type 0
StatesRest IsSaid Knows bytes (Ok x) = Knows x.0 x.1 bytes × (x.1 ≡ 0 → IsSettled (IsSaid bytes)) × (0 < x.1 → IsSaid bytes (lacks x.1))
StatesRest IsSaid Knows bytes (Err e) = Shows (λ fault. IsSaid bytes (faulty fault)) e

-- Stated Knows head known bytes: the bytes are a known head, followed by as many bytes as it states.
pub record Stated {H : Type 0} (Knows : H → ℕ → List ℕ → Type 0) (head : ℕ) (known : H) (bytes : List ℕ) : Type 0 where
  pub front : List ℕ
  pub body : List ℕ
  pub split : bytes ≡ front ++ body
  pub length_is : length front ≡ head
  pub knows : Knows known (length body) front

-- IsAskedFor IsSaid s: each shorter beginning of s lacks bytes.
abbrev pub IsAskedFor : {V : Type 0} → (List ℕ → Verdict V → Type 0) → List ℕ → Type 0
IsAskedFor IsSaid s = (n : ℕ) → n < length s → IsShort IsSaid (take n s)

-- FillsHead: exactly a known head was taken, and it says how many bytes follow it; or nothing is held at the end of the stream. After an
-- error, no more was taken than requested.
abbrev pub FillsHead : {H V : Type 0} → (List ℕ → Verdict V → Type 0)
    → (H → ℕ → List ℕ → Type 0) → ℕ → Option (List ℕ) → Option (List ℕ) → List ℕ → Bool → Result (Option (H × ℕ)) PcapError → Type 0
FillsHead IsSaid Knows head before after held failed (Ok (Some x)) =
    (failed ≡ false) × (length held ≡ head) × StatesRest IsSaid Knows held (Ok x) × IsAskedFor IsSaid held × Consumes before after held
FillsHead IsSaid Knows head before after held failed (Ok None) = (failed ≡ false) × (held ≡ []) × IsAtEnd before × Keeps before after
FillsHead IsSaid Knows head before after held failed (Err e) = HasCause IsSaid before failed e × TakesAsked IsSaid before after

-- FillsHeaded: exactly the held bytes were taken, a known head and what it requests; or nothing is held at the end of the stream. After
-- an error, no more was taken than requested.
abbrev pub FillsHeaded : {H V : Type 0} → (List ℕ → Verdict V → Type 0)
    → (H → ℕ → List ℕ → Type 0) → ℕ → Option (List ℕ) → Option (List ℕ) → List ℕ → Bool → Result (Option H) PcapError → Type 0
FillsHeaded IsSaid Knows head before after held failed (Ok (Some known)) =
    (failed ≡ false) × Stated Knows head known held × IsSettled (IsSaid held) × IsAskedFor IsSaid held × Consumes before after held
FillsHeaded IsSaid Knows head before after held failed (Ok None) = (failed ≡ false) × (held ≡ []) × IsAtEnd before × Keeps before after
FillsHeaded IsSaid Knows head before after held failed (Err e) = HasCause IsSaid before failed e × TakesAsked IsSaid before after

-- TakesStated: exactly these bytes were taken: a known head, and this body, which the head requests.
pub record TakesStated {H V : Type 0} (IsSaid : List ℕ → Verdict V → Type 0)
    (Knows : H → ℕ → List ℕ → Type 0) (head : ℕ) (before after : Option (List ℕ)) (known : H) (body : List ℕ) : Type 0 where
  pub bytes : List ℕ
  pub stated : Stated Knows head known bytes
  pub body_is : stated.body ≡ body
  pub settled : IsSettled (IsSaid bytes)
  pub asked : IsAskedFor IsSaid bytes
  pub took : Consumes before after bytes

-- TakesHeaded: exactly a head and its body were taken, or the stream was at its end. After an error, no more was taken than requested.
abbrev pub TakesHeaded : {H B V : Type 0} → (List ℕ → Verdict V → Type 0)
    → (H → ℕ → List ℕ → Type 0) → ℕ → (B → List ℕ) → Option (List ℕ) → Option (List ℕ) → Bool → Result (Option (H × B)) PcapError → Type 0
TakesHeaded IsSaid Knows head body_of before after failed (Ok (Some x)) = (failed ≡ false) × TakesStated IsSaid Knows head before after x.0 (body_of x.1)
TakesHeaded IsSaid Knows head body_of before after failed (Ok None) = (failed ≡ false) × IsAtEnd before × Keeps before after
TakesHeaded IsSaid Knows head body_of before after failed (Err e) = HasCause IsSaid before failed e × TakesAsked IsSaid before after

-- TellsSettled: the result of a call on settled bytes: the item that they are, or their refusal.
abbrev pub TellsSettled : {X V : Type 0} → (Verdict V → Type 0) → (X → V) → Result X PcapError → Type 0
TellsSettled IsSaid view (Ok x) = IsSaid (whole (view x) [])
TellsSettled IsSaid view (Err e) = Shows (λ fault. IsSaid (faulty fault)) e
