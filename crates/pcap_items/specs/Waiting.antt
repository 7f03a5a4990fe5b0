-- The knowledge about a capture while bytes are missing, without another call of the parser.
use Rattle.std.specs.Prelude.{◌≡◌, ◌==◌, if◌then◌else◌, ℕ, List, []}
use Rattle.pcap_core.specs.declared.errors.PcapError.{PcapError}
use Rattle.pcap_core.specs.declared.errors.PcapError.TheVariants.{IncompleteBuffer}
use Rattle.pcap_items.specs.declared.rest.Rest.{Rest}
use Rattle.pcap_items.specs.declared.rest.Rest.TheVariants.{Clean, Needs, Refused}
use Rattle.pcap_items.specs.declared.run.pieces.Progress.{Progress}
use Rattle.pcap_items.specs.declared.run.pieces.Progress.TheVariants.{Before, Within}
use Rattle.pcap_core.specs.Answer.{Verdict, lacks, faulty, Refuses}
use Rattle.pcap_core.specs.Faults.{Shows}
use Rattle.pcap_items.specs.Format.{Format}
use Rattle.pcap_items.specs.Pieces.{Reaches}

-- error_with gives the error with this many bytes missing, if it reports missing bytes.
abbrev pub error_with : PcapError → ℕ → PcapError
error_with (IncompleteBuffer n) missing = IncompleteBuffer missing
error_with error missing = error

-- rest_with gives the rest with this many bytes missing, if it needs bytes.
abbrev pub rest_with : Rest → ℕ → Rest
rest_with Clean missing = Clean
rest_with (Needs n) missing = Needs missing
rest_with (Refused error) missing = Refused error

-- progress_with gives the progress of a capture with this many bytes missing, if it needs bytes.
abbrev pub progress_with : {P : Type 0} → Progress P → ℕ → Progress P
progress_with (Before error) missing = Before (error_with error missing)
progress_with (Within parser rest) missing = Within parser (rest_with rest missing)

-- rest_shown gives the rest with `missing` bytes missing and `left` bytes left. A rest that needs bytes is clean if none are left.
abbrev pub rest_shown : Rest → ℕ → ℕ → Rest
rest_shown Clean missing left = Clean
rest_shown (Needs n) missing left = if left == 0 then Clean else Needs missing
rest_shown (Refused error) missing left = Refused error

-- progress_shown gives the progress of a capture with `missing` bytes missing and `left` bytes left.
abbrev pub progress_shown : {P : Type 0} → Progress P → ℕ → ℕ → Progress P
progress_shown (Before error) missing left = Before (error_with error missing)
progress_shown (Within parser rest) missing left = Within parser (rest_shown rest missing left)

-- IsAsked IsSaid left rest: an item is expected at `left` but not whole, and `rest` is why: bytes are missing, or there is a fault.
-- `left` may be empty.
abbrev pub IsAsked : {V : Type 0} → (List ℕ → Verdict V → Type 0) → List ℕ → Rest → Type 0
IsAsked IsSaid left Clean = ⊥
IsAsked IsSaid left (Needs n) = IsSaid left (lacks n)
IsAsked IsSaid left (Refused error) = Shows (λ fault. IsSaid left (faulty fault)) error

-- IsWaiting is IsFed, except that the rest is what IsAsked says of the held bytes, even if no byte is held.
abbrev pub IsWaiting : {P S V W : Type 0} → (List ℕ → Verdict S → Type 0) → Format S V → (V → W) → (P → S) → List ℕ → Progress P → List ℕ → List W → Type 0
IsWaiting opens f part state s (Before error) held ws = (held ≡ s) × (ws ≡ []) × Refuses ⊥ (λ n. opens s (lacks n)) (λ fault. opens s (faulty fault)) error
IsWaiting opens f part state s (Within parser rest) held ws = Reaches opens f part (state parser) ws s held × IsAsked (f.says (state parser)) held rest
