-- The rest after the last item of a run.
use Rattle.std.specs.Prelude.{◌≡◌, ◌<◌, ℕ, List, [], length, Result, Ok, Err}
use Rattle.std.specs.declared.alloc.AllocError.{AllocError}
use Rattle.pcap_core.specs.declared.errors.PcapError.{PcapError}
use Rattle.pcap_core.specs.declared.errors.PcapError.TheVariants.{IncompleteBuffer, OutOfMemory}
use Rattle.pcap_items.specs.declared.rest.Rest.{Rest}
use Rattle.pcap_items.specs.declared.rest.Rest.TheVariants.{Clean, Needs, Refused}
use Rattle.pcap_core.specs.Answer.{Verdict, lacks, faulty}
use Rattle.pcap_core.specs.Faults.{Shows}

-- IsRest IsSaid left rest: `left` is what follows the last whole item: nothing, a truncated item, or bytes with a fault.
abbrev pub IsRest : {V : Type 0} → (List ℕ → Verdict V → Type 0) → List ℕ → Rest → Type 0
IsRest IsSaid left Clean = left ≡ []
IsRest IsSaid left (Needs n) = IsSaid left (lacks n) × (0 < length left)
IsRest IsSaid left (Refused error) = Shows (λ fault. IsSaid left (faulty fault)) error

-- rest_after gives the rest that an error reports.
abbrev pub rest_after : PcapError → Rest
rest_after (IncompleteBuffer n) = Needs n
rest_after error = Refused error

-- rest_or_memory_of gives the rest that an error reports, or out of memory, which is no rest.
abbrev pub rest_or_memory_of : PcapError → Result Rest AllocError
rest_or_memory_of (IncompleteBuffer n) = Ok (Needs n)
rest_or_memory_of (OutOfMemory e) = Err e
rest_or_memory_of error = Ok (Refused error)
