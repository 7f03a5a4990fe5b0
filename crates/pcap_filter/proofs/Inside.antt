-- A step leads to one of the steps behind it.
use Rattle.std.proofs.Common.{◌≡◌, ◌<◌, ◌==◌, ◌+◌, ℕ, List, Option, Some, None, Bool, true, false, subst, refl, sym, if◌then◌else◌, arith}
use Rattle.pcap_filter.specs.declared.operation.Operation.{Operation}
use Rattle.pcap_filter.specs.declared.operation.Operation.TheVariants as op
use Rattle.pcap_filter.specs.declared.program.Step.{Step}
use Rattle.pcap_filter.specs.Codes.{kind_of}
use Rattle.pcap_filter.specs.Effects.{Machine, Effect, Goes, Ends, acts, branches, divides, effect, indexes_header, loads, read}
use Rattle.pcap_filter.specs.Programs.{IsFine, StaysInside}

-- PassesBelow: the effect skips fewer than `behind` steps, or ends the program.
abbrev pub PassesBelow : Effect → ℕ → Type 0
PassesBelow (Goes machine over) behind = over < behind
PassesBelow (Ends value) behind = Unit {0}

loads_inside : (value : Option ℕ) (machine : Machine) (behind : ℕ) → 0 < behind → PassesBelow (loads value machine) behind
loads_inside (Some value) machine behind some = some
loads_inside None machine behind some = tt

header_inside : (value : Option ℕ) (machine : Machine) (behind : ℕ) → 0 < behind → PassesBelow (indexes_header value machine) behind
header_inside (Some value) machine behind some = some
header_inside None machine behind some = tt

divides_inside : (zero : Bool) (value : ℕ) (machine : Machine) (behind : ℕ) → 0 < behind →
    PassesBelow (if zero then Ends 0 else Goes (record machine { accumulator = value }) 0) behind
divides_inside true value machine behind some = tt
divides_inside false value machine behind some = some

branch_inside : (holds : Bool) (jt jf behind : ℕ) → (jt < behind) × (jf < behind) → (if holds then jt else jf) < behind
branch_inside true jt jf behind inside = inside.0
branch_inside false jt jf behind inside = inside.1

pub acts_inside : (operation : Operation) (step : Step) (packet : List ℕ) (original : ℕ) (machine : Machine) (behind : ℕ) →
    StaysInside (kind_of operation) step behind → PassesBelow (acts operation step packet original machine) behind
acts_inside op.LoadWord step packet original machine behind inside = loads_inside (read 4 packet step.k) machine behind inside
acts_inside op.LoadHalf step packet original machine behind inside = loads_inside (read 2 packet step.k) machine behind inside
acts_inside op.LoadByte step packet original machine behind inside = loads_inside (read 1 packet step.k) machine behind inside
acts_inside op.LoadWordBehind step packet original machine behind inside = loads_inside (read 4 packet (machine.index + step.k)) machine behind inside
acts_inside op.LoadHalfBehind step packet original machine behind inside = loads_inside (read 2 packet (machine.index + step.k)) machine behind inside
acts_inside op.LoadByteBehind step packet original machine behind inside = loads_inside (read 1 packet (machine.index + step.k)) machine behind inside
acts_inside op.LoadIndexHeaderLength step packet original machine behind inside = header_inside (read 1 packet step.k) machine behind inside
acts_inside op.DivideIndex step packet original machine behind inside = divides_inside (machine.index == 0) _ machine behind inside
acts_inside op.RemainderIndex step packet original machine behind inside = divides_inside (machine.index == 0) _ machine behind inside
acts_inside op.JumpEqualConstant step packet original machine behind inside = branch_inside _ step.jt step.jf behind inside
acts_inside op.JumpEqualIndex step packet original machine behind inside = branch_inside _ step.jt step.jf behind inside
acts_inside op.JumpAboveConstant step packet original machine behind inside = branch_inside _ step.jt step.jf behind inside
acts_inside op.JumpAboveIndex step packet original machine behind inside = branch_inside _ step.jt step.jf behind inside
acts_inside op.JumpFromConstant step packet original machine behind inside = branch_inside _ step.jt step.jf behind inside
acts_inside op.JumpFromIndex step packet original machine behind inside = branch_inside _ step.jt step.jf behind inside
acts_inside op.JumpAnyBitConstant step packet original machine behind inside = branch_inside _ step.jt step.jf behind inside
acts_inside op.JumpAnyBitIndex step packet original machine behind inside = branch_inside _ step.jt step.jf behind inside
acts_inside op.ReturnConstant step packet original machine behind inside = tt
acts_inside op.ReturnAccumulator step packet original machine behind inside = tt
acts_inside _ step packet original machine behind inside = inside
