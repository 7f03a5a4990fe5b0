-- The rules that a program must keep, and the steps that its instructions mean.
use Rattle.std.specs.Prelude.{◌≡◌, ◌≢◌, ◌<◌, ◌≤◌, ◌+◌, ◌++◌, ◌⊎◌, ℕ, List, [], ◌∷◌, length}
use Rattle.pcap_filter.specs.declared.errors.FilterError.{FilterError}
use Rattle.pcap_filter.specs.declared.errors.FilterError.TheVariants.{Broken, OutOfMemory}
use Rattle.pcap_filter.specs.declared.errors.Rule.{Rule}
use Rattle.pcap_filter.specs.declared.errors.Rule.TheVariants as rule
use Rattle.pcap_filter.specs.declared.operation.Kind.{Kind}
use Rattle.pcap_filter.specs.declared.operation.Kind.TheVariants.{Plain, Cell, Divisor, Shift, Jump, Branch, Return}
use Rattle.pcap_filter.specs.declared.operation.Operation.{Operation}
use Rattle.pcap_filter.specs.declared.program.Instruction.{Instruction}
use Rattle.pcap_filter.specs.declared.program.Step.{Step}
use Rattle.pcap_filter.specs.Codes.{code_of, kind_of}

-- HasNumber: an operation of this kind may have the number k.
abbrev pub HasNumber : Kind → ℕ → Type 0
HasNumber Cell k = k < 16
HasNumber Divisor k = 0 < k
HasNumber Shift k = k < 32
HasNumber _ k = Unit {0}

-- StaysInside: a step of this kind leads to one of the `behind` steps behind it, or to the end.
abbrev pub StaysInside : Kind → Step → ℕ → Type 0
StaysInside Return step behind = Unit {0}
StaysInside Jump step behind = step.k < behind
StaysInside Branch step behind = (step.jt < behind) × (step.jf < behind)
StaysInside _ step behind = 0 < behind

-- IsFine: the step keeps all rules if `behind` steps follow it.
abbrev pub IsFine : Step → ℕ → Type 0
IsFine step behind = HasNumber (kind_of step.operation) step.k × StaysInside (kind_of step.operation) step behind

-- BreaksNumber: the number of the operation breaks this rule.
abbrev pub BreaksNumber : Kind → ℕ → Rule → Type 0
BreaksNumber Cell k broken = (16 ≤ k) × (broken ≡ rule.CellOutOfRange)
BreaksNumber Divisor k broken = (k ≡ 0) × (broken ≡ rule.DivisionByZero)
BreaksNumber Shift k broken = (32 ≤ k) × (broken ≡ rule.ShiftOutOfRange)
BreaksNumber _ k broken = ⊥

-- LeadsOut: the step breaks this rule by where it leads.
abbrev pub LeadsOut : Kind → Step → ℕ → Rule → Type 0
LeadsOut Return step behind broken = ⊥
LeadsOut Jump step behind broken = (behind ≤ step.k) × (broken ≡ rule.JumpOutOfRange)
LeadsOut Branch step behind broken = ((behind ≤ step.jt) ⊎ (behind ≤ step.jf)) × (broken ≡ rule.JumpOutOfRange)
LeadsOut _ step behind broken = (behind ≡ 0) × (broken ≡ rule.ReturnMissing)

-- IsFlawed: this is the first rule that a step breaks if `behind` steps follow it.
abbrev pub IsFlawed : Step → ℕ → Rule → Type 0
IsFlawed step behind broken =
    BreaksNumber (kind_of step.operation) step.k broken
    ⊎ (HasNumber (kind_of step.operation) step.k × LeadsOut (kind_of step.operation) step behind broken)

-- IsStep: the step has the operation with the instruction's code, and the same other numbers.
pub record IsStep (instruction : Instruction) (step : Step) : Type 0 where
  pub code : code_of step.operation ≡ instruction.code
  pub jt : step.jt ≡ instruction.jt
  pub jf : step.jf ≡ instruction.jf
  pub k : step.k ≡ instruction.k

-- Means: an instruction with `behind` others behind it means this step, which keeps all rules.
abbrev pub Means : Instruction → ℕ → Step → Type 0
Means instruction behind step = IsStep instruction step × IsFine step behind

-- Breaks: this is the first rule that an instruction with `behind` others behind it breaks.
abbrev pub Breaks : Instruction → ℕ → Rule → Type 0
Breaks instruction behind broken =
    (((operation : Operation) → code_of operation ≢ instruction.code) × (broken ≡ rule.UnknownCode))
    ⊎ ((step : Step) × IsStep instruction step × IsFlawed step behind broken)

-- AllMean: these instructions, with `behind` others behind them, mean these steps.
abbrev pub AllMean : List Instruction → ℕ → List Step → Type 0
AllMean [] behind [] = Unit {0}
AllMean (instruction ∷ instructions) behind (step ∷ steps) = Means instruction (length instructions + behind) step × AllMean instructions behind steps
AllMean _ behind _ = ⊥

-- AllFine: all steps keep all rules.
abbrev pub AllFine : List Step → Type 0
AllFine [] = Unit {0}
AllFine (step ∷ steps) = IsFine step (length steps) × AllFine steps

-- IsProgram: the program has at least one step and at most 4096, and each step keeps all rules.
pub record IsProgram (steps : List Step) : Type 0 where
  pub some : 0 < length steps
  pub most : length steps ≤ 4096
  pub fine : AllFine steps

-- BreaksAt: the instruction at this place breaks this rule, and no instruction before it breaks a rule.
pub record BreaksAt (program : List Instruction) (place : ℕ) (broken : Rule) : Type 0 where
  pub before : List Instruction
  pub instruction : Instruction
  pub behind : List Instruction
  pub parts : program ≡ before ++ (instruction ∷ behind)
  pub place_is : place ≡ length before
  pub steps : List Step
  pub fine_before : AllMean before (length (instruction ∷ behind)) steps
  pub broken_here : Breaks instruction (length behind) broken

-- IsRefused gives the reasons why a program is refused.
abbrev pub IsRefused : List Instruction → FilterError → Type 0
IsRefused program (Broken place broken) =
    ((program ≡ []) × (place ≡ 0) × (broken ≡ rule.Empty))
    ⊎ ((4096 < length program) × (place ≡ 4096) × (broken ≡ rule.TooLong))
    ⊎ ((length program ≤ 4096) × BreaksAt program place broken)
IsRefused program (OutOfMemory e) = Unit {0}

-- IsTaken: the program is accepted, and it means these steps.
pub record IsTaken (program : List Instruction) (steps : List Step) : Type 0 where
  pub some : 0 < length program
  pub most : length program ≤ 4096
  pub mean : AllMean program 0 steps
