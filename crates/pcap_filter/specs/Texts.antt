-- The text of programs, as `tcpdump -ddd` prints it.
use Rattle.std.specs.Prelude.{◌≡◌, ◌≢◌, ◌<◌, ◌+◌, ◌-◌, ◌^◌, ◌==◌, ℕ, min, List, [], ◌∷◌, length, Option, Some, None}
use Rattle.std.specs.List.{before_first, after_first}
use Rattle.std.specs.Str.Parse.{IsNumeral, digits_value, without_leading_plus}
use Rattle.pcap_filter.specs.declared.errors.TextError.{TextError}
use Rattle.pcap_filter.specs.declared.errors.TextError.TheVariants as text_error
use Rattle.pcap_filter.specs.declared.errors.TextRule.TheVariants.{NoCount, NoInstruction, OtherCount}
use Rattle.pcap_filter.specs.declared.program.Instruction.{Instruction}

-- The first line of a text, and the text behind it.
abbrev pub first_line : List ℕ → List ℕ
first_line text = before_first (λ b. b == 10) text

abbrev pub behind_line : List ℕ → List ℕ
behind_line text = after_first (λ b. b == 10) text

-- The first word of a line, and the text behind the space that follows it.
abbrev pub first_word : List ℕ → List ℕ
first_word line = before_first (λ b. b == 32) line

abbrev pub behind_word : List ℕ → List ℕ
behind_word line = after_first (λ b. b == 32) line

-- Reads: the word is this number in decimal, which has at most `bits` bits; a plus sign may precede it.
abbrev pub Reads : ℕ → List ℕ → ℕ → Type 0
Reads bits word n = (IsNumeral 10 (without_leading_plus word) × (digits_value 10 (without_leading_plus word) < 2 ^ bits)) × (n ≡ digits_value 10 (without_leading_plus word))

-- AreWords: the four words are the numbers of an instruction.
abbrev pub AreWords : List ℕ → List ℕ → List ℕ → List ℕ → Instruction → Type 0
AreWords code jt jf k instruction = Reads 16 code instruction.code × Reads 8 jt instruction.jt × Reads 8 jf instruction.jf × Reads 32 k instruction.k

-- ReadsWords: the result is the instruction of the four words, or nothing if they are not the numbers of one.
abbrev pub ReadsWords : Option Instruction → List ℕ → List ℕ → List ℕ → List ℕ → Type 0
ReadsWords None code jt jf k = (instruction : Instruction) → ¬ (AreWords code jt jf k instruction)
ReadsWords (Some instruction) code jt jf k = AreWords code jt jf k instruction

-- IsLine: the line is the four numbers of an instruction, separated by single spaces.
abbrev pub IsLine : List ℕ → Instruction → Type 0
IsLine line instruction =
    AreWords (first_word line) (first_word (behind_word line)) (first_word (behind_word (behind_word line))) (behind_word (behind_word (behind_word line))) instruction

-- ReadsLine: the result is the instruction of the line, or nothing if the line is not the four numbers of one.
abbrev pub ReadsLine : Option Instruction → List ℕ → Type 0
ReadsLine result line =
    ReadsWords result (first_word line) (first_word (behind_word line)) (first_word (behind_word (behind_word line))) (behind_word (behind_word (behind_word line)))

-- AreLines: the text begins with the lines of these instructions, and `rest` follows them.
abbrev pub AreLines : List ℕ → List Instruction → List ℕ → Type 0
AreLines text [] rest = text ≡ rest
AreLines text (instruction ∷ instructions) rest = (text ≢ []) × IsLine (first_line text) instruction × AreLines (behind_line text) instructions rest

-- IsText: the text is a program, so its first line is the number of instructions, and a line for each of them follows.
abbrev pub IsText : List ℕ → List Instruction → Type 0
IsText text program = Reads 32 (first_line text) (length program) × AreLines (behind_line text) program []

-- HasOtherLine: a line behind those of some instructions is not the line of an instruction. The text begins with line 2. A line
-- number that needs more than 64 bits is reported as the largest number of 64 bits.
pub record HasOtherLine (text : List ℕ) (line : ℕ) : Type 0 where
  pub before : List Instruction
  pub rest : List ℕ
  pub lines : AreLines text before rest
  pub some : rest ≢ []
  pub other : (instruction : Instruction) → ¬ (IsLine (first_line rest) instruction)
  pub number : line ≡ min (length before + 2) (2 ^ 64 - 1)

-- IsOtherLine gives the reasons why the lines behind the first one are refused.
abbrev pub IsOtherLine : List ℕ → TextError → Type 0
IsOtherLine text (text_error.Broken line NoInstruction) = HasOtherLine text line
IsOtherLine text (text_error.Broken line _) = ⊥
IsOtherLine text (text_error.OutOfMemory e) = Unit {0}

-- HasOtherCount: the number of instructions that follow is not the number in the first line.
pub record HasOtherCount (text : List ℕ) (line : ℕ) : Type 0 where
  pub count : ℕ
  pub program : List Instruction
  pub first : Reads 32 (first_line text) count
  pub lines : AreLines (behind_line text) program []
  pub differs : count ≢ length program
  pub number : line ≡ 1

-- IsRefusedText gives the reasons why a text is refused.
abbrev pub IsRefusedText : List ℕ → TextError → Type 0
IsRefusedText text (text_error.Broken line NoCount) = ((count : ℕ) → ¬ (Reads 32 (first_line text) count)) × (line ≡ 1)
IsRefusedText text (text_error.Broken line NoInstruction) = (count : ℕ) × Reads 32 (first_line text) count × HasOtherLine (behind_line text) line
IsRefusedText text (text_error.Broken line OtherCount) = HasOtherCount text line
IsRefusedText text (text_error.OutOfMemory e) = Unit {0}
