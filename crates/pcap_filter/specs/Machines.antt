-- The machine of the specification, as the code keeps it.
use Rattle.std.specs.Prelude.{◌≡◌, ◌*◌, ℕ, List, Option, Some, None, bit_and}
use Rattle.pcap_filter.specs.declared.machine.Move.{Move}
use Rattle.pcap_filter.specs.declared.machine.Move.TheVariants.{On, End}
use Rattle.pcap_filter.specs.declared.machine.Registers.{Registers}
use Rattle.pcap_filter.specs.declared.machine.Width.{Width}
use Rattle.pcap_filter.specs.declared.machine.Width.TheVariants.{Word, Half, Byte}
use Rattle.pcap_filter.specs.Effects.{Machine, Effect, Goes, Ends}

-- The number of bytes of a number of this width.
abbrev pub length_of : Width → ℕ
length_of Word = 4
length_of Half = 2
length_of Byte = 1

-- The machine that has these registers and these cells.
abbrev pub machine_of : Registers → List ℕ → Machine
machine_of registers cells = record { accumulator = registers.accumulator; index = registers.index; cells = cells }

-- The effect that a move means, if the machine has these registers and cells after it.
abbrev pub effect_of : Move → Registers → List ℕ → Effect
effect_of (On over) registers cells = Goes (machine_of registers cells) over
effect_of (End value) registers cells = Ends value

-- Loads: the accumulator becomes this number, or the packet is rejected if there is none.
abbrev pub Loads : Option ℕ → Registers → Registers → Move → Type 0
Loads (Some value) old new move = (new ≡ record old { accumulator = value }) × (move ≡ On 0)
Loads None old new move = move ≡ End 0

-- IndexesHeader: the index register becomes four times the low half of this number, or the packet is rejected if there is none.
abbrev pub IndexesHeader : Option ℕ → Registers → Registers → Move → Type 0
IndexesHeader (Some value) old new move = (new ≡ record old { index = 4 * bit_and value 15 }) × (move ≡ On 0)
IndexesHeader None old new move = move ≡ End 0
