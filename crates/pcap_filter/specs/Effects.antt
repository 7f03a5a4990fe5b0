-- The effect of each instruction on the machine (McCanne and Jacobson, 'The BSD Packet Filter', section 3.3).
use Rattle.std.specs.Prelude.{◌+◌, ◌-◌, ◌*◌, ◌/◌, ◌%◌, ◌^◌, ◌==◌, ◌||◌, ℕ, List, length, drop, replicate, slice_index, slice_set, Bool, if◌then◌else◌, Option, Some, None, nat_lt, nat_le, bit_and, bit_or, bit_xor, not}
use Rattle.byteorder.specs.Endian.{big_number}
use Rattle.pcap_filter.specs.declared.operation.Operation.{Operation}
use Rattle.pcap_filter.specs.declared.operation.Operation.TheVariants as op
use Rattle.pcap_filter.specs.declared.program.Step.{Step}

-- A machine has two registers and the cells of its memory.
pub record Machine : Type 0 where
  pub accumulator : ℕ
  pub index : ℕ
  pub cells : List ℕ

-- The machine before a program runs: everything is 0.
abbrev pub start : Machine
start = record { accumulator = 0; index = 0; cells = replicate 16 0 }

-- The effect of an instruction is the next machine and the number of instructions to skip, or the end with a result.
pub data Effect : Type 0 where
  Goes : (machine : Machine) (over : ℕ) → Effect
  Ends : (value : ℕ) → Effect

-- The big-endian number of `width` bytes at a place of the packet, if all its bytes are in the packet.
abbrev pub read : ℕ → List ℕ → ℕ → Option ℕ
read width packet place = if nat_le (place + width) (length packet) then Some (big_number width (drop place packet)) else None

-- Sums, differences and products modulo 2^32.
abbrev pub plus : ℕ → ℕ → ℕ
plus a b = (a + b) % 2 ^ 32

abbrev pub minus : ℕ → ℕ → ℕ
minus a b = (a + (2 ^ 32 - b)) % 2 ^ 32

abbrev pub times : ℕ → ℕ → ℕ
times a b = (a * b) % 2 ^ 32

-- A number with its bits shifted, of which the low 32 bits are kept.
abbrev pub shifted_left : ℕ → ℕ → ℕ
shifted_left a by = if nat_lt by 32 then (a * 2 ^ by) % 2 ^ 32 else 0

abbrev pub shifted_right : ℕ → ℕ → ℕ
shifted_right a by = if nat_lt by 32 then a / 2 ^ by else 0

-- The two numbers have a bit in common.
abbrev pub shares_bit : ℕ → ℕ → Bool
shares_bit a b = not (bit_and a b == 0)

-- A number goes into the accumulator.
abbrev pub sets : ℕ → Machine → Effect
sets value machine = Goes (record machine { accumulator = value }) 0

-- A number goes into the index register.
abbrev pub indexes : ℕ → Machine → Effect
indexes value machine = Goes (record machine { index = value }) 0

-- A number goes into a memory cell.
abbrev pub stores : ℕ → ℕ → Machine → Effect
stores cell value machine = Goes (record machine { cells = slice_set machine.cells cell value }) 0

-- The number that was read goes into the accumulator; if there is none, the packet is rejected.
abbrev pub loads : Option ℕ → Machine → Effect
loads (Some value) machine = sets value machine
loads None machine = Ends 0

-- Four times the low half of the byte that was read goes into the index register; if there is none, the packet is rejected.
abbrev pub indexes_header : Option ℕ → Machine → Effect
indexes_header (Some value) machine = indexes (4 * bit_and value 15) machine
indexes_header None machine = Ends 0

-- The result of a division by the index register goes into the accumulator; if that register is 0, the packet is rejected.
abbrev pub divides : ℕ → Machine → Effect
divides value machine = if machine.index == 0 then Ends 0 else sets value machine

-- A test skips `jt` instructions if it holds, and `jf` otherwise.
abbrev pub branches : Bool → Step → Machine → Effect
branches holds step machine = Goes machine (if holds then step.jt else step.jf)

-- The table of what each operation does, for a packet of these bytes and this original length.
abbrev pub acts : Operation → Step → List ℕ → ℕ → Machine → Effect
acts op.LoadWord step packet original machine = loads (read 4 packet step.k) machine
acts op.LoadHalf step packet original machine = loads (read 2 packet step.k) machine
acts op.LoadByte step packet original machine = loads (read 1 packet step.k) machine
acts op.LoadWordBehind step packet original machine = loads (read 4 packet (machine.index + step.k)) machine
acts op.LoadHalfBehind step packet original machine = loads (read 2 packet (machine.index + step.k)) machine
acts op.LoadByteBehind step packet original machine = loads (read 1 packet (machine.index + step.k)) machine
acts op.LoadLength step packet original machine = sets original machine
acts op.LoadConstant step packet original machine = sets step.k machine
acts op.LoadCell step packet original machine = sets (slice_index machine.cells step.k) machine
acts op.LoadIndexConstant step packet original machine = indexes step.k machine
acts op.LoadIndexLength step packet original machine = indexes original machine
acts op.LoadIndexCell step packet original machine = indexes (slice_index machine.cells step.k) machine
acts op.LoadIndexHeaderLength step packet original machine = indexes_header (read 1 packet step.k) machine
acts op.StoreCell step packet original machine = stores step.k machine.accumulator machine
acts op.StoreIndexCell step packet original machine = stores step.k machine.index machine
acts op.AddConstant step packet original machine = sets (plus machine.accumulator step.k) machine
acts op.AddIndex step packet original machine = sets (plus machine.accumulator machine.index) machine
acts op.SubtractConstant step packet original machine = sets (minus machine.accumulator step.k) machine
acts op.SubtractIndex step packet original machine = sets (minus machine.accumulator machine.index) machine
acts op.MultiplyConstant step packet original machine = sets (times machine.accumulator step.k) machine
acts op.MultiplyIndex step packet original machine = sets (times machine.accumulator machine.index) machine
acts op.DivideConstant step packet original machine = sets (machine.accumulator / step.k) machine
acts op.DivideIndex step packet original machine = divides (machine.accumulator / machine.index) machine
acts op.RemainderConstant step packet original machine = sets (machine.accumulator % step.k) machine
acts op.RemainderIndex step packet original machine = divides (machine.accumulator % machine.index) machine
acts op.AndConstant step packet original machine = sets (bit_and machine.accumulator step.k) machine
acts op.AndIndex step packet original machine = sets (bit_and machine.accumulator machine.index) machine
acts op.OrConstant step packet original machine = sets (bit_or machine.accumulator step.k) machine
acts op.OrIndex step packet original machine = sets (bit_or machine.accumulator machine.index) machine
acts op.XorConstant step packet original machine = sets (bit_xor machine.accumulator step.k) machine
acts op.XorIndex step packet original machine = sets (bit_xor machine.accumulator machine.index) machine
acts op.ShiftLeftConstant step packet original machine = sets (shifted_left machine.accumulator step.k) machine
acts op.ShiftLeftIndex step packet original machine = sets (shifted_left machine.accumulator machine.index) machine
acts op.ShiftRightConstant step packet original machine = sets (shifted_right machine.accumulator step.k) machine
acts op.ShiftRightIndex step packet original machine = sets (shifted_right machine.accumulator machine.index) machine
acts op.Negate step packet original machine = sets (minus 0 machine.accumulator) machine
acts op.Jump step packet original machine = Goes machine step.k
acts op.JumpEqualConstant step packet original machine = branches (machine.accumulator == step.k) step machine
acts op.JumpEqualIndex step packet original machine = branches (machine.accumulator == machine.index) step machine
acts op.JumpAboveConstant step packet original machine = branches (nat_lt step.k machine.accumulator) step machine
acts op.JumpAboveIndex step packet original machine = branches (nat_lt machine.index machine.accumulator) step machine
acts op.JumpFromConstant step packet original machine = branches (nat_le step.k machine.accumulator) step machine
acts op.JumpFromIndex step packet original machine = branches (nat_le machine.index machine.accumulator) step machine
acts op.JumpAnyBitConstant step packet original machine = branches (shares_bit machine.accumulator step.k) step machine
acts op.JumpAnyBitIndex step packet original machine = branches (shares_bit machine.accumulator machine.index) step machine
acts op.ReturnConstant step packet original machine = Ends step.k
acts op.ReturnAccumulator step packet original machine = Ends machine.accumulator
acts op.CopyToIndex step packet original machine = indexes machine.accumulator machine
acts op.CopyToAccumulator step packet original machine = sets machine.index machine

-- The effect of an instruction.
abbrev pub effect : Step → List ℕ → ℕ → Machine → Effect
effect step packet original machine = acts step.operation step packet original machine
