-- The codes of the machine's operations (McCanne and Jacobson, 'The BSD Packet Filter', section 3.3).
use Rattle.std.specs.Prelude.{ℕ}
use Rattle.pcap_filter.specs.declared.operation.Operation.{Operation}
use Rattle.pcap_filter.specs.declared.operation.Operation.TheVariants as op
use Rattle.pcap_filter.specs.declared.operation.Kind.{Kind}
use Rattle.pcap_filter.specs.declared.operation.Kind.TheVariants.{Plain, Cell, Divisor, Shift, Jump, Branch, Return}

-- The table of the codes of operations.
abbrev pub code_of : Operation → ℕ
code_of op.LoadWord = 0x20
code_of op.LoadHalf = 0x28
code_of op.LoadByte = 0x30
code_of op.LoadWordBehind = 0x40
code_of op.LoadHalfBehind = 0x48
code_of op.LoadByteBehind = 0x50
code_of op.LoadLength = 0x80
code_of op.LoadConstant = 0x00
code_of op.LoadCell = 0x60
code_of op.LoadIndexConstant = 0x01
code_of op.LoadIndexLength = 0x81
code_of op.LoadIndexCell = 0x61
code_of op.LoadIndexHeaderLength = 0xb1
code_of op.StoreCell = 0x02
code_of op.StoreIndexCell = 0x03
code_of op.AddConstant = 0x04
code_of op.AddIndex = 0x0c
code_of op.SubtractConstant = 0x14
code_of op.SubtractIndex = 0x1c
code_of op.MultiplyConstant = 0x24
code_of op.MultiplyIndex = 0x2c
code_of op.DivideConstant = 0x34
code_of op.DivideIndex = 0x3c
code_of op.RemainderConstant = 0x94
code_of op.RemainderIndex = 0x9c
code_of op.AndConstant = 0x54
code_of op.AndIndex = 0x5c
code_of op.OrConstant = 0x44
code_of op.OrIndex = 0x4c
code_of op.XorConstant = 0xa4
code_of op.XorIndex = 0xac
code_of op.ShiftLeftConstant = 0x64
code_of op.ShiftLeftIndex = 0x6c
code_of op.ShiftRightConstant = 0x74
code_of op.ShiftRightIndex = 0x7c
code_of op.Negate = 0x84
code_of op.Jump = 0x05
code_of op.JumpEqualConstant = 0x15
code_of op.JumpEqualIndex = 0x1d
code_of op.JumpAboveConstant = 0x25
code_of op.JumpAboveIndex = 0x2d
code_of op.JumpFromConstant = 0x35
code_of op.JumpFromIndex = 0x3d
code_of op.JumpAnyBitConstant = 0x45
code_of op.JumpAnyBitIndex = 0x4d
code_of op.ReturnConstant = 0x06
code_of op.ReturnAccumulator = 0x16
code_of op.CopyToIndex = 0x07
code_of op.CopyToAccumulator = 0x87

-- The kind of each operation: the condition on its number, and where it leads.
abbrev pub kind_of : Operation → Kind
kind_of op.LoadCell = Cell
kind_of op.LoadIndexCell = Cell
kind_of op.StoreCell = Cell
kind_of op.StoreIndexCell = Cell
kind_of op.DivideConstant = Divisor
kind_of op.RemainderConstant = Divisor
kind_of op.ShiftLeftConstant = Shift
kind_of op.ShiftRightConstant = Shift
kind_of op.Jump = Jump
kind_of op.JumpEqualConstant = Branch
kind_of op.JumpEqualIndex = Branch
kind_of op.JumpAboveConstant = Branch
kind_of op.JumpAboveIndex = Branch
kind_of op.JumpFromConstant = Branch
kind_of op.JumpFromIndex = Branch
kind_of op.JumpAnyBitConstant = Branch
kind_of op.JumpAnyBitIndex = Branch
kind_of op.ReturnConstant = Return
kind_of op.ReturnAccumulator = Return
kind_of _ = Plain
