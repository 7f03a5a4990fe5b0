-- What the call returns that reads a block leniently.
use Rattle.std.specs.Prelude.{◌≡◌, ◌-◌, ◌^◌, ◌⊎◌, ⊤, ℕ, ℤ, pos, List, [], length, min, map, take, drop, Option, Some, None, Result, Ok, Err}
use Rattle.std.specs.Borrow.{Bor}
use Rattle.std.specs.Global.{Vec}
use Rattle.pcap_core.specs.declared.errors.PcapError.{PcapError}
use Rattle.pcap_core.specs.declared.rules.Rule.TheVariants.{SectionMagic}
use Rattle.pcap_core.specs.Answer.{Order, number_in, whole, lacks, faulty, Refuses}
use Rattle.pcap_core.specs.Faults.{Fault, Invalid, Io, Utf8, Own}
use Rattle.pcap_items.specs.Headed.{good, bad}
use Rattle.pcap_core.specs.Rules.{number_of}
use Rattle.pcap_blocks.specs.declared.block_type.BlockType.{BlockType}
use Rattle.pcap_blocks.specs.declared.block_type.BlockType.TheVariants as types
use Rattle.pcap_blocks.specs.BlockType.{type_number}
use Rattle.pcap_blocks.specs.EnhancedPacket.{Enhanced}
use Rattle.pcap_blocks.specs.InterfaceDescription.{Interface}
use Rattle.pcap_blocks.specs.ParsedBlock.{EnhancedBody}
use Rattle.pcap_blocks.specs.SectionHeader.{Section}
use Rattle.pcap_ng.specs.Frames.{Framed, FrameText}
use Rattle.pcap_ng.specs.State.{IsHeader}
use Rattle.pcap_tolerant_blocks.specs.declared.flaws.Flaw.{Flaw}
use Rattle.pcap_tolerant_blocks.specs.EnhancedAsIs.{EnhancedText}
use Rattle.pcap_tolerant_blocks.specs.Flaws.{Said, said_of}
use Rattle.pcap_tolerant_blocks.specs.InterfaceAsIs.{InterfaceText}
use Rattle.pcap_tolerant_blocks.specs.SectionAsIs.{SectionText, SectionGrows, NoSection}
use Rattle.pcap_tolerant_captures.specs.Blocks.{Item, AsIsSays}
use Rattle.pcap_tolerant_captures.specs.State.{State, opening, within, order_at, Led, Means}
use Rattle.pcapfile_values.specs.declared.blocks.PcapfileBlock.{PcapfileBlock}
use Rattle.pcapfile_values.specs.declared.blocks.PcapfileSection.{PcapfileSection}
use Rattle.pcapfile_values.specs.declared.bodies.PcapfileInterface.{PcapfileInterface}
use Rattle.pcapfile_values.specs.declared.bodies.PcapfileNgPacket.{PcapfileNgPacket}
use Rattle.pcapfile_values.specs.declared.shown.PcapfileBytes.{PcapfileBytes}
use Rattle.pcapfile_values.specs.Blocks.{ShowsSection}
use Rattle.pcapfile_values.specs.Bodies.{ShowsInterfaceOf, ShowsPacket}
use Rattle.pcapfile_values.specs.Refusals.{ShowsRule, TellsRefusalWhere}
use Rattle.pcapfile_c.specs.declared.blocks_as_is.FoundAsIs.{FoundAsIs}
use Rattle.pcapfile_c.specs.declared.blocks_as_is.PcapfileBlockAsIs.{PcapfileBlockAsIs}
use Rattle.pcapfile_c.specs.declared.blocks_as_is.PcapfileBlockFlaw.{PcapfileBlockFlaw}
use Rattle.pcapfile_c.specs.Readers.{BlockReader}

-- ---- the state

-- The struct shows the state of lenient reading: magic number 0 before the first block, or the section and its number of interfaces. That
-- counts malformed ones too, and is at most 2^32 - 1.
abbrev pub ShowsStanding : PcapfileSection → State → Type 0
ShowsStanding shown opening = shown.magic_number ≡ 0
ShowsStanding shown (within section interfaces) = ShowsSection shown section × (shown.interfaces ≡ min (length interfaces) (2 ^ 32 - 1))

-- ---- flaws

-- The status that reports a fault. The body of a block never has a fault of another format.
abbrev pub status_of : Fault → ℤ
status_of (Invalid rule) = pos 3
status_of Io = pos 2
status_of Utf8 = pos 4
status_of (Own n) = pos 3

-- The number of the rule that a fault names, or 0 if it names none.
abbrev pub rule_of : Fault → ℕ
rule_of (Invalid rule) = number_of rule
rule_of Io = 0
rule_of Utf8 = 0
rule_of (Own n) = 0

-- The code of an option, or 0 for none.
abbrev pub code_or_0 : Option ℕ → ℕ
code_or_0 None = 0
code_or_0 (Some code) = code

-- The struct that shows a flaw.
abbrev pub shown_flaw : Said → PcapfileBlockFlaw
shown_flaw said = record { status = status_of said.fault; rule = rule_of said.fault; code = code_or_0 said.code }

-- The first places show the flaws, as many as there are places, and all other places are unchanged.
abbrev pub ShowsFlaws : List Said → List PcapfileBlockFlaw → List PcapfileBlockFlaw → Type 0
ShowsFlaws flaws before after =
    let count = min (length flaws) (length before) in
    (take count after ≡ map shown_flaw (take count flaws)) × (drop count after ≡ drop count before)

-- ---- bodies

-- A flag and a struct show a value that may be missing: 1 and the value, or 0 and an empty struct.
abbrev pub ShowsIf : {V S : Type 0} → (V → S → Type 0) → (S → Type 0) → Option V → ℕ → S → Type 0
ShowsIf Shows IsNone (Some value) flag shown = (flag ≡ 1) × Shows value shown
ShowsIf Shows IsNone None flag shown = (flag ≡ 0) × IsNone shown

-- The struct shows no interface.
abbrev pub ShowsNoInterface : PcapfileInterface → Type 0
ShowsNoInterface shown = shown ≡ record { link = 0; snaplen = 0; ts_base = 0; ts_exponent = 0; ts_offset = pos 0 }

-- The struct shows no packet.
pub record ShowsNoPacket (shown : PcapfileNgPacket) : Type 0 where
  pub type_is : shown.type_ ≡ 0
  pub interface_is : shown.interface_id ≡ 0
  pub original_is : shown.orig_len ≡ 0
  pub timestamp_is : shown.timestamp ≡ 0
  pub bytes_are : shown.bytes.now ≡ []

-- The struct shows an enhanced packet.
abbrev pub ShowsEnhanced : Enhanced → PcapfileNgPacket → Type 0
ShowsEnhanced packet shown = ShowsPacket (EnhancedBody packet) shown

-- What lenient reading finds in the body of a block: its interface or packet, if it has one, and its flaws.
pub record Reading : Type 0 where
  pub interface : Option Interface
  pub packet : Option Enhanced
  pub flaws : List Said

-- A body of this type is read as this interface or packet, with these flaws. A body of another type is neither, and has the flaws of the
-- state change.
abbrev pub ReadsAs : BlockType → Order → List ℕ → List Said → Reading → Type 0
ReadsAs types.InterfaceDescription order body led x = (x.packet ≡ None) × (x.flaws ≡ led) × ((rest : List ℕ) × InterfaceText order x.interface x.flaws body rest)
ReadsAs types.EnhancedPacket order body led x = (x.interface ≡ None) × ((rest : List ℕ) × EnhancedText order x.packet x.flaws body rest)
ReadsAs _ order body led x = (x.interface ≡ None) × (x.packet ≡ None) × (x.flaws ≡ led)

-- The struct shows what was read of a body.
pub record ShowsReading (x : Reading) (shown : PcapfileBlockAsIs) : Type 0 where
  pub interface_is : ShowsIf ShowsInterfaceOf ShowsNoInterface x.interface shown.has_interface shown.interface
  pub packet_is : ShowsIf ShowsEnhanced ShowsNoPacket x.packet shown.has_packet shown.packet
  pub count : shown.flaws ≡ length x.flaws

-- A body of this type and byte order, with these flaws of the state change, is read so that the struct shows it, and has these flaws in
-- all.
pub record Stands (type : BlockType) (order : Order) (body : List ℕ) (led : List Said) (shown : PcapfileBlockAsIs) (flaws : List Said) : Type 0 where
  pub reading : Reading
  pub reads : ReadsAs type order body led reading
  pub shows : ShowsReading reading shown
  pub flaws_are : flaws ≡ reading.flaws

-- The struct shows this block and what was read of it, with its flaws.
pub record ShowsStandingBlock (item : Item) (shown : PcapfileBlockAsIs) (flaws : List Said) : Type 0 where
  pub type_is : shown.type_ ≡ type_number item.block.type_
  pub body_is : shown.body.now ≡ item.block.body
  pub stands : Stands item.block.type_ (number_in item.block.endianness) item.block.body item.led.flaws shown flaws

-- ---- when memory may run out

-- Lenient reading reads the body of a block of this type.
abbrev pub IsRead : BlockType → Type 0
IsRead types.SectionHeader = ⊤
IsRead types.InterfaceDescription = ⊤
IsRead types.EnhancedPacket = ⊤
IsRead _ = ⊥

-- A whole block needs memory only if its body is read. The body of a first block is read only if it is a section header.
abbrev pub CanGrow : State → Framed → Type 0
CanGrow opening b = IsHeader b.type_
CanGrow (within section interfaces) b = IsRead b.type_

-- The bytes begin with a whole block whose body is read. Only then does a call need memory.
pub record MayGrow (q : State) (s : List ℕ) : Type 0 where
  pub block : Framed
  pub rest : List ℕ
  pub frame : FrameText (order_at q) block s rest
  pub grows : CanGrow q block

-- ---- results

-- The flaws in a vector of the program.
abbrev pub said_in : Vec Flaw → List Said
said_in flaws = map said_of flaws.items

-- The struct has the type and the body of this block.
abbrev pub IsOf : PcapfileBlock → PcapfileBlockAsIs → Type 0
IsOf lent shown = (shown.type_ ≡ lent.type_) × (shown.body.now ≡ lent.body.now)

-- The result of reading a section header of this body leniently: the section and its flaws, or the reason why it names no byte order.
abbrev pub TellsSection : List ℕ → Result (PcapfileSection × Vec Flaw) PcapError → Type 0
TellsSection body (Ok x) = (section : Section) × (rest : List ℕ) × SectionText section (said_in x.1) body rest × ShowsSection x.0 section × (x.0.interfaces ≡ 0)
TellsSection body (Err e) = Refuses (SectionGrows body) (λ n. ⊥) (NoSection body) e

-- What is found in a block whose body isn't read, with these known flaws.
abbrev pub FindsNothing : PcapfileBlock → List Said → FoundAsIs → Type 0
FindsNothing lent flaws x = IsOf lent x.shown × ShowsReading (record { interface = None; packet = None; flaws = flaws }) x.shown × (said_in x.flaws ≡ flaws)

-- What lenient reading finds in the body of an interface.
abbrev pub FindsInterface : Order → PcapfileBlock → FoundAsIs → Type 0
FindsInterface order lent x =
    IsOf lent x.shown
    × (interface : Option Interface) × (rest : List ℕ) × InterfaceText order interface (said_in x.flaws) lent.body.now rest
    × ShowsReading (record { interface = interface; packet = None; flaws = said_in x.flaws }) x.shown

-- What lenient reading finds in the body of an enhanced packet.
abbrev pub FindsPacket : Order → PcapfileBlock → FoundAsIs → Type 0
FindsPacket order lent x =
    IsOf lent x.shown
    × (packet : Option Enhanced) × (rest : List ℕ) × EnhancedText order packet (said_in x.flaws) lent.body.now rest
    × ShowsReading (record { interface = None; packet = packet; flaws = said_in x.flaws }) x.shown

-- The result of reading a block: what was found in it and the state after it, or the reason why it is refused.
abbrev pub LeadsStanding : State → Framed → Result (FoundAsIs × PcapfileSection) PcapError → Type 0
LeadsStanding q b (Ok x) =
    (led : Led) × Means q b (good led) × ShowsStandingBlock (record { block = b; led = led }) x.0.shown (said_in x.0.flaws) × ShowsStanding x.1 led.after
LeadsStanding q b (Err e) = Refuses (CanGrow q b) (λ n. ⊥) (λ fault. Means q b (bad fault)) e

-- The result of reading the block at the front of bytes leniently, and the state after it.
abbrev pub NextStands : State → List ℕ → Result (Bor (List ℕ) × (FoundAsIs × PcapfileSection)) PcapError → Type 0
NextStands q s (Ok x) =
    (item : Item) × ShowsStandingBlock item x.1.0.shown (said_in x.1.0.flaws) × ShowsStanding x.1.1 item.led.after × AsIsSays q s (whole item x.0.now)
NextStands q s (Err e) = Refuses (MayGrow q s) (λ n. AsIsSays q s (lacks n)) (λ fault. AsIsSays q s (faulty fault)) e

-- A lenient reader of blocks sets a block and places for its flaws.
abbrev pub LenientReader : Type 0
LenientReader = BlockReader PcapfileBytes (PcapfileBlockAsIs × List PcapfileBlockFlaw)

-- Status 0: the left bytes begin with a block under this state. The structs show the block, its body and the state after it, the first
-- places show its flaws, the rest is left, and the error is unchanged. Another status: the block is refused, and nothing else changed.
abbrev pub TakesStanding : State → LenientReader → LenientReader → ℤ → Type 0
TakesStanding q old new status =
    ((status ≡ pos 0) × (new.error ≡ old.error)
    × (item : Item) × (flaws : List Said) × ShowsStandingBlock item new.value.0 flaws × ShowsFlaws flaws old.value.1 new.value.1
    × ShowsStanding new.section item.led.after × AsIsSays q old.left.bytes.now (whole item new.left.bytes.now))
    ⊎ ((new.section ≡ old.section) × (new.left ≡ old.left) × (new.value.0 ≡ old.value.0) × (new.value.1 ≡ old.value.1)
    × TellsRefusalWhere (MayGrow q old.left.bytes.now) (AsIsSays q old.left.bytes.now) new.error status)

-- The magic number names no byte order, and nothing but the error changed.
abbrev pub RefusesStanding : LenientReader → LenientReader → ℤ → Type 0
RefusesStanding old new status =
    (status ≡ pos 3) × ShowsRule SectionMagic new.error × (new.section ≡ old.section) × (new.left ≡ old.left) × (new.value.0 ≡ old.value.0)
    × (new.value.1 ≡ old.value.1)
