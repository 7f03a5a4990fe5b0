-- Blocks whose bodies are well-formed.
use Rattle.std.specs.Prelude.{◌⊎◌, ℕ, List, Result, Ok, Err}
use Rattle.pcap_core.specs.declared.errors.PcapError.{PcapError}
use Rattle.pcap_core.specs.Answer.{Verdict, whole, lacks, faulty, Says, Refuses}
use Rattle.pcap_core.specs.Faults.{Fault}
use Rattle.pcap_items.specs.Format.{Format}
use Rattle.pcap_blocks.specs.ParsedBlock.{Body}
use Rattle.pcap_ng.specs.Blocks.{Item, block_format}
use Rattle.pcap_ng.specs.Bodies.{GrowsInBody, SaysOfBody}
use Rattle.pcap_ng.specs.Frames.{Framed}
use Rattle.pcap_ng.specs.State.{State}

-- The body of a block is well-formed: it has a value.
abbrev pub HasBody : Framed → Type 0
HasBody block = (body : Body) × (rest : List ℕ) × SaysOfBody block (whole body rest)

-- MalformedBody q s fault: s begins with a block whose body has this fault.
pub record MalformedBody (q : State) (s : List ℕ) (fault : Fault) : Type 0 where
  pub item : Item
  pub rest : List ℕ
  pub text : block_format.says q s (whole item rest)
  pub body : SaysOfBody item.block (faulty fault)

-- The verdict of bytes as a block with a well-formed body.
abbrev pub SoundSays : State → List ℕ → Verdict Item → Type 0
SoundSays q s = Says
    (λ item rest. block_format.says q s (whole item rest) × HasBody item.block)
    (λ n. block_format.says q s (lacks n))
    (λ fault. block_format.says q s (faulty fault) ⊎ MalformedBody q s fault)

-- The format of blocks with well-formed bodies.
abbrev pub sound_blocks : Format State Item
sound_blocks = record { says = SoundSays; goes = block_format.goes; head = block_format.head }

-- TellsBody block result: the block's body has a value, or the error is its fault, or there is no memory for the body.
abbrev pub TellsBody : Framed → Result (Unit {0}) PcapError → Type 0
TellsBody block (Ok done) = HasBody block
TellsBody block (Err e) = Refuses (GrowsInBody block) (λ n. ⊥) (λ fault. SaysOfBody block (faulty fault)) e
