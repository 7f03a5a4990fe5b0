-- The held bytes of a block read leniently, and the state that reading it leads to.
use Rattle.std.specs.Prelude.{◌≡◌, ℕ, List, Option, None, Some, Result, Ok, Err}
use Rattle.pcap_core.specs.declared.errors.PcapError.{PcapError}
use Rattle.pcap_core.specs.Answer.{whole, lacks, faulty, Refuses}
use Rattle.pcap_ng.specs.Frames.{Framed}
use Rattle.pcap_ng.specs.Lent.{header_of, framed_around, body_in}
use Rattle.pcap_tolerant_captures.specs.declared.parser.PcapNgParserAsIs.{PcapNgParserAsIs}
use Rattle.pcap_tolerant_captures.specs.declared.reader.LentAsIs.{LentAsIs}
use Rattle.pcap_tolerant_captures.specs.Blocks.{Item, AsIsSays, MayGrow}
use Rattle.pcap_tolerant_captures.specs.State.{State, opening, led_to}
use Rattle.pcap_tolerant_captures.specs.State as parsed

-- The section and interfaces in force behind a parser, or the state before the first block.
abbrev pub state_in : Option PcapNgParserAsIs → State
state_in None = opening
state_in (Some parser) = parsed.state_of parser

-- The block with this header whose text is these bytes, with these flaws and the state in force after it.
abbrev pub held_item : State → List ℕ → LentAsIs → Item
held_item after s lent = record { block = framed_around lent.header (body_in s); led = led_to after lent.flaws.items }

-- The result of reading the block at the front of the bytes: it leads to the new state, or it is refused and the state stays the same.
abbrev pub LentTells : State → State → List ℕ → Result LentAsIs PcapError → Type 0
LentTells old new s (Ok lent) = (block : Framed) × (rest : List ℕ) × (lent.header ≡ header_of block) × AsIsSays old s (whole (record { block = block; led = led_to new lent.flaws.items }) rest)
LentTells old new s (Err e) = (new ≡ old) × Refuses (MayGrow old s) (λ n. AsIsSays old s (lacks n)) (λ fault. AsIsSays old s (faulty fault)) e

-- The section and interfaces in force stay the same, unless a block was taken.
abbrev pub StaysUnlessTaken : {X : Type 0} → State → State → Result (Option X) PcapError → Type 0
StaysUnlessTaken old new (Ok (Some x)) = Unit {0}
StaysUnlessTaken old new _ = new ≡ old
