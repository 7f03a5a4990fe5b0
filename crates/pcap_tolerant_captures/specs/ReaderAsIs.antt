-- The observable state of a lenient reader of blocks.
use Rattle.std.specs.Prelude.{◌≡◌, ℕ, List, Bool, Option, Some, Result, Ok}
use Rattle.pcap_core.specs.declared.errors.PcapError.{PcapError}
use Rattle.pcap_items.specs.Held.{held_bytes}
use Rattle.pcap_ng.specs.Lent.{body_in}
use Rattle.pcap_tolerant_captures.specs.declared.parser.PcapNgParserAsIs.{PcapNgParserAsIs}
use Rattle.pcap_tolerant_captures.specs.declared.reader.LentAsIs.{LentAsIs}
use Rattle.pcap_tolerant_captures.specs.declared.reader.PcapNgReaderAsIs.{PcapNgReaderAsIs}
use Rattle.pcap_tolerant_captures.specs.Blocks.{Item}
use Rattle.pcap_tolerant_captures.specs.HeldAsIs.{state_in, held_item}
use Rattle.pcap_tolerant_captures.specs.State.{State}

-- The section and interfaces in force stay the same, unless a block came.
abbrev pub StaysUnlessGiven : {X : Type 0} → State → State → Option (Result X PcapError) → Type 0
StaysUnlessGiven old new (Some (Ok x)) = Unit {0}
StaysUnlessGiven old new _ = new ≡ old

-- The parser behind the blocks so far.
abbrev pub parser_of : {T : Type 0} → PcapNgReaderAsIs T → Option PcapNgParserAsIs
parser_of reader = reader.parser

-- The section and interfaces in force.
abbrev pub state_of : {T : Type 0} → PcapNgReaderAsIs T → State
state_of reader = state_in reader.parser

-- The stream that a reader wraps.
abbrev pub stream_of : {T : Type 0} → PcapNgReaderAsIs T → T
stream_of reader = reader.inner

-- A read of the wrapped stream failed.
abbrev pub has_failed : {T : Type 0} → PcapNgReaderAsIs T → Bool
has_failed reader = reader.has_failed

-- The reader has returned an error.
abbrev pub is_done : {T : Type 0} → PcapNgReaderAsIs T → Bool
is_done reader = reader.is_done

-- The text that a reader lends: all bytes of the block that it holds.
abbrev pub text_of : {T : Type 0} → PcapNgReaderAsIs T → List ℕ
text_of reader = held_bytes reader.held

-- The body that a reader lends: the body of the block that it holds.
abbrev pub body_of : {T : Type 0} → PcapNgReaderAsIs T → List ℕ
body_of reader = body_in (text_of reader)

-- The block with this header and the body that a reader lends, its flaws, and the state in force after it.
abbrev pub lent_item : {T : Type 0} → PcapNgReaderAsIs T → LentAsIs → Item
lent_item reader lent = held_item (state_of reader) (text_of reader) lent
