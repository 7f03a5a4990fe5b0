-- The section and interfaces in force in a PcapNg reader, the bytes that it lends, and how a reader is made.
use Rattle.std.specs.Prelude.{◌≡◌, ℕ, List, map, Bool, false, Option, Some, Result, Ok, Err}
use Rattle.pcap_core.specs.declared.errors.PcapError.{PcapError}
use Rattle.pcap_items.specs.Held.{held_bytes}
use Rattle.pcap_blocks.specs.SectionHeader.{Section, section_of}
use Rattle.pcap_blocks.specs.InterfaceDescription.{Interface, interface_of}
use Rattle.pcap_ng.specs.declared.pcapng.reader.PcapNgReader.{PcapNgReader}
use Rattle.pcap_ng.specs.declared.pcapng.block_header.BlockHeader.{BlockHeader}
use Rattle.pcap_ng.specs.Blocks.{Item}
use Rattle.pcap_items.specs.Lent.{TakesText}
use Rattle.pcap_ng.specs.Lent.{body_in, held_item}
use Rattle.pcap_ng.specs.State.{State, within}
use Rattle.pcap_ng.specs.Opening.{OpeningSays, RefusesOpening}

-- The section in force in a reader.
abbrev pub section_in_force : {T : Type 0} → PcapNgReader T → Section
section_in_force reader = section_of reader.in_force.section

-- The interfaces so far of the section in force in a reader.
abbrev pub interfaces_in_force : {T : Type 0} → PcapNgReader T → List Interface
interfaces_in_force reader = map interface_of reader.in_force.interfaces.items

-- The state of a reader is the section in force and its interfaces.
abbrev pub state_of : {T : Type 0} → PcapNgReader T → State
state_of reader = within (section_in_force reader) (interfaces_in_force reader)

-- The stream that a reader wraps.
abbrev pub stream_of : {T : Type 0} → PcapNgReader T → T
stream_of reader = reader.inner

-- A read of the wrapped stream failed.
abbrev pub has_failed : {T : Type 0} → PcapNgReader T → Bool
has_failed reader = reader.has_failed

-- The reader has returned an error.
abbrev pub is_done : {T : Type 0} → PcapNgReader T → Bool
is_done reader = reader.is_done

-- The text that a reader lends is all bytes of the block that it holds.
abbrev pub text_of : {T : Type 0} → PcapNgReader T → List ℕ
text_of reader = held_bytes reader.held

-- The body that a reader lends is that of the block that it holds.
abbrev pub body_of : {T : Type 0} → PcapNgReader T → List ℕ
body_of reader = body_in (text_of reader)

-- The item of the block with this header and the body that the reader lends, with the reader's state after it.
abbrev pub lent_item : {T : Type 0} → PcapNgReader T → BlockHeader → Item
lent_item reader header = held_item (state_of reader) (text_of reader) header

-- A call that makes a reader took exactly the first block's text, which the reader lends, and nothing failed; or the call returns
-- an error.
abbrev pub OpensReader : {T : Type 0} → (T → Option (List ℕ)) → T → Result (PcapNgReader T) PcapError → Type 0
OpensReader remaining stream (Ok reader) =
    (is_done reader ≡ false) × (has_failed reader ≡ false)
    × TakesText OpeningSays (remaining stream) (remaining (stream_of reader)) (text_of reader) (state_of reader)
OpensReader remaining stream (Err e) = RefusesOpening (remaining stream) e

-- The state stays unchanged unless the reader returned a block.
abbrev pub StaysUnlessGiven : {X : Type 0} → State → State → Option (Result X PcapError) → Type 0
StaysUnlessGiven old new (Some (Ok x)) = Unit {0}
StaysUnlessGiven old new _ = new ≡ old
