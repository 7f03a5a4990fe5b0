-- The first block of a capture, which is a section header ('Section Header Block').
use Rattle.std.specs.Prelude.{◌⊎◌, ℕ, List, [], ⊤, Option, Result, Ok, Err}
use Rattle.pcap_core.specs.declared.errors.PcapError.{PcapError}
use Rattle.pcap_core.specs.Answer.{Verdict, Says, whole, faulty, Refuses}
use Rattle.pcap_core.specs.Errors.{IsIo, IsMemory}
use Rattle.pcap_core.specs.Faults.{Shows}
use Rattle.pcap_items.specs.Reading.{IsFaultOf}
use Rattle.pcap_ng.specs.declared.pcapng.state.InForce.{InForce}
use Rattle.pcap_ng.specs.Frames.{Framed, FrameLacks, FrameFault}
use Rattle.pcap_ng.specs.State.{State, opening, order_at, state_in}
use Rattle.pcap_ng.specs.Blocks.{BlockText, BodyFault}

-- The verdict of bytes as the first block, which is a section header and leads to a state.
abbrev pub OpeningSays : List ℕ → Verdict State → Type 0
OpeningSays s = Says (λ q rest. (block : Framed) × BlockText opening (record { block = block; after = q }) s rest)
    (FrameLacks (order_at opening) s) (λ fault. FrameFault (order_at opening) s fault ⊎ BodyFault opening s fault)

-- The first block in these bytes leads to this state, or the bytes are refused.
abbrev pub OpensHeld : List ℕ → Result InForce PcapError → Type 0
OpensHeld s (Ok in_force) = OpeningSays s (whole (state_in in_force) [])
OpensHeld s (Err e) = Refuses ⊤ (λ n. ⊥) (λ fault. OpeningSays s (faulty fault)) e

-- A reader finds no first block because a read failed, the stream ended early, memory ran out, or the bytes have a fault.
abbrev pub RefusesOpening : Option (List ℕ) → PcapError → Type 0
RefusesOpening known e = IsIo e ⊎ IsMemory e ⊎ Shows (IsFaultOf OpeningSays known) e
