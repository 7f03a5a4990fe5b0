-- Packets of a damaged capture that follow each other by their stored lengths, whatever their times.
use Rattle.std.specs.Prelude.{◌≡◌, ◌⊎◌, ℕ, List, Option, None, Some}
use Rattle.pcap_classic.specs.declared.pcap.header.PcapHeader.{PcapHeader}
use Rattle.pcap_damaged.specs.Plausible.{FirstBefore, GoesOn, IsNotZero}
use Rattle.pcap_tolerant.specs.AsIs.{AsIs}
use Rattle.pcap_tolerant.specs.Resync.{PacketsResync, Row}
use Rattle.pcap_tolerant.specs.Run.{as_is_under}

-- One of the packet's numbers is not 0.
abbrev pub HasNumbers : AsIs → Type 0
HasNumbers packet = IsNotZero packet.head

-- So many packets follow each other from the front by their stored lengths, or fewer, at least one, to the end. They may break rules.
abbrev pub FollowByLength : PcapHeader → ℕ → List ℕ → Type 0
FollowByLength header = Row (as_is_under 0 header) HasNumbers tt

-- The first place before `bound` from which packets go on behind a packet at this time. Without one, the first place in `s` of three packets
-- that break no rule and have data, or of fewer up to the end.
abbrev pub FirstPackets : PcapHeader → ℕ → ℕ → List ℕ → Option ℕ → Type 0
FirstPackets header time bound s found = ((place : ℕ) × (found ≡ Some place) × FirstBefore (GoesOn header time) bound s (Some place))
    ⊎ (FirstBefore (GoesOn header time) bound s None × PacketsResync header 3 s found)
