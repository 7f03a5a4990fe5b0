-- This file defines how packets and blocks that are read leniently are counted.
use Rattle.std.specs.Prelude.{◌+◌, ◌-◌, ◌^◌, ◌==◌, ℕ, List, length, Bool, not, min, if◌then◌else◌}
use Rattle.pcap_tolerant.specs.AsIs.{AsIs, breaks_one}
use Rattle.pcap_tolerant_blocks.specs.Flaws.{Said}
use Rattle.pcap_tolerant_captures.specs.Blocks.{Item}

-- A number as it is counted: the greatest number of 64 bits also represents all above it.
abbrev pub counted : ℕ → ℕ
counted n = min n (2 ^ 64 - 1)

-- One if the condition holds, and else zero.
abbrev pub one_if : Bool → ℕ
one_if holds = if holds then 1 else 0

-- has_flaw packet: the packet breaks a rule.
abbrev pub has_flaw : AsIs → Bool
has_flaw packet = breaks_one packet.flaws

-- The number of bytes of a packet with its header, as the header states it.
abbrev pub size_of : AsIs → ℕ
size_of packet = 16 + packet.head.included

-- are_some flaws: a body has flaws.
abbrev pub are_some : List Said → Bool
are_some flaws = not (length flaws == 0)

-- is_flawed item: the body of a block has flaws.
abbrev pub is_flawed : Item → Bool
is_flawed item = are_some item.led.flaws

-- The number of bytes of a block.
abbrev pub block_size : Item → ℕ
block_size item = item.block.initial_len
