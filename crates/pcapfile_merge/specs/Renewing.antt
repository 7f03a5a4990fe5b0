-- Obsolete packets as enhanced packets ('Packet Block', 'Enhanced Packet Block').
use Rattle.std.specs.Prelude.{◌≢◌, ◌⊎◌, ◌<◌, ◌-◌, ◌==◌, ◌&&◌, ◌++◌, not, nat_lt, if◌then◌else◌, ℕ, List, [], ◌∷◌, length, Bool, true}
use Rattle.std.specs.List.{filter}
use Rattle.pcap_blocks.specs.EnhancedPacket.{Enhanced}
use Rattle.pcap_blocks.specs.Packet.{PacketBody}
use Rattle.pcap_blocks.specs.ParsedBlock.{Body, EnhancedBody, OldPacketBody}
use Rattle.pcap_options.specs.Values.{Entry, Value, Integer, Unknown}

-- Only enhanced packets give the codes 4 to 8 a meaning.
abbrev pub is_newer : ℕ → Bool
is_newer code = nat_lt 3 code && nat_lt code 9

-- The value of an obsolete packet's option with this code means the same in an enhanced packet.
abbrev pub stays_value : ℕ → Value → Bool
stays_value code (Unknown len v) = not (is_newer code)
stays_value code value = true

-- An option of an obsolete packet means the same in an enhanced packet.
abbrev pub stays : Entry → Bool
stays option = stays_value option.code option.value

-- The options of an obsolete packet that mean the same in an enhanced packet: comments, flags, hashes, custom options, and those with a code
-- that has no meaning in either.
abbrev pub kept_options : List Entry → List Entry
kept_options = filter stays

-- The option that says how many packets were lost before a packet (epb_dropcount). The count 65535 stands for an unknown number.
abbrev pub drop_options : ℕ → List Entry
drop_options drops = if drops == 65535 then [] else record { code = 4; value = Integer drops } ∷ []

-- The enhanced packet that an obsolete packet becomes.
abbrev pub enhanced_from : PacketBody → Enhanced
enhanced_from old = record {
  interface_id = old.interface_id;
  packet = record {
    timestamp = old.packet.timestamp;
    captured_len = old.packet.captured_len;
    original_len = old.packet.original_len;
    bytes = old.packet.bytes;
    options = kept_options old.packet.options ++ drop_options old.drop_count;
  };
}

-- A body, with an enhanced packet for an obsolete one.
abbrev pub renewed : Body → Body
renewed (OldPacketBody old) = EnhancedBody (enhanced_from old)
renewed body = body

-- How many options of an obsolete packet with these options are left out.
abbrev pub lost_options : List Entry → ℕ
lost_options options = length options - length (kept_options options)

-- How many options of a packet with this body a merge leaves out: those of an obsolete packet that mean something else in an enhanced one.
abbrev pub options_left_out : Body → ℕ
options_left_out (OldPacketBody old) = lost_options old.packet.options
options_left_out _ = 0

-- A body is an obsolete packet that has options, or a known number of packets lost before it.
abbrev pub HasOldOptions : Body → Type 0
HasOldOptions (OldPacketBody old) = (0 < length old.packet.options) ⊎ (old.drop_count ≢ 65535)
HasOldOptions _ = ⊥
