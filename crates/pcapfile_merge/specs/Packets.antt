-- Packets that are merged, and their times.
use Rattle.std.specs.Prelude.{◌≡◌, ◌+◌, ℕ, List, [], ◌∷◌, Bool, true, false, Option, None, Some}
use Rattle.std.specs.List.{flat_map}
use Rattle.pcap_times.specs.declared.clock.Timestamp.{Timestamp}
use Rattle.pcap_classic.specs.PacketText.{Captured}
use Rattle.pcap_file.specs.Conversion.{exact_time}
use Rattle.pcap_blocks.specs.ParsedBlock.{EnhancedBody}
use Rattle.pcap_written.specs.Plain.{plain_packet}
use Rattle.pcap_file.specs.Converted.{little_text, time_of}
use Rattle.pcapfile_run.specs.BlockPackets.{IsBefore}
use Rattle.pcapfile_run.specs.Passing.{counted}
use Rattle.pcapfile_merge.specs.declared.choice.PacketOrder.{PacketOrder}
use Rattle.pcapfile_merge.specs.declared.choice.PacketOrder.TheVariants.{ByTime, ByFile}

-- A packet that is merged, or another block: its time, if it has one, the text of the block that is written, whether it describes an
-- interface, and how many options of its block in the capture are left out.
pub record Packet : Type 0 where
  pub time : Option Timestamp
  pub text : List ℕ
  pub is_interface : Bool
  pub left_out : ℕ

-- How many options are left out with these packets, after this many others.
abbrev pub left_out_with : List Packet → ℕ → ℕ
left_out_with [] others = others
left_out_with (p ∷ ps) others = left_out_with ps (counted (others + p.left_out))

-- The text of a packet's block, and the texts of several packets in a row.
abbrev pub text_of : Packet → List ℕ
text_of p = p.text

abbrev pub texts : List Packet → List ℕ
texts = flat_map text_of

-- The text of a packet without options: the number of its interface among those of all inputs, its time in units of its interface's
-- clock, its length on the wire and its bytes ('Enhanced Packet Block').
abbrev pub plain_text : ℕ → ℕ → ℕ → List ℕ → List ℕ
plain_text number units original_len bytes = little_text (EnhancedBody (plain_packet number units original_len bytes))

abbrev pub TellsBefore : Option Timestamp → Option Timestamp → Bool → Type 0
TellsBefore t u true = IsBefore t u
TellsBefore t u false = IsBefore t u → ⊥

-- A packet is earlier than another if its time is earlier, or if it has no time and the other has one.
abbrev pub IsEarlier : Packet → Packet → Type 0
IsEarlier p q = IsBefore p.time q.time

-- In this order, a packet with the first time goes before one with the second, although its input comes later: by time if the time is before
-- the other one, by file never.
abbrev pub IsBeforeIn : PacketOrder → Option Timestamp → Option Timestamp → Type 0
IsBeforeIn ByTime t u = IsBefore t u
IsBeforeIn ByFile t u = ⊥

abbrev pub TellsBeforeIn : PacketOrder → Option Timestamp → Option Timestamp → Bool → Type 0
TellsBeforeIn order t u true = IsBeforeIn order t u
TellsBeforeIn order t u false = IsBeforeIn order t u → ⊥

-- In this order, a packet is earlier than another. By file none is, so the first input that has a packet left gives the next one.
abbrev pub IsEarlierIn : PacketOrder → Packet → Packet → Type 0
IsEarlierIn order p q = IsBeforeIn order p.time q.time

-- The packet of a classic capture whose interface has this number: its units are nanoseconds.
abbrev pub packet_of : ℕ → Captured → Packet
packet_of number captured = record {
  time = Some (exact_time captured);
  text = plain_text number (time_of captured) captured.header.orig_len captured.bytes;
  is_interface = false;
  left_out = 0;
}
