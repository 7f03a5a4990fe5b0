-- This file defines the lines that the word `list` writes.
use Rattle.std.specs.Prelude.{◌≡◌, ℕ, List, [], ◌++◌, codes}
use Rattle.std.specs.Fmt.{decimal}
use Rattle.pcap_classic.specs.declared.pcap.header.PcapHeader.{PcapHeader}
use Rattle.pcap_classic.specs.declared.pcap.packet.PacketHeader.{PacketHeader}
use Rattle.pcap_classic.specs.HeaderText.{HeaderSays}
use Rattle.pcap_classic.specs.PacketText.{packet_limit, Captured}
use Rattle.pcap_classic.specs.Packets.{format_under}
use Rattle.pcap_program.specs.Digits.{nine_digits}
use Rattle.capcopy_run.specs.Listing.{Kind}

-- The line of a packet gives its index, its time in seconds and nanoseconds, and its stored and original length.
abbrev pub packet_line : ℕ → PacketHeader → List ℕ
packet_line index header =
    let time = decimal header.ts_sec ++ (codes "." ++ nine_digits header.ts_nsec) in
    let lengths = decimal header.incl_len ++ (codes "/" ++ decimal header.orig_len) in
    decimal index ++ (codes " " ++ (time ++ (codes " " ++ (lengths ++ codes "\n"))))

-- of_header IsLine: the line of a packet is the line of its header.
abbrev pub of_header : (ℕ → PacketHeader → List ℕ → Type 0) → ℕ → Captured → List ℕ → Type 0
of_header IsLine index packet line = IsLine index packet.header line

-- IsPacketLine index packet line: `line` is the packet's line at this index.
abbrev pub IsPacketLine : ℕ → Captured → List ℕ → Type 0
IsPacketLine = of_header (λ index header line. line ≡ packet_line index header)

-- A classic capture is listed as one line for each packet, without a line for the header.
abbrev pub packets_in : Type 0 → (ℕ → Captured → List ℕ → Type 0) → Kind PcapHeader (Unit {0}) Captured
packets_in grows IsLine = record {
  opens = HeaderSays;
  grows = grows;
  heading = λ header. [];
  format = format_under packet_limit;
  start = λ header. tt;
  IsLine = IsLine;
}

-- The lines of the word `list` need no memory.
abbrev pub packet_lines : Kind PcapHeader (Unit {0}) Captured
packet_lines = packets_in ⊥ IsPacketLine
