-- This file defines the bytes that the packets of a damaged capture begin with.
use Rattle.std.specs.Prelude.{⊤, ◌≡◌, ◌≤◌, ◌⊎◌, ℕ, List, [], length, take, drop}
use Rattle.pcap_classic.specs.declared.pcap.header.PcapHeader.{PcapHeader}
use Rattle.pcap_classic.specs.HeaderText.{HeaderText}
use Rattle.pcap_classic.specs.Written.{written_header}
use Rattle.pcapfile_rows.specs.declared.window.Window.{Window}
use Rattle.pcapfile_rows.specs.declared.opened.Opened.{Opened}
use Rattle.pcapfile_rows.specs.declared.opened.Opened.TheVariants.{Packets, Blocks, NoPackets, NoBlocks}

-- The bytes that a window shows.
abbrev pub bytes_in : {R : Type 0} → Window R → List ℕ
bytes_in window = drop window.passed window.room.items

-- `s` begins with the text of the header, which has 24 bytes.
abbrev pub BeginsWith : PcapHeader → List ℕ → Type 0
BeginsWith header s = (24 ≤ length s) × HeaderText header (take 24 s) []

-- These bytes are the text of the header, or what is written of it.
abbrev pub HasOpening : PcapHeader → List ℕ → Type 0
HasOpening header opening = HeaderText header opening [] ⊎ (opening ≡ written_header header)

-- Packets come with the bytes of their header.
abbrev pub OpensWithHeader : {R : Type 0} → Opened R → Type 0
OpensWithHeader (Packets found) = HasOpening found.header found.opening.items
OpensWithHeader (Blocks rows) = ⊤
OpensWithHeader (NoPackets error) = ⊤
OpensWithHeader (NoBlocks error) = ⊤
