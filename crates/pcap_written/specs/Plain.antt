-- Default blocks: a section header, and a packet without options.
use Rattle.std.specs.Prelude.{ℕ, List, [], ◌++◌, length, negsuc}
use Rattle.pcap_core.specs.declared.common.Endianness.{Endianness}
use Rattle.pcap_core.specs.declared.common.Endianness.TheVariants.{Big, Little}
use Rattle.pcap_core.specs.Codec.{Encoder}
use Rattle.pcap_blocks.specs.EnhancedPacket.{Enhanced}
use Rattle.pcap_blocks.specs.SectionHeader.{Section}

-- The magic number that names a byte order.
abbrev pub magic_of : Endianness → ℕ
magic_of Big = 0x1A2B3C4D
magic_of Little = 0x4D3C2B1A

-- A section of version 1.0 without options, whose length, -1, is unspecified.
abbrev pub plain_section : Endianness → Section
plain_section e = record { magic = magic_of e; major_version = 1; minor_version = 0; section_length = negsuc 0; options = [] }

-- A packet without options, from its interface, its timestamp in the interface's units, its length on the wire and its data.
abbrev pub plain_packet : ℕ → ℕ → ℕ → List ℕ → Enhanced
plain_packet interface_id timestamp original_len bytes = record {
  interface_id = interface_id;
  packet = record { timestamp = timestamp; captured_len = length bytes; original_len = original_len; bytes = bytes; options = [] };
}

-- The bytes before the data of such a packet, in a block of this length, with the timestamp in two halves.
abbrev pub plain_head : Encoder → ℕ → ℕ → ℕ → ℕ → ℕ → ℕ → List ℕ
plain_head write len interface_id high low captured_len original_len =
    write 4 6 ++ (write 4 len ++ (write 4 interface_id ++ (write 4 high ++ (write 4 low ++ (write 4 captured_len ++ write 4 original_len)))))
