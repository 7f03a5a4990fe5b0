-- The header and the bytes of an opening, and of one with the magic number of another resolution.
use Rattle.std.specs.Prelude.{◌++◌, ℕ, List, drop, Option, None, Some}
use Rattle.byteorder.specs.Endian.{big_bytes}
use Rattle.pcap_classic.specs.declared.common.TsResolution.{TsResolution}
use Rattle.pcap_classic.specs.declared.pcap.header.PcapHeader.{PcapHeader}
use Rattle.pcap_classic.specs.Magic.{magic_for, order_of}
use Rattle.pcapfile_cut.specs.declared.opening.Opening.{Opening}

-- The opening's header.
abbrev pub header_of : Opening → PcapHeader
header_of opening = opening.header

-- The opening's 24 bytes.
abbrev pub bytes_of : Opening → List ℕ
bytes_of opening = opening.bytes

-- The header of a capture in this resolution, if one is given: it has the magic number of the resolution and of its own byte order.
abbrev pub header_in : Option TsResolution → PcapHeader → PcapHeader
header_in None header = header
header_in (Some resolution) header = record header { magic_number = magic_for (order_of header.magic_number) resolution }

-- The opening's 24 bytes with the magic number of this resolution, if one is given. All other bytes stay.
abbrev pub bytes_in : Option TsResolution → Opening → List ℕ
bytes_in None opening = bytes_of opening
bytes_in (Some resolution) opening = big_bytes 4 (header_in (Some resolution) (header_of opening)).magic_number ++ drop 4 (bytes_of opening)
