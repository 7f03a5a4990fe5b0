-- Blocks in their frames, which are written without reading their bodies ('General Block Structure').
use Rattle.std.specs.Prelude.{◌+◌, length}
use Rattle.pcap_ng.specs.Frames.{Framed}
use Rattle.pcap_written.specs.Raw.{Raw}

-- A block of bytes is the type, the byte order and the body of a block; the body determines its lengths.
abbrev pub raw_in : Framed → Raw
raw_in b = record { type_ = b.type_; endianness = b.endianness; body = b.body }

-- The frame of a block of bytes, whose length is that of the body and the 12 bytes around it.
abbrev pub framed_raw : Raw → Framed
framed_raw raw = record {
  type_ = raw.type_;
  initial_len = length raw.body + 12;
  body = raw.body;
  trailer_len = length raw.body + 12;
  endianness = raw.endianness;
}
