-- Blocks that a reader lends ('General Block Structure').
use Rattle.std.specs.Prelude.{◌-◌, ℕ, List, length, take, drop}
use Rattle.pcap_ng.specs.declared.pcapng.block_header.BlockHeader.{BlockHeader}
use Rattle.pcap_ng.specs.Blocks.{Item}
use Rattle.pcap_ng.specs.Frames.{Framed}
use Rattle.pcap_ng.specs.State.{State}

-- The header of a block is its type, its length and its byte order.
abbrev pub header_of : Framed → BlockHeader
header_of b = record { type_ = b.type_; initial_len = b.initial_len; endianness = b.endianness }

-- The block with this header and this body; its length is repeated after the body.
abbrev pub framed_around : BlockHeader → List ℕ → Framed
framed_around header body = record {
  type_ = header.type_;
  initial_len = header.initial_len;
  body = body;
  trailer_len = header.initial_len;
  endianness = header.endianness;
}

-- The body of the block in these bytes is what is between the first eight bytes and the last four.
abbrev pub body_in : List ℕ → List ℕ
body_in s = take (length s - 12) (drop 8 s)

-- The item of the block with this header and these bytes, after which this state is in force.
abbrev pub held_item : State → List ℕ → BlockHeader → Item
held_item after s header = record { block = framed_around header (body_in s); after = after }
