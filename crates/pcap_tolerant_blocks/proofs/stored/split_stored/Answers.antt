use Rattle.std.proofs.Common.{[]}
use Rattle.pcap_blocks.proofs.StoredPackets.{stored, stored_head}
use Rattle.pcap_tolerant_blocks.proofs.stored.split_stored.Goals as goal

pub returns-in_default : goal.returns-in_default
returns-in_default g c = record {
  packet = stored _ _ _ [] [];
  after = _;
  head = stored_head [] [] c.split_time-timestamp.ensures.time c.split_u32-captured_len.ensures.number c.split_u32-original_len.ensures.number;
  missing = c.in_default.ensures.len;
}

pub returns : goal.returns
returns g c = record {
  after_head = _;
  head = record {
    after_time = _;
    after_captured = _;
    time_is = c.split_time-timestamp.ensures.time;
    captured_is = c.split_u32-captured_len.ensures.number;
    original_is = c.split_u32-original_len.ensures.number;
  };
  captured = c.in-Some.ensures.len;
  padded = c.in-Some.ensures.padded;
}
