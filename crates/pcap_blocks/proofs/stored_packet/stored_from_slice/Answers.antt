use Rattle.std.proofs.Common.{[]}
use Rattle.std.proofs.lemmas.Result.{err_from_is_err_and}
use Rattle.pcap_blocks.proofs.StoredPackets.{stored_head, stored_cut, stored_fails, stored_grows}
use Rattle.pcap_options.proofs.Refusals.{denies_more}
use Rattle.pcap_blocks.proofs.stored_packet.stored_from_slice.Goals as goal

pub returns-in_default-clause-tells : goal.returns-in_default-clause-tells
returns-in_default-clause-tells g c =
    stored_cut _ _ _ _ _ _ _ (stored_head [] [] c.split_time-timestamp.ensures.time c.split_u32-captured_len.ensures.number c.split_u32-original_len.ensures.number) c.in_default.ensures.len

pub returns-in_err-rest-clause-tells : goal.returns-in_err-rest-clause-tells
returns-in_err-rest-clause-tells g c =
    let p = err_from_is_err_and c.from_residual.result c.from_residual.ensures.1 in
    let head = stored_head c.in-Some.bytes.now [] c.split_time-timestamp.ensures.time c.split_u32-captured_len.ensures.number c.split_u32-original_len.ensures.number in
    rw (p.1, p.2) (denies_more c.in_err-rest.field-0.0 (stored_grows _ g.O.PcapNgOption.kind _ _ _ _ _ _ _ head c.in-Some.ensures.len c.in-Some.ensures.padded) (stored_fails _ g.O.PcapNgOption.kind _ _ _ _ _ _ _ head c.in-Some.ensures.len c.in-Some.ensures.padded) c.in_err-rest.ensures.tells)

pub returns-clause-tells : goal.returns-clause-tells
returns-clause-tells g c = record {
  after_head = _;
  after_bytes = _;
  head = record {
    after_time = _;
    after_captured = _;
    time_is = c.split_time-timestamp.ensures.time;
    captured_is = c.split_u32-captured_len.ensures.number;
    original_is = c.split_u32-original_len.ensures.number;
  };
  captured = c.in-Some.ensures.len;
  padded = c.in-Some.ensures.padded;
  options_are = c.in_ok-rest.ensures.tells;
}
