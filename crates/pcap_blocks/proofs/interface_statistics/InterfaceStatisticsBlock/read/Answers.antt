use Rattle.std.proofs.Common.{arith}
use Rattle.std.proofs.lemmas.Result.{err_from_is_err_and}
use Rattle.pcap_blocks.specs.InterfaceStatistics.{short}
use Rattle.pcap_core.proofs.Padded.{behind_number, behind_both}
use Rattle.pcap_blocks.proofs.StoredPackets.{behind_time, statistics_fails}
use Rattle.pcap_options.proofs.Growth.{holds_after}
use Rattle.pcap_options.proofs.Refusals.{denies_more}
use Rattle.pcap_blocks.proofs.interface_statistics.InterfaceStatisticsBlock.read.Goals as goal

pub returns-then-slice-lt12-clause-tells : goal.returns-then-slice-lt12-clause-tells
returns-then-slice-lt12-clause-tells g c = short (omega arith)

pub returns-in_err-rest-clause-tells : goal.returns-in_err-rest-clause-tells
returns-in_err-rest-clause-tells g c =
    let p = err_from_is_err_and c.from_residual.result c.from_residual.ensures.1 in
    let head = behind_both (behind_number c.split_u32-interface_id.ensures.number) (behind_time c.split_time-timestamp.ensures.time) in
    rw (p.1, p.2) (denies_more c.in_err-rest.field-0.0 (holds_after 12 _ _ _ head) (statistics_fails _ _ _ head) c.in_err-rest.ensures.tells)

pub returns-clause-tells : goal.returns-clause-tells
returns-clause-tells g c = record {
  after_interface = _;
  after_time = _;
  interface_is = c.split_u32-interface_id.ensures.number;
  time_is = c.split_time-timestamp.ensures.time;
  options_are = c.in_ok-rest.ensures.tells;
}
