use Rattle.std.proofs.Common.{ap}
use Rattle.pcap_core.specs.Faults.{Invalid}
use Rattle.pcap_core.proofs.Refusals.{named_tells}
use Rattle.pcap_tolerant.specs.AsIs.{raised, HeadAsIsSays, HasLongHead}
use Rattle.pcap_tolerant.proofs.as_is.HeadAsIs.from_slice.Goals as goal

pub returns-in_err-flaws : goal.returns-in_err-flaws
returns-in_err-flaws g c =
    let order = g.B.ByteOrder.number_of in
    let rule = c.in_err-flaws.field-0.0 in
    let long : HasLongHead (raised c.args.limit) order c.args.slice.now (Invalid rule) = record {
      head = record { seconds = c.split_u32-ts_sec.result.0; fraction = c.split_u32-fraction.result.0; included = c.split_u32-incl_len.result.0; original = c.split_u32-orig_len.result.0 };
      after = c.split_u32-orig_len.result.1.now;
      text = record {
        after_seconds = c.split_u32-ts_sec.result.1.now;
        after_fraction = c.split_u32-fraction.result.1.now;
        after_included = c.split_u32-incl_len.result.1.now;
        seconds = c.split_u32-ts_sec.ensures.number;
        fraction = c.split_u32-fraction.ensures.number;
        included = c.split_u32-incl_len.ensures.number;
        original = c.split_u32-orig_len.ensures.number;
      };
      above = c.in_err-flaws.ensures.0;
      fault_is = ap Invalid c.in_err-flaws.ensures.1;
    } in
    record { tells = named_tells ⊥ (HeadAsIsSays (raised c.args.limit) order c.args.ts_resolution c.args.slice.now) (λ head. head) rule c.from_residual.result long c.from_residual.ensures.1 }
