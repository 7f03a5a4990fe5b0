use Rattle.pcap_core.specs.Faults.{Invalid}
use Rattle.pcap_classic.specs.PacketText.{packet_limit, PacketHeaderSays, HasHeadFault}
use Rattle.pcap_core.proofs.Refusals.{named_tells}
use Rattle.pcap_classic.proofs.pcap.packet.PacketHeader.from_slice.Goals as goal

pub returns-in_err-header : goal.returns-in_err-header
returns-in_err-header g c =
    let order = g.B.ByteOrder.number_of in
    let r = c.args.ts_resolution in
    let rule = c.in_err-header.field-0.0 in
    let fault : HasHeadFault packet_limit order r c.args.slice.now (Invalid rule) = record {
      head = record { seconds = c.split_u32-ts_sec.result.0; fraction = c.split_u32-fraction.result.0; included = c.split_u32-incl_len.result.0; original = c.split_u32-orig_len.result.0 };
      after = c.split_u32-orig_len.result.1.now;
      text = record {
        after_seconds = c.split_u32-ts_sec.result.1.now;
        after_fraction = c.split_u32-fraction.result.1.now;
        after_included = c.split_u32-incl_len.result.1.now;
        seconds = c.split_u32-ts_sec.ensures.number;
        fraction = c.split_u32-fraction.ensures.number;
        included = c.split_u32-incl_len.ensures.number;
        original = c.split_u32-orig_len.ensures.number;
      };
      first = c.in_err-header.ensures;
    } in
    record { tells = named_tells ⊥ (PacketHeaderSays packet_limit order r c.args.slice.now) (λ header. header) rule c.from_residual.result fault c.from_residual.ensures.1 }
