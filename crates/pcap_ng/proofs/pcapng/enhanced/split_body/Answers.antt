use Rattle.std.proofs.Common.{◌+◌, ◌*◌, ◌^◌, ℕ, [], inl, inr, refl, sym, subst}
use Rattle.pcap_core.specs.declared.rules.Rule.TheVariants.{EnhancedCut}
use Rattle.pcap_core.specs.Answer.{Number}
use Rattle.pcap_core.specs.Faults.{Invalid}
use Rattle.pcap_core.proofs.Padded.{behind_number}
use Rattle.pcap_options.specs.EnhancedOption.{enhanced_packet}
use Rattle.pcap_blocks.specs.EnhancedPacket.{in_packet, short}
use Rattle.pcap_blocks.specs.Time.{TimeText}
use Rattle.pcap_blocks.proofs.StoredPackets.{stored_cut, stored_head}
use Rattle.pcap_ng.proofs.pcapng.enhanced.split_body.Goals as goal

pub returns-then-body-lt20 : goal.returns-then-body-lt20
returns-then-body-lt20 g c = inl (short c.if-body-lt20.true)

pub returns-in_err-bytes : goal.returns-in_err-bytes
returns-in_err-bytes g c =
    let order = g.B.ByteOrder.number_of in
    let interface = c.split_u32-interface in
    let high = c.split_u32-high in
    let low = c.split_u32-low in
    let time : TimeText order (high.result.0 * 2 ^ 32 + low.result.0) interface.result.1.now low.result.1.now =
    record { high = high.result.0; low = low.result.0; after_high = high.result.1.now; high_is = high.ensures.number; low_is = low.ensures.number; both = refl } in
    let cut = stored_cut order enhanced_packet _ _ _ _ _ (stored_head [] [] time c.split_u32-captured.ensures.number c.split_u32-original.ensures.number) c.in_err-bytes.ensures.len in
    rw c.from_residual.ensures (inr (in_packet (Invalid EnhancedCut) interface.result.1.now (behind_number interface.ensures.number) cut))

pub returns : goal.returns
returns g c =
    let interface = c.split_u32-interface in
    let high = c.split_u32-high in
    let low = c.split_u32-low in
    let captured = c.split_u32-captured in
    let split = c.in_ok-bytes in
    record {
      after_interface = interface.result.1.now;
      after_head = c.split_u32-original.result.1.now;
      interface_is = interface.ensures.number;
      head = record {
        after_time = low.result.1.now;
        after_captured = captured.result.1.now;
        time_is = record { high = high.result.0; low = low.result.0; after_high = high.result.1.now; high_is = high.ensures.number; low_is = low.ensures.number; both = c.joined.ensures };
        captured_is = subst (λ (n : ℕ). Number g.B.ByteOrder.number_of 4 n low.result.1.now captured.result.1.now) (sym split.ensures.len) captured.ensures.number;
        original_is = c.split_u32-original.ensures.number;
      };
      padded = split.ensures.padded;
    }
