use Rattle.std.proofs.Common.{refl, arith}
use Rattle.pcap_core.specs.declared.rules.Rule.TheVariants.{EnhancedTooShort, EnhancedCut}
use Rattle.pcap_core.proofs.Padded.{behind_number, behind_both}
use Rattle.pcap_options.specs.PacketOption.{packet_kind}
use Rattle.pcap_tolerant_blocks.specs.StoredAsIs.{NoPacket, no_head, no_bytes, stored_with}
use Rattle.pcap_tolerant_blocks.specs.PacketBlockAsIs.{WithDrops, PacketBlockText, PacketBlockGrows, packet_in, flaws_said}
use Rattle.pcap_tolerant_blocks.proofs.Bodies.{none_read, with_options}
use Rattle.pcap_tolerant_blocks.proofs.Growth.{grows_without_room, grows_behind}
use Rattle.pcap_tolerant_blocks.proofs.OneBodies.{packet_one}
use Rattle.pcap_tolerant_blocks.proofs.packet_block.PacketBlockAsIs.from_slice.Goals as goal
use Rattle.pcap_raw_options.proofs.RawRead.{holds_on_err}

pub returns-then-slice-lt20-clause-read : goal.returns-then-slice-lt20-clause-read
returns-then-slice-lt20-clause-read g c =
    let order = g.B.ByteOrder.number_of in
    none_read (WithDrops order) (NoPacket order) packet_in flaws_said c.args.slice.now EnhancedTooShort c.none.result (no_head (omega arith)) c.none.ensures

pub returns-in_default-clause-read : goal.returns-in_default-clause-read
returns-in_default-clause-read g c =
    let order = g.B.ByteOrder.number_of in
    let none = no_bytes _ (behind_both (behind_number c.split_u16-interface_id.ensures.number) (behind_number c.split_u16-drop_count.ensures.number)) c.in_default.ensures in
    none_read (WithDrops order) (NoPacket order) packet_in flaws_said c.args.slice.now EnhancedCut c.none-in_default.result none c.none-in_default.ensures

pub returns-clause-read : goal.returns-clause-read
returns-clause-read g c =
    record { after_interface = _; after_drops = _; interface_is = c.split_u16-interface_id.ensures.number; drops_are = c.split_u16-drop_count.ensures.number; packet_is = with_options _ _ c.in-Some.stored _ _ _ _ _ c.in-Some.ensures c.in_ok-list.ensures.read }

pub returns-in_default-clause-memory : goal.returns-in_default-clause-memory
returns-in_default-clause-memory g c =
    let order = g.B.ByteOrder.number_of in
    let s = c.args.slice.now in
    let none = no_bytes _ (behind_both (behind_number c.split_u16-interface_id.ensures.number) (behind_number c.split_u16-drop_count.ensures.number)) c.in_default.ensures in
    holds_on_err (PacketBlockGrows order s) (grows_without_room (PacketBlockText order) s (packet_one order s) _ EnhancedCut (EnhancedCut, none, refl, refl)) c.none-in_default.result

pub returns-in_err-list-clause-memory : goal.returns-in_err-list-clause-memory
returns-in_err-list-clause-memory g c =
    let order = g.B.ByteOrder.number_of in
    let s = c.args.slice.now in
    let grows = grows_behind (PacketBlockText order) s (packet_one order s) order packet_kind c.in-Some.rest.now (λ x. x.packet.options)
    (λ options. record { interface_id = c.split_u16-interface_id.result.0; drop_count = c.split_u16-drop_count.result.0; packet = stored_with c.in-Some.stored options }) (λ options. refl)
    (λ options flaws rest list. record { after_interface = _; after_drops = _; interface_is = c.split_u16-interface_id.ensures.number; drops_are = c.split_u16-drop_count.ensures.number; packet_is = with_options _ _ c.in-Some.stored _ _ _ _ _ c.in-Some.ensures list })
    c.in_err-list.ensures.memory in
    holds_on_err (PacketBlockGrows order s) grows c.from_residual.result
