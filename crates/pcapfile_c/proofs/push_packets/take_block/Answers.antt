use Rattle.std.proofs.Common.{refl, inr, inl, sym, subst, ◌∙◌, w32, to_z, of_z}
use Rattle.pcap_core.specs.declared.common.Endianness.{Endianness}
use Rattle.pcap_blocks.specs.declared.block_type.BlockType.TheVariants as types
use Rattle.pcapfile_c.specs.Batches.{PacketText, OtherText, LeadingText, PacketMayGrow, PassageSays}
use Rattle.pcapfile_c.proofs.Passing.{front_stops, holding, other_puts, packet_gives, puts_step}
use Rattle.pcapfile_c.proofs.Refused.{tells_refusal_where}
use Rattle.pcapfile_c.proofs.push_packets.take_block.Goals as goal

pub returns-in_default-clause-taken : goal.returns-in_default-clause-taken
returns-in_default-clause-taken c q shows =
    puts_step q c.args.section.now c.take_first.new.section c.args.interfaces.now c.args.interfaces.now c.args.left.now.bytes.now c.take_first.new.left.bytes.now c.args.packet.now c.args.error.now c.take_first.new.error c.take_first.result
    (c.take_first.ensures.taken q c.args.interfaces.now shows)

pub returns-in-Ok-default-Packet-clause-taken : goal.returns-in-Ok-default-Packet-clause-taken
returns-in-Ok-default-Packet-clause-taken c q shows =
    let found = c.in-Ok-default-Packet in
    let s = c.args.left.now.bytes.now in
    let named = sym c.endianness.ensures ∙ c.in-Some.is in
    let text : PacketText c.in-Some.order found.found s found.rest.now = rw found.field-0-1-is at found.ensures in
    (refl, refl, inl (refl, refl, packet_gives q c.args.section.now c.args.interfaces.now c.in-Some.order s found.rest.now found.found c.new.result shows named text c.new.ensures))

pub returns-in-Ok-default-Other-clause-taken : goal.returns-in-Ok-default-Other-clause-taken
returns-in-Ok-default-Other-clause-taken c q shows =
    let found = c.in-Ok-default-Other in
    let s = c.args.left.now.bytes.now in
    let named = sym c.endianness.ensures ∙ c.in-Some.is in
    let text : OtherText c.in-Some.order s found.rest.now = rw found.field-0-1-is at found.ensures in
    (refl, refl, other_puts q c.args.section.now c.args.interfaces.now c.in-Some.order s found.rest.now shows named text)

pub returns-in-Ok-default-Section-clause-taken : goal.returns-in-Ok-default-Section-clause-taken
returns-in-Ok-default-Section-clause-taken c q shows =
    let found = c.in-Ok-default-Section in
    let s = c.args.left.now.bytes.now in
    let named = sym c.endianness.ensures ∙ c.in-Some.is in
    let holds = holding c.args.section.now c.args.interfaces.now q c.in-Some.order shows named in
    let text : LeadingText c.in-Some.order types.SectionHeader found.body.now s found.rest.now = rw found.field-0-1-is at found.ensures in
    let here = subst (λ (e : Endianness). LeadingText e types.SectionHeader found.body.now s found.rest.now) (sym holds) text in
    puts_step q c.args.section.now c.take_section.new.section c.args.interfaces.now c.args.interfaces.now s c.take_section.new.left.bytes.now c.args.packet.now c.args.error.now c.take_section.new.error c.take_section.result
    (c.take_section.ensures.taken q c.args.interfaces.now shows here)

pub returns-in-Ok-default-Interface-clause-taken : goal.returns-in-Ok-default-Interface-clause-taken
returns-in-Ok-default-Interface-clause-taken c q shows =
    let found = c.in-Ok-default-Interface in
    let s = c.args.left.now.bytes.now in
    let named = sym c.endianness.ensures ∙ c.in-Some.is in
    let holds = holding c.args.section.now c.args.interfaces.now q c.in-Some.order shows named in
    let text : LeadingText c.in-Some.order types.InterfaceDescription found.body.now s found.rest.now = rw found.field-0-1-is at found.ensures in
    let here = subst (λ (e : Endianness). LeadingText e types.InterfaceDescription found.body.now s found.rest.now) (sym holds) text in
    puts_step q c.args.section.now c.take_interface.new.section c.args.interfaces.now c.take_interface.new.interfaces s c.take_interface.new.left.bytes.now c.args.packet.now c.args.error.now c.take_interface.new.error c.take_interface.result
    (c.take_interface.ensures.taken q shows here)

pub returns-in-Err-clause-taken : goal.returns-in-Err-clause-taken
returns-in-Err-clause-taken c q shows =
    let order = c.in-Some.order in
    let s = c.args.left.now.bytes.now in
    let named = sym c.endianness.ensures ∙ c.in-Some.is in
    let refused = tells_refusal_where (PacketMayGrow order s) (PassageSays order s) c.in-Err.e c.tell.new.told c.tell.result c.in-Err.ensures c.tell.ensures in
    (refl, refl, inr (refl, refl, front_stops q c.args.section.now c.args.interfaces.now order s c.args.error.now c.tell.new.told (to_z w32 (of_z w32 c.tell.result)) shows named refused))
