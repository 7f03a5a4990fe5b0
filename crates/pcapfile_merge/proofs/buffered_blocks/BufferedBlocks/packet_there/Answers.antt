use Rattle.std.proofs.Common.{◌≡◌, ◌-◌, ℕ, List, [], length, take, arith, ap, ◌∙◌, subst}
use Rattle.std.specs.Io.Buffered.{reader_buffer}
use Rattle.pcap_core.specs.declared.common.Endianness.{Endianness}
use Rattle.pcap_blocks.specs.SectionHeader.{section_of}
use Rattle.pcap_ng.specs.Reader.{interfaces_in_force, section_in_force, state_of, stream_of}
use Rattle.pcap_ng.specs.State.{order_at}
use Rattle.pcap_ng.proofs.EnhancedFrames.{packet_within}
use Rattle.pcapfile_merge.specs.BufferedBlocks.{PlainText}
use Rattle.pcapfile_merge.proofs.ShownTaken.{order_there, plain_alone, plain_text_of}
use Rattle.pcapfile_merge.proofs.buffered_blocks.BufferedBlocks.packet_there.Goals as goal

pub returns : goal.returns
returns g c =
    let reader = c.args.self.now.reader in
    let shown = c.buffer-shown.result.now in
    let rest = c.in_ok-after.after.now in
    let packet = c.in_ok-after.packet in
    let e = c.endianness-order.result in
    let n = length shown - length rest in
    let text = c.in_ok-after.ensures in
    let alone = plain_alone e packet shown rest n text (omega (arith, packet_within e packet shown rest (plain_text_of e packet shown rest text))) in
    let order = order_there (section_of c.section.result.now) (section_in_force reader) (interfaces_in_force reader) e c.section.ensures c.endianness-order.ensures in
    let here = subst (λ (o : Endianness). PlainText o packet (take n shown) []) order alone in
    let there : shown ≡ reader_buffer (stream_of reader) = c.buffer-shown.ensures ∙ ap reader_buffer c.get_ref.ensures in
    subst (λ (s : List ℕ). PlainText (order_at (state_of reader)) packet (take n s) []) there here
