use Rattle.std.proofs.Common.{List, map, ap, ◌∙◌}
use Rattle.std.proofs.lemmas.List.{with_items_is}
use Rattle.pcap_blocks.specs.EnhancedPacket.{Enhanced, enhanced_of}
use Rattle.pcap_options.specs.declared.enhanced_option.EnhancedPacketOption.{EnhancedPacketOption}
use Rattle.pcap_options.specs.EnhancedOption.{enhanced_entry}
use Rattle.pcap_options.specs.Values.{Entry}
use Rattle.pcapfile_merge.specs.Reordered.{little_entry}
use Rattle.pcapfile_merge.proofs.reordered.renumbered.Goals as goal

pub returns : goal.returns
returns c =
    let packet = (enhanced_of c.args.packet).packet in
    let made : List Entry → Enhanced = λ options. record {
      interface_id = c.args.number;
      packet = record { timestamp = packet.timestamp; captured_len = packet.captured_len; original_len = packet.original_len; bytes = packet.bytes; options = options };
    } in
    let items = with_items_is c.args.packet.options c.put_in_little.new.options (c.put_in_little.auto.options ∙ c.as_mut_slice.ensures.len) in
    let old = ap (λ (options : List EnhancedPacketOption). map (little_entry c.args.order) (map enhanced_entry options)) c.as_mut_slice.ensures.value in
    ap made (ap (map enhanced_entry) items ∙ c.in_ok-put_in_little.ensures ∙ old)
