use Rattle.std.proofs.Common.{ℕ, refl, subst}
use Rattle.pcap_core.specs.Link.{Link}
use Rattle.pcap_options.specs.InterfaceOption.{interface_description}
use Rattle.pcap_blocks.specs.InterfaceDescription.{Interface}
use Rattle.pcap_tolerant_blocks.proofs.FirstClock.{outline_of_one}
use Rattle.pcap_tolerant_blocks.proofs.NextFlaw.{flaws_there}
use Rattle.pcap_tolerant_blocks.proofs.outline.InterfaceOutline.from_slice.Goals as goal

pub returns : goal.returns
returns g c =
    let order = g.B.ByteOrder.number_of in
    let s = c.args.slice.now in
    let behind = c.split_u32-snaplen.result.1.now in
    let there = flaws_there order interface_description behind in
    let made : Interface = record { linktype = c.from-link.result; reserved = c.split_u16-reserved.result.0; snaplen = c.split_u32-snaplen.result.0; options = there.1.options } in
    let clock = c.clock_in-clock.ensures there.1.options there.0 there.1.rest there.1.are in
    outline_of_one order s made there.0 there.1.rest _
    (record {
      after_head = behind;
      head = record { link_number = _; after_link = _; after_reserved = _; link_number_is = c.split_u16-linktype.ensures.number; link_is = subst (λ (n : ℕ). Link n c.from-link.result) c.from.ensures c.from-link.ensures; reserved_is = c.split_u16-reserved.ensures.number; snaplen_is = c.split_u32-snaplen.ensures.number };
      options_are = there.1.are;
    }) (record { link = refl; snaplen = refl; resolution = clock.resolution; offset = clock.offset })
