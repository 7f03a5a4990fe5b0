use Rattle.std.proofs.Common.{refl}
use Rattle.pcap_core.proofs.Links.{link_of}
use Rattle.pcap_options.specs.InterfaceOption.{interface_description}
use Rattle.pcap_tolerant_blocks.specs.InterfaceAsIs.{InterfaceText, InterfaceGrows}
use Rattle.pcap_tolerant_blocks.proofs.Growth.{grows_behind}
use Rattle.pcap_tolerant_blocks.proofs.OneAsIs.{interface_one}
use Rattle.pcap_tolerant_blocks.proofs.interface.InterfaceAsIs.from_slice.Goals as goal
use Rattle.pcap_raw_options.proofs.RawRead.{holds_on_err}

pub returns-in_err-list-clause-memory : goal.returns-in_err-list-clause-memory
returns-in_err-list-clause-memory g c =
    let order = g.B.ByteOrder.number_of in
    let s = c.args.slice.now in
    let link = link_of c.split_u16-linktype.result.0 in
    let grows = grows_behind (InterfaceText order) s (interface_one order s) order interface_description c.split_u32-snaplen.result.1.now (λ x. x.options)
    (λ options. record { linktype = link.0; reserved = c.split_u16-reserved.result.0; snaplen = c.split_u32-snaplen.result.0; options = options }) (λ options. refl)
    (λ options flaws rest list. record {
      after_head = _;
      head = record { link_number = _; after_link = _; after_reserved = _; link_number_is = c.split_u16-linktype.ensures.number; link_is = link.1; reserved_is = c.split_u16-reserved.ensures.number; snaplen_is = c.split_u32-snaplen.ensures.number };
      options_are = list;
    }) c.in_err-list.ensures.memory in
    holds_on_err (InterfaceGrows order s) grows c.from_residual-in_err-list.result
