use Rattle.std.proofs.Common.{◌≡◌, true, subst, sym}
use Rattle.pcap_classic.specs.declared.pcap.header.PcapHeader.{PcapHeader}
use Rattle.pcap_classic.specs.Magic.{is_magic}
use Rattle.pcapfile_sort.proofs.PacketRecords.{parser_made}
use Rattle.pcapfile_sort.proofs.packets.PacketRecords.after.Goals as goal

pub unreachable-requires : goal.unreachable-requires
unreachable-requires c =
    let valid : is_magic c.header.result.now.magic_number ≡ true = subst (λ (h : PcapHeader). is_magic h.magic_number ≡ true) (sym c.header.ensures.header) c.header.ensures.valid in
    parser_made c.header.result.now c.in-Err.field-0 valid c.in-Err.ensures
