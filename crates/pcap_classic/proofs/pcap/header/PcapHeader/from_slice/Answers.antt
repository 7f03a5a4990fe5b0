use Rattle.std.proofs.Common.{arith, refl}
use Rattle.std.proofs.lemmas.Grind.{common_steps}
use Rattle.pcap_core.specs.declared.rules.Rule.TheVariants.{CaptureMagic}
use Rattle.pcap_classic.specs.Magic.{kind_of, is_magic}
use Rattle.pcap_classic.specs.HeaderText.{HasHeaderFault}
use Rattle.pcap_core.specs.Faults.{Invalid}
use Rattle.pcap_core.proofs.Refusals.{named_refuses}
use Rattle.pcap_classic.proofs.pcap.header.PcapHeader.from_slice.Goals as goal

pub returns-in_default : goal.returns-in_default
unfolding kind_of is_magic
returns-in_default c =
    let fault : HasHeaderFault c.args.slice.now (Invalid CaptureMagic) = record {
      magic = c.split_u32-magic_number.result.0;
      after = c.split_u32-magic_number.result.1.now;
      long = c.if-slice-lt24.false;
      text = c.split_u32-magic_number.ensures.number;
      invalid = grind (arith, common_steps);
      fault_is = refl;
    } in
    record { tells = named_refuses _ _ (HasHeaderFault c.args.slice.now) CaptureMagic c.from.result fault c.from.ensures }
