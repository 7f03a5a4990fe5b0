use Rattle.pcap_core.specs.declared.rules.Rule.TheVariants.{SectionMissing}
use Rattle.pcap_items.specs.Headed.{bad}
use Rattle.pcap_core.proofs.Refusals.{named_refuses}
use Rattle.pcap_ng.specs.Frames.{framed_of}
use Rattle.pcap_tolerant_captures.specs.State.{opening, Means, CanGrow}
use Rattle.pcap_tolerant_captures.proofs.Refusing.{first_missing}
use Rattle.pcap_tolerant_captures.proofs.kept.first_section.Goals as goal

pub returns-in_default : goal.returns-in_default
returns-in_default c =
    let b = framed_of c.args.block.now in
    named_refuses (CanGrow opening b) (λ n. ⊥) (λ fault. Means opening b (bad fault)) SectionMissing c.from.result (first_missing b.type_ c.in_default.not-SectionHeader b) c.from.ensures
