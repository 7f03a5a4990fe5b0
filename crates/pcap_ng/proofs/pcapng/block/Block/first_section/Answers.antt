use Rattle.pcap_core.specs.declared.rules.Rule.TheVariants.{SectionMissing}
use Rattle.pcap_items.specs.Headed.{bad}
use Rattle.pcap_core.proofs.Refusals.{named_refuses}
use Rattle.pcap_ng.specs.Bodies.{GrowsInBody}
use Rattle.pcap_ng.specs.Frames.{framed_of}
use Rattle.pcap_ng.specs.State.{opening, Means}
use Rattle.pcap_ng.proofs.Opening.{no_section}
use Rattle.pcap_ng.proofs.pcapng.block.Block.first_section.Goals as goal

pub returns : goal.returns
returns c =
    let b = framed_of c.args.self.now in
    record {
      tells = named_refuses (GrowsInBody b) (λ n. ⊥) (λ fault. Means opening b (bad fault)) SectionMissing c.from.result (no_section b c.in_ok-section.field-0 c.in_default.not-SectionHeader c.in_ok-section.ensures.tells) c.from.ensures;
      borrowed = tt;
    }
