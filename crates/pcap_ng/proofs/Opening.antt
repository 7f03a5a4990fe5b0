-- A first block that is not a section header.
use Rattle.std.proofs.Common.{◌≡◌, ℕ, List, refl, inr}
use Rattle.pcap_core.specs.Answer.{whole}
use Rattle.pcap_core.specs.declared.rules.Rule.TheVariants.{SectionMissing}
use Rattle.pcap_core.specs.Faults.{Invalid}
use Rattle.pcap_items.specs.Headed.{bad}
use Rattle.pcap_blocks.specs.declared.parsed_block.ParsedBlock.{ParsedBlock}
use Rattle.pcap_blocks.specs.declared.parsed_block.ParsedBlock.TheVariants as block_of
use Rattle.pcap_blocks.specs.declared.section_header.SectionHeaderBlock.{SectionHeaderBlock}
use Rattle.pcap_blocks.specs.ParsedBlock.{body_of}
use Rattle.pcap_ng.specs.Bodies.{SaysOfBody}
use Rattle.pcap_ng.specs.Frames.{Framed}
use Rattle.pcap_ng.specs.State.{opening, leads, Means}

leads_nowhere : (p : ParsedBlock) → ((section : SectionHeaderBlock) → p ≡ block_of.SectionHeader section → ⊥) → leads opening (body_of p) ≡ bad (Invalid SectionMissing)
leads_nowhere (block_of.SectionHeader b) none = absurd (none b refl)
leads_nowhere _ none = refl

pub no_section : (b : Framed) (p : ParsedBlock) → ((section : SectionHeaderBlock) → p ≡ block_of.SectionHeader section → ⊥) → (rest : List ℕ) × SaysOfBody b (whole (body_of p) rest) → Means opening b (bad (Invalid SectionMissing))
no_section b p none said = inr (body_of p, said.0, said.1, leads_nowhere p none)
