-- The answers of strict reading for blocks that are also read leniently.
use Rattle.std.specs.Prelude.{◌≡◌, ◌⊎◌, ℕ, List, [], ◌∷◌, map, Some}
use Rattle.pcap_core.specs.declared.rules.Rule.TheVariants.{SectionMissing}
use Rattle.pcap_core.specs.Answer.{Verdict, whole, lacks, faulty}
use Rattle.pcap_core.specs.Faults.{Fault, Invalid}
use Rattle.pcap_ng.specs.State as strict
use Rattle.pcap_ng.specs.Blocks as strict_blocks
use Rattle.pcap_tolerant_blocks.specs.Flaws.{Said}
use Rattle.pcap_tolerant_captures.specs.State.{State, opening, within}
use Rattle.pcap_tolerant_captures.specs.Blocks.{Item}

-- The state of the strict parser as a state of the lenient one: each interface has a head.
abbrev pub as_it_stands : strict.State → State
as_it_stands strict.opening = opening
as_it_stands (strict.within section interfaces) = within section (map Some interfaces)

-- The answer of strict reading for a block with these flaws: the same block and state if there are none, and otherwise its first flaw.
abbrev pub StrictBlockIs : List Said → Item → List ℕ → Verdict strict_blocks.Item → Type 0
StrictBlockIs [] item rest v = (after : strict.State) × (item.led.after ≡ as_it_stands after) × (v ≡ whole (record { block = item.block; after = after }) rest)
StrictBlockIs (first ∷ others) item rest v = v ≡ faulty first.fault

-- The answer of strict reading by that of lenient reading: the same block or its first flaw, the same request, or the same refusal. If
-- the first block is no section header, the refusal may name another fault.
abbrev pub StrictIs : strict.State → Verdict Item → Verdict strict_blocks.Item → Type 0
StrictIs q (whole item rest) v = StrictBlockIs item.led.flaws item rest v
StrictIs q (lacks n) v = v ≡ lacks n
StrictIs q (faulty f) v = (v ≡ faulty f) ⊎ ((q ≡ strict.opening) × (f ≡ Invalid SectionMissing) × (fault : Fault) × (v ≡ faulty fault))
