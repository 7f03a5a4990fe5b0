-- The parts that a caller can request, for any format.
use Rattle.std.specs.Prelude.{◌≡◌, ◌<◌, ◌-◌, ℕ, List, length, ⊤, Option, Some}
use Rattle.pcap_items.specs.Format.{Format}
use Rattle.pcap_parts.specs.declared.cut.Cut.{Cut}
use Rattle.pcap_parts.specs.declared.parting.Parting.{Parting}
use Rattle.pcap_parts.specs.declared.parting.Parting.TheVariants.{Equal, AtLeast}
use Rattle.pcap_parts.specs.Parts.{AreFair, HaveAtLeast, IsToNextEnd, share_of}

-- AsksSome: if the caller requests parts of a least length, that length is not 0.
abbrev pub AsksSome : Parting → Type 0
AsksSome (Equal parts) = ⊤
AsksSome (AtLeast n) = 0 < n

-- WantsNext: the next cut is wanted at the end of a share, or the same number of bytes on as every other cut.
abbrev pub WantsNext : Parting → ℕ → ℕ → Option ℕ → Type 0
WantsNext (Equal parts) passed bytes wanted = IsToNextEnd (share_of bytes parts) parts passed wanted
WantsNext (AtLeast n) passed bytes wanted = wanted ≡ Some n

-- AreAskedFor: the items of s, which end at `total`, are cut into the requested parts.
abbrev pub AreAskedFor : {S V : Type 0} → Format S V → S → List ℕ → ℕ → Parting → List Cut → Type 0
AreAskedFor f q s total (Equal parts) cuts = AreFair f q s total (total - length s) parts cuts
AreAskedFor f q s total (AtLeast n) cuts = HaveAtLeast f q s total n cuts
