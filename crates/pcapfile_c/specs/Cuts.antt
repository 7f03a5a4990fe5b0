-- What the calls return that find where a capture can be cut.
use Rattle.std.specs.Prelude.{◌≡◌, ◌<◌, ◌≤◌, ◌*◌, ◌⊎◌, ℕ, ℤ, pos, List, [], length, take, drop}
use Rattle.pcap_classic.specs.declared.pcap.header.PcapHeader.{PcapHeader}
use Rattle.pcap_classic.specs.HeaderText.{HeaderSays}
use Rattle.pcap_ng.specs.Blocks.{MayGrow}
use Rattle.pcap_ng.specs.Opening.{OpeningSays}
use Rattle.pcap_ng.specs.State.{opening}
use Rattle.pcap_parts.specs.declared.cut.Cut.{Cut}
use Rattle.pcap_parts.specs.declared.cut_ng.NgCut.{NgCut}
use Rattle.pcap_parts.specs.declared.cut_ng.NgCuts.{NgCuts}
use Rattle.pcap_parts.specs.declared.parting.Parting.{Parting}
use Rattle.pcap_parts.specs.declared.parting.Parting.TheVariants.{Equal, AtLeast}
use Rattle.pcap_parts.specs.Captures.{IsCut, IsCutAtLeast, IsCutFairly}
use Rattle.pcap_parts.specs.NgParts.{HasOpening, IsNgCut, IsNgCutAtLeast, IsNgCutFairly}
use Rattle.pcap_parts.specs.Places.{TellAllPlaces}
use Rattle.pcapfile_values.specs.Refusals.{TellsRefusal, TellsRefusalWhere}
use Rattle.pcapfile_c.specs.Readers.{Target}

-- The first places hold these values, the number is how many they are, and all other places are unchanged.
abbrev pub Fills : {A : Type 0} → List A → List A → List A → ℕ → Type 0
Fills values before after count = (count ≡ length values) × (take count after ≡ values) × (drop count after ≡ drop count before)

-- This many places have room for all requested cuts of a capture of this length.
abbrev pub HasRoom : Parting → ℕ → ℕ → Type 0
HasRoom (Equal parts) total places = (parts ≡ places) × (0 < places)
HasRoom (AtLeast n) total places = total < places * n

-- There may be too few places for the requested cuts: there is none, or n times their number is at most the number of these bytes.
abbrev pub MayLackPlaces : {A : Type 0} → Parting → List ℕ → List A → Type 0
MayLackPlaces (Equal parts) bytes places = places ≡ []
MayLackPlaces (AtLeast n) bytes places = length places * n ≤ length bytes

-- The packets after this header are cut as requested.
abbrev pub IsCutAsAsked : Parting → PcapHeader → List Cut → List ℕ → Type 0
IsCutAsAsked (Equal parts) header cuts bytes = IsCutFairly parts header cuts bytes
IsCutAsAsked (AtLeast n) header cuts bytes = IsCutAtLeast n header cuts bytes

-- The first places hold the requested cuts of a classic capture.
pub record CutsPackets (how : Parting) (bytes : List ℕ) (before after : List Cut) (count : ℕ) : Type 0 where
  pub header : PcapHeader
  pub cuts : List Cut
  pub cut : IsCut header cuts bytes
  pub asked : IsCutAsAsked how header cuts bytes
  pub filled : Fills cuts before after count

-- Status 0: the capture is cut. Otherwise there are no cuts, and the places are unchanged. Status 11: there may be too few places.
-- Another status: the capture's header is refused.
abbrev pub TellsCuts : Parting → List ℕ → Target (List Cut) → Target (List Cut) → ℕ → ℤ → Type 0
TellsCuts how bytes old new count status =
    ((status ≡ pos 0) × (new.error ≡ old.error) × CutsPackets how bytes old.value new.value count)
    ⊎ ((count ≡ 0) × (new.value ≡ old.value)
    × (((status ≡ pos 11) × (new.error ≡ old.error) × MayLackPlaces how bytes old.value) ⊎ TellsRefusal (HeaderSays bytes) new.error status))

-- Cutting a PcapNg capture may allocate memory only after its first block, or if reading that block may.
abbrev pub CutMayGrow : List ℕ → Type 0
CutMayGrow bytes = MayGrow opening bytes ⊎ HasOpening bytes

-- These are the requested cuts of a PcapNg capture, with the places of its interfaces.
abbrev pub CutsBlocks : Parting → List ℕ → NgCuts → Type 0
CutsBlocks (Equal parts) bytes cuts =
    IsNgCut cuts bytes × IsNgCutFairly parts cuts.cuts.items bytes × TellAllPlaces bytes cuts.interfaces.items cuts.cuts.items
CutsBlocks (AtLeast n) bytes cuts =
    IsNgCut cuts bytes × IsNgCutAtLeast n cuts.cuts.items bytes × TellAllPlaces bytes cuts.interfaces.items cuts.cuts.items

-- There may be too few places for cuts, or the capture has this many interfaces, at least up to the last cut, and fewer places.
abbrev pub LacksPlaces : Parting → List ℕ → List NgCut → List ℕ → ℕ → Type 0
LacksPlaces how bytes before places known =
    ((known ≡ 0) × MayLackPlaces how bytes before)
    ⊎ ((cuts : NgCuts) × CutsBlocks how bytes cuts × (known ≡ length cuts.interfaces.items) × (length places < known))

-- A call that cuts a PcapNg capture sets places for cuts, and places for interfaces.
abbrev pub CutTarget : Type 0
CutTarget = Target (List NgCut × List ℕ)

-- Status 0: the first places hold the cuts of the capture, and the first places for interfaces hold theirs. Otherwise there are no cuts,
-- and all places are unchanged. Status 11: there are too few places. Another status: the first block is refused, or memory runs out.
abbrev pub TellsBlockCuts : Parting → List ℕ → CutTarget → CutTarget → ℕ → ℕ → ℤ → Type 0
TellsBlockCuts how bytes old new count known status =
    ((status ≡ pos 0) × (new.error ≡ old.error)
    × (cuts : NgCuts) × CutsBlocks how bytes cuts × Fills cuts.cuts.items old.value.0 new.value.0 count × Fills cuts.interfaces.items old.value.1 new.value.1 known)
    ⊎ ((count ≡ 0) × (new.value.0 ≡ old.value.0) × (new.value.1 ≡ old.value.1)
    × (((status ≡ pos 11) × (new.error ≡ old.error) × LacksPlaces how bytes old.value.0 old.value.1 known)
    ⊎ ((known ≡ 0) × TellsRefusalWhere (CutMayGrow bytes) (OpeningSays bytes) new.error status)))
