-- Parts of a PcapNg capture that are cut one after another.
use Rattle.std.specs.Prelude.{⊤, ◌≡◌, ◌++◌, ◌⊎◌, ℕ, List, [], ◌∷◌, map, true, None, Some}
use Rattle.std.specs.List.{flat_map}
use Rattle.pcapfile_cut.specs.declared.cutting.Outcome.{Outcome}
use Rattle.pcapfile_cut.specs.declared.wanted.Wanted.{Wanted}
use Rattle.pcapfile_cut.specs.declared.wanted.Wanted.TheVariants as wants
use Rattle.pcapfile_cut.specs.BlockCuts.{Between, CutsBlockPart, Lent, Place, bytes_in, has_packet, typed}
use Rattle.pcapfile_cut.specs.Repeating.{opening_behind}

-- A part of these packets begins with the next block.
abbrev pub BeginsNext : Wanted → Type 0
BeginsNext (wants.Numbers first last) = first ≡ 1
BeginsNext _ = ⊤

-- Parts were cut one after another between two positions, each into an empty writer, without an error.
abbrev pub CutsEach : List Wanted → List (List ℕ) → Place → Place → Type 0
CutsEach [] [] a now = now ≡ a
CutsEach (wanted ∷ wants) (part ∷ parts) a now =
    (b : Place) × (outcome : Outcome) × BeginsNext wanted × CutsBlockPart wanted true a b (Some []) (Some part) outcome × (outcome.fault ≡ None) × CutsEach wants parts b now
CutsEach _ _ a now = ⊥

-- Each part is the blocks in force at its beginning, and then its own share of the blocks. The first one begins with `opening`.
abbrev pub ArePartsOf : List ℕ → List (List Lent) → List (List ℕ) → Type 0
ArePartsOf opening [] [] = ⊤
ArePartsOf opening (share ∷ shares) (part ∷ parts) = (part ≡ opening ++ bytes_in share) × ArePartsOf (opening_behind opening (map typed share)) shares parts
ArePartsOf opening _ _ = ⊥

-- No block is pending, or one with a packet.
abbrev pub HasPacketNext : Place → Type 0
HasPacketNext place = (place.pending ≡ []) ⊎ ((block : Lent) × (place.pending ≡ block ∷ []) × (has_packet block ≡ true))

-- The shares of the parts, concatenated, are the blocks between two positions.
pub record HoldsBlocks (parts : List (List ℕ)) (a now : Place) : Type 0 where
  pub shares : List (List Lent)
  pub each : ArePartsOf a.opening shares parts
  pub all : Between a now (flat_map (λ (share : List Lent). share) shares)
