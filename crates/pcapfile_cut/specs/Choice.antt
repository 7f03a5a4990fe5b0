-- The packets that a cut writes.
use Rattle.std.specs.Prelude.{◌<◌, ◌+◌, ◌-◌, ◌^◌, ◌&&◌, ◌++◌, ℕ, List, [], ◌∷◌, map, take, drop, filter, not, Bool, true, IsTrue, nat_le, if◌then◌else◌}
use Rattle.std.specs.List.{flat_map}
use Rattle.circular_buffer.specs.Buffer.{keep_last}
use Rattle.pcap_classic.specs.PacketText.{Captured}
use Rattle.pcapfile_cut.specs.declared.selection.Selection.{Selection}
use Rattle.pcapfile_cut.specs.declared.wanted.Wanted.{Wanted}
use Rattle.pcapfile_cut.specs.declared.wanted.Wanted.TheVariants.{All, Numbers, Bytes, Selected}
use Rattle.pcapfile_cut.specs.Duplicates.{digest_of, is_among}
use Rattle.pcapfile_cut.specs.Selections.{goes_behind, is_selected}

-- A packet record and its bytes.
pub record Stored : Type 0 where
  pub packet : Captured
  pub text : List ℕ

-- The bytes of these packets, concatenated.
abbrev pub text_of : List Stored → List ℕ
text_of packets = flat_map (λ (stored : Stored). stored.text) packets

-- A packet record with its number.
pub record Numbered : Type 0 where
  pub number : ℕ
  pub stored : Stored

-- These packets with their numbers, of which this one is the first.
abbrev pub numbered : ℕ → List Stored → List Numbered
numbered first [] = []
numbered first (stored ∷ packets) = record { number = first; stored = stored } ∷ numbered (first + 1) packets

-- Those of these packets that pass the tests of a selection.
abbrev pub selected : Selection → List Stored → List Stored
selected selection packets =
    map (λ (it : Numbered). it.stored) (filter (λ (it : Numbered). is_selected selection it.number it.stored.packet) (numbered 1 packets))

-- The digests of these packets.
abbrev pub digests_of : List Stored → List (List ℕ)
digests_of packets = map (λ (stored : Stored). digest_of stored.packet) packets

-- A packet record with all packets before it.
pub record Preceded : Type 0 where
  pub before : List Stored
  pub stored : Stored

-- These packets with all packets before each: the given ones, and those of these that precede it.
abbrev pub preceded : List Stored → List Stored → List Preceded
preceded before [] = []
preceded before (stored ∷ packets) = record { before = before; stored = stored } ∷ preceded (before ++ stored ∷ []) packets

-- The packet is a duplicate: its digest is one of the last n digests of the packets before it.
abbrev pub is_duplicate : ℕ → Preceded → Bool
is_duplicate n it = is_among (digest_of it.stored.packet) (keep_last n (digests_of it.before))

-- The packets that are duplicates.
abbrev pub duplicates : ℕ → List Stored → List Stored
duplicates n packets = map (λ (it : Preceded). it.stored) (filter (λ (it : Preceded). is_duplicate n it) (preceded [] packets))

-- The packets that are no duplicates.
abbrev pub distinct : ℕ → List Stored → List Stored
distinct n packets = map (λ (it : Preceded). it.stored) (filter (λ (it : Preceded). not (is_duplicate n it)) (preceded [] packets))

-- The wanted ones of these packets.
abbrev pub chosen : Wanted → List Stored → List Stored
chosen All packets = packets
chosen (Numbers first last) packets = drop (first - 1) (take last packets)
chosen (Bytes most) packets = packets
chosen (Selected selection) packets = distinct selection.now.dedup (selected selection.now packets)

-- The ones of these packets that are left out as duplicates.
abbrev pub left_out : Wanted → List Stored → List Stored
left_out (Selected selection) packets = duplicates selection.now.dedup (selected selection.now packets)
left_out _ packets = []

-- How many of the packets before it a packet is compared with.
abbrev pub dedup_of : Wanted → ℕ
dedup_of (Selected selection) = selection.now.dedup
dedup_of _ = 0

-- The cut goes on after this many packets of this many bytes.
abbrev pub WantsMore : Wanted → ℕ → ℕ → Type 0
WantsMore All packets bytes = packets < 2 ^ 64 - 1
WantsMore (Numbers first last) packets bytes = packets < last
WantsMore (Bytes most) packets bytes = (packets < 2 ^ 64 - 1) × (bytes < most)
WantsMore (Selected selection) packets bytes = (packets < 2 ^ 64 - 1) × IsTrue (goes_behind selection.now packets)

-- The packet of this number passes the tests.
abbrev pub takes : Wanted → ℕ → Captured → Bool
takes All number packet = true
takes (Numbers first last) number packet = nat_le first number && nat_le number last
takes (Bytes most) number packet = true
takes (Selected selection) number packet = is_selected selection.now number packet

-- The packet of this number passes the tests, and its digest is one of these.
abbrev pub repeats : Wanted → List (List ℕ) → ℕ → Captured → Bool
repeats wanted digests number packet = takes wanted number packet && is_among (digest_of packet) digests

-- The packet of this number passes the tests, and its digest is none of these.
abbrev pub is_new : Wanted → List (List ℕ) → ℕ → Captured → Bool
is_new wanted digests number packet = takes wanted number packet && not (is_among (digest_of packet) digests)

-- The digests that are remembered after the packet of this number, if these were before it.
abbrev pub remembers : Wanted → List (List ℕ) → ℕ → Captured → List (List ℕ)
remembers wanted digests number packet = if takes wanted number packet then keep_last (dedup_of wanted) (digests ++ digest_of packet ∷ []) else digests
