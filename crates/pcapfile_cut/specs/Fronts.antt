-- A cut of known bytes, in terms of their front, and the parts that are cut and joined.
use Rattle.std.specs.Prelude.{⊤, ◌≡◌, ◌++◌, ◌⊎◌, ℕ, List, [], ◌∷◌, length, map, Option, None, Some, Bool, true, false}
use Rattle.std.specs.List.{AllZip, flat_map}
use Rattle.std.specs.Option.{IsSomeAnd}
use Rattle.std.specs.Io.KnownBytes.{Appends, Keeps}
use Rattle.pcap_items.specs.Format.{Front, Texts}
use Rattle.pcap_core.specs.declared.errors.PcapError.{PcapError}
use Rattle.pcap_core.specs.Errors.{IsMemory, IsIo}
use Rattle.pcap_items.specs.Reading.{HasCause, TakesAsked}
use Rattle.pcap_classic.specs.declared.pcap.header.PcapHeader.{PcapHeader}
use Rattle.pcap_classic.specs.PacketText.{Captured}
use Rattle.pcapfile_cut.specs.declared.cutting.Outcome.{Outcome}
use Rattle.pcapfile_cut.specs.declared.joining.Joined.{Joined}
use Rattle.pcapfile_cut.specs.declared.joining.Joined.TheVariants.{Packets}
use Rattle.pcapfile_cut.specs.declared.opening.Opening.{Opening}
use Rattle.pcapfile_cut.specs.declared.wanted.Wanted.{Wanted}
use Rattle.pcapfile_cut.specs.declared.wanted.Wanted.TheVariants.{All, Numbers, Bytes, Selected}
use Rattle.pcapfile_cut.specs.Changes.{written}
use Rattle.pcapfile_cut.specs.Choice.{Stored, WantsMore, chosen, left_out, text_of}
use Rattle.pcapfile_cut.specs.Cuts.{EndsTorn, OpensPart, PacketIsSaid, counted, packets_under, unmoved}
use Rattle.pcapfile_cut.specs.Joins.{JoinsPart}
use Rattle.pcapfile_cut.specs.Openings.{bytes_of, header_of}

-- The packets without their bytes.
abbrev pub packets_of : List Stored → List Captured
packets_of stored = map (λ (s : Stored). s.packet) stored

-- The cut ended without an error: no bytes are left, or no more packets are wanted.
pub record EndsAll (wanted : Wanted) (more : List Stored) (rest left : List ℕ) (now mid out_now : Option (List ℕ)) (outcome : Outcome) : Type 0 where
  pub fine : outcome.fault ≡ None
  pub taken : Keeps (Some left) now
  pub went : Keeps mid out_now
  pub why : ((more ≡ []) × (rest ≡ [])) ⊎ (WantsMore wanted outcome.packets outcome.bytes → ⊥)

-- The cut read the next packet of the front, which is wanted, and a write failed within its bytes.
pub record TearsNext (header : PcapHeader) (wanted : Wanted) (packets more : List Stored) (left : List ℕ) (now mid out_now : Option (List ℕ)) (outcome : Outcome) : Type 0 where
  pub ends : EndsTorn header wanted packets (Some left) now mid out_now outcome
  pub others : List Captured
  pub next : packets_of more ≡ ends.torn.packet ∷ others

-- The reason for an error: a read failed, memory ran out, or the front is complete and the rest is truncated or malformed.
abbrev pub StopsFront : PcapHeader → List Captured → List ℕ → Bool → PcapError → Type 0
StopsFront header more rest failed e =
    (IsIo e × (failed ≡ true)) ⊎ (IsMemory e × (failed ≡ false)) ⊎ ((more ≡ []) × HasCause (PacketIsSaid header) (Some rest) failed e)

-- The cut ended with an error after the packets that it read: of a read, of memory, or of the rest after the whole front.
pub record RefusesRest (header : PcapHeader) (more : List Stored) (rest left : List ℕ) (now mid out_now : Option (List ℕ)) (outcome : Outcome) : Type 0 where
  pub refused : IsSomeAnd outcome.fault (StopsFront header (packets_of more) rest outcome.read_failed)
  pub part : TakesAsked (PacketIsSaid header) (Some left) now
  pub went : Keeps mid out_now

-- The packets of the front of s are those that the cut read, and more. The cut wrote the wanted ones of those that it read, which are the
-- first wanted ones of the whole front.
pub record CutsFront (header : PcapHeader) (wanted : Wanted) (s : List ℕ) (now out out_now : Option (List ℕ)) (outcome : Outcome) : Type 0 where
  pub packets : List Stored
  pub more : List Stored
  pub left : List ℕ
  pub rest : List ℕ
  pub mid : Option (List ℕ)
  pub front : Front (packets_under header) tt (packets_of (packets ++ more)) s rest
  pub bytes : s ≡ text_of (packets ++ more) ++ rest
  pub place : s ≡ text_of packets ++ left
  pub went : Appends out mid (written header wanted (chosen wanted packets))
  pub count : outcome.packets ≡ length packets
  pub duplicates : outcome.duplicates ≡ counted (length (left_out wanted packets))
  pub unmoved : outcome.unmoved ≡ counted (length (unmoved header wanted packets))
  pub first_ones : (others : List Stored) × (chosen wanted (packets ++ more) ≡ chosen wanted packets ++ others)
  pub ends : EndsAll wanted more rest left now mid out_now outcome ⊎ TearsNext header wanted packets more left now mid out_now outcome
      ⊎ RefusesRest header more rest left now mid out_now outcome

-- Every packet that such a cut reads is wanted.
abbrev pub TakesAll : Wanted → Type 0
TakesAll All = ⊤
TakesAll (Numbers first last) = first ≡ 1
TakesAll (Bytes most) = ⊤
TakesAll (Selected selection) = ⊥

-- The packets s are cut into these parts one after another, each into an empty writer, without an error; `left` is in no part.
abbrev pub CutsInto : Opening → List Wanted → List (List ℕ) → List ℕ → List ℕ → Type 0
CutsInto opening [] [] s left = s ≡ left
CutsInto opening (wanted ∷ wants) (part ∷ parts) s left =
    TakesAll wanted × ((behind : List ℕ) × (outcome : Outcome) × OpensPart opening wanted (Some s) (Some behind) (Some []) (Some part) outcome × (outcome.fault ≡ None) × CutsInto opening wants parts behind left)
CutsInto opening _ _ s left = ⊥

-- The part is the opening and the bytes of these packets.
abbrev pub IsPart : Opening → List Captured → List ℕ → Type 0
IsPart opening packets part = (text : List ℕ) × (part ≡ bytes_of opening ++ text) × Texts (packets_under (header_of opening)) tt packets text []

-- The packets of s before `left` are the packets of the parts, concatenated.
pub record HoldsPackets (opening : Opening) (parts : List (List ℕ)) (s left : List ℕ) : Type 0 where
  pub packets : List (List Captured)
  pub each : AllZip (IsPart opening) packets parts
  pub all : Texts (packets_under (header_of opening)) tt (flat_map (λ (ps : List Captured). ps) packets) s left

-- A part was joined without an error, and had fewer packets than can be counted.
abbrev pub IsJoined : Joined → Type 0
IsJoined (Packets outcome) = (outcome.fault ≡ None) × WantsMore All outcome.packets outcome.bytes
IsJoined _ = ⊥

-- These parts were appended to others, one after another.
abbrev pub JoinsOthers : Opening → List (List ℕ) → List ℕ → List ℕ → Type 0
JoinsOthers opening [] out out_now = out_now ≡ out
JoinsOthers opening (part ∷ parts) out out_now =
    (now : Option (List ℕ)) × (mid : List ℕ) × (joined : Joined) × JoinsPart opening (Some part) now (Some out) (Some mid) joined × IsJoined joined × JoinsOthers opening parts mid out_now
