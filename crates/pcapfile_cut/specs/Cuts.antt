-- The bytes that a cut reads and writes.
use Rattle.std.specs.Prelude.{◌≡◌, ◌+◌, ◌-◌, ◌^◌, ◌&&◌, ◌++◌, ◌⊎◌, ℕ, List, [], ◌∷◌, filter, length, min, All, Bool, true, false, Option, None, Result, Ok, Err, if◌then◌else◌}
use Rattle.std.specs.Option.{IsSomeAnd}
use Rattle.std.specs.Result.{result_err}
use Rattle.std.specs.Io.KnownBytes.{Consumes, Appends, Keeps, IsAtEnd}
use Rattle.pcap_core.specs.declared.errors.PcapError.{PcapError}
use Rattle.pcap_core.specs.Answer.{Verdict, whole}
use Rattle.pcap_core.specs.Errors.{IsIo}
use Rattle.pcap_items.specs.Format.{Format}
use Rattle.pcap_items.specs.Reading.{HasCause, TakesAsked}
use Rattle.pcap_items.specs.Writing.{AppendsPart}
use Rattle.pcap_classic.specs.declared.pcap.header.PcapHeader.{PcapHeader}
use Rattle.pcap_classic.specs.Packets.{format_under}
use Rattle.pcap_classic.specs.PacketText.{Captured, packet_limit}
use Rattle.pcapfile_cut.specs.declared.cutting.Outcome.{Outcome}
use Rattle.pcapfile_cut.specs.declared.opening.Opening.{Opening}
use Rattle.pcapfile_cut.specs.declared.wanted.Wanted.{Wanted}
use Rattle.pcapfile_cut.specs.Changes.{is_unmoved, opening_for, written, written_for}
use Rattle.pcapfile_cut.specs.Choice.{Stored, WantsMore, chosen, is_new, left_out, remembers, repeats, text_of}
use Rattle.pcapfile_cut.specs.Openings.{header_of}

-- A saturated count: 2^64 - 1 for every number above it.
abbrev pub counted : ℕ → ℕ
counted n = min n (2 ^ 64 - 1)

-- The format of packets under a header.
abbrev pub packets_under : PcapHeader → Format (Unit {0}) Captured
packets_under header = format_under packet_limit header

-- The verdict of the grammar on the next packet under this header.
abbrev pub PacketIsSaid : PcapHeader → List ℕ → Verdict Captured → Type 0
PacketIsSaid header = (packets_under header).says tt

-- A cut that has read no packets, and had no failure.
pub record IsNew (outcome : Outcome) : Type 0 where
  pub packets : outcome.packets ≡ 0
  pub bytes : outcome.bytes ≡ 0
  pub duplicates : outcome.duplicates ≡ 0
  pub unmoved : outcome.unmoved ≡ 0
  pub no_read_failed : outcome.read_failed ≡ false
  pub no_write_failed : outcome.write_failed ≡ false

-- A cut that ended with this result.
abbrev pub outcome_of : Outcome → Result (Unit {0}) PcapError → Outcome
outcome_of outcome result = record outcome { fault = result_err result }

-- There are no packets, or the cut went on to read the last of them.
abbrev pub LastIsWanted : Wanted → List Stored → Type 0
LastIsWanted wanted packets =
    (packets ≡ []) ⊎ ((before : List Stored) × (last : Stored) × (packets ≡ before ++ last ∷ []) × WantsMore wanted (length before) (counted (length (text_of before))))

-- The text is exactly the packet's bytes.
abbrev pub IsStored : PcapHeader → Stored → Type 0
IsStored header stored = PacketIsSaid header stored.text (whole stored.packet [])

-- The written ones of these packets that keep their time because they cannot have the one that is asked for.
abbrev pub unmoved : PcapHeader → Wanted → List Stored → List Stored
unmoved header wanted packets = filter (λ (stored : Stored). is_unmoved header wanted stored.packet) (chosen wanted packets)

-- The cut read exactly these packets, and wrote exactly the wanted ones, each with its bytes or changed. It counted the duplicates, and
-- the packets that keep their time.
pub record Passes (header : PcapHeader) (wanted : Wanted) (packets : List Stored) (before left out mid : Option (List ℕ)) (outcome : Outcome) : Type 0 where
  pub each : All (IsStored header) packets
  pub took : Consumes before left (text_of packets)
  pub went : Appends out mid (written header wanted (chosen wanted packets))
  pub count : outcome.packets ≡ length packets
  pub bytes : outcome.bytes ≡ counted (length (text_of packets))
  pub duplicates : outcome.duplicates ≡ counted (length (left_out wanted packets))
  pub unmoved : outcome.unmoved ≡ counted (length (unmoved header wanted packets))
  pub needed : LastIsWanted wanted packets

-- The cut ended without an error, a further read or a further write: the stream is at its end, or no more packets are wanted.
pub record EndsWhole (wanted : Wanted) (left now mid out_now : Option (List ℕ)) (outcome : Outcome) : Type 0 where
  pub fine : outcome.fault ≡ None
  pub no_read_failed : outcome.read_failed ≡ false
  pub no_write_failed : outcome.write_failed ≡ false
  pub taken : Keeps left now
  pub went : Keeps mid out_now
  pub why : IsAtEnd left ⊎ (WantsMore wanted outcome.packets outcome.bytes → ⊥)

-- The cut read the next packet, which is wanted, and a write failed within its bytes.
pub record EndsTorn (header : PcapHeader) (wanted : Wanted) (packets : List Stored) (left now mid out_now : Option (List ℕ)) (outcome : Outcome) : Type 0 where
  pub torn : Stored
  pub is_stored : IsStored header torn
  pub took : Consumes left now torn.text
  pub is_wanted : chosen wanted (packets ++ torn ∷ []) ≡ chosen wanted packets ++ torn ∷ []
  pub refused : IsSomeAnd outcome.fault IsIo
  pub no_read_failed : outcome.read_failed ≡ false
  pub write_failed : outcome.write_failed ≡ true
  pub went : AppendsPart mid out_now (written_for header wanted torn)

-- The cut returned an error for the rest after reading part of it, and wrote nothing more.
pub record EndsRefused (header : PcapHeader) (left now mid out_now : Option (List ℕ)) (outcome : Outcome) : Type 0 where
  pub refused : IsSomeAnd outcome.fault (HasCause (PacketIsSaid header) left outcome.read_failed)
  pub part : TakesAsked (PacketIsSaid header) left now
  pub no_write_failed : outcome.write_failed ≡ false
  pub went : Keeps mid out_now

-- The end of a cut after these packets; it ended with an error only if it had to go on.
abbrev pub Ends : PcapHeader → Wanted → List Stored → Option (List ℕ) → Option (List ℕ) → Option (List ℕ) → Option (List ℕ) → Outcome → Type 0
Ends header wanted packets left now mid out_now outcome =
    EndsWhole wanted left now mid out_now outcome
    ⊎ (WantsMore wanted outcome.packets outcome.bytes × (EndsTorn header wanted packets left now mid out_now outcome ⊎ EndsRefused header left now mid out_now outcome))

-- The cut read packets under a header, and wrote the wanted ones, until it ended.
pub record CutsBehind (header : PcapHeader) (wanted : Wanted) (before now out out_now : Option (List ℕ)) (outcome : Outcome) : Type 0 where
  pub packets : List Stored
  pub left : Option (List ℕ)
  pub mid : Option (List ℕ)
  pub passes : Passes header wanted packets before left out mid outcome
  pub ends : Ends header wanted packets left now mid out_now outcome

-- A write failed in the opening, and the cut read and counted nothing.
pub record TearsOpening (opening : Opening) (wanted : Wanted) (before now out out_now : Option (List ℕ)) (outcome : Outcome) : Type 0 where
  pub none : outcome.packets ≡ 0
  pub no_bytes : outcome.bytes ≡ 0
  pub no_duplicates : outcome.duplicates ≡ 0
  pub no_unmoved : outcome.unmoved ≡ 0
  pub refused : IsSomeAnd outcome.fault IsIo
  pub no_read_failed : outcome.read_failed ≡ false
  pub write_failed : outcome.write_failed ≡ true
  pub taken : Keeps before now
  pub went : AppendsPart out out_now (opening_for wanted opening)

-- The cut wrote the opening, and then packets.
pub record OpensPart (opening : Opening) (wanted : Wanted) (before now out out_now : Option (List ℕ)) (outcome : Outcome) : Type 0 where
  pub behind : Option (List ℕ)
  pub opened : Appends out behind (opening_for wanted opening)
  pub cuts : CutsBehind (header_of opening) wanted before now behind out_now outcome

-- One part: a write failed in its opening, or packets follow the opening.
abbrev pub CutsPart : Opening → Wanted → Option (List ℕ) → Option (List ℕ) → Option (List ℕ) → Option (List ℕ) → Outcome → Type 0
CutsPart opening wanted before now out out_now outcome =
    TearsOpening opening wanted before now out out_now outcome ⊎ OpensPart opening wanted before now out out_now outcome

-- What a cut reads, writes, counts and remembers.
pub record Progress : Type 0 where
  pub input : Option (List ℕ)
  pub output : Option (List ℕ)
  pub outcome : Outcome
  pub recent : List (List ℕ)

-- A cut with this input, output, outcome and these remembered digests.
abbrev pub progress : Option (List ℕ) → Option (List ℕ) → Outcome → List (List ℕ) → Progress
progress input output outcome recent = record { input = input; output = output; outcome = outcome; recent = recent }

-- The cut read the next packet, and wrote it if it is wanted and no duplicate. It counted it if it is a duplicate.
pub record PassesOne (header : PcapHeader) (wanted : Wanted) (old new : Progress) : Type 0 where
  pub stored : Stored
  pub is_stored : IsStored header stored
  pub took : Consumes old.input new.input stored.text
  pub went : Appends old.output new.output (if is_new wanted old.recent (old.outcome.packets + 1) stored.packet then written_for header wanted stored else [])
  pub packets : new.outcome.packets ≡ old.outcome.packets + 1
  pub bytes : new.outcome.bytes ≡ counted (old.outcome.bytes + length stored.text)
  pub duplicates : new.outcome.duplicates ≡ counted (old.outcome.duplicates + (if repeats wanted old.recent (old.outcome.packets + 1) stored.packet then 1 else 0))
  pub unmoved : new.outcome.unmoved
      ≡ counted (old.outcome.unmoved + (if is_new wanted old.recent (old.outcome.packets + 1) stored.packet && is_unmoved header wanted stored.packet then 1 else 0))
  pub recent : new.recent ≡ remembers wanted old.recent (old.outcome.packets + 1) stored.packet
  pub no_read_failed : new.outcome.read_failed ≡ false
  pub no_write_failed : new.outcome.write_failed ≡ false

-- There is no next packet.
pub record FindsEnd (before now out out_now : Option (List ℕ)) (new : Outcome) : Type 0 where
  pub no_read_failed : new.read_failed ≡ false
  pub no_write_failed : new.write_failed ≡ false
  pub at_end : IsAtEnd before
  pub taken : Keeps before now
  pub went : Keeps out out_now

-- The cut read the next packet, which is wanted and no duplicate, and a write failed within its bytes.
pub record TearsOne (header : PcapHeader) (wanted : Wanted) (old new : Progress) (e : PcapError) : Type 0 where
  pub stored : Stored
  pub is_stored : IsStored header stored
  pub took : Consumes old.input new.input stored.text
  pub is_wanted : is_new wanted old.recent (old.outcome.packets + 1) stored.packet ≡ true
  pub refused : IsIo e
  pub no_read_failed : new.outcome.read_failed ≡ false
  pub write_failed : new.outcome.write_failed ≡ true
  pub went : AppendsPart old.output new.output (written_for header wanted stored)

-- The cut returned an error for the rest.
pub record RefusesOne (header : PcapHeader) (before now out out_now : Option (List ℕ)) (new : Outcome) (e : PcapError) : Type 0 where
  pub refused : HasCause (PacketIsSaid header) before new.read_failed e
  pub part : TakesAsked (PacketIsSaid header) before now
  pub no_write_failed : new.write_failed ≡ false
  pub went : Keeps out out_now

-- The counts of a cut are the same.
abbrev pub SameCounts : Outcome → Outcome → Type 0
SameCounts old new = (new.packets ≡ old.packets) × (new.bytes ≡ old.bytes) × (new.duplicates ≡ old.duplicates) × (new.unmoved ≡ old.unmoved)

-- One step of a cut.
abbrev pub StepsCut : PcapHeader → Wanted → Progress → Progress → Result Bool PcapError → Type 0
StepsCut header wanted old new (Ok true) = PassesOne header wanted old new
StepsCut header wanted old new (Ok false) = SameCounts old.outcome new.outcome × FindsEnd old.input new.input old.output new.output new.outcome
StepsCut header wanted old new (Err e) =
    SameCounts old.outcome new.outcome
    × (TearsOne header wanted old new e ⊎ RefusesOne header old.input new.input old.output new.output new.outcome e)
