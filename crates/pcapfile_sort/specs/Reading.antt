-- The entries that the first pass keeps.
use Rattle.std.specs.Prelude.{⊤, ◌≡◌, ◌<◌, ◌≤◌, ◌+◌, ◌^◌, ◌++◌, ℕ, List, [], ◌∷◌, length, All, Bool, Option, Result, Ok, Err}
use Rattle.std.specs.Io.KnownBytes.{Consumes, IsAtEnd}
use Rattle.pcap_classic.specs.declared.pcap.header.PcapHeader.{PcapHeader}
use Rattle.pcap_classic.specs.declared.pcap.packet.PacketHeader.{PacketHeader}
use Rattle.pcap_items.specs.Reading.{HasCause}
use Rattle.pcap_walk.specs.declared.walking.Ended.{Ended}
use Rattle.pcap_walk.specs.declared.walking.Ended.TheVariants.{AtEnd, AtMost, Refused, Stopped}
use Rattle.pcapfile_sort.specs.declared.collecting.Entries.{Entries}
use Rattle.pcapfile_sort.specs.declared.collecting.Unkept.{Unkept}
use Rattle.pcapfile_sort.specs.declared.collecting.Unkept.TheVariants.{Memory, TooLong}
use Rattle.pcapfile_sort.specs.declared.sorting.Sorted.{Sorted}
use Rattle.pcapfile_sort.specs.declared.sorting.Sorted.TheVariants as outcomes
use Rattle.pcapfile_sort.specs.Entries.{entries_of}
use Rattle.pcapfile_sort.specs.Packets.{IsTimed, PacketIsSaid, time_in}
use Rattle.pcapfile_sort.specs.Ranked.{Ranked, texts_of}
use Rattle.pcapfile_sort.specs.Sortable.{Sortable}

-- The entry of one more record, which has this rank and so many bytes, is kept.
pub record KeepsOne (ranked_as bytes : ℕ) (old new : Entries) : Type 0 where
  pub kept : new.list.items ≡ old.list.items ++ record { rank = ranked_as; place = old.place; length = bytes } ∷ []
  pub place : new.place ≡ old.place + bytes

-- The entry of one more record is kept, or memory ran out, or the record ends after 2^64 bytes or more.
abbrev pub KeepsEntry : ℕ → ℕ → Entries → Entries → Result (Unit {0}) Unkept → Type 0
KeepsEntry rank bytes old new (Ok done) = KeepsOne rank bytes old new
KeepsEntry rank bytes old new (Err Memory) = ⊤
KeepsEntry rank bytes old new (Err TooLong) = 2 ^ 64 ≤ old.place + bytes

-- The entry of one more packet is kept, or not, and the packet has a header.
abbrev pub KeepsPacket : PacketHeader → List ℕ → Entries → Entries → Result (Unit {0}) Unkept → Type 0
KeepsPacket head text old new result = (16 ≤ length text) × KeepsEntry (time_in head) (length text) old new result

-- Why the first pass ended after these records, and what it kept of them.
abbrev pub EndsReading : PcapHeader → List Ranked → Option (List ℕ) → Bool → ℕ → Entries → Ended Unkept → Type 0
EndsReading header records left failed place new AtEnd = IsAtEnd left × (new.list.items ≡ entries_of place records)
EndsReading header records left failed place new AtMost = 2 ^ 64 ≤ place + length (texts_of records)
EndsReading header records left failed place new (Refused e) = HasCause (PacketIsSaid header) left failed e × (new.place ≡ place + length (texts_of records))
EndsReading header records left failed place new (Stopped Memory) = 0 < length records
EndsReading header records left failed place new (Stopped TooLong) = 2 ^ 64 ≤ place + length (texts_of records)

-- Exactly these records were read after this many bytes, and then the first pass ended.
pub record ReadsEntries (header : PcapHeader) (before : Option (List ℕ)) (failed : Bool) (place : ℕ) (new : Entries) (ended : Ended Unkept) : Type 0 where
  pub records : List Ranked
  pub left : Option (List ℕ)
  pub each : All (IsTimed header) records
  pub took : Consumes before left (texts_of records)
  pub ends : EndsReading header records left failed place new ended

module _ (f : Sortable) (opening : f.Opening) where
  -- Why the first pass over a capture ended after these records, and what it kept of them.
  abbrev pub EndsPass : List Ranked → Option (List ℕ) → Bool → Entries → Ended Unkept → Type 0
  EndsPass records rest failed new AtEnd = IsAtEnd rest × (new.list.items ≡ entries_of (length (f.lead opening)) records)
  EndsPass records rest failed new AtMost = f.AreTooMany opening records
  EndsPass records rest failed new (Refused e) = f.RefusesRest opening records rest failed e × (new.place ≡ length (f.lead opening ++ texts_of records))
  EndsPass records rest failed new (Stopped Memory) = 0 < length records
  EndsPass records rest failed new (Stopped TooLong) = f.AreTooMany opening records

  -- The first pass read this opening and exactly these records of a capture, and then it ended.
  pub record PassesOnce (capture : Option (List ℕ)) (failed : Bool) (new : Entries) (ended : Ended Unkept) : Type 0 where
    pub records : List Ranked
    pub rest : Option (List ℕ)
    pub begins : f.Begins opening records capture rest
    pub ends : EndsPass records rest failed new ended

-- The outcome of a sort for whose first pass an entry was not kept.
abbrev pub sorted_by : Unkept → Sorted
sorted_by Memory = outcomes.Memory
sorted_by TooLong = outcomes.TooLong
