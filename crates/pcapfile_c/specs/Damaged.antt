-- What the calls return that read damaged captures.
use Rattle.std.specs.Prelude.{◌≡◌, ◌<◌, ◌≤◌, ◌+◌, ◌⊎◌, ℕ, ℤ, pos, List, length, take, Bool, true, false, Option, Some, Result, Ok, Err, nat_lt, if◌then◌else◌}
use Rattle.pcap_core.specs.declared.common.Endianness.{Endianness}
use Rattle.pcap_core.specs.declared.rules.Rule.TheVariants.{SectionMagic}
use Rattle.pcap_classic.specs.declared.pcap.header.PcapHeader.{PcapHeader}
use Rattle.pcap_damaged.specs.declared.judged.Judged.{Judged}
use Rattle.pcap_damaged.specs.declared.judged.Judged.TheVariants as judged
use Rattle.pcap_damaged.specs.Judged.{Judges}
use Rattle.pcap_damaged.specs.Lengths.{FirstPackets}
use Rattle.pcap_tolerant_captures.specs.Places.{FindsBlocks}
use Rattle.pcap_tolerant_captures.specs.Resync.{SectionResyncs}
use Rattle.pcapfile_values.specs.declared.errors.PcapfileError.{PcapfileError}
use Rattle.pcapfile_values.specs.declared.shown.PcapfileHeader.{PcapfileHeader}
use Rattle.pcapfile_values.specs.Blocks.{order_shown}
use Rattle.pcapfile_values.specs.Refusals.{ShowsRule}
use Rattle.pcapfile_values.specs.Shown.{shown_header}
use Rattle.pcapfile_c.specs.declared.damaged.Window.{Window}
use Rattle.pcapfile_c.specs.Readers.{Reader}

-- A header that the struct shows has this property.
abbrev pub Under : PcapfileHeader → (PcapHeader → Type 0) → Type 0
Under shown Has = (header : PcapHeader) × (shown_header header ≡ shown) × Has header

-- What a gap and a length say of the front: a packet of its stored length, one of this length, or so many corrupt bytes before other packets.
abbrev pub ShowsFront : (Judged → Type 0) → ℕ × ℕ → Type 0
ShowsFront Is told = ((told.0 ≡ 0) × (told.1 ≡ 0) × Is judged.Packet)
    ⊎ (((told.0 ≡ 0) × (0 < told.1) × Is (judged.Length told.1))
    ⊎ ((0 < told.0) × (told.1 ≡ 0) × Is (judged.Gap told.0)))

-- Status 0: a packet or a gap is at the front. Status 8: corrupt bytes. Status 1: so many bytes are missing.
abbrev pub TellsJudged : (Judged → Type 0) → Reader (List ℕ) (ℕ × ℕ) → Reader (List ℕ) (ℕ × ℕ) → ℤ → Type 0
TellsJudged Is old new status =
    ((status ≡ pos 0) × (new.error ≡ old.error) × ShowsFront Is new.value)
    ⊎ (((status ≡ pos 8) × (new.error ≡ old.error) × (new.value ≡ old.value) × Is judged.Corrupt)
    ⊎ ((status ≡ pos 1) × (new.error.rule ≡ 0) × (new.value ≡ old.value) × Is (judged.Missing new.error.missing)))

-- What a call returns of the front of the bytes behind a packet at this time. They end the capture if `all` is not 0.
abbrev pub TellsFront : PcapfileHeader → ℕ → ℕ → Reader (List ℕ) (ℕ × ℕ) → Reader (List ℕ) (ℕ × ℕ) → ℤ → Type 0
TellsFront shown time all old new status =
    Under shown (λ header. TellsJudged (Judges header time (nat_lt 0 all) old.left) old new status)

-- Bytes that are searched at once: at the places before the bound, and whether the capture ends with them.
pub record Searched : Type 0 where
  pub bytes : List ℕ
  pub bound : ℕ
  pub last : Bool

-- How many bytes are searched at once.
abbrev pub most_searched : ℕ
most_searched = 2097152

-- The whole rest of a capture is searched.
pub record IsWhole (all : Bool) (s : List ℕ) (searched : Searched) : Type 0 where
  pub all_is : all ≡ true
  pub short : length s ≤ most_searched
  pub bytes : searched.bytes ≡ s
  pub bound : searched.bound ≡ length s
  pub last : searched.last ≡ true

-- A front of the rest is searched, at places behind which four packets that break no rule end in it.
pub record IsFront (all : Bool) (s : List ℕ) (searched : Searched) : Type 0 where
  pub long : most_searched ≤ length s
  pub no_end : all ≡ true → most_searched < length s
  pub bytes : searched.bytes ≡ take most_searched s
  pub bound : searched.bound + 1048640 ≡ most_searched
  pub last : searched.last ≡ false

-- These bytes are searched first.
abbrev pub IsSearched : Bool → List ℕ → Searched → Type 0
IsSearched all s searched = IsWhole all s searched ⊎ IsFront all s searched

-- So many bytes are missing of those that are searched at once.
abbrev pub LacksSearched : Bool → List ℕ → ℕ → Type 0
LacksSearched all s n = (all ≡ false) × (length s < most_searched) × (length s + n ≡ most_searched)

-- The first place in the searched bytes from which packets go on behind a packet at this time, or else three that break no rule.
abbrev pub PacketsGoOn : PcapfileHeader → ℕ → Searched → Option ℕ → Type 0
PacketsGoOn shown time searched found = Under shown (λ header. FirstPackets header time searched.bound searched.bytes found)

-- The first place of a section header before the first section, and later the place at which blocks go on in the section's byte order.
pub record BlocksGoOn (magic : ℕ) (searched : Searched) (found : Option ℕ) : Type 0 where
  pub first : magic ≡ 0 → SectionResyncs searched.bytes found
  pub later : (e : Endianness) → (magic ≡ 0 → ⊥) → order_shown magic ≡ Some e → FindsBlocks e searched.bytes found

-- A truth value as a number.
abbrev pub number_of_truth : Bool → ℕ
number_of_truth truth = if truth then 1 else 0

-- The bytes before the place that was found are skipped, and no corrupt ones follow them. If none was found before the bound, the bytes before
-- the bound are skipped, and more may follow unless the capture ends there.
abbrev pub SkipsTo : Option ℕ → Searched → ℕ × ℕ → Type 0
SkipsTo found searched told = ((found ≡ Some told.0) × (told.0 < searched.bound) × (told.1 ≡ 1))
    ⊎ (((place : ℕ) → found ≡ Some place → searched.bound ≤ place) × (told.0 ≡ searched.bound) × (told.1 ≡ number_of_truth searched.last))

-- Status 0: these bytes are skipped by what is found in the searched ones. Status 1: so many bytes are missing of these.
abbrev pub Skips : (Searched → Option ℕ → Type 0) → ℕ → Reader (List ℕ) (ℕ × ℕ) → Reader (List ℕ) (ℕ × ℕ) → ℤ → Type 0
Skips Finds all old new status =
    ((status ≡ pos 0) × (new.error ≡ old.error) × (searched : Searched) × IsSearched (nat_lt 0 all) old.left searched
    × (found : Option ℕ) × Finds searched found × SkipsTo found searched new.value)
    ⊎ ((status ≡ pos 1) × (new.error.rule ≡ 0) × (new.value ≡ old.value) × LacksSearched (nat_lt 0 all) old.left new.error.missing)

-- The magic number is that of no section, and nothing is changed but the error.
abbrev pub RefusesSection : ℕ × ℕ → ℕ × ℕ → PcapfileError → ℤ → Type 0
RefusesSection before after told status = (status ≡ pos 3) × ShowsRule SectionMagic told × (after ≡ before)

-- What a window of the code has.
abbrev pub searched_in : Window → Searched
searched_in window = record { bytes = window.bytes.now; bound = window.bound; last = window.is_last }

-- The window of these bytes, or how many bytes it lacks.
abbrev pub ShowsWindow : Bool → List ℕ → Result Window ℕ → Type 0
ShowsWindow all s (Ok window) = IsSearched all s (searched_in window)
ShowsWindow all s (Err n) = LacksSearched all s n
