-- The results of calls that append bytes to a buffer.
use Rattle.std.specs.Prelude.{◌≡◌, ◌≤◌, ◌<◌, ◌^◌, ℕ, List, ◌++◌, length, All, Any, Result, Ok, Err}
use Rattle.std.specs.List.{flat_map}
use Rattle.pcap_core.specs.declared.errors.PcapError.{PcapError}
use Rattle.pcap_core.specs.declared.errors.PcapError.TheVariants.{InvalidField, OutOfMemory}
use Rattle.pcap_written.specs.declared.unwritable.Unwritable.{Unwritable}
use Rattle.pcap_written.specs.declared.unwritable.Unput.{Unput}
use Rattle.pcap_written.specs.declared.unwritable.Unput.TheVariants.{Memory, Unfit}
use Rattle.pcap_options.specs.Names.{HasNoZero}
use Rattle.pcap_written.specs.declared.unwritable.Unwritable.TheVariants as flaws
use Rattle.pcap_written.specs.Bodies.{name_text}
use Rattle.pcap_written.specs.Fits.{IsFitName}
use Rattle.pcap_written.specs.Flaws.{flaw_message}

-- Bytes were not appended: memory ran out, or they can't be written for this reason.
abbrev pub RefusesPut : (Unwritable → Type 0) → Unput → Type 0
RefusesPut Stands (Memory e) = Unit {0}
RefusesPut Stands (Unfit flaw) = Stands flaw

-- This text was appended, and is read as it was; or it was not appended.
abbrev pub Puts : Type 0 → (Unwritable → Type 0) → List ℕ → List ℕ → List ℕ → Result (Unit {0}) Unput → Type 0
Puts IsFit Stands text old new (Ok u) = (new ≡ old ++ text) × IsFit
Puts IsFit Stands text old new (Err e) = RefusesPut Stands e

-- The error that a caller gets if bytes were not appended.
abbrev pub IsShownAs : Unput → PcapError → Type 0
IsShownAs (Memory e) (OutOfMemory shown) = shown ≡ e
IsShownAs (Unfit flaw) (InvalidField message) = message.now ≡ flaw_message flaw
IsShownAs _ _ = ⊥

-- The names and their zero bytes have `len` bytes, and each name can be written; or one can't, or they are too long.
abbrev pub MeasuresNames : List (List ℕ) → Result ℕ Unwritable → Type 0
MeasuresNames names (Ok len) = (length (flat_map name_text names) ≡ len) × (len < 2 ^ 16) × All IsFitName names
MeasuresNames names (Err flaws.NameWithZero) = Any (λ name. HasNoZero name → ⊥) names
MeasuresNames names (Err flaws.RecordTooLong) = 2 ^ 16 ≤ length (flat_map name_text names)
MeasuresNames names (Err _) = ⊥
