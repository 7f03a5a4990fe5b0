-- A cut of selected packets that is made one packet at a time.
use Rattle.std.specs.Prelude.{◌≡◌, ◌<◌, ◌-◌, ◌^◌, ◌⊎◌, ℕ, List, [], Bool, true, false, not, Option, Result, Ok, IsTrue}
use Rattle.pcap_core.specs.declared.errors.PcapError.{PcapError}
use Rattle.pcapfile_cut.specs.declared.opening.Opening.{Opening}
use Rattle.pcapfile_cut.specs.declared.selection.Selection.{Selection}
use Rattle.pcapfile_cut.specs.declared.stepping.PacketCutter.{PacketCutter}
use Rattle.pcapfile_cut.specs.declared.wanted.Wanted.{Wanted}
use Rattle.pcapfile_cut.specs.declared.wanted.Wanted.TheVariants.{All, Numbers, Bytes, Selected}
use Rattle.pcapfile_cut.specs.Cuts.{IsNew, Progress, StepsCut, progress}
use Rattle.pcapfile_cut.specs.Duplicates.{remembered}
use Rattle.pcapfile_cut.specs.Openings.{header_of}
use Rattle.pcapfile_cut.specs.Selections.{goes_behind}

-- A cut of the selected packets after this opening, which has read and remembers no packet.
pub record Begins (opening : Opening) (selection : Selection) (cutter : PacketCutter) : Type 0 where
  pub under : cutter.header ≡ header_of opening
  pub tests : cutter.selection ≡ selection
  pub new : IsNew cutter.outcome
  pub none : remembered cutter.recent ≡ []
  pub goes_on : cutter.has_ended ≡ false

-- The cutter has the same header and the same selection.
pub record StaysThat (old new : PacketCutter) : Type 0 where
  pub header : new.header ≡ old.header
  pub selection : new.selection ≡ old.selection

-- What a cutter has read, written, counted and remembers, with this input and output.
abbrev pub progress_of : PacketCutter → Option (List ℕ) → Option (List ℕ) → Progress
progress_of cutter input output = progress input output cutter.outcome (remembered cutter.recent)

-- These packets are wanted.
abbrev pub IsOf : Selection → Wanted → Type 0
IsOf selection (Selected wanted) = wanted.now ≡ selection
IsOf selection _ = ⊥

-- No step has ended the cut, and a wanted number is above its count.
pub record GoesOn (cutter : PacketCutter) : Type 0 where
  pub not_ended : cutter.has_ended ≡ false
  pub countable : cutter.outcome.packets < 2 ^ 64 - 1
  pub wants : IsTrue (goes_behind cutter.selection cutter.outcome.packets)

-- The step ended the cut, unless it read a packet.
abbrev pub ends_with : Result Bool PcapError → Bool
ends_with (Ok is_more) = not is_more
ends_with _ = true

-- The cutter went on by one step of a cut of its selected packets.
pub record StepsOn (old new : PacketCutter) (before after : Progress) (result : Result Bool PcapError) : Type 0 where
  pub goes_on : GoesOn old
  pub wanted : Wanted
  pub is_of : IsOf old.selection wanted
  pub steps : StepsCut old.header wanted before after result
  pub ended : new.has_ended ≡ ends_with result

-- The cut had ended or needs no further packet, and nothing was read or written.
pub record StaysEnded (old new : PacketCutter) (before after : Progress) (result : Result Bool PcapError) : Type 0 where
  pub ended : GoesOn old → ⊥
  pub none : result ≡ Ok false
  pub same : after ≡ before
  pub still : new.has_ended ≡ old.has_ended

-- One call of a step.
abbrev pub StepsOnce : PacketCutter → PacketCutter → Progress → Progress → Result Bool PcapError → Type 0
StepsOnce old new before after result = StepsOn old new before after result ⊎ StaysEnded old new before after result
