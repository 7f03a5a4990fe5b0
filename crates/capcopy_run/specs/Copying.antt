-- This file defines how a copy ends.
use Rattle.std.specs.Prelude.{◌≡◌, ◌<◌, ◌⊎◌, ℕ, List, Option, None, Some, IfSome}
use Rattle.pcap_core.specs.declared.errors.PcapError.{PcapError}
use Rattle.pcap_classic.specs.declared.run.copy.Copied.{Copied}
use Rattle.pcap_classic.specs.declared.run.copy.Under.{Under}
use Rattle.pcap_classic.specs.Copies.{CopyRun, CopyFront}
use Rattle.pcap_program.specs.declared.exit.Exit.{Exit}
use Rattle.pcap_program.specs.declared.exit.Exit.TheVariants.{Done, Most}
use Rattle.pcap_program.specs.Exits.{EndsAt}

-- EndsCopy most n fault exit: a copy of n packets ends at the exit of its fault, else at `Most` if n is the most, else at `Done`.
abbrev pub EndsCopy : ℕ → ℕ → Option PcapError → Exit → Type 0
EndsCopy most n None exit = ((n ≡ most) × (exit ≡ Most)) ⊎ ((n < most) × (exit ≡ Done))
EndsCopy most n (Some error) exit = EndsAt error exit

-- CopiesUntil: a capture was copied, and the run ended with this exit.
pub record CopiesUntil (under : Under) (before now out_before out_now : Option (List ℕ)) (most : ℕ) (exit : Exit) : Type 0 where
  pub copied : Copied
  pub run : CopyRun under before now out_before out_now most copied
  pub front : IfSome before (λ s. CopyFront under s now out_before out_now most copied)
  pub ends : EndsCopy most copied.packets copied.fault exit
