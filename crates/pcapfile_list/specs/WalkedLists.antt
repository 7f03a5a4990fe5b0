-- This file defines how a list ends that is a walk over a capture.
use Rattle.std.specs.Prelude.{◌≡◌, ⊤, Result, Ok, Err}
use Rattle.pcap_core.specs.declared.errors.PcapError.TheVariants.{IoError}
use Rattle.pcap_walk.specs.declared.walking.Ended.{Ended}
use Rattle.pcap_walk.specs.declared.walking.Ended.TheVariants.{AtEnd, AtMost, Refused, Stopped}
use Rattle.pcap_program.specs.declared.exit.Exit.{Exit}
use Rattle.pcap_program.specs.declared.exit.Exit.TheVariants.{Io, Most}
use Rattle.pcap_program.specs.Exits.{EndsAt}

-- IsFailedWrite exit: the exit is an `Io` that holds an `IoError`.
abbrev pub IsFailedWrite : Exit → Type 0
IsFailedWrite (Io (IoError e)) = ⊤
IsFailedWrite exit = ⊥

-- IsResultOf ended result: a list whose walk ended like this has this result.
abbrev pub IsResultOf : Ended Exit → Result (Unit {0}) Exit → Type 0
IsResultOf AtEnd result = result ≡ Ok tt
IsResultOf AtMost result = result ≡ Err Most
IsResultOf (Refused error) result = (exit : Exit) × (result ≡ Err exit) × EndsAt error exit
IsResultOf (Stopped exit) result = result ≡ Err exit
