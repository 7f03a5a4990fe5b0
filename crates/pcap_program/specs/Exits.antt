-- This file defines how runs of a program end: exits and statuses.
use Rattle.std.specs.Prelude.{◌≡◌, ⊤, ℕ, Result, Ok, Err}
use Rattle.std.specs.IoError.{error_kind}
use Rattle.std.specs.declared.io.ErrorKind.TheVariants.{UnexpectedEof}
use Rattle.pcap_core.specs.declared.errors.PcapError.{PcapError}
use Rattle.pcap_core.specs.declared.errors.PcapError.TheVariants.{IncompleteBuffer, IoError, OutOfMemory}
use Rattle.pcap_program.specs.declared.exit.Exit.{Exit}
use Rattle.pcap_program.specs.declared.exit.Exit.TheVariants.{Done, Refused, Most, Usage, Io, Memory}

-- The exit of a call is `Done` for `Ok`, and its error otherwise.
abbrev pub exit_of : Result (Unit {0}) Exit → Exit
exit_of (Ok done) = Done
exit_of (Err exit) = exit

-- The exit status of the process.
abbrev pub status_of : Exit → ℕ
status_of Done = 0
status_of (Refused e) = 1
status_of Most = 1
status_of Usage = 2
status_of (Io e) = 3
status_of Memory = 4

-- IsEarlyEnd exit: the exit is an `Io` whose error has the kind `UnexpectedEof`.
abbrev pub IsEarlyEnd : Exit → Type 0
IsEarlyEnd (Io (IoError e)) = error_kind e ≡ UnexpectedEof
IsEarlyEnd exit = ⊥

-- EndsAt error exit: this error ends a run with this exit.
abbrev pub EndsAt : PcapError → Exit → Type 0
EndsAt (IncompleteBuffer n) exit = IsEarlyEnd exit
EndsAt (IoError e) exit = exit ≡ Io (IoError e)
EndsAt (OutOfMemory e) exit = exit ≡ Memory
EndsAt error exit = exit ≡ Refused error

-- IsMemoryExit exit: the program is out of memory.
abbrev pub IsMemoryExit : Exit → Type 0
IsMemoryExit Memory = ⊤
IsMemoryExit exit = ⊥
