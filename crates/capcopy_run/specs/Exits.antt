-- This file defines the messages of runs of `capcopy`, and the exits of its known words.
use Rattle.std.specs.Prelude.{⊤, ℕ, List, [], ◌++◌, codes}
use Rattle.pcap_core.specs.declared.errors.PcapError.TheVariants.{IoError}
use Rattle.pcap_core.specs.Errors.{error_message}
use Rattle.pcap_program.specs.declared.exit.Exit.{Exit}
use Rattle.pcap_program.specs.declared.exit.Exit.TheVariants.{Done, Refused, Most, Usage, Io, Memory}

-- The message on standard error; that of a refusal ends with the message of the error.
abbrev pub message_of : Exit → List ℕ
message_of Done = []
message_of (Refused e) = codes "capcopy: " ++ error_message e
message_of Most = codes "capcopy: limit reached"
message_of Usage = codes "usage: capcopy list | copy [big|little micro|nano] | blocks"
message_of (Io e) = codes "capcopy: input or output failed or ended early"
message_of Memory = codes "capcopy: out of memory"

-- IsOfKnownWord exit: the exit is one of a known word, and an `Io` holds an `IoError`: of a read, of a write or of an early end.
abbrev pub IsOfKnownWord : Exit → Type 0
IsOfKnownWord Usage = ⊥
IsOfKnownWord (Refused (IoError e)) = ⊥
IsOfKnownWord (Io (IoError e)) = ⊤
IsOfKnownWord (Io error) = ⊥
IsOfKnownWord exit = ⊤
