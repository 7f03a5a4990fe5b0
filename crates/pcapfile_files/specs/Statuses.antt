-- This file defines the exit statuses of the program `pcapfile`.
use Rattle.std.specs.Prelude.{ℕ}
use Rattle.std.specs.declared.io.ErrorKind.{ErrorKind}
use Rattle.std.specs.declared.io.ErrorKind.TheVariants.{BrokenPipe, OutOfMemory}

-- The exit status for a read or write that failed with this kind: 4 when out of memory, 141 when nobody reads the output any more, else 3.
abbrev pub failed_status : ErrorKind → ℕ
failed_status OutOfMemory = 4
failed_status BrokenPipe = 141
failed_status kind = 3
