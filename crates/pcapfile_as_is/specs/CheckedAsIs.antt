-- This file defines the results of checking a capture leniently.
use Rattle.std.specs.Prelude.{ℕ, List, ◌++◌, ◌==◌, codes, Option, Bool, not, max, if◌then◌else◌, option_map, ◌&&◌}
use Rattle.std.specs.Fmt.{decimal}
use Rattle.pcapfile_run.specs.Lines.{line_of, status_of}
use Rattle.pcapfile_as_is.specs.declared.checked.CheckedAsIs.{CheckedAsIs}
use Rattle.pcapfile_as_is.specs.Counts.{one_if}

-- is_sound found: nothing has a flaw, and nothing is left out.
abbrev pub is_sound : CheckedAsIs → Bool
is_sound found = (found.flawed == 0) && (found.left_out == 0)

-- The exit status of a process with this result: the greater of the status of the end and 1 if the capture isn't sound.
abbrev pub status_as_is : CheckedAsIs → ℕ
status_as_is found = max (status_of found.checked.end) (one_if (not (is_sound found)))

-- The text with the number of bytes left out, if any.
abbrev pub left_out_text : ℕ → List ℕ
left_out_text n = if n == 0 then codes " with flaws" else codes " with flaws, " ++ (decimal n ++ codes " bytes left out")

-- The line of a capture, without its newline: the line of its check, the number of items with flaws, and the number of bytes left out.
abbrev pub line_as_is : CheckedAsIs → Option (List ℕ)
line_as_is found = option_map (λ line. line ++ (codes "; " ++ (decimal found.flawed ++ left_out_text found.left_out))) (line_of found.checked)
