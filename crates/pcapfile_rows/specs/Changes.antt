-- This file defines which packets and blocks of a damaged capture are guesses, and which are left out.
use Rattle.std.specs.Prelude.{Bool, true, false}
use Rattle.pcapfile_rows.specs.declared.change.Change.{Change}
use Rattle.pcapfile_rows.specs.declared.change.Change.TheVariants.{Length, Found, Empty, Oversized, Unconfirmed, CutOff, Undescribed as OfUndescribed}
use Rattle.pcapfile_rows.specs.declared.describing.Fate.{Fate}
use Rattle.pcapfile_rows.specs.declared.describing.Fate.TheVariants.{Described, Kept, OthersDiffer, TooHigh, Disputed}
use Rattle.pcapfile_rows.specs.declared.describing.Source.{Source}
use Rattle.pcapfile_rows.specs.declared.describing.Source.TheVariants.{Others, Header, Link, Assumed}

-- Packets are guesses if the description of their interface is one.
abbrev pub is_guessed_source : Source → Bool
is_guessed_source Others = false
is_guessed_source Header = false
is_guessed_source Link = true
is_guessed_source Assumed = true

-- Packets of an undescribed interface are guesses if their description is one, or if they have none.
abbrev pub is_guessed_fate : Fate → Bool
is_guessed_fate (Described link source) = is_guessed_source source
is_guessed_fate Kept = true
is_guessed_fate OthersDiffer = false
is_guessed_fate TooHigh = false
is_guessed_fate Disputed = false

-- They are left out if no description fits.
abbrev pub is_left_out_fate : Fate → Bool
is_left_out_fate (Described link source) = false
is_left_out_fate Kept = false
is_left_out_fate OthersDiffer = true
is_left_out_fate TooHigh = true
is_left_out_fate Disputed = true

-- The report on a packet or block says that it is a guess.
abbrev pub is_guessed : Change → Bool
is_guessed (Length stated length guess) = guess
is_guessed Found = true
is_guessed Empty = true
is_guessed Oversized = true
is_guessed (Unconfirmed len) = true
is_guessed (CutOff present whole) = false
is_guessed (OfUndescribed packets) = is_guessed_fate packets.fate

-- The report on a packet or block says that it is left out.
abbrev pub is_left_out : Change → Bool
is_left_out (OfUndescribed packets) = is_left_out_fate packets.fate
is_left_out other = false
