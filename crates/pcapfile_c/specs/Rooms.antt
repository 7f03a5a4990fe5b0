-- Texts in the room of a call.
use Rattle.std.specs.Prelude.{◌≡◌, ◌<◌, ◌+◌, ℕ, List, length, take, drop}
use Rattle.pcapfile_values.specs.declared.errors.PcapfileError.{PcapfileError}

-- The room begins with this text, the number is its length, and what follows it is unchanged.
pub record BeginsWith (text room now : List ℕ) (written : ℕ) : Type 0 where
  pub long : written ≡ length text
  pub front : take written now ≡ text
  pub others : drop written now ≡ drop written room

-- The room is this many bytes too short for the text.
pub record NeedsRoom (text room : List ℕ) (told : PcapfileError) : Type 0 where
  pub no_rule : told.rule ≡ 0
  pub some : 0 < told.missing
  pub together : told.missing + length room ≡ length text
