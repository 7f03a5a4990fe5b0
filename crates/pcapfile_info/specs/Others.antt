-- Counts of blocks that are no packets, no interfaces and no section headers, by kind.
use Rattle.std.specs.Prelude.{◌≡◌, ◌==◌, ℕ, List, Bool, true, false, count_by, if◌then◌else◌}
use Rattle.pcapfile_run.specs.Passing.{counted}
use Rattle.pcapfile_info.specs.declared.others.Kind.{Kind}
use Rattle.pcapfile_info.specs.declared.others.Kind.TheVariants.{Names, Statistics, Journal, Secrets, Custom, Unknown}
use Rattle.pcapfile_info.specs.declared.others.Others.{Others}
use Rattle.pcapfile_info.specs.declared.seen.Sight.{Sight}
use Rattle.pcapfile_info.specs.declared.seen.Sight.TheVariants.{Other}

-- The kind of a block whose type has this number and no name in the library.
abbrev pub kind_of : ℕ → Kind
kind_of number =
    if number == 0x0000000A then Secrets
    else if number == 0x00000BAD then Custom
    else if number == 0x40000BAD then Custom
    else Unknown

-- The kind is that of blocks with names of addresses.
abbrev pub is_names : Kind → Bool
is_names Names = true
is_names _ = false

-- The kind is that of blocks with statistics.
abbrev pub is_statistics : Kind → Bool
is_statistics Statistics = true
is_statistics _ = false

-- The kind is that of journal entries.
abbrev pub is_journal : Kind → Bool
is_journal Journal = true
is_journal _ = false

-- The kind is that of blocks with secrets.
abbrev pub is_secrets : Kind → Bool
is_secrets Secrets = true
is_secrets _ = false

-- The kind is that of custom blocks.
abbrev pub is_custom : Kind → Bool
is_custom Custom = true
is_custom _ = false

-- The kind is that of blocks of any other type.
abbrev pub is_unknown : Kind → Bool
is_unknown Unknown = true
is_unknown _ = false

-- The item is no packet, no interface and no section header, and its kind is one of these.
abbrev pub is_other : (Kind → Bool) → Sight → Bool
is_other among (Other kind) = among kind
is_other among _ = false

-- The counts are those of the other blocks among these items, by kind.
pub record CountsOthers (sights : List Sight) (others : Others) : Type 0 where
  pub names : others.names ≡ counted (count_by (is_other is_names) sights)
  pub statistics : others.statistics ≡ counted (count_by (is_other is_statistics) sights)
  pub journal : others.journal ≡ counted (count_by (is_other is_journal) sights)
  pub secrets : others.secrets ≡ counted (count_by (is_other is_secrets) sights)
  pub custom : others.custom ≡ counted (count_by (is_other is_custom) sights)
  pub unknown : others.unknown ≡ counted (count_by (is_other is_unknown) sights)
