-- The reasons why the library refuses a call, and their numbers.
use Rattle.std.specs.Prelude.{◌≡◌, ℕ, ℤ, pos, List, codes}
use Rattle.pcap_core.specs.Faults.{rule_message}
use Rattle.pcap_core.specs.Rules.{number_of, name_of}
use Rattle.pcap_written.specs.declared.unwritable.Unwritable.TheVariants as flaws
use Rattle.pcap_written.specs.Flaws.{flaw_message}
use Rattle.pcapfile_values.specs.declared.errors.PcapfileError.{PcapfileError}
use Rattle.pcapfile_values.specs.declared.reasons.Reason.{Reason}
use Rattle.pcapfile_values.specs.declared.reasons.Reason.TheVariants as reasons

-- The number of a reason in the tables of refusals.
abbrev pub reason_number : Reason → ℕ
reason_number (reasons.Breaks rule) = number_of rule
reason_number reasons.LinkTooLarge = 2001
reason_number reasons.InterfaceMissing = 2002
reason_number reasons.InterfacesFull = 2003
reason_number reasons.BlockTooLong = 2004

-- The name of a reason.
abbrev pub reason_name : Reason → List ℕ
reason_name (reasons.Breaks rule) = name_of rule
reason_name reasons.LinkTooLarge = codes "LinkTooLarge"
reason_name reasons.InterfaceMissing = codes "InterfaceMissing"
reason_name reasons.InterfacesFull = codes "InterfacesFull"
reason_name reasons.BlockTooLong = codes "BlockTooLong"

-- The message of a reason.
abbrev pub reason_message : Reason → List ℕ
reason_message (reasons.Breaks rule) = rule_message rule
reason_message reasons.LinkTooLarge = flaw_message flaws.LinkTooLarge
reason_message reasons.InterfaceMissing = flaw_message flaws.InterfaceMissing
reason_message reasons.InterfacesFull = flaw_message flaws.InterfacesFull
reason_message reasons.BlockTooLong = flaw_message flaws.BlockTooLong

-- The status and the struct report this reason.
pub record IsRefused (reason : Reason) (told : PcapfileError) (status : ℤ) : Type 0 where
  pub status_is : status ≡ pos 3
  pub rule_is : told.rule ≡ reason_number reason
  pub none_missing : told.missing ≡ 0
