-- The faults of bytes, and the errors that name them.
use Rattle.std.specs.Prelude.{◌≡◌, ℕ, List}
use Rattle.pcap_core.specs.declared.errors.PcapError.{PcapError}
use Rattle.pcap_core.specs.declared.errors.PcapError.TheVariants.{IoError, InvalidField, Utf8Error}
use Rattle.pcap_core.specs.declared.rules.Rule.{Rule}
use Rattle.pcap_core.specs.Rules.{row_of}

-- rule_message gives the message that names a rule.
abbrev pub rule_message : Rule → List ℕ
rule_message rule = (row_of rule).message

-- A fault is why bytes are refused: they break a rule, a value is too short, or a string is not UTF-8. `Own` is a fault of a format other
-- than captures, by its number; no error of this crate shows it.
pub data Fault : Type 0 where
  Invalid : Rule → Fault
  Io : Fault
  Utf8 : Fault
  Own : ℕ → Fault

-- Names rule error: the error has the message of this rule.
abbrev pub Names : Rule → PcapError → Type 0
Names rule (InvalidField message) = message.now ≡ rule_message rule
Names rule _ = ⊥

-- Shows: the error shows a fault for which the given condition holds.
abbrev pub Shows : (Fault → Type 0) → PcapError → Type 0
Shows Stands (InvalidField message) = (rule : Rule) × (message.now ≡ rule_message rule) × Stands (Invalid rule)
Shows Stands (IoError e) = Stands Io
Shows Stands (Utf8Error e) = Stands Utf8
Shows Stands _ = ⊥
