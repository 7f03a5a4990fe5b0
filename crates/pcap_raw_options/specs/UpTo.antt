-- Options that are read up to their first fault ('Options').
use Rattle.std.specs.Prelude.{◌≡◌, ◌≢◌, ◌⊎◌, ℕ, List, [], map, Option, Some, None}
use Rattle.std.specs.Option.{option_map}
use Rattle.pcap_core.specs.Answer.{Order}
use Rattle.pcap_core.specs.Faults.{Fault, Invalid}
use Rattle.pcap_core.specs.Padded.{Chain}
use Rattle.pcap_options.specs.Values.{Entry, Kind}
use Rattle.pcap_options.specs.Options.{OptionText, EndMark, OptionFault, Ending, IsOver}
use Rattle.pcap_options.specs.CommonOptions.{unknown_entry}
use Rattle.pcap_raw_options.specs.declared.raw.RawOptions.{RawOptions}

-- An UpTo is the options before the first fault, that fault if there is one, and the bytes that are left: after the list, or from the
-- fault on.
pub record UpTo : Type 0 where
  pub options : List Entry
  pub flaw : Option Fault
  pub left : List ℕ

-- StopsAt ending order kind options flaw s left: after these options the list ends at s, or s begins with this fault.
abbrev pub StopsAt : Ending → Order → Kind → List Entry → Option Fault → List ℕ → List ℕ → Type 0
StopsAt ending order kind options None s left = EndMark order s left ⊎ ((s ≡ []) × IsOver ending options × (left ≡ []))
StopsAt ending order kind options (Some fault) s left = (IsOver ending options → s ≢ []) × OptionFault order kind s fault × (left ≡ s)

-- ReadUpTo ending order kind x s: x is the options of s up to its first fault.
pub record ReadUpTo (ending : Ending) (order : Order) (kind : Kind) (x : UpTo) (s : List ℕ) : Type 0 where
  pub stop : List ℕ
  pub are_good : Chain (OptionText order kind) x.options s stop
  pub stops : StopsAt ending order kind x.options x.flaw stop x.left

-- no_kind gives no code a shape, so that each value is its bytes.
abbrev pub no_kind : Kind
no_kind = []

-- up_to_of gives the options, flaw and rest of raw options, without regard to where their bytes are.
abbrev pub up_to_of : RawOptions → UpTo
up_to_of x = record { options = map unknown_entry x.options.items; flaw = option_map Invalid x.flaw; left = x.left.now }
