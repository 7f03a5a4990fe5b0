-- The flaws of options, one after another ('Options').
use Rattle.std.specs.Prelude.{◌≡◌, ℕ, List, [], ◌∷◌, Option, Some, None}
use Rattle.std.specs.Borrow.{Bor}
use Rattle.pcap_core.specs.Answer.{Order}
use Rattle.pcap_options.specs.Values.{Entry, Kind}
use Rattle.pcap_tolerant_blocks.specs.declared.flaws.Flaw.{Flaw}
use Rattle.pcap_tolerant_blocks.specs.Flaws.{Said, said_of}
use Rattle.pcap_tolerant_blocks.specs.OptionsAsIs.{OptionsAsIs}

-- `s` is options read leniently that have these flaws.
pub record HasFlaws (order : Order) (kind : Kind) (flaws : List Said) (s : List ℕ) : Type 0 where
  pub options : List Entry
  pub rest : List ℕ
  pub are : OptionsAsIs order kind options flaws s rest

-- The first of these flaws, and options that have the others; or there is no flaw.
abbrev pub FlawsBegin : Order → Kind → List Said → Option (Flaw × Bor (List ℕ)) → Type 0
FlawsBegin order kind flaws None = flaws ≡ []
FlawsBegin order kind flaws (Some x) = (others : List Said) × (flaws ≡ said_of x.0 ∷ others) × HasFlaws order kind others x.1.now
