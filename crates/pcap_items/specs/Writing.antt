-- The results of calls that write bytes.
use Rattle.std.specs.Prelude.{◌≡◌, ◌<◌, ℕ, List, ◌++◌, length, take, Option, Result, Ok, Err}
use Rattle.std.specs.Io.KnownBytes.{Appends}
use Rattle.pcap_core.specs.declared.errors.PcapError.{PcapError}
use Rattle.pcap_core.specs.declared.errors.PcapError.TheVariants.{IoError}
use Rattle.pcap_items.specs.declared.stream.writing.Torn.{Torn}
use Rattle.pcap_core.specs.Errors.{IsIo}

-- Writes bytes left before after: a beginning of the bytes was written, and `left` are the other bytes.
pub record Writes (bytes left : List ℕ) (before after : Option (List ℕ)) : Type 0 where
  pub gone : List ℕ
  pub split : bytes ≡ gone ++ left
  pub out : Appends before after gone

-- AppendsPart before after bytes: a beginning of the bytes was written, and not all of them.
abbrev pub AppendsPart : Option (List ℕ) → Option (List ℕ) → List ℕ → Type 0
AppendsPart before after bytes = (left : List ℕ) × (0 < length left) × Writes bytes left before after

-- WritesAll: one call wrote all of the bytes, or a beginning of them and returned an IoError.
abbrev pub WritesAll : Option (List ℕ) → Option (List ℕ) → List ℕ → Result (Unit {0}) PcapError → Type 0
WritesAll before after bytes (Ok u) = Appends before after bytes
WritesAll before after bytes (Err (IoError e)) = AppendsPart before after bytes
WritesAll before after bytes (Err _) = ⊥

-- WritesOrTears: one call wrote all of the bytes, or it returned an IoError after `gone` of them, and not all.
abbrev pub WritesOrTears : Option (List ℕ) → Option (List ℕ) → List ℕ → Result (Unit {0}) Torn → Type 0
WritesOrTears before after bytes (Ok u) = Appends before after bytes
WritesOrTears before after bytes (Err torn) = IsIo torn.error × (torn.gone < length bytes) × Appends before after (take torn.gone bytes)
