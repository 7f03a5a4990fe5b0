-- Records that are sorted: packet records of a classic capture, or blocks of a PcapNg capture.
use Rattle.std.specs.Prelude.{ℕ, List}
use Rattle.std.specs.List.{flat_map}

-- A record: its rank, which is the number by which records are sorted, and its bytes.
pub record Ranked : Type 0 where
  pub rank : ℕ
  pub text : List ℕ

-- The record of this rank and of these bytes.
abbrev pub ranked_at : ℕ → List ℕ → Ranked
ranked_at rank text = record { rank = rank; text = text }

-- The bytes of these records, concatenated.
abbrev pub texts_of : List Ranked → List ℕ
texts_of records = flat_map (λ (ranked : Ranked). ranked.text) records
