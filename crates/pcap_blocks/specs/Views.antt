-- Newer values, which are unknown blocks and unknown options here ('Decryption Secrets Block', 'Enhanced Packet Block').
use Rattle.std.specs.Prelude.{◌≡◌, ◌==◌, if◌then◌else◌, ℕ, List, [], ◌∷◌, length, Option, Some, None}
use Rattle.pcap_core.specs.Answer.{Order, Number}
use Rattle.pcap_core.specs.Padded.{Padded}
use Rattle.pcap_core.specs.Bytes.{cow_bytes}
use Rattle.pcap_blocks.specs.BlockType.{block_type}
use Rattle.pcap_blocks.specs.declared.unknown_block.UnknownBlock.{UnknownBlock}

-- A block of type 10 has secrets of this type, with their padding, and then `rest`, which is its options.
pub record SecretsText (order : Order) (block : UnknownBlock) (type : ℕ) (secrets rest : List ℕ) : Type 0 where
  pub after_type : List ℕ
  pub after_length : List ℕ
  pub block_is : block.type_ ≡ block_type 10
  pub type_is : Number order 4 type (cow_bytes block.value) after_type
  pub length_is : Number order 4 (length secrets) after_type after_length
  pub padded : Padded secrets after_length rest

-- The number of some bytes, if there are exactly `n` of them.
abbrev pub number_of_all : Order → ℕ → Option (List ℕ) → Option ℕ
number_of_all order n None = None
number_of_all order n (Some v) = if length v == n then Some (order n v) else None

-- The bytes themselves, if there is at least one.
abbrev pub some_bytes_of : Option (List ℕ) → Option (List ℕ)
some_bytes_of None = None
some_bytes_of (Some []) = None
some_bytes_of (Some (b ∷ rest)) = Some (b ∷ rest)
