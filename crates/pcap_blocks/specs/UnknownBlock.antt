-- The body of a block whose type this library doesn't know ('General Block Structure').
use Rattle.std.specs.Prelude.{◌≡◌, ◌<◌, ◌≤◌, ◌^◌, ℕ, List, length}
use Rattle.pcap_core.specs.Answer.{Verdict, Says}
use Rattle.pcap_core.specs.Bytes.{cow_bytes, IsBorrowed, IsOwned}
use Rattle.pcap_core.specs.Faults.{Invalid}
use Rattle.pcap_core.specs.declared.rules.Rule.TheVariants.{UnknownTooLong}
use Rattle.pcap_blocks.specs.declared.block_type.BlockType.{BlockType}
use Rattle.pcap_blocks.specs.declared.unknown_block.UnknownBlock.{UnknownBlock}

-- An unknown block, wherever its bytes are in memory.
pub record UnknownBody : Type 0 where
  pub type_ : BlockType
  pub len : ℕ
  pub bytes : List ℕ

-- UnknownSays type s verdict: all of `s` is the value of the block and also the rest; 2^32 bytes or more are a fault.
abbrev pub UnknownSays : BlockType → List ℕ → Verdict UnknownBody → Type 0
UnknownSays type s =
    Says
    (λ body rest. (body ≡ record { type_ = type; len = length s; bytes = s }) × (rest ≡ s) × (length s < 2 ^ 32))
    (λ n. ⊥)
    (λ fault. (fault ≡ Invalid UnknownTooLong) × (2 ^ 32 ≤ length s))

-- The unknown block of a block in the code.
abbrev pub unknown_of : UnknownBlock → UnknownBody
unknown_of block = record { type_ = block.type_; len = block.length; bytes = cow_bytes block.value }

-- The bytes of an unknown block are borrowed.
abbrev pub UnknownBlockIsBorrowed : UnknownBlock → Type 0
UnknownBlockIsBorrowed block = IsBorrowed block.value

-- The bytes of an unknown block are owned.
abbrev pub UnknownBlockIsOwned : UnknownBlock → Type 0
UnknownBlockIsOwned block = IsOwned block.value
