-- Sequences of blocks, as they are written.
use Rattle.std.specs.Prelude.{◌≡◌, ℕ, List, [], ◌∷◌, ◌++◌, Ok}
use Rattle.pcap_core.specs.Codec.{number_bytes}
use Rattle.pcap_blocks.specs.ParsedBlock.{Body}
use Rattle.pcap_written.specs.declared.place.Place.{Place}
use Rattle.pcap_written.specs.Bodies.{head_of, text_of}
use Rattle.pcap_written.specs.Writing.{IsFitIn, TellsPlace}

-- The bytes are the text of a block with this body at this place, in the byte order of the place after it.
pub record IsWritten (at : Place) (body : Body) (bytes : List ℕ) (behind : Place) : Type 0 where
  pub place : TellsPlace at (head_of body) (Ok behind)
  pub fit : IsFitIn behind.endianness body
  pub text : bytes ≡ text_of (number_bytes behind.endianness) body

-- The bytes are the texts of blocks with these bodies, the first at this place, and each at the place after the one before it.
abbrev pub AreWritten : Place → List Body → List ℕ → Place → Type 0
AreWritten at [] bytes end = (bytes ≡ []) × (end ≡ at)
AreWritten at (body ∷ bodies) bytes end =
    (behind : Place) × (text : List ℕ) × (more : List ℕ) × IsWritten at body text behind × (bytes ≡ text ++ more) × AreWritten behind bodies more end
