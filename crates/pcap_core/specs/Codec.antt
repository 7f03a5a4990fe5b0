-- Numbers as the bytes that a program writes for them.
use Rattle.std.specs.Prelude.{◌≡◌, ◌<◌, ◌^◌, ℕ, List, ◌++◌, length}
use Rattle.byteorder.specs.Endian.{big_bytes, little_bytes}
use Rattle.pcap_core.specs.declared.common.Endianness.{Endianness}
use Rattle.pcap_core.specs.declared.common.Endianness.TheVariants.{Big, Little}
use Rattle.pcap_core.specs.Answer.{Order}

-- An Encoder maps a width and a number to the bytes of that number in that width.
abbrev pub Encoder : Type 0
Encoder = ℕ → ℕ → List ℕ

-- number_bytes gives the encoder of an endianness.
abbrev pub number_bytes : Endianness → Encoder
number_bytes Big = big_bytes
number_bytes Little = little_bytes

-- IsCodec order write: `order` reads each number back from the bytes that `write` gives for it, if the number fits in the width.
pub record IsCodec (order : Order) (write : Encoder) : Type 0 where
  pub again : (w n : ℕ) (rest : List ℕ) → n < 256 ^ w → order w (write w n ++ rest) ≡ n
  pub wide : (w n : ℕ) → length (write w n) ≡ w
