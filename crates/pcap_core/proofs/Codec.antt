-- Numbers that were written are read back.
use Rattle.std.proofs.Common.{◌<◌, ◌^◌, ℕ, List, [], ◌++◌, refl, sym, ap, ◌∙◌}
use Rattle.std.proofs.lemmas.List.{append-nil}
use Rattle.byteorder.specs.Numbers.{big_number-reads_back, little_number-reads_back, length-bytes_high_first, length-bytes_low_first}
use Rattle.pcap_core.specs.declared.common.Endianness.{Endianness}
use Rattle.pcap_core.specs.declared.common.Endianness.TheVariants.{Big, Little}
use Rattle.pcap_core.specs.Answer.{Order, Number, number_in}
use Rattle.pcap_core.specs.Codec.{Encoder, IsCodec, number_bytes}

pub codec : (e : Endianness) → IsCodec (number_in e) (number_bytes e)
codec Big = record { again = λ w n rest lt. big_number-reads_back w n rest lt; wide = λ w n. length-bytes_high_first w n }
codec Little = record { again = λ w n rest lt. little_number-reads_back w n rest lt; wide = λ w n. length-bytes_low_first 0 w n }

pub number_again : (order : Order) (write : Encoder) (c : IsCodec order write) (w n : ℕ) (rest : List ℕ) → n < 256 ^ w → Number order w n (write w n ++ rest) rest
number_again order write c w n rest lt = record { bytes = write w n; text = refl; length_is = c.wide w n; value = ap (order w) (sym (append-nil (write w n))) ∙ c.again w n [] lt }
