-- What is ahead in a capture of a variant.
use Rattle.std.specs.Prelude.{◌≡◌, ◌++◌, ℕ, List, length}
use Rattle.pcap_variants.specs.Variants.{Packet, ArePackets, text_of, plain_of}
use Rattle.pcap_variants.specs.declared.variant.Variant.{Variant}

-- `s` is so many bytes that stay, and then packets of the variant. In a plain capture the same bytes and packets are `plain`.
pub record Ahead (variant : Variant) (left : ℕ) (s plain : List ℕ) : Type 0 where
  pub stays : List ℕ
  pub packets : List Packet
  pub length_is : length stays ≡ left
  pub are : ArePackets variant packets
  pub text : s ≡ stays ++ text_of packets
  pub same : plain ≡ stays ++ plain_of packets
