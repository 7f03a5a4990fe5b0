-- The facts about a packet read leniently that are known once its head is read.
use Rattle.std.specs.Prelude.{◌≡◌, ℕ, List, [], drop}
use Rattle.pcap_core.specs.Answer.{number_in}
use Rattle.pcap_classic.specs.declared.pcap.header.PcapHeader.{PcapHeader}
use Rattle.pcap_classic.specs.Magic.{order_of, resolution_of}
use Rattle.pcap_tolerant.specs.declared.as_is.HeadAsIs.{HeadAsIs}
use Rattle.pcap_tolerant.specs.AsIs.{AsIs, raised, packet_with, HeadAsIsText}

-- The bytes are the text of this head, which states that `n` bytes follow it.
pub record KnowsAsIs (limit : ℕ) (header : PcapHeader) (head : HeadAsIs) (n : ℕ) (bytes : List ℕ) : Type 0 where
  pub text : HeadAsIsText (raised limit) (number_in (order_of header.magic_number)) (resolution_of header.magic_number) head bytes []
  pub follows : head.incl_len ≡ n

-- The packet with this head whose head and data are these bytes.
abbrev pub held_as_is : List ℕ → HeadAsIs → AsIs
held_as_is bytes head = packet_with head (drop 16 bytes)
