-- The part after the interface that both kinds of packets with a time share, read leniently ('Enhanced Packet Block', 'Packet Block').
use Rattle.std.specs.Prelude.{◌≡◌, ◌<◌, ℕ, List, [], length}
use Rattle.pcap_core.specs.declared.rules.Rule.{Rule}
use Rattle.pcap_core.specs.declared.rules.Rule.TheVariants.{EnhancedTooShort, EnhancedCut}
use Rattle.pcap_core.specs.Answer.{Order}
use Rattle.pcap_core.specs.Padded.{up_to_4, Padded, Behind}
use Rattle.pcap_options.specs.Values.{Entry, Kind}
use Rattle.pcap_blocks.specs.StoredPacket.{Stored, StoredHead}
use Rattle.pcap_tolerant_blocks.specs.Flaws.{Said}
use Rattle.pcap_tolerant_blocks.specs.OptionsAsIs.{OptionsAsIs}
use Rattle.pcap_tolerant_blocks.specs.declared.stored.StoredBytes.{StoredBytes}

-- `s` is a packet with its bytes, and its options read leniently with these flaws, followed by `rest`.
pub record WithBytes (order : Order) (kind : Kind) (packet : Stored) (flaws : List Said) (s rest : List ℕ) : Type 0 where
  pub after_head : List ℕ
  pub after_bytes : List ℕ
  pub head : StoredHead order packet s after_head
  pub captured : length packet.bytes ≡ packet.captured_len
  pub padded : Padded packet.bytes after_head after_bytes
  pub options_are : OptionsAsIs order kind packet.options flaws after_bytes rest

-- `s` is the head of a packet, but lacks bytes that the head states.
pub record NoBytes (order : Order) (s : List ℕ) : Type 0 where
  pub packet : Stored
  pub after : List ℕ
  pub head : StoredHead order packet s after
  pub missing : length after < up_to_4 packet.captured_len

-- The rule for which `s` is no packet: it has no room for its interface and its head, or for the bytes that the head states.
pub data NoPacket (order : Order) (s : List ℕ) : Rule → Type 0 where
  no_head : length s < 20 → NoPacket order s EnhancedTooShort
  no_bytes : (after : List ℕ) → Behind 4 s after → NoBytes order after → NoPacket order s EnhancedCut

-- A packet of the code, without its interface and with these options.
abbrev pub stored_with : StoredBytes → List Entry → Stored
stored_with p options = record { timestamp = p.timestamp; captured_len = p.captured_len; original_len = p.original_len; bytes = p.bytes.now; options = options }

-- `s` is the head of a packet of the code and its bytes with their padding, followed by `rest`.
pub record HasBytes (order : Order) (p : StoredBytes) (s rest : List ℕ) : Type 0 where
  pub after_head : List ℕ
  pub head : StoredHead order (stored_with p []) s after_head
  pub captured : length p.bytes.now ≡ p.captured_len
  pub padded : Padded p.bytes.now after_head rest
