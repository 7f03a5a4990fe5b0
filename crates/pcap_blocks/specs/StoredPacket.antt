-- The part that enhanced packets and packet blocks share ('Enhanced Packet Block', 'Packet Block').
use Rattle.std.specs.Prelude.{◌≡◌, ◌<◌, ℕ, List, length, map, All}
use Rattle.pcap_core.specs.Answer.{Order, Number, Verdict, Says}
use Rattle.pcap_core.specs.Bytes.{cow_bytes, IsBorrowed}
use Rattle.pcap_core.specs.Faults.{Fault, Invalid}
use Rattle.pcap_core.specs.declared.rules.Rule.TheVariants.{EnhancedTooShort, EnhancedCut}
use Rattle.pcap_blocks.specs.declared.stored_packet.StoredPacket.{StoredPacket}
use Rattle.pcap_core.specs.Padded.{up_to_4, Padded}
use Rattle.pcap_options.specs.Values.{Entry, Kind}
use Rattle.pcap_blocks.specs.Time.{TimeText}
use Rattle.pcap_options.specs.Options.{may_end_with_body, OptionList, ListFault, OptionsMayGrow}

-- A stored packet, wherever its bytes are in memory.
pub record Stored : Type 0 where
  pub timestamp : ℕ
  pub captured_len : ℕ
  pub original_len : ℕ
  pub bytes : List ℕ
  pub options : List Entry

-- `s` is the time, the captured length and the original length of a packet, and then `rest`.
pub record StoredHead (order : Order) (packet : Stored) (s rest : List ℕ) : Type 0 where
  pub after_time : List ℕ
  pub after_captured : List ℕ
  pub time_is : TimeText order packet.timestamp s after_time
  pub captured_is : Number order 4 packet.captured_len after_time after_captured
  pub original_is : Number order 4 packet.original_len after_captured rest

-- `s` is a stored packet and then `rest`: the time and the lengths, the captured bytes with their padding, and the options.
pub record StoredText (order : Order) (kind : Kind) (packet : Stored) (s rest : List ℕ) : Type 0 where
  pub after_head : List ℕ
  pub after_bytes : List ℕ
  pub head : StoredHead order packet s after_head
  pub captured : length packet.bytes ≡ packet.captured_len
  pub padded : Padded packet.bytes after_head after_bytes
  pub options_are : OptionList may_end_with_body order kind packet.options after_bytes rest

-- The first fault of `s` as a stored packet: too few bytes, cut data, or the fault of its options.
pub data StoredFault (order : Order) (kind : Kind) (s : List ℕ) : Fault → Type 0 where
  short : length s < 16 → StoredFault order kind s (Invalid EnhancedTooShort)
  cut : (packet : Stored) (after : List ℕ) → StoredHead order packet s after
      → length after < up_to_4 packet.captured_len → StoredFault order kind s (Invalid EnhancedCut)
  in_options : (fault : Fault) (packet : Stored) (after after_bytes : List ℕ) → StoredHead order packet s after → length packet.bytes ≡ packet.captured_len
      → Padded packet.bytes after after_bytes → ListFault may_end_with_body order kind after_bytes fault → StoredFault order kind s fault

-- StoredSays order kind s verdict: `s` read as a stored packet gives this verdict, the packet or a fault.
abbrev pub StoredSays : Order → Kind → List ℕ → Verdict Stored → Type 0
StoredSays order kind s = Says (λ packet rest. StoredText order kind packet s rest) (λ n. ⊥) (StoredFault order kind s)

-- Reading a stored packet may allocate only if an option follows its bytes and their padding.
pub record StoredMayGrow (order : Order) (kind : Kind) (s : List ℕ) : Type 0 where
  pub packet : Stored
  pub after_head : List ℕ
  pub after_bytes : List ℕ
  pub head : StoredHead order packet s after_head
  pub captured : length packet.bytes ≡ packet.captured_len
  pub padded : Padded packet.bytes after_head after_bytes
  pub grows : OptionsMayGrow order kind after_bytes

-- The stored packet of a value in the code.
abbrev pub stored_of : {O : Type 0} → (O → Entry) → StoredPacket O → Stored
stored_of view p = record {
  timestamp = p.timestamp;
  captured_len = p.captured_len;
  original_len = p.original_len;
  bytes = cow_bytes p.data_;
  options = map view p.options.items;
}

-- The packet's bytes and all strings and bytes of its options are borrowed.
pub record StoredIsBorrowed {O : Type 0} (OptionIsBorrowed : O → Type 0) (p : StoredPacket O) : Type 0 where
  pub bytes : IsBorrowed p.data_
  pub options : All OptionIsBorrowed p.options.items
