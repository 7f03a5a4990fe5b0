-- The length of a body's text is a multiple of 4.
use Rattle.std.proofs.Common.{◌≡◌, ℕ, ◌/◌, ◌%◌, ◌^◌, List, [], ◌∷◌, ◌++◌, length, refl, ap, length-append, arith}
use Rattle.std.specs.Int.{w64, cast_unsigned}
use Rattle.std.specs.List.{flat_map}
use Rattle.std.proofs.lemmas.List.Concat.{flat_map-cons}
use Rattle.byteorder.specs.Endian.{big_bytes}
use Rattle.pcap_core.specs.Codec.{Encoder}
use Rattle.pcap_core.specs.Link.{link_number}
use Rattle.pcap_core.specs.declared.common.Endianness.TheVariants.{Big}
use Rattle.pcap_core.proofs.Codec.{codec}
use Rattle.pcap_options.specs.Values.{Entry, Kind}
use Rattle.pcap_blocks.specs.StoredPacket.{Stored}
use Rattle.pcap_options.specs.SectionOption.{section_header}
use Rattle.pcap_blocks.specs.SectionHeader.{Section}
use Rattle.pcap_options.specs.InterfaceOption.{interface_description}
use Rattle.pcap_blocks.specs.InterfaceDescription.{Interface}
use Rattle.pcap_options.specs.StatisticsOption.{interface_statistics}
use Rattle.pcap_blocks.specs.InterfaceStatistics.{Statistics}
use Rattle.pcap_options.specs.EnhancedOption.{enhanced_packet}
use Rattle.pcap_options.specs.PacketOption.{packet_kind}
use Rattle.pcap_options.specs.Record.{NameRecord, End, Ipv4, Ipv6, Other}
use Rattle.pcap_options.specs.NameOption.{name_resolution}
use Rattle.pcap_blocks.specs.NameResolution.{Resolution}
use Rattle.pcap_blocks.specs.ParsedBlock.{Body, SectionBody, InterfaceBody, OldPacketBody, SimpleBody, NamesBody, StatisticsBody, EnhancedBody, JournalBody, OtherBody}
use Rattle.pcap_written.specs.Text.{padding, padded_bytes, time_bytes, coded_bytes, option_value, option_text, end_mark, list_text}
use Rattle.pcap_written.specs.Bodies.{address_text, record_text, packet_head_text, stored_text, after_magic_text, section_text, interface_text, statistics_text, resolution_text, body_text}
use Rattle.pcap_written.proofs.OptionsAgain.{padding_long}

padded_aligned : (v : List ℕ) → length (padded_bytes v) % 4 ≡ 0
padded_aligned v = omega (arith, length-append v (padding (length v)), padding_long (length v))

all_aligned : {A : Type 0} (f : A → List ℕ) → ((x : A) → length (f x) % 4 ≡ 0) → (xs : List A) → length (flat_map f xs) % 4 ≡ 0
all_aligned f each [] = refl
all_aligned f each (x ∷ xs) = omega (arith, each x, all_aligned f each xs, ap length (flat_map-cons f x xs), length-append (f x) (flat_map f xs))

both_aligned : (a b : List ℕ) → length a % 4 ≡ 0 → length b % 4 ≡ 0 → length (a ++ b) % 4 ≡ 0
both_aligned a b x y = omega (arith, x, y, length-append a b)

module _ (write : Encoder) (wide : (w n : ℕ) → length (write w n) ≡ w) where
  word_aligned : (n : ℕ) → length (write 4 n) % 4 ≡ 0
  word_aligned n = omega (arith, wide 4 n)

  halves_aligned : (n m : ℕ) (rest : List ℕ) → length rest % 4 ≡ 0 → length (write 2 n ++ (write 2 m ++ rest)) % 4 ≡ 0
  halves_aligned n m rest x = omega (arith, x, wide 2 n, wide 2 m, length-append (write 2 n) (write 2 m ++ rest), length-append (write 2 m) rest)

  coded_aligned : (code : ℕ) (v : List ℕ) → length (coded_bytes write code v) % 4 ≡ 0
  coded_aligned code v = halves_aligned code (length v) (padded_bytes v) (padded_aligned v)

  option_aligned : (kind : Kind) (o : Entry) → length (option_text write kind o) % 4 ≡ 0
  option_aligned kind o = coded_aligned o.code (option_value write kind o)

  mark_aligned : length (end_mark write) % 4 ≡ 0
  mark_aligned = omega (arith, length-append (write 2 0) (write 2 0), wide 2 0)

  list_aligned : (kind : Kind) (os : List Entry) → length (list_text write kind os) % 4 ≡ 0
  list_aligned kind [] = refl
  list_aligned kind (o ∷ os) = both_aligned (flat_map (option_text write kind) (o ∷ os)) (end_mark write) (all_aligned (option_text write kind) (option_aligned kind) (o ∷ os)) mark_aligned

  time_aligned : (n : ℕ) → length (time_bytes write n) % 4 ≡ 0
  time_aligned n = both_aligned (write 4 (n / 2 ^ 32)) (write 4 (n % 2 ^ 32)) (word_aligned (n / 2 ^ 32)) (word_aligned (n % 2 ^ 32))

  head_aligned : (time captured original : ℕ) → length (packet_head_text write time captured original) % 4 ≡ 0
  head_aligned time captured original =
      both_aligned (time_bytes write time) (write 4 captured ++ write 4 original) (time_aligned time)
      (both_aligned (write 4 captured) (write 4 original) (word_aligned captured) (word_aligned original))

  stored_aligned : (kind : Kind) (p : Stored) → length (stored_text write kind p) % 4 ≡ 0
  stored_aligned kind p =
      both_aligned
      (packet_head_text write p.timestamp p.captured_len p.original_len)
      (padded_bytes p.bytes ++ list_text write kind p.options)
      (head_aligned p.timestamp p.captured_len p.original_len)
      (both_aligned (padded_bytes p.bytes) (list_text write kind p.options) (padded_aligned p.bytes) (list_aligned kind p.options))

  section_aligned : (s : Section) → length (section_text write s) % 4 ≡ 0
  section_aligned s =
      let bits = cast_unsigned w64 s.section_length in
      let list = list_text write section_header s.options in
      let long : length (write 8 bits) % 4 ≡ 0 = omega (arith, wide 8 bits) in
      let magic : length (big_bytes 4 s.magic) % 4 ≡ 0 = omega (arith, (codec Big).wide 4 s.magic) in
      let after : length (after_magic_text write s) % 4 ≡ 0 = halves_aligned s.major_version s.minor_version (write 8 bits ++ list) (both_aligned (write 8 bits) list long (list_aligned section_header s.options)) in
      both_aligned (big_bytes 4 s.magic) (after_magic_text write s) magic after

  interface_aligned : (i : Interface) → length (interface_text write i) % 4 ≡ 0
  interface_aligned i =
      let list = list_text write interface_description i.options in
      halves_aligned (link_number i.linktype) i.reserved (write 4 i.snaplen ++ list) (both_aligned (write 4 i.snaplen) list (word_aligned i.snaplen) (list_aligned interface_description i.options))

  statistics_aligned : (s : Statistics) → length (statistics_text write s) % 4 ≡ 0
  statistics_aligned s =
      let list = list_text write interface_statistics s.options in
      both_aligned
      (write 4 s.interface_id)
      (time_bytes write s.timestamp ++ list)
      (word_aligned s.interface_id)
      (both_aligned (time_bytes write s.timestamp) list (time_aligned s.timestamp) (list_aligned interface_statistics s.options))

  record_aligned : (r : NameRecord) → length (record_text write r) % 4 ≡ 0
  record_aligned End = coded_aligned 0 []
  record_aligned (Ipv4 a) = coded_aligned 1 (address_text a)
  record_aligned (Ipv6 a) = coded_aligned 2 (address_text a)
  record_aligned (Other type len v) = coded_aligned type v

  resolution_aligned : (b : Resolution) → length (resolution_text write b) % 4 ≡ 0
  resolution_aligned b =
      let list = list_text write name_resolution b.options in
      both_aligned
      (flat_map (record_text write) b.records)
      (record_text write End ++ list)
      (all_aligned (record_text write) record_aligned b.records)
      (both_aligned (record_text write End) list (record_aligned End) (list_aligned name_resolution b.options))

  pub body_aligned : (body : Body) → length (body_text write body) % 4 ≡ 0
  body_aligned (SectionBody s) = section_aligned s
  body_aligned (InterfaceBody i) = interface_aligned i
  body_aligned (OldPacketBody p) = halves_aligned p.interface_id p.drop_count (stored_text write packet_kind p.packet) (stored_aligned packet_kind p.packet)
  body_aligned (SimpleBody p) = both_aligned (write 4 p.original_len) (padded_bytes p.bytes) (word_aligned p.original_len) (padded_aligned p.bytes)
  body_aligned (NamesBody b) = resolution_aligned b
  body_aligned (StatisticsBody s) = statistics_aligned s
  body_aligned (EnhancedBody x) = both_aligned (write 4 x.interface_id) (stored_text write enhanced_packet x.packet) (word_aligned x.interface_id) (stored_aligned enhanced_packet x.packet)
  body_aligned (JournalBody entry) = padded_aligned entry
  body_aligned (OtherBody u) = padded_aligned u.bytes
