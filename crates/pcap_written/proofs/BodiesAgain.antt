-- Written bodies are read again.
use Rattle.std.proofs.Common.{◌≡◌, ℕ, ◌<◌, ◌/◌, ◌%◌, ◌^◌, List, [], ◌++◌, length, refl, sym, ap, subst, ◌∙◌, append_assoc, arith}
use Rattle.std.specs.Prelude.{ℤ, FitsSigned, Some}
use Rattle.std.specs.Int.{w64, cast_unsigned}
use Rattle.std.proofs.lemmas.Int.{to_z-of_z, ints}
use Rattle.byteorder.specs.Endian.{big_number}
use Rattle.pcap_core.specs.Answer.{Order, Number, number_in, whole}
use Rattle.pcap_core.specs.Codec.{Encoder, IsCodec, number_bytes}
use Rattle.pcap_core.specs.Link.{link_number}
use Rattle.pcap_core.specs.declared.common.Endianness.{Endianness}
use Rattle.pcap_core.specs.declared.common.Endianness.TheVariants.{Big}
use Rattle.pcap_core.proofs.Codec.{codec, number_again}
use Rattle.pcap_blocks.specs.declared.block_type.BlockType.{BlockType}
use Rattle.pcap_blocks.specs.declared.block_type.BlockType.TheVariants as types
use Rattle.pcap_options.specs.Values.{Kind}
use Rattle.pcap_blocks.specs.Time.{TimeText}
use Rattle.pcap_blocks.specs.StoredPacket.{Stored, StoredHead, StoredText}
use Rattle.pcap_options.specs.SectionOption.{section_header}
use Rattle.pcap_blocks.specs.SectionHeader.{Section, VersionText, AfterMagic, SectionText, magic_order}
use Rattle.pcap_options.specs.InterfaceOption.{interface_description}
use Rattle.pcap_blocks.specs.InterfaceDescription.{Interface, InterfaceHead, InterfaceText}
use Rattle.pcap_options.specs.StatisticsOption.{interface_statistics}
use Rattle.pcap_blocks.specs.InterfaceStatistics.{Statistics, StatisticsText}
use Rattle.pcap_options.specs.EnhancedOption.{enhanced_packet}
use Rattle.pcap_blocks.specs.EnhancedPacket.{Enhanced, EnhancedText}
use Rattle.pcap_options.specs.PacketOption.{packet_kind}
use Rattle.pcap_blocks.specs.Packet.{PacketBody, PacketBodyText}
use Rattle.pcap_blocks.specs.ParsedBlock.{Body, SectionBody, InterfaceBody, OldPacketBody, SimpleBody, NamesBody, StatisticsBody, EnhancedBody, JournalBody, OtherBody, BodySays}
use Rattle.pcap_written.specs.Text.{padded_bytes, time_bytes, list_text}
use Rattle.pcap_written.specs.Bodies.{after_magic_text, section_text, interface_text, packet_head_text, stored_text, enhanced_text, packet_text, statistics_text, body_text, type_of, magic_in, order_under}
use Rattle.pcap_written.specs.Fits.{IsFitSection, IsFitInterface, IsFitStored, IsFitEnhanced, IsFitPacket, IsFitStatistics, IsFitUnknown, kept_body}
use Rattle.pcap_written.specs.Writing.{IsFitIn}
use Rattle.pcap_written.proofs.OptionsAgain.{padded_again, list_again}
use Rattle.pcap_written.proofs.NamesAgain.{resolution_again}

pub bits_below : (z : ℤ) → FitsSigned w64 z → cast_unsigned w64 z < 2 ^ 64
bits_below z fits = omega (arith, ints)

module _ (order : Order) (write : Encoder) (c : IsCodec order write) where
  time_again : (time : ℕ) (rest : List ℕ) → time < 2 ^ 64 → TimeText order time (time_bytes write time ++ rest) rest
  time_again time rest fits =
      let high = time / 2 ^ 32 in
      let low = time % 2 ^ 32 in
      let text : TimeText order time (write 4 high ++ (write 4 low ++ rest)) rest = record {
        high = high;
        low = low;
        after_high = write 4 low ++ rest;
        high_is = number_again order write c 4 high (write 4 low ++ rest) (omega (arith, fits));
        low_is = number_again order write c 4 low rest (omega arith);
        both = omega arith;
      } in
      subst (λ (s : List ℕ). TimeText order time s rest) (sym (append_assoc (write 4 high) (write 4 low) rest)) text

  head_again : (p : Stored) (rest : List ℕ) → p.timestamp < 2 ^ 64 → p.captured_len < 2 ^ 32 → p.original_len < 2 ^ 32
      → StoredHead order p (packet_head_text write p.timestamp p.captured_len p.original_len ++ rest) rest
  head_again p rest time captured original =
      let after_captured = write 4 p.original_len ++ rest in
      let after_time = write 4 p.captured_len ++ after_captured in
      let text : StoredHead order p (time_bytes write p.timestamp ++ after_time) rest = record {
        after_time = after_time;
        after_captured = after_captured;
        time_is = time_again p.timestamp after_time time;
        captured_is = number_again order write c 4 p.captured_len after_captured captured;
        original_is = number_again order write c 4 p.original_len rest original;
      } in
      let split : packet_head_text write p.timestamp p.captured_len p.original_len ++ rest ≡ time_bytes write p.timestamp ++ after_time =
      append_assoc (time_bytes write p.timestamp) (write 4 p.captured_len ++ write 4 p.original_len) rest
      ∙ ap (λ (s : List ℕ). time_bytes write p.timestamp ++ s) (append_assoc (write 4 p.captured_len) (write 4 p.original_len) rest) in
      subst (λ (s : List ℕ). StoredHead order p s rest) (sym split) text

  stored_again : (kind : Kind) (p : Stored) → IsFitStored order write kind p → StoredText order kind p (stored_text write kind p) []
  stored_again kind p fit =
      let list = list_text write kind p.options in
      record {
        after_head = padded_bytes p.bytes ++ list;
        after_bytes = list;
        head = head_again p (padded_bytes p.bytes ++ list) fit.time fit.captured_fits fit.original_fits;
        captured = fit.captured;
        padded = padded_again p.bytes list;
        options_are = list_again order write c kind p.options fit.options;
      }

  enhanced_again : (x : Enhanced) → IsFitEnhanced order write x → EnhancedText order x (enhanced_text write x) []
  enhanced_again x fit =
      let after = stored_text write enhanced_packet x.packet in
      record { after_interface = after; interface_is = number_again order write c 4 x.interface_id after fit.interface; packet_is = stored_again enhanced_packet x.packet fit.packet }

  packet_again : (p : PacketBody) → IsFitPacket order write p → PacketBodyText order p (packet_text write p) []
  packet_again p fit =
      let after_drops = stored_text write packet_kind p.packet in
      let after_interface = write 2 p.drop_count ++ after_drops in
      record {
        after_interface = after_interface;
        after_drops = after_drops;
        interface_is = number_again order write c 2 p.interface_id after_interface fit.interface;
        drops_are = number_again order write c 2 p.drop_count after_drops fit.drops;
        packet_is = stored_again packet_kind p.packet fit.packet;
      }

  statistics_again : (s : Statistics) → IsFitStatistics order write s → StatisticsText order s (statistics_text write s) []
  statistics_again s fit =
      let list = list_text write interface_statistics s.options in
      let after = time_bytes write s.timestamp ++ list in
      record {
        after_interface = after;
        after_time = list;
        interface_is = number_again order write c 4 s.interface_id after fit.interface;
        time_is = time_again s.timestamp list fit.time;
        options_are = list_again order write c interface_statistics s.options fit.options;
      }

  -- The fields before an interface's options.
  pub interface_head_again : (i : Interface) (list : List ℕ) → IsFitInterface order write i
      → InterfaceHead order i (write 2 (link_number i.linktype) ++ (write 2 i.reserved ++ (write 4 i.snaplen ++ list))) list
  interface_head_again i list fit =
      let after_reserved = write 4 i.snaplen ++ list in
      let after_link = write 2 i.reserved ++ after_reserved in
      record {
        link_number = link_number i.linktype;
        after_link = after_link;
        after_reserved = after_reserved;
        link_number_is = number_again order write c 2 (link_number i.linktype) after_link fit.link;
        link_is = record { number = refl; plain = fit.plain };
        reserved_is = number_again order write c 2 i.reserved after_reserved fit.reserved;
        snaplen_is = number_again order write c 4 i.snaplen list fit.snaplen;
      }

  interface_again : (i : Interface) → IsFitInterface order write i → InterfaceText order i (interface_text write i) []
  interface_again i fit =
      let list = list_text write interface_description i.options in
      record { after_head = list; head = interface_head_again i list fit; options_are = list_again order write c interface_description i.options fit.options }

  -- The fields between a section's magic number and its options.
  pub version_again : (s : Section) (list : List ℕ) → IsFitSection order write s
      → VersionText order s (write 2 s.major_version ++ (write 2 s.minor_version ++ (write 8 (cast_unsigned w64 s.section_length) ++ list))) list
  version_again s list fit =
      let bits = cast_unsigned w64 s.section_length in
      let after_minor = write 8 bits ++ list in
      let after_major = write 2 s.minor_version ++ after_minor in
      record {
        after_major = after_major;
        after_minor = after_minor;
        length_bits = bits;
        major = number_again order write c 2 s.major_version after_major fit.major;
        minor = number_again order write c 2 s.minor_version after_minor fit.minor;
        length_number = number_again order write c 8 bits list (bits_below s.section_length fit.length_fits);
        length_is = sym (to_z-of_z w64 s.section_length fit.length_fits);
      }

-- A section's magic number comes first, high byte first.
pub magic_again : (e : Endianness) (s : Section) → IsFitSection (number_in e) (number_bytes e) s
    → Number big_number 4 s.magic (section_text (number_bytes e) s) (after_magic_text (number_bytes e) s)
magic_again e s fit = number_again (number_in Big) (number_bytes Big) (codec Big) 4 s.magic (after_magic_text (number_bytes e) s) fit.magic

-- A section's magic number names the byte order in which the section is written.
section_again : (e : Endianness) (s : Section) → magic_order s.magic ≡ Some e → IsFitSection (number_in e) (number_bytes e) s
    → SectionText s (section_text (number_bytes e) s) []
section_again e s names fit =
    let list = list_text (number_bytes e) section_header s.options in
    let after : AfterMagic (number_in e) s (after_magic_text (number_bytes e) s) [] = record {
      after_version = list;
      version = version_again (number_in e) (number_bytes e) (codec e) s list fit;
      options_are = list_again (number_in e) (number_bytes e) (codec e) section_header s.options fit.options;
    } in
    record { after_magic = after_magic_text (number_bytes e) s; endianness = e; magic_is = magic_again e s fit; names = names; after = after }

-- A type whose number has no name is an unknown one.
other_again : (order : Order) (type : BlockType) (len : ℕ) (v : List ℕ) → IsFitUnknown (record { type_ = type; len = len; bytes = v })
    → length (padded_bytes v) < 2 ^ 32
    → BodySays order type (padded_bytes v) (whole (kept_body (OtherBody (record { type_ = type; len = len; bytes = v }))) (padded_bytes v))
other_again order (types.Unknown n) len v fit short = (_, refl, (refl, refl, short))
other_again order types.SectionHeader len v fit short = absurd (cc fit.unnamed)
other_again order _ len v fit short = absurd cc

pub body_again : (e : Endianness) (body : Body) → IsFitIn e body → order_under e (magic_in body) ≡ Some e
    → (rest : List ℕ) × BodySays (number_in e) (type_of body) (body_text (number_bytes e) body) (whole (kept_body body) rest)
body_again e (SectionBody s) fit named = ([], (s, refl, section_again e s named fit.fit))
body_again e (InterfaceBody i) fit named = ([], (i, refl, interface_again (number_in e) (number_bytes e) (codec e) i fit.fit))
body_again e (OldPacketBody p) fit named = ([], (p, refl, packet_again (number_in e) (number_bytes e) (codec e) p fit.fit))
body_again e (SimpleBody p) fit named =
    let original = number_again (number_in e) (number_bytes e) (codec e) 4 p.original_len (padded_bytes p.bytes) fit.fit in
    ([], (_, refl, record { original_is = original; nothing_left = refl }))
body_again e (NamesBody b) fit named = ([], (b, refl, resolution_again (number_in e) (number_bytes e) (codec e) b fit.fit))
body_again e (StatisticsBody s) fit named = ([], (s, refl, statistics_again (number_in e) (number_bytes e) (codec e) s fit.fit))
body_again e (EnhancedBody x) fit named = ([], (x, refl, enhanced_again (number_in e) (number_bytes e) (codec e) x fit.fit))
body_again e (JournalBody entry) fit named = ([], (padded_bytes entry, refl, (refl, refl)))
body_again e (OtherBody u) fit named = (padded_bytes u.bytes, other_again (number_in e) u.type_ u.len u.bytes fit.fit (omega (arith, fit.short)))
