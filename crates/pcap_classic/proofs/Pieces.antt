-- A capture that comes in pieces.
use Rattle.std.proofs.Common.{◌≡◌, ℕ, List, ◌++◌, length, map, sym, ap, ◌∙◌, append_assoc, inl, inr}
use Rattle.std.proofs.lemmas.List.{map-id}
use Rattle.byteorder.specs.Endian.{big_number}
use Rattle.pcap_core.specs.Answer.{Order, Number, number_in}
use Rattle.pcap_items.specs.Pieces.{HoldsItems, IsFedUpTo, IsOpening, Reaches}
use Rattle.pcap_items.specs.Run.{IsRest}
use Rattle.pcap_classic.specs.declared.pcap.header.PcapHeader.{PcapHeader}
use Rattle.pcap_classic.specs.declared.pcap.parser.PcapParser.{PcapParser}
use Rattle.pcap_classic.specs.declared.run.PcapRun.{PcapRun}
use Rattle.pcap_classic.specs.HeaderText.{HeaderSays, HeaderText, FieldsText}
use Rattle.pcap_classic.specs.Magic.{order_of}
use Rattle.pcap_classic.specs.Packets.{capture_format, format_under}
use Rattle.pcap_classic.specs.PacketText.{packet_limit, content_of}
use Rattle.pcap_classic.specs.Parser.{header_of}
use Rattle.pcap_classic.specs.Pieces.{HoldsPackets}
use Rattle.pcap_classic.specs.Run.{IsRun}
use Rattle.pcap_items.proofs.Showing.{rest_no_text}
use Rattle.pcap_classic.proofs.CaptureFormat.{front_under, state_stays, texts_under, under_lawful}
use Rattle.pcap_classic.proofs.One.{header_one}
use Rattle.pcap_classic.proofs.OneFront.{front_one}
use Rattle.pcap_classic.proofs.Stable.{header_stable}

-- ---- the opening of a capture

Behind : List ℕ → List ℕ → Type 0
Behind s after = (t : List ℕ) × (s ≡ t ++ after)

number_behind : (order : Order) (w n : ℕ) (s after : List ℕ) → Number order w n s after → Behind s after
unfolding Behind
number_behind order w n s after p = (p.bytes, p.text)

behind_both : (a b c : List ℕ) → Behind a b → Behind b c → Behind a c
unfolding Behind
behind_both a b c x y = (x.0 ++ y.0, x.1 ∙ ap (λ (l : List ℕ). x.0 ++ l) y.1 ∙ sym (append_assoc x.0 y.0 c))

fields_behind : (order : Order) (header : PcapHeader) (s rest : List ℕ) → FieldsText order header s rest → Behind s rest
fields_behind order header s rest p =
    behind_both s p.after_major rest (number_behind order 2 header.version_major s p.after_major p.major)
    (behind_both p.after_major p.after_minor rest (number_behind order 2 header.version_minor p.after_major p.after_minor p.minor)
    (behind_both p.after_minor p.after_correction rest (number_behind order 4 p.correction_bits p.after_minor p.after_correction p.correction)
    (behind_both p.after_correction p.after_accuracy rest (number_behind order 4 header.ts_accuracy p.after_correction p.after_accuracy p.accuracy)
    (behind_both p.after_accuracy p.after_snaplen rest (number_behind order 4 header.snaplen p.after_accuracy p.after_snaplen p.snaplen)
    (number_behind order 4 p.link_number_is p.after_snaplen rest p.link)))))

header_behind : (s after : List ℕ) (header : PcapHeader) → HeaderText header s after → (t : List ℕ) × (s ≡ t ++ after)
unfolding Behind
header_behind s after header p =
    behind_both s p.after_magic after (number_behind big_number 4 header.magic_number s p.after_magic p.magic) (fields_behind (number_in (order_of header.magic_number)) header p.after_magic after p.fields)

pub header_opening : IsOpening HeaderSays
header_opening = record { one = header_one; stable = header_stable; ends = header_behind }

pub holds_packets : (s : List ℕ) (n : ℕ) → HoldsItems HeaderSays (capture_format packet_limit) s n → HoldsPackets s n
holds_packets s n (inl x) = inl (x.0, x.2, x.3, record { after = x.1; header_text = x.4; front = front_under packet_limit x.0 x.2 x.1 x.3 x.5 }, x.6)
holds_packets s n (inr x) = inr x

-- A run over all pieces.
pub fed_run : (s : List ℕ) (parser : PcapParser) (run : PcapRun) → IsFedUpTo HeaderSays (capture_format packet_limit) (λ packet. packet) (header_of parser) s run.rest run.used (map content_of run.packets.items)
    → run.header ≡ header_of parser → IsRun run s
fed_run s parser run x same =
    let r : Reaches HeaderSays (capture_format packet_limit) (λ packet. packet) (header_of parser) (map content_of run.packets.items) s x.left = x.reaches in
    let header : r.first ≡ run.header = sym (state_stays packet_limit r.first r.leads.values) ∙ r.leads.state_is ∙ sym same in
    let packets : r.leads.values ≡ map content_of run.packets.items = sym (map-id r.leads.values) ∙ r.leads.parts in
    let texts = texts_under packet_limit r.first r.leads.values r.after x.left r.leads.texts in
    let rest : IsRest ((format_under packet_limit run.header).says tt) x.left run.rest = rw same x.rest_is in
    record {
      left = x.left;
      front = record {
        after = r.after;
        header_text = rw (← header) r.opening;
        front = record {
          texts = rw (← packets, ← header) texts;
          longest = rest_no_text (format_under packet_limit run.header) (under_lawful packet_limit run.header) tt x.left run.rest rest;
        };
      };
      used = x.used_is;
      rest = rest;
    }

-- The number of packets that bytes hold is uniquely determined.
pub packets_held_same : (s : List ℕ) (n m : ℕ) → HoldsPackets s n → HoldsPackets s m → n ≡ m
packets_held_same s n m (inl x) (inl y) =
    let same = front_one packet_limit x.0 y.0 x.1 y.1 s x.2 y.2 x.3 y.3 in
    x.4 ∙ ap length same.1 ∙ sym y.4
packets_held_same s n m (inl x) (inr y) = absurd (y.0 x.0 x.3.after x.3.header_text)
packets_held_same s n m (inr x) (inl y) = absurd (x.0 y.0 y.3.after y.3.header_text)
packets_held_same s n m (inr x) (inr y) = x.1 ∙ sym y.1
