-- Runs over a capture that is shown exactly as requested.
use Rattle.std.proofs.Common.{◌≡◌, ◌≤◌, ◌+◌, ◌-◌, ℕ, List, [], ◌∷◌, ◌++◌, length, take, drop, map, refl, sym, subst, ◌∙◌, arith, append_assoc, length-drop}
use Rattle.std.proofs.lemmas.List.{length-take-le, length-map, map-id, take-append-drop}
use Rattle.std.proofs.Math.Nat.{min-le_left, min-le_right}
use Rattle.std.specs.Prelude.{min}
use Rattle.pcap_core.specs.declared.errors.PcapError.{PcapError}
use Rattle.pcap_core.specs.declared.errors.PcapError.TheVariants as errors
use Rattle.pcap_items.specs.declared.run.items.Ended.{Ended}
use Rattle.pcap_core.specs.Answer.{Order, Refuses}
use Rattle.pcap_items.specs.Exact.{ExactItems}
use Rattle.pcap_core.specs.Faults.{Fault, Invalid, Io, Utf8}
use Rattle.pcap_items.specs.Items.{GrowsIn, ShowsFault, rest_of}
use Rattle.pcap_items.specs.Requested.{HeadThenRest, RequestsAt, RunRequests}
use Rattle.pcap_items.proofs.Formats.{nil_of_length}
use Rattle.pcap_items.proofs.Items.{grows_some}
use Rattle.pcap_items.proofs.Requested.{item_asks}
use Rattle.pcap_items.proofs.Showing.{exact_few, exact_leads}
use Rattle.pcap_classic.specs.declared.common.TsResolution.{TsResolution}
use Rattle.pcap_classic.specs.declared.pcap.header.PcapHeader.{PcapHeader}
use Rattle.pcap_classic.specs.declared.run.PcapRun.{PcapRun}
use Rattle.pcap_classic.specs.Exact.{IsExact}
use Rattle.pcap_classic.specs.HeaderText.{HeaderText, LacksHeader, HasHeaderFault}
use Rattle.pcap_classic.specs.Packets.{capture_format, format_under, packet_format}
use Rattle.pcap_classic.specs.PacketText.{Captured, PacketText, packet_limit, content_of}
use Rattle.pcap_classic.specs.Run.{HasPacket}
use Rattle.pcap_classic.proofs.CaptureFormat.{capture_lawful, front_under, run_requests_under, run_under}
use Rattle.pcap_classic.proofs.HeadedPackets.{packets_lawful}
use Rattle.pcap_classic.proofs.Stable.{header_stable}
use Rattle.pcap_classic.proofs.Texts.{header_length, packet_length}

-- A first request that is met.
pub first_shown : (k shown before left : ℕ) → before ≡ 0 → k ≡ min 24 (left - before) → shown ≡ before + k → 24 ≤ k → (shown ≡ 24) × (24 ≤ left)
first_shown k shown before left none is sum met =
    let most : k ≤ 24 = omega (arith, is, min-le_left 24 (left - before)) in
    let fits : k ≤ left - before = omega (arith, is, min-le_right 24 (left - before)) in
    (omega (arith, none, sum, most, met), omega (arith, fits, met, none))

fault_all : (bytes : List ℕ) (fault : Fault) → HasHeaderFault (take 24 bytes) fault → HasHeaderFault bytes fault
fault_all bytes fault x = subst (λ (t : List ℕ). HasHeaderFault t fault) (take-append-drop 24 bytes) (header_stable.fault (take 24 bytes) (drop 24 bytes) fault x)

-- A refusal of the first 24 bytes is a refusal of all bytes.
pub header_refuses : (MayGrow : Type 0) (bytes : List ℕ) → 24 ≤ length bytes → (e : PcapError) → Refuses ⊥ (LacksHeader (take 24 bytes)) (HasHeaderFault (take 24 bytes)) e
    → Refuses MayGrow (LacksHeader bytes) (HasHeaderFault bytes) e
header_refuses MayGrow bytes long (errors.IncompleteBuffer n) x = absurd (omega (arith, x.some, x.missing, length-take-le 24 bytes long))
header_refuses MayGrow bytes long (errors.InvalidField text) x = (x.0, x.1, fault_all bytes (Invalid x.0) x.2)
header_refuses MayGrow bytes long (errors.IoError e) x = fault_all bytes Io x
header_refuses MayGrow bytes long (errors.Utf8Error e) x = fault_all bytes Utf8 x
header_refuses MayGrow bytes long (errors.FromUtf8Error e) x = absurd x
header_refuses MayGrow bytes long (errors.OutOfMemory e) x = absurd x
header_refuses MayGrow bytes long errors.WriterFailed x = absurd x

-- A header of the first 24 bytes is the header of all bytes.
pub header_all : (header : PcapHeader) (bytes rest : List ℕ) → 24 ≤ length bytes → HeaderText header (take 24 bytes) rest → HeaderText header bytes (drop 24 bytes)
header_all header bytes rest long text =
    let none : rest ≡ [] = nil_of_length rest (omega (arith, header_length header (take 24 bytes) rest text, length-take-le 24 bytes long)) in
    let alone : HeaderText header (take 24 bytes) [] = subst (λ (t : List ℕ). HeaderText header (take 24 bytes) t) none text in
    subst (λ (t : List ℕ). HeaderText header t (drop 24 bytes)) (take-append-drop 24 bytes) (header_stable.text (take 24 bytes) (drop 24 bytes) [] header alone)

-- A run whose requests were counted.
pub exact_is : (run : PcapRun) (ended : Ended PcapError) (header : PcapHeader) (bytes earlier now : List ℕ) (count : ℕ) → HeaderText header bytes (drop 24 bytes) → run.rest ≡ rest_of ended
    → ExactItems (capture_format packet_limit) (λ packet. packet) ShowsFault header run.header (map content_of run.packets.items) bytes 24 run.used ended (earlier ++ 24 ∷ []) now 1 count
    → IsExact run count bytes earlier now
exact_is run ended header bytes earlier now count text rest x =
    let packets = map content_of run.packets.items in
    let left = drop run.used bytes in
    let u = run_under header run.header packets (drop 24 bytes) left ended (exact_leads x) x.ends in
    let all : x.values ≡ packets = sym (map-id x.values) ∙ x.parts in
    let requests = subst (λ (l : List Captured). RunRequests (format_under packet_limit header) tt l (drop 24 bytes) left x.requests) all (run_requests_under packet_limit header x.values (drop 24 bytes) left x.requests x.asked) in
    record {
      run_is = record {
        left = left;
        front = record { after = drop 24 bytes; header_text = rw (← u.same) text; front = rw (← u.same) u.front };
        used = omega (arith, x.within, length-drop run.used bytes);
        rest = rw (rest, ← u.same) u.rest;
      };
      requests = 24 ∷ x.requests;
      asked = record { after = drop 24 bytes; further = x.requests; header_text = rw (← u.same) text; run = rw (← u.same) requests; all = refl };
      grown = x.grown ∙ append_assoc earlier (24 ∷ []) x.requests;
      counted = omega (arith, x.counted);
      few = omega (arith, exact_few x, length-map run.packets.items content_of);
    }

-- The requests for a packet are its head and its data.
pub packet_asks : (limit : ℕ) (order : Order) (r : TsResolution) (packet : Captured) (s rest ns : List ℕ) → PacketText limit order r packet s rest
    → RequestsAt (packet_format limit order r) tt s ns → HeadThenRest 16 (16 + length packet.bytes) ns
unfolding packet_format
packet_asks limit order r packet s rest ns text asked =
    let f = packet_format limit order r in
    let laws = packets_lawful limit order r in
    let o = laws.own tt s rest packet text in
    let count : length o.0 ≡ 16 + length packet.bytes = omega (arith, packet_length order limit r packet o.0 [] o.2) in
    subst (λ (n : ℕ). HeadThenRest 16 n ns) count (item_asks f laws tt s ns packet o.0 rest o.1 o.2 asked)

-- If a run needed memory for a packet, the capture has a packet.
pub has_packet : (header : PcapHeader) (bytes rest : List ℕ) → HeaderText header bytes rest → GrowsIn (capture_format packet_limit) (λ _ _. ⊥) header rest → HasPacket bytes
has_packet header bytes rest text grown =
    let some = grows_some (capture_format packet_limit) (capture_lawful packet_limit) header rest grown in
    (header, some.0, some.1, some.2, record { after = rest; header_text = text; front = front_under packet_limit header (some.0 ∷ some.1) rest some.2 some.3 })
