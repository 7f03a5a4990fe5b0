-- Copies of captures with an empty rest.
use Rattle.std.proofs.Common.{◌≡◌, ◌≤◌, ℕ, List, [], ◌∷◌, ◌++◌, length, ap, sym, ◌∙◌, subst, arith, length-append, append-nil, true, false, Bool, Err, Some, None, inl, inr}
use Rattle.std.specs.Prelude.{Option, All, map}
use Rattle.std.specs.Option.{IsSomeAnd}
use Rattle.std.specs.Io.KnownBytes.{Appends}
use Rattle.std.proofs.KnownBytes.{Appends-kept}
use Rattle.std.proofs.lemmas.List.{nil_from_length}
use Rattle.std.proofs.lemmas.List.Elements.{All-nil, All-cons}
use Rattle.pcap_core.specs.declared.common.Endianness.{Endianness}
use Rattle.pcap_classic.specs.declared.common.TsResolution.{TsResolution}
use Rattle.pcap_core.specs.declared.errors.PcapError.{PcapError}
use Rattle.pcap_classic.specs.declared.pcap.header.PcapHeader.{PcapHeader}
use Rattle.pcap_classic.specs.declared.pcap.packet.PacketHeader.{PacketHeader}
use Rattle.pcap_classic.specs.declared.run.copy.Copied.{Copied}
use Rattle.pcap_classic.specs.declared.run.copy.Under.{Under}
use Rattle.pcap_classic.specs.declared.run.copy.Under.TheVariants.{Same}
use Rattle.pcap_core.specs.Answer.{number_in, whole, lacks, faulty}
use Rattle.pcap_core.specs.Bytes.{IsBytes}
use Rattle.pcap_classic.specs.Copies.{PacketIsSaid, CopiesFront, CopyFront, CanBeUnder, header_under, NothingFailed, CopiesAll}
use Rattle.pcap_items.specs.Copying.{each_written}
use Rattle.pcap_items.specs.Format.{Texts}
use Rattle.pcap_classic.specs.Front.{CaptureFront}
use Rattle.pcap_classic.specs.HeaderText.{HeaderText, HeaderSays}
use Rattle.pcap_classic.specs.Magic.{order_of, resolution_of}
use Rattle.pcap_classic.specs.Packets.{packet_format}
use Rattle.pcap_classic.specs.PacketText.{Captured, PacketText, packet_limit}
use Rattle.pcap_items.specs.Reading.{IsFaultOf, ReadsTold}
use Rattle.pcap_items.specs.Takes.{EndsFront}
use Rattle.pcap_classic.specs.Written.{written_under, capture, cut, IsWhole, IsWholeHeader}
use Rattle.pcap_core.proofs.WrittenNumbers.{number_below}
use Rattle.pcap_classic.proofs.Concrete.{packet_written, header_written, front_written}
use Rattle.pcap_items.proofs.Accepted.{no_fault_left}
use Rattle.pcap_items.proofs.Copying.{ends_stops}
use Rattle.pcap_classic.proofs.One.{header_one}
use Rattle.pcap_classic.proofs.OneFront.{front_one}
use Rattle.pcap_classic.proofs.ReadCapture.{capture_again}
use Rattle.pcap_core.proofs.Refusals.{shown_fault}

-- If no read failed, the header of a capture is not refused.
pub no_header_refusal : (header : PcapHeader) (bytes after : List ℕ) (now : Option (List ℕ)) (failed : Bool) (fault : Option PcapError) → failed ≡ false → HeaderText header bytes after
    → IsSomeAnd fault (λ e. ReadsTold HeaderSays (λ (h : PcapHeader). h) (Some bytes) now failed (Err e)) → ⊥
no_header_refusal header bytes after now failed None unfailed text refusal = refusal
no_header_refusal header bytes after now failed (Some e) unfailed text refusal =
    let o = header_one bytes in
    elim refusal.1 [
      | inl io ↦ absurd (let x : true ≡ false = sym io.1 ∙ unfailed in cc)
      | inr other ↦ elim other [
        | inl short ↦ let x : whole header after ≡ lacks short.2.n = o.only (whole header after) text ∙ sym (o.only (lacks short.2.n) short.2.lack) in absurd cc
        | inr bad ↦
            let fault = shown_fault (IsFaultOf HeaderSays (Some bytes)) e bad.0 in
            elim fault.1.shown [
              | inl stands ↦ let x : whole header after ≡ faulty fault.0 = o.only (whole header after) text ∙ sym (o.only (faulty fault.0) stands) in absurd cc
              | inr early ↦ let x : whole header after ≡ lacks early.n = o.only (whole header after) text ∙ sym (o.only (lacks early.n) early.lack) in absurd cc
            ]
      ]
    ]

module _ (under : Under) (header : PcapHeader) (packets : List Captured) (bytes : List ℕ) (now out_before out_now : Option (List ℕ)) (most : ℕ) (copied : Copied)
    (front : CaptureFront packet_limit header packets bytes []) (room : length packets ≤ most) (fine : NothingFailed copied) where
  all_copied : CopiesFront under bytes now out_before out_now most copied → CopiesAll (header_under under header) packets out_before out_now copied
  all_copied copy =
      let one = front_one packet_limit header copy.header packets (copy.packets ++ copy.more) bytes [] copy.rest front copy.front in
      let ends : EndsFront (PacketIsSaid copy.header) [] copy.more copied.read_failed copied.packets most copied.fault =
      subst (λ (l : List ℕ). EndsFront (PacketIsSaid copy.header) l copy.more copied.read_failed copied.packets most copied.fault) (sym one.2) (copy.wrote fine.no_write_failed) in
      let left = no_fault_left (PacketIsSaid copy.header) copy.more copied.read_failed copied.packets most copied.fault fine.no_read_failed fine.memory ends in
      let last : copy.more ≡ [] = elim left.1 [
        | inl none ↦ none
        | inr full ↦ nil_from_length copy.more (omega (arith, full, room, copy.count, ap length one.1, length-append copy.packets copy.more))
      ] in
      let same : packets ≡ copy.packets = one.1 ∙ ap (λ (l : List Captured). copy.packets ++ l) last ∙ append-nil copy.packets in
      let other = header_under under copy.header in
      let keeps = (ends_stops (each_written (written_under other)) (PacketIsSaid copy.header) (Some copy.left) now copy.mid out_now most copied.packets copied.fault copied.read_failed copied.write_failed fine.no_write_failed copy.ends).1 in
      record {
        fine = left.0;
        count = sym copy.count ∙ ap length (sym same);
        out = rw (one.0, same) (Appends-kept out_before copy.mid out_now (capture other copy.packets) copy.out keeps);
      }

  pub accepted_copied : CanBeUnder under → CopyFront under bytes now out_before out_now most copied → CopiesAll (header_under under header) packets out_before out_now copied
  accepted_copied valid copy =
      elim copy [
        | inl given ↦ absurd (given.invalid valid)
        | inr read ↦ elim read [
          | inl bad ↦ absurd (no_header_refusal header bytes front.after now copied.read_failed copied.fault fine.no_read_failed front.header_text bad.refused)
          | inr went ↦ elim went [
            | inl tear ↦ absurd (let x : true ≡ false = sym tear.write_failed ∙ fine.no_write_failed in cc)
            | inr them ↦ all_copied them
          ]
        ]
      ]

-- The copy of such a capture under its own header has the same bytes.
pub accepted_same : (header : PcapHeader) (packets : List Captured) (bytes : List ℕ) (now out_before out_now : Option (List ℕ)) (most : ℕ) (copied : Copied)
    → IsBytes bytes → CaptureFront packet_limit header packets bytes [] → length packets ≤ most → NothingFailed copied
    → CopyFront Same bytes now out_before out_now most copied → Appends out_before out_now bytes
accepted_same header packets bytes now out_before out_now most copied fits front room fine copy =
    let all = accepted_copied Same header packets bytes now out_before out_now most copied front room fine tt copy in
    let same : bytes ≡ capture header packets = front_written packet_limit header packets bytes [] fits front ∙ append-nil (capture header packets) in
    subst (λ (s : List ℕ). Appends out_before out_now s) (sym same) all.out

packet_whole : (e : Endianness) (r : TsResolution) (packet : Captured) (s rest : List ℕ) → IsBytes s → PacketText packet_limit (number_in e) r packet s rest → IsWhole packet
packet_whole e r packet s rest fits text =
    let head = text.header.head in
    let seconds : packet.header.ts_sec ≡ head.seconds = ap (λ (h : PacketHeader). h.ts_sec) text.header.value in
    let below = number_below e head.seconds s text.header.text.after_seconds fits text.header.text.seconds in
    record {
      seconds = rw seconds below;
      nanoseconds = rw text.header.value (omega (arith, text.header.good.fraction));
      included = text.whole;
      original = rw text.header.value text.header.good.included;
      limit = rw text.header.value text.header.good.original;
    }

pub packets_whole : (e : Endianness) (r : TsResolution) (packets : List Captured) (s rest : List ℕ) → IsBytes s → Texts (packet_format packet_limit (number_in e) r) tt packets s rest → All IsWhole packets
unfolding packet_format
packets_whole e r [] s rest fits texts = All-nil IsWhole
packets_whole e r (packet ∷ packets) s rest fits texts =
    let one = packet_written packet_limit e r packet s texts.0 fits texts.1 in
    All-cons IsWhole packet packets (packet_whole e r packet s texts.0 fits texts.1) (packets_whole e r packets texts.0 rest one.1 texts.2)

-- The front of a copy under another header: that header, and the packets with their nanoseconds cut.
pub copy_again : (header under : PcapHeader) (packets : List Captured) (s rest : List ℕ) → IsBytes s → CaptureFront packet_limit header packets s rest → IsWholeHeader under
    → CaptureFront packet_limit under (map (cut (resolution_of under.magic_number)) packets) (capture under packets) []
copy_again header under packets s rest fits front whole_header =
    let behind = header_written header s front.after fits front.header_text in
    capture_again under packets whole_header
    (packets_whole (order_of header.magic_number) (resolution_of header.magic_number) packets front.after rest behind.1 front.front.texts)
