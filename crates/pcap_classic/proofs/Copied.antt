-- Packets that are copied one after another.
use Rattle.std.proofs.Common.{◌≡◌, ℕ, List, [], ◌∷◌, ◌++◌, refl, sym, ◌∙◌, subst, true, Some, None, inl, inr}
use Rattle.std.specs.Prelude.{Option, IfSome}
use Rattle.std.specs.List.{flat_map}
use Rattle.std.specs.Io.KnownBytes.{Appends}
use Rattle.std.proofs.KnownBytes.{Appends-trans}
use Rattle.std.proofs.lemmas.Bool.{true≢false}
use Rattle.pcap_core.specs.declared.errors.PcapError.{PcapError}
use Rattle.pcap_items.specs.declared.stream.copying.Tally.{Tally}
use Rattle.pcap_items.specs.Copying.{each_written}
use Rattle.pcap_classic.specs.declared.pcap.header.PcapHeader.{PcapHeader}
use Rattle.pcap_classic.specs.declared.run.copy.Copied.{Copied}
use Rattle.pcap_classic.specs.declared.run.copy.Under.{Under}
use Rattle.pcap_core.specs.Answer.{number_in, whole}
use Rattle.pcap_classic.specs.Copies.{PacketIsSaid, OpensCopy, Ends, CopiesBehind, CopiesPackets, copied_of, CopiesFront, Copies, CopyRun, CopyFront, header_under}
use Rattle.pcap_items.specs.Format.{Texts, Front, IsLawful}
use Rattle.pcap_classic.specs.HeaderText.{HeaderText}
use Rattle.pcap_classic.specs.Magic.{order_of, resolution_of}
use Rattle.pcap_classic.specs.Packets.{format_under}
use Rattle.pcap_classic.specs.PacketText.{Captured, packet_limit}
use Rattle.pcap_items.specs.Reading.{Takes}
use Rattle.pcap_classic.specs.Written.{written_header, written_under}
use Rattle.pcap_items.proofs.Formats.{texts_more, has_front, front_goes_on}
use Rattle.pcap_classic.proofs.HeadedPackets.{packets_lawful}
use Rattle.pcap_classic.proofs.Stable.{header_stable}
use Rattle.pcap_items.proofs.Copying.{ends_stops}
use Rattle.pcap_items.proofs.Taking.{ends_front, taken_known}

pub lawful_under : (header : PcapHeader) → IsLawful (format_under packet_limit header)
lawful_under header = packets_lawful packet_limit (number_in (order_of header.magic_number)) (resolution_of header.magic_number)

-- The copy of a header and packets.
pub copies_run : (under : Under) (before behind now out_before out_behind out_now : Option (List ℕ)) (header out : PcapHeader) (most : ℕ) (opened tally : Tally) (fault : Option PcapError)
    → OpensCopy under before behind out_before out_behind header out opened → CopiesBehind (written_under out) header behind now out_behind out_now most (copied_of tally fault)
    → CopyRun under before now out_before out_now most (copied_of tally fault)
copies_run under before behind now out_before out_behind out_now header out most opened tally fault opens run =
    inr (inr (inr (record {
      header = header;
      behind = behind;
      out_behind = out_behind;
      valid = opens.valid;
      read = opens.read;
      out = subst (λ (h : PcapHeader). Appends out_before out_behind (written_header h)) opens.asked opens.went;
      packets = subst (λ (h : PcapHeader). CopiesBehind (written_under h) header behind now out_behind out_now most (copied_of tally fault)) opens.asked run;
    })))

-- A copy that did not begin.
pub not_begun : (under : Under) (before now out_before out_now : Option (List ℕ)) (most : ℕ) (copied : Copied) → Copies ⊥ under before now out_before out_now copied → CopyRun under before now out_before out_now most copied
not_begun under before now out_before out_now most copied why =
    elim why [ inl given ↦ inl given | inr read ↦ elim read [ inl refused ↦ inr (inl refused) | inr went ↦ elim went [ inl tear ↦ inr (inr (inl tear)) | inr none ↦ absurd none ] ] ]

-- The packet that a failed write tore is the next one of the front.
tore_next : (text : Captured → List ℕ) (header : PcapHeader) (more : List Captured) (left rest : List ℕ) (now mid out_now : Option (List ℕ)) (most : ℕ) (copied : Copied)
    → Front (format_under packet_limit header) tt more left rest → copied.write_failed ≡ true → Ends text header (Some left) now mid out_now most copied
    → (packet : Captured) × (others : List Captured) × (more ≡ packet ∷ others) × Takes (PacketIsSaid header) (Some left) now packet
tore_next text header more left rest now mid out_now most copied front failed (inl ended) = absurd (true≢false (sym failed ∙ ended.0.no_write_failed))
tore_next text header more left rest now mid out_now most copied front failed (inr (few, inr bad)) = absurd (true≢false (sym failed ∙ bad.no_write_failed))
tore_next text header more left rest now mid out_now most copied front failed (inr (few, inl tear)) =
    let f = format_under packet_limit header in
    let l = taken_known left tear.text now tear.took in
    let next : f.says tt left (whole tear.item l.0) = subst (λ (t : List ℕ). f.says tt t (whole tear.item l.0)) (sym l.2) (((lawful_under header).stable tt).text tear.text l.0 [] tear.item tear.is_text) in
    let on = front_goes_on f (lawful_under header) tt (tear.item ∷ []) more left l.0 rest (l.0, next, refl) front in
    (tear.item, on.0, on.1, (tear.text, tear.is_text, tear.took))

copies_known : (under : Under) (bytes : List ℕ) (now out_before out_now : Option (List ℕ)) (most : ℕ) (copied : Copied)
    → CopiesPackets under (Some bytes) now out_before out_now most copied → CopiesFront under bytes now out_before out_now most copied
copies_known under bytes now out_before out_now most copied run =
    let f = format_under packet_limit run.header in
    let laws = lawful_under run.header in
    let other = header_under under run.header in
    let text = written_under other in
    let b = taken_known bytes run.read.0 run.behind run.read.2 in
    let behind : CopiesBehind text run.header (Some b.0) now run.out_behind out_now most copied =
    subst (λ (o : Option (List ℕ)). CopiesBehind text run.header o now run.out_behind out_now most copied) b.1 run.packets in
    let took = behind.texts in
    let l = taken_known b.0 took.bytes behind.left took.took in
    let packets = behind.items in
    let header_text : HeaderText run.header bytes b.0 = subst (λ (s : List ℕ). HeaderText run.header s b.0) (sym b.2) (header_stable.text run.read.0 b.0 [] run.header run.read.1) in
    let texts : Texts f tt packets b.0 l.0 = subst (λ (s : List ℕ). Texts f tt packets s l.0) (sym l.2) (texts_more f laws tt packets took.bytes [] l.0 took.texts) in
    let front = has_front f laws tt b.0 in
    let on = front_goes_on f laws tt packets front.0 b.0 l.0 front.1 texts front.2 in
    let all : Front f tt (packets ++ on.0) b.0 front.1 = subst (λ (ps : List Captured). Front f tt ps b.0 front.1) {y = packets ++ on.0} on.1 front.2 in
    let ends : Ends text run.header (Some l.0) now behind.mid out_now most copied = subst (λ (o : Option (List ℕ)). Ends text run.header o now behind.mid out_now most copied) l.1 behind.ends in
    record {
      header = run.header;
      packets = packets;
      more = on.0;
      left = l.0;
      rest = front.1;
      mid = behind.mid;
      valid = run.valid;
      front = record { after = b.0; header_text = header_text; front = all };
      texts = (b.0, header_text, texts);
      count = sym behind.count;
      within = behind.within;
      out = Appends-trans out_before run.out_behind behind.mid (written_header other) (flat_map text packets) run.out took.went;
      ends = ends;
      wrote = λ wrote. ends_front f laws tt copied.fault l.0 front.1 on.0 now copied.read_failed copied.packets most on.2
          (ends_stops (each_written text) (PacketIsSaid run.header) (Some l.0) now behind.mid out_now most copied.packets copied.fault copied.read_failed copied.write_failed wrote ends).0;
      tore = λ failed. tore_next text run.header on.0 l.0 front.1 now behind.mid out_now most copied on.2 failed ends;
    }

run_known : (under : Under) (bytes : List ℕ) (now out_before out_now : Option (List ℕ)) (most : ℕ) (copied : Copied)
    → CopyRun under (Some bytes) now out_before out_now most copied → CopyFront under bytes now out_before out_now most copied
run_known under bytes now out_before out_now most copied run =
    elim run [
      | inl given ↦ inl given
      | inr read ↦ elim read [
        | inl refused ↦ inr (inl refused)
        | inr went ↦ elim went [ inl tear ↦ inr (inr (inl tear)) | inr them ↦ inr (inr (inr (copies_known under bytes now out_before out_now most copied them))) ]
      ]
    ]

-- A copy from a reader whose bytes are known is a copy of their front.
pub run_copies : (under : Under) (before now out_before out_now : Option (List ℕ)) (most : ℕ) (copied : Copied)
    → CopyRun under before now out_before out_now most copied → IfSome before (λ bytes. CopyFront under bytes now out_before out_now most copied)
run_copies under None now out_before out_now most copied run = tt
run_copies under (Some bytes) now out_before out_now most copied run = run_known under bytes now out_before out_now most copied run
