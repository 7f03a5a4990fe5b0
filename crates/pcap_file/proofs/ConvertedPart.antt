-- The output of a conversion to PcapNg is a beginning of the output of the whole conversion.
use Rattle.std.proofs.Common.{◌≡◌, ℕ, List, [], ◌++◌, map, refl, ap, sym, ◌∙◌, subst, append_assoc, Some, ◌⊎◌, inl, inr}
use Rattle.std.specs.Prelude.{Option}
use Rattle.std.specs.Io.KnownBytes.{Appends, Keeps}
use Rattle.std.proofs.KnownBytes.{Appends-kept, Appends-nil, Appends-trans}
use Rattle.std.proofs.lemmas.Grind.{flat_map-append}
use Rattle.std.proofs.lemmas.List.{map-append}
use Rattle.std.proofs.lemmas.List.Folds.{flat_map-map}
use Rattle.pcap_items.specs.Copying.{each_written}
use Rattle.pcap_items.specs.Format.{Texts}
use Rattle.pcap_items.specs.Takes.{TakesTexts}
use Rattle.pcap_items.proofs.Formats.{front_goes_on, has_front, texts_more}
use Rattle.pcap_items.proofs.Accepted.{copies_begin}
use Rattle.pcap_items.proofs.Copying.{each_writing}
use Rattle.pcap_items.proofs.Taking.{taken_known}
use Rattle.pcap_items.specs.Reading.{Takes}
use Rattle.pcap_classic.specs.declared.pcap.header.PcapHeader.{PcapHeader}
use Rattle.pcap_classic.specs.declared.run.copy.Copied.{Copied}
use Rattle.pcap_classic.specs.HeaderText.{HeaderSays, HeaderText}
use Rattle.pcap_classic.specs.Packets.{format_under}
use Rattle.pcap_classic.specs.PacketText.{Captured, packet_limit}
use Rattle.pcap_classic.proofs.Copied.{lawful_under}
use Rattle.pcap_classic.proofs.Stable.{header_stable}
use Rattle.pcap_file.specs.Conversion.{BeginsConverted}
use Rattle.pcap_file.specs.Converted.{converted, converted_text, little_text, little_texts, opening_blocks, packet_block}
use Rattle.pcap_file.specs.Converts.{ConvertRun}

-- The blocks of two lists of packets are the blocks of the first and then those of the second.
more_texts : (header : PcapHeader) (packets more : List Captured)
    → little_texts (converted header (packets ++ more)) ≡ little_texts (converted header packets) ++ little_texts (map packet_block more)
more_texts header packets more =
    let opening = opening_blocks header in
    let first = map packet_block packets in
    let last = map packet_block more in
    flat_map-append little_text opening (map packet_block (packets ++ more))
    ∙ ap (λ (t : List ℕ). little_texts opening ++ t) (ap little_texts (map-append packet_block packets more) ∙ flat_map-append little_text first last)
    ∙ sym (append_assoc (little_texts opening) (little_texts first) (little_texts last))
    ∙ ap (λ (t : List ℕ). t ++ little_texts last) (sym (flat_map-append little_text opening first))

-- If a header was taken from known bytes, the bytes behind it are known.
header_known : (bytes : List ℕ) (now : Option (List ℕ)) (header : PcapHeader) → Takes HeaderSays (Some bytes) now header
    → (after : List ℕ) × (now ≡ Some after) × HeaderText header bytes after
header_known bytes now header took =
    let l = taken_known bytes took.0 now took.2 in
    (l.0, l.1, subst (λ (s : List ℕ). HeaderText header s l.0) (sym l.2) (header_stable.text took.0 l.0 [] header took.1))

-- A beginning of the blocks of packets that were taken is a beginning of the blocks of the front.
begins : (bytes after : List ℕ) (now : Option (List ℕ)) (header : PcapHeader) (packets : List Captured) (gone more : List ℕ) → HeaderText header bytes after
    → TakesTexts (format_under packet_limit header) tt packets (Some after) now → little_texts (converted header packets) ≡ gone ++ more
    → BeginsConverted bytes gone
begins bytes after now header packets gone more text took split =
    let f = format_under packet_limit header in
    let laws = lawful_under header in
    let l = taken_known after took.bytes now took.took in
    let texts : Texts f tt packets after l.0 = subst (λ (s : List ℕ). Texts f tt packets s l.0) (sym l.2) (texts_more f laws tt packets took.bytes [] l.0 took.texts) in
    let there = has_front f laws tt after in
    let on = front_goes_on f laws tt packets there.0 after l.0 there.1 texts there.2 in
    let last = little_texts (map packet_block on.0) in
    record {
      header = header;
      packets = there.0;
      rest = there.1;
      front = record { after = after; header_text = text; front = there.2 };
      more = more ++ last;
      split = ap (λ (ps : List Captured). little_texts (converted header ps)) on.1 ∙ more_texts header packets on.0 ∙ ap (λ (t : List ℕ). t ++ last) split ∙ append_assoc gone more last;
    }

module _ (bytes : List ℕ) (now out out_now : Option (List ℕ)) (most : ℕ) (copied : Copied) where
  -- The output of a conversion is nothing or a beginning of the whole conversion.
  abbrev Begins : Type 0
  Begins = (gone : List ℕ) × Appends out out_now gone × ((gone ≡ []) ⊎ BeginsConverted bytes gone)

  nothing : Keeps out out_now → Begins
  nothing kept = ([], Appends-kept out out out_now [] (Appends-nil out) kept, inl refl)

  pub conversion_begins : ConvertRun (Some bytes) now out out_now most copied → Begins
  conversion_begins (inl (inl bad)) = nothing bad.out
  conversion_begins (inl (inr (inl bad))) = nothing bad.out
  conversion_begins (inl (inr (inr tear))) =
      let known = header_known bytes now tear.header tear.read in
      let part = tear.out in
      let took : TakesTexts (format_under packet_limit tear.header) tt [] (Some known.0) (Some known.0) = record { bytes = []; texts = refl; took = refl } in
      (part.2.gone, part.2.out, inr (begins bytes known.0 (Some known.0) tear.header [] part.2.gone part.0 known.2 took part.2.split))
  conversion_begins (inr run) =
      let header = run.header in
      let known = header_known bytes run.behind header run.opened.read in
      let them = run.packets in
      let went = copies_begin (format_under packet_limit header) (lawful_under header) (each_written converted_text) copied.read_failed copied.write_failed copied.fault tt them.items
      run.behind them.left now run.out_behind them.mid out_now most copied.packets (each_writing converted_text) them.texts them.ends in
      let packets = went.0 in
      let opening = little_texts (opening_blocks header) in
      let gone = went.3 in
      let took = subst (λ (o : Option (List ℕ)). TakesTexts (format_under packet_limit header) tt packets o went.1) known.1 went.2 in
      let split = flat_map-append little_text (opening_blocks header) (map packet_block packets) ∙ ap (λ (t : List ℕ). opening ++ t) (flat_map-map little_text packet_block packets ∙ went.5)
      ∙ sym (append_assoc opening gone went.4) in
      (opening ++ gone, Appends-trans out run.out_behind out_now opening gone run.opened.out went.6, inr (begins bytes known.0 went.1 header packets (opening ++ gone) went.4 known.2 took split))
