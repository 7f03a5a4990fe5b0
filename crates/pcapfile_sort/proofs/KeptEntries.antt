-- The entries that the first pass keeps of the packets that it met.
use Rattle.std.proofs.Common.{◌≡◌, ◌<◌, ◌≤◌, ◌+◌, ◌*◌, ℕ, List, [], ◌∷◌, ◌++◌, length, Bool, true, true≢false, Option, Err, inl, inr, refl, sym, ap, ◌∙◌, subst, arith, append_assoc, append-nil, length-append}
use Rattle.std.specs.Prelude.{All}
use Rattle.std.specs.Io.KnownBytes.{Consumes, Keeps}
use Rattle.std.proofs.KnownBytes.{Consumes-trans}
use Rattle.std.proofs.lemmas.List.Elements.{All-nil, All-cons, All-push}
use Rattle.pcap_items.specs.Format.{Texts}
use Rattle.pcap_classic.specs.declared.pcap.header.PcapHeader.{PcapHeader}
use Rattle.pcap_classic.specs.declared.pcap.packet.PacketHeader.{PacketHeader}
use Rattle.pcap_classic.specs.Packets.{reader_format}
use Rattle.pcap_classic.specs.PacketText.{Captured, packet_limit}
use Rattle.pcap_walk.specs.declared.walking.Ended.{Ended}
use Rattle.pcap_walk.specs.declared.walking.Ended.TheVariants.{AtEnd, AtMost, Refused, Stopped}
use Rattle.pcap_walk.specs.MetPackets.{met_packet}
use Rattle.pcap_walk.specs.Walks.{Does, does_of, EndsWalk, Folds, StopsAt}
use Rattle.pcapfile_sort.specs.declared.collecting.Entries.{Entries}
use Rattle.pcapfile_sort.specs.declared.collecting.Unkept.{Unkept}
use Rattle.pcapfile_sort.specs.declared.collecting.Unkept.TheVariants.{Memory, TooLong}
use Rattle.pcapfile_sort.specs.declared.entry.Entry.{Entry}
use Rattle.pcapfile_sort.specs.Entries.{entry_of, entries_of}
use Rattle.pcapfile_sort.specs.Reading.{EndsReading, KeepsEntry, KeepsOne, KeepsPacket, ReadsEntries}
use Rattle.pcapfile_sort.specs.Packets.{IsTimed, time_in}
use Rattle.pcapfile_sort.specs.Ranked.{Ranked, ranked_at, texts_of}
use Rattle.pcapfile_sort.proofs.PacketRecords.{packet_met, texts_push}

-- The most packets that a walk gives.
abbrev pub most : ℕ
most = 18446744073709551615

-- After this many bytes, these bytes are records, and their entries were added to those that were kept.
record Kept (header : PcapHeader) (bytes : List ℕ) (old new : Entries) (count : ℕ) : Type 0 where
  records : List Ranked
  each : All (IsTimed header) records
  texts : bytes ≡ texts_of records
  entries : new.list.items ≡ old.list.items ++ entries_of old.place records
  place : new.place ≡ old.place + length bytes
  long : 16 * count ≤ length bytes

-- Why the first pass keeps no entry of the last of these records.
stop_ends : (header : PcapHeader) (records : List Ranked) (left : Option (List ℕ)) (failed : Bool) (place : ℕ) (new kept : Entries) (head : PacketHeader) (text : List ℕ) (stop : Unkept)
    → 0 < length records → kept.place + length text ≡ place + length (texts_of records) → KeepsEntry (time_in head) (length text) kept new (Err stop) → EndsReading header records left failed place new (Stopped stop)
stop_ends header records left failed place new kept head text Memory some all given = some
stop_ends header records left failed place new kept head text TooLong some all given = omega (arith, given, all)

-- What the first pass does at each packet.
abbrev pub keeping : Type 0 → Does Captured Entries Unkept
keeping F =
    does_of {F = F} {H = PacketHeader} {V = Captured} {K = Entries} {E = Unkept} (λ walker head text. met_packet head text) (λ index entries. true)
    (λ index walker head text old out new out_now result. KeepsPacket head text old new result × Keeps out out_now)

module _ (F : Type 0) (header : PcapHeader) where
  kept_all : (n : ℕ) (vs : List Captured) (bytes : List ℕ) (old new : Entries) (out out_now : Option (List ℕ)) → Texts (reader_format packet_limit header) tt vs bytes [] → Folds (keeping F) n vs bytes old out new out_now
      → Kept header bytes old new (length vs)
  kept_all n [] bytes old new out out_now texts folds = record {
    records = [];
    each = All-nil (IsTimed header);
    texts = folds.0;
    entries = ap (λ (e : Entries). e.list.items) folds.1 ∙ sym (append-nil old.list.items);
    place = omega (arith, ap (λ (e : Entries). e.place) folds.1, ap length folds.0);
    long = omega arith;
  }
  kept_all n (v ∷ vs) bytes old new out out_now texts folds =
      let text = folds.0 in
      let after = folds.1 in
      let kept : Entries = folds.2 in
      let head : PacketHeader = folds.7.1 in
      let long : 16 ≤ length text = folds.7.4.0.0 in
      let one : KeepsOne (time_in head) (length text) old kept = folds.7.4.0.1 in
      let met = packet_met header v head text bytes after texts.0 folds.7.2 long folds.5 texts.1 in
      let there : Texts (reader_format packet_limit header) tt vs after [] = subst (λ (t : List ℕ). Texts (reader_format packet_limit header) tt vs t []) (sym met.0) texts.2 in
      let more = kept_all (n + 1) vs after kept new folds.4 out_now there folds.8 in
      let ranked : Ranked = ranked_at (time_in head) text in
      let others : List Entry = entries_of (old.place + length text) more.records in
      record {
        records = ranked ∷ more.records;
        each = All-cons (IsTimed header) ranked more.records (record { packet = v; said = met.1; time_is = ap (λ (p : Captured). time_in p.header) folds.7.2 }) more.each;
        texts = folds.5 ∙ ap (λ (l : List ℕ). text ++ l) more.texts;
        entries = more.entries ∙ ap (λ (place : ℕ). kept.list.items ++ entries_of place more.records) one.place ∙ ap (λ (l : List Entry). l ++ others) one.kept
            ∙ append_assoc old.list.items (entry_of old.place ranked ∷ []) others;
        place = omega (arith, more.place, one.place, ap length folds.5, length-append text after);
        long = omega (arith, more.long, long, ap length folds.5, length-append text after);
      }

  -- The first pass stopped at the next packet.
  stopped_at : (before left now : Option (List ℕ)) (failed : Bool) (n : ℕ) (old kept new : Entries) (out out_now : Option (List ℕ)) (stop : Unkept) (bytes : List ℕ) (count : ℕ)
      → Kept header bytes old kept count → Consumes before left bytes → StopsAt (reader_format packet_limit header) (keeping F) tt left now n kept new out out_now stop → ReadsEntries header before failed old.place new (Stopped stop)
  stopped_at before left now failed n old kept new out out_now stop bytes count all took at =
      let next : Ranked = record { rank = time_in at.item.header; text = at.text } in
      let records = all.records ++ next ∷ [] in
      let push = texts_push all.records next in
      let so_far : Consumes before left (texts_of all.records) = subst (λ (t : List ℕ). Consumes before left t) all.texts took in
      let long : length (texts_of records) ≡ length bytes + length at.text =
      ap length push ∙ length-append (texts_of all.records) at.text ∙ ap (λ (l : List ℕ). length l + length at.text) (sym all.texts) in
      let whole_place : kept.place + length at.text ≡ old.place + length (texts_of records) = omega (arith, long, all.place) in
      record {
        records = records;
        left = now;
        each = All-push (IsTimed header) all.records next all.each (record { packet = at.item; said = at.is_text; time_is = refl });
        took = subst (λ (t : List ℕ). Consumes before now t) (sym push) (Consumes-trans before left now (texts_of all.records) at.text so_far at.took);
        ends = stop_ends header records now failed old.place new kept at.stops.1 at.text stop (omega (arith, length-append all.records (next ∷ []))) whole_place at.stops.4.0.1;
      }

  -- What the first pass has read and kept when its walk ends.
  pub entries_read : (IsUnready : Unkept → Type 0) → ((stop : Unkept) → IsUnready stop → ⊥) → (before now : Option (List ℕ)) (failed : Bool) (m : ℕ) (old new : Entries) (out out_now : Option (List ℕ)) (ended : Ended Unkept)
      → old.list.items ≡ [] → EndsWalk (reader_format packet_limit header) (keeping F) IsUnready (λ index entries. true) tt before now failed most 0 m old new out out_now ended
      → ReadsEntries header before failed old.place new ended
  entries_read IsUnready ready before now failed m old new out out_now AtEnd empty walk =
      let so_far = walk.so_far in
      let all = kept_all 0 so_far.items so_far.took.bytes old walk.kept out walk.mid so_far.took.texts so_far.kept in
      record {
        records = all.records;
        left = walk.left;
        each = all.each;
        took = subst (λ (t : List ℕ). Consumes before walk.left t) all.texts so_far.took.took;
        ends = (walk.ends.2, ap (λ (e : Entries). e.list.items) walk.ends.4 ∙ all.entries ∙ ap (λ (l : List Entry). l ++ entries_of old.place all.records) empty);
      }
  entries_read IsUnready ready before now failed m old new out out_now AtMost empty walk =
      let so_far = walk.so_far in
      let all = kept_all 0 so_far.items so_far.took.bytes old walk.kept out walk.mid so_far.took.texts so_far.kept in
      let full : m ≡ most = elim walk.ends.0 [ inl is ↦ is | inr wrong ↦ absurd (true≢false wrong) ] in
      record {
        records = all.records;
        left = walk.left;
        each = all.each;
        took = subst (λ (t : List ℕ). Consumes before walk.left t) all.texts so_far.took.took;
        ends = omega (arith, full, so_far.count, all.long, ap length all.texts);
      }
  entries_read IsUnready ready before now failed m old new out out_now (Refused e) empty walk =
      let so_far = walk.so_far in
      let all = kept_all 0 so_far.items so_far.took.bytes old walk.kept out walk.mid so_far.took.texts so_far.kept in
      record {
        records = all.records;
        left = walk.left;
        each = all.each;
        took = subst (λ (t : List ℕ). Consumes before walk.left t) all.texts so_far.took.took;
        ends = (walk.ends.1, ap (λ (e : Entries). e.place) walk.ends.3 ∙ all.place ∙ ap (λ (l : List ℕ). old.place + length l) all.texts);
      }
  entries_read IsUnready ready before now failed m old new out out_now (Stopped stop) empty walk =
      let so_far = walk.so_far in
      let all = kept_all 0 so_far.items so_far.took.bytes old walk.kept out walk.mid so_far.took.texts so_far.kept in
      elim walk.ends.2 [
        | inl at ↦ stopped_at before walk.left now failed m old walk.kept new walk.mid out_now stop so_far.took.bytes (length so_far.items) all so_far.took.took at
        | inr un ↦ absurd (ready stop un.0)
      ]

-- What the first pass has read and kept, under the header that it was given.
pub entries_walked : (F : Type 0) (header under : PcapHeader) → under ≡ header → (n : ℕ) → n ≡ 0 → (before now : Option (List ℕ)) (failed : Bool) (m : ℕ) (old new : Entries) (out out_now : Option (List ℕ)) (ended : Ended Unkept)
    → old.list.items ≡ [] → EndsWalk (reader_format packet_limit under) (keeping F) (λ stop. ⊥) (λ index entries. true) tt before now failed most n m old new out out_now ended
    → ReadsEntries header before failed old.place new ended
entries_walked F header under same n none before now failed m old new out out_now ended empty walk =
    let here = subst (λ (h : PcapHeader). EndsWalk (reader_format packet_limit h) (keeping F) (λ stop. ⊥) (λ index entries. true) tt before now failed most n m old new out out_now ended) same walk in
    let first = subst (λ (k : ℕ). EndsWalk (reader_format packet_limit header) (keeping F) (λ stop. ⊥) (λ index entries. true) tt before now failed most k m old new out out_now ended) none here in
    entries_read F header (λ stop. ⊥) (λ stop unready. unready) before now failed m old new out out_now ended empty first
