-- The entries that the first pass keeps of the blocks that it reads.
use Rattle.std.proofs.Common.{◌≡◌, ◌<◌, ◌≤◌, ◌+◌, ◌*◌, ◌^◌, ℕ, List, [], ◌∷◌, ◌++◌, length, Bool, Option, Some, None, inl, inr, refl, sym, ap, ◌∙◌, subst, arith, append_assoc, append-nil, length-append}
use Rattle.std.specs.Io.KnownBytes.{Consumes, IsAtEnd}
use Rattle.std.proofs.KnownBytes.{Consumes-nil, Consumes-trans}
use Rattle.pcap_core.specs.declared.errors.PcapError.{PcapError}
use Rattle.pcap_core.specs.Answer.{whole}
use Rattle.pcap_items.specs.Reading.{HasCause}
use Rattle.pcap_items.specs.Lent.{TakesText}
use Rattle.pcap_blocks.specs.InterfaceDescription.{Interface}
use Rattle.pcap_ng.specs.Blocks.{Item, block_format}
use Rattle.pcap_ng.specs.Bodies.{SaysOfBody}
use Rattle.pcap_ng.specs.Frames.{Framed}
use Rattle.pcap_ng.specs.Opening.{OpeningSays}
use Rattle.pcap_ng.specs.State.{State, interfaces_at, opening, order_at}
use Rattle.pcap_ng.proofs.Frames.{frame_long}
use Rattle.pcap_walk.specs.declared.walking.Ended.{Ended}
use Rattle.pcap_walk.specs.declared.walking.Ended.TheVariants as ends
use Rattle.pcapfile_run.specs.BlockPackets.{packet_in}
use Rattle.pcapfile_sort.specs.declared.blocks.BlockEntries.{BlockEntries}
use Rattle.pcapfile_sort.specs.declared.blocks.Numbered.{Numbered}
use Rattle.pcapfile_sort.specs.declared.collecting.Unkept.{Unkept}
use Rattle.pcapfile_sort.specs.declared.collecting.Unkept.TheVariants as unkept
use Rattle.pcapfile_sort.specs.declared.entry.Entry.{Entry}
use Rattle.pcapfile_sort.specs.Blocks.{AreBlocks, HasSections, RefusesParsing, IsNumberIn, IsRankOf, block_captures, rank_in}
use Rattle.pcapfile_sort.specs.Entries.{entry_of, entries_of}
use Rattle.pcapfile_sort.specs.Ranked.{Ranked, ranked_at, texts_of}
use Rattle.pcapfile_sort.specs.Reading.{EndsPass, KeepsOne, PassesOnce}
use Rattle.pcapfile_sort.specs.ReadingBlocks.{EndsBlocks, IsBeyond, KeepsBlock, KeepsNumbered, KeepsRanked, NumbersBlock, ReadsBlocks}
use Rattle.pcapfile_sort.proofs.BlockRanks.{are_more, first_block}
use Rattle.pcapfile_sort.proofs.PacketRecords.{texts_push}

-- ---- one block

module _ (item : Item) (text : List ℕ) (interfaces : List Interface) (block : Framed) (under : interfaces ≡ interfaces_at item.after) (same : block ≡ item.block) (old new : BlockEntries) (numbered : Numbered)
    (numbers : NumbersBlock interfaces block old.sections numbered) (bytes : ℕ) (long : length text ≡ bytes) where
  rank_of : (after : ℕ) → after ≡ numbered.sections → IsRankOf item old.sections after (rank_in numbered.sections numbered.number)
  rank_of after is = record {
    body = numbers.body;
    rest = numbers.rest;
    says = subst (λ (b : Framed). SaysOfBody b (whole numbers.body numbers.rest)) same numbers.says;
    sections = is ∙ numbers.sections;
    number = numbered.number;
    number_is = subst (λ (l : List Interface). IsNumberIn l (packet_in l numbers.body) numbered.number) under numbers.number_is;
    rank_is = ap (λ (n : ℕ). rank_in n numbered.number) (sym is);
  }

  -- A numbered block is kept, or not.
  pub kept_numbered : (result : Option (Ended Unkept)) → KeepsNumbered numbered bytes old new result → KeepsBlock item text old new result
  kept_numbered None x = record { rank = rank_in numbered.sections numbered.number; rank_is = rank_of new.sections x.0; kept = subst (λ (n : ℕ). KeepsOne (rank_in numbered.sections numbered.number) n old.entries new.entries) (sym long) x.2; few = subst (λ (n : ℕ). n < 2 ^ 33) (sym x.0) x.1 }
  kept_numbered (Some (ends.Stopped unkept.Memory)) x = tt
  kept_numbered (Some (ends.Stopped unkept.TooLong)) x = record {
    rank = rank_in numbered.sections numbered.number;
    sections = numbered.sections;
    rank_is = rank_of numbered.sections refl;
    many = elim x [ inl most ↦ inl (subst (λ (n : ℕ). 2 ^ 64 ≤ old.entries.place + n) (sym long) most) | inr many ↦ inr many ];
  }
  kept_numbered (Some _) x = absurd x

-- ---- one block after another

entries_push : (place : ℕ) (records : List Ranked) (ranked : Ranked) → entries_of place (records ++ ranked ∷ []) ≡ entries_of place records ++ entry_of (place + length (texts_of records)) ranked ∷ []
entries_push place [] ranked = ap (λ (n : ℕ). entry_of n ranked ∷ []) (omega arith)
entries_push place (first ∷ others) ranked =
    let at : (place + length first.text) + length (texts_of others) ≡ place + length (texts_of (first ∷ others)) = omega (arith, length-append first.text (texts_of others)) in
    ap (λ (l : List Entry). entry_of place first ∷ l) (entries_push (place + length first.text) others ranked ∙ ap (λ (n : ℕ). entries_of (place + length first.text) others ++ entry_of n ranked ∷ []) at)

long_block : (q : State) (item : Item) (text : List ℕ) → block_format.says q text (whole item []) → 12 ≤ length text
unfolding block_format
long_block q item text says = omega (arith, frame_long (order_at q) item.block text [] says.frame)

-- After this many turns, these blocks were read, and their entries are kept.
pub record Kept (q : State) (before : Option (List ℕ)) (old : BlockEntries) (next : State) (left : Option (List ℕ)) (new : BlockEntries) (turns : ℕ) : Type 0 where
  pub records : List Ranked
  pub blocks : AreBlocks q old.sections records next new.sections
  pub took : Consumes before left (texts_of records)
  pub kept : new.entries.list.items ≡ old.entries.list.items ++ entries_of old.entries.place records
  pub place : new.entries.place ≡ old.entries.place + length (texts_of records)
  pub few : new.sections < 2 ^ 33
  pub long : 12 * turns ≤ length (texts_of records)

module _ (q : State) (before : Option (List ℕ)) (old : BlockEntries) where
  pub kept_none : (turns : ℕ) → turns ≡ 0 → old.sections < 2 ^ 33 → Kept q before old q before old turns
  kept_none turns none few = record {
    records = [];
    blocks = (refl, refl);
    took = Consumes-nil before;
    kept = sym (append-nil old.entries.list.items);
    place = omega arith;
    few = few;
    long = omega (arith, none);
  }

  module _ (next : State) (left : Option (List ℕ)) (now : BlockEntries) (turns : ℕ) (all : Kept q before old next left now turns) where
    took_more : (rest : Option (List ℕ)) (rank : ℕ) (text : List ℕ) → Consumes left rest text → Consumes before rest (texts_of (all.records ++ ranked_at rank text ∷ []))
    took_more rest rank text took = subst (λ (t : List ℕ). Consumes before rest t) (sym (texts_push all.records (ranked_at rank text))) (Consumes-trans before left rest (texts_of all.records) text all.took took)

    long_more : (rank : ℕ) (text : List ℕ) → length (texts_of (all.records ++ ranked_at rank text ∷ [])) ≡ length (texts_of all.records) + length text
    long_more rank text = ap length (texts_push all.records (ranked_at rank text)) ∙ length-append (texts_of all.records) text

    -- The entry of one more block is kept.
    pub kept_more : (item : Item) (text : List ℕ) (rest : Option (List ℕ)) (new : BlockEntries) → TakesText (block_format.says next) left rest text item → KeepsRanked item text now new → Kept q before old item.after rest new (turns + 1)
    kept_more item text rest new takes keeps =
        let one = ranked_at keeps.rank text in
        let olds = old.entries.list.items in
        record {
          records = all.records ++ one ∷ [];
          blocks = are_more q old.sections all.records next now.sections item new.sections keeps.rank text all.blocks takes.0 keeps.rank_is;
          took = took_more rest keeps.rank text takes.1;
          kept = keeps.kept.kept ∙ ap (λ (l : List Entry). l ++ entry_of now.entries.place one ∷ []) all.kept ∙ append_assoc olds (entries_of old.entries.place all.records) (entry_of now.entries.place one ∷ [])
              ∙ ap (λ (n : ℕ). olds ++ (entries_of old.entries.place all.records ++ entry_of n one ∷ [])) all.place ∙ ap (λ (l : List Entry). olds ++ l) (sym (entries_push old.entries.place all.records one));
          place = omega (arith, keeps.kept.place, all.place, long_more keeps.rank text);
          few = keeps.few;
          long = omega (arith, all.long, long_more keeps.rank text, long_block next item text takes.0);
        }

    ends_there : (ended : Ended Unkept) (failed : Bool) (new : BlockEntries) → EndsBlocks all.records next now.sections left failed old new ended → ReadsBlocks q before failed old new ended
    ends_there ended failed new x = record { records = all.records; next = next; sections = now.sections; rest = left; blocks = all.blocks; took = all.took; ends = x }

    -- No block is left.
    pub ends_at_end : (failed : Bool) → IsAtEnd left → ReadsBlocks q before failed old now ends.AtEnd
    ends_at_end failed end = ends_there ends.AtEnd failed now (end, all.kept, refl)

    -- More blocks were read than there are numbers.
    pub ends_most : (failed : Bool) → 18446744073709551615 ≤ turns → ReadsBlocks q before failed old now ends.AtMost
    ends_most failed most = ends_there ends.AtMost failed now (omega (arith, all.long, most))

    -- The next block is refused.
    pub ends_refused : (failed : Bool) (e : PcapError) → HasCause (block_format.says next) left failed e → ReadsBlocks q before failed old now (ends.Refused e)
    ends_refused failed e cause = ends_there (ends.Refused e) failed now (inl cause, all.place)

    -- The body of the next block is malformed, or there is no memory for it.
    pub ends_malformed : (failed : Bool) (e : PcapError) (item : Item) (text : List ℕ) (rest : Option (List ℕ)) (new : BlockEntries) → TakesText (block_format.says next) left rest text item → RefusesParsing item.block e → new ≡ now
        → ReadsBlocks q before failed old new (ends.Refused e)
    ends_malformed failed e item text rest new takes refused same =
        ends_there (ends.Refused e) failed new (inr (record { item = item; text = text; behind = rest; said = takes; refused = refused }), ap (λ (b : BlockEntries). b.entries.place) same ∙ all.place)

    -- There is no memory for the next entry.
    pub ends_memory : (failed : Bool) (new : BlockEntries) → ReadsBlocks q before failed old new (ends.Stopped unkept.Memory)
    ends_memory failed new = ends_there (ends.Stopped unkept.Memory) failed new tt

    -- The next block is more than a sort counts.
    pub ends_beyond : (failed : Bool) (item : Item) (text : List ℕ) (rest : Option (List ℕ)) (new : BlockEntries) → TakesText (block_format.says next) left rest text item → IsBeyond item text now new → ReadsBlocks q before failed old new (ends.Stopped unkept.TooLong)
    ends_beyond failed item text rest new takes beyond = record {
      records = all.records ++ ranked_at beyond.rank text ∷ [];
      next = item.after;
      sections = beyond.sections;
      rest = rest;
      blocks = are_more q old.sections all.records next now.sections item beyond.sections beyond.rank text all.blocks takes.0 beyond.rank_is;
      took = took_more rest beyond.rank text takes.1;
      ends = elim beyond.many [
        | inl long ↦ inl (omega (arith, long, all.place, long_more beyond.rank text))
        | inr many ↦ inr many
      ];
    }

    -- The first pass ends at the next block, whose entry is not kept.
    pub ends_at_block : (failed : Bool) (item : Item) (text : List ℕ) (rest : Option (List ℕ)) (new : BlockEntries) (ended : Ended Unkept) → TakesText (block_format.says next) left rest text item → KeepsBlock item text now new (Some ended)
        → ReadsBlocks q before failed old new ended
    ends_at_block failed item text rest new (ends.Refused e) takes x = ends_malformed failed e item text rest new takes x.0 x.1
    ends_at_block failed item text rest new (ends.Stopped unkept.Memory) takes x = ends_memory failed new
    ends_at_block failed item text rest new (ends.Stopped unkept.TooLong) takes x = ends_beyond failed item text rest new takes x
    ends_at_block failed item text rest new _ takes x = absurd x

-- ---- the whole capture

module _ (capture left : Option (List ℕ)) (q : State) (text : List ℕ) (takes : TakesText OpeningSays capture left text q) (old : BlockEntries) (none : old.entries.list.items ≡ []) (start : old.entries.place ≡ 0) where
  -- The first block.
  abbrev first : Ranked
  first = ranked_at (rank_in 1 0) text

  first_is : AreBlocks opening 0 (first ∷ []) q 1
  first_is = first_block q text takes.0

  module _ (kept : BlockEntries) (one : KeepsOne (rank_in 1 0) (length text) old.entries kept.entries) (sections : kept.sections ≡ 1) (failed : Bool) (new : BlockEntries) where
    with_first : (records : List Ranked) (next : State) (after : ℕ) → AreBlocks q kept.sections records next after → AreBlocks opening 0 (first ∷ records) next after
    with_first records next after blocks =
        let there = subst (λ (n : ℕ). AreBlocks q n records next after) (sections ∙ first_is.4.1) blocks in
        (first_is.0, first_is.1, first_is.2, first_is.3, subst (λ (s : State). AreBlocks s first_is.1 records next after) first_is.4.0 there)

    placed : kept.entries.place ≡ length text
    placed = omega (arith, one.place, start)

    long : (records : List Ranked) → length (texts_of (first ∷ records)) ≡ kept.entries.place + length (texts_of records)
    long records = omega (arith, placed, length-append text (texts_of records))

    items : (records : List Ranked) → new.entries.list.items ≡ kept.entries.list.items ++ entries_of kept.entries.place records → new.entries.list.items ≡ entries_of 0 (first ∷ records)
    items records is =
        let lone : kept.entries.list.items ≡ entry_of 0 first ∷ [] = one.kept ∙ ap (λ (l : List Entry). l ++ entry_of old.entries.place first ∷ []) none ∙ ap (λ (n : ℕ). entry_of n first ∷ []) start in
        let behind : kept.entries.place ≡ 0 + length text = omega (arith, placed) in
        is ∙ ap (λ (l : List Entry). l ++ entries_of kept.entries.place records) lone ∙ ap (λ (n : ℕ). entry_of 0 first ∷ entries_of n records) behind

    ends_pass : (ended : Ended Unkept) (r : ReadsBlocks q left failed kept new ended) → EndsBlocks r.records r.next r.sections r.rest failed kept new ended → EndsPass block_captures tt (first ∷ r.records) r.rest failed new.entries ended
    ends_pass ends.AtEnd r x = (x.0, items r.records x.1)
    ends_pass ends.AtMost r x = record { next = r.next; sections = r.sections; blocks = with_first r.records r.next r.sections r.blocks; many = inl (omega (arith, x, long r.records)) }
    ends_pass (ends.Refused e) r x = (record { next = r.next; sections = r.sections; blocks = with_first r.records r.next r.sections r.blocks; cause = x.0 }, x.1 ∙ sym (long r.records))
    ends_pass (ends.Stopped unkept.Memory) r x = omega arith
    ends_pass (ends.Stopped unkept.TooLong) r x = record {
      next = r.next;
      sections = r.sections;
      blocks = with_first r.records r.next r.sections r.blocks;
      many = elim x [ inl most ↦ inl (omega (arith, most, long r.records)) | inr many ↦ inr many ];
    }

    -- The first pass read the first block and those behind it.
    pub all_read : (ended : Ended Unkept) → ReadsBlocks q left failed kept new ended → PassesOnce block_captures tt capture failed new.entries ended
    all_read ended r = record {
      records = first ∷ r.records;
      rest = r.rest;
      begins = (r.next, r.sections, record { blocks = with_first r.records r.next r.sections r.blocks; took = Consumes-trans capture left r.rest text (texts_of r.records) takes.1 r.took });
      ends = ends_pass ended r r.ends;
    }

    -- If no block is left, the sections were counted.
    pub all_counted : ReadsBlocks q left failed kept new ends.AtEnd → HasSections capture new.sections
    all_counted r = record {
      records = first ∷ r.records;
      next = r.next;
      rest = r.rest;
      begins = record {
        blocks = subst (λ (n : ℕ). AreBlocks opening 0 (first ∷ r.records) r.next n) (sym r.ends.2) (with_first r.records r.next r.sections r.blocks);
        took = Consumes-trans capture left r.rest text (texts_of r.records) takes.1 r.took;
      };
      at_end = r.ends.0;
    }

  alone : Consumes capture left (texts_of (first ∷ []))
  alone = subst (λ (t : List ℕ). Consumes capture left t) (sym (append-nil text)) takes.1

  -- The first pass ended at the first block.
  pub first_ends : (failed : Bool) (numbered : Numbered) → numbered.sections ≡ 1 → (new : BlockEntries) (ended : Ended Unkept) → KeepsNumbered numbered (length text) old new (Some ended) → PassesOnce block_captures tt capture failed new.entries ended
  first_ends failed numbered sections new (ends.Stopped unkept.Memory) x = record { records = first ∷ []; rest = left; begins = (q, 1, record { blocks = first_is; took = alone }); ends = omega arith }
  first_ends failed numbered sections new (ends.Stopped unkept.TooLong) x = record {
    records = first ∷ [];
    rest = left;
    begins = (q, 1, record { blocks = first_is; took = alone });
    ends = record {
      next = q;
      sections = 1;
      blocks = first_is;
      many = elim x [ inl most ↦ inl (omega (arith, most, start, ap length (append-nil text))) | inr many ↦ absurd (omega (arith, many, sections)) ];
    };
  }
  first_ends failed numbered sections new _ x = absurd x
