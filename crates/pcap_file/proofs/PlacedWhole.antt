-- A capture of blocks is converted whole.
use Rattle.std.proofs.Common.{◌≡◌, ◌≤◌, ◌+◌, ℕ, List, [], ◌∷◌, ◌++◌, length, refl, ap, sym, ◌∙◌, subst, arith, length-append, append-nil, true, false, Some, None, inl, inr, suc, Ok}
use Rattle.std.specs.Prelude.{Option, IfSome}
use Rattle.std.specs.List.{AllZip, flat_map}
use Rattle.std.specs.Io.KnownBytes.{Appends, Consumes, IsAtEnd}
use Rattle.std.proofs.KnownBytes.{Appends-kept}
use Rattle.std.proofs.lemmas.Bool.{true≢false}
use Rattle.std.proofs.lemmas.List.Concat.{flat_map-append, flat_map-cons}
use Rattle.std.proofs.lemmas.Slice.Zip.{AllZip-long}
use Rattle.pcap_core.specs.declared.errors.PcapError.{PcapError}
use Rattle.pcap_core.specs.Answer.{whole}
use Rattle.pcap_core.specs.Errors.{IsMemory}
use Rattle.pcap_items.specs.Format.{Front, Texts}
use Rattle.pcap_items.specs.Headed.{good}
use Rattle.pcap_items.specs.Reading.{HasCause, Takes, TakesAsked}
use Rattle.pcap_core.specs.declared.link.DataLink.{DataLink}
use Rattle.pcap_items.proofs.Formats.{front_goes_on, nothing_more, nothing_no_text, text_same, texts_more}
use Rattle.pcap_classic.specs.declared.pcap.header.PcapHeader.{PcapHeader}
use Rattle.pcap_classic.specs.Magic.{is_magic}
use Rattle.pcap_classic.specs.PacketText.{Captured}
use Rattle.pcap_classic.specs.Written.{written_under}
use Rattle.pcap_blocks.specs.InterfaceDescription.{Interface}
use Rattle.pcap_blocks.specs.ParsedBlock.{Body, SectionBody}
use Rattle.pcap_written.specs.Bodies.{type_of}
use Rattle.pcap_file.specs.declared.run.placing.IfUnplaced.{IfUnplaced}
use Rattle.pcap_file.specs.declared.run.placing.IfUnplaced.TheVariants.{Refuse}
use Rattle.pcap_file.specs.declared.run.placing.NgConverted.{NgConverted}
use Rattle.pcap_ng.specs.Blocks.{Item, BlockText, block_format}
use Rattle.pcap_ng.specs.Frames.{Framed}
use Rattle.pcap_ng.specs.Opening.{OpeningSays}
use Rattle.pcap_file.specs.Placed.{Becomes, BecomesIn, Turn, is_packet, no_packet, packets_of, placed, reason_of_turn, reasons_of, unplaced}
use Rattle.pcap_ng.specs.State.{interfaces_at}
use Rattle.pcap_file.specs.Placing.{CannotWrite, EndsPlacing, FailsBlock, FailsNext, PlacesAll, PlacesRun, Sink, Source, TakesNext, TakesNone, source_of}
use Rattle.pcap_ng.specs.declared.pcapng.reader.PcapNgReader.{PcapNgReader}
use Rattle.pcap_ng.specs.Reader.{OpensReader, state_of, stream_of, text_of}
use Rattle.pcap_file.specs.RoundTrip.{AreReady, BlocksBecome, CanPlace, ComeBack, IsOpened, NothingFailed, PlacesEach}
use Rattle.pcap_ng.specs.State.{State, leads, opening}
use Rattle.pcap_items.proofs.Accepted.{no_stop}
use Rattle.pcap_items.proofs.Taking.{taken_known}
use Rattle.pcap_ng.proofs.BlockFormat.{blocks_lawful}
use Rattle.pcap_ng.proofs.Bodies.{refused_for_memory}
use Rattle.pcap_ng.proofs.FirstBlock.{opening_stable}
use Rattle.pcap_file.proofs.OneTurn.{packet_as_body, packet_is_read, turn_same, turns_same}

-- A list that is zipped with a concatenation of two lists splits into two parts.
zip_split : {X Y : Type 0} (P : X → Y → Type 0) (xs more : List X) (ys : List Y) → AllZip P (xs ++ more) ys
    → (us ws : List Y) × (ys ≡ us ++ ws) × AllZip P xs us × AllZip P more ws
zip_split P [] more ys all = ([], ys, refl, tt, all)
zip_split P (x ∷ xs) more [] all = absurd all
zip_split P (x ∷ xs) more (y ∷ ys) all =
    let rest = zip_split P xs more ys all.1 in
    (y ∷ rest.0, rest.1, ap (λ l. y ∷ l) rest.2, (all.0, rest.3), rest.4)

no_last : {X : Type 0} (xs ys : List X) → xs ++ ys ≡ [] → ys ≡ []
no_last [] ys e = e
no_last (x ∷ xs) ys e = absurd cc

nil_of : {X : Type 0} (l : List X) → length l ≡ 0 → l ≡ []
nil_of [] e = refl
nil_of (x ∷ xs) e = absurd (omega (arith, e))

-- A writer that accepts packets cannot be refused.
can_write : (header : PcapHeader) (c : Sink) (fault : Option PcapError) → c.failed ≡ false → is_magic header.magic_number ≡ true
    → CannotWrite header c fault → ⊥
can_write header c fault fine valid (inl why) = true≢false (sym why.0 ∙ fine)
can_write header c fault fine valid (inr why) = true≢false (sym valid ∙ why.1)

-- The block that was taken is the next block of the front.
next_is : (q : State) (more : List Item) (after : List ℕ) (left now : Option (List ℕ)) (item : Item) → left ≡ Some after
    → Front block_format q more after [] → Takes (block_format.says q) left now item
    → (others : List Item) × (more ≡ item ∷ others)
next_is q more after left now item is front took =
    let there : Takes (block_format.says q) (Some after) now item = subst (λ (o : Option (List ℕ)). Takes (block_format.says q) o now item) is took in
    let l = taken_known after there.0 now there.2 in
    let grown : block_format.says q (there.0 ++ l.0) (whole item l.0) = (blocks_lawful.stable q).text there.0 l.0 [] item there.1 in
    let text : block_format.says q after (whole item l.0) = subst (λ (t : List ℕ). block_format.says q t (whole item l.0)) (sym l.2) grown in
    first more front l.0 text
  where
    first : (more : List Item) → Front block_format q more after [] → (rest : List ℕ) → block_format.says q after (whole item rest)
        → (others : List Item) × (more ≡ item ∷ others)
    first [] front rest text = absurd (front.longest item rest (subst (λ (t : List ℕ). block_format.says q t (whole item rest)) front.texts text))
    first (other ∷ others) front rest text =
        let same = text_same block_format blocks_lawful q other item after front.texts.0 rest front.texts.1 text in
        (others, ap (λ (i : Item). i ∷ others) same.0)

-- If packets without a place may be left out or there are none, and nothing failed, a block that was taken does not end a conversion.
no_block_fails : (header : PcapHeader) (choice : IfUnplaced) (item : Item) (turn : Turn) (c d : Sink) (e : PcapError) → Becomes header.datalink item turn
    → (choice ≡ Refuse → reason_of_turn turn ≡ [])
    → (IsMemory e → ⊥) → d.failed ≡ false → FailsBlock header choice (interfaces_at item.after) item.block c d e → ⊥
no_block_fails header choice item turn c d e becomes allowed memory fine (inl body) =
    let read = packet_is_read (interfaces_at item.after) header.datalink item.block turn body.of_packet becomes in
    memory (refused_for_memory item.block read.0 read.1 read.2 _ e body.refused)
no_block_fails header choice item turn c d e becomes allowed memory fine (inr (inl packet)) =
    let same = turn_same (interfaces_at item.after) header.datalink item.block (unplaced packet.reason) turn packet.becomes becomes in
    absurd (omega (arith, same.1, ap length (allowed packet.asked)))
no_block_fails header choice item turn c d e becomes allowed memory fine (inr (inr tear)) = true≢false (sym tear.write_failed ∙ fine)

module _ (header : PcapHeader) (choice : IfUnplaced) (turns : List Turn) (a b : Source) (c d : Sink) (most : ℕ) (converted : NgConverted) (can : CanPlace header choice a turns) (ready : AreReady header a c) (few : length turns ≤ most) (fine : NothingFailed b d converted) where
  module _ (mid : Source) (between : Sink) (so_far : PlacesAll header choice a mid c between converted) where
    -- Left: what remains of the reader's stream, and of the blocks.
    record Left : Type 0 where
      after : List ℕ
      more : List Item
      left : mid.left ≡ Some after
      items : can.items ≡ so_far.items ++ more
      front : Front block_format mid.state more after []
      done : List Turn
      others : List Turn
      split : turns ≡ done ++ others
      become : AllZip (Becomes header.datalink) so_far.items done
      will_become : AllZip (Becomes header.datalink) more others

    left_over : Left
    left_over =
        let q = a.state in
        let took = so_far.took in
        let from : Consumes (Some can.bytes) mid.left took.bytes = subst (λ (o : Option (List ℕ)). Consumes o mid.left took.bytes) can.left took.took in
        let l = taken_known can.bytes took.bytes mid.left from in
        let texts : Texts block_format q so_far.items can.bytes l.0 = subst (λ (t : List ℕ). Texts block_format q so_far.items t l.0) (sym l.2) (texts_more block_format blocks_lawful q so_far.items took.bytes [] l.0 took.texts) in
        let on = front_goes_on block_format blocks_lawful q so_far.items can.items can.bytes l.0 [] texts can.front in
        let zipped : AllZip (Becomes header.datalink) (so_far.items ++ on.0) turns = subst (λ (is : List Item). AllZip (Becomes header.datalink) is turns) on.1 can.become in
        let parts = zip_split (Becomes header.datalink) so_far.items on.0 turns zipped in
        record {
          after = l.0;
          more = on.0;
          left = l.1;
          items = on.1;
          front = subst (λ (p : State). Front block_format p on.0 l.0 []) so_far.in_force on.2;
          done = parts.0;
          others = parts.1;
          split = parts.2;
          become = parts.3;
          will_become = parts.4;
        }

    module _ (l : Left) where
      count : length turns ≡ converted.blocks + length l.more
      count =
          omega (
            arith,
            so_far.blocks,
            ap length l.split,
            length-append l.done l.others,
            AllZip-long (Becomes header.datalink) so_far.items l.done l.become,
            AllZip-long (Becomes header.datalink) l.more l.others l.will_become,
          )

      -- If no block is left, each block became its turn.
      all_placed : l.more ≡ [] → converted.fault ≡ None → Appends c.out d.out (flat_map (written_under header) (packets_of so_far.turns))
          → PlacesEach header turns c d converted
      all_placed none no_fault out =
          let others : l.others ≡ [] = nil_of l.others (omega (arith, ap length none, AllZip-long (Becomes header.datalink) l.more l.others l.will_become)) in
          let all : turns ≡ l.done = l.split ∙ ap (λ (ts : List Turn). l.done ++ ts) others ∙ append-nil l.done in
          let mine : AllZip (Becomes header.datalink) so_far.items turns = subst (λ (ts : List Turn). AllZip (Becomes header.datalink) so_far.items ts) (sym all) l.become in
          let same = turns_same header.datalink so_far.items so_far.turns turns so_far.become mine in
          record {
            fine = no_fault;
            blocks = omega (arith, count, ap length none);
            packets = so_far.packets ∙ ap length same.0;
            left_out = so_far.left_out ∙ same.1;
            out = subst (λ (ps : List Captured). Appends c.out d.out (flat_map (written_under header) ps)) same.0 out;
          }

      -- A block that is left does not end the conversion.
      next_fails : (e : PcapError) (item : Item) (more : List Item) (others : List Turn) → l.more ≡ more → l.others ≡ others → TakesNext mid b item
          → (IsMemory e → ⊥)
          → FailsBlock header choice (interfaces_at item.after) item.block between d e → ⊥
      next_fails e item more [] is are next memory fails =
          let there = next_is mid.state l.more l.after mid.left b.left item l.left l.front next.took in
          absurd (omega (arith, ap length are, ap length there.1, AllZip-long (Becomes header.datalink) l.more l.others l.will_become))
      next_fails e item more (turn ∷ others) is are next memory fails =
          let there = next_is mid.state l.more l.after mid.left b.left item l.left l.front next.took in
          let zipped : AllZip (Becomes header.datalink) (item ∷ there.0) (turn ∷ others) =
          subst (λ (ts : List Turn). AllZip (Becomes header.datalink) (item ∷ there.0) ts) are (subst (λ (is : List Item). AllZip (Becomes header.datalink) is l.others) there.1 l.will_become) in
          let allowed : choice ≡ Refuse → reason_of_turn turn ≡ [] = λ asked.
          let all : reasons_of l.done ++ reasons_of (turn ∷ others) ≡ [] =
          sym (flat_map-append reason_of_turn l.done (turn ∷ others)) ∙ ap (λ (ts : List Turn). reasons_of (l.done ++ ts)) (sym are) ∙ ap reasons_of (sym l.split) ∙ can.allowed asked in
          first_none (reason_of_turn turn) (reasons_of others) (sym (flat_map-cons reason_of_turn turn others) ∙ no_last (reasons_of l.done) (reasons_of (turn ∷ others)) all) in
          no_block_fails header choice item turn between d e zipped.0 allowed memory fine.no_write_failed fails
        where
          first_none : {X : Type 0} (xs ys : List X) → xs ++ ys ≡ [] → xs ≡ []
          first_none [] ys e = refl
          first_none (x ∷ xs) ys e = absurd cc

      no_fail : (e : PcapError) → (IsMemory e → ⊥) → FailsNext header choice mid b between d e → ⊥
      no_fail e memory (inl why) =
          let says = block_format.says mid.state in
          let cause : HasCause says (Some l.after) b.failed e = subst (λ (o : Option (List ℕ)). HasCause says o b.failed e) l.left why.0.cause in
          let part : TakesAsked says (Some l.after) b.left = subst (λ (o : Option (List ℕ)). TakesAsked says o b.left) l.left why.0.part in
          no_stop block_format blocks_lawful b.failed (Some e) mid.state l.more l.after b.left fine.no_read_failed memory l.front cause part
      no_fail e memory (inr why) = next_fails e why.0 l.more l.others refl refl why.1 memory why.2

      -- If the reader returns no block, no block is left.
      none_left : TakesNone mid b → l.more ≡ []
      none_left none =
          elim none.why [
            | inl end ↦
                let empty : l.after ≡ [] = subst IsAtEnd l.left end in
                let says = block_format.says mid.state in
                (nothing_more block_format blocks_lawful mid.state l.more l.after [] l.front (λ v r text. nothing_no_text block_format blocks_lawful mid.state v r (subst (λ (t : List ℕ). says t (whole v r)) empty text))).0
            | inr done ↦ absurd (true≢false (sym done ∙ so_far.goes_on ∙ ready.goes_on))
          ]

      ended : (fault : Option PcapError) → converted.fault ≡ fault → EndsPlacing header choice mid b between d converted.blocks most fault
          → PlacesEach header turns c d converted
      ended None is (inl full) =
          let out = flat_map (written_under header) (packets_of so_far.turns) in
          all_placed (nil_of l.more (omega (arith, count, few, full.2))) is (subst (λ (s : Sink). Appends c.out s.out out) (sym full.1) so_far.out)
      ended None is (inr none) =
          let out = flat_map (written_under header) (packets_of so_far.turns) in
          all_placed (none_left none.0) is (Appends-kept c.out between.out d.out out so_far.out none.1.out)
      ended (Some e) is why = absurd (no_fail e (subst (λ (o : Option PcapError). IfSome o (λ e. IsMemory e → ⊥)) is fine.memory) why.1)

  pub placed_each : PlacesRun header choice a b c d most converted → PlacesEach header turns c d converted
  placed_each (inl refused) = absurd (can_write header c converted.fault ready.no_write_failed ready.valid refused.why)
  placed_each (inr run) = ended run.mid run.between run.so_far (left_over run.mid run.between run.so_far) converted.fault refl run.ends

-- ---- what was converted comes back

-- A first block holds no packet.
opened : (body : Body) (q : State) → leads opening body ≡ good q → is_packet (type_of body) ≡ false
opened (SectionBody x) q e = refl
opened _ q e = absurd cc

none_of_first : (interfaces : List Interface) (link : DataLink) (b : Framed) (t : Turn) → is_packet b.type_ ≡ false → BecomesIn interfaces link b t
    → t ≡ no_packet
none_of_first interfaces link b (placed p) is x = let e : true ≡ false = sym x.0 ∙ is in absurd cc
none_of_first interfaces link b (unplaced reason) is x = let e : true ≡ false = sym x.0 ∙ is in absurd cc
none_of_first interfaces link b no_packet is x = refl

-- Behind: after the first block, the reader is at the front of the blocks that become the packets.
record Behind (link : DataLink) (packets : List Captured) (q : State) (after : List ℕ) (count : ℕ) : Type 0 where
  items : List Item
  turns : List Turn
  front : Front block_format q items after []
  become : AllZip (Becomes link) items turns
  packets_are : packets_of turns ≡ packets
  all_have_a_place : reasons_of turns ≡ []
  fewer : suc (length turns) ≡ count

behind : (link : DataLink) (packets : List Captured) (q : State) (bytes after : List ℕ) (items : List Item) (turns : List Turn)
    → OpeningSays bytes (whole q after) → Front block_format opening items bytes []
    → AllZip (Becomes link) items turns → packets_of turns ≡ packets → reasons_of turns ≡ [] → Behind link packets q after (length items)
unfolding block_format
behind link packets q bytes after [] turns first front become are none =
    let item : Item = record { block = first.0; after = q } in
    absurd (front.longest item after (subst (λ (t : List ℕ). BlockText opening item t after) front.texts first.1))
behind link packets q bytes after (item ∷ items) [] first front become are none = absurd become
behind link packets q bytes after (item ∷ items) (turn ∷ turns) first front become are none =
    let one = text_same block_format blocks_lawful opening item (record { block = first.0; after = q }) bytes front.texts.0 after front.texts.1 first.1 in
    let means = first.1.means in
    let unread = packet_as_body first.0 means.0 means.1 means.2 ∙ opened means.0 q means.3 in
    let is_none : turn ≡ no_packet =
    none_of_first (interfaces_at item.after) link item.block turn (subst (λ (i : Item). is_packet i.block.type_ ≡ false) (sym one.0) unread) become.0 in
    let here : Front block_format item.after items front.texts.0 [] = record { texts = front.texts.2; longest = front.longest } in
    let there : Front block_format q items after [] =
    subst (λ (t : List ℕ). Front block_format q items t []) one.1 (subst (λ (i : Item). Front block_format i.after items front.texts.0 []) one.0 here) in
    record {
      items = items;
      turns = turns;
      front = there;
      become = become.1;
      packets_are = ap (λ (t : Turn). packets_of (t ∷ turns)) (sym is_none) ∙ are;
      all_have_a_place = ap (λ (t : Turn). reasons_of (t ∷ turns)) (sym is_none) ∙ none;
      fewer = omega (arith, AllZip-long (Becomes link) items turns become.1);
    }

pub come_back : (header : PcapHeader) (choice : IfUnplaced) (packets : List Captured) (bytes : List ℕ) (a b : Source) (c d : Sink) (most : ℕ) (converted : NgConverted)
    → (x : BlocksBecome header.datalink packets bytes) → length x.items ≤ most → IsOpened bytes a → AreReady header a c → NothingFailed b d converted
    → PlacesRun header choice a b c d most converted → ComeBack header packets c d converted
come_back header choice packets bytes a b c d most converted x few opens ready fine run =
    let l = behind header.datalink packets a.state bytes opens.after x.items x.turns opens.first x.front x.become x.packets_are x.all_have_a_place in
    let can : CanPlace header choice a l.turns = record { bytes = opens.after; items = l.items; left = opens.left; front = l.front; become = l.become; allowed = λ asked. l.all_have_a_place } in
    let each = placed_each header choice l.turns a b c d most converted can ready (omega (arith, few, l.fewer)) fine run in
    record {
      fine = each.fine;
      count = each.packets ∙ ap length l.packets_are;
      none_left_out = each.left_out ∙ ap length l.all_have_a_place;
      out = subst (λ (ps : List Captured). Appends c.out d.out (flat_map (written_under header) ps)) l.packets_are each.out;
    }

-- A reader that was made of known bytes is behind their first block.
pub opened_ready : (T : Type 0) (remaining : T → Option (List ℕ)) (stream : T) (reader : PcapNgReader T) (bytes : List ℕ) → remaining stream ≡ Some bytes
    → OpensReader remaining stream (Ok reader)
    → IsOpened bytes (source_of remaining reader) × ((source_of remaining reader).done ≡ false)
opened_ready T remaining stream reader bytes known (fresh, unfailed, (first, took)) =
    let text = text_of reader in
    let left = remaining (stream_of reader) in
    let l = taken_known bytes text left (subst (λ (o : Option (List ℕ)). Consumes o left text) known took) in
    let grown : OpeningSays (text ++ l.0) (whole (state_of reader) l.0) = opening_stable.text text l.0 [] (state_of reader) first in
    let there : OpeningSays bytes (whole (state_of reader) l.0) = subst (λ (t : List ℕ). OpeningSays t (whole (state_of reader) l.0)) (sym l.2) grown in
    (record { after = l.0; first = there; left = l.1 }, fresh)
