-- The output of a conversion to a classic capture is a beginning of the output of the whole conversion.
use Rattle.std.proofs.Common.{◌≡◌, ◌++◌, ℕ, List, [], ◌∷◌, refl, ap, sym, ◌∙◌, subst, append_assoc, append-nil, Some, None, inl, inr}
use Rattle.std.specs.Prelude.{Option}
use Rattle.std.specs.List.{AllZip, flat_map}
use Rattle.std.specs.Io.KnownBytes.{Appends, Keeps}
use Rattle.std.proofs.KnownBytes.{Appends-kept, Appends-nil, Appends-trans, Keeps-refl}
use Rattle.std.proofs.lemmas.List.Concat.{flat_map-append, flat_map-cons}
use Rattle.std.proofs.lemmas.Slice.Zip.{all_zipped_more}
use Rattle.pcap_core.specs.declared.errors.PcapError.{PcapError}
use Rattle.pcap_items.specs.Format.{Texts, state_after}
use Rattle.pcap_items.specs.Reading.{Takes}
use Rattle.pcap_items.specs.Takes.{TakesTexts}
use Rattle.pcap_items.proofs.Formats.{front_goes_on, front_same, has_front, texts_more}
use Rattle.pcap_items.proofs.Taking.{takes_more}
use Rattle.pcap_classic.specs.declared.pcap.header.PcapHeader.{PcapHeader}
use Rattle.pcap_classic.specs.PacketText.{Captured}
use Rattle.pcap_classic.specs.Written.{written_under}
use Rattle.pcap_file.specs.declared.run.placing.IfUnplaced.{IfUnplaced}
use Rattle.pcap_file.specs.declared.run.placing.IfUnplaced.TheVariants.{Refuse}
use Rattle.pcap_file.specs.declared.run.placing.NgConverted.{NgConverted}
use Rattle.pcap_ng.specs.Blocks.{Item, block_format}
use Rattle.pcap_file.specs.Placed.{Becomes, Turn, packet_of_turn, packets_of, placed, reason_of_turn, reasons_of}
use Rattle.pcap_ng.specs.State.{interfaces_at}
use Rattle.pcap_file.specs.Placing.{EndsPlacing, FailsBlock, PlacesAll, PlacesRun, Sink, Source, TakesNext}
use Rattle.pcap_file.specs.RoundTrip.{BeginsPlaced, GoesNoFurther, PlacesRow}
use Rattle.pcap_ng.specs.State.{State}
use Rattle.pcap_items.proofs.Taking.{taken_known}
use Rattle.pcap_ng.proofs.BlockFormat.{blocks_lawful}
use Rattle.pcap_file.proofs.OneTurn.{turn_same}

-- The bytes of packets of two lists of turns are the bytes of the first and then those of the second.
two_parts : (header : PcapHeader) (turns more : List Turn)
    → flat_map (written_under header) (packets_of (turns ++ more)) ≡ flat_map (written_under header) (packets_of turns) ++ flat_map (written_under header) (packets_of more)
two_parts header turns more =
    ap (λ (ps : List Captured). flat_map (written_under header) ps) (flat_map-append packet_of_turn turns more)
    ∙ flat_map-append (written_under header) (packets_of turns) (packets_of more)

-- Blocks that were taken are at the front of the bytes.
taken_row : (header : PcapHeader) (choice : IfUnplaced) (q : State) (bytes : List ℕ) (now : Option (List ℕ)) (items : List Item) (turns : List Turn)
    → TakesTexts block_format q items (Some bytes) now → AllZip (Becomes header.datalink) items turns → (choice ≡ Refuse → reasons_of turns ≡ [])
    → PlacesRow header choice q bytes turns
taken_row header choice q bytes now items turns took become allowed =
    let l = taken_known bytes took.bytes now took.took in
    let texts : Texts block_format q items bytes l.0 = subst (λ (s : List ℕ). Texts block_format q items s l.0) (sym l.2) (texts_more block_format blocks_lawful q items took.bytes [] l.0 took.texts) in
    let there = has_front block_format blocks_lawful q bytes in
    let on = front_goes_on block_format blocks_lawful q items there.0 bytes l.0 there.1 texts there.2 in
    record { items = items; others = on.0; rest = there.1; front = rw (sym on.1) there.2; become = become; allowed = allowed }

module _ (header : PcapHeader) (choice : IfUnplaced) (bytes : List ℕ) (a b : Source) (c d : Sink) (known : a.left ≡ Some bytes) where
  -- The output is a beginning of the packets of blocks at the front.
  abbrev Begins : Type 0
  Begins = (gone : List ℕ) × Appends c.out d.out gone × BeginsPlaced header choice a.state bytes gone

  from_known : (items : List Item) (now : Option (List ℕ)) → TakesTexts block_format a.state items a.left now → TakesTexts block_format a.state items (Some bytes) now
  from_known items now took = subst (λ (o : Option (List ℕ)). TakesTexts block_format a.state items o now) known took

  nothing : Keeps c.out d.out → Begins
  nothing kept =
      let none : TakesTexts block_format a.state [] (Some bytes) (Some bytes) = record { bytes = []; texts = refl; took = refl } in
      let row = taken_row header choice a.state bytes (Some bytes) [] [] none tt (λ asked. refl) in
      ([], Appends-kept c.out c.out d.out [] (Appends-nil c.out) kept, record { turns = []; row = row; more = []; split = refl })

  module _ (mid : Source) (between : Sink) (converted : NgConverted) (so_far : PlacesAll header choice a mid c between converted) where
    all_begin : Keeps between.out d.out → Begins
    all_begin kept =
        let gone = flat_map (written_under header) (packets_of so_far.turns) in
        let row = taken_row header choice a.state bytes mid.left so_far.items so_far.turns (from_known so_far.items mid.left so_far.took) so_far.become so_far.allowed in
        (gone, Appends-kept c.out between.out d.out gone so_far.out kept, record { turns = so_far.turns; row = row; more = []; split = sym (append-nil gone) })

    block_begins : (item : Item) (e : PcapError) → TakesNext mid b item → FailsBlock header choice (interfaces_at item.after) item.block between d e → Begins
    block_begins item e next (inl body) = all_begin body.out.out
    block_begins item e next (inr (inl packet)) = all_begin packet.out.out
    block_begins item e next (inr (inr tear)) =
        let took : Takes (block_format.says (state_after block_format a.state so_far.items)) mid.left b.left item =
        subst (λ (q : State). Takes (block_format.says q) mid.left b.left item) (sym so_far.in_force) next.took in
        let both = takes_more block_format blocks_lawful a.state so_far.items item a.left mid.left b.left so_far.took took in
        let turn = placed tear.packet in
        let become = all_zipped_more (Becomes header.datalink) so_far.items so_far.turns item turn so_far.become tear.becomes in
        let reasons : reasons_of (so_far.turns ++ turn ∷ []) ≡ reasons_of so_far.turns = flat_map-append reason_of_turn so_far.turns (turn ∷ []) ∙ append-nil (reasons_of so_far.turns) in
        let row = taken_row header choice a.state bytes b.left (so_far.items ++ item ∷ []) (so_far.turns ++ turn ∷ []) (from_known (so_far.items ++ item ∷ []) b.left both) become (λ asked. reasons ∙ so_far.allowed asked) in
        let part = tear.out in
        let before = flat_map (written_under header) (packets_of so_far.turns) in
        let gone = before ++ part.2.gone in
        let split : flat_map (written_under header) (packets_of (so_far.turns ++ turn ∷ [])) ≡ gone ++ part.0 =
        two_parts header so_far.turns (turn ∷ []) ∙ ap (λ (t : List ℕ). before ++ t) (append-nil (written_under header tear.packet) ∙ part.2.split) ∙ sym (append_assoc before part.2.gone part.0) in
        (gone, Appends-trans c.out between.out d.out before part.2.gone so_far.out part.2.out, record { turns = so_far.turns ++ turn ∷ []; row = row; more = part.0; split = split })

    ended : (n most : ℕ) (fault : Option PcapError) → EndsPlacing header choice mid b between d n most fault → Begins
    ended n most None (inl full) = all_begin (subst (λ (s : Sink). Keeps between.out s.out) (sym full.1) (Keeps-refl between.out))
    ended n most None (inr none) = all_begin none.1.out
    ended n most (Some e) (few, inl why) = all_begin why.1.out
    ended n most (Some e) (few, inr why) = block_begins why.0 e why.1 why.2

  pub placing_begins : (most : ℕ) (converted : NgConverted) → PlacesRun header choice a b c d most converted
      → (gone : List ℕ) × Appends c.out d.out gone × BeginsPlaced header choice a.state bytes gone
  placing_begins most converted (inl refused) = nothing (subst (λ (s : Sink). Keeps c.out s.out) (sym refused.writer) (Keeps-refl c.out))
  placing_begins most converted (inr run) = ended run.mid run.between converted run.so_far converted.blocks most converted.fault run.ends

-- If blocks go no further than one row, the packets of any other row at the front are a beginning of that row's packets.
longest_row : (header : PcapHeader) (choice : IfUnplaced) (items others all behind : List Item) (turns whole : List Turn) → items ++ others ≡ all ++ behind
    → AllZip (Becomes header.datalink) items turns → AllZip (Becomes header.datalink) all whole → (choice ≡ Refuse → reasons_of turns ≡ [])
    → GoesNoFurther header choice behind → (more : List Captured) × (packets_of whole ≡ packets_of turns ++ more)
longest_row header choice [] others all behind [] whole same x y allowed last = (packets_of whole, refl)
longest_row header choice [] others all behind (t ∷ ts) whole same x y allowed last = absurd x
longest_row header choice (i ∷ is) others all behind [] whole same x y allowed last = absurd x
longest_row header choice (i ∷ is) others [] [] (t ∷ ts) whole same x y allowed last = absurd cc
longest_row header choice (i ∷ is) others [] (j ∷ js) (t ∷ ts) whole same x y allowed last =
    let first : i ≡ j = cc in
    absurd (last t (subst (λ (k : Item). Becomes header.datalink k t) first x.0) (λ asked. first_none (reason_of_turn t) (reasons_of ts) (sym (flat_map-cons reason_of_turn t ts) ∙ allowed asked)))
  where
    first_none : {X : Type 0} (xs ys : List X) → xs ++ ys ≡ [] → xs ≡ []
    first_none [] ys e = refl
    first_none (z ∷ zs) ys e = absurd cc
longest_row header choice (i ∷ is) others (j ∷ js) behind (t ∷ ts) [] same x y allowed last = absurd y
longest_row header choice (i ∷ is) others (j ∷ js) behind (t ∷ ts) (u ∷ us) same x y allowed last =
    let first : i ≡ j = cc in
    let rest : is ++ others ≡ js ++ behind = cc in
    let one = turn_same (interfaces_at j.after) header.datalink j.block t u (subst (λ (k : Item). Becomes header.datalink k t) first x.0) y.0 in
    let on = longest_row header choice is others js behind ts us rest x.1 y.1 (λ asked. no_last (reason_of_turn t) (reasons_of ts) (sym (flat_map-cons reason_of_turn t ts) ∙ allowed asked)) last in
    let joined : packet_of_turn u ++ packets_of us ≡ packet_of_turn t ++ (packets_of ts ++ on.0) = rw (one.0, on.1) refl in
    (on.0, flat_map-cons packet_of_turn u us ∙ joined ∙ sym (append_assoc (packet_of_turn t) (packets_of ts) on.0) ∙ ap (λ (ps : List Captured). ps ++ on.0) (sym (flat_map-cons packet_of_turn t ts)))
  where
    no_last : {X : Type 0} (xs ys : List X) → xs ++ ys ≡ [] → ys ≡ []
    no_last [] ys e = e
    no_last (z ∷ zs) ys e = absurd cc

-- A beginning of a row is a beginning of the longest row.
pub begins_whole : (header : PcapHeader) (choice : IfUnplaced) (q : State) (bytes gone : List ℕ) (whole : List Turn) (row : PlacesRow header choice q bytes whole)
    → GoesNoFurther header choice row.others → BeginsPlaced header choice q bytes gone
    → (rest : List ℕ) × (flat_map (written_under header) (packets_of whole) ≡ gone ++ rest)
begins_whole header choice q bytes gone whole row last x =
    let mine = x.row in
    let same = front_same block_format blocks_lawful q (mine.items ++ mine.others) (row.items ++ row.others) bytes mine.rest row.rest mine.front row.front in
    let on = longest_row header choice mine.items mine.others row.items row.others x.turns whole same.0 mine.become row.become mine.allowed last in
    let last = flat_map (written_under header) on.0 in
    let split : flat_map (written_under header) (packets_of whole) ≡ flat_map (written_under header) (packets_of x.turns) ++ last =
    ap (λ (ps : List Captured). flat_map (written_under header) ps) on.1 ∙ flat_map-append (written_under header) (packets_of x.turns) on.0 in
    (x.more ++ last, split ∙ ap (λ (t : List ℕ). t ++ last) x.split ∙ append_assoc gone x.more last)
