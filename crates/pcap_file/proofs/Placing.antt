-- Proofs about the conversion of blocks to packets, one after another.
use Rattle.std.proofs.Common.{◌≡◌, ◌≤◌, ◌<◌, ◌+◌, ℕ, List, [], ◌∷◌, ◌++◌, refl, ap, sym, ◌∙◌, subst, arith, length, length-append, append-nil, Bool, true, false, Ok, Err, Some, None, inl, inr}
use Rattle.std.specs.Prelude.{Result}
use Rattle.std.specs.List.{flat_map}
use Rattle.std.specs.Io.KnownBytes.{Appends}
use Rattle.std.proofs.KnownBytes.{Appends-nil, Appends-trans, Appends-kept}
use Rattle.std.proofs.lemmas.Bool.{true≢false}
use Rattle.std.proofs.lemmas.Grind.{flat_map-append}
use Rattle.std.proofs.lemmas.Slice.Zip.{all_zipped_more}
use Rattle.pcap_core.specs.declared.errors.PcapError.{PcapError}
use Rattle.pcap_core.specs.Answer.{whole}
use Rattle.pcap_items.specs.Format.{state_after}
use Rattle.pcap_items.specs.Reading.{NextGives, Takes}
use Rattle.pcap_items.proofs.Formats.{state_push}
use Rattle.pcap_items.proofs.Taking.{takes_none, takes_more}
use Rattle.pcap_classic.specs.declared.pcap.header.PcapHeader.{PcapHeader}
use Rattle.pcap_classic.specs.PacketText.{Captured}
use Rattle.pcap_classic.specs.Written.{written_under}
use Rattle.pcap_blocks.specs.InterfaceDescription.{Interface}
use Rattle.pcap_blocks.specs.ParsedBlock.{Body}
use Rattle.pcap_file.specs.declared.run.placing.Became.{Became}
use Rattle.pcap_file.specs.declared.run.placing.Became.TheVariants as became
use Rattle.pcap_file.specs.declared.run.placing.IfUnplaced.{IfUnplaced}
use Rattle.pcap_file.specs.declared.run.placing.IfUnplaced.TheVariants.{LeaveOut, Refuse}
use Rattle.pcap_file.specs.declared.run.placing.NgConverted.{NgConverted}
use Rattle.pcap_file.specs.declared.run.unplaced.PlacedPacket.{PlacedPacket}
use Rattle.pcap_file.specs.declared.run.unplaced.Unplaced.{Unplaced}
use Rattle.pcap_ng.specs.Blocks.{Item, block_format}
use Rattle.pcap_ng.specs.Bodies.{SaysOfBody}
use Rattle.pcap_ng.specs.Frames.{Framed}
use Rattle.pcap_file.specs.Placed.{Becomes, BecomesIn, TellsPlacedBody, Turn, captured_of, is_packet, no_packet, packet_of_turn, packets_of, placed, reason_of_turn, reasons_of, unplaced}
use Rattle.pcap_file.specs.Placing.{CountsBecame, CountsTurn, FailsNext, Goes, IsQuiet, PlacesAll, PlacesBlock, PlacesBlocks, PlacesNext, PutsPlaced, RefusesNext, Sink, Source, TakesNext, TakesNone, outcome_of}
use Rattle.pcap_ng.specs.State.{State}
use Rattle.pcap_ng.proofs.BlockFormat.{blocks_lawful}

-- The outcome of a packet's block follows from the outcome of its packet.
pub block_placed : (header : PcapHeader) (choice : IfUnplaced) (interfaces : List Interface) (b : Framed) (c d : Sink) (body : Body) (rest : List ℕ) → is_packet b.type_ ≡ true → SaysOfBody b (whole body rest)
    → (outcome : Result PlacedPacket Unplaced) → TellsPlacedBody interfaces header.datalink body outcome → (result : Result Became PcapError) → PutsPlaced header choice outcome c d result → PlacesBlock header choice interfaces b c d result
block_placed header choice interfaces b c d body rest is says (Ok packet) told (Ok became.Packet) puts = (captured_of packet, (is, body, rest, says, told), puts.0, puts.1)
block_placed header choice interfaces b c d body rest is says (Ok packet) told (Ok became.LeftOut) puts = absurd puts
block_placed header choice interfaces b c d body rest is says (Ok packet) told (Ok became.NoPacket) puts = absurd puts
block_placed header choice interfaces b c d body rest is says (Ok packet) told (Err e) puts =
    inr (inr (record { packet = captured_of packet; becomes = (is, body, rest, says, told); refused = puts.0; write_failed = puts.1; out = puts.2 }))
block_placed header choice interfaces b c d body rest is says (Err reason) told (Ok became.Packet) puts = absurd puts
block_placed header choice interfaces b c d body rest is says (Err reason) told (Ok became.LeftOut) puts = (puts.0, (reason, (is, body, rest, says, told)), puts.1)
block_placed header choice interfaces b c d body rest is says (Err reason) told (Ok became.NoPacket) puts = absurd puts
block_placed header choice interfaces b c d body rest is says (Err reason) told (Err e) puts =
    inr (inl (record { asked = puts.0; reason = reason; becomes = (is, body, rest, says, told); message = puts.1; out = puts.2 }))

none_by : {X : Type 0} (view : X → Item) (a b : Source) (done : Bool) → a.done ≡ done → b.state ≡ a.state
    → NextGives (block_format.says a.state) view a.left b.left done b.done a.failed b.failed None → TakesNone a b
none_by view a b true is same gives = record { why = inr is; taken = gives.2; state = same; no_read_failed = λ failed. sym gives.1 ∙ failed }
none_by view a b false is same gives = record { why = inl gives.2; taken = gives.3; state = same; no_read_failed = λ failed. absurd (true≢false (sym failed ∙ gives.1)) }

-- The reader returns no block.
pub gives_none : {X : Type 0} (view : X → Item) (a b : Source) → b.state ≡ a.state → NextGives (block_format.says a.state) view a.left b.left a.done b.done a.failed b.failed None → TakesNone a b
gives_none view a b = none_by view a b a.done refl

next_by : {X : Type 0} (view : X → Item) (a b : Source) (x : X) (done : Bool) → a.done ≡ done → (view x).after ≡ b.state
    → NextGives (block_format.says a.state) view a.left b.left done b.done a.failed b.failed (Some (Ok x)) → TakesNext a b (view x)
next_by view a b x true is leads gives = absurd gives
next_by view a b x false is leads gives = record { took = gives.2; leads = leads; no_read_failed = gives.1; went_on = is; goes_on = gives.0 }

-- The reader returns a block.
pub gives_next : {X : Type 0} (view : X → Item) (a b : Source) (x : X) → (view x).after ≡ b.state
    → NextGives (block_format.says a.state) view a.left b.left a.done b.done a.failed b.failed (Some (Ok x)) → TakesNext a b (view x)
gives_next view a b x = next_by view a b x a.done refl

refused_by : {X : Type 0} (view : X → Item) (a b : Source) (e : PcapError) (done : Bool) → b.state ≡ a.state
    → NextGives (block_format.says a.state) view a.left b.left done b.done a.failed b.failed (Some (Err e)) → RefusesNext a b e
refused_by view a b e true same gives = absurd gives
refused_by view a b e false same gives = record { cause = gives.1; part = gives.2; state = same; ended = gives.0 }

-- The reader refuses a block.
pub gives_refused : {X : Type 0} (view : X → Item) (a b : Source) (e : PcapError) → b.state ≡ a.state
    → NextGives (block_format.says a.state) view a.left b.left a.done b.done a.failed b.failed (Some (Err e)) → RefusesNext a b e
gives_refused view a b e = refused_by view a b e a.done

left_not_refused : (choice : IfUnplaced) → choice ≡ LeaveOut → choice ≡ Refuse → ⊥
left_not_refused LeaveOut is other = absurd cc
left_not_refused Refuse is other = absurd cc

module _ (header : PcapHeader) (choice : IfUnplaced) where
  -- The outcome of a block gives the turn that is written and counted.
  pub turned : (interfaces : List Interface) (b : Framed) (c d : Sink) (became : Became) (old new : NgConverted) → PlacesBlock header choice interfaces b c d (Ok became) → CountsBecame became old new
      → (turn : Turn) × BecomesIn interfaces header.datalink b turn × Goes header choice turn c d × CountsTurn turn old new
  turned interfaces b c d became.Packet old new went counts = (
    placed went.0,
    went.1,
    record { allowed = λ is. refl; out = subst (λ (l : List ℕ). Appends c.out d.out l) (sym (append-nil (written_under header went.0))) went.2; no_write_failed = went.3 },
    record { blocks = counts.blocks; packets = counts.packets; left_out = counts.left_out },
  )
  turned interfaces b c d became.LeftOut old new left counts = (
    unplaced left.1.0,
    left.1.1,
    record { allowed = λ is. absurd (left_not_refused choice left.0 is); out = Appends-kept c.out c.out d.out [] (Appends-nil c.out) left.2.out; no_write_failed = left.2.failed },
    record { blocks = counts.blocks; packets = counts.packets; left_out = counts.left_out },
  )
  turned interfaces b c d became.NoPacket old new none counts = (
    no_packet,
    none.0,
    record { allowed = λ is. refl; out = Appends-kept c.out c.out d.out [] (Appends-nil c.out) none.1.out; no_write_failed = none.1.failed },
    record { blocks = counts.blocks; packets = counts.packets; left_out = counts.left_out },
  )

  pub all_none : (a : Source) (c : Sink) (converted : NgConverted) → converted.blocks ≡ 0 → converted.packets ≡ 0 → converted.left_out ≡ 0 → PlacesAll header choice a a c c converted
  all_none a c converted blocks packets left_out = record {
    items = [];
    turns = [];
    took = takes_none block_format a.state a.left;
    in_force = refl;
    goes_on = refl;
    none_behind_a_refusal = λ is. refl;
    become = tt;
    allowed = λ is. refl;
    out = Appends-nil c.out;
    blocks = blocks;
    packets = packets;
    left_out = left_out;
  }

  all_more : (a b next : Source) (c d behind : Sink) (old new : NgConverted) → PlacesAll header choice a b c d old → PlacesNext header choice b next d behind old new → PlacesAll header choice a next c behind new
  unfolding block_format
  all_more a b next c d behind old new so_far one =
      let items = so_far.items in
      let turns = so_far.turns in
      let here : Takes (block_format.says (state_after block_format a.state items)) b.left next.left one.item = subst (λ (s : State). Takes (block_format.says s) b.left next.left one.item) (sym so_far.in_force) one.next.took in
      let packets : packets_of (turns ++ one.turn ∷ []) ≡ packets_of turns ++ packet_of_turn one.turn =
      flat_map-append packet_of_turn turns (one.turn ∷ []) ∙ ap (λ (l : List Captured). packets_of turns ++ l) (append-nil (packet_of_turn one.turn)) in
      let reasons : reasons_of (turns ++ one.turn ∷ []) ≡ reasons_of turns ++ reason_of_turn one.turn =
      flat_map-append reason_of_turn turns (one.turn ∷ []) ∙ ap (λ (l : List Unplaced). reasons_of turns ++ l) (append-nil (reason_of_turn one.turn)) in
      let texts : flat_map (written_under header) (packets_of (turns ++ one.turn ∷ [])) ≡ flat_map (written_under header) (packets_of turns) ++ flat_map (written_under header) (packet_of_turn one.turn) =
      ap (flat_map (written_under header)) packets ∙ flat_map-append (written_under header) (packets_of turns) (packet_of_turn one.turn) in
      let both : (xs ys : List Unplaced) → xs ≡ [] → ys ≡ [] → xs ++ ys ≡ [] = λ xs ys x y. ap (λ (l : List Unplaced). l ++ ys) x ∙ y in
      record {
        items = items ++ one.item ∷ [];
        turns = turns ++ one.turn ∷ [];
        took = takes_more block_format blocks_lawful a.state items one.item a.left b.left next.left so_far.took here;
        in_force = state_push block_format a.state items one.item ∙ one.next.leads;
        goes_on = one.next.goes_on ∙ sym one.next.went_on ∙ so_far.goes_on;
        none_behind_a_refusal = λ is. absurd (true≢false (sym is ∙ sym so_far.goes_on ∙ one.next.went_on));
        become = all_zipped_more (Becomes header.datalink) items turns one.item one.turn so_far.become one.becomes;
        allowed = λ is. reasons ∙ both (reasons_of turns) (reason_of_turn one.turn) (so_far.allowed is) (one.goes.allowed is);
        out = subst (λ (l : List ℕ). Appends c.out behind.out l) (sym texts)
            (Appends-trans c.out d.out behind.out (flat_map (written_under header) (packets_of turns)) (flat_map (written_under header) (packet_of_turn one.turn)) so_far.out one.goes.out);
        blocks = omega (arith, so_far.blocks, one.counts.blocks, length-append items (one.item ∷ []));
        packets = one.counts.packets ∙ ap (λ (n : ℕ). n + length (packet_of_turn one.turn)) so_far.packets ∙ sym (ap length packets ∙ length-append (packets_of turns) (packet_of_turn one.turn));
        left_out = one.counts.left_out ∙ ap (λ (n : ℕ). n + length (reason_of_turn one.turn)) so_far.left_out ∙ sym (ap length reasons ∙ length-append (reasons_of turns) (reason_of_turn one.turn));
      }

  pub all_more_under : (other : PcapHeader) → other ≡ header → (a b next : Source) (c d behind : Sink) (old new : NgConverted) → PlacesAll header choice a b c d old → PlacesNext other choice b next d behind old new
      → PlacesAll header choice a next c behind new
  all_more_under other is a b next c d behind old new so_far one = all_more a b next c d behind old new so_far (subst (λ (h : PcapHeader). PlacesNext h choice b next d behind old new) is one)

  -- The same blocks were placed once the conversion's error is recorded.
  ended : (a b : Source) (c d : Sink) (converted : NgConverted) (result : Result (Unit {0}) PcapError) → PlacesAll header choice a b c d converted → PlacesAll header choice a b c d (outcome_of converted result)
  ended a b c d converted result all = record {
    items = all.items;
    turns = all.turns;
    took = all.took;
    in_force = all.in_force;
    goes_on = all.goes_on;
    none_behind_a_refusal = all.none_behind_a_refusal;
    become = all.become;
    allowed = all.allowed;
    out = all.out;
    blocks = all.blocks;
    packets = all.packets;
    left_out = all.left_out;
  }

  module _ (a b : Source) (c d : Sink) (most : ℕ) (converted : NgConverted) (so_far : PlacesAll header choice a b c d converted) where
    -- The conversion has reached the limit of blocks.
    pub ends_full : converted.blocks ≡ most → PlacesBlocks header choice a b c d most (outcome_of converted (Ok tt))
    ends_full full = record { mid = b; between = d; so_far = ended a b c d converted (Ok tt) so_far; ends = inl (refl, refl, full) }

    module _ (now : Source) (out : Sink) (new : NgConverted) (same : new ≡ converted) where
      -- No block is left.
      pub ends_none : TakesNone b now → IsQuiet d out → PlacesBlocks header choice a now c out most (outcome_of new (Ok tt))
      ends_none none still = record {
        mid = b;
        between = d;
        so_far = ended a b c d new (Ok tt) (subst (λ (n : NgConverted). PlacesAll header choice a b c d n) (sym same) so_far);
        ends = inr (none, still);
      }

      -- The next block ends the conversion.
      pub ends_failed : (other : PcapHeader) (e : PcapError) → other ≡ header → converted.blocks < most → FailsNext other choice b now d out e → PlacesBlocks header choice a now c out most (outcome_of new (Err e))
      ends_failed other e under fewer why = record {
        mid = b;
        between = d;
        so_far = ended a b c d new (Err e) (subst (λ (n : NgConverted). PlacesAll header choice a b c d n) (sym same) so_far);
        ends = (subst (λ (n : NgConverted). n.blocks < most) (sym same) fewer, subst (λ (h : PcapHeader). FailsNext h choice b now d out e) under why);
      }

-- A block has at most one packet and at most one reason.
pub one_at_most : (turn : Turn) → (length (packet_of_turn turn) ≤ 1) × (length (reason_of_turn turn) ≤ 1)
one_at_most (placed packet) = (omega arith, omega arith)
one_at_most (unplaced reason) = (omega arith, omega arith)
one_at_most no_packet = (omega arith, omega arith)
