-- One more packet of a source.
use Rattle.std.proofs.Common.{◌≡◌, ◌≤◌, ◌<◌, ◌+◌, ◌^◌, ℕ, drop, arith, List, [], ◌∷◌, ◌++◌, map, Bool, true, false, Option, None, Some, refl, sym, ap, ◌∙◌, subst, inl}
use Rattle.std.specs.Prelude.{IfSome, Ok}
use Rattle.std.proofs.lemmas.Bool.{true≢false}
use Rattle.std.proofs.lemmas.List.{map-append, append-nil, length-take}
use Rattle.pcap_core.specs.declared.errors.PcapError.{PcapError}
use Rattle.pcap_core.specs.Answer.{Verdict}
use Rattle.pcap_core.specs.Errors.{IsMemory}
use Rattle.pcap_items.specs.Reading.{NextGives, Takes}
use Rattle.pcap_items.specs.Takes.{TakesTexts}
use Rattle.pcap_items.proofs.Taking.{takes_more, takes_none}
use Rattle.pcap_classic.specs.declared.pcap.header.PcapHeader.{PcapHeader}
use Rattle.pcap_classic.specs.declared.pcap.packet.PacketHeader.{PacketHeader}
use Rattle.pcap_classic.specs.Packets.{reader_format}
use Rattle.pcap_classic.specs.PacketText.{Captured, packet_limit}
use Rattle.pcap_classic.proofs.Packets.{reader_lawful}
use Rattle.pcap_file.proofs.Converting.{packet_short}
use Rattle.pcapfile_run.specs.Passing.{counted}
use Rattle.pcapfile_merge.specs.declared.buffered.BufferedPackets.{BufferedPackets}
use Rattle.pcapfile_merge.specs.declared.buffered_blocks.BufferedBlocks.{BufferedBlocks}
use Rattle.pcapfile_merge.specs.declared.packet.Pending.{Pending}
use Rattle.pcapfile_merge.specs.declared.reader.Reader.{Reader}
use Rattle.pcapfile_merge.specs.declared.reader.Reader.TheVariants.{Packets, Blocks}
use Rattle.pcapfile_merge.specs.declared.reader.Taken.{Taken}
use Rattle.pcapfile_merge.specs.declared.source.Source.{Source}
use Rattle.pcapfile_merge.specs.Buffered.{data_of, has_failed, header_of, is_done, left_of, lent_packet}
use Rattle.pcapfile_merge.specs.BufferedBlocks.{body_of, progress_of}
use Rattle.pcapfile_merge.specs.Keeping.{Progress}
use Rattle.pcapfile_merge.specs.Packets.{Packet, left_out_with, packet_of}
use Rattle.pcapfile_merge.specs.Holding.{HoldsFew, IsReady, IsReadyIf, TakesNext, TakesThere, alone, bytes_in, held_by, holds_interface, left_out_next}
use Rattle.pcapfile_merge.specs.Sources.{Advances, AdvancesTo, GaveBy, GavePackets, GaveStored, Stands, numbers_of, numbers_with}
use Rattle.pcapfile_merge.specs.Taking.{IsOf, TakesPacket, TakesPending, packet_in}
use Rattle.pcapfile_merge.specs.TakingBlocks.{TakesStored}
use Rattle.pcapfile_merge.proofs.StoredGiven.{GaveUpTo, ends_unnumbered, taken_one, takes_first, takes_further}

stood : {V : Type 0} (IsSaid : List ℕ → Verdict V → Type 0) (left now : Option (List ℕ)) (failed : Bool) (next : Option Pending) (fault : Option PcapError) (n : Pending) → next ≡ Some n → Stands IsSaid left now failed next fault → now ≡ left
stood IsSaid left now failed None fault n is stands = absurd (let no : ⊥ = cc in no)
stood IsSaid left now failed (Some p) fault n is stands = stands.1

-- The facts about the packets that a reader gave.
Held : {R : Type 0} → (R → Option (List ℕ)) → ℕ → BufferedPackets R → BufferedPackets R → List Packet → Option Pending → Option PcapError → Type 0
Held remaining base from reader given next fault =
    (captured : List Captured) × (left : Option (List ℕ)) × (given ≡ map (packet_of base) captured) × TakesTexts (reader_format packet_limit (header_of from)) tt captured (left_of remaining from) left
    × Stands ((reader_format packet_limit (header_of from)).says tt) left (left_of remaining reader) (has_failed reader) next fault

module _ {R : Type 0} (remaining : R → Option (List ℕ)) (base : ℕ) where
  held_more : (from old new : BufferedPackets R) (given : List Packet) (captured : List Captured) (next : Option Pending) (fault : Option PcapError) → given ≡ map (packet_of base) captured
      → header_of old ≡ header_of from → TakesTexts (reader_format packet_limit (header_of from)) tt captured (left_of remaining from) (left_of remaining old) → TakesPending remaining base (header_of old) (left_of remaining old) new next fault
      → Held remaining base from new (given ++ held_by (Packets new) next) next fault
  unfolding Held
  held_more from old new given captured None fault are same took ends = (
    captured,
    left_of remaining old,
    append-nil given ∙ are,
    took,
    subst (λ (h : PcapHeader). Stands ((reader_format packet_limit h).says tt) (left_of remaining old) (left_of remaining new) (has_failed new) None fault) same ends,
  )
  held_more from old new given captured (Some pending) fault are same took takes =
      let all = captured ++ takes.3 ∷ [] in
      let one = subst (λ (h : PcapHeader). Takes ((reader_format packet_limit h).says tt) (left_of remaining old) (left_of remaining new) takes.3) same takes.5 in
      let texts = takes_more (reader_format packet_limit (header_of from)) (reader_lawful packet_limit (header_of from)) tt captured takes.3 (left_of remaining from) (left_of remaining old) (left_of remaining new) took one in (
        all,
        left_of remaining new,
        ap (λ (l : List Packet). l ++ packet_in (data_of new) pending ∷ []) are ∙ ap (λ (p : Packet). map (packet_of base) captured ++ p ∷ []) takes.4 ∙ sym (map-append (packet_of base) captured (takes.3 ∷ [])),
        texts,
        (takes.0, refl),
      )

  gave_held : (from reader : BufferedPackets R) (given : List Packet) (taken : Taken) → header_of reader ≡ header_of from → Held remaining base from reader given taken.next taken.fault → GavePackets remaining base from reader given taken
  unfolding Held
  gave_held from reader given taken same held = record { same = same; captured = held.0; given_are = held.2; left = held.1; took = held.3; stands = held.4 }

  one_taken : (reader : BufferedBlocks R) (next : Option Pending) → taken_one (bytes_in (Blocks reader)) next ≡ held_by (Blocks reader) next
  one_taken reader None = refl
  one_taken reader (Some p) = refl

  gave_stored : (numbers : List ℕ) (from reader : BufferedBlocks R) (given : List Packet) (taken : Taken) → GaveUpTo (progress_of remaining from) numbers (progress_of remaining reader) given taken.next taken.fault
      → GaveStored remaining numbers from reader given taken
  gave_stored numbers from reader given taken gave = record { mid = gave.0; gave = gave.1; stands = gave.2 }

  -- A reader that held a packet takes the next one. Meanwhile, more interfaces got numbers.
  pub gave_more : (numbers more : List ℕ) (from old new : Reader R) (given : List Packet) (was now : Taken) (n : Pending) → was.next ≡ Some n → GaveBy remaining base numbers from old given was
      → TakesNext remaining base (numbers ++ more) old new now → GaveBy remaining base (numbers ++ more) from new (given ++ held_by new now.next) now
  gave_more numbers more (Packets from) (Packets old) (Packets new) given was now n is gave takes =
      let there = stood _ gave.left (left_of remaining old) (has_failed old) was.next was.fault n is gave.stands in
      let took = subst (λ (l : Option (List ℕ)). TakesTexts (reader_format packet_limit (header_of from)) tt gave.captured (left_of remaining from) l) (sym there) gave.took in
      gave_held from new (given ++ held_by (Packets new) now.next) now (takes.0 ∙ gave.same) (held_more from old new given gave.captured now.next now.fault gave.given_are gave.same took takes.1)
  gave_more numbers more (Blocks from) (Blocks old) (Blocks new) given was now n is gave takes =
      let all = numbers ++ more in
      let further = takes_further (progress_of remaining from) numbers more (progress_of remaining old) (progress_of remaining new) given was.next was.fault n is (gave.mid, gave.gave, gave.stands) (bytes_in (Blocks new)) now.next now.fault takes in
      let up_to = subst (λ (l : List Packet). GaveUpTo (progress_of remaining from) all (progress_of remaining new) (given ++ l) now.next now.fault) (one_taken new now.next) further in
      gave_stored all from new (given ++ held_by (Blocks new) now.next) now up_to
  gave_more numbers more (Packets from) (Packets old) (Blocks new) given was now n is gave takes = absurd takes
  gave_more numbers more (Blocks from) (Blocks old) (Packets new) given was now n is gave takes = absurd takes
  gave_more numbers more (Packets from) (Blocks old) new given was now n is gave takes = absurd gave
  gave_more numbers more (Blocks from) (Packets old) new given was now n is gave takes = absurd gave

  -- The packets of a classic capture describe no interface.
  last_plain : (xs : List Packet) (p : Packet) (captured : List Captured) → xs ++ p ∷ [] ≡ map (packet_of base) captured → p.is_interface ≡ false
  last_plain [] p [] e = absurd (let no : ⊥ = cc in no)
  last_plain [] p (c ∷ captured) e = let same : p ≡ packet_of base c = cc in ap (λ (q : Packet). q.is_interface) same
  last_plain (x ∷ xs) p [] e = absurd (let no : ⊥ = cc in no)
  last_plain (x ∷ xs) p (c ∷ captured) e = last_plain xs p captured (let rest : xs ++ p ∷ [] ≡ map (packet_of base) captured = cc in rest)

  -- There is no memory for the number of the interface that a reader held.
  pub gave_unnumbered : (numbers : List ℕ) (from reader : Reader R) (given : List Packet) (was now : Taken) (n : Pending) (e : PcapError) → was.next ≡ Some n → n.is_interface ≡ true
      → GaveBy remaining base numbers from reader (given ++ held_by reader (Some n)) was → now.next ≡ None → now.fault ≡ Some e → IsMemory e
      → GaveBy remaining base numbers from reader (given ++ held_by reader (Some n)) now
  gave_unnumbered numbers (Packets from) (Packets reader) given was now n e is interface gave none fault memory =
      absurd (true≢false (sym interface ∙ last_plain given (packet_in (data_of reader) n) gave.captured gave.given_are))
  gave_unnumbered numbers (Blocks from) (Blocks reader) given was now n e is interface gave none fault memory =
      let all = given ++ held_by (Blocks reader) (Some n) in
      let ends = ends_unnumbered (progress_of remaining from) numbers (progress_of remaining reader) all was.next was.fault n is (gave.mid, gave.gave, gave.stands) e memory in
      gave_stored numbers from reader all now (rw (none, fault) ends)
  gave_unnumbered numbers (Packets from) (Blocks reader) given was now n e is interface gave none fault memory = absurd gave
  gave_unnumbered numbers (Blocks from) (Packets reader) given was now n e is interface gave none fault memory = absurd gave

  -- A reader takes its first packet.
  pub gave_first : (numbers : List ℕ) (old new : Reader R) (taken : Taken) → IsReady old → TakesNext remaining base numbers old new taken → GaveBy remaining base numbers old new (held_by new taken.next) taken
  gave_first numbers (Packets old) (Packets new) taken ready takes =
      let none = takes_none (reader_format packet_limit (header_of old)) tt (left_of remaining old) in
      gave_held old new (held_by (Packets new) taken.next) taken takes.0 (held_more old old new [] [] taken.next taken.fault refl refl none takes.1)
  gave_first numbers (Packets old) (Blocks new) taken ready takes = absurd takes
  gave_first numbers (Blocks old) (Packets new) taken ready takes = absurd takes
  gave_first numbers (Blocks old) (Blocks new) taken ready takes =
      let first = takes_first (progress_of remaining old) numbers (progress_of remaining new) (bytes_in (Blocks new)) taken.next taken.fault takes in
      gave_stored numbers old new (held_by (Blocks new) taken.next) taken
      (subst (λ (l : List Packet). GaveUpTo (progress_of remaining old) numbers (progress_of remaining new) l taken.next taken.fault) (one_taken new taken.next) first)

-- A reader that holds a packet has refused nothing, and the packet is short.
pub pending_ready : {R : Type 0} (remaining : R → Option (List ℕ)) (number : ℕ) (header : PcapHeader) (left : Option (List ℕ)) (new : BufferedPackets R) (next : Option Pending) (fault : Option PcapError) → TakesPending remaining number header left new next fault
    → IsReadyIf (Packets new) next × HoldsFew (Packets new) next
pending_ready remaining number header left new None fault takes = (refl, omega arith)
pending_ready remaining number header left new (Some pending) fault takes = (takes.1, takes.2)

-- What a reader takes after it only removed a lent packet, it takes from where it was.
pub stays_taken : {R : Type 0} (remaining : R → Option (List ℕ)) (base : ℕ) (numbers : List ℕ) (old mid new : Reader R) (taken : Taken) → TakesThere remaining base numbers old mid None → TakesNext remaining base numbers mid new taken
    → TakesNext remaining base numbers old new taken
stays_taken remaining base numbers (Packets old) (Packets mid) (Packets new) taken stays takes =
    let there = subst (λ (h : PcapHeader). (header_of new ≡ h) × TakesPending remaining base h (left_of remaining mid) new taken.next taken.fault) stays.0 takes in
    (there.0, subst (λ (l : Option (List ℕ)). TakesPending remaining base (header_of old) l new taken.next taken.fault) stays.1.1 there.1)
stays_taken remaining base numbers (Blocks old) (Blocks mid) (Blocks new) taken stays takes = subst (λ (s : Progress). TakesStored numbers s (progress_of remaining new) (bytes_in (Blocks new)) taken.next taken.fault) stays.1 takes
stays_taken remaining base numbers (Packets old) (Blocks mid) new taken stays takes = absurd stays
stays_taken remaining base numbers (Blocks old) (Packets mid) new taken stays takes = absurd stays
stays_taken remaining base numbers (Packets old) (Packets mid) (Blocks new) taken stays takes = absurd takes
stays_taken remaining base numbers (Blocks old) (Blocks mid) (Packets new) taken stays takes = absurd takes

-- The packet in the buffer is the next packet.
pub there_next : {R : Type 0} (remaining : R → Option (List ℕ)) (base : ℕ) (numbers : List ℕ) (old new : Reader R) (pending : Pending) → TakesThere remaining base numbers old new (Some pending) → TakesNext remaining base numbers old new (alone pending)
there_next remaining base numbers (Packets old) (Packets new) pending there = there
there_next remaining base numbers (Blocks old) (Blocks new) pending there = there
there_next remaining base numbers (Packets old) (Blocks new) pending there = absurd there
there_next remaining base numbers (Blocks old) (Packets new) pending there = absurd there

pub there_taken : {R : Type 0} (remaining : R → Option (List ℕ)) (base : ℕ) (numbers : List ℕ) (old new : Reader R) (pending : Pending) (fault : Option PcapError) → fault ≡ None → TakesThere remaining base numbers old new (Some pending)
    → TakesNext remaining base numbers old new (record { next = Some pending; fault = fault })
there_taken remaining base numbers old new pending fault none there =
    subst (λ (f : Option PcapError). TakesNext remaining base numbers old new (record { next = Some pending; fault = f })) (sym none) (there_next remaining base numbers old new pending there)

-- A header from the buffer is that of the next packet.
pub packet_there : {R : Type 0} (remaining : R → Option (List ℕ)) (number : ℕ) (old new : BufferedPackets R) (head : PacketHeader) (pending : Pending) → is_done old ≡ false → header_of new ≡ header_of old
    → NextGives ((reader_format packet_limit (header_of old)).says tt) (lent_packet new) (left_of remaining old) (left_of remaining new) (is_done old) (is_done new) (has_failed old) (has_failed new) (Some (Ok head)) → IsOf number head pending
    → TakesPacket remaining number old new (alone pending)
packet_there remaining number old new head pending ready same gives is =
    let next = subst (λ (b : Bool). NextGives ((reader_format packet_limit (header_of old)).says tt) (lent_packet new) (left_of remaining old) (left_of remaining new) b (is_done new) (has_failed old) (has_failed new) (Some (Ok head))) ready gives in
    let packet = lent_packet new head in
    (same, (refl, next.0, packet_short (header_of old) next.2.0 packet next.2.1, packet, is (data_of new), next.2))

pub blocks_few : {R : Type 0} (reader : BufferedBlocks R) (next : Option Pending) → IfSome next (λ (p : Pending). p.len ≤ 4294967260) → HoldsFew (Blocks reader) next
blocks_few reader None few = omega arith
blocks_few reader (Some p) few = omega (arith, length-take p.len (drop p.start (body_of reader)), few)

pub blocks_ready : {R : Type 0} (remaining : R → Option (List ℕ)) (numbers : List ℕ) (a : Progress) (reader : BufferedBlocks R) (bytes : Pending → List ℕ) (next : Option Pending) (fault : Option PcapError)
    → TakesStored numbers a (progress_of remaining reader) bytes next fault → IsReadyIf (Blocks reader) next
blocks_ready remaining numbers a reader bytes None fault takes = refl
blocks_ready remaining numbers a reader bytes (Some p) None takes = takes.3.0.goes_on
blocks_ready remaining numbers a reader bytes (Some p) (Some e) takes = absurd takes

-- The count with the packet that was taken next.
pub left_out_held : {R : Type 0} (reader : Reader R) (next : Option Pending) (others : ℕ) → left_out_next next others ≡ left_out_with (held_by reader next) others
left_out_held reader None others = refl
left_out_held reader (Some pending) others = refl

pub left_out_both : (xs ys : List Packet) (others : ℕ) → left_out_with (xs ++ ys) others ≡ left_out_with ys (left_out_with xs others)
left_out_both [] ys others = refl
left_out_both (x ∷ xs) ys others = left_out_both xs ys (counted (others + x.left_out))

-- A packet of which no option is left out changes no count.
pub nothing_more : (others : ℕ) (pending : Pending) → others < 2 ^ 64 → pending.left_out ≡ 0 → others ≡ counted (others + pending.left_out)
nothing_more others pending most none = omega (arith, most, none)

-- A source that held no interface took what comes next.
pub advanced : {R : Type 0} (remaining : R → Option (List ℕ)) (number : ℕ) (old new : Source R) → holds_interface old.taken.next ≡ false → AdvancesTo remaining (numbers_of old) old new → Advances remaining number old new
advanced remaining number old new none advances = inl (subst (λ (b : Bool). AdvancesTo remaining (numbers_with b number (numbers_of old)) old new) (sym none) advances)

-- A source that held an interface, which got a number, took what comes next.
pub advanced_numbered : {R : Type 0} (remaining : R → Option (List ℕ)) (number : ℕ) (old new : Source R) → holds_interface old.taken.next ≡ true → AdvancesTo remaining (numbers_of old ++ number ∷ []) old new → Advances remaining number old new
advanced_numbered remaining number old new some advances = inl (subst (λ (b : Bool). AdvancesTo remaining (numbers_with b number (numbers_of old)) old new) (sym some) advances)
