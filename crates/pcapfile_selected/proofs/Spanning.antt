-- Blocks of a part with a span of time.
use Rattle.std.proofs.Common.{◌≡◌, ◌∙◌, ◌++◌, ◌↔◌, ℕ, List, [], ◌∷◌, Bool, true, false, IsTrue, Option, None, Some, Result, Ok, Err, OnOk, inr, refl, subst, sym}
use Rattle.std.proofs.lemmas.Bool.{false≢true}
use Rattle.pcap_core.specs.declared.errors.PcapError.{PcapError}
use Rattle.pcap_times.specs.declared.clock.Timestamp.{Timestamp}
use Rattle.pcap_blocks.specs.InterfaceDescription.{Interface}
use Rattle.pcap_ng.specs.Frames.{Framed}
use Rattle.pcap_ng.specs.State.{interfaces_at}
use Rattle.pcap_ng.specs.declared.pcapng.block_header.BlockHeader.{BlockHeader}
use Rattle.pcapfile_cut.specs.BlockCuts.{Between, Lent, PassesNext, Place, has_packet}
use Rattle.pcapfile_cut.proofs.BlockCuts.{between_more}
use Rattle.pcapfile_selected.specs.declared.selecting.Tests.{Tests}
use Rattle.pcapfile_selected.specs.declared.spans.Spans.{Spans}
use Rattle.pcapfile_selected.specs.Asked.{FindsFirst}
use Rattle.pcapfile_selected.specs.Judging.{IsBlockTime, IsUntil}
use Rattle.pcapfile_selected.specs.SelectedBlocks.{NotesFirst}
use Rattle.pcapfile_selected.specs.SpanBlocks.{EndsSpan, FailsSpan, IsLentTime, PutsTaken, PutsTakenAll, SpanRun, TakesLent}
use Rattle.pcapfile_selected.specs.Spans.{IsTaken, spans_after, spans_at}
use Rattle.pcapfile_selected.proofs.PutBlocks.{next_is, next_read}

still_by : (spans : Spans) (time : Timestamp) (end : Option Timestamp) → spans.end ≡ end → (IsTaken spans (Some time) → ⊥)
    → spans_after spans (Some time) ≡ spans
still_by spans time None none later = absurd (later (subst (λ (e : Option Timestamp). IsUntil e time) (sym none) tt))
still_by spans time (Some end) is later =
    subst (λ (e : Option Timestamp). (elim e [ None ↦ spans_at spans time | Some it ↦ spans ]) ≡ spans) (sym is) refl

-- A packet that the part does not take leaves its span.
still : (spans : Spans) (time : Option Timestamp) → (IsTaken spans time → ⊥) → spans_after spans time ≡ spans
still spans None later = absurd (later tt)
still spans (Some time) later = still_by spans time spans.end refl later

-- The time of a block that was lent.
pub lent_time : (block : Lent) (interfaces : List Interface) (framed : Framed) (time : Option Timestamp) → interfaces ≡ interfaces_at block.item.after
    → framed ≡ block.item.block → IsBlockTime interfaces framed time → IsLentTime block time
lent_time block interfaces framed time same_interfaces same_block timed =
    subst (λ (f : Framed). IsBlockTime (interfaces_at block.item.after) f time) same_block
    (subst (λ (i : List Interface). IsBlockTime i framed time) same_interfaces timed)

-- Whether the part takes a block with a packet.
pub takes_lent : (spans new : Spans) (block : Lent) (time : Option Timestamp) (is_taken : Bool) → has_packet block ≡ true → IsLentTime block time
    → (IsTrue is_taken ↔ IsTaken spans time) → new ≡ spans_after spans time → TakesLent spans new block is_taken
takes_lent spans new block time true is timed taken next = inr (is, time, timed, taken.0 refl, next)
takes_lent spans new block time false is timed taken next =
    let later : IsTaken spans time → ⊥ = λ holds. absurd (false≢true (taken.1 holds)) in
    (is, next ∙ still spans time later, time, timed, later)

-- The block that was pending is read, and it was put.
pub puts_one : (old new : SpanRun) (a m c : Place) (y : Lent) (lent : BlockHeader → Lent) (header : Option BlockHeader) → Between a m []
    → m.pending ≡ y ∷ [] → PassesNext lent m c (Ok header) → PutsTaken old new y → (x : Lent) × Between a c (x ∷ []) × PutsTaken old new x
puts_one old new a m c y lent header none pending passes puts =
    let more = next_read lent m c y header pending passes in (
      y,
      subst (λ (l : Lent). Between a c (l ∷ [])) (sym (next_is m c more.0 y pending more.1)) (between_more a m c [] (more.0 ∷ []) none more.1),
      puts,
    )

-- One more block was put.
pub puts_all_more : (old mid new : SpanRun) (blocks : List Lent) (block : Lent) → PutsTakenAll old blocks mid → PutsTaken mid new block
    → PutsTakenAll old (blocks ++ block ∷ []) new
puts_all_more old mid new [] block same more = (new, subst (λ (run : SpanRun). PutsTaken run new block) same more, refl)
puts_all_more old mid new (first ∷ blocks) block puts more = (puts.0, puts.1, puts_all_more puts.0 mid new blocks block puts.2 more)

-- The first time after a block with a packet.
pub notes_found : (result : Result (Unit {0}) PcapError) (asked : Tests) (block : Lent) (interfaces : List Interface) (framed : Framed) (old new : Option Timestamp)
    → has_packet block ≡ true → interfaces ≡ interfaces_at block.item.after → framed ≡ block.item.block
    → OnOk result (FindsFirst asked interfaces framed old new) → OnOk result (NotesFirst asked block old new)
notes_found (Ok u) asked block interfaces framed old new is same_interfaces same_block found =
    inr (
      is,
      subst (λ (f : Framed). FindsFirst asked (interfaces_at block.item.after) f old new) same_block
          (subst (λ (i : List Interface). FindsFirst asked i framed old new) same_interfaces found),
    )
notes_found (Err e) asked block interfaces framed old new is same_interfaces same_block found = found

-- The part ended with an error.
pub ends_failed : (old new : SpanRun) (a b : Place) (blocks : ℕ) (e : PcapError) (result : Result (Unit {0}) PcapError) → result ≡ Err e
    → FailsSpan old new a b e → EndsSpan old new a b blocks result
ends_failed old new a b blocks e result is failed = subst (λ (r : Result (Unit {0}) PcapError). EndsSpan old new a b blocks r) (sym is) failed
