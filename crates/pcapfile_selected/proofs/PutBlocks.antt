-- Blocks that a selection puts or skips one after another.
use Rattle.std.proofs.Common.{◌≡◌, ◌<◌, ◌≤◌, ◌+◌, ◌-◌, ◌^◌, ◌⊎◌, ◌++◌, ◌∙◌, ℕ, List, [], ◌∷◌, length, Bool, true, false, Ok, Err, arith, ap, append-nil, length-append, inl, inr, refl, subst, sym, get_or, Option, None, Some}
use Rattle.std.proofs.lemmas.Bool.{leb-false}
use Rattle.pcap_core.specs.declared.errors.PcapError.{PcapError}
use Rattle.pcap_times.specs.declared.clock.Timestamp.{Timestamp}
use Rattle.pcap_ng.specs.declared.pcapng.block_header.BlockHeader.{BlockHeader}
use Rattle.pcapfile_cut.specs.declared.cutting.Outcome.{Outcome}
use Rattle.pcapfile_cut.specs.BlockCuts.{Between, Lent, PassesNext, Place, bytes_in, has_packet, packets_in}
use Rattle.pcapfile_cut.specs.Cuts.{counted}
use Rattle.pcapfile_cut.proofs.BlockCuts.{between_more, bytes_more, counted_more, counted_same, one_packet, packets_more}
use Rattle.pcapfile_selected.specs.Asked.{has_reached}
use Rattle.pcapfile_selected.specs.declared.selecting.Tests.{Tests}
use Rattle.pcapfile_selected.specs.SelectedBlocks.{CountsBlock, CountsBlocks, NotesAll, NotesFirst, PassesBlock, PutsAll, PutsBlock, Run, spot}

-- One more block was put.
pub puts_more : (old mid new : Run) (blocks : List Lent) (block : Lent) → PutsAll old blocks mid → PutsBlock mid new block (Ok tt)
    → PutsAll old (blocks ++ block ∷ []) new
puts_more old mid new [] block same more = (new, subst (λ (run : Run). PutsBlock run new block (Ok tt)) same more, refl)
puts_more old mid new (first ∷ blocks) block puts more = (puts.0, puts.1, puts_more puts.0 mid new blocks block puts.2 more)

-- No block is counted yet.
pub counts_none : (outcome : Outcome) → outcome.packets ≤ 2 ^ 64 - 1 → outcome.bytes ≤ 2 ^ 64 - 1 → CountsBlocks [] outcome outcome
counts_none outcome packets bytes = record {
  packets = counted_same outcome.packets packets;
  bytes = counted_same outcome.bytes bytes;
  duplicates = refl;
  write_failed = refl;
}

-- One more block is counted.
pub counts_more : (old mid new : Outcome) (blocks : List Lent) (block : Lent) → CountsBlocks blocks old mid → CountsBlocks (block ∷ []) mid new
    → CountsBlocks (blocks ++ block ∷ []) old new
counts_more old mid new blocks block first more = record {
  packets = counted_more old.packets mid.packets new.packets (packets_in blocks) (packets_in (block ∷ [])) (packets_in (blocks ++ block ∷ []))
      first.packets more.packets (packets_more blocks (block ∷ []));
  bytes = counted_more old.bytes mid.bytes new.bytes (length (bytes_in blocks)) (length (bytes_in (block ∷ []))) (length (bytes_in (blocks ++ block ∷ [])))
      first.bytes more.bytes (ap (λ (l : List ℕ). length l) (bytes_more blocks (block ∷ [])) ∙ length-append (bytes_in blocks) (bytes_in (block ∷ [])));
  duplicates = more.duplicates ∙ first.duplicates;
  write_failed = more.write_failed ∙ first.write_failed;
}

below_by : (first : ℕ) (mid new : Outcome) (blocks : List Lent) (block : Lent) (with_packet : Bool) → with_packet ≡ has_packet block
    → (packets_in blocks ≡ 0) ⊎ (mid.packets < first) → CountsBlocks (block ∷ []) mid new → (has_packet block ≡ true → new.packets < first)
    → (packets_in (blocks ++ block ∷ []) ≡ 0) ⊎ (new.packets < first)
below_by first mid new blocks block true is so_far counts below = inr (below (sym is))
below_by first mid new blocks block false is so_far counts below =
    let none : packets_in (block ∷ []) ≡ 0 = one_packet block false is in
    elim so_far [
      | inl zero ↦ inl (omega (arith, packets_more blocks (block ∷ []), zero, none))
      | inr lt ↦ inr (omega (arith, counts.packets, none, lt))
    ]

-- The last packet so far has a number below this one.
pub below_more : (first : ℕ) (mid new : Outcome) (blocks : List Lent) (block : Lent) → (packets_in blocks ≡ 0) ⊎ (mid.packets < first)
    → CountsBlocks (block ∷ []) mid new → (has_packet block ≡ true → new.packets < first)
    → (packets_in (blocks ++ block ∷ []) ≡ 0) ⊎ (new.packets < first)
below_more first mid new blocks block so_far counts below = below_by first mid new blocks block (has_packet block) refl so_far counts below

-- The block that was pending is the one that was read.
pub next_is : (m c : Place) (x y : Lent) → m.pending ≡ y ∷ [] → Between m c (x ∷ []) → y ≡ x
next_is m c x y pending between =
    ap (λ (l : List Lent). get_or (l ++ between.read) 0 y) (sym pending) ∙ ap (λ (l : List Lent). get_or l 0 y) between.all

counts_one : (y : Lent) (with_packet : Bool) (old new : Outcome) → with_packet ≡ has_packet y → CountsBlock with_packet (length y.text) old new
    → CountsBlocks (y ∷ []) old new
counts_one y with_packet old new is counts = record {
  packets = counts.packets ∙ ap (λ (n : ℕ). counted (old.packets + n)) (sym (one_packet y with_packet is));
  bytes = counts.bytes ∙ ap (λ (l : List ℕ). counted (old.bytes + length l)) (sym (append-nil y.text));
  duplicates = counts.duplicates;
  write_failed = counts.write_failed;
}

below_first : (first : ℕ) (y : Lent) (with_packet : Bool) (old new : Outcome) → with_packet ≡ has_packet y
    → CountsBlock with_packet (length y.text) old new → has_reached first with_packet old.packets ≡ false → has_packet y ≡ true → new.packets < first
below_first first y true old new is counts below holds =
    subst (λ (n : ℕ). n < first) (sym counts.packets) (leb-false first (counted (old.packets + 1)) below)
below_first first y false old new is counts below holds = absurd cc

-- A block that is pending is read by the next call.
pub next_read : (lent : BlockHeader → Lent) (m c : Place) (y : Lent) (header : Option BlockHeader) → m.pending ≡ y ∷ [] → PassesNext lent m c (Ok header)
    → (x : Lent) × Between m c (x ∷ [])
next_read lent m c y None pending done = absurd cc
next_read lent m c y (Some header) pending more = (lent header, more)

-- The block that was pending is read, and it is no packet of this number or above.
pub passes_one : (asked : Tests) (number : ℕ) (a m c : Place) (y : Lent) (with_packet : Bool) (old new : Outcome) (first first_now : Option Timestamp)
    (lent : BlockHeader → Lent) (header : Option BlockHeader) → Between a m [] → m.pending ≡ y ∷ [] → with_packet ≡ has_packet y
    → CountsBlock with_packet (length y.text) old new → NotesFirst asked y first first_now → has_reached number with_packet old.packets ≡ false
    → PassesNext lent m c (Ok header) → PassesBlock asked number (spot a old first) (spot c new first_now) (Ok true)
passes_one asked number a m c y with_packet old new first first_now lent header none pending is counts notes below passes =
    let more = next_read lent m c y header pending passes in (
      y,
      subst (λ (l : Lent). Between a c (l ∷ [])) (sym (next_is m c more.0 y pending more.1)) (between_more a m c [] (more.0 ∷ []) none more.1),
      counts_one y with_packet old new is counts,
      notes,
      below_first number y with_packet old new is counts below,
    )

-- A block that is pending is not refused.
pub not_refused : {A : Type 0} (lent : BlockHeader → Lent) (m c : Place) (y : Lent) (e : PcapError) → m.pending ≡ y ∷ [] → PassesNext lent m c (Err e) → A
not_refused lent m c y e pending refused = absurd cc

-- One more block may have the first time.
pub notes_more : (asked : Tests) (blocks : List Lent) (block : Lent) (old mid new : Option Timestamp) → NotesAll asked blocks old mid
    → NotesFirst asked block mid new → NotesAll asked (blocks ++ block ∷ []) old new
notes_more asked [] block old mid new same more = (new, subst (λ (t : Option Timestamp). NotesFirst asked block t new) same more, refl)
notes_more asked (other ∷ blocks) block old mid new notes more = (notes.0, notes.1, notes_more asked blocks block notes.0 mid new notes.2 more)
