-- The result of a sort follows from those of its two passes.
use Rattle.std.proofs.Common.{◌≡◌, ◌<◌, ◌≤◌, ◌+◌, ◌^◌, ℕ, List, [], ◌∷◌, ◌++◌, length, map, Bool, Option, Some, None, inl, inr, refl, sym, ap, ◌∙◌, subst, arith, append-nil, length-append}
use Rattle.std.specs.Prelude.{All}
use Rattle.std.specs.Io.KnownBytes.{Consumes, IsAtEnd}
use Rattle.std.proofs.KnownBytes.{Consumes-trans, Keeps-refl}
use Rattle.std.proofs.lemmas.List.{length-map, map-append}
use Rattle.std.proofs.lemmas.List.Elements.{All-nil, All-cons, All-head, All-tail}
use Rattle.std.proofs.lemmas.List.Sorted.{All-permutation}
use Rattle.pcap_core.specs.declared.errors.PcapError.{PcapError}
use Rattle.pcap_items.specs.Reading.{HasCause}
use Rattle.pcap_items.proofs.Formats.{cons_same}
use Rattle.pcap_classic.specs.declared.pcap.header.PcapHeader.{PcapHeader}
use Rattle.pcap_classic.specs.HeaderText.{HeaderText}
use Rattle.pcap_walk.specs.declared.walking.Ended.{Ended}
use Rattle.pcap_walk.specs.declared.walking.Ended.TheVariants as ends
use Rattle.pcapfile_cut.specs.declared.opening.Opening.{Opening}
use Rattle.pcapfile_cut.specs.Openings.{bytes_of, header_of}
use Rattle.pcapfile_sort.specs.declared.collecting.Entries.{Entries}
use Rattle.pcapfile_sort.specs.declared.collecting.Unkept.{Unkept}
use Rattle.pcapfile_sort.specs.declared.collecting.Unkept.TheVariants as unkept
use Rattle.pcapfile_sort.specs.declared.entry.Entry.{Entry}
use Rattle.pcapfile_sort.specs.declared.sorting.Sorted.{Sorted}
use Rattle.pcapfile_sort.specs.declared.sorting.Sorted.TheVariants.{Whole, Memory, Unread, Changed, Unwritten}
use Rattle.pcapfile_sort.specs.Again.{GivesAt, IsAt}
use Rattle.pcapfile_sort.specs.Copying.{EndsWriting, HasCopy, WritesEntries}
use Rattle.pcapfile_sort.specs.Entries.{entries_of, led_to}
use Rattle.pcapfile_sort.specs.Order.{IsInOrder}
use Rattle.pcapfile_sort.specs.Reading.{EndsPass, EndsReading, PassesOnce, ReadsEntries, sorted_by}
use Rattle.pcapfile_sort.specs.Packets.{BeginsWith, IsTimed, PacketIsSaid, packet_captures}
use Rattle.pcapfile_sort.specs.Ranked.{Ranked, texts_of}
use Rattle.pcapfile_sort.specs.Sortable.{IsSortable, Sortable}
use Rattle.pcapfile_sort.specs.Sorting.{IsTooLong, RefusesRest, Sorts, StaysSame, WritesUpTo}
use Rattle.pcapfile_sort.proofs.LedRecords.{LeadsTo, led_all, led_in_order, leads_all}

known_left : (left : Option (List ℕ)) (all bytes : List ℕ) → Consumes (Some bytes) left all → IsAtEnd left → bytes ≡ all
known_left None all bytes took end = absurd took
known_left (Some rest) all bytes took end = took ∙ ap (λ (l : List ℕ). all ++ l) end ∙ append-nil all

-- The known bytes are those that were read to the end.
pub known_all : (capture left : Option (List ℕ)) (all bytes : List ℕ) → Consumes capture left all → IsAtEnd left → capture ≡ Some bytes → bytes ≡ all
known_all capture left all bytes took end is = known_left left all bytes (subst (λ (known : Option (List ℕ)). Consumes known left all) is took) end

all_middle : {X : Type 0} (P : X → Type 0) (xs : List X) (y : X) (ys : List X) → All P (xs ++ y ∷ ys) → P y
all_middle P [] y ys all = All-head P y ys all
all_middle P (x ∷ xs) y ys all = all_middle P xs y ys (All-tail P x (xs ++ y ∷ ys) all)

all_front : {X : Type 0} (P : X → Type 0) (xs ys : List X) → All P (xs ++ ys) → All P xs
all_front P [] ys all = All-nil P
all_front P (x ∷ xs) ys all = All-cons P x xs (All-head P x (xs ++ ys) all) (all_front P xs ys (All-tail P x (xs ++ ys) all))

led_ranks : (all : List ℕ) (entries : List Entry) → map (λ (ranked : Ranked). ranked.rank) (map (led_to all) entries) ≡ map (λ (entry : Entry). entry.rank) entries
led_ranks all [] = refl
led_ranks all (entry ∷ entries) = ap (λ (l : List ℕ). entry.rank ∷ l) (led_ranks all entries)

led_lengths : (Is : Ranked → Type 0) (all : List ℕ) (entries : List Entry) → All (LeadsTo Is all) entries → map (λ (ranked : Ranked). length ranked.text) (map (led_to all) entries) ≡ map (λ (entry : Entry). entry.length) entries
led_lengths Is all [] each = refl
led_lengths Is all (entry ∷ entries) each =
    let first : LeadsTo Is all entry = All-head (LeadsTo Is all) entry entries each in
    cons_same (length (led_to all entry).text) entry.length _ _ first.long (led_lengths Is all entries (All-tail (LeadsTo Is all) entry entries each))

module _ (f : Sortable) (laws : IsSortable f) (opening : f.Opening) (records : List Ranked) (capture again left : Option (List ℕ)) (begins : f.Begins opening records capture left) (at_end : IsAtEnd left)
    (entries : List Entry) (kept : entries ≡ entries_of (length (f.lead opening)) records) where
  -- All bytes of the capture.
  abbrev all : List ℕ
  all = f.lead opening ++ texts_of records

  took : Consumes capture left all
  took = laws.took opening records capture left begins

  leads : All (LeadsTo (f.Is opening) all) entries
  leads = subst (λ (l : List Entry). All (LeadsTo (f.Is opening) all) l) (sym kept) (leads_all (f.Is opening) all (f.lead opening) records (length (f.lead opening)) refl refl (laws.each opening records capture left begins))

  led : map (led_to all) entries ≡ records
  led = ap (map (led_to all)) kept ∙ led_all all (f.lead opening) records (length (f.lead opening)) refl refl

  leads_sorted : (out out_now : Option (List ℕ)) (rest : List Entry) (more : List ℕ) → (w : WritesEntries (f.Is opening) again (f.lead opening) entries out out_now rest more) → All (LeadsTo (f.Is opening) all) (w.front ++ rest)
  leads_sorted out out_now rest more w = All-permutation (LeadsTo (f.Is opening) all) entries (w.front ++ rest) w.in_order.same leads

  -- What was written of the entries was written of the records.
  up_to : (out out_now : Option (List ℕ)) (rest : List Entry) (more : List ℕ) → WritesEntries (f.Is opening) again (f.lead opening) entries out out_now rest more → WritesUpTo f capture again out out_now (map (led_to all) rest) more
  up_to out out_now rest more w =
      let sorted = map (led_to all) (w.front ++ rest) in
      let order : IsInOrder records sorted = subst (λ (l : List Ranked). IsInOrder l sorted) led (led_in_order all entries (w.front ++ rest) w.in_order) in
      record {
        opening = opening;
        records = records;
        end = left;
        begins = begins;
        at_end = at_end;
        front = map (led_to all) w.front;
        in_order = subst (λ (l : List Ranked). IsInOrder records l) (map-append (led_to all) w.front rest) order;
        copies = w.copies;
        copied = record {
          each = w.copied.each;
          ranks = w.copied.ranks ∙ sym (led_ranks all w.front);
          lengths = w.copied.lengths ∙ sym (led_lengths (f.Is opening) all w.front (all_front (LeadsTo (f.Is opening) all) w.front rest (leads_sorted out out_now rest more w)));
          same = λ stays. w.copied.same stays.0 stays.2 ∙ ap (λ (bytes : List ℕ). map (led_to bytes) w.front) (known_all capture left all stays.0 took at_end stays.1);
        };
        went = w.went;
      }

  -- In a capture that stays the same, each entry leads to its record again.
  has_copy : (next : Entry) → LeadsTo (f.Is opening) all next → StaysSame capture again → HasCopy (f.Is opening) again next
  has_copy next to stays =
      let text = (led_to all next).text in
      let there : IsAt next.place text stays.0 = subst (λ (bytes : List ℕ). IsAt next.place text bytes) (sym (known_all capture left all stays.0 took at_end stays.1)) to.there in
      (stays.0, stays.2, led_to all next, record { ranked = to.ranked; rank = refl; long = to.long; there = subst (λ (known : Option (List ℕ)). GivesAt known next.place text) (sym stays.2) there })

  some_records : 0 < length entries → 0 < length records
  some_records some = subst (λ (l : List Ranked). 0 < length l) led (omega (arith, some, length-map entries (led_to all)))

  -- The result of the second pass is that of the sort.
  pub sorts_written : (failed : Bool) (out out_now : Option (List ℕ)) (sorted : Sorted) → EndsWriting (f.Is opening) again (f.lead opening) entries out out_now failed sorted → Sorts f capture again out out_now failed sorted
  sorts_written failed out out_now Whole w = up_to out out_now [] [] w
  sorts_written failed out out_now Memory x = (
    record { opening = opening; records = records; rest = left; begins = begins; some = some_records x.0 },
    elim x.1 [
      | inl still ↦ inl still
      | inr w ↦ inr (led_to all w.0, map (led_to all) w.1, up_to out out_now (w.0 ∷ w.1) [] w.2)
    ],
  )
  sorts_written failed out out_now (Unread e) x = (x.0, (led_to all x.1, map (led_to all) x.2, up_to out out_now (x.1 ∷ x.2) [] x.3))
  sorts_written failed out out_now Changed x = (
    λ stays. x.2 (has_copy x.0 (all_middle (LeadsTo (f.Is opening) all) x.3.front x.0 x.1 (leads_sorted out out_now (x.0 ∷ x.1) [] x.3)) stays),
    (led_to all x.0, map (led_to all) x.1, up_to out out_now (x.0 ∷ x.1) [] x.3),
  )
  sorts_written failed out out_now (Unwritten e) x = (x.0, map (led_to all) x.1, x.2, x.3, up_to out out_now x.1 x.2 x.4)
  sorts_written failed out out_now _ x = absurd x

module _ (f : Sortable) (opening : f.Opening) (capture : Option (List ℕ)) (failed : Bool) (new : Entries) where
  pub sorts_most : PassesOnce f opening capture failed new ends.AtMost → IsTooLong f capture
  sorts_most pass = record { opening = opening; records = pass.records; rest = pass.rest; begins = pass.begins; many = pass.ends }

  -- An entry was not kept.
  pub sorts_unkept : (stop : Unkept) → PassesOnce f opening capture failed new (ends.Stopped stop) → (again out : Option (List ℕ)) (again_failed : Bool) → Sorts f capture again out out again_failed (sorted_by stop)
  sorts_unkept unkept.TooLong pass again out again_failed = (record { opening = opening; records = pass.records; rest = pass.rest; begins = pass.begins; many = pass.ends }, Keeps-refl out)
  sorts_unkept unkept.Memory pass again out again_failed = (record { opening = opening; records = pass.records; rest = pass.rest; begins = pass.begins; some = pass.ends }, inl (Keeps-refl out))

  pub sorts_refused : (e : PcapError) → PassesOnce f opening capture failed new (ends.Refused e) → RefusesRest f capture (record { byte = new.place; error = e; read_failed = failed })
  sorts_refused e pass = record { opening = opening; records = pass.records; rest = pass.rest; begins = pass.begins; cause = pass.ends.0; byte = pass.ends.1 }

  -- The second pass ends the sort after a first pass to the end.
  pub sorts_end : IsSortable f → PassesOnce f opening capture failed new ends.AtEnd → (again : Option (List ℕ)) (again_failed : Bool) (out out_now : Option (List ℕ)) (sorted : Sorted)
      → EndsWriting (f.Is opening) again (f.lead opening) new.list.items out out_now again_failed sorted → Sorts f capture again out out_now again_failed sorted
  sorts_end laws pass again again_failed out out_now sorted written =
      sorts_written f laws opening pass.records capture again pass.rest pass.begins pass.ends.0 new.list.items pass.ends.1 again_failed out out_now sorted written

-- A sort of which an entry was not kept did not write all.
pub unkept_part : (stop : Unkept) → sorted_by stop ≡ Whole → ⊥
unkept_part unkept.TooLong is = absurd cc
unkept_part unkept.Memory is = absurd cc

-- ---- classic captures

pub packets_sortable : IsSortable packet_captures
packets_sortable = record { took = λ opening records capture rest begins. begins.took; each = λ opening records capture rest begins. begins.each }

module _ (opening : Opening) (header : PcapHeader) (same : header ≡ header_of opening) (capture mid : Option (List ℕ)) (text : HeaderText (header_of opening) (bytes_of opening) [])
    (took : Consumes capture mid (bytes_of opening)) (failed : Bool) (place : ℕ) (placed : place ≡ length (bytes_of opening)) (new : Entries) where
  -- The capture begins with what the first pass read.
  begins_read : (ended : Ended Unkept) → (read : ReadsEntries header mid failed place new ended) → BeginsWith opening read.records capture read.left
  begins_read ended read = record {
    header = text;
    each = subst (λ (h : PcapHeader). All (IsTimed h) read.records) same read.each;
    took = Consumes-trans capture mid read.left (bytes_of opening) (texts_of read.records) took read.took;
  }

  whole_length : (records : List Ranked) → length (bytes_of opening ++ texts_of records) ≡ place + length (texts_of records)
  whole_length records = length-append (bytes_of opening) (texts_of records) ∙ ap (λ (n : ℕ). n + length (texts_of records)) (sym placed)

  too_long : (records : List Ranked) → 2 ^ 64 ≤ place + length (texts_of records) → 2 ^ 64 ≤ length (bytes_of opening ++ texts_of records)
  too_long records long = omega (arith, long, whole_length records)

  ends_pass : (records : List Ranked) (left : Option (List ℕ)) (ended : Ended Unkept) → EndsReading header records left failed place new ended → EndsPass packet_captures opening records left failed new ended
  ends_pass records left ends.AtEnd x = (x.0, x.1 ∙ ap (λ (n : ℕ). entries_of n records) placed)
  ends_pass records left ends.AtMost x = too_long records x
  ends_pass records left (ends.Refused e) x = (subst (λ (h : PcapHeader). HasCause (PacketIsSaid h) left failed e) same x.0, x.1 ∙ sym (whole_length records))
  ends_pass records left (ends.Stopped unkept.Memory) x = x
  ends_pass records left (ends.Stopped unkept.TooLong) x = too_long records x

  -- What the first pass read behind the opening, it read of the capture.
  pub packets_passed : (ended : Ended Unkept) → ReadsEntries header mid failed place new ended → PassesOnce packet_captures opening capture failed new ended
  packets_passed ended read = record { records = read.records; rest = read.left; begins = begins_read ended read; ends = ends_pass read.records read.left ended read.ends }
