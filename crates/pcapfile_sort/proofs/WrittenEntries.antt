-- The output of the second pass.
use Rattle.std.proofs.Common.{◌≡◌, ◌<◌, ℕ, List, [], ◌∷◌, ◌++◌, length, Bool, Option, Err, inr, refl, sym, ap, ◌∙◌, subst, arith, append_assoc, append-nil, length-append}
use Rattle.std.specs.Io.KnownBytes.{Appends}
use Rattle.std.proofs.KnownBytes.{Appends-kept, Appends-trans}
use Rattle.std.proofs.lemmas.List.Sorted.{length_permutation}
use Rattle.pcap_core.specs.declared.errors.PcapError.{PcapError}
use Rattle.pcap_items.specs.Writing.{Writes, WritesAll}
use Rattle.pcap_items.proofs.Copying.{torn_write}
use Rattle.pcapfile_sort.specs.declared.entry.Entry.{Entry}
use Rattle.pcapfile_sort.specs.declared.sorting.Sorted.{Sorted}
use Rattle.pcapfile_sort.specs.declared.sorting.Sorted.TheVariants.{Memory, Unread, Changed, Unwritten}
use Rattle.pcapfile_sort.specs.Copying.{AreCopies, EndsWriting, IsCopy, StopsCopying, WritesEntries}
use Rattle.pcapfile_sort.specs.Entries.{AreInOrder}
use Rattle.pcapfile_sort.specs.Ranked.{Ranked, texts_of}
use Rattle.pcapfile_sort.proofs.CopiedRecords.{copied_none, copied_push}
use Rattle.pcapfile_sort.proofs.PacketRecords.{texts_push}

module _ (Is : Ranked → Type 0) (again : Option (List ℕ)) (lead : List ℕ) (entries sorted : List Entry) (order : AreInOrder entries sorted) where
  in_order_of : (all : List Entry) → sorted ≡ all → AreInOrder entries all
  in_order_of all split = subst (λ (l : List Entry). AreInOrder entries l) split order

  -- The bytes before the first record and some copies were written.
  writes_up_to : (out mid now : Option (List ℕ)) (front rest : List Entry) (copies : List Ranked) → sorted ≡ front ++ rest → AreCopies Is again front copies → Appends out mid lead → Appends mid now (texts_of copies)
      → WritesEntries Is again lead entries out now rest []
  writes_up_to out mid now front rest copies split copied opened went = record {
    front = front;
    in_order = in_order_of (front ++ rest) split;
    copies = copies;
    copied = copied;
    went = record { gone = lead ++ texts_of copies; split = sym (append-nil (lead ++ texts_of copies)); out = Appends-trans out mid now lead (texts_of copies) opened went };
  }

  -- All was written.
  pub writes_whole : (failed : Bool) (out mid now : Option (List ℕ)) (copies : List Ranked) → AreCopies Is again sorted copies → Appends out mid lead → Appends mid now (texts_of copies) → WritesEntries Is again lead entries out now [] []
  writes_whole failed out mid now copies copied opened went = writes_up_to out mid now sorted [] copies (sym (append-nil sorted)) copied opened went

  -- A write failed in the bytes before the first record.
  pub tears_lead : (failed : Bool) (out now : Option (List ℕ)) (e : PcapError) → WritesAll out now lead (Err e) → EndsWriting Is again lead entries out now failed (Unwritten e)
  tears_lead failed out now e torn =
      let part = torn_write lead out now e torn in
      let w = part.1.2 in
      let no : List Ranked = [] in (
        part.0,
        sorted,
        part.1.0,
        part.1.1,
        record {
          front = [];
          in_order = order;
          copies = no;
          copied = copied_none Is again [] refl;
          went = record { gone = w.gone; split = append-nil lead ∙ w.split; out = w.out };
        },
      )

  -- A write failed in a copy.
  tears_copy : (out mid before now : Option (List ℕ)) (front : List Entry) (next : Entry) (rest : List Entry) (copies : List Ranked) (copy : Ranked) (left : List ℕ) → sorted ≡ front ++ next ∷ rest → AreCopies Is again front copies
      → IsCopy Is again next copy → Appends out mid lead → Appends mid before (texts_of copies) → Writes copy.text left before now → WritesEntries Is again lead entries out now rest left
  tears_copy out mid before now front next rest copies copy left split copied one opened went torn =
      let bytes = lead in
      let texts = texts_of copies in
      let so_far = Appends-trans out mid before bytes texts opened went in
      record {
        front = front ++ next ∷ [];
        in_order = in_order_of ((front ++ next ∷ []) ++ rest) (split ∙ sym (append_assoc front (next ∷ []) rest));
        copies = copies ++ copy ∷ [];
        copied = copied_push Is again front next copies copy copied one;
        went = record {
          gone = (bytes ++ texts) ++ torn.gone;
          split = ap (λ (t : List ℕ). bytes ++ t) (texts_push copies copy ∙ ap (λ (t : List ℕ). texts ++ t) torn.split) ∙ sym (append_assoc bytes texts (torn.gone ++ left)) ∙ sym (append_assoc (bytes ++ texts) torn.gone left);
          out = Appends-trans out before now (bytes ++ texts) torn.gone so_far torn.out;
        };
      }

  some_entries : (front : List Entry) (next : Entry) (rest : List Entry) → sorted ≡ front ++ next ∷ rest → 0 < length entries
  some_entries front next rest split = omega (arith, length_permutation entries sorted order.same, ap length split, length-append front (next ∷ rest))

  -- The second pass stopped at an entry.
  pub ends_stopped : (failed : Bool) (out mid now : Option (List ℕ)) (stop : Sorted) → Appends out mid lead → StopsCopying Is again sorted failed mid now stop → EndsWriting Is again lead entries out now failed stop
  ends_stopped failed out mid now Memory opened s =
      (some_entries s.front s.next s.rest s.split, inr (s.next, s.rest, writes_up_to out mid now s.front (s.next ∷ s.rest) s.copies s.split s.copied opened (Appends-kept mid s.mid now (texts_of s.copies) s.went s.stops)))
  ends_stopped failed out mid now (Unread e) opened s =
      (s.stops.0, s.next, s.rest, writes_up_to out mid now s.front (s.next ∷ s.rest) s.copies s.split s.copied opened (Appends-kept mid s.mid now (texts_of s.copies) s.went s.stops.1))
  ends_stopped failed out mid now Changed opened s =
      (s.next, s.rest, s.stops.0, writes_up_to out mid now s.front (s.next ∷ s.rest) s.copies s.split s.copied opened (Appends-kept mid s.mid now (texts_of s.copies) s.went s.stops.1))
  ends_stopped failed out mid now (Unwritten e) opened s =
      let torn = s.stops.3 in
      (s.stops.0, s.rest, torn.0, torn.1, tears_copy out mid s.mid now s.front s.next s.rest s.copies s.stops.1 torn.0 s.split s.copied s.stops.2 opened s.went torn.2)
  ends_stopped failed out mid now _ opened s = absurd s.stops
