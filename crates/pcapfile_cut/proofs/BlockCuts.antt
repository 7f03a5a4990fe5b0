-- Lemmas on the blocks that a cut of a PcapNg capture reads and writes.
use Rattle.std.proofs.Common.{◌≡◌, ◌≤◌, ◌+◌, ◌-◌, ◌^◌, ◌++◌, ℕ, List, [], ◌∷◌, Bool, true, false, length, map, refl, sym, ap, ◌∙◌, subst, arith, append-nil, length-append, inl, inr}
use Rattle.std.specs.Prelude.{if◌then◌else◌, Option, filter}
use Rattle.std.specs.Io.KnownBytes.{Appends, Consumes}
use Rattle.std.proofs.KnownBytes.{Appends-nil, Appends-trans, Consumes-nil, Consumes-trans}
use Rattle.std.proofs.lemmas.List.{append_assoc, map-append}
use Rattle.std.proofs.lemmas.List.Elements.{filter-append}
use Rattle.pcap_core.specs.Answer.{whole}
use Rattle.pcap_ng.specs.Blocks.{block_format}
use Rattle.pcap_file.specs.Placing.{TakesNext}
use Rattle.pcap_ng.specs.State.{State}
use Rattle.pcapfile_cut.specs.declared.cutting.Outcome.{Outcome}
use Rattle.pcapfile_cut.specs.declared.wanted.Wanted.{Wanted}
use Rattle.pcapfile_cut.specs.BlockCuts.{Between, Follow, LastIsNeeded, Lent, Place, PutsBlock, PutsBlocks, Reads, bytes_in, has_packet, is_enough, packets_in, typed}
use Rattle.pcapfile_cut.specs.Cuts.{counted}
use Rattle.pcapfile_cut.specs.Repeating.{opening_after, opening_behind}
use Rattle.pcapfile_cut.proofs.Repeating.{behind_more}

-- The next block was read, and is pending.
pub lends_read : (a b : Place) (block : Lent) → TakesNext a.source b.source block.item → block_format.says a.source.state block.text (whole block.item [])
    → Consumes a.source.left b.source.left block.text → b.opening ≡ opening_after a.opening (typed block) → a.pending ≡ [] → b.pending ≡ block ∷ [] → Between a b []
lends_read a b block next says took opening none pending = record {
  read = block ∷ [];
  reads = record {
    follow = (says, sym next.leads);
    took = subst (λ (t : List ℕ). Consumes a.source.left b.source.left t) (sym (append-nil block.text)) took;
    opening = opening;
    goes_on = next.goes_on ∙ sym next.went_on;
  };
  all = ap (λ (l : List Lent). l ++ block ∷ []) none ∙ sym pending;
}

-- What was pending is in a part, and after no position any more.
pub put_pending : (a b : Place) (block : Lent) → Between a b [] → b.pending ≡ block ∷ [] → Between a (record { source = b.source; opening = b.opening; pending = [] }) (block ∷ [])
put_pending a b block between pending = record {
  read = between.read;
  reads = record { follow = between.reads.follow; took = between.reads.took; opening = between.reads.opening; goes_on = between.reads.goes_on };
  all = between.all ∙ pending;
}

follow_more : (q m n : State) (xs ys : List Lent) → Follow q xs m → Follow m ys n → Follow q (xs ++ ys) n
follow_more q m n [] ys same more = subst (λ (s : State). Follow s ys n) same more
follow_more q m n (x ∷ xs) ys first more = (first.0, follow_more x.item.after m n xs ys first.1 more)

pub bytes_more : (xs ys : List Lent) → bytes_in (xs ++ ys) ≡ bytes_in xs ++ bytes_in ys
bytes_more [] ys = refl
bytes_more (x ∷ xs) ys = ap (λ (l : List ℕ). x.text ++ l) (bytes_more xs ys) ∙ sym (append_assoc x.text (bytes_in xs) (bytes_in ys))

pub packets_more : (xs ys : List Lent) → packets_in (xs ++ ys) ≡ packets_in xs + packets_in ys
packets_more xs ys = ap (λ (l : List Lent). length l) (filter-append has_packet xs ys) ∙ length-append (filter has_packet xs) (filter has_packet ys)

reads_more : (a m b : Place) (xs ys : List Lent) → Reads a m xs → Reads m b ys → Reads a b (xs ++ ys)
reads_more a m b xs ys first more = record {
  follow = follow_more a.source.state m.source.state b.source.state xs ys first.follow more.follow;
  took = subst (λ (t : List ℕ). Consumes a.source.left b.source.left t) (sym (bytes_more xs ys))
      (Consumes-trans a.source.left m.source.left b.source.left (bytes_in xs) (bytes_in ys) first.took more.took);
  opening = more.opening ∙ ap (λ (o : List ℕ). opening_behind o (map typed ys)) first.opening
      ∙ sym (behind_more a.opening (map typed xs) (map typed ys)) ∙ ap (opening_behind a.opening) (sym (map-append typed xs ys));
  goes_on = more.goes_on ∙ first.goes_on;
}

joined : (p r s xs m ys q : List Lent) → p ++ r ≡ xs ++ m → m ++ s ≡ ys ++ q → p ++ (r ++ s) ≡ (xs ++ ys) ++ q
joined p r s xs m ys q first more =
    sym (append_assoc p r s) ∙ ap (λ (l : List Lent). l ++ s) first ∙ append_assoc xs m s ∙ ap (λ (l : List Lent). xs ++ l) more ∙ sym (append_assoc xs ys q)

-- Blocks after blocks.
pub between_more : (a m b : Place) (xs ys : List Lent) → Between a m xs → Between m b ys → Between a b (xs ++ ys)
between_more a m b xs ys first more = record {
  read = first.read ++ more.read;
  reads = reads_more a m b first.read more.read first.reads more.reads;
  all = joined a.pending first.read more.read xs m.pending ys b.pending first.all more.all;
}

pub between_none : (a : Place) → Between a a []
between_none a = record {
  read = [];
  reads = record { follow = refl; took = Consumes-nil a.source.left; opening = refl; goes_on = refl };
  all = append-nil a.pending;
}

pub one_packet : (block : Lent) (with_packet : Bool) → with_packet ≡ has_packet block → packets_in (block ∷ []) ≡ (if with_packet then 1 else 0)
one_packet block true is = ap (λ (b : Bool). length (if b then block ∷ [] else [])) (sym is)
one_packet block false is = ap (λ (b : Bool). length (if b then block ∷ [] else [])) (sym is)

pub counted_more : (a b c m n k : ℕ) → b ≡ counted (a + m) → c ≡ counted (b + n) → k ≡ m + n → c ≡ counted (a + k)
counted_more a b c m n k first second sum = omega (arith, first, second, sum)

pub counted_same : (n : ℕ) → n ≤ 2 ^ 64 - 1 → n ≡ counted (n + 0)
counted_same n le = omega (arith, le)

needed_by : (wanted : Wanted) (packets bytes p b : ℕ) (xs : List Lent) (x : Lent) (with_packet : Bool) → with_packet ≡ has_packet x
    → LastIsNeeded wanted packets bytes xs → p ≡ counted (packets + packets_in xs) → b ≡ counted (bytes + length (bytes_in xs))
    → (has_packet x ≡ true → is_enough wanted p b ≡ false) → LastIsNeeded wanted packets bytes (xs ++ x ∷ [])
needed_by wanted packets bytes p b xs x true is so_far counts sizes one =
    let here : is_enough wanted (counted (packets + packets_in xs)) (counted (bytes + length (bytes_in xs))) ≡ false =
    subst (λ (n : ℕ). is_enough wanted n (counted (bytes + length (bytes_in xs))) ≡ false) counts (subst (λ (n : ℕ). is_enough wanted p n ≡ false) sizes (one (sym is))) in
    inr (xs, [], x, refl, refl, here)
needed_by wanted packets bytes p b xs x false is so_far counts sizes one =
    let none : packets_in (x ∷ []) ≡ 0 = one_packet x false is in
    elim so_far [
      | inl zero ↦ inl (omega (arith, packets_more xs (x ∷ []), zero, none))
      | inr found ↦ inr (
        found.0,
        found.1 ++ x ∷ [],
        found.2,
        ap (λ (l : List Lent). l ++ x ∷ []) found.3 ∙ append_assoc found.0 (found.2 ∷ found.1) (x ∷ []),
        omega (arith, packets_more found.1 (x ∷ []), found.4, none),
        found.5,
      )
    ]

-- No block was written yet.
pub puts_none : (wanted : Wanted) (a : Place) (out : Option (List ℕ)) (outcome : Outcome) → outcome.packets ≤ 2 ^ 64 - 1 → outcome.bytes ≤ 2 ^ 64 - 1
    → PutsBlocks wanted a a out out outcome outcome []
puts_none wanted a out outcome packets bytes = record {
  between = between_none a;
  went = Appends-nil out;
  packets = counted_same outcome.packets packets;
  bytes = counted_same outcome.bytes bytes;
  duplicates = refl;
  unmoved = refl;
  needed = inl refl;
  pending = inl (refl, refl);
}

-- One more block was written.
pub puts_more : (wanted : Wanted) (a m b : Place) (out mid out_now : Option (List ℕ)) (old new next : Outcome) (xs : List Lent)
    → PutsBlocks wanted a m out mid old new xs → (one : PutsBlock wanted m b mid out_now new next) → PutsBlocks wanted a b out out_now old next (xs ++ one.block ∷ [])
puts_more wanted a m b out mid out_now old new next xs so_far one =
    let x = one.block in
    let text : bytes_in (xs ++ x ∷ []) ≡ bytes_in xs ++ x.text = bytes_more xs (x ∷ []) ∙ ap (λ (l : List ℕ). bytes_in xs ++ l) (append-nil x.text) in
    record {
      between = between_more a m b xs (x ∷ []) so_far.between one.between;
      went = subst (λ (t : List ℕ). Appends out out_now t) (sym text) (Appends-trans out mid out_now (bytes_in xs) x.text so_far.went one.went);
      packets = counted_more old.packets new.packets next.packets (packets_in xs) (if has_packet x then 1 else 0) (packets_in (xs ++ x ∷ [])) so_far.packets one.counts.packets
          (packets_more xs (x ∷ []) ∙ ap (λ (n : ℕ). packets_in xs + n) (one_packet x (has_packet x) refl));
      bytes = counted_more old.bytes new.bytes next.bytes (length (bytes_in xs)) (length x.text) (length (bytes_in (xs ++ x ∷ []))) so_far.bytes one.counts.bytes
          (ap (λ (l : List ℕ). length l) text ∙ length-append (bytes_in xs) x.text);
      duplicates = one.counts.duplicates ∙ so_far.duplicates;
      unmoved = one.counts.unmoved ∙ so_far.unmoved;
      needed = needed_by wanted old.packets old.bytes new.packets new.bytes xs x (has_packet x) refl so_far.needed so_far.packets so_far.bytes one.needed;
      pending = inr one.pending;
    }
