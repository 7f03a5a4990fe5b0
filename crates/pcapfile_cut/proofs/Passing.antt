-- Lemmas on the packets that a cut reads, one after another.
use Rattle.std.proofs.Common.{◌≡◌, Err, Ok, ◌+◌, ℕ, List, [], ◌∷◌, ◌++◌, length, Bool, true, false, Option, refl, sym, ap, ◌∙◌, subst, arith, append-nil, length-append, inl, inr}
use Rattle.std.specs.Prelude.{◌&&◌, filter, if◌then◌else◌}
use Rattle.std.specs.Io.KnownBytes.{Appends, Consumes}
use Rattle.std.proofs.KnownBytes.{Appends-nil, Appends-trans, Consumes-nil, Consumes-trans, Keeps-refl}
use Rattle.std.proofs.lemmas.Grind.{flat_map-append}
use Rattle.std.proofs.lemmas.List.Elements.{All-nil, All-push, filter-append}
use Rattle.pcap_classic.specs.declared.pcap.header.PcapHeader.{PcapHeader}
use Rattle.pcapfile_cut.specs.declared.cutting.Outcome.{Outcome}
use Rattle.pcapfile_cut.specs.declared.wanted.Wanted.{Wanted}
use Rattle.pcap_core.specs.declared.errors.PcapError.{PcapError}
use Rattle.pcap_core.specs.Errors.{IsMemory}
use Rattle.pcap_items.specs.Reading.{no_memory}
use Rattle.pcap_items.proofs.Pulling.{nothing_asked}
use Rattle.pcapfile_cut.specs.Changes.{is_unmoved, written, written_for}
use Rattle.pcapfile_cut.specs.Choice.{Stored, WantsMore, chosen, is_new, left_out, remembers, repeats, text_of}
use Rattle.pcapfile_cut.specs.Cuts.{CutsBehind, IsNew, IsStored, PacketIsSaid, Passes, PassesOne, Progress, SameCounts, StepsCut, counted, outcome_of, unmoved}
use Rattle.pcapfile_cut.proofs.Chosen.{chosen_none, chosen_push, left_out_none, left_out_push, one_if, recent_of, recent_push}

counted_more : (b c m n : ℕ) → b ≡ counted m → c ≡ counted (b + n) → c ≡ counted (m + n)
counted_more b c m n first second = omega arith

text_if : (header : PcapHeader) (wanted : Wanted) (b : Bool) (x : Stored) → written header wanted (one_if b x) ≡ (if b then written_for header wanted x else [])
text_if header wanted true x = append-nil (written_for header wanted x)
text_if header wanted false x = refl

-- The bytes of one more packet.
text_push : (xs : List Stored) (x : Stored) → text_of (xs ++ x ∷ []) ≡ text_of xs ++ x.text
text_push xs x = flat_map-append (λ (stored : Stored). stored.text) xs (x ∷ []) ∙ ap (λ (t : List ℕ). text_of xs ++ t) (append-nil x.text)

-- What is written for one more packet, if it is wanted and no duplicate.
written_push : (header : PcapHeader) (wanted : Wanted) (xs : List Stored) (x : Stored)
    → written header wanted (chosen wanted (xs ++ x ∷ []))
    ≡ written header wanted (chosen wanted xs) ++ (if is_new wanted (recent_of wanted xs) (length xs + 1) x.packet then written_for header wanted x else [])
written_push header wanted xs x =
    let b = is_new wanted (recent_of wanted xs) (length xs + 1) x.packet in
    ap (written header wanted) (chosen_push wanted xs x) ∙ flat_map-append (λ (stored : Stored). written_for header wanted stored) (chosen wanted xs) (one_if b x)
    ∙ ap (λ (t : List ℕ). written header wanted (chosen wanted xs) ++ t) (text_if header wanted b x)

-- The ones of these packets that keep their time because they cannot have the one that is asked for.
abbrev still : PcapHeader → Wanted → List Stored → List Stored
still header wanted packets = filter (λ (stored : Stored). is_unmoved header wanted stored.packet) packets

still_if : (header : PcapHeader) (wanted : Wanted) (is_written : Bool) (x : Stored) (keeps : Bool) → is_unmoved header wanted x.packet ≡ keeps
    → length (still header wanted (one_if is_written x)) ≡ (if is_written && keeps then 1 else 0)
still_if header wanted false x keeps is = refl
still_if header wanted true x true is = rw is refl
still_if header wanted true x false is = rw is refl

-- The packets that keep their time, if there is one more packet.
unmoved_push : (header : PcapHeader) (wanted : Wanted) (xs : List Stored) (x : Stored)
    → length (unmoved header wanted (xs ++ x ∷ []))
    ≡ length (unmoved header wanted xs) + (if is_new wanted (recent_of wanted xs) (length xs + 1) x.packet && is_unmoved header wanted x.packet then 1 else 0)
unmoved_push header wanted xs x =
    let is_written = is_new wanted (recent_of wanted xs) (length xs + 1) x.packet in
    let one = one_if is_written x in
    ap (λ (all : List Stored). length (still header wanted all)) (chosen_push wanted xs x)
    ∙ ap (λ (all : List Stored). length all) (filter-append (λ (stored : Stored). is_unmoved header wanted stored.packet) (chosen wanted xs) one)
    ∙ length-append (still header wanted (chosen wanted xs)) (still header wanted one)
    ∙ ap (λ (n : ℕ). length (unmoved header wanted xs) + n) (still_if header wanted is_written x (is_unmoved header wanted x.packet) refl)

module _ (header : PcapHeader) (wanted : Wanted) where
  -- The cut has read no packets yet.
  pub passes_none : (before out : Option (List ℕ)) (outcome : Outcome) → outcome.packets ≡ 0 → outcome.bytes ≡ 0 → outcome.duplicates ≡ 0 → outcome.unmoved ≡ 0
      → Passes header wanted [] before before out out outcome
  passes_none before out outcome none no_bytes no_duplicates no_unmoved = record {
    each = All-nil (IsStored header);
    took = Consumes-nil before;
    went = subst (λ (xs : List Stored). Appends out out (written header wanted xs)) (sym (chosen_none wanted)) (Appends-nil out);
    count = none;
    bytes = omega (arith, no_bytes);
    duplicates = omega (arith, no_duplicates, ap (λ (xs : List Stored). length xs) (left_out_none wanted));
    unmoved = omega (arith, no_unmoved, ap (λ (xs : List Stored). length (still header wanted xs)) (chosen_none wanted));
    needed = inl refl;
  }

  -- No packet is wanted.
  pub ends_at_once : (before out : Option (List ℕ)) (outcome : Outcome) → IsNew outcome → (WantsMore wanted outcome.packets outcome.bytes → ⊥)
      → CutsBehind header wanted before before out out (outcome_of outcome (Ok tt))
  ends_at_once before out outcome new enough = record {
    packets = [];
    left = before;
    mid = out;
    passes = passes_none before out (outcome_of outcome (Ok tt)) new.packets new.bytes new.duplicates new.unmoved;
    ends = inl (record {
      fine = refl;
      no_read_failed = new.no_read_failed;
      no_write_failed = new.no_write_failed;
      taken = Keeps-refl before;
      went = Keeps-refl out;
      why = inr enough;
    });
  }

  -- There is no memory before the first packet.
  pub lacks_memory : (before out : Option (List ℕ)) (outcome : Outcome) (e : PcapError) → IsNew outcome → WantsMore wanted outcome.packets outcome.bytes → IsMemory e
      → CutsBehind header wanted before before out out (outcome_of outcome (Err e))
  lacks_memory before out outcome e new wants is = record {
    packets = [];
    left = before;
    mid = out;
    passes = passes_none before out (outcome_of outcome (Err e)) new.packets new.bytes new.duplicates new.unmoved;
    ends = inr (
      wants,
      inr (record {
        refused = no_memory is new.no_read_failed;
        part = nothing_asked (PacketIsSaid header) before;
        no_write_failed = new.no_write_failed;
        went = Keeps-refl out;
      }),
    );
  }

  -- The cut reads one more packet.
  pub passes_more : (xs : List Stored) (before out : Option (List ℕ)) (old new : Progress) → old.recent ≡ recent_of wanted xs → Passes header wanted xs before old.input out old.output old.outcome
      → WantsMore wanted old.outcome.packets old.outcome.bytes → (one : PassesOne header wanted old new) → Passes header wanted (xs ++ one.stored ∷ []) before new.input out new.output new.outcome
  passes_more xs before out old new recent so_far wants one =
      let x = one.stored in
      let mid = old.output in
      let now = new.output in
      let same : (f : List (List ℕ) → ℕ → Type 0) → f old.recent old.outcome.packets → f (recent_of wanted xs) (length xs) = λ f it. subst (f (recent_of wanted xs)) so_far.count (subst (λ (digests : List (List ℕ)). f digests old.outcome.packets) recent it) in
      let went : Appends mid now (if is_new wanted (recent_of wanted xs) (length xs + 1) x.packet then written_for header wanted x else []) =
      same (λ (digests : List (List ℕ)) (n : ℕ). Appends mid now (if is_new wanted digests (n + 1) x.packet then written_for header wanted x else [])) one.went in
      let duplicates : new.outcome.duplicates ≡ counted (old.outcome.duplicates + (if repeats wanted (recent_of wanted xs) (length xs + 1) x.packet then 1 else 0)) =
      same (λ (digests : List (List ℕ)) (n : ℕ). new.outcome.duplicates ≡ counted (old.outcome.duplicates + (if repeats wanted digests (n + 1) x.packet then 1 else 0))) one.duplicates in
      let counts_unmoved : new.outcome.unmoved
      ≡ counted (old.outcome.unmoved + (if is_new wanted (recent_of wanted xs) (length xs + 1) x.packet && is_unmoved header wanted x.packet then 1 else 0)) =
      same (λ (digests : List (List ℕ)) (n : ℕ).
      new.outcome.unmoved ≡ counted (old.outcome.unmoved + (if is_new wanted digests (n + 1) x.packet && is_unmoved header wanted x.packet then 1 else 0))) one.unmoved in
      let all_went = Appends-trans out mid now (written header wanted (chosen wanted xs))
      (if is_new wanted (recent_of wanted xs) (length xs + 1) x.packet then written_for header wanted x else []) so_far.went went in
      let all_took = Consumes-trans before old.input new.input (text_of xs) x.text so_far.took one.took in
      let last : WantsMore wanted (length xs) (counted (length (text_of xs))) =
      subst (λ (k : ℕ). WantsMore wanted (length xs) k) so_far.bytes (subst (λ (n : ℕ). WantsMore wanted n old.outcome.bytes) so_far.count wants) in
      record {
        each = All-push (IsStored header) xs x so_far.each one.is_stored;
        took = subst (λ (t : List ℕ). Consumes before new.input t) (sym (text_push xs x)) all_took;
        went = subst (λ (t : List ℕ). Appends out now t) (sym (written_push header wanted xs x)) all_went;
        count = omega (arith, length-append xs (x ∷ []), so_far.count, one.packets);
        bytes = counted_more old.outcome.bytes new.outcome.bytes (length (text_of xs)) (length x.text) so_far.bytes one.bytes ∙ ap counted (sym (ap length (text_push xs x) ∙ length-append (text_of xs) x.text));
        duplicates = counted_more old.outcome.duplicates new.outcome.duplicates (length (left_out wanted xs))
            (if repeats wanted (recent_of wanted xs) (length xs + 1) x.packet then 1 else 0) so_far.duplicates duplicates ∙ ap counted (sym (left_out_push wanted xs x));
        unmoved = counted_more old.outcome.unmoved new.outcome.unmoved (length (unmoved header wanted xs))
            (if is_new wanted (recent_of wanted xs) (length xs + 1) x.packet && is_unmoved header wanted x.packet then 1 else 0) so_far.unmoved counts_unmoved
            ∙ ap counted (sym (unmoved_push header wanted xs x));
        needed = inr (xs, x, refl, last);
      }

  -- The digests that are remembered after one more packet.
  pub recent_more : (xs : List Stored) (old new : Progress) → old.recent ≡ recent_of wanted xs → old.outcome.packets ≡ length xs → (one : PassesOne header wanted old new)
      → new.recent ≡ recent_of wanted (xs ++ one.stored ∷ [])
  recent_more xs old new recent count one =
      let packet = one.stored.packet in
      one.recent
      ∙ ap (λ (digests : List (List ℕ)). remembers wanted digests (old.outcome.packets + 1) packet) recent
      ∙ ap (λ (n : ℕ). remembers wanted (recent_of wanted xs) (n + 1) packet) count
      ∙ sym (recent_push wanted xs one.stored)

  -- The packet in which a write failed is wanted, and no duplicate.
  pub torn_wanted : (xs : List Stored) (digests : List (List ℕ)) (n : ℕ) (x : Stored) → digests ≡ recent_of wanted xs → n ≡ length xs → is_new wanted digests (n + 1) x.packet ≡ true
      → chosen wanted (xs ++ x ∷ []) ≡ chosen wanted xs ++ x ∷ []
  torn_wanted xs digests n x recent count is =
      let here : is_new wanted (recent_of wanted xs) (length xs + 1) x.packet ≡ true =
      subst (λ (k : ℕ). is_new wanted (recent_of wanted xs) (k + 1) x.packet ≡ true) count (subst (λ (ds : List (List ℕ)). is_new wanted ds (n + 1) x.packet ≡ true) recent is) in
      chosen_push wanted xs x ∙ ap (λ (b : Bool). chosen wanted xs ++ one_if b x) here

  passes_same : (xs : List Stored) (before left out mid : Option (List ℕ)) (old new : Outcome) → SameCounts old new
      → Passes header wanted xs before left out mid old → Passes header wanted xs before left out mid new
  passes_same xs before left out mid old new same so_far = record {
    each = so_far.each;
    took = so_far.took;
    went = so_far.went;
    count = same.0 ∙ so_far.count;
    bytes = same.1 ∙ so_far.bytes;
    duplicates = same.2 ∙ so_far.duplicates;
    unmoved = same.3 ∙ so_far.unmoved;
    needed = so_far.needed;
  }

  wants_same : (p q a b : ℕ) → q ≡ p → b ≡ a → WantsMore wanted p a → WantsMore wanted q b
  wants_same p q a b packets bytes wants = subst (λ (k : ℕ). WantsMore wanted q k) (sym bytes) (subst (λ (n : ℕ). WantsMore wanted n a) (sym packets) wants)

  -- The next packet is truncated or malformed, or a write failed in it.
  pub ends_refused : (xs : List Stored) (before out : Option (List ℕ)) (old new : Progress) (e : PcapError) → old.recent ≡ recent_of wanted xs
      → Passes header wanted xs before old.input out old.output old.outcome → WantsMore wanted old.outcome.packets old.outcome.bytes → StepsCut header wanted old new (Err e)
      → CutsBehind header wanted before new.input out new.output (outcome_of new.outcome (Err e))
  ends_refused xs before out old new e recent so_far wants found = record {
    packets = xs;
    left = old.input;
    mid = old.output;
    passes = passes_same xs before old.input out old.output old.outcome (outcome_of new.outcome (Err e)) found.0 so_far;
    ends = inr (
      wants_same old.outcome.packets new.outcome.packets old.outcome.bytes new.outcome.bytes found.0.0 found.0.1 wants,
      elim found.1 [
        | inl tear ↦ inl (record {
          torn = tear.stored;
          is_stored = tear.is_stored;
          took = tear.took;
          is_wanted = torn_wanted xs old.recent old.outcome.packets tear.stored recent so_far.count tear.is_wanted;
          refused = tear.refused;
          no_read_failed = tear.no_read_failed;
          write_failed = tear.write_failed;
          went = tear.went;
        })
        | inr refuses ↦ inr (record {
          refused = refuses.refused;
          part = refuses.part;
          no_write_failed = refuses.no_write_failed;
          went = refuses.went;
        })
      ],
    );
  }
