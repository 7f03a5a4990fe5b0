-- Lemmas about bytes that arrive in pieces, for any format.
use Rattle.std.proofs.Common.{◌≡◌, ◌<◌, ◌≤◌, ◌+◌, ◌-◌, ℕ, List, [], ◌∷◌, ◌++◌, suc, length, take, drop, false, Result, Err, refl, sym, ap, subst, ◌∙◌, arith, append_assoc, append-nil, length-append, length-drop, inl, inr}
use Rattle.std.specs.Prelude.{⊤, All, replicate, ◌==◌}
use Rattle.std.specs.Borrow.{Bor}
use Rattle.std.proofs.lemmas.Bool.Decides.{nat_tests}
use Rattle.std.proofs.lemmas.Grind.{flat_map-append}
use Rattle.std.proofs.lemmas.List.{length-map, length-take-le, take-append-drop}
use Rattle.std.proofs.lemmas.List.Elements.{All-push}
use Rattle.std.proofs.Math.ListN.{get_or}
use Rattle.std.proofs.Math.Seq.{drop-append_seam, take-add, take-suc}
use Rattle.pcap_core.specs.declared.errors.PcapError.{PcapError}
use Rattle.pcap_core.specs.declared.errors.PcapError.TheVariants as errors
use Rattle.pcap_items.specs.declared.rest.Rest.{Rest}
use Rattle.pcap_items.specs.declared.rest.Rest.TheVariants.{Clean, Needs, Refused}
use Rattle.pcap_items.specs.declared.run.pieces.Progress.{Progress}
use Rattle.pcap_items.specs.declared.run.pieces.Progress.TheVariants.{Before, Within}
use Rattle.pcap_core.specs.Answer.{Verdict, whole, lacks, faulty, Made, Refuses, TellsWhere}
use Rattle.pcap_core.specs.Faults.{Invalid, Io, Utf8}
use Rattle.pcap_items.specs.Format.{Format, Front, IsLawful}
use Rattle.pcap_items.specs.Items.{LeadsBy}
use Rattle.pcap_core.specs.Laws.{IsStable}
use Rattle.pcap_items.specs.Pieces.{AfterEach, Came, HoldsItems, IsFed, IsOpening, Reaches, TakesFront, joined_pieces}
use Rattle.pcap_items.specs.Waiting.{IsAsked, IsWaiting, error_with, progress_shown, progress_with, rest_with}
use Rattle.pcap_items.proofs.Formats.{lacks_no_text, texts_more}
use Rattle.pcap_items.proofs.Fronts.{said_not_refused}
use Rattle.pcap_items.proofs.Items.{leads_more, leads_none, leads_shorter}
use Rattle.pcap_core.proofs.Refusals.{shows_more}
use Rattle.pcap_items.proofs.Requested.{texts_long}
use Rattle.pcap_items.proofs.Showing.{rest_no_text}
use Rattle.pcap_core.proofs.Verdicts.{one_made}

-- ---- one number for each piece

-- more pieces
pub after_each_join : (Holds : List ℕ → ℕ → Type 0) (before : List ℕ) (pieces more : List (Bor (List ℕ))) (ns ms : List ℕ) → AfterEach Holds before pieces ns
    → AfterEach Holds (before ++ joined_pieces pieces) more ms → AfterEach Holds before (pieces ++ more) (ns ++ ms)
after_each_join Holds before [] more [] ms each further = subst (λ (s : List ℕ). AfterEach Holds s more ms) (append-nil before) further
after_each_join Holds before [] more (n ∷ ns) ms each further = absurd each
after_each_join Holds before (p ∷ pieces) more [] ms each further = absurd each
after_each_join Holds before (p ∷ pieces) more (n ∷ ns) ms each further =
    (each.0, after_each_join Holds (before ++ p.now) pieces more ns ms each.1 (subst (λ (s : List ℕ). AfterEach Holds s more ms) (sym (append_assoc before p.now (joined_pieces pieces))) further))

-- pieces with the same number, which is right for each beginning of their bytes
pub after_each_same : (Holds : List ℕ → ℕ → Type 0) (before : List ℕ) (pieces : List (Bor (List ℕ))) (n : ℕ) → ((s t : List ℕ) → joined_pieces pieces ≡ s ++ t → Holds (before ++ s) n)
    → AfterEach Holds before pieces (replicate (length pieces) n)
after_each_same Holds before [] n holds = tt
after_each_same Holds before (p ∷ pieces) n holds = (
  holds p.now (joined_pieces pieces) refl,
  after_each_same Holds (before ++ p.now) pieces n
      (λ s t e. subst (λ (l : List ℕ). Holds l n) (sym (append_assoc before p.now s)) (holds (p.now ++ s) t (ap (λ (l : List ℕ). p.now ++ l) e ∙ sym (append_assoc p.now s t)))),
)

-- what follows from a claim that holds, holds too
pub after_each_more : (P Q : List ℕ → ℕ → Type 0) → ((s : List ℕ) (n : ℕ) → P s n → Q s n) → (before : List ℕ) (pieces : List (Bor (List ℕ))) (ns : List ℕ) → AfterEach P before pieces ns → AfterEach Q before pieces ns
after_each_more P Q step before [] [] each = each
after_each_more P Q step before [] (n ∷ ns) each = absurd each
after_each_more P Q step before (p ∷ pieces) [] each = absurd each
after_each_more P Q step before (p ∷ pieces) (n ∷ ns) each = (step (before ++ p.now) n each.0, after_each_more P Q step (before ++ p.now) pieces ns each.1)

-- pieces of one byte each have as many bytes as there are pieces
pub single_length : (pieces : List (Bor (List ℕ))) → All (λ piece. length piece.now ≡ 1) pieces → length (joined_pieces pieces) ≡ length pieces
single_length [] single = refl
single_length (p ∷ pieces) single =
    omega (arith, single 0 p (omega arith), single_length pieces (λ k d less. single (suc k) d (omega (arith, less))), length-append p.now (joined_pieces pieces))

-- this is also true if they are at the front of other pieces
pub single_front : (left : List (Bor (List ℕ))) (k : ℕ) → k ≤ length left → All (λ piece. length piece.now ≡ 1) (take k left) → length (joined_pieces (take k left)) ≡ k
single_front left k within single = single_length (take k left) single ∙ length-take-le k left within

-- one more of them
piece_more : (pieces : List (Bor (List ℕ))) (i : ℕ) (d : Bor (List ℕ)) → i < length pieces → take (i + 1) pieces ≡ take i pieces ++ get_or pieces i d ∷ []
piece_more pieces i d less = let next : i + 1 ≡ suc i = omega arith in ap (λ (n : ℕ). take n pieces) next ∙ take-suc pieces i d less

pub single_more : (pieces : List (Bor (List ℕ))) (i : ℕ) (d : Bor (List ℕ)) → i < length pieces → length (get_or pieces i d).now ≡ 1
    → All (λ piece. length piece.now ≡ 1) (take i pieces) → All (λ piece. length piece.now ≡ 1) (take (i + 1) pieces)
single_more pieces i d less one single =
    subst (λ (l : List (Bor (List ℕ))). All (λ piece. length piece.now ≡ 1) l) (sym (piece_more pieces i d less)) (All-push (λ (piece : Bor (List ℕ)). length piece.now ≡ 1) (take i pieces) (get_or pieces i d) single one)

one_byte : (s : List ℕ) → length s ≡ 1 → s ≡ get_or s 0 0 ∷ []
one_byte [] one = absurd (omega (arith, one))
one_byte (b ∷ []) one = refl
one_byte (b ∷ c ∷ s) one = absurd (omega (arith, one))

pub byte_more : (pieces : List (Bor (List ℕ))) (i : ℕ) (d : Bor (List ℕ)) → i < length pieces → length (get_or pieces i d).now ≡ 1
    → joined_pieces (take (i + 1) pieces) ≡ joined_pieces (take i pieces) ++ get_or (get_or pieces i d).now 0 0 ∷ []
byte_more pieces i d less one =
    let piece : Bor (List ℕ) = get_or pieces i d in
    let fed = take i pieces in
    ap joined_pieces (piece_more pieces i d less) ∙ flat_map-append (λ (x : Bor (List ℕ)). x.now) fed (piece ∷ []) ∙ ap (λ (l : List ℕ). joined_pieces fed ++ l) (append-nil piece.now ∙ one_byte piece.now one)

-- some pieces, the next one, and some after it
module _ (pieces : List (Bor (List ℕ))) (n k : ℕ) (d : Bor (List ℕ)) (less : n < length pieces) where
  turn_pieces : take (n + 1 + k) pieces ≡ (take n pieces ++ get_or pieces n d ∷ []) ++ take k (drop (n + 1) pieces)
  turn_pieces = take-add (n + 1) k pieces ∙ ap (λ (l : List (Bor (List ℕ))). l ++ take k (drop (n + 1) pieces)) (piece_more pieces n d less)

  joined_next : joined_pieces (take n pieces ++ get_or pieces n d ∷ []) ≡ joined_pieces (take n pieces) ++ (get_or pieces n d).now
  joined_next =
      let piece : Bor (List ℕ) = get_or pieces n d in
      flat_map-append (λ (x : Bor (List ℕ)). x.now) (take n pieces) (piece ∷ []) ∙ ap (λ (l : List ℕ). joined_pieces (take n pieces) ++ l) (append-nil piece.now)

  -- their bytes
  pub turn_joined : joined_pieces (take (n + 1 + k) pieces) ≡ (joined_pieces (take n pieces) ++ (get_or pieces n d).now) ++ joined_pieces (take k (drop (n + 1) pieces))
  turn_joined =
      let run = take k (drop (n + 1) pieces) in
      ap joined_pieces turn_pieces ∙ flat_map-append (λ (x : Bor (List ℕ)). x.now) (take n pieces ++ get_or pieces n d ∷ []) run ∙ ap (λ (l : List ℕ). l ++ joined_pieces run) joined_next

  -- their numbers, if the last ones are the same
  pub turn_numbers : (Holds : List ℕ → ℕ → Type 0) (ns : List ℕ) (m : ℕ) → AfterEach Holds [] (take n pieces) ns → Holds (joined_pieces (take n pieces) ++ (get_or pieces n d).now) m
      → AfterEach Holds (joined_pieces (take n pieces) ++ (get_or pieces n d).now) (take k (drop (n + 1) pieces)) (replicate k m) → AfterEach Holds [] (take (n + 1 + k) pieces) ((ns ++ m ∷ []) ++ replicate k m)
  turn_numbers Holds ns m each holds further =
      let fed = take n pieces ++ get_or pieces n d ∷ [] in
      let run = take k (drop (n + 1) pieces) in
      let next : AfterEach Holds [] fed (ns ++ m ∷ []) = after_each_join Holds [] (take n pieces) (get_or pieces n d ∷ []) ns (m ∷ []) each (holds, tt) in
      let behind : AfterEach Holds (joined_pieces fed) run (replicate k m) = subst (λ (s : List ℕ). AfterEach Holds s run (replicate k m)) (sym joined_next) further in
      subst (λ (l : List (Bor (List ℕ))). AfterEach Holds [] l ((ns ++ m ∷ []) ++ replicate k m)) (sym turn_pieces) (after_each_join Holds [] fed run (ns ++ m ∷ []) (replicate k m) next behind)

  -- they have no more bytes than all pieces
  pub turn_within : length (joined_pieces (take n pieces)) + (length (get_or pieces n d).now + length (joined_pieces (take k (drop (n + 1) pieces)))) ≤ length (joined_pieces pieces)
  turn_within =
      let run = take k (drop (n + 1) pieces) in
      let m = n + 1 + k in
      let all = ap (λ (l : List (Bor (List ℕ))). length (joined_pieces l)) (take-append-drop m pieces) in
      let parts = ap length (flat_map-append (λ (piece : Bor (List ℕ)). piece.now) (take m pieces) (drop m pieces)) in
      omega (
        arith,
        sym all ∙ parts,
        length-append (joined_pieces (take m pieces)) (joined_pieces (drop m pieces)),
        ap length turn_joined,
        length-append (joined_pieces (take n pieces) ++ (get_or pieces n d).now) (joined_pieces run),
        length-append (joined_pieces (take n pieces)) (get_or pieces n d).now,
      )

-- ---- facts that stay true when fewer bytes come than are missing

module _ {V : Type 0} (Of : List ℕ → Verdict V → Type 0) (stable : IsStable Of) (s more : List ℕ) (missing : ℕ) (less : length more < missing) where
  -- a refusal
  pub refused_still : (error : PcapError) → Refuses ⊥ (λ n. Of s (lacks n)) (λ fault. Of s (faulty fault)) (error_with error missing)
      → Refuses ⊥ (λ n. Of (s ++ more) (lacks n)) (λ fault. Of (s ++ more) (faulty fault)) (error_with error (missing - length more))
  refused_still (errors.IncompleteBuffer n) x = stable.request s more missing less x
  refused_still (errors.InvalidField text) x = (x.0, x.1, stable.fault s more (Invalid x.0) x.2)
  refused_still (errors.IoError io) x = stable.fault s more Io x
  refused_still (errors.Utf8Error utf) x = stable.fault s more Utf8 x
  refused_still (errors.FromUtf8Error utf) x = x
  refused_still (errors.OutOfMemory memory) x = x
  refused_still errors.WriterFailed x = x

  -- the verdict where an item is expected
  pub asked_still : (rest : Rest) → IsAsked Of s (rest_with rest missing) → IsAsked Of (s ++ more) (rest_with rest (missing - length more))
  asked_still Clean x = x
  asked_still (Needs n) x = stable.request s more missing less x
  asked_still (Refused error) x = shows_more (λ fault stands. stable.fault s more fault stands) error x

-- ---- the results of a parser

module _ {X S : Type 0} (IsSaid : Verdict S → Type 0) (view : X → S) where
  -- a call that may always allocate
  pub tells_grown : (M : Type 0) (answer : Result (Bor (List ℕ) × X) PcapError) → TellsWhere M IsSaid view answer → TellsWhere ⊤ IsSaid view answer
  tells_grown M (Err (errors.OutOfMemory memory)) tells = tt
  tells_grown M _ tells = tells

module _ {X S V W : Type 0} (f : Format S V) (part : V → W) (view : X → W) (q next : S) (s : List ℕ) where
  -- a refusal that leaves the state unchanged
  pub front_refused : (M : Type 0) → next ≡ q → (error : PcapError) → Refuses M (λ n. f.says q s (lacks n)) (λ fault. f.says q s (faulty fault)) error → TakesFront f part view q next s (Err error)
  front_refused M stays (errors.IncompleteBuffer n) refuses = (stays, refuses)
  front_refused M stays (errors.InvalidField text) refuses = (refuses.0, refuses.1, (stays, refuses.2))
  front_refused M stays (errors.IoError io) refuses = (stays, refuses)
  front_refused M stays (errors.Utf8Error utf) refuses = (stays, refuses)
  front_refused M stays (errors.FromUtf8Error utf) refuses = absurd refuses
  front_refused M stays (errors.OutOfMemory memory) refuses = tt
  front_refused M stays errors.WriterFailed refuses = absurd refuses

-- the opening of a capture, with its value mapped to another
pub made_opening : {V W : Type 0} (make : V → W) (opens : List ℕ → Verdict V → Type 0) → IsOpening opens → IsOpening (λ s. Made make (opens s))
made_opening make opens opening = record {
  one = λ s. one_made make (opens s) (opening.one s);
  stable = record {
    text = λ s more rest v x. (x.0, x.1, opening.stable.text s more rest x.0 x.2);
    fault = λ s more fault x. opening.stable.fault s more fault x;
    request = λ s more n fewer x. opening.stable.request s more n fewer x;
  };
  ends = λ s rest v x. opening.ends s rest x.0 x.2;
}

-- ---- items that follow one another

-- what follows the first bytes of a list is the list without them
pub after_is_drop : (s t after : List ℕ) → s ≡ t ++ after → drop (length s - length after) s ≡ after
after_is_drop s t after e =
    let count : length s - length after ≡ length t = omega (arith, ap length e, length-append t after) in
    ap (λ (n : ℕ). drop n s) count ∙ ap (λ (l : List ℕ). drop (length t) l) e ∙ drop-append_seam t after

-- with any setting, where the one state is reached, so is the other
abbrev pub ReachesOn : {Y S V W : Type 0} → (Y → List ℕ → Verdict S → Type 0) → Format S V → (V → W) → S → List W → List ℕ → S → List W → List ℕ → Type 0
ReachesOn {Y = Y} opens f part q ws held next more left = (setting : Y) (s : List ℕ) → Reaches (opens setting) f part q ws s held → Reaches (opens setting) f part next more s left

pub item_shorter : {S V W : Type 0} (f : Format S V) → IsLawful f → (part : V → W) (q next : S) (w : W) (held after : List ℕ) (at : ℕ) → LeadsBy f part q next w (drop at held) after
    → length after < length held - at
item_shorter f laws part q next w held after at leads = omega (arith, leads_shorter f part laws q next w (drop at held) after leads, length-drop at held)

module _ {S V W : Type 0} (opens : List ℕ → Verdict S → Type 0) (f : Format S V) (laws : IsLawful f) (part : V → W) where
  -- one more item
  pub reaches_item : (q next : S) (ws : List W) (w : W) (s held after : List ℕ) (at : ℕ) → Reaches opens f part q ws s (drop at held) → LeadsBy f part q next w (drop at held) after
      → Reaches opens f part next (ws ++ w ∷ []) s (drop (length held - length after) held)
  reaches_item q next ws w s held after at r leads =
      let o = laws.own q (drop at held) after leads.value leads.text in
      let parts : held ≡ (take at held ++ o.0) ++ after = sym (take-append-drop at held) ∙ ap (λ (l : List ℕ). take at held ++ l) o.1 ∙ sym (append_assoc (take at held) o.0 after) in
      let left : drop (length held - length after) held ≡ after = after_is_drop held (take at held ++ o.0) after parts in
      record { first = r.first; after = r.after; opening = r.opening; leads = rw left (leads_more f part r.first q next ws w r.after (drop at held) after r.leads leads) }

module _ {P S V W : Type 0} (opens : List ℕ → Verdict S → Type 0) (opening : IsOpening opens) (f : Format S V) (laws : IsLawful f) (part : V → W) (state : P → S) where
  -- one more piece after the items
  pub reaches_more : (q : S) (ws : List W) (s left more : List ℕ) → Reaches opens f part q ws s left → Reaches opens f part q ws (s ++ more) (left ++ more)
  reaches_more q ws s left more r = record {
    first = r.first;
    after = r.after ++ more;
    opening = opening.stable.text s more r.after r.first r.opening;
    leads = record { values = r.leads.values; texts = texts_more f laws r.first r.leads.values r.after left more r.leads.texts; parts = r.leads.parts; state_is = r.leads.state_is };
  }

  -- a capture that opens
  pub reaches_first : (q : S) (s after : List ℕ) → opens s (whole q after) → Reaches opens f part q [] s (drop (length s - length after) s)
  reaches_first q s after x =
      let o = opening.ends s after q x in
      record { first = q; after = after; opening = x; leads = rw (after_is_drop s o.0 after o.1) (leads_none f part q after) }

  pub opening_within : (q : S) (s after : List ℕ) → opens s (whole q after) → length after ≤ length s
  opening_within q s after x = let o = opening.ends s after q x in omega (arith, ap length o.1, length-append o.0 after)

  -- no item begins the held bytes
  asked_no_text : (q : S) (left : List ℕ) (rest : Rest) → IsAsked (f.says q) left rest → (v : V) (after : List ℕ) → f.says q left (whole v after) → ⊥
  asked_no_text q left Clean is v after text = is
  asked_no_text q left (Needs n) is v after text = lacks_no_text f laws q n left is v after text
  asked_no_text q left (Refused error) is v after text = rest_no_text f laws q left (Refused error) is v after text

  -- how many items there are
  pub waiting_holds : (s : List ℕ) (progress : Progress P) (held : List ℕ) (ws : List W) → IsWaiting opens f part state s progress held ws → HoldsItems opens f s (length ws)
  waiting_holds s (Before error) held ws waiting =
      let here : Refuses ⊥ (λ n. opens s (lacks n)) (λ fault. opens s (faulty fault)) error = waiting.2 in
      inr (λ q after x. said_not_refused (opens s) (opening.one s) q after x error here, ap length waiting.1)
  waiting_holds s (Within parser rest) held ws waiting =
      let r : Reaches opens f part (state parser) ws s held = waiting.0 in
      let longest = asked_no_text (state parser) held rest waiting.1 in
      let all : Front f r.first r.leads.values r.after held =
      record { texts = r.leads.texts; longest = λ v after x. longest v after (subst (λ (p : S). f.says p held (whole v after)) r.leads.state_is x) } in
      inl (r.first, r.after, r.leads.values, held, r.opening, all, ap length (sym r.leads.parts) ∙ length-map r.leads.values part)

  -- no more bytes are held than came
  pub waiting_within : (s : List ℕ) (progress : Progress P) (held : List ℕ) (ws : List W) → IsWaiting opens f part state s progress held ws → length held ≤ length s
  waiting_within s (Before error) held ws waiting = omega (arith, ap length waiting.0)
  waiting_within s (Within parser rest) held ws waiting =
      let r : Reaches opens f part (state parser) ws s held = waiting.0 in
      omega (arith, opening_within r.first s r.after r.opening, texts_long f laws r.first r.leads.values r.after held r.leads.texts)

  -- fewer bytes come than are missing
  pub waits : (s more : List ℕ) (progress : Progress P) (missing : ℕ) (held : List ℕ) (ws : List W) → length more < missing → IsWaiting opens f part state s (progress_with progress missing) held ws
      → IsWaiting opens f part state (s ++ more) (progress_with progress (missing - length more)) (held ++ more) ws
  waits s more (Before error) missing held ws less waiting =
      (ap (λ (l : List ℕ). l ++ more) waiting.0, waiting.1, refused_still opens opening.stable s more missing less error waiting.2)
  waits s more (Within parser rest) missing held ws less waiting =
      (reaches_more (state parser) ws s held more waiting.0, asked_still (f.says (state parser)) (laws.stable (state parser)) held more missing less rest waiting.1)

  -- at least one byte stays missing, or no byte came
  pub waits_more : (s more : List ℕ) (progress : Progress P) (missing : ℕ) (held : List ℕ) (ws : List W) → length more ≤ missing - 1 → IsWaiting opens f part state s (progress_with progress missing) held ws
      → IsWaiting opens f part state (s ++ more) (progress_with progress (missing - length more)) (held ++ more) ws
  waits_more s [] progress missing held ws most waiting =
      let same : missing - 0 ≡ missing = omega arith in
      rw (append-nil s, append-nil held, same) waiting
  waits_more s (b ∷ more) progress missing held ws most waiting = waits s (b ∷ more) progress missing held ws (omega (arith, most)) waiting

  -- pieces that complete no item all have the same number
  pub waits_each : (before : List ℕ) (pieces : List (Bor (List ℕ))) (progress : Progress P) (missing : ℕ) (held : List ℕ) (ws : List W) → length (joined_pieces pieces) ≤ missing - 1
      → IsWaiting opens f part state before (progress_with progress missing) held ws → AfterEach (HoldsItems opens f) before pieces (replicate (length pieces) (length ws))
  waits_each before pieces progress missing held ws most waiting =
      after_each_same (HoldsItems opens f) before pieces (length ws)
      (λ s t e. waiting_holds (before ++ s) (progress_with progress (missing - length s)) (held ++ s) ws
      (waits_more before s progress missing held ws (omega (arith, most, ap length e, length-append s t)) waiting))

  -- any bytes
  pub waiting_came : (s more : List ℕ) (progress : Progress P) (missing : ℕ) (held : List ℕ) (ws : List W) → IsWaiting opens f part state s (progress_with progress missing) held ws
      → Came opens f part state (s ++ more) progress (held ++ more) ws
  waiting_came s more (Before error) missing held ws waiting = (ap (λ (l : List ℕ). l ++ more) waiting.0, waiting.1)
  waiting_came s more (Within parser rest) missing held ws waiting = reaches_more (state parser) ws s held more waiting.0

  -- at the end
  pub waiting_shown : (s : List ℕ) (progress : Progress P) (missing : ℕ) (held : List ℕ) (ws : List W) → IsWaiting opens f part state s (progress_with progress missing) held ws
      → IsFed opens f part state s (progress_shown progress missing (length held)) held ws
  waiting_shown s (Before error) missing held ws waiting = waiting
  waiting_shown s (Within parser Clean) missing held ws waiting = absurd waiting.1
  waiting_shown s (Within parser (Needs n)) missing [] ws waiting = (waiting.0, refl)
  waiting_shown s (Within parser (Needs n)) missing (b ∷ held) ws waiting =
      let some : (length (b ∷ held) == 0) ≡ false = grind (arith, nat_tests) in
      rw some (waiting.0, (waiting.1, omega arith))
  waiting_shown s (Within parser (Refused error)) missing held ws waiting = waiting
