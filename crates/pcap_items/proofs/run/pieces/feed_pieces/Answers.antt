use Rattle.std.proofs.Common.{◌≡◌, ◌<◌, ◌≤◌, ◌+◌, ◌-◌, ℕ, List, [], ◌∷◌, ◌++◌, length, take, drop, map, ap, subst, arith, length-append, length-drop, All, sym, ◌∙◌}
use Rattle.std.specs.Prelude.{replicate}
use Rattle.std.specs.Borrow.{Bor}
use Rattle.std.proofs.Math.ListN.{get_or}
use Rattle.std.proofs.lemmas.List.{length-map, length-take-le, take_all}
use Rattle.pcap_items.specs.declared.run.pieces.Progress.TheVariants.{Within}
use Rattle.pcap_items.specs.Pieces.{AfterEach, HoldsItems, IsFed, joined_pieces}
use Rattle.pcap_items.specs.Waiting.{IsWaiting, progress_shown, progress_with}
use Rattle.pcap_items.proofs.Pieces.{single_front, turn_joined, turn_numbers, turn_within, waiting_holds, waiting_shown, waiting_within, waits_each, waits_more}
use Rattle.pcap_items.proofs.run.pieces.feed_pieces.Goals as goal

none : Bor (List ℕ)
none = record { ref_ptr = (0, 0); now = [] }

pub overflow_add-total : goal.overflow_add-total
unfolding none
overflow_add-total g c =
    let now = c.loop-alloc in
    let pieces = c.args.pieces.now in
    let n = length now.numbers.items in
    let k = c.in_ok-held.field-0-2 in
    let at : c.len-in-loop-alloc.result ≡ n = omega (arith, c.len-in-loop-alloc.ensures, now.numbers.ok.0) in
    let less : n < length pieces = omega (arith, c.loop-alloc-test.true, c.len.ensures, now.numbers.ok.0) in
    let next : c.len-in-loop-alloc-3.result ≡ n + 1 = omega (arith, c.len-in-loop-alloc-3.ensures, c.push_reserved.ensures.len, now.numbers.ok.0) in
    let left : c.split_at.result.1.now ≡ drop (n + 1) pieces = rw (← next) c.split_at.ensures.back in
    let count : length (joined_pieces (take k (drop (n + 1) pieces))) ≡ k = rw (← left) (single_front c.split_at.result.1.now k c.in_ok-held.ensures.within c.in_ok-held.ensures.single) in
    let size = ap (λ (j : ℕ). length (get_or pieces j none).now) at in
    omega (arith, size, count, turn_within pieces n k none less, c.requires.fit)

pub overflow_add-total-in-loop-alloc : goal.overflow_add-total-in-loop-alloc
unfolding none
overflow_add-total-in-loop-alloc g c =
    let now = c.loop-alloc in
    let pieces = c.args.pieces.now in
    let n = length now.numbers.items in
    let k = c.in_ok-held.field-0-2 in
    let at : c.len-in-loop-alloc.result ≡ n = omega (arith, c.len-in-loop-alloc.ensures, now.numbers.ok.0) in
    let less : n < length pieces = omega (arith, c.loop-alloc-test.true, c.len.ensures, now.numbers.ok.0) in
    let next : c.len-in-loop-alloc-3.result ≡ n + 1 = omega (arith, c.len-in-loop-alloc-3.ensures, c.push_reserved.ensures.len, now.numbers.ok.0) in
    let left : c.split_at.result.1.now ≡ drop (n + 1) pieces = rw (← next) c.split_at.ensures.back in
    let count : length (joined_pieces (take k (drop (n + 1) pieces))) ≡ k = rw (← left) (single_front c.split_at.result.1.now k c.in_ok-held.ensures.within c.in_ok-held.ensures.single) in
    let size = ap (λ (j : ℕ). length (get_or pieces j none).now) at in
    omega (arith, size, count, turn_within pieces n k none less, c.requires.fit, now.invariant.total)

pub loop-alloc-preserved : goal.loop-alloc-preserved
unfolding none
loop-alloc-preserved g c =
    let p = g.P.PieceParser in
    let now = c.loop-alloc in
    let pieces = c.args.pieces.now in
    let n = length now.numbers.items in
    let k = c.in_ok-held.field-0-2 in
    let before = joined_pieces (take n pieces) in
    let piece : Bor (List ℕ) = get_or pieces n none in
    let run = take k (drop (n + 1) pieces) in
    let bytes = joined_pieces run in
    let missing = c.in_ok-missing.missing in
    let progress = c.feed_piece.new.progress in
    let held = c.feed_piece.new.held.items in
    let ws = map p.view c.feed_piece.new.items.items in
    let m = length ws in
    let holds = HoldsItems (p.opens c.args.setting) p.format in
    let at : c.len-in-loop-alloc.result ≡ n = omega (arith, c.len-in-loop-alloc.ensures, now.numbers.ok.0) in
    let less : n < length pieces = omega (arith, c.loop-alloc-test.true, c.len.ensures, now.numbers.ok.0) in
    let next : c.len-in-loop-alloc-3.result ≡ n + 1 = omega (arith, c.len-in-loop-alloc-3.ensures, c.push_reserved.ensures.len, now.numbers.ok.0) in
    let left : c.split_at.result.1.now ≡ drop (n + 1) pieces = rw (← next) c.split_at.ensures.back in
    let single : All (λ (x : Bor (List ℕ)). length x.now ≡ 1) run = rw (← left) c.in_ok-held.ensures.single in
    let within : k ≤ length (drop (n + 1) pieces) = rw (← left) c.in_ok-held.ensures.within in
    let size : length run ≡ k = length-take-le k (drop (n + 1) pieces) within in
    let count : length bytes ≡ k = single_front (drop (n + 1) pieces) k within single in
    let most : length bytes ≤ missing - 1 = omega (arith, count, c.in_ok-held.ensures.waiting) in
    let longer : length c.in_ok-held.field-0-1.items ≡ n + 1 + k = omega (arith, c.in_ok-held.ensures.places.0, c.in_ok-held.field-0-1.ok.0, c.push_reserved.ensures.len, now.numbers.ok.0) in
    let first : c.len-in-loop-alloc-2.result ≡ m = omega (arith, c.len-in-loop-alloc-2.ensures, c.feed_piece.new.items.ok.0, length-map c.feed_piece.new.items.items p.view) in
    let others : c.len-in-loop-alloc-4.result ≡ m = omega (arith, c.len-in-loop-alloc-4.ensures, c.feed_piece.new.items.ok.0, length-map c.feed_piece.new.items.items p.view) in
    let pushed : c.push_reserved.new.self.items ≡ now.numbers.items ++ m ∷ [] = c.push_reserved.ensures.items ∙ ap (λ (j : ℕ). now.numbers.items ++ j ∷ []) first in
    let numbers : c.in_ok-held.field-0-1.items ≡ (now.numbers.items ++ m ∷ []) ++ replicate k m =
    c.in_ok-held.ensures.numbers ∙ ap (λ (j : ℕ). c.push_reserved.new.self.items ++ replicate k j) others ∙ ap (λ (l : List ℕ). l ++ replicate k m) pushed in
    let grown : c.in_ok-held.field-0-0.items ≡ held ++ bytes = c.in_ok-held.ensures.held ∙ ap (λ (l : List (Bor (List ℕ))). held ++ joined_pieces (take k l)) left in
    let fed = turn_joined pieces n k none less in
    let told : IsWaiting (p.opens c.args.setting) p.format p.part p.state (before ++ piece.now) (progress_with progress missing) held ws =
    subst (λ (j : ℕ). IsWaiting (p.opens c.args.setting) p.format p.part p.state (before ++ (get_or pieces j none).now) (progress_with progress missing) held ws) at (c.in_ok-missing.ensures.waiting before now.invariant.waiting) in
    let waiting : IsWaiting (p.opens c.args.setting) p.format p.part p.state ((before ++ piece.now) ++ bytes) (progress_with progress (missing - k)) (held ++ bytes) ws =
    subst (λ (j : ℕ). IsWaiting (p.opens c.args.setting) p.format p.part p.state ((before ++ piece.now) ++ bytes) (progress_with progress (missing - j)) (held ++ bytes) ws) count
    (waits_more (p.opens c.args.setting) c.requires.opening p.format c.requires.lawful p.part p.state (before ++ piece.now) bytes progress missing held ws most told) in
    let one : holds (before ++ piece.now) m = waiting_holds (p.opens c.args.setting) c.requires.opening p.format c.requires.lawful p.part p.state (before ++ piece.now) (progress_with progress missing) held ws told in
    let each : AfterEach holds (before ++ piece.now) run (replicate k m) =
    subst (λ (j : ℕ). AfterEach holds (before ++ piece.now) run (replicate j m)) size (waits_each (p.opens c.args.setting) c.requires.opening p.format c.requires.lawful p.part p.state (before ++ piece.now) run progress missing held ws most told) in
    record {
      waiting = rw (longer, fed, grown) waiting;
      numbers = rw (longer, numbers) (turn_numbers pieces n k none less holds now.numbers.items m now.invariant.numbers one each);
      within = omega (arith, longer, within, length-drop (n + 1) pieces, less);
      places = omega (arith, c.in_ok-held.ensures.places.1, c.push_reserved.ensures.capacity, now.invariant.places);
      total = omega (
        arith,
        now.invariant.total,
        ap (λ (j : ℕ). length (get_or pieces j none).now) at,
        count,
        ap (λ (j : ℕ). length (joined_pieces (take j pieces))) longer,
        ap length fed,
        length-append (before ++ piece.now) bytes,
        length-append before piece.now,
      );
      owned = c.in_ok-missing.ensures.owned now.invariant.owned;
    }

pub overflow_sub-used : goal.overflow_sub-used
overflow_sub-used g c =
    let held = c.loop-alloc.held in
    let s = joined_pieces (take (length c.loop-alloc.numbers.items) c.args.pieces.now) in
    let p = g.P.PieceParser in
    let within = waiting_within (p.opens c.args.setting) c.requires.opening p.format c.requires.lawful p.part p.state s (progress_with c.loop-alloc.progress c.loop-alloc.missing) held.items (map p.view c.loop-alloc.items.items) c.loop-alloc.invariant.waiting in
    omega (arith, within, c.loop-alloc.invariant.total, c.len-2.ensures, held.ok.0)

pub returns-in-Within-clause-fed : goal.returns-in-Within-clause-fed
returns-in-Within-clause-fed g c =
    let p = g.P.PieceParser in
    let now = c.loop-alloc in
    let pieces = c.args.pieces.now in
    let n = length now.numbers.items in
    let s = joined_pieces (take n pieces) in
    let held = now.held.items in
    let ws = map p.view now.items.items in
    let all : take n pieces ≡ pieces = take_all n pieces (omega (arith, c.loop-alloc-test.false, c.len.ensures, now.numbers.ok.0)) in
    let count : c.len-3.result ≡ length held = omega (arith, c.len-3.ensures, now.held.ok.0) in
    let within = waiting_within (p.opens c.args.setting) c.requires.opening p.format c.requires.lawful p.part p.state s (progress_with now.progress now.missing) held ws now.invariant.waiting in
    let fed : IsFed (p.opens c.args.setting) p.format p.part p.state s (progress_shown now.progress now.missing (length held)) held ws =
    waiting_shown (p.opens c.args.setting) c.requires.opening p.format c.requires.lawful p.part p.state s now.progress now.missing held ws now.invariant.waiting in
    let shown : progress_shown now.progress now.missing (length held) ≡ Within c.in-Within.parser c.in-Within.rest = rw (← count) (sym c.shown.ensures ∙ c.in-Within.is) in
    let told = rw (all, shown) at fed in
    record {
      left = held;
      reaches = told.0;
      rest_is = told.1;
      used_is = omega (arith, within, now.invariant.total, c.len-2.ensures, now.held.ok.0, ap (λ (l : List (Bor (List ℕ))). length (joined_pieces l)) all);
    }
