use Rattle.std.proofs.Common.{rules, ◌++◌, ◌∷◌, ℕ, List, [], ap, sym, ◌∙◌, append_assoc, take}
use Rattle.std.specs.Borrow.{Bor}
use Rattle.std.specs.Prelude.{replicate}
use Rattle.std.proofs.Math.ListN.{get_or}
use Rattle.std.proofs.lemmas.List.{replicate-append-replicate}
use Rattle.pcap_items.specs.Pieces.{joined_pieces}
use Rattle.pcap_items.proofs.Pieces.{byte_more, single_more}
use Rattle.pcap_items.proofs.run.pieces.push_single.Goals as goal

pub loop-count-preserved : goal.loop-count-preserved
loop-count-preserved c =
    let pieces = c.args.pieces.now in
    let n = c.args.number in
    let i = c.loop-count.count in
    let none : Bor (List ℕ) = record { ref_ptr = (0, 0); now = [] } in
    let b : ℕ = get_or (get_or pieces i none).now 0 0 in
    let held = c.args.held.items in
    let numbers = c.args.numbers.items in
    record {
      held = c.push_reserved.ensures.items ∙ ap (λ (l : List ℕ). l ++ b ∷ []) c.loop-count.invariant.held ∙ append_assoc held (joined_pieces (take i pieces)) (b ∷ [])
          ∙ ap (λ (l : List ℕ). held ++ l) (sym (byte_more pieces i none c.loop-count-test.true c.if-pieces-count-eq1.true));
      numbers = c.push_reserved-in-loop-count.ensures.items ∙ ap (λ (l : List ℕ). l ++ n ∷ []) c.loop-count.invariant.numbers ∙ append_assoc numbers (replicate i n) (n ∷ [])
          ∙ ap (λ (l : List ℕ). numbers ++ l) (replicate-append-replicate i 1 n);
      held_len = search rules;
      numbers_len = search rules;
      room = search rules;
      places = search rules;
      single = single_more pieces i none c.loop-count-test.true c.if-pieces-count-eq1.true c.loop-count.invariant.single;
      within = search rules;
    }
