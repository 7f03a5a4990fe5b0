use Rattle.std.proofs.Common.{◌≡◌, ◌++◌, ℕ, List, drop, take, length, sym, ap, subst, ◌∙◌, arith}
use Rattle.std.proofs.lemmas.List.{length-drop}
use Rattle.pcap_variants.specs.Ahead.{Ahead}
use Rattle.pcap_variants.specs.Fronts.{Steps}
use Rattle.pcap_variants.specs.declared.variant.Variant.{Variant}
use Rattle.pcap_variants.proofs.Going.{go_on}
use Rattle.pcap_variants.proofs.plain.Plain.write.Goals as goal

-- What is ahead stays, if the bytes and the variant are the same.
same : (v w : Variant) (left : ℕ) (s t next rest : List ℕ) → w ≡ v → t ≡ s → Ahead v left (s ++ next) rest → Ahead w left (t ++ next) rest
same v w left s t next rest variant bytes a = subst (λ (x : Variant). Ahead x left (t ++ next) rest) (sym variant) (subst (λ (l : List ℕ). Ahead v left (l ++ next) rest) (sym bytes) a)

pub loop-passed-preserved : goal.loop-passed-preserved
loop-passed-preserved c =
    let far = c.loop-passed.invariant in
    let step = c.in-Some.step in
    let here = c.loop-passed.passed in
    let left = c.loop-passed.self.left in
    let held = c.args.self.now.held.items in
    let variant = c.args.self.now.variant in
    let whole : c.behind-bytes.result.now ≡ drop here held = c.behind-bytes.ensures ∙ ap (drop here) (c.as_slice.ensures.value ∙ far.held) in
    let within = c.in-Some.ensures.0 in
    let steps : Steps variant c.args.is_all left (drop here held) step =
    subst (λ (v : Variant). Steps v c.args.is_all left (drop here held) step) far.variant
    (subst (λ (l : List ℕ). Steps c.loop-passed.self.variant c.args.is_all left l step) whole c.in-Some.ensures.1) in
    let written : c.extend_from_slice.new.self.items ≡ c.loop-passed.room.items ++ take step.written (drop here held) =
    c.in_ok-extend_from_slice.ensures.items ∙ ap (λ (l : List ℕ). c.loop-passed.room.items ++ take step.written l) whole in
    record {
      variant = far.variant;
      held = far.held;
      within = omega (arith, within.passed, ap length whole, length-drop here held, far.within, ap length far.held);
      goes = λ next plain may a.
          let goes = go_on variant c.args.is_all left here step held c.args.room.now.items c.loop-passed.room.items next plain (far.goes next plain may a) steps may in
          (goes.0, goes.1 ∙ ap (λ (l : List ℕ). l ++ goes.0) (sym written), goes.2);
    }

pub returns-in_default-clause-goes : goal.returns-in_default-clause-goes
returns-in_default-clause-goes c = λ next plain may a.
    let far = c.loop-passed.invariant in
    let goes = far.goes next plain may a in
    let bytes = c.drop_front.ensures ∙ ap (drop c.loop-passed.passed) far.held in
    (goes.0, goes.1, same c.args.self.now.variant c.loop-passed.self.variant c.loop-passed.self.left (drop c.loop-passed.passed c.args.self.now.held.items) c.drop_front.new.room.items next goes.0 far.variant bytes goes.2)

pub returns-clause-goes : goal.returns-clause-goes
returns-clause-goes c = λ next plain may a.
    let far = c.loop-passed.invariant in
    let goes = far.goes next plain may a in
    let bytes = c.drop_front-2.ensures ∙ ap (drop c.loop-passed.passed) far.held in
    (goes.0, goes.1, same c.args.self.now.variant c.loop-passed.self.variant c.loop-passed.self.left (drop c.loop-passed.passed c.args.self.now.held.items) c.drop_front-2.new.room.items next goes.0 far.variant bytes goes.2)
