use Rattle.std.proofs.Common.{◌≡◌, ◌-◌, slice_index_or, ap, arith, eq-zero-or-pos, inl, inr, ◌∙◌}
use Rattle.pcapfile_command.specs.declared.words.Word.TheVariants as words
use Rattle.pcapfile_command.proofs.WordNames.{all, at_place, other_name, place_of, placed}
use Rattle.pcapfile_command.proofs.words.Word.of_name.Goals as goal

pub loop-word-init : goal.loop-word-init
loop-word-init c = λ word fewer same. absurd (omega (arith, fewer))

pub loop-word-preserved : goal.loop-word-preserved
loop-word-preserved c = λ word fewer same.
    let index = c.loop-word.word-index in
    elim (eq-zero-or-pos (index - place_of word)) [
      | inl e ↦
          let place : index ≡ place_of word = omega (arith, e, fewer) in
          let is : slice_index_or all index words.Check ≡ word = ap (λ n. slice_index_or all n words.Check) place ∙ at_place word in
          other_name word _ c.name.result.now c.args.name.now c.eq.result is c.name.ensures c.eq.ensures c.if-eq.false same
      | inr earlier ↦ c.loop-word.invariant word (omega (arith, earlier)) same
    ]

pub returns : goal.returns
returns c = λ word. c.loop-word.invariant word (omega (arith, placed word, c.loop-word-test.false))
