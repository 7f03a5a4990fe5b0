use Rattle.std.proofs.Common.{◌≡◌, ◌++◌, [], ℕ, List, refl, sym, ap, ◌∙◌}
use Rattle.pcap_variants.proofs.Going.{held_is_rest}
use Rattle.pcap_variants.proofs.plain.Plain.finish.Goals as goal

pub returns : goal.returns
returns c = λ plain a.
    let goes = c.in_ok-write.ensures.goes [] plain (λ all. refl) a in
    let step = c.write.new.self in
    let rest = held_is_rest step.variant step.left step.held.items goes.0 (c.in_ok-write.ensures.all refl) goes.2 in
    let held : c.as_slice.result.now ≡ step.held.items = c.as_slice.ensures.value in
    c.in_ok-extend_from_slice.ensures.items ∙ (ap (λ (l : List ℕ). c.write.new.room.items ++ l) (held ∙ rest) ∙ sym goes.1)
