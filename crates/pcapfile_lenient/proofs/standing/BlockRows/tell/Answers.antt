use Rattle.pcapfile_lenient.proofs.standing.BlockRows.tell.Goals as goal

pub invariant_of-result : goal.invariant_of-result
invariant_of-result g c =
    let kept = rw c.in-Ok-None.field-0-is at c.in-Ok-None.ensures.ready in
    record { ready = kept.0; unfailed = kept.1 }
