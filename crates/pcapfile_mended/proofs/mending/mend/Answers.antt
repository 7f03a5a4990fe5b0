use Rattle.std.proofs.Common.{inl, inr}
use Rattle.std.proofs.lemmas.Result.{on_err_weaker}
use Rattle.pcap_written.specs.Raw.{raw_of}
use Rattle.pcapfile_mended.proofs.StrictAgain.{interface_is_left, mend_grows, options_are_left, sound_is_left}
use Rattle.pcapfile_mended.proofs.mending.mend.Goals as goal

pub returns-in_err-is_sound-clause-memory : goal.returns-in_err-is_sound-clause-memory
returns-in_err-is_sound-clause-memory c = mend_grows (raw_of c.args.block) (inl c.in_err-is_sound.ensures.memory) c.from_residual.result

pub returns-then-branch-clause-memory : goal.returns-then-branch-clause-memory
returns-then-branch-clause-memory c =
    let taken = rw c.if-branch.true at c.in_ok-is_sound.ensures.taken in
    mend_grows (raw_of c.args.block) (inr (sound_is_left (raw_of c.args.block) taken)) c.put_sound.result

pub returns-in-Some-clause-memory : goal.returns-in-Some-clause-memory
returns-in-Some-clause-memory c = mend_grows (raw_of c.args.block) (inr (options_are_left (raw_of c.args.block) _ _ c.in-Some.ensures.none)) c.put_with_options.result

pub returns-in-None-clause-memory : goal.returns-in-None-clause-memory
returns-in-None-clause-memory c = on_err_weaker c.put_rest.result (λ is. inr (interface_is_left (raw_of c.args.block) is)) c.put_rest.ensures.memory
