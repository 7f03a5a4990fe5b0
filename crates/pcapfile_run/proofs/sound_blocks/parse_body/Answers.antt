use Rattle.std.proofs.Common.{subst, Err}
use Rattle.std.proofs.lemmas.Result.{err_from_is_err_and}
use Rattle.pcap_blocks.specs.ParsedBlock.{body_of}
use Rattle.pcap_ng.specs.Frames.{Framed, framed_of}
use Rattle.pcapfile_run.specs.SoundBlocks.{HasBody, TellsBody}
use Rattle.pcapfile_run.proofs.SoundBlocks.{body_told, frame_stands, same_block}
use Rattle.pcapfile_run.proofs.sound_blocks.parse_body.Goals as goal

pub returns-in_err-_rest : goal.returns-in_err-_rest
returns-in_err-_rest c = λ block said. absurd (frame_stands c.args.order c.args.text.now block said c.in_err-_rest.field-0.0 c.in_err-_rest.ensures.tells)

pub returns-in_err-parsed : goal.returns-in_err-parsed
returns-in_err-parsed c = λ block said.
    let p = err_from_is_err_and c.from_residual-in_err-parsed.result c.from_residual-in_err-parsed.ensures.1 in
    let same = same_block c.args.order c.args.text.now _ block (framed_of c.in_ok-_rest.block) said c.in_ok-_rest.ensures.tells in
    let e = c.in_err-parsed.field-0.0 in
    rw (p.1, p.2) (subst (λ (b : Framed). TellsBody b (Err e)) same (body_told (framed_of c.in_ok-_rest.block) e c.in_err-parsed.ensures.tells))

pub returns : goal.returns
returns c = λ block said.
    let same = same_block c.args.order c.args.text.now _ block (framed_of c.in_ok-_rest.block) said c.in_ok-_rest.ensures.tells in
    subst (λ (b : Framed). HasBody b) same (body_of c.in_ok-parsed.field-0, c.in_ok-parsed.ensures.tells.0, c.in_ok-parsed.ensures.tells.1)
