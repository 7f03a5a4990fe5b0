use Rattle.std.proofs.Common.{ℕ, refl, sym, subst, arith, inr, None}
use Rattle.std.proofs.lemmas.Result.{err_from_is_err_and}
use Rattle.std.proofs.KnownBytes.{Keeps-refl}
use Rattle.pcap_ng.specs.Blocks.{block_format}
use Rattle.pcap_ng.specs.Reader.{state_of, stream_of}
use Rattle.pcapfile_info.specs.KeptBlocks.{EndsBlocks, KeepsBlocks}
use Rattle.pcapfile_info.specs.Sights.{IsBlockSight}
use Rattle.pcapfile_info.specs.Telling.{Telling}
use Rattle.pcapfile_info.proofs.KeptBlocks.{kept_ends}
use Rattle.pcapfile_info.proofs.Telling.{telling_ends, telling_none, tells_as}
use Rattle.pcapfile_info.proofs.progress.pass_blocks.Goals as goal

pub loop-progress-init : goal.loop-progress-init
loop-progress-init g c =
    let first = state_of c.args.reader.now in
    let left = g.T.Read.remaining (stream_of c.args.reader.now) in
    let old = c.args.progress.now in
    record {
      telling = subst (λ (n : ℕ). Telling block_format first IsBlockSight 0 KeepsBlocks first left left old old n) (sym c.requires.none_yet) (telling_none block_format first IsBlockSight 0 KeepsBlocks left old c.requires.room c.requires.nothing);
      clocks = c.requires.clocks;
      ready = c.requires.ready;
      unfailed = c.requires.unfailed;
      within = omega (arith, c.requires.none_yet);
    }

pub returns-in_err-pass_shown : goal.returns-in_err-pass_shown
returns-in_err-pass_shown g c =
    let p = err_from_is_err_and c.from_residual.result c.from_residual.ensures.1 in
    let first = state_of c.args.reader.now in
    let now = c.loop-progress.invariant in
    let turn = rw c.get_mut.ensures.value at (c.in_err-pass_shown.ensures.turn (state_of c.loop-progress.reader) now.clocks) in
    let tells = turn first _ c.args.progress.now now.telling in
    rw (p.1, p.2) (tells_as block_format first IsBlockSight 0 KeepsBlocks (EndsBlocks _) _ _ _ _ _ _ _ tells (kept_ends _ first tells.items tells.sights c.pass_shown.new.progress))

pub returns-then-not-branch : goal.returns-then-not-branch
returns-then-not-branch g c =
    let first = state_of c.args.reader.now in
    let now = c.loop-progress.invariant in
    let turn = rw (c.if-not-branch.true, c.get_mut.ensures.value) at (c.in_ok-pass_shown.ensures.turn (state_of c.loop-progress.reader) now.clocks) in
    let tells = turn first _ c.args.progress.now now.telling in
    tells_as block_format first IsBlockSight 0 KeepsBlocks (EndsBlocks None) _ _ _ _ _ _ None tells (kept_ends None first tells.items tells.sights c.pass_shown.new.progress)

pub returns-then-progress : goal.returns-then-progress
returns-then-progress g c =
    let first = state_of c.args.reader.now in
    let here = state_of c.loop-progress.reader in
    let now = c.loop-progress.invariant in
    let turn = rw (c.if-not-branch.false, c.get_mut.ensures.value) at (c.in_ok-pass_shown.ensures.turn here now.clocks) in
    let left = g.T.Read.remaining c.pass_shown.new.input in
    let new = c.pass_shown.new.progress in
    telling_ends block_format first IsBlockSight 0 KeepsBlocks (EndsBlocks None) here _ left left _ 18446744073709551614 c.args.progress.now new new new.items None
    (turn.1 first _ c.args.progress.now now.telling) c.in_ok-pass_shown.ensures.few.1 (turn.0, Keeps-refl left, inr c.if-progress.true) refl refl (λ items sights kept. kept_ends None first items sights new kept)

pub returns-in_err-pass_next : goal.returns-in_err-pass_next
returns-in_err-pass_next g c =
    let p = err_from_is_err_and c.from_residual-in_err-pass_next.result c.from_residual-in_err-pass_next.ensures.1 in
    let first = state_of c.args.reader.now in
    let now = c.loop-progress.invariant in
    let turn = rw (c.if-not-branch.false, c.get_mut.ensures.value) at (c.in_ok-pass_shown.ensures.turn (state_of c.loop-progress.reader) now.clocks) in
    rw (p.1, p.2) (c.in_err-pass_next.ensures.turn first _ c.args.progress.now (turn.1 first _ c.args.progress.now now.telling))

pub returns-then-not-branch-2 : goal.returns-then-not-branch-2
returns-then-not-branch-2 g c =
    let first = state_of c.args.reader.now in
    let now = c.loop-progress.invariant in
    let turn = rw (c.if-not-branch.false, c.get_mut.ensures.value) at (c.in_ok-pass_shown.ensures.turn (state_of c.loop-progress.reader) now.clocks) in
    let next = rw c.if-not-branch-2.true at c.in_ok-pass_next.ensures.turn in
    next first _ c.args.progress.now (turn.1 first _ c.args.progress.now now.telling)

pub loop-progress-preserved : goal.loop-progress-preserved
loop-progress-preserved g c =
    let first = state_of c.args.reader.now in
    let now = c.loop-progress.invariant in
    let turn = rw (c.if-not-branch.false, c.get_mut.ensures.value) at (c.in_ok-pass_shown.ensures.turn (state_of c.loop-progress.reader) now.clocks) in
    let next = rw c.if-not-branch-2.false at c.in_ok-pass_next.ensures.turn in
    let more = c.in_ok-pass_next.ensures.counts c.if-not-branch-2.false in
    record {
      telling = next.1 first _ c.args.progress.now (turn.1 first _ c.args.progress.now now.telling);
      clocks = c.in_ok-pass_next.ensures.clocks;
      ready = c.in_ok-pass_next.ensures.ready;
      unfailed = next.0;
      within = omega (arith, more, c.in_ok-pass_shown.ensures.few.1, c.if-progress.false);
    }

pub returns : goal.returns
returns g c =
    let first = state_of c.args.reader.now in
    let now = c.loop-progress.invariant in
    let left = g.T.Read.remaining (stream_of c.loop-progress.reader) in
    let new = c.loop-progress.progress in
    telling_ends block_format first IsBlockSight 0 KeepsBlocks (EndsBlocks None) (state_of c.loop-progress.reader) _ left left _ 18446744073709551614 c.args.progress.now new new new.items None
    now.telling now.within (now.unfailed, Keeps-refl left, inr (omega (arith, now.within, c.loop-progress-test.false))) refl refl (λ items sights kept. kept_ends None first items sights new kept)

pub loop-progress-smaller : goal.loop-progress-smaller
loop-progress-smaller g c = omega (arith, c.in_ok-pass_next.ensures.counts c.if-not-branch-2.false, c.in_ok-pass_shown.ensures.few.0, c.in_ok-pass_shown.ensures.few.1, c.loop-progress-test.true, c.if-progress.false)
