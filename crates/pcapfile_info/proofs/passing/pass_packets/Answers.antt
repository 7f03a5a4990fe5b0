use Rattle.std.proofs.Common.{refl, sym, subst, arith, inr, None, ℕ}
use Rattle.std.proofs.lemmas.Result.{err_from_is_err_and}
use Rattle.std.proofs.KnownBytes.{Keeps-refl}
use Rattle.pcap_classic.specs.PacketText.{packet_limit}
use Rattle.pcap_classic.specs.Packets.{format_under}
use Rattle.pcapfile_info.specs.Sights.{IsPacketSight}
use Rattle.pcapfile_info.specs.Telling.{KeepsTotals, Telling}
use Rattle.pcapfile_info.specs.Totals.{AllAre}
use Rattle.pcapfile_info.proofs.Telling.{telling_none, telling_stops}
use Rattle.pcapfile_info.proofs.passing.pass_packets.Goals as goal

pub loop-progress-init : goal.loop-progress-init
loop-progress-init g c = record {
  telling = subst (λ (n : ℕ). Telling (format_under packet_limit c.args.header.now) tt IsPacketSight 1 (KeepsTotals AllAre) tt (g.R.Read.remaining c.args.input.now) (g.R.Read.remaining c.args.input.now) c.args.progress.now c.args.progress.now n) (sym c.requires.none_yet)
      (telling_none (format_under packet_limit c.args.header.now) tt IsPacketSight 1 (KeepsTotals AllAre) (g.R.Read.remaining c.args.input.now) c.args.progress.now c.requires.room c.requires.nothing);
  between = search;
  unfailed = c.requires.unfailed;
  within = omega (arith, c.requires.none_yet);
  described = (refl, refl, refl);
}

pub returns-in_err-pass_shown-clause-tells : goal.returns-in_err-pass_shown-clause-tells
returns-in_err-pass_shown-clause-tells g c =
    let p = err_from_is_err_and c.from_residual.result c.from_residual.ensures.1 in
    rw (p.1, p.2) (c.in_err-pass_shown.ensures.turn tt tt tt _ c.args.progress.now c.loop-progress.invariant.telling)

pub returns-then-not-branch-clause-tells : goal.returns-then-not-branch-clause-tells
returns-then-not-branch-clause-tells g c =
    let turn = rw c.if-not-branch.true at (c.in_ok-pass_shown.ensures.turn tt tt) in
    turn tt _ c.args.progress.now c.loop-progress.invariant.telling

pub returns-then-progress-clause-tells : goal.returns-then-progress-clause-tells
returns-then-progress-clause-tells g c =
    let turn = rw c.if-not-branch.false at (c.in_ok-pass_shown.ensures.turn tt tt) in
    let left = g.R.Read.remaining c.pass_shown.new.input in
    telling_stops (format_under packet_limit c.args.header.now) tt IsPacketSight 1 (KeepsTotals AllAre) tt _ left left _ 18446744073709551614 c.args.progress.now c.pass_shown.new.progress c.pass_shown.new.progress.items None
    (turn.1 tt _ c.args.progress.now c.loop-progress.invariant.telling) c.in_ok-pass_shown.ensures.few.1 (turn.0, Keeps-refl left, inr c.if-progress.true)

pub pass_held-requires-clause-unfailed : goal.pass_held-requires-clause-unfailed
pass_held-requires-clause-unfailed g c =
    let turn = rw c.if-not-branch.false at (c.in_ok-pass_shown.ensures.turn tt tt) in
    turn.0

pub returns-in_err-pass_held-clause-tells : goal.returns-in_err-pass_held-clause-tells
returns-in_err-pass_held-clause-tells g c =
    let p = err_from_is_err_and c.from_residual-in_err-pass_held.result c.from_residual-in_err-pass_held.ensures.1 in
    let turn = rw c.if-not-branch.false at (c.in_ok-pass_shown.ensures.turn tt tt) in
    rw (p.1, p.2) (c.in_err-pass_held.ensures.turn tt _ c.args.progress.now (turn.1 tt _ c.args.progress.now c.loop-progress.invariant.telling))

pub returns-then-not-branch-2-clause-tells : goal.returns-then-not-branch-2-clause-tells
returns-then-not-branch-2-clause-tells g c =
    let turn = rw c.if-not-branch.false at (c.in_ok-pass_shown.ensures.turn tt tt) in
    let next = rw c.if-not-branch-2.true at c.in_ok-pass_held.ensures.turn in
    next tt _ c.args.progress.now (turn.1 tt _ c.args.progress.now c.loop-progress.invariant.telling)

pub loop-progress-preserved : goal.loop-progress-preserved
loop-progress-preserved g c =
    let turn = rw c.if-not-branch.false at (c.in_ok-pass_shown.ensures.turn tt tt) in
    let next = rw c.if-not-branch-2.false at c.in_ok-pass_held.ensures.turn in
    record {
      telling = next.1 tt _ c.args.progress.now (turn.1 tt _ c.args.progress.now c.loop-progress.invariant.telling);
      between = c.in_ok-pass_held.ensures.between;
      unfailed = next.0;
      within = omega (arith, c.in_ok-pass_held.ensures.counts c.if-not-branch-2.false, c.in_ok-pass_shown.ensures.few.1, c.if-progress.false);
      described = grind (arith, c.in_ok-pass_held.ensures.same, c.in_ok-pass_shown.ensures.same, c.loop-progress.invariant.described);
    }

pub returns-clause-tells : goal.returns-clause-tells
returns-clause-tells g c =
    let left = g.R.Read.remaining c.loop-progress.input in
    telling_stops (format_under packet_limit c.args.header.now) tt IsPacketSight 1 (KeepsTotals AllAre) tt _ left left _ 18446744073709551614 c.args.progress.now c.loop-progress.progress c.loop-progress.progress.items None
    c.loop-progress.invariant.telling c.loop-progress.invariant.within (c.loop-progress.invariant.unfailed, Keeps-refl left, inr (omega (arith, c.loop-progress.invariant.within, c.loop-progress-test.false)))

pub loop-progress-smaller : goal.loop-progress-smaller
loop-progress-smaller g c = omega (arith, c.in_ok-pass_held.ensures.counts c.if-not-branch-2.false, c.in_ok-pass_shown.ensures.few.0, c.in_ok-pass_shown.ensures.few.1, c.loop-progress-test.true, c.if-progress.false)
