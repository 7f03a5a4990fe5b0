use Rattle.std.proofs.Common.{None, arith, inl, inr, refl}
use Rattle.std.proofs.lemmas.Result.{err_from_is_err_and}
use Rattle.pcapfile_merge.specs.Merging.{output_of}
use Rattle.pcapfile_merge.proofs.Steps.{chosen_within, ends_failed, ends_merge, going_none, going_step}
use Rattle.pcapfile_merge.proofs.merging.merge_sources.Goals as goal

pub loop-packets-init : goal.loop-packets-init
loop-packets-init g c = record {
  so_far = rw c.requires (going_none g.R.Read.remaining c.args.order c.args.sources.now (output_of (g.W.Write.contents c.args.writer.now) c.args.interfaces.now));
  within = omega (arith, c.requires);
}

pub returns-in-None-clause-run : goal.returns-in-None-clause-run
returns-in-None-clause-run g c =
    let at = c.loop-packets in
    let out = output_of (g.W.Write.contents at.writer) at.interfaces in
    ends_merge g.R.Read.remaining c.args.order c.args.sources.now at.sources (output_of (g.W.Write.contents c.args.writer.now) c.args.interfaces.now) out out at.packets c.args.most None at.invariant.so_far refl (refl, inl c.in-None.ensures)

pub returns-in_err-merge_at-clause-run : goal.returns-in_err-merge_at-clause-run
returns-in_err-merge_at-clause-run g c =
    let at = c.loop-packets in
    let p = err_from_is_err_and c.from_residual.result c.from_residual.ensures.1 in
    rw (p.1, p.2)
    (ends_failed g.R.Read.remaining c.args.order c.args.sources.now at.sources c.merge_at.new.sources (output_of (g.W.Write.contents c.args.writer.now) c.args.interfaces.now) (output_of (g.W.Write.contents at.writer) at.interfaces)
    (output_of (g.W.Write.contents c.merge_at.new.writer) c.merge_at.new.interfaces) at.packets c.in-Some.place c.args.most _ c.loop-packets-test.true at.invariant.so_far c.in-Some.ensures c.in_err-merge_at.ensures)

pub loop-packets-preserved : goal.loop-packets-preserved
loop-packets-preserved g c =
    let at = c.loop-packets in record {
      so_far = going_step g.R.Read.remaining c.args.order c.args.sources.now at.sources c.merge_at.new.sources (output_of (g.W.Write.contents c.args.writer.now) c.args.interfaces.now) (output_of (g.W.Write.contents at.writer) at.interfaces)
          (output_of (g.W.Write.contents c.merge_at.new.writer) c.merge_at.new.interfaces) at.packets c.in-Some.place _ at.invariant.so_far c.in-Some.ensures c.in_ok-merge_at.ensures;
      within = omega (arith, c.loop-packets-test.true);
    }

pub returns-clause-run : goal.returns-clause-run
returns-clause-run g c =
    let at = c.loop-packets in
    let out = output_of (g.W.Write.contents at.writer) at.interfaces in
    ends_merge g.R.Read.remaining c.args.order c.args.sources.now at.sources (output_of (g.W.Write.contents c.args.writer.now) c.args.interfaces.now) out out at.packets c.args.most None at.invariant.so_far refl
    (refl, inr (omega (arith, at.invariant.within, c.loop-packets-test.false)))

pub merge_at-requires-clause-within : goal.merge_at-requires-clause-within
merge_at-requires-clause-within g c = chosen_within c.args.order c.loop-packets.sources c.in-Some.place c.in-Some.ensures.0 c.in-Some.ensures.1

pub merge_at-requires-clause-chosen : goal.merge_at-requires-clause-chosen
merge_at-requires-clause-chosen g c = (c.args.order, c.in-Some.ensures)
