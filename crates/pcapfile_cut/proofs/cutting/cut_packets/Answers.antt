use Rattle.std.proofs.Common.{◌≡◌, ◌∙◌, [], ◌∷◌, ◌++◌, true, false, sym}
use Rattle.std.proofs.lemmas.Result.{err_from_is_err_and}
use Rattle.pcapfile_cut.proofs.Chosen.{recent_none}
use Rattle.pcapfile_cut.proofs.Passing.{ends_at_once, ends_refused, lacks_memory, passes_more, passes_none, recent_more}
use Rattle.pcapfile_cut.proofs.cutting.cut_packets.Goals as goal

pub returns-then-not-wants_more : goal.returns-then-not-wants_more
returns-then-not-wants_more g c = ends_at_once c.args.header.now c.args.wanted _ _ c.args.outcome.now c.requires.new (λ more.
    let yes : c.wants_more.result ≡ true = c.wants_more.ensures.1 more in
    let no : c.wants_more.result ≡ false = c.if-not-wants_more.true in
    absurd cc)

pub returns-in_err-recent : goal.returns-in_err-recent
returns-in_err-recent g c =
    let p = err_from_is_err_and c.from_residual.result c.from_residual.ensures.1 in
    rw (p.1, p.2) (lacks_memory c.args.header.now c.args.wanted _ _ c.args.outcome.now _ c.requires.new (c.wants_more.ensures.0 c.if-not-wants_more.false) tt)

pub loop-cut-init : goal.loop-cut-init
loop-cut-init g c = record {
  packets = [];
  passes = passes_none c.args.header.now c.args.wanted _ _ c.args.outcome.now c.requires.new.packets c.requires.new.bytes c.requires.new.duplicates c.requires.new.unmoved;
  between = c.new-held.ensures.held;
  recent = c.in_ok-recent.ensures.none ∙ sym (recent_none c.args.wanted);
  most = c.in_ok-recent.ensures.most ∙ c.dedup.ensures;
  read = c.requires.new.no_read_failed;
  wrote = c.requires.new.no_write_failed;
}

pub returns-in_err-cut_next : goal.returns-in_err-cut_next
returns-in_err-cut_next g c =
    let p = err_from_is_err_and c.from_residual-in_err-cut_next.result c.from_residual-in_err-cut_next.ensures.1 in
    let i = c.loop-cut.invariant in
    rw (p.1, p.2) (ends_refused c.args.header.now c.args.wanted i.packets _ _ _ _ _ i.recent i.passes (c.wants_more-in-loop-cut.ensures.0 c.loop-cut-test.true) c.in_err-cut_next.ensures.steps)

pub loop-cut-preserved : goal.loop-cut-preserved
loop-cut-preserved g c =
    let i = c.loop-cut.invariant in
    let one = rw c.if-not-branch.false at c.in_ok-cut_next.ensures.steps in
    record {
      packets = i.packets ++ one.stored ∷ [];
      passes = passes_more c.args.header.now c.args.wanted i.packets _ _ _ _ i.recent i.passes (c.wants_more-in-loop-cut.ensures.0 c.loop-cut-test.true) one;
      between = c.in_ok-cut_next.ensures.between;
      recent = recent_more c.args.header.now c.args.wanted i.packets _ _ i.recent i.passes.count one;
      most = c.in_ok-cut_next.ensures.most ∙ i.most;
      read = one.no_read_failed;
      wrote = one.no_write_failed;
    }
