use Rattle.std.proofs.Common.{inl, inr, refl, rules}
use Rattle.std.proofs.KnownBytes.{Keeps-refl}
use Rattle.pcapfile_selected.specs.SelectedBlocks.{place_of, run}
use Rattle.pcapfile_selected.proofs.blocks.BlockSource.put_selected.Goals as goal

pub returns-in_err-pass_to : goal.returns-in_err-pass_to
returns-in_err-pass_to g c = inl (
  c.in_err-pass_to.field-0.0,
  search rules,
  record { passes = search rules; same = search rules; wrote = Keeps-refl _ },
)

pub returns-in_err-put : goal.returns-in_err-put
returns-in_err-put g c = inr (record {
  b = place_of g.R.Read.remaining c.pass_to.new.self;
  mid = run c.pass_to.new.choosing (g.W.Write.contents c.args.output.now) c.pass_to.new.outcome;
  passes = c.in_ok-pass_to.ensures.passes;
  same = c.in_ok-pass_to.ensures.chooses;
  unwritten = refl;
  opens = inr (search rules);
})

pub returns : goal.returns
returns g c = inr (record {
  b = place_of g.R.Read.remaining c.pass_to.new.self;
  mid = run c.pass_to.new.choosing (g.W.Write.contents c.args.output.now) c.pass_to.new.outcome;
  passes = c.in_ok-pass_to.ensures.passes;
  same = c.in_ok-pass_to.ensures.chooses;
  unwritten = refl;
  opens = inl (g.W.Write.contents c.put.new.writer, search rules, search rules);
})
