use Rattle.std.proofs.Common.{List, ℕ, subst}
use Rattle.capcopy_run.specs.Runs.{RunsBuffered}
use Rattle.capcopy_run.proofs.AskedWords.{nothing_runs}
use Rattle.capcopy_run.proofs.words.run_asked.Goals as goal

pub returns-in-Nothing : goal.returns-in-Nothing
returns-in-Nothing g c = λ words nothing. nothing_runs words 4294967295 (g.R.Read.remaining c.args.input) (g.W.Write.contents c.args.output.now) (rw c.in-Nothing.is at nothing)

pub returns-in-One : goal.returns-in-One
returns-in-One g c = λ words are.
    subst (λ (ws : List (List ℕ)). RunsBuffered ws 4294967295 (g.R.Read.remaining c.args.input) (g.W.Write.contents c.args.output.now) (g.W.Write.contents c.run_texts.new.output) c.run_texts.result) (rw c.in-One.is at are) c.run_texts.ensures

pub returns-in-Two : goal.returns-in-Two
returns-in-Two g c = λ words are.
    subst (λ (ws : List (List ℕ)). RunsBuffered ws 4294967295 (g.R.Read.remaining c.args.input) (g.W.Write.contents c.args.output.now) (g.W.Write.contents c.run_texts-in-Two.new.output) c.run_texts-in-Two.result) (rw c.in-Two.is at are) c.run_texts-in-Two.ensures

pub returns-in-Three : goal.returns-in-Three
returns-in-Three g c = λ words are.
    subst (λ (ws : List (List ℕ)). RunsBuffered ws 4294967295 (g.R.Read.remaining c.args.input) (g.W.Write.contents c.args.output.now) (g.W.Write.contents c.run_texts-in-Three.new.output) c.run_texts-in-Three.result) (rw c.in-Three.is at are) c.run_texts-in-Three.ensures
