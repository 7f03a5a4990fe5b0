use Rattle.std.proofs.Common.{List, ℕ}
use Rattle.capcopy_run.specs.Runs.{AreTexts, RunsBuffered}
use Rattle.capcopy_run.proofs.AskedWords.{known_words}
use Rattle.capcopy_run.proofs.words.run_words.Goals as goal

pub returns : goal.returns
returns g c =
    known_words (λ (words : List (List ℕ)). RunsBuffered words 4294967295 (g.R.Read.remaining c.args.input) (g.W.Write.contents c.args.output.now) (g.W.Write.contents c.run_asked.new.output) c.run_asked.result)
    (λ (words : List (List ℕ)). AreTexts words c.texts_in-texts.result) (g.E.Words.words c.args.words.now) c.texts_in-texts.ensures c.run_asked.ensures
