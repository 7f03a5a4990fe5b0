use Rattle.std.proofs.Common.{rules, inr}
use Rattle.pcapfile_cut.specs.BlockCuts.{place_of}
use Rattle.pcapfile_cut.proofs.blocks.BlockCutter.cut_part.Goals as goal

-- src/blocks.rt:217:9
pub returns-in_err-put : goal.returns-in_err-put
returns-in_err-put g c = inr (place_of g.R.Read.remaining c.skip.new.self, c.skip.new.outcome, search rules, search rules)
