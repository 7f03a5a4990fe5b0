use Rattle.std.proofs.Common.{◌≡◌, ◌≤◌, ◌-◌}
use Rattle.pcap_ng.specs.Parser.{state_of}
use Rattle.capcopy_run.proofs.Turns.{Walked}
use Rattle.capcopy_run.proofs.listed_blocks.BlocksLister.list_shown.Given as goal

abbrev pub invariant-loop-listed : goal.invariant-loop-listed
invariant-loop-listed g l =
    let setting = g.L.BlockLine.setting l.fn.self.lines in
    let first = g.L.BlockLine.reached (state_of l.fn.self.parser) (g.L.BlockLine.kept l.fn.self.lines) in
    let here = g.L.BlockLine.reached (state_of l.self.parser) (g.L.BlockLine.kept l.self.lines) in
    record {
      walked : Walked (g.L.BlockLine.line setting) g.L.BlockLine.format first here l.shown l.rest (g.W.Write.contents l.fn.output) (g.W.Write.contents l.output) l.fn.listed l.listed;
      same : g.L.BlockLine.setting l.self.lines ≡ setting;
      more : l.fn.listed ≤ l.listed;
      within : l.listed ≤ l.most;
    }

abbrev pub decreases-loop-listed : goal.decreases-loop-listed
decreases-loop-listed g l = l.most - l.listed
