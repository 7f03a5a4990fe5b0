use Rattle.std.proofs.Common.{◌∙◌, sym}
use Rattle.pcap_filter.proofs.Results.{run_gives}
use Rattle.pcap_filter.proofs.laws.results_are_unique.Goals as goal

pub returns : goal.returns
returns c steps packet original value other run run_too = run_gives packet original steps value run ∙ sym (run_gives packet original steps other run_too)
