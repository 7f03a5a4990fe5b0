use Rattle.pcapfile_merge.proofs.TurnedOptions.{list_kept, list_turned, list_was}
use Rattle.pcapfile_merge.proofs.laws.kept_options_are_the_same.Goals as goal

pub returns-clause-kept : goal.returns-clause-kept
returns-clause-kept c = list_kept

pub returns-clause-same : goal.returns-clause-same
returns-clause-same c = list_turned

pub returns-clause-only : goal.returns-clause-only
returns-clause-only c = list_was
