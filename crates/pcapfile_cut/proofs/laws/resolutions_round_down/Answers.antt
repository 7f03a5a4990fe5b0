use Rattle.pcapfile_cut.proofs.Resolutions.{microseconds_below, nanoseconds_stay}
use Rattle.pcapfile_cut.proofs.laws.resolutions_round_down.Goals as goal

pub returns-clause-nanoseconds : goal.returns-clause-nanoseconds
returns-clause-nanoseconds c = nanoseconds_stay

pub returns-clause-microseconds : goal.returns-clause-microseconds
returns-clause-microseconds c = microseconds_below
