use Rattle.std.proofs.Common.{◌-◌, length}
use Rattle.pcap_filter.specs.Machines.{machine_of}
use Rattle.pcap_filter.proofs.Walking.{Comes}
use Rattle.pcap_filter.proofs.filter.Filter.accepts.Given as goal

abbrev pub invariant-loop-over : goal.invariant-loop-over
invariant-loop-over l = Comes l.steps l.packet l.length l.place (machine_of l.registers l.cells)

abbrev pub decreases-loop-over : goal.decreases-loop-over
decreases-loop-over l = length l.steps - l.place
