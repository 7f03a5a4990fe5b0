use Rattle.std.proofs.Common.{◌≡◌, map, take}
use Rattle.serde_json.specs.View.{view}
use Rattle.pcapfile_shown.specs.Json.{number_data}
use Rattle.pcapfile_shown.proofs.members.numbers.Given as goal

abbrev pub invariant-loop-count : goal.invariant-loop-count
invariant-loop-count l = map view l.values.items ≡ map number_data (take l.count-index l.counts)
