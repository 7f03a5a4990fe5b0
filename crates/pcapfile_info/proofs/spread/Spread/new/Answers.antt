use Rattle.std.proofs.Common.{refl}
use Rattle.pcapfile_info.proofs.Spans.{new_rows}
use Rattle.pcapfile_info.proofs.spread.Spread.new.Goals as goal

pub returns : goal.returns
returns c = new_rows c.args.instant _ c.slot_of.result c.slot_of.ensures.within c.slot_of.ensures.place refl refl refl refl
