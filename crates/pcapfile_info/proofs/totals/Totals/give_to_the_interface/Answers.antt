use Rattle.std.proofs.Common.{refl}
use Rattle.pcapfile_info.proofs.Alone.{given_to_it}
use Rattle.pcapfile_info.proofs.totals.Totals.give_to_the_interface.Goals as goal

pub returns : goal.returns
returns c = λ packets sights are before. given_to_it packets sights are c.args.self.now _ _ before refl refl refl refl refl refl refl
