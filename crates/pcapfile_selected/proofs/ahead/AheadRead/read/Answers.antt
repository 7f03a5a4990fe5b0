use Rattle.std.proofs.Common.{ap, rules}
use Rattle.std.proofs.lemmas.List.{length-take-le}
use Rattle.pcapfile_selected.specs.Ahead.{held_in}
use Rattle.pcapfile_selected.proofs.ReadAhead.{read_bare, read_held}
use Rattle.pcapfile_selected.proofs.ahead.AheadRead.read.Goals as goal

pub returns-then-self-eq0-clause-bytes : goal.returns-then-self-eq0-clause-bytes
returns-then-self-eq0-clause-bytes g c = read_bare c.args.self.now.held c.args.self.now.len _ _ c.read.result c.read.new.buf (search rules) c.read.ensures.bytes

pub returns-clause-bytes : goal.returns-clause-bytes
returns-clause-bytes g c = read_held (held_in c.args.self.now) (held_in c.take.new.self) c.args.buf.now c.copy_front-count.new.buf c.copy_front-count.result _ _
    (ap g.R.Read.remaining c.take.ensures.input) (search (rules, length-take-le)) (search rules) (search rules) (search rules) (search rules)
