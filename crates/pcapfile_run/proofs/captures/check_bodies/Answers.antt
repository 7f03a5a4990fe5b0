use Rattle.std.proofs.Common.{ap, length, rules}
use Rattle.pcap_ng.specs.Ahead.{state_of, text_of}
use Rattle.pcapfile_run.specs.SoundBlocks.{sound_blocks}
use Rattle.pcapfile_run.proofs.SoundBlocks.{sound_lawful}
use Rattle.pcapfile_run.proofs.Told.{blocks_refused, blocks_passed}
use Rattle.pcapfile_run.proofs.captures.check_bodies.Goals as goal

pub check_behind-requires-clause-lawful : goal.check_behind-requires-clause-lawful
check_behind-requires-clause-lawful g c = sound_lawful

pub returns-in-Err : goal.returns-in-Err
returns-in-Err g c = blocks_refused sound_blocks (g.R.Read.remaining c.args.input) c.in-Err.error c.unopened.result c.in-Err.ensures.refused c.unopened.ensures

pub returns : goal.returns
returns g c =
    blocks_passed sound_blocks sound_lawful (g.R.Read.remaining c.args.input) (g.R.Read.remaining c.open.new.input) (g.R.Read.remaining c.check_behind.new.input) (text_of c.in-Ok.blocks) (state_of c.in-Ok.blocks)
    (length c.text.result.now) (ap length c.text.ensures) (search rules) c.check_behind.result c.in-Ok.ensures.takes (rw (c.new.ensures, c.clear.ensures.state) at c.check_behind.ensures)
