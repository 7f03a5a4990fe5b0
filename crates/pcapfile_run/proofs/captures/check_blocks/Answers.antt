use Rattle.std.proofs.Common.{ap, length, rules}
use Rattle.pcap_ng.specs.Ahead.{state_of, text_of}
use Rattle.pcap_ng.specs.Blocks.{block_format}
use Rattle.pcap_ng.proofs.BlockFormat.{blocks_lawful}
use Rattle.pcapfile_run.proofs.Told.{blocks_refused, blocks_passed}
use Rattle.pcapfile_run.proofs.captures.check_blocks.Goals as goal

pub check_behind-requires-clause-lawful : goal.check_behind-requires-clause-lawful
check_behind-requires-clause-lawful g c = blocks_lawful

pub returns-in-Err : goal.returns-in-Err
returns-in-Err g c = blocks_refused block_format (g.R.Read.remaining c.args.input) c.in-Err.error c.unopened.result c.in-Err.ensures.refused c.unopened.ensures

pub returns : goal.returns
returns g c =
    blocks_passed block_format blocks_lawful (g.R.Read.remaining c.args.input) (g.R.Read.remaining c.open.new.input) (g.R.Read.remaining c.check_behind.new.input) (text_of c.in-Ok.blocks) (state_of c.in-Ok.blocks)
    (length c.text.result.now) (ap length c.text.ensures) (search rules) c.check_behind.result c.in-Ok.ensures.takes (rw c.clear.ensures.state at c.check_behind.ensures)
