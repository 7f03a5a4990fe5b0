use Rattle.std.proofs.Common.{refl}
use Rattle.pcapfile_c.proofs.Passing.{no_bases, section_puts_block, section_stops}
use Rattle.pcapfile_c.proofs.push_packets.take_section.Goals as goal

pub returns-in-Ok-clause-taken : goal.returns-in-Ok-clause-taken
returns-in-Ok-clause-taken c q places shows text =
    (refl, section_puts_block q _ places c.args.body.now c.args.left.now.bytes.now c.args.rest.now text c.in-Ok.ensures)

pub returns-in-Err-clause-taken : goal.returns-in-Err-clause-taken
returns-in-Err-clause-taken c q places shows text =
    (refl, refl, refl, section_stops q c.args.section.now places c.args.body.now c.args.left.now.bytes.now c.args.rest.now c.in-Err.e c.args.error.now c.tell.new.told c.tell.result text c.in-Err.ensures c.tell.ensures)

pub returns-in-Ok-clause-bases : goal.returns-in-Ok-clause-bases
returns-in-Ok-clause-bases c places had = no_bases c.in-Ok.next places c.in-Ok.ensures.4
