use Rattle.std.proofs.Common.{refl, w32, to_z, of_z}
use Rattle.pcap_ng.specs.Blocks.{BlockSays, MayGrow}
use Rattle.pcap_ng.specs.State.{opening}
use Rattle.pcapfile_c.proofs.Passing.{block_stops, first_bases, first_puts, shows_state}
use Rattle.pcapfile_c.proofs.Refused.{tells_refusal_where}
use Rattle.pcapfile_c.proofs.push_packets.take_first.Goals as goal

pub returns-in-Ok-clause-taken : goal.returns-in-Ok-clause-taken
returns-in-Ok-clause-taken c q places shows =
    let section = c.args.section.now in
    let x = c.in-Ok.ensures.said q (shows_state q section places shows) in
    (refl, first_puts q section _ places c.args.left.now.bytes.now _ x.0 shows c.requires x.3 x.2)

pub returns-in-Err-clause-taken : goal.returns-in-Err-clause-taken
returns-in-Err-clause-taken c q places shows =
    let section = c.args.section.now in
    let s = c.args.left.now.bytes.now in
    let refused = tells_refusal_where (MayGrow q s) (BlockSays q s) c.in-Err.e c.tell.new.told c.tell.result (c.in-Err.ensures.said q (shows_state q section places shows)) c.tell.ensures in
    (refl, refl, refl, block_stops q section places s c.args.error.now c.tell.new.told (to_z w32 (of_z w32 c.tell.result)) refused)

pub returns-in-Ok-clause-bases : goal.returns-in-Ok-clause-bases
returns-in-Ok-clause-bases c places had =
    let said = c.in-Ok.ensures.said in
    first_bases c.args.section.now _ places c.args.left.now.bytes.now _ c.requires c.in-Ok.ensures.refused (λ none. let x = said opening none in (x.0, x.2, x.3))
