use Rattle.pcapfile_info.proofs.Alone.{alone_none}
use Rattle.pcapfile_info.proofs.passing.tell_packets.Goals as goal

pub pass_packets-requires-clause-nothing : goal.pass_packets-requires-clause-nothing
pass_packets-requires-clause-nothing g c = alone_none c.args.progress.now.totals c.requires.nothing

pub give_to_the_interface-requires : goal.give_to_the_interface-requires
give_to_the_interface-requires g c = c.pass_packets.ensures.tells.kept.described

pub returns-clause-tells : goal.returns-clause-tells
returns-clause-tells g c =
    let tells = c.pass_packets.ensures.tells in
    rw c.err-fault.ensures.value (record {
      items = tells.items;
      run = tells.run;
      number = tells.number;
      bytes = tells.bytes;
      sights = tells.sights;
      are_sights = tells.are_sights;
      kept = c.give_to_the_interface.ensures tells.items tells.sights tells.are_sights tells.kept;
    })
