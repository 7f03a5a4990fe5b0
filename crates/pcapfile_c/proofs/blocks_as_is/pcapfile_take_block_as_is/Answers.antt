use Rattle.std.proofs.Common.{refl, inr}
use Rattle.pcap_core.specs.declared.rules.Rule.TheVariants.{SectionMagic}
use Rattle.pcap_tolerant_captures.specs.Blocks.{AsIsSays}
use Rattle.pcapfile_c.specs.BlocksAsIs.{MayGrow}
use Rattle.pcapfile_c.proofs.Refused.{tells_named, tells_refusal_where}
use Rattle.pcapfile_c.proofs.blocks_as_is.pcapfile_take_block_as_is.Goals as goal

pub returns-in-Err-clause-refused : goal.returns-in-Err-clause-refused
returns-in-Err-clause-refused c none =
    let told = tells_named SectionMagic c.in-Err.e c.tell.new.told c.tell.result (c.in-Err.ensures.refused none) c.tell.ensures in
    (told.0, told.1, refl, refl, refl, refl)

pub returns-in-Err-clause-taken : goal.returns-in-Err-clause-taken
returns-in-Err-clause-taken c q shows =
    let s = c.args.left.now.bytes.now in
    inr (refl, refl, refl, refl, tells_refusal_where (MayGrow q s) (AsIsSays q s) c.in-Err.e c.tell.new.told c.tell.result (c.in-Err.ensures.said q shows) c.tell.ensures)
