use Rattle.std.proofs.Common.{◌≡◌, false, refl, rules, subst, sym}
use Rattle.pcap_blocks.specs.declared.block_type.BlockType.{BlockType}
use Rattle.pcap_ng.specs.State.{is_kept}
use Rattle.pcapfile_c.proofs.WithOptions.{bytes_same, unkept_of}
use Rattle.pcapfile_c.proofs.putting_with.pcapfile_put_block.Goals as goal

pub returns : goal.returns
returns c =
    let unkept = subst (λ (t : BlockType). is_kept t ≡ false) c.from.ensures (unkept_of c.from.result c.in_default-from.not-SectionHeader c.in_default-from.not-InterfaceDescription) in
    bytes_same c.in-Some.order c.args.section.now c.args.block.now c.args.room.now c.put_parts.new.room c.args.written.now c.put_parts.new.written c.args.error.now c.put_parts.new.error c.put_parts.result c.put_parts.ensures refl refl
    (sym c.in-Some.ensures.order) (search rules) c.in-Some.ensures.counted unkept
