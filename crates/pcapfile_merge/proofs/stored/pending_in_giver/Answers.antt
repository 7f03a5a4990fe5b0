use Rattle.std.proofs.Common.{◌∙◌, map, sym}
use Rattle.pcap_blocks.specs.InterfaceDescription.{interface_of}
use Rattle.pcap_ng.specs.Frames.{framed_of}
use Rattle.pcapfile_merge.proofs.Bodies.{gives_kept, kept_or_ends}
use Rattle.pcapfile_merge.proofs.stored.pending_in_giver.Goals as goal

pub returns-clause-tells : goal.returns-clause-tells
returns-clause-tells c =
    let interfaces = map interface_of c.args.interfaces.now in
    let block = framed_of c.args.block.now in
    let is = gives_kept interfaces block c.requires.gives (sym c.holds_packet.ensures ∙ c.if-holds_packet.false) (sym c.is_interface.ensures ∙ c.if-is_interface.false) in
    kept_or_ends c.args.numbers.now interfaces block c.keep.new.self c.keep.result is c.keep.ensures.keeps

pub returns-then-is_interface-clause-tells : goal.returns-then-is_interface-clause-tells
returns-then-is_interface-clause-tells c = c.pending_in_interface.ensures.tells c.args.numbers.now (map interface_of c.args.interfaces.now)
