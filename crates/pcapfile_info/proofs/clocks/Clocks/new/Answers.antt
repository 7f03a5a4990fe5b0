use Rattle.std.proofs.Common.{◌∙◌, [], sym}
use Rattle.pcap_blocks.specs.SectionHeader.{section_of}
use Rattle.pcapfile_info.proofs.InForce.{order_within}
use Rattle.pcapfile_info.proofs.clocks.Clocks.new.Goals as goal

pub returns : goal.returns
returns c = (c.order_of.ensures ∙ sym (order_within (section_of c.args.section.now) []), rw c.new.ensures.items tt)
