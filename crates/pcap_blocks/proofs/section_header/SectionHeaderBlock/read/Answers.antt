use Rattle.std.proofs.Common.{arith}
use Rattle.pcap_blocks.specs.SectionHeader.{short, no_magic}
use Rattle.pcap_blocks.proofs.Bodies.{section_tells, big_magic, little_magic, no_magic_order}
use Rattle.pcap_blocks.proofs.section_header.SectionHeaderBlock.read.Goals as goal

pub returns-then-slice-lt16-clause-tells : goal.returns-then-slice-lt16-clause-tells
returns-then-slice-lt16-clause-tells c = short (omega arith)

pub returns-in-439041101-clause-tells : goal.returns-in-439041101-clause-tells
returns-in-439041101-clause-tells c =
    section_tells _ _ _ _ c.split_u32-magic.ensures.number (big_magic _ c.in-439041101.is) c.read_after.result c.read_after.ensures.tells

pub returns-in-1295788826-clause-tells : goal.returns-in-1295788826-clause-tells
returns-in-1295788826-clause-tells c =
    section_tells _ _ _ _ c.split_u32-magic.ensures.number (little_magic _ c.in-1295788826.is) c.read_after-in-1295788826.result c.read_after-in-1295788826.ensures.tells

pub returns-in_default-clause-tells : goal.returns-in_default-clause-tells
returns-in_default-clause-tells c = no_magic _ _ (omega arith) c.split_u32-magic.ensures.number (no_magic_order _ (λ e. omega arith) (λ e. omega arith))
