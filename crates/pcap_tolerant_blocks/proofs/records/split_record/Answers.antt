use Rattle.std.proofs.Common.{arith}
use Rattle.pcap_options.proofs.ReadOptions.{head_is}
use Rattle.pcap_tolerant_blocks.specs.NamesAsIs.{no_head, no_bytes}
use Rattle.pcap_tolerant_blocks.proofs.records.split_record.Goals as goal

pub returns-then-slice-lt4 : goal.returns-then-slice-lt4
returns-then-slice-lt4 g c = no_head (omega arith)

pub returns-in_default : goal.returns-in_default
returns-in_default g c = no_bytes _ _ _ (head_is c.split_u16-type_.ensures.number c.split_u16-len.ensures.number) c.in_default.ensures.len
