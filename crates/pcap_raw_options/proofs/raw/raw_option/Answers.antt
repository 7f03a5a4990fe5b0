use Rattle.std.proofs.Common.{arith}
use Rattle.pcap_options.specs.Options.{short, cut}
use Rattle.pcap_options.proofs.ReadOptions.{head_is}
use Rattle.pcap_raw_options.proofs.raw.raw_option.Goals as goal

pub returns-then-slice-lt4-clause-tells : goal.returns-then-slice-lt4-clause-tells
returns-then-slice-lt4-clause-tells g c = short (omega arith)

pub returns-in_default-clause-tells : goal.returns-in_default-clause-tells
returns-in_default-clause-tells g c =
    cut _ _ _ (head_is c.split_u16-code.ensures.number c.split_u16-len.ensures.number) c.if-code-eq0.false c.in_default.ensures.len
