use Rattle.std.proofs.Common.{sym, ◌∙◌}
use Rattle.pcap_core.proofs.Links.{link_of, plain_same}
use Rattle.pcap_classic.proofs.laws.link_keeps_its_number.Goals as goal

pub returns : goal.returns
returns c = λ n.
    let link = link_of n in
    record { value = link.0; holds = link.1; only = λ other given. plain_same other link.0 given.plain link.1.plain (given.number ∙ sym link.1.number) }
