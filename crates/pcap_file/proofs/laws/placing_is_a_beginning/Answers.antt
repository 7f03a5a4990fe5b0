use Rattle.pcap_file.proofs.PlacedPart.{begins_whole, placing_begins}
use Rattle.pcap_file.proofs.laws.placing_is_a_beginning.Goals as goal

pub returns-clause-begins : goal.returns-clause-begins
returns-clause-begins c = λ header choice bytes a b c d most converted known run. placing_begins header choice bytes a b c d known most converted run

pub returns-clause-whole : goal.returns-clause-whole
returns-clause-whole c = λ header choice turns bytes a b c d most converted known row last run.
    let x = placing_begins header choice bytes a b c d known most converted run in
    let on = begins_whole header choice a.state bytes x.0 turns row last x.2 in
    (x.0, on.0, on.1, x.1)
