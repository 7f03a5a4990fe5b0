use Rattle.pcap_classic.specs.Parser.{header_of}
use Rattle.pcap_damaged.specs.Heads.{head_in}
use Rattle.pcap_damaged.proofs.Texts.{head_may_follow}
use Rattle.pcap_damaged.proofs.behind.begins_near.Goals as goal

pub returns-in-Some : goal.returns-in-Some
returns-in-Some c = (
  λ yes. record { head = head_in c.in-Some.head; rest = c.in-Some._rest.now; text = c.in-Some.ensures; may = c.may_follow.ensures.0 yes },
  λ begins. c.may_follow.ensures.1 (head_may_follow (header_of c.args.parser.now) c.args.time (head_in c.in-Some.head) c.args.slice.now c.in-Some._rest.now c.in-Some.ensures begins),
)
