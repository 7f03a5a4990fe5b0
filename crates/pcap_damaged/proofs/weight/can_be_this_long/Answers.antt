use Rattle.pcap_classic.specs.Parser.{header_of}
use Rattle.pcap_damaged.specs.Heads.{head_in}
use Rattle.pcap_damaged.proofs.Texts.{head_can_be}
use Rattle.pcap_damaged.proofs.weight.can_be_this_long.Goals as goal

pub returns-in-Some : goal.returns-in-Some
returns-in-Some c = (
  λ yes. record { head = head_in c.in-Some.head; rest = c.in-Some._data.now; text = c.in-Some.ensures; can = c.can_be.ensures.0 yes },
  λ can. c.can_be.ensures.1 (head_can_be (header_of c.args.parser.now) c.args.time (head_in c.in-Some.head) c.args.slice.now c.in-Some._data.now c.args.n c.in-Some.ensures can),
)
