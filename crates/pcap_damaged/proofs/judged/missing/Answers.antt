use Rattle.std.proofs.Common.{inr}
use Rattle.pcap_classic.specs.Parser.{header_of}
use Rattle.pcap_damaged.specs.Heads.{head_in}
use Rattle.pcap_damaged.specs.Judged.{IsShownBehind, WaitsForWhole}
use Rattle.pcap_damaged.proofs.judged.missing.Goals as goal

pub returns : goal.returns
returns c =
    let header = header_of c.args.parser.now in
    let whole : WaitsForWhole header c.args.time (head_in c.in-Some.head) c.in-Some.data.now → ⊥ = λ waits. (let is = c.waits_for_whole.ensures.1 waits in absurd cc) in
    let shown : IsShownBehind header c.args.time c.in-Some.head.included c.in-Some.data.now → ⊥ = λ behind. (let is = c.is_shown_behind.ensures.1 behind in absurd cc) in
    inr (head_in c.in-Some.head, c.in-Some.data.now, c.in-Some.ensures, inr (whole, shown, c.lacking-2.ensures))
