use Rattle.std.proofs.Common.{◌+◌, ℕ, List, subst, refl, arith, inr, None, Some}
use Rattle.pcap_core.specs.Answer.{number_in}
use Rattle.pcap_classic.specs.Magic.{order_of}
use Rattle.pcap_classic.specs.Parser.{header_of}
use Rattle.pcap_classic.proofs.FieldNumbers.{head_length}
use Rattle.pcap_damaged.specs.Heads.{head_in}
use Rattle.pcap_damaged.specs.Judged.{Counts}
use Rattle.pcap_damaged.specs.Plausible.{FirstBefore, GoesOn}
use Rattle.pcap_damaged.proofs.Judging.{sliced}
use Rattle.pcap_damaged.proofs.judged.judge_wrong.Goals as goal

pub returns-in-Some-resync : goal.returns-in-Some-resync
returns-in-Some-resync c =
    let s = c.args.slice.now in
    let header = header_of c.args.parser.now in
    let found = Some c.in-Some-resync.place in
    let first = subst (λ (t : List ℕ). FirstBefore (GoesOn header c.args.time) (c.in-Some.head.included + 15) t found) (sliced 1 s (omega (arith, head_length (number_in (order_of header.magic_number)) (head_in c.in-Some.head) s c.in-Some._data.now c.in-Some.ensures))) c.in-Some-resync.ensures in
    (c.in-Some-resync.place, record { weight = c.requires; head = head_in c.in-Some.head; bytes = c.in-Some._data.now; text = c.in-Some.ensures; first = first }, refl)

pub returns-in-None : goal.returns-in-None
returns-in-None c =
    let s = c.args.slice.now in
    let header = header_of c.args.parser.now in
    let first = subst (λ (t : List ℕ). FirstBefore (GoesOn header c.args.time) (c.in-Some.head.included + 15) t None) (sliced 1 s (omega (arith, head_length (number_in (order_of header.magic_number)) (head_in c.in-Some.head) s c.in-Some._data.now c.in-Some.ensures))) c.in-None.ensures in
    let is : Counts header s (head_in c.in-Some.head) = c.counts.ensures.0 cc in
    inr (record { weight = c.requires; head = head_in c.in-Some.head; bytes = c.in-Some._data.now; text = c.in-Some.ensures; first = first }, is)

pub returns-in-None-2 : goal.returns-in-None-2
returns-in-None-2 c =
    let s = c.args.slice.now in
    let header = header_of c.args.parser.now in
    let first = subst (λ (t : List ℕ). FirstBefore (GoesOn header c.args.time) (c.in-Some.head.included + 15) t None) (sliced 1 s (omega (arith, head_length (number_in (order_of header.magic_number)) (head_in c.in-Some.head) s c.in-Some._data.now c.in-Some.ensures))) c.in-None-2.ensures in
    let not : Counts header s (head_in c.in-Some.head) → ⊥ = λ is. (let yes = c.counts.ensures.1 is in absurd cc) in
    inr (record { weight = c.requires; head = head_in c.in-Some.head; bytes = c.in-Some._data.now; text = c.in-Some.ensures; first = first }, not)
