use Rattle.std.proofs.Common.{◌≡◌, ◌∙◌, ℕ, List, [], length, arith, refl, subst}
use Rattle.std.proofs.lemmas.List.{nil_from_length}
use Rattle.std.proofs.lemmas.Result.{err_from_is_err_and}
use Rattle.pcap_core.specs.Answer.{number_in}
use Rattle.pcap_classic.specs.Magic.{order_of, resolution_of}
use Rattle.pcap_classic.specs.Parser.{header_of}
use Rattle.pcap_classic.proofs.FieldNumbers.{head_length}
use Rattle.pcap_tolerant.specs.AsIs.{raised, numbers_of, HeadAsIsText}
use Rattle.pcap_tolerant.specs.KnownHeads.{KnowsAsIs}
use Rattle.pcap_tolerant.proofs.KnownPackets.{under_head, long_refused, head_states}
use Rattle.pcap_tolerant.proofs.stated.PacketsAsIsHasHead.stated.Goals as goal

pub returns-in_err-head : goal.returns-in_err-head
returns-in_err-head c =
    let header = header_of c.args.self.now.parser.now in
    let limit = c.args.self.now.limit in
    let bytes = c.args.bytes.now in
    let long : length bytes ≡ 16 = c.requires ∙ under_head limit header in
    let p = err_from_is_err_and c.from_residual.result c.from_residual.ensures.1 in
    rw (p.1, p.2) (long_refused limit header bytes c.in_err-head.field-0.0 long (rw (← c.header.ensures) c.in_err-head.ensures.tells))

pub returns : goal.returns
returns c =
    let header = header_of c.args.self.now.parser.now in
    let limit = c.args.self.now.limit in
    let bytes = c.args.bytes.now in
    let head = c.in_ok-head.head in
    let order = number_in (order_of header.magic_number) in
    let r = resolution_of header.magic_number in
    let rest = c.in_ok-head.field-0-0.now in
    let long : length bytes ≡ 16 = c.requires ∙ under_head limit header in
    let text : HeadAsIsText (raised limit) order r head bytes rest = rw (← c.header.ensures) c.in_ok-head.ensures.tells in
    let none : rest ≡ [] = nil_from_length rest (omega (arith, long, head_length order (numbers_of head) bytes rest text.text)) in
    let knows : KnowsAsIs limit header head head.incl_len bytes = record { text = subst (λ (l : List ℕ). HeadAsIsText (raised limit) order r head bytes l) none text; follows = refl } in
    head_states limit header head bytes knows
