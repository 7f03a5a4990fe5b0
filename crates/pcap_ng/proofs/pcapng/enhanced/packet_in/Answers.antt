use Rattle.std.proofs.Common.{List, ℕ, subst, sym}
use Rattle.pcap_core.specs.Answer.{Order, number_in}
use Rattle.pcap_ng.specs.Enhanced.{BodyTells, MayBeRefused}
use Rattle.pcap_ng.proofs.EnhancedFrames.{same_body}
use Rattle.pcap_ng.proofs.pcapng.enhanced.packet_in.Goals as goal

pub returns-in_err-body : goal.returns-in_err-body
returns-in_err-body g c = rw c.from_residual.ensures (λ body rest frame. absurd (c.in_err-body.ensures body rest frame))

pub returns-in_err-packet : goal.returns-in_err-packet
returns-in_err-packet g c =
    let e = c.args.order in
    let found = c.in_ok-body in
    let there = subst (λ (order : Order). MayBeRefused order found.body.now) (sym c.requires) c.in_err-packet.ensures in
    rw c.from_residual-in_err-packet.ensures (λ body rest frame.
    subst (λ (b : List ℕ). MayBeRefused (number_in e) b) (same_body e c.args.slice.now found.body.now body found.rest.now rest found.ensures frame) there)

pub returns : goal.returns
returns g c =
    let body = c.in_ok-body.body.now in
    let tells = subst (λ (order : Order). BodyTells order body c.in_ok-packet.packet) (sym c.requires) c.in_ok-packet.ensures in
    record { body = body; frame = c.in_ok-body.ensures; tells = tells }
