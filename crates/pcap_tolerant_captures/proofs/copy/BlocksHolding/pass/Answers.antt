use Rattle.pcap_ng.specs.Frames.{framed_of}
use Rattle.pcap_tolerant_captures.specs.State.{section_in_force, interfaces_in_force}
use Rattle.pcap_tolerant_captures.proofs.Copied.{none_opens, other_stands, passes_block, refused_stands}
use Rattle.pcap_tolerant_captures.proofs.copy.BlocksHolding.pass.Goals as goal

pub returns-in_default : goal.returns-in_default
returns-in_default c = none_opens c.args.place.now c.in_default.not-Some c.args.bytes.now

pub returns-then-leaves_in_force : goal.returns-then-leaves_in_force
returns-then-leaves_in_force c =
    let parser = c.in-Some.parser in
    rw c.in-Some.is (passes_block (section_in_force parser) (interfaces_in_force parser) c.order.result c.order.ensures c.args.bytes.now (framed_of c.in-Ok.block) c.in-Ok.after.now c.in-Ok.ensures.tells (c.leaves_in_force.ensures.0 c.if-leaves_in_force.true))

pub returns-in-Ok : goal.returns-in-Ok
returns-in-Ok c =
    let parser = c.in-Some.parser in
    rw c.in-Some.is (other_stands (section_in_force parser) (interfaces_in_force parser) c.order.result c.order.ensures c.args.bytes.now (framed_of c.in-Ok.block) c.in-Ok.after.now c.in-Ok.ensures.tells (λ role. let is = c.leaves_in_force.ensures.1 role in absurd cc))

pub returns : goal.returns
returns c =
    let parser = c.in-Some.parser in
    rw c.in-Some.is (refused_stands (section_in_force parser) (interfaces_in_force parser) c.order.result c.order.ensures c.args.bytes.now c.in-Err._error c.in-Err.ensures.tells)
