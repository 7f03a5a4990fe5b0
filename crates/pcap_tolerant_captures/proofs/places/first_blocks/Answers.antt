use Rattle.std.proofs.Common.{drop, refl, sym, subst, arith, inl, inr}
use Rattle.std.proofs.lemmas.List.{length-drop}
use Rattle.pcap_ng.specs.Frames.{framed_of}
use Rattle.pcap_ng.proofs.Frames.{frame_long}
use Rattle.pcap_tolerant_captures.specs.Resync.{BlocksStand}
use Rattle.pcap_tolerant_captures.proofs.KnownBlocks.{sliced, refused_there, first_there}
use Rattle.pcap_tolerant_captures.proofs.places.first_blocks.Goals as goal

pub returns-in-Ok : goal.returns-in-Ok
returns-in-Ok c = record {
  first = c.in-Some.first;
  blocks = first_there c.args.order c.args.bytes.now c.in-Some.first c.in-Some.ensures (framed_of c.in-Ok.block) c.in-Ok._behind.now c.in-Ok.ensures.tells;
  chosen = inl (refl, inl (c.is_known.ensures.0 cc));
}

pub first_inside-requires-clause-left : goal.first_inside-requires-clause-left
first_inside-requires-clause-left c =
    let s = c.args.bytes.now in
    let block = framed_of c.in-Ok.block in
    let rest = c.in-Ok._behind.now in
    let there = first_there c.args.order s c.in-Some.first c.in-Some.ensures block rest c.in-Ok.ensures.tells in
    omega (arith, frame_long c.args.order block (drop c.in-Some.first s) rest there.frame, length-drop c.in-Some.first s)

pub returns-in-Some-first_inside : goal.returns-in-Some-first_inside
returns-in-Some-first_inside c = record {
  first = c.in-Some.first;
  blocks = first_there c.args.order c.args.bytes.now c.in-Some.first c.in-Some.ensures (framed_of c.in-Ok.block) c.in-Ok._behind.now c.in-Ok.ensures.tells;
  chosen = inr ((λ known. let is = c.is_known.ensures.1 known in absurd cc), c.in-Some-first_inside.ensures);
}

pub returns-in-Ok-2 : goal.returns-in-Ok-2
returns-in-Ok-2 c = record {
  first = c.in-Some.first;
  blocks = first_there c.args.order c.args.bytes.now c.in-Some.first c.in-Some.ensures (framed_of c.in-Ok.block) c.in-Ok._behind.now c.in-Ok.ensures.tells;
  chosen = inl (refl, inr c.in-None.ensures);
}

pub returns : goal.returns
returns c =
    let whole = sliced c.args.order c.args.bytes.now c.in-Some.first (omega (arith, c.in-Some.ensures.0)) in
    absurd (refused_there c.args.order _ c.in-Err._error c.in-Err.ensures.tells (subst (BlocksStand c.args.order 2) (sym whole) c.in-Some.ensures.1))
