use Rattle.std.proofs.Common.{◌≡◌, ◌<◌, ◌≤◌, ◌+◌, ◌∷◌, [], length, drop, refl, sym, arith, rules}
use Rattle.std.specs.Prelude.{None}
use Rattle.std.proofs.lemmas.List.{map-append}
use Rattle.pcap_ng.specs.Blocks.{block_format}
use Rattle.pcap_ng.specs.Parser.{state_of}
use Rattle.pcap_ng.proofs.BlockFormat.{blocks_lawful}
use Rattle.pcap_parts.specs.declared.cut_ng.NgCut.{NgCut}
use Rattle.pcap_parts.specs.NgParts.{IsWalked, ResumesAt, bounds_of}
use Rattle.pcap_parts.proofs.Parted.{parted_begin, parted_enough, parted_more, parted_stops}
use Rattle.pcap_parts.proofs.Cutting.{each_push}
use Rattle.pcap_parts.proofs.Walking.{all_resume_further, passes_behind, place_of, resumes_here}
use Rattle.pcap_parts.specs.Places.{IsPlaced, TellsPlaces}
use Rattle.pcap_parts.proofs.Placing.{all_tell_further, stand_before, tell_all, tells_here}
use Rattle.pcap_parts.proofs.cut_ng.cut_blocks.Goals as goal

pub overflow_sub-bytes : goal.overflow_sub-bytes
overflow_sub-bytes c = (place_of c.args.bytes.now c.args.slice.now c.requires.walked.items c.requires.walked.texts).1

pub loop-wanted-init : goal.loop-wanted-init
loop-wanted-init c =
    let bytes = c.args.bytes.now in
    let s = c.args.slice.now in
    let walk = c.args.walk.now in
    let q = state_of walk.parser in
    let cut = c.cut_at.result in
    let fits = (place_of bytes s c.requires.walked.items c.requires.walked.texts).1 in
    let walked : IsWalked bytes s q cut.header (drop cut.first walk.interfaces.items) = rw (c.cut_at.ensures.header, c.cut_at.ensures.interfaces.0) c.requires.walked in
    let here : ResumesAt bytes walk.interfaces.items q s cut =
    resumes_here bytes q s s q walk.interfaces.items [] walk.header (drop walk.first walk.interfaces.items) cut c.requires.walked walked refl (sym c.cut_at.ensures.at.1)
    (omega (arith, c.cut_at.ensures.at.0, fits)) (omega (arith, c.cut_at.ensures.interfaces.0, c.requires.within)) (omega (arith, c.cut_at.ensures.interfaces.0, c.cut_at.ensures.interfaces.1)) in
    let placed : IsPlaced bytes s q cut.header cut.first walk.interfaces.items = rw (c.cut_at.ensures.header, c.cut_at.ensures.interfaces.0) c.requires.placed in
    let tells = tells_here bytes s walk.interfaces.items q cut placed (omega (arith, c.cut_at.ensures.at.0, fits)) (omega (arith, c.cut_at.ensures.interfaces.0, c.cut_at.ensures.interfaces.1)) in
    record {
      so_far = rw (c.in_ok-push.ensures.items, c.new-cuts.ensures.items) (parted_begin block_format blocks_lawful q s (length bytes) fits c.args.parting c.requires.some cut.at c.cut_at.ensures.at.0 c.cut_at.ensures.at.1);
      walked = c.requires.walked;
      inside = c.requires.within;
      placed = c.requires.placed;
      before = rw (c.in_ok-push.ensures.items, c.new-cuts.ensures.items) (omega (arith, c.cut_at.ensures.at.0, fits), tt);
      each = rw (c.in_ok-push.ensures.items, c.new-cuts.ensures.items) (tells, tt);
      resume = rw (c.in_ok-push.ensures.items, c.new-cuts.ensures.items) (here, tt);
    }

pub returns-then-is_some-clause-asked : goal.returns-then-is_some-clause-asked
returns-then-is_some-clause-asked c =
    let bytes = c.args.bytes.now in
    let s = c.args.slice.now in
    let walk = c.args.walk.now in
    let now = c.loop-wanted.walk in
    let inv = c.loop-wanted.invariant in
    let left = c.loop-wanted.left.now in
    let passed = c.in_ok-items.field-0 in
    let q = state_of walk.parser in
    let fits = (place_of bytes s c.requires.walked.items c.requires.walked.texts).1 in
    let p = passes_behind bytes s left passed.after.now q (state_of now.parser) walk.header now.header (drop walk.first walk.interfaces.items) (drop now.first now.interfaces.items) inv.so_far.cutting.items c.in-Some.wanted passed.items
    passed.rest c.requires.walked inv.so_far.cutting.texts inv.walked c.in_ok-items.ensures.passes in
    let empty : passed.rest ≡ None → length passed.after.now ≡ 0 = λ none. search rules in
    parted_stops block_format blocks_lawful q s (length bytes) fits c.args.parting c.requires.some left passed.after.now c.loop-wanted.before c.in-Some.wanted passed.items (bounds_of c.loop-wanted.cuts.items) passed.rest inv.so_far
    c.in-Some.ensures p empty

pub returns-then-is_some-clause-resume : goal.returns-then-is_some-clause-resume
returns-then-is_some-clause-resume c =
    all_resume_further c.args.bytes.now (state_of c.args.walk.now.parser) c.args.slice.now c.loop-wanted.walk.interfaces.items c.skip.new.self.interfaces.items c.loop-wanted.cuts.items c.skip.ensures.goes_on
    c.loop-wanted.invariant.resume

pub loop-wanted-preserved : goal.loop-wanted-preserved
loop-wanted-preserved c =
    let bytes = c.args.bytes.now in
    let s = c.args.slice.now in
    let walk = c.args.walk.now in
    let now = c.loop-wanted.walk in
    let inv = c.loop-wanted.invariant in
    let left = c.loop-wanted.left.now in
    let passed = c.in_ok-items.field-0 in
    let q = state_of walk.parser in
    let after = passed.after.now in
    let tells = c.in_ok-items.ensures in
    let cuts = c.loop-wanted.cuts.items in
    let x = c.cut_at-in-Some.result in
    let at = c.cut_at-in-Some.ensures in
    let then = c.skip.new.self in
    let fits = (place_of bytes s c.requires.walked.items c.requires.walked.texts).1 in
    let none : passed.rest ≡ None = search rules in
    let p = passes_behind bytes s left after q (state_of now.parser) walk.header now.header (drop walk.first walk.interfaces.items) (drop now.first now.interfaces.items) inv.so_far.cutting.items c.in-Some.wanted passed.items None
    c.requires.walked inv.so_far.cutting.texts inv.walked (rw none at tells.passes) in
    let walked : IsWalked bytes after (state_of then.parser) then.header (drop then.first then.interfaces.items) = rw none at tells.walked in
    let inside : then.first ≤ length then.interfaces.items = rw none at tells.within in
    let some : 0 < length after = search rules in
    let more = parted_more block_format blocks_lawful q s (length bytes) fits c.args.parting c.requires.some left after c.loop-wanted.before c.in-Some.wanted passed.items (bounds_of cuts) x.at inv.so_far c.in-Some.ensures p some
    tells.few at.at.0 at.at.1 in
    let there : IsWalked bytes after (state_of then.parser) x.header (drop x.first then.interfaces.items) = rw (at.header, at.interfaces.0) walked in
    let one : ResumesAt bytes then.interfaces.items q s x =
    resumes_here bytes q s after (state_of then.parser) then.interfaces.items more.cutting.items walk.header (drop walk.first walk.interfaces.items) x c.requires.walked there more.cutting.texts (omega (arith, more.cutting.count, at.at.1))
    (omega (arith, at.at.0, (place_of bytes after walked.items walked.texts).1)) (omega (arith, at.interfaces.0, inside)) (omega (arith, at.interfaces.0, at.interfaces.1)) in
    let before = all_resume_further bytes q s now.interfaces.items then.interfaces.items cuts c.skip.ensures.goes_on inv.resume in
    let told = all_tell_further bytes q s now.interfaces.items then.interfaces.items cuts c.skip.ensures.goes_on inv.resume inv.each in
    let place : x.at.offset + length after ≡ length bytes = omega (arith, at.at.0, (place_of bytes after walked.items walked.texts).1) in
    let placed : IsPlaced bytes after (state_of then.parser) x.header x.first then.interfaces.items = rw (at.header, at.interfaces.0) tells.placed in
    record {
      so_far = rw (c.in_ok-push-2.ensures.items, map-append (λ (k : NgCut). k.at) cuts (x ∷ [])) more;
      walked = walked;
      inside = inside;
      placed = tells.placed;
      before = rw c.in_ok-push-2.ensures.items (each_push (λ (k : NgCut). k.at.offset + length after ≤ length bytes) cuts x (stand_before bytes left after cuts (omega (arith, tells.few)) inv.before) (omega (arith, place)));
      each = rw c.in_ok-push-2.ensures.items (each_push (TellsPlaces bytes then.interfaces.items) cuts x told (tells_here bytes after then.interfaces.items (state_of then.parser) x placed place (omega (arith, at.interfaces.0, at.interfaces.1))));
      resume = rw c.in_ok-push-2.ensures.items (each_push (ResumesAt bytes then.interfaces.items q s) cuts x before one);
    }

pub returns-clause-asked : goal.returns-clause-asked
returns-clause-asked c =
    let bytes = c.args.bytes.now in
    let fits = (place_of bytes c.args.slice.now c.requires.walked.items c.requires.walked.texts).1 in
    parted_enough block_format blocks_lawful (state_of c.args.walk.now.parser) c.args.slice.now (length bytes) fits c.args.parting c.loop-wanted.left.now c.loop-wanted.before (bounds_of c.loop-wanted.cuts.items)
    c.loop-wanted.invariant.so_far c.in_default.ensures

pub returns-then-is_some-clause-places : goal.returns-then-is_some-clause-places
returns-then-is_some-clause-places c =
    let bytes = c.args.bytes.now in
    let now = c.loop-wanted.walk in
    let then = c.skip.new.self in
    let inv = c.loop-wanted.invariant in
    let cuts = c.loop-wanted.cuts.items in
    let after = c.in_ok-items.field-0.after.now in
    tell_all bytes after (state_of then.parser) then.header then.first then.interfaces.items cuts c.in_ok-items.ensures.placed
    (stand_before bytes c.loop-wanted.left.now after cuts (omega (arith, c.in_ok-items.ensures.few)) inv.before)
    (all_tell_further bytes (state_of c.args.walk.now.parser) c.args.slice.now now.interfaces.items then.interfaces.items cuts c.skip.ensures.goes_on inv.resume inv.each)

pub returns-clause-places : goal.returns-clause-places
returns-clause-places c =
    let now = c.loop-wanted.walk in
    let inv = c.loop-wanted.invariant in
    tell_all c.args.bytes.now c.loop-wanted.left.now (state_of now.parser) now.header now.first now.interfaces.items c.loop-wanted.cuts.items inv.placed inv.before inv.each
