use Rattle.std.proofs.Common.{◌≡◌, ◌+◌, ◌++◌, ◌∷◌, [], length, arith, ap, sym, subst}
use Rattle.std.proofs.lemmas.List.{length-append}
use Rattle.std.proofs.lemmas.Slice.Zip.{zip_end, zip_turn}
use Rattle.std.specs.Iterator.Adapters.{zip_first, zip_second}
use Rattle.std.specs.Slice.Iter.{iter_rest}
use Rattle.serde_json.specs.View.{view}
use Rattle.pcapfile_shown.proofs.EachInterface.{none_written, one_written, told_all}
use Rattle.pcapfile_shown.proofs.told.write_interfaces.Goals as goal

pub loop-described-init : goal.loop-described-init
loop-described-init g c = none_written g.W.Write.write_str_gives c.args.told.now.described.items c.args.told.now.totals.interfaces.items c.args.output.now

pub loop-described-preserved : goal.loop-described-preserved
loop-described-preserved g c =
    let at = c.loop-described in
    let described = c.args.told.now.described.items in
    let counts = c.args.told.now.totals.interfaces.items in
    let first : iter_rest (zip_first c.into_iter-described-iterator.result) ≡ described =
    grind (arith, c.into_iter-described-iterator.ensures.into_iter_gives, c.zip-described-items.ensures.first, c.iter.ensures.rest, c.deref.ensures.value) in
    let second : iter_rest (zip_second c.into_iter-described-iterator.result) ≡ counts =
    grind (arith, c.into_iter-described-iterator.ensures.into_iter_gives, c.zip-described-items.ensures.second, c.iter-2.ensures.rest, c.deref-2.ensures.value) in
    let turn = zip_turn described counts at.yielded c.into_iter-described-iterator.result at.described-iterator c.next.new.self c.next.result first second at.yielded_by
    (c.in-Some.described, c.in-Some.counts) c.in-Some.is c.next.ensures.steps in
    let longer : length (at.yielded ++ (c.in-Some.described, c.in-Some.counts) ∷ []) ≡ length at.yielded + 1 =
    length-append at.yielded ((c.in-Some.described, c.in-Some.counts) ∷ []) in
    rw longer
    (one_written g.W.Write.write_str_gives described counts (length at.yielded) at.later c.args.output.now at.output c.write_text.new.output c.write_value.new.output (view c.in_ok-value.value) c.in-Some.described.now c.in-Some.counts.now
    turn.0 turn.1 (turn.2 c.in-Some.described.now) (turn.3 c.in-Some.counts.now) at.invariant c.in_ok-value.ensures (rw c.comma.ensures at c.in_ok-write_text.ensures) c.in_ok-write_value.ensures)

pub loop-described-preserved-in_ok-write_value-3 : goal.loop-described-preserved-in_ok-write_value-3
loop-described-preserved-in_ok-write_value-3 g c =
    let at = c.loop-described in
    let described = c.args.told.now.described.items in
    let counts = c.args.told.now.totals.interfaces.items in
    let first : iter_rest (zip_first c.into_iter-described-iterator.result) ≡ described =
    grind (arith, c.into_iter-described-iterator.ensures.into_iter_gives, c.zip-described-items.ensures.first, c.iter.ensures.rest, c.deref.ensures.value) in
    let second : iter_rest (zip_second c.into_iter-described-iterator.result) ≡ counts =
    grind (arith, c.into_iter-described-iterator.ensures.into_iter_gives, c.zip-described-items.ensures.second, c.iter-2.ensures.rest, c.deref-2.ensures.value) in
    let turn = zip_turn described counts at.yielded c.into_iter-described-iterator.result at.described-iterator c.next.new.self c.next.result first second at.yielded_by
    (c.in-Some.described, c.in-Some.counts) c.in-Some.is c.next.ensures.steps in
    let longer : length (at.yielded ++ (c.in-Some.described, c.in-Some.counts) ∷ []) ≡ length at.yielded + 1 =
    length-append at.yielded ((c.in-Some.described, c.in-Some.counts) ∷ []) in
    rw longer
    (one_written g.W.Write.write_str_gives described counts (length at.yielded) at.later c.args.output.now at.output c.write_text.new.output c.write_value.new.output (view c.in_ok-value.value) c.in-Some.described.now c.in-Some.counts.now
    turn.0 turn.1 (turn.2 c.in-Some.described.now) (turn.3 c.in-Some.counts.now) at.invariant c.in_ok-value.ensures (rw c.comma.ensures at c.in_ok-write_text.ensures) c.in_ok-write_value.ensures)

pub returns : goal.returns
returns g c =
    let at = c.loop-described in
    let described = c.args.told.now.described.items in
    let counts = c.args.told.now.totals.interfaces.items in
    let first : iter_rest (zip_first c.into_iter-described-iterator.result) ≡ described =
    grind (arith, c.into_iter-described-iterator.ensures.into_iter_gives, c.zip-described-items.ensures.first, c.iter.ensures.rest, c.deref.ensures.value) in
    let second : iter_rest (zip_second c.into_iter-described-iterator.result) ≡ counts =
    grind (arith, c.into_iter-described-iterator.ensures.into_iter_gives, c.zip-described-items.ensures.second, c.iter-2.ensures.rest, c.deref-2.ensures.value) in
    let end = zip_end described counts at.yielded c.into_iter-described-iterator.result at.described-iterator c.next.new.self c.next.result first second at.yielded_by c.in-None.is c.next.ensures.steps in
    (at.invariant.shown, told_all described counts (length at.yielded) at.invariant.shown end at.invariant.told, at.invariant.wrote)
