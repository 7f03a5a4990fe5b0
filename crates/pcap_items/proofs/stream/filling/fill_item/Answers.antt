use Rattle.std.proofs.Common.{◌≡◌, ◌<◌, ◌∙◌, arith}
use Rattle.std.proofs.lemmas.Result.{err_from_is_err_and}
use Rattle.pcap_items.specs.Held.{held_bytes}
use Rattle.pcap_items.proofs.Filled.{Begins, begins_more, unmet, unmet_held, settled, adds_behind, stated_alone, stated_more}
use Rattle.pcap_items.proofs.stream.filling.fill_item.Goals as goal
use Rattle.pcap_items.proofs.stream.filling.fill_item.Goals.{then-rest-gt0+in_ok-read_exactly, else-rest-gt0}

pub returns-in_err-read_exactly-clause-fills : goal.returns-in_err-read_exactly-clause-fills
returns-in_err-read_exactly-clause-fills g c =
    let f = g.H.HasHead.format c.args.item.now in
    let laws = c.requires.lawful in
    let q = g.H.HasHead.state c.args.item.now in
    let filled = rw c.in-Some.is at c.in_ok-head.ensures.fills in
    let p = err_from_is_err_and c.from_residual-in_err-read_exactly.result c.from_residual-in_err-read_exactly.ensures.1 in
    let held = held_bytes c.fill_head.new.held in
    let n = c.in-Some.rest in
    let b : Begins f laws q (g.T.Read.remaining c.args.stream.now) (g.T.Read.remaining c.fill_head.new.stream) held = record { came = filled.4; asked = filled.3 } in
    let some : 0 < n = omega (arith, c.if-rest-gt0.true) in
    rw (p.1, p.2) (unmet f laws q c.in_err-read_exactly.field-0.0 held _ _ _ _ _ _ n b (filled.2.2 some) filled.0 c.in_err-read_exactly.ensures.part c.in_err-read_exactly.ensures.cause)

pub returns-in_err-read_exactly-clause-part : goal.returns-in_err-read_exactly-clause-part
returns-in_err-read_exactly-clause-part g c =
    let f = g.H.HasHead.format c.args.item.now in
    let laws = c.requires.lawful in
    let q = g.H.HasHead.state c.args.item.now in
    let filled = rw c.in-Some.is at c.in_ok-head.ensures.fills in
    let held = held_bytes c.fill_head.new.held in
    let p = err_from_is_err_and c.from_residual-in_err-read_exactly.result c.from_residual-in_err-read_exactly.ensures.1 in
    let b : Begins f laws q (g.T.Read.remaining c.args.stream.now) (g.T.Read.remaining c.fill_head.new.stream) held = record { came = filled.4; asked = filled.3 } in
    rw p.1 (unmet_held f laws q held _ _ _ _ c.in-Some.rest b c.in_err-read_exactly.ensures.part)

pub returns-clause-fills : goal.returns-clause-fills
returns-clause-fills g c =
    let f = g.H.HasHead.format c.args.item.now in
    let laws = c.requires.lawful in
    let q = g.H.HasHead.state c.args.item.now in
    let filled = rw c.in-Some.is at c.in_ok-head.ensures.fills in
    let knows = g.H.HasHead.knows c.args.item.now in
    let held = held_bytes c.fill_head.new.held in
    let head = c.in-Some.head in
    let n = c.in-Some.rest in
    let b : Begins f laws q (g.T.Read.remaining c.args.stream.now) (g.T.Read.remaining c.fill_head.new.stream) held = record { came = filled.4; asked = filled.3 } in
    elim c.if-rest-gt0.branch [
      | then-rest-gt0+in_ok-read_exactly w ↦
          let some : 0 < n = omega (arith, w.if-rest-gt0.true) in
          let next = filled.2.2 some in
          let new = held_bytes w.read_exactly.new.held in
          let more = adds_behind n held new _ _ w.in_ok-read_exactly.field-0 (omega (arith, filled.1, laws.some q)) w.in_ok-read_exactly.ensures.added in
          let all = begins_more f laws q held new _ _ _ n b next more in
          rw (w.held-is, w.stream-is, w.has_failed-is) (
            w.in_ok-read_exactly.ensures.told ∙ filled.0,
            stated_more knows (f.head q) n head held new _ _ filled.1 filled.2.0 more,
            settled f laws q n held new _ _ filled.1 next more,
            all.asked,
            all.came,
          )
      | else-rest-gt0 w ↦
          let none : n ≡ 0 = omega (arith, w.if-rest-gt0.false) in
          rw (w.held-is, w.stream-is, w.has_failed-is) (filled.0, stated_alone knows (f.head q) n head held filled.1 none filled.2.0, filled.2.1 none, b.asked, b.came)
    ]
