use Rattle.std.proofs.Common.{◌≡◌, length, ◌∙◌}
use Rattle.std.proofs.lemmas.Result.{err_from_is_err_and}
use Rattle.pcap_core.specs.Answer.{lacks}
use Rattle.pcap_items.specs.Held.{held_bytes}
use Rattle.pcap_items.proofs.Filled.{begins_none, none_lacks, begins_more, unmet, unmet_held, held_refused, adds_length}
use Rattle.pcap_items.proofs.stream.filling.fill_head.Goals as goal

pub returns-in_err-read_exactly-clause-fills : goal.returns-in_err-read_exactly-clause-fills
returns-in_err-read_exactly-clause-fills g c =
    let f = g.H.HasHead.format c.args.item.now in
    let laws = c.requires.lawful in
    let q = g.H.HasHead.state c.args.item.now in
    let p = err_from_is_err_and c.from_residual.result c.from_residual.ensures.1 in
    let held = held_bytes c.args.held.now in
    let ask : f.says q held (lacks c.head.result) = rw c.head.ensures (none_lacks f laws q held c.requires.between) in
    rw (p.1, p.2) (unmet f laws q c.in_err-read_exactly.field-0.0 held _ _ _ _ _ _ c.head.result (begins_none f laws q held _ c.requires.between) ask c.requires.unfailed c.in_err-read_exactly.ensures.part c.in_err-read_exactly.ensures.cause)

pub returns-in_err-read_exactly-clause-part : goal.returns-in_err-read_exactly-clause-part
returns-in_err-read_exactly-clause-part g c =
    let f = g.H.HasHead.format c.args.item.now in
    let laws = c.requires.lawful in
    let q = g.H.HasHead.state c.args.item.now in
    let held = held_bytes c.args.held.now in
    let p = err_from_is_err_and c.from_residual.result c.from_residual.ensures.1 in
    rw p.1 (unmet_held f laws q held _ _ _ _ c.head.result (begins_none f laws q held _ c.requires.between) c.in_err-read_exactly.ensures.part)

pub returns-in_err-stated-clause-fills : goal.returns-in_err-stated-clause-fills
returns-in_err-stated-clause-fills g c =
    let f = g.H.HasHead.format c.args.item.now in
    let laws = c.requires.lawful in
    let q = g.H.HasHead.state c.args.item.now in
    let p = err_from_is_err_and c.from_residual-in_err-stated.result c.from_residual-in_err-stated.ensures.1 in
    let before = held_bytes c.args.held.now in
    let ask : f.says q before (lacks c.head.result) = rw c.head.ensures (none_lacks f laws q before c.requires.between) in
    let adds = rw c.if-not-branch.false at c.in_ok-read_exactly.ensures.added in
    let held = held_bytes c.read_exactly.new.held in
    let b = begins_more f laws q before held _ _ _ c.head.result (begins_none f laws q before _ c.requires.between) ask adds in
    rw (p.1, p.2) (held_refused f laws q c.in_err-stated.field-0.0 held _ _ _ b (c.in_ok-read_exactly.ensures.told ∙ c.requires.unfailed) (rw (← c.as_slice.ensures) c.in_err-stated.ensures))

pub returns-in_err-stated-clause-part : goal.returns-in_err-stated-clause-part
returns-in_err-stated-clause-part g c =
    let f = g.H.HasHead.format c.args.item.now in
    let laws = c.requires.lawful in
    let q = g.H.HasHead.state c.args.item.now in
    let before = held_bytes c.args.held.now in
    let ask : f.says q before (lacks c.head.result) = rw c.head.ensures (none_lacks f laws q before c.requires.between) in
    let adds = rw c.if-not-branch.false at c.in_ok-read_exactly.ensures.added in
    let held = held_bytes c.read_exactly.new.held in
    let p = err_from_is_err_and c.from_residual-in_err-stated.result c.from_residual-in_err-stated.ensures.1 in
    rw p.1 ((begins_more f laws q before held _ _ _ c.head.result (begins_none f laws q before _ c.requires.between) ask adds).came)

pub returns-clause-fills : goal.returns-clause-fills
returns-clause-fills g c =
    let f = g.H.HasHead.format c.args.item.now in
    let laws = c.requires.lawful in
    let q = g.H.HasHead.state c.args.item.now in
    let before = held_bytes c.args.held.now in
    let ask : f.says q before (lacks c.head.result) = rw c.head.ensures (none_lacks f laws q before c.requires.between) in
    let adds = rw c.if-not-branch.false at c.in_ok-read_exactly.ensures.added in
    let held = held_bytes c.read_exactly.new.held in
    let b = begins_more f laws q before held _ _ _ c.head.result (begins_none f laws q before _ c.requires.between) ask adds in
    let long : length held ≡ f.head q = adds_length c.head.result before held _ _ c.requires.between adds ∙ c.head.ensures in
    let stated = rw c.as_slice.ensures at c.in_ok-stated.ensures in
    (c.in_ok-read_exactly.ensures.told ∙ c.requires.unfailed, long, stated, b.asked, b.came)
