use Rattle.std.proofs.Common.{◌≡◌, ◌++◌, map}
use Rattle.pcap_items.specs.Pieces.{Came}
use Rattle.pcap_items.proofs.Pieces.{waiting_came, waits}
use Rattle.pcap_items.proofs.run.pieces.feed_piece.Goals as goal

pub returns-then-piece-missing-clause-waiting : goal.returns-then-piece-missing-clause-waiting
returns-then-piece-missing-clause-waiting g c = λ s waiting.
    let p = g.P.PieceParser in
    let held = c.args.held.now.items in
    let more = c.args.piece.now in
    let longer : c.hold.new.held.items ≡ held ++ more = c.in_ok-hold.ensures.held in
    rw longer (waits (p.opens c.args.setting) c.requires.opening p.format c.requires.lawful p.part p.state s more c.args.progress.now c.args.missing held (map p.view c.args.items.now.items) c.if-piece-missing.true waiting)

pub returns-clause-waiting : goal.returns-clause-waiting
returns-clause-waiting g c = λ s waiting.
    let p = g.P.PieceParser in
    let held = c.args.held.now.items in
    let more = c.args.piece.now in
    let ws = map p.view c.args.items.now.items in
    let longer : c.hold.new.held.items ≡ held ++ more = c.in_ok-hold.ensures.held in
    let known : Came (p.opens c.args.setting) p.format p.part p.state (s ++ more) c.args.progress.now (held ++ more) ws =
    waiting_came (p.opens c.args.setting) c.requires.opening p.format c.requires.lawful p.part p.state s more c.args.progress.now c.args.missing held ws waiting in
    rw c.due.ensures (c.in_ok-asked.ensures.waiting (s ++ more) (rw longer known))
