use Rattle.std.proofs.Common.{◌≡◌, ◌≤◌, ◌+◌, ◌∙◌, ap, take, length, arith, List, ℕ, sym, vec_len}
use Rattle.pcap_items.specs.Held.{held_bytes}
use Rattle.pcap_items.proofs.StreamBytes.{adds_lent}
use Rattle.pcap_items.proofs.stream.reading.read_once.Goals as goal

pub returns-in-Ok-clause-added : goal.returns-in-Ok-clause-added
returns-in-Ok-clause-added g c =
    let at = c.make_room.new.self.len in
    let front : take at c.read_at.new.bytes ≡ held_bytes c.args.held.now =
    c.in-Ok.ensures.front ∙ ap (λ (l : List ℕ). take at l) c.as_mut_slice.ensures.value ∙ c.in_ok-make_room.ensures.held in
    let long : length c.read_at.new.bytes ≡ vec_len c.make_room.new.self.room = c.read_at.auto.bytes ∙ c.as_mut_slice.ensures.len in
    let fits : at + c.in-Ok.taken ≤ length c.read_at.new.bytes = omega (arith, long, c.in-Ok.ensures.fits, c.in_ok-make_room.ensures.room) in
    adds_lent (held_bytes c.args.held.now) c.read_at.new.bytes _ _ _ at _ c.in-Ok.taken (sym long) front fits c.in-Ok.ensures.came
