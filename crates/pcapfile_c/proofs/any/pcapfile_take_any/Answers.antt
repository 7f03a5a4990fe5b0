use Rattle.std.proofs.Common.{rules, ◌≡◌, pos, w32, to_z, of_z}
use Rattle.pcapfile_values.specs.declared.errors.PcapfileError.{PcapfileError}
use Rattle.pcapfile_c.specs.AnyCaptures.{HasEnded, TakesHeaded, TakesSectioned}
use Rattle.pcapfile_c.specs.Readers.{any_reader}
use Rattle.pcapfile_c.proofs.EitherFormat.{ended, not_ended}
use Rattle.pcapfile_c.proofs.any.pcapfile_take_any.Goals as goal

pub returns-then-is_end-clause-packets : goal.returns-then-is_end-clause-packets
returns-then-is_end-clause-packets c none =
    let here = c.take_either-status in
    let rest = here.new.left.bytes.now in
    let end : (here.result ≡ pos 1) × HasEnded here.new.capture rest = search rules in
    let old = any_reader c.args.capture.now c.args.interfaces.now c.args.left.now.bytes.now c.args.packet.now c.args.error.now in
    let Tells = λ (told : PcapfileError). TakesHeaded old (any_reader here.new.capture here.new.interfaces rest here.new.packet told) in
    ended here.new.capture rest c.args.error.now Tells here.new.error here.result end (here.ensures.packets none)

pub returns-clause-packets : goal.returns-clause-packets
returns-clause-packets c none =
    let here = c.take_either-status in
    let rest = here.new.left.bytes.now in
    let not : (here.result ≡ pos 1) × HasEnded here.new.capture rest → ⊥ = search rules in
    let same : to_z w32 (of_z w32 here.result) ≡ here.result = search rules in
    let old = any_reader c.args.capture.now c.args.interfaces.now c.args.left.now.bytes.now c.args.packet.now c.args.error.now in
    let Tells = λ (told : PcapfileError). TakesHeaded old (any_reader here.new.capture here.new.interfaces rest here.new.packet told) in
    rw same (not_ended here.new.capture rest c.args.error.now Tells here.new.error here.result not (here.ensures.packets none))

pub returns-clause-blocks : goal.returns-clause-blocks
returns-clause-blocks c q is shows =
    let here = c.take_either-status in
    let rest = here.new.left.bytes.now in
    let not : (here.result ≡ pos 1) × HasEnded here.new.capture rest → ⊥ = search rules in
    let same : to_z w32 (of_z w32 here.result) ≡ here.result = search rules in
    let old = any_reader c.args.capture.now c.args.interfaces.now c.args.left.now.bytes.now c.args.packet.now c.args.error.now in
    let Tells = λ (told : PcapfileError). TakesSectioned q old (any_reader here.new.capture here.new.interfaces rest here.new.packet told) in
    rw same (not_ended here.new.capture rest c.args.error.now Tells here.new.error here.result not (here.ensures.blocks q is shows))
