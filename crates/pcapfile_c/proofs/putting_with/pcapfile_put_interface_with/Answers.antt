use Rattle.std.proofs.Common.{◌-◌, arith, refl, rules, sym}
use Rattle.pcapfile_c.proofs.RawFitting.{interface_head}
use Rattle.pcapfile_c.proofs.WithOptions.{interface_done, interface_kept}
use Rattle.pcapfile_c.proofs.putting_with.pcapfile_put_interface_with.Goals as goal

pub returns-then-status-ne0 : goal.returns-then-status-ne0
returns-then-status-ne0 c =
    let e = c.in-Some.order in
    let i = c.args.interface.now in
    let head = interface_head e c.from.result i (c.interface_len.result - 8 - 8) (omega (arith, c.interface_len.ensures)) c.put_interface.ensures in
    interface_kept e c.from.result c.args.section.now i c.args.options c.args.room.now c.put_parts-status.new.room c.args.written.now c.put_parts-status.new.written c.args.error.now c.put_parts-status.new.error c.put_parts-status.result
    c.put_parts-status.ensures refl head (sym c.in-Some.ensures) c.from.ensures (omega (arith, c.if-interface-gt127.false)) (search rules) (search rules) c.if-status-ne0.true

pub returns : goal.returns
returns c =
    let e = c.in-Some.order in
    let i = c.args.interface.now in
    let head = interface_head e c.from.result i (c.interface_len.result - 8 - 8) (omega (arith, c.interface_len.ensures)) c.put_interface.ensures in
    interface_done e c.from.result c.args.section.now i c.args.options c.args.room.now c.put_parts-status.new.room c.args.written.now c.put_parts-status.new.written c.args.error.now c.put_parts-status.new.error c.put_parts-status.result
    c.put_parts-status.ensures refl head (sym c.in-Some.ensures) c.from.ensures (omega (arith, c.if-interface-gt127.false)) (search rules) (search rules) c.if-status-ne0.false
