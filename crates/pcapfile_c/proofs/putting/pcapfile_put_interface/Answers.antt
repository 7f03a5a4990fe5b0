use Rattle.std.proofs.Common.{◌≡◌, ◌+◌, length, arith, inl, inr, refl, sym, ap, ◌∙◌, rules}
use Rattle.pcap_core.specs.declared.rules.Rule.TheVariants.{SectionMagic, InterfaceResolutionLength}
use Rattle.pcap_core.specs.Codec.{number_bytes}
use Rattle.pcap_core.proofs.Codec.{codec}
use Rattle.pcap_written.specs.Bodies.{text_of}
use Rattle.pcapfile_values.specs.declared.errors.PcapfileError.{PcapfileError}
use Rattle.pcapfile_values.specs.declared.reasons.Reason.TheVariants.{Breaks}
use Rattle.pcapfile_values.specs.BlockTexts.{interface_block}
use Rattle.pcapfile_values.proofs.Parts.{interface_text_long}
use Rattle.pcapfile_c.specs.Putting.{InterfaceFlaw, an_interface}
use Rattle.pcapfile_c.proofs.Fitting.{puts_whole, puts_nothing, puts_refused, interface_is_text}
use Rattle.pcapfile_c.proofs.putting.pcapfile_put_interface.Goals as goal

pub returns-in_default : goal.returns-in_default
returns-in_default c =
    let s = c.args.section.now in
    let i = c.args.interface.now in
    puts_refused (InterfaceFlaw s i) (an_interface i) s c.args.room.now c.args.written.now c.args.error.now c.refuse.new.told c.refuse.result (Breaks SectionMagic) (inl (refl, sym c.endianness.ensures ∙ c.in_default.is)) c.refuse.ensures

pub returns-then-interface-gt127 : goal.returns-then-interface-gt127
returns-then-interface-gt127 c =
    let s = c.args.section.now in
    let i = c.args.interface.now in
    puts_refused (InterfaceFlaw s i) (an_interface i) s c.args.room.now c.args.written.now c.args.error.now c.refuse-then-interface-gt127.new.told c.refuse-then-interface-gt127.result (Breaks InterfaceResolutionLength) (inr (refl, c.if-interface-gt127.true)) c.refuse-then-interface-gt127.ensures

pub returns-then-room-len : goal.returns-then-room-len
returns-then-room-len c =
    let s = c.args.section.now in
    let i = c.args.interface.now in
    let e = c.in-Some.order in
    let link = c.from-link.result in
    let n = c.interface_len-len.result in
    let long : n ≡ length (text_of (number_bytes e) (interface_block link i)) = omega (arith, c.interface_len-len.ensures, interface_text_long (number_bytes e) (codec e).wide link i) in
    puts_nothing (InterfaceFlaw s i) (an_interface i) s (record s { interfaces = s.interfaces + 1 }) (text_of (number_bytes e) (interface_block link i)) c.args.room.now n c.args.written.now c.args.error.now c.need.new.told c.need.result
    (interface_is_text e link s i (sym c.in-Some.ensures) c.from-link.ensures (omega (arith, c.if-interface-gt65535.false)) (omega (arith, c.if-interface-gt127.false)) (search rules) (search rules) (search rules)) long c.if-room-len.true
    (ap (λ (t : PcapfileError). t.rule) c.need.ensures.told) (ap (λ (t : PcapfileError). t.missing) c.need.ensures.told) c.need.ensures.status

pub returns : goal.returns
returns c =
    let s = c.args.section.now in
    let i = c.args.interface.now in
    let e = c.in-Some.order in
    let link = c.from-link.result in
    let n = c.interface_len-len.result in
    let long : n ≡ length (text_of (number_bytes e) (interface_block link i)) = omega (arith, c.interface_len-len.ensures, interface_text_long (number_bytes e) (codec e).wide link i) in
    puts_whole (InterfaceFlaw s i) (an_interface i) s (record s { interfaces = s.interfaces + 1 }) (text_of (number_bytes e) (interface_block link i)) c.args.room.now c.put_interface.new.room n c.args.written.now c.args.error.now
    (interface_is_text e link s i (sym c.in-Some.ensures) c.from-link.ensures (omega (arith, c.if-interface-gt65535.false)) (omega (arith, c.if-interface-gt127.false)) (search rules) (search rules) (search rules)) long c.put_interface.ensures
