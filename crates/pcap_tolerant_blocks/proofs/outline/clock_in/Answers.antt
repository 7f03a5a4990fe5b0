use Rattle.std.proofs.Common.{◌++◌, ◌∷◌, [], ◌∙◌, Some, None, ap, refl, inl, inr}
use Rattle.std.specs.Option.{option_or}
use Rattle.pcap_core.specs.Faults.{Invalid}
use Rattle.pcap_options.proofs.ReadOptions.{is_empty, not_empty}
use Rattle.pcap_options.specs.InterfaceOption.{interface_description, interface_entry}
use Rattle.pcap_tolerant_blocks.specs.OptionsAsIs.{judged_of}
use Rattle.pcap_tolerant_blocks.proofs.FirstClock.{clock_more, clock_of_all, none_read}
use Rattle.pcap_tolerant_blocks.proofs.Lists.{read_ends, read_more}
use Rattle.pcap_tolerant_blocks.proofs.outline.clock_in.Goals as goal

pub loop-left-init : goal.loop-left-init
loop-left-init g c = ([], [], none_read g.B.ByteOrder.number_of interface_description c.args.options.now, record { resolution = refl; offset = refl })

pub returns-in-Err : goal.returns-in-Err
returns-in-Err g c =
    let order = g.B.ByteOrder.number_of in
    let so_far = c.loop-left.invariant in
    let left = c.loop-left.left.now in
    let s = c.args.options.now in
    let read = read_ends order interface_description so_far.0 so_far.1 s left left (Some (Invalid c.in-Err._rule)) so_far.2 (λ over. not_empty left c.loop-left-test.ensures, c.in-Err.ensures.tells, refl) in
    clock_of_all order so_far.0 _ s left c.loop-left.clock read so_far.3

pub returns-in_default : goal.returns-in_default
returns-in_default g c =
    let order = g.B.ByteOrder.number_of in
    let so_far = c.loop-left.invariant in
    let left = c.loop-left.left.now in
    let s = c.args.options.now in
    let rest = c.in-Ok.read.0.now in
    let read = read_ends order interface_description so_far.0 so_far.1 s left rest None so_far.2 (inl (rw c.in_default.is at c.in-Ok.ensures.tells)) in
    clock_of_all order so_far.0 _ s rest c.loop-left.clock read so_far.3

pub loop-left-preserved : goal.loop-left-preserved
loop-left-preserved g c =
    let order = g.B.ByteOrder.number_of in
    let so_far = c.loop-left.invariant in
    let option = judged_of interface_entry c.in-Some.read in
    let text = rw c.in-Some.is at c.in-Ok.ensures.tells in
    let clock = c.loop-left.clock in
    let one = c.clock_of.ensures in
    let both = c.and-next.ensures in (
      so_far.0 ++ option.entry ∷ [],
      so_far.1 ++ option.flaws,
      read_more order interface_description so_far.0 so_far.1 c.args.options.now c.loop-left.left.now c.in-Ok.read.0.now option so_far.2 text,
      clock_more so_far.0 option.entry clock c.and-next.result so_far.3 (both.resolution ∙ ap (option_or clock.resolution) one.resolution) (both.offset ∙ ap (option_or clock.offset) one.offset),
    )

pub returns : goal.returns
returns g c =
    let order = g.B.ByteOrder.number_of in
    let so_far = c.loop-left.invariant in
    let left = c.loop-left.left.now in
    let s = c.args.options.now in
    let read = read_ends order interface_description so_far.0 so_far.1 s left [] None so_far.2 (inr (is_empty left c.loop-left-test.ensures, tt, refl)) in
    clock_of_all order so_far.0 _ s [] c.loop-left.clock read so_far.3
