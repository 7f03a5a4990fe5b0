use Rattle.std.proofs.Common.{◌<◌, ◌+◌, ◌^◌, arith, length, ◌∙◌}
use Rattle.pcap_core.specs.Padded.{up_to_4}
use Rattle.pcapfile_mended.specs.Mended.{options_of}
use Rattle.pcapfile_mended.proofs.CutBlocks.{whole_short}
use Rattle.pcapfile_mended.proofs.cut_off.complete.Goals as goal

pub frame-requires : goal.frame-requires
frame-requires c =
    let cut = c.in-Some.cut in
    let x = c.in-Some.ensures in
    let put = c.in_ok-put_kept.ensures in
    let short : (12 + up_to_4 (length cut.front.now)) + cut.room < 2 ^ 32 = omega (arith, x.room_is, x.short) in
    whole_short c.args.order (options_of cut.type_) cut.front.now cut.rest.now c.put_padded.new.out.items c.options_after-options.result.now put.0 c.as_slice.result.now cut.room short c.in_ok-put_padded.ensures
    c.options_after-options.ensures put.1 (c.as_slice.ensures.value ∙ put.2)
