use Rattle.std.proofs.Common.{ap, arith, length, List, ℕ, ◌∙◌, ◌++◌}
use Rattle.pcap_written.specs.Raw.{raw_of}
use Rattle.pcapfile_mended.specs.Mended.{flawed, unstated, with_options}
use Rattle.pcapfile_mended.proofs.BodiesSaid.{before_options, changed, put_body, with_options_length}
use Rattle.pcapfile_mended.proofs.mending.put_with_options.Goals as goal

pub put_unstated-requires : goal.put_unstated-requires
put_unstated-requires c = before_options (raw_of c.args.block) c.args.front.of c.args.front.order c.args.front.len c.split_at.result.0.now c.requires.options c.requires.len c.split_at.ensures.front

pub put_changed-requires : goal.put_changed-requires
put_changed-requires c =
    let raw = raw_of c.args.block in
    let front = c.args.front in
    let before = c.split_at.result.0.now in
    let put = c.in_ok-put_sound_options.ensures.put in
    let first = c.in_ok-put_unstated.ensures ∙ ap (λ (t : List ℕ). t ++ unstated raw.type_ before) c.clear.ensures.items in
    let body = put_body raw front.of front.order front.len before c.split_at.result.1.now c.put_unstated.new.out.items put.0 c.as_slice.result.now c.requires.len c.split_at.ensures.front c.split_at.ensures.back first put.1
    (c.as_slice.ensures.value ∙ put.2) in
    omega (arith, c.requires.short, ap length body.0, with_options_length raw front.of front.order put.0 c.requires.options body.1)

pub returns : goal.returns
returns c =
    let raw = raw_of c.args.block in
    let front = c.args.front in
    let before = c.split_at.result.0.now in
    let refused = c.requires.refused in
    let put = c.in_ok-put_sound_options.ensures.put in
    let first = c.in_ok-put_unstated.ensures ∙ ap (λ (t : List ℕ). t ++ unstated raw.type_ before) c.clear.ensures.items in
    let body = put_body raw front.of front.order front.len before c.split_at.result.1.now c.put_unstated.new.out.items put.0 c.as_slice.result.now c.requires.len c.split_at.ensures.front c.split_at.ensures.back first put.1
    (c.as_slice.ensures.value ∙ put.2) in
    changed raw (with_options raw front.of front.order put.0) c.as_slice.result.now c.put_changed.new.text.items c.put_changed.result body.0 (flawed refused.0 front.of front.order put.0 refused.1 c.requires.options body.1) c.put_changed.ensures
