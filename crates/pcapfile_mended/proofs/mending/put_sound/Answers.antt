use Rattle.std.proofs.Common.{◌≡◌, ap, arith, List, ℕ, ◌∙◌, ◌++◌, length}
use Rattle.pcap_core.specs.Answer.{number_in}
use Rattle.pcap_written.specs.Raw.{raw_of}
use Rattle.pcapfile_mended.specs.Mended.{stated, unstated}
use Rattle.pcapfile_mended.proofs.BodiesSaid.{changed, sound_section_long, stayed, unstated_length}
use Rattle.pcapfile_mended.proofs.mending.put_sound.Goals as goal

pub states_length-requires : goal.states_length-requires
states_length-requires c =
    let taken = c.requires.sound in
    sound_section_long c.args.block.type_ (number_in c.args.block.endianness) c.args.block.body.now taken.0 taken.1 taken.2

pub returns-then-not-states_length : goal.returns-then-not-states_length
returns-then-not-states_length c = stayed (raw_of c.args.block) c.frame.new.text.items c.requires.sound (rw c.if-not-states_length.true at c.states_length.ensures) c.in_ok-frame.ensures

pub put_unstated-requires : goal.put_unstated-requires
put_unstated-requires c =
    let taken = c.requires.sound in
    sound_section_long c.args.block.type_ (number_in c.args.block.endianness) c.args.block.body.now taken.0 taken.1 taken.2

pub put_changed-requires : goal.put_changed-requires
put_changed-requires c =
    let taken = c.requires.sound in
    let type = c.args.block.type_ in
    let s = c.args.block.body.now in
    let put : c.as_slice.result.now ≡ unstated type s = c.as_slice.ensures.value ∙ c.in_ok-put_unstated.ensures ∙ ap (λ (t : List ℕ). t ++ unstated type s) c.clear.ensures.items in
    omega (arith, c.requires.short, ap length put, unstated_length type s (sound_section_long type (number_in c.args.block.endianness) s taken.0 taken.1 taken.2))

pub returns : goal.returns
returns c =
    let taken = c.requires.sound in
    let type = c.args.block.type_ in
    let s = c.args.block.body.now in
    let put : c.as_slice.result.now ≡ unstated type s = c.as_slice.ensures.value ∙ c.in_ok-put_unstated.ensures ∙ ap (λ (t : List ℕ). t ++ unstated type s) c.clear.ensures.items in
    changed (raw_of c.args.block) (unstated type s) c.as_slice.result.now c.put_changed.new.text.items c.put_changed.result put (stated taken.0 taken.1 taken.2 (rw c.if-not-states_length.false at c.states_length.ensures)) c.put_changed.ensures
