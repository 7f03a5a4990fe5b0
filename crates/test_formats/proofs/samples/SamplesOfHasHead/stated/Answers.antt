use Rattle.std.proofs.Common.{◌≡◌, ◌∙◌, length}
use Rattle.test_formats.specs.Samples.{head_length}
use Rattle.test_formats.proofs.StatedSamples.{sample_head, head_states, bad_states}
use Rattle.test_formats.proofs.samples.SamplesOfHasHead.stated.Goals as goal

pub head_in-requires : goal.head_in-requires
head_in-requires c = c.requires ∙ sample_head c.args.self.now.size

pub returns-in-Ok : goal.returns-in-Ok
returns-in-Ok c =
    let size = c.args.self.now.size in
    let s = c.args.bytes.now in
    let long : length s ≡ head_length size = c.requires ∙ sample_head size in
    head_states size c.in-Ok.n c.in-Ok.head s long c.in-Ok.ensures

pub returns-in-Err : goal.returns-in-Err
returns-in-Err c =
    let size = c.args.self.now.size in
    let s = c.args.bytes.now in
    let long : length s ≡ head_length size = c.requires ∙ sample_head size in
    bad_states size c.in-Err.fault s long c.in-Err.ensures
