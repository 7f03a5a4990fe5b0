use Rattle.std.proofs.Common.{rules}
use Rattle.pcapfile_cut.specs.ShortBlocks.{cut_off}
use Rattle.pcapfile_cut.proofs.block_shortening.split_parts.Goals as goal

pub returns-in_err-bytes : goal.returns-in_err-bytes
returns-in_err-bytes g c =
    rw c.from_residual.ensures (cut_off (record {
      front = c.split_at.result.0.now;
      captured = c.split_u32-captured.result.0;
      original = c.split_at-2.result.0.now;
      after_front = c.split_at.result.1.now;
      after_captured = c.split_u32-captured.result.1.now;
      after_original = c.split_at-2.result.1.now;
      front_is = search rules;
      front_length = search rules;
      captured_is = c.split_u32-captured.ensures.number;
      original_is = search rules;
      original_length = search rules;
      short = c.in_err-bytes.ensures.len;
    }))
