use Rattle.std.proofs.Common.{refl}
use Rattle.test_formats.proofs.HeadedSamples.{samples_lawful}
use Rattle.test_formats.proofs.lent.parse_log.Goals as goal

pub parse_items-requires : goal.parse_items-requires
parse_items-requires c = λ k. ((refl, tt), samples_lawful)
