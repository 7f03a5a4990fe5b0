use Rattle.test_formats.proofs.HeadedSamples.{samples_lawful}
use Rattle.test_formats.proofs.laws.samples_are_lawful.Goals as goal

pub returns : goal.returns
returns c = samples_lawful
