use Rattle.pcapfile_values.proofs.bodies.enhanced_in.Goals as goal

pub returns-in-Some : goal.returns-in-Some
returns-in-Some g c = let told = c.in-Some.ensures in (told.0, told.1, told.2, told.3.text)
