use Rattle.pcapfile_values.proofs.errors.rule_number.Goals as goal

pub returns-in-Some-clause-named : goal.returns-in-Some-clause-named
returns-in-Some-clause-named c rule named = let found = c.in-Some.ensures.found rule named in cc

pub returns-in-None-clause-named : goal.returns-in-None-clause-named
returns-in-None-clause-named c rule named = let found = c.in-None.ensures.found rule named in cc

pub returns-in-Some-clause-unnamed : goal.returns-in-Some-clause-unnamed
returns-in-Some-clause-unnamed c none = absurd (none c.in-Some.rule c.in-Some.ensures.named)
