use Rattle.pcapfile_sort.proofs.blocks.number_block.Goals as goal

pub returns-in-Ok : goal.returns-in-Ok
returns-in-Ok c = record {
  body = _;
  rest = _;
  says = c.in-Ok.ensures.tells.1;
  sections = c.sections_behind.ensures;
  number_is = c.body_number.ensures.number;
  few = c.body_number.ensures.few;
}
