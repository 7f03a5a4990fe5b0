use Rattle.std.proofs.Common.{◌∙◌, ap}
use Rattle.pcap_filter.specs.Texts.{behind_word, first_word}
use Rattle.pcap_filter.proofs.Texts.{same_words}
use Rattle.pcap_filter.proofs.text.instruction.Goals as goal

pub returns : goal.returns
returns c =
    let behind = c.cut-2.ensures.behind ∙ ap behind_word c.cut.ensures.behind in
    same_words c.instruction_of.result _ _ _ _ _ _ _ _ c.cut.ensures.before (c.cut-2.ensures.before ∙ ap first_word c.cut.ensures.behind)
    (c.cut-3.ensures.before ∙ ap first_word behind) (c.cut-3.ensures.behind ∙ ap behind_word behind) c.instruction_of.ensures
