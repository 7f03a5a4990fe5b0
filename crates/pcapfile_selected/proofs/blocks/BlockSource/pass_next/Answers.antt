use Rattle.std.proofs.Common.{◌∙◌, List, ℕ, length, ap, rules, subst}
use Rattle.pcap_ng.specs.Reader.{text_of}
use Rattle.pcapfile_cut.specs.BlockCuts.{lent_by, place_of}
use Rattle.pcapfile_selected.specs.SelectedBlocks.{CountsBlock}
use Rattle.pcapfile_selected.proofs.PutBlocks.{not_refused, passes_one}
use Rattle.pcapfile_selected.proofs.blocks.BlockSource.pass_next.Goals as goal

pub returns-clause-passes : goal.returns-clause-passes
returns-clause-passes g c =
    let a = place_of g.R.Read.remaining c.args.self.now.blocks in
    let m = place_of g.R.Read.remaining c.peek.new.self in
    let now = place_of g.R.Read.remaining c.pass.new.self in
    let y = lent_by c.peek.new.self c.in-Some.header in
    let peeked = rw c.in-Some.is at c.in_ok-header.ensures in
    let counts : CountsBlock c.holds_packet-has_packet.result (length y.text) c.args.outcome.now c.count_block.new.outcome =
    subst (λ (t : List ℕ). CountsBlock c.holds_packet-has_packet.result (length t) c.args.outcome.now c.count_block.new.outcome)
    (c.text.ensures ∙ ap text_of c.reader.ensures) c.count_block.ensures in
    passes_one c.args.choosing.now.asked c.args.first a m now y c.holds_packet-has_packet.result c.args.outcome.now c.count_block.new.outcome c.args.choosing.now.first c.note_passed.new.choosing.first (lent_by c.pass.new.self) c.in_ok-pass.field-0
    peeked.0 peeked.1 c.holds_packet-has_packet.ensures counts (search rules) (search rules) c.in_ok-pass.ensures

pub returns-in_err-pass-clause-passes : goal.returns-in_err-pass-clause-passes
returns-in_err-pass-clause-passes g c =
    let m = place_of g.R.Read.remaining c.peek.new.self in
    let now = place_of g.R.Read.remaining c.pass.new.self in
    let peeked = rw c.in-Some.is at c.in_ok-header.ensures in
    not_refused (lent_by c.pass.new.self) m now (lent_by c.peek.new.self c.in-Some.header) _ peeked.1 c.in_err-pass.ensures
