use Rattle.std.proofs.Common.{◌∙◌, ap, inl, inr, length, refl, rules, subst}
use Rattle.std.proofs.lemmas.Result.{err_from_is_err_and}
use Rattle.pcap_blocks.specs.SectionHeader.{Section}
use Rattle.pcap_ng.specs.Reader.{state_of, stream_of, text_of, section_in_force, interfaces_in_force}
use Rattle.pcapfile_info.specs.Describing.{HasComment, HasMachine, machine_in, opened_of}
use Rattle.pcapfile_info.proofs.InForce.{opens_bare}
use Rattle.pcapfile_info.proofs.Informing.{blocks_refused, blocks_informed, machine_opened, machine_unknown, opens_with_texts}
use Rattle.pcapfile_info.proofs.captures.inform_blocks.Goals as goal

pub returns-in-Err-clause-informs : goal.returns-in-Err-clause-informs
returns-in-Err-clause-informs g c = blocks_refused c.new-in-Err.result.items c.new-in-Err-2.result.items (search rules) (search rules) (g.R.Read.remaining c.args.input) c.in-Err.error c.end_of-end.result c.new-totals.result c.new-totals.ensures c.in-Err.ensures c.end_of-end.ensures

pub tell_blocks-fault-requires-clause-no_interface : goal.tell_blocks-fault-requires-clause-no_interface
tell_blocks-fault-requires-clause-no_interface g c =
    let opened = c.in-Ok.reader in
    opens_bare (section_in_force opened) (interfaces_in_force opened) (text_of opened) _ c.in-Ok.ensures.2.0

pub returns-clause-informs : goal.returns-clause-informs
returns-clause-informs g c =
    let opened = c.in-Ok.reader in
    let reader = c.tell_blocks-fault.new.reader in
    blocks_informed c.opened_by-opened.result (g.R.Read.remaining c.args.input) (g.R.Read.remaining (stream_of opened)) (g.R.Read.remaining (stream_of reader)) (text_of opened) (state_of opened) (length c.text.result.now) (ap length c.text.ensures)
    (search rules) c.tell_blocks-fault.new.read_failed _ c.tell_blocks-fault.new.progress c.tell_blocks-fault.result c.end_of-end-2.result refl refl c.in-Ok.ensures.2 c.tell_blocks-fault.ensures c.end_of-end-2.ensures (c.opened_by-opened.ensures ∙ ap opened_of c.section.ensures)

pub returns-in_err-push_comments-clause-no_room : goal.returns-in_err-push_comments-clause-no_room
returns-in_err-push_comments-clause-no_room g c =
    let opened = c.in-Ok.reader in
    let p = err_from_is_err_and c.from_residual.result c.from_residual.ensures.1 in
    let some = subst (λ (s : Section). HasComment s.options) c.section-2.ensures c.in_err-push_comments.ensures.1 in
    rw p.1 (opens_with_texts (g.R.Read.remaining c.args.input) (g.R.Read.remaining (stream_of opened)) (text_of opened) (state_of opened) c.in-Ok.ensures.2 (inl some))

pub returns-in_err-machine-clause-no_room : goal.returns-in_err-machine-clause-no_room
returns-in_err-machine-clause-no_room g c =
    let opened = c.in-Ok.reader in
    let p = err_from_is_err_and c.from_residual-in_err-machine.result c.from_residual-in_err-machine.ensures.1 in
    let some = subst (λ (s : Section). HasMachine s.options) c.section-3.ensures c.in_err-machine.ensures in
    rw p.1 (opens_with_texts (g.R.Read.remaining c.args.input) (g.R.Read.remaining (stream_of opened)) (text_of opened) (state_of opened) c.in-Ok.ensures.2 (inr some))

pub returns-in-Err-clause-machine : goal.returns-in-Err-clause-machine
returns-in-Err-clause-machine g c = machine_unknown c.unknown.result (g.R.Read.remaining c.args.input) c.unknown.ensures

pub returns-clause-machine : goal.returns-clause-machine
returns-clause-machine g c =
    let opened = c.in-Ok.reader in
    machine_opened c.opened_by-opened.result c.in_ok-machine.machine (g.R.Read.remaining c.args.input) (g.R.Read.remaining (stream_of opened)) (text_of opened) (state_of opened) c.in-Ok.ensures.2
    (c.in_ok-machine.ensures ∙ ap (λ (s : Section). machine_in s.options) c.section-3.ensures)
