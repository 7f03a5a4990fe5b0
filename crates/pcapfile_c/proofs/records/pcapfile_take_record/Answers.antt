use Rattle.std.proofs.Common.{refl, inr, sym, ◌≡◌, ◌∙◌}
use Rattle.std.proofs.lemmas.Option.{same_Some}
use Rattle.pcap_core.specs.Answer.{number_in}
use Rattle.pcap_options.specs.Record.{RecordSays}
use Rattle.pcapfile_c.proofs.TakenOptions.{tells_shown}
use Rattle.pcapfile_c.proofs.records.pcapfile_take_record.Goals as goal

pub returns-in-Err-clause-taken : goal.returns-in-Err-clause-taken
returns-in-Err-clause-taken c e names =
    let same : c.in-Some.order ≡ e = same_Some c.in-Some.order e (sym c.in-Some.is ∙ c.endianness.ensures ∙ names) in
    inr (inr (refl, refl, tells_shown (RecordSays (number_in e) c.args.left.now.bytes.now) c.in-Err.e c.tell.new.told c.tell.result (rw (← same) c.in-Err.ensures) c.tell.ensures))
