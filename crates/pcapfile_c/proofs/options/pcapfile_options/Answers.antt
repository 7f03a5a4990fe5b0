use Rattle.std.proofs.Common.{refl, inr, sym, ◌∙◌}
use Rattle.std.proofs.lemmas.Option.{same_Some}
use Rattle.pcap_core.specs.Answer.{number_in}
use Rattle.pcapfile_c.specs.Options.{OptionsSay}
use Rattle.pcapfile_c.proofs.TakenOptions.{tells_shown}
use Rattle.pcapfile_c.proofs.options.pcapfile_options.Goals as goal

pub returns-in-Err-clause-found : goal.returns-in-Err-clause-found
returns-in-Err-clause-found c e named =
    let order = c.in-Some.order in
    let same = same_Some e order (sym named ∙ sym c.endianness.ensures ∙ c.in-Some.is) in
    let IsSaid = OptionsSay (number_in order) c.from.result c.args.block.now.body.now in
    rw (same, sym c.from.ensures) (inr (inr (refl, tells_shown IsSaid c.in-Err.e c.tell.new.told c.tell.result c.in-Err.ensures c.tell.ensures)))
