use Rattle.std.proofs.Common.{refl, length, rules}
use Rattle.pcap_core.specs.Answer.{faulty}
use Rattle.pcap_core.specs.Faults.{Fault}
use Rattle.pcap_core.specs.declared.rules.Rule.TheVariants.{EndNotEmpty}
use Rattle.pcap_core.proofs.Refusals.{named_shows}
use Rattle.pcap_options.specs.Record.{RecordValueSays, no_value, Ipv4, Ipv6, Other}
use Rattle.pcap_options.proofs.ReadOptions.{not_empty}
use Rattle.pcapfile_c.proofs.records.record_of.Goals as goal

pub returns-else-is_empty : goal.returns-else-is_empty
returns-else-is_empty c =
    let Stands : Fault → Type 0 = λ fault. RecordValueSays no_value c.args.value.now (faulty fault) in
    rw c.in-0.is (named_shows Stands EndNotEmpty c.from.result (refl, not_empty c.args.value.now c.if-is_empty.ensures) c.from.ensures)

pub returns-in_ok-address_of-in-1 : goal.returns-in_ok-address_of-in-1
returns-in_ok-address_of-in-1 c =
    let found = c.in_ok-address_of-in-1.ensures in
    rw c.in-1.is (Ipv4 found.0, rw c.in-1.is at found.1, (found.0, refl, found.2))

pub returns-in_ok-address_of-in-2 : goal.returns-in_ok-address_of-in-2
returns-in_ok-address_of-in-2 c =
    let found = c.in_ok-address_of-in-2.ensures in
    rw c.in-2.is (Ipv6 found.0, rw c.in-2.is at found.1, (found.0, refl, found.2))

pub returns-in_default : goal.returns-in_default
returns-in_default c =
    (Other c.args.type_ (length c.args.value.now) c.args.value.now, record { type_is = refl; value_is = refl; no_names = refl }, search rules)
