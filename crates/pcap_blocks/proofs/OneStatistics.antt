-- Any bytes have exactly one reading as the body of interface statistics.
use Rattle.std.proofs.Common.{◌≡◌, ℕ, ◌+◌, ◌*◌, ◌^◌, ◌<◌, List, [], ◌∷◌, length, refl, ap, subst, inl, inr}
use Rattle.std.specs.Prelude.{◌⊎◌}
use Rattle.pcap_core.specs.Answer.{Order, Number, whole, faulty}
use Rattle.pcap_core.specs.Faults.{Fault, Invalid}
use Rattle.pcap_core.specs.Laws.{ExactlyOne}
use Rattle.pcap_core.specs.declared.rules.Rule.TheVariants.{StatisticsTooShort}
use Rattle.pcap_options.specs.Values.{Entry}
use Rattle.pcap_options.specs.Options.{may_end_with_body, ListSays}
use Rattle.pcap_options.specs.StatisticsOption.{interface_statistics}
use Rattle.pcap_blocks.specs.InterfaceStatistics.{Statistics, StatisticsText, StatisticsFault, short, in_options, StatisticsSays}
use Rattle.pcap_core.specs.Padded.{Behind}
use Rattle.pcap_core.proofs.Numbers.{Values, Numbers}
use Rattle.pcap_blocks.proofs.NumbersThen.{IsNumbersThen, numbers_then_one}
use Rattle.pcap_options.proofs.OneList.{list_one}

-- The widths of the interface number and the halves of the time.
abbrev widths : List ℕ
widths = 4 ∷ 4 ∷ 4 ∷ []

abbrev make : Values widths → List Entry → Statistics
make ns options = record { interface_id = ns.0; timestamp = ns.1.0 * 2 ^ 32 + ns.1.1.0; options = options }

abbrev at_time : Statistics → ℕ → Statistics
at_time b t = record { interface_id = b.interface_id; timestamp = t; options = b.options }

fault_to : (order : Order) (fault : Fault) (s : List ℕ) → StatisticsFault order s fault
    → ((fault ≡ Invalid StatisticsTooShort) × (length s < 12)) ⊎ ((after : List ℕ) × Behind 12 s after × ListSays may_end_with_body order interface_statistics after (faulty fault))
fault_to order fault s (short lt) = inl (refl, lt)
fault_to order fault s (in_options _ after behind stands) = inr (after, behind, stands)

text_to : (order : Order) (b : Statistics) (s rest : List ℕ) → StatisticsText order b s rest
    → (ns : Values widths) × (after : List ℕ) × Numbers order widths ns s after × (options : List Entry) × (b ≡ make ns options) × ListSays may_end_with_body order interface_statistics after (whole options rest)
text_to order b s rest h =
    let t = h.time_is in (
      (b.interface_id, (t.high, (t.low, tt))),
      h.after_time,
      (h.after_interface, h.interface_is, (t.after_high, t.high_is, (h.after_time, t.low_is, refl))),
      b.options,
      ap (at_time b) t.both,
      h.options_are,
    )

text_from : (order : Order) (ns : Values widths) (options : List Entry) (s after rest : List ℕ) → Numbers order widths ns s after → ListSays may_end_with_body order interface_statistics after (whole options rest)
    → StatisticsText order (make ns options) s rest
text_from order ns options s after rest n h = record {
  after_interface = n.0;
  after_time = after;
  interface_is = n.1;
  time_is = record { high = ns.1.0; low = ns.1.1.0; after_high = n.2.0; high_is = n.2.1; low_is = subst (λ (x : List ℕ). Number order 4 ns.1.1.0 n.2.0 x) n.2.2.2 n.2.2.1; both = refl };
  options_are = h;
}

statistics_then : (order : Order) → IsNumbersThen order (Invalid StatisticsTooShort) widths make (ListSays may_end_with_body order interface_statistics) (StatisticsText order) (StatisticsFault order)
statistics_then order = record {
  text_to = λ b s rest h. text_to order b s rest h;
  text_from = λ ns options s after rest n h. text_from order ns options s after rest n h;
  fault_to = λ fault s h. fault_to order fault s h;
  short_from = λ s lt. short lt;
  fault_from = λ fault s after behind h. in_options fault after behind h;
  no_lack = λ s n h. h;
}

pub statistics_one : (order : Order) (s : List ℕ) → ExactlyOne (StatisticsSays order s)
statistics_one order =
    numbers_then_one order (Invalid StatisticsTooShort) widths make (ListSays may_end_with_body order interface_statistics) (StatisticsText order) (StatisticsFault order) (statistics_then order) (list_one may_end_with_body order interface_statistics)
