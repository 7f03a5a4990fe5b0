-- Any bytes have exactly one reading as the body of a name resolution block.
use Rattle.std.proofs.Common.{ℕ, List, refl, sym, subst, inl, inr}
use Rattle.pcap_core.specs.Answer.{Order, Verdict, whole, lacks, faulty, Made}
use Rattle.pcap_core.specs.Laws.{ExactlyOne}
use Rattle.pcap_options.specs.Values.{Entry}
use Rattle.pcap_options.specs.Options.{may_end_with_body, ListSays}
use Rattle.pcap_options.specs.Record.{NameRecord}
use Rattle.pcap_options.specs.NameOption.{name_resolution}
use Rattle.pcap_options.specs.Records.{RecordsSay}
use Rattle.pcap_blocks.specs.NameResolution.{Resolution, ResolutionText, in_records, in_options, ResolutionSays}
use Rattle.pcap_core.proofs.Verdicts.{one_moved, Then, one_then, one_made}
use Rattle.pcap_options.proofs.OneList.{list_one}
use Rattle.pcap_options.proofs.OneRecords.{records_one}

resolution_at : List NameRecord → List Entry → Resolution
resolution_at records options = record { records = records; options = options }

BodyThen : Order → List ℕ → Verdict Resolution → Type 0
BodyThen order s = Then (RecordsSay order s) (λ records after. Made (resolution_at records) (ListSays may_end_with_body order name_resolution after))

body_to : (order : Order) (s : List ℕ) (w : Verdict Resolution) → ResolutionSays order s w → BodyThen order s w
unfolding BodyThen resolution_at
body_to order s (whole b rest) h = (b.records, h.after, h.records_are, (b.options, refl, h.options_are))
body_to order s (lacks n) h = absurd h
body_to order s (faulty f) (in_records fault) = inl fault
body_to order s (faulty f) (in_options records after are fault) = inr (records, after, are, fault)

body_from : (order : Order) (s : List ℕ) (w : Verdict Resolution) → BodyThen order s w → ResolutionSays order s w
unfolding BodyThen resolution_at
body_from order s (whole b rest) t =
    let is : ResolutionText order (resolution_at t.0 t.3.0) s rest = record { after = t.1; records_are = t.2; options_are = t.3.2 } in
    subst (λ (x : Resolution). ResolutionText order x s rest) (sym t.3.1) is
body_from order s (lacks n) (inl t) = t
body_from order s (lacks n) (inr t) = t.3
body_from order s (faulty f) (inl t) = in_records t
body_from order s (faulty f) (inr t) = in_options t.0 t.1 t.2 t.3

pub resolution_one : (order : Order) (s : List ℕ) → ExactlyOne (ResolutionSays order s)
unfolding BodyThen
resolution_one order s =
    one_moved (ResolutionSays order s) (BodyThen order s) (body_to order s) (body_from order s)
    (one_then (RecordsSay order s) (λ records after. Made (resolution_at records) (ListSays may_end_with_body order name_resolution after)) (records_one order s) (λ records after h. one_made (resolution_at records) (ListSays may_end_with_body order name_resolution after) (list_one may_end_with_body order name_resolution after)))
