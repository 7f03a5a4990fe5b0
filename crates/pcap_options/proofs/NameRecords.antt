-- Lemmas for the calls that read name records.
use Rattle.std.proofs.Common.{◌≡◌, ◌≢◌, ℕ, ◌<◌, List, [], ◌∷◌, ◌++◌, length, refl, sym, subst, ◌∙◌, append_assoc}
use Rattle.pcap_core.specs.Answer.{Order, whole, faulty}
use Rattle.pcap_core.specs.Faults.{Fault, Invalid}
use Rattle.pcap_core.specs.declared.rules.Rule.TheVariants.{RecordUnpadded}
use Rattle.pcap_core.proofs.Texts.{split_same}
use Rattle.pcap_options.specs.declared.record.Record.{Record}
use Rattle.pcap_options.specs.declared.record.Record.TheVariants as record_of
use Rattle.pcap_core.specs.Padded.{Padded, up_to_4, Chain}
use Rattle.pcap_options.specs.Options.{CodeLengthText}
use Rattle.pcap_options.specs.Record.{NameRecord, End, form_of, RecordValueSays, RecordText, RecordFault, RecordValueMayGrow, RecordMayGrow, wrong, unpadded, name_record_of}
use Rattle.pcap_options.specs.Records.{KeptText, RecordsFault, RecordsMayGrow, kept, named}
use Rattle.pcap_options.proofs.ReadOptions.{head_with}

pub record_wrong : (order : Order) (type len : ℕ) (s after v more : List ℕ) → CodeLengthText order type len s after → length v ≡ len → after ≡ v ++ more → (f : Fault) → RecordValueSays (form_of type) v (faulty f) → RecordFault order s f
record_wrong order type len s after v more h is parts f fault = wrong f type v after more (head_with order type len v s after h is) parts fault

pub record_grows : (order : Order) (type len : ℕ) (s after v more : List ℕ) → CodeLengthText order type len s after → length v ≡ len → after ≡ v ++ more → RecordValueMayGrow (form_of type) v → RecordMayGrow order s
record_grows order type len s after v more h is parts grows = record { type = type; v = v; after = after; more = more; head = head_with order type len v s after h is; parts = parts; grows = grows }

pub record_unpadded : (order : Order) (r : NameRecord) (type len : ℕ) (s after v more : List ℕ) → CodeLengthText order type len s after → length v ≡ len → after ≡ v ++ more → RecordValueSays (form_of type) v (whole r [])
    → length after < up_to_4 len → RecordFault order s (Invalid RecordUnpadded)
record_unpadded order r type len s after v more h is parts value lt =
    unpadded r type v after more (head_with order type len v s after h is) parts value (subst (λ (k : ℕ). length after < up_to_4 k) (sym is) lt)

-- A padded value is the value at the front, if both have the same length.
pub same_padded : (v w s more rest : List ℕ) → s ≡ v ++ more → length v ≡ length w → Padded w s rest → Padded v s rest
same_padded v w s more rest parts len p =
    let here : s ≡ w ++ (p.padding ++ rest) = p.text ∙ append_assoc w p.padding rest in
    let same = split_same v more w (p.padding ++ rest) len (sym parts ∙ here) in
    subst (λ (x : List ℕ). Padded x s rest) (sym same.0) p

pub record_found : (order : Order) (r : NameRecord) (type len : ℕ) (s after v more w rest : List ℕ) → CodeLengthText order type len s after → length v ≡ len → after ≡ v ++ more → RecordValueSays (form_of type) v (whole r [])
    → length w ≡ len → Padded w after rest → RecordText order r s rest
record_found order r type len s after v more w rest h is parts value is' p = record {
  type = type;
  v = v;
  after = after;
  head = head_with order type len v s after h is;
  value_is = value;
  padded = same_padded v w after more rest parts (is ∙ sym is') p;
}

no_end_of : (r : Record) → (r ≡ record_of.End → ⊥) → name_record_of r ≢ End
no_end_of record_of.End apart e = apart refl
no_end_of (record_of.Ipv4 r) apart e = absurd cc
no_end_of (record_of.Ipv6 r) apart e = absurd cc
no_end_of (record_of.Unknown r) apart e = absurd cc

pub kept_of : (order : Order) (r : Record) (s rest : List ℕ) → RecordText order (name_record_of r) s rest → (r ≡ record_of.End → ⊥) → KeptText order (name_record_of r) s rest
kept_of order r s rest is apart = record { record_is = is; no_end = no_end_of r apart }

-- Records may grow if a record with a name follows kept records or is at the front.
pub records_grow : (order : Order) (good : List NameRecord) (s rest : List ℕ) → Chain (KeptText order) good s rest → RecordMayGrow order rest → RecordsMayGrow order s
records_grow order [] s rest are grows = named (subst (λ (x : List ℕ). RecordMayGrow order x) (sym are) grows)
records_grow order (first ∷ good) s rest are grows = kept (record { value = first; rest = are.0; text = are.1 })

-- The fault of a record that follows kept records is the fault of the list.
pub records_fail : (order : Order) (good : List NameRecord) (s bad : List ℕ) → Chain (KeptText order) good s bad → (f : Fault) → RecordFault order bad f → RecordsFault order s f
records_fail order good s bad are f fault = record { good = good; bad = bad; are_good = are; fault_is = fault }
