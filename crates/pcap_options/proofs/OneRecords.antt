-- Any bytes have exactly one reading as name records up to the end record.
use Rattle.std.proofs.Common.{◌≡◌, ℕ, ◌<◌, List, length, refl, sym, subst, ◌∙◌, arith, inl, inr}
use Rattle.std.specs.Prelude.{◌⊎◌}
use Rattle.pcap_core.specs.Answer.{Order, Verdict, whole, lacks, faulty}
use Rattle.pcap_core.specs.Faults.{Fault}
use Rattle.pcap_core.specs.Laws.{ExactlyOne}
use Rattle.pcap_core.specs.Padded.{Chain}
use Rattle.pcap_options.specs.Record.{NameRecord, End, Ipv4, Ipv6, Other, RecordText, RecordFault, RecordSays}
use Rattle.pcap_options.specs.Records.{KeptText, RecordsSay}
use Rattle.pcap_core.proofs.Verdicts.{one_moved, Stopped, IsMany, one_stopped, whole_no_fault}
use Rattle.pcap_core.proofs.OnePadded.{padded_length}
use Rattle.pcap_core.proofs.Verdicts.{whole_same}
use Rattle.pcap_options.proofs.OneRecord.{record_one}
use Rattle.pcap_options.proofs.OneVerdict.{IsDecided, same_said}
use Rattle.pcap_options.proofs.OneList.{head_length}

record_same : (order : Order) (s : List ℕ) (v w : Verdict NameRecord) → RecordSays order s v → RecordSays order s w → w ≡ v
record_same order s v w h k = (record_one order s).only w k ∙ sym ((record_one order s).only v h)

-- A list of records stops at the end record or at a fault.
RecordStop : Order → List NameRecord → List ℕ → Verdict (List NameRecord) → Type 0
RecordStop order good s (whole rs rest) = (rs ≡ good) × RecordText order End s rest
RecordStop order good s (lacks n) = ⊥
RecordStop order good s (faulty f) = RecordFault order s f

item_same : (order : Order) (r q : NameRecord) (s a b : List ℕ) → KeptText order r s a → KeptText order q s b → (r ≡ q) × (a ≡ b)
item_same order r q s a b h k = whole_same r q a b (record_same order s (whole q b) (whole r a) k.record_is h.record_is)

item_shorter : (order : Order) (r : NameRecord) (s a : List ℕ) → KeptText order r s a → length a < length s
item_shorter order r s a h =
    let i = h.record_is in
    omega (arith, head_length order i.type (length i.v) s i.after i.head, padded_length i.v i.after a i.padded)

fault_same : (order : Order) (s : List ℕ) (f g : Fault) → RecordFault order s f → RecordFault order s g → g ≡ f
fault_same order s f g h k = let both = record_same order s (faulty f) (faulty g) h k in cc

stop_decided : (order : Order) (good : List NameRecord) (s : List ℕ) → IsDecided (RecordStop order good s)
unfolding RecordStop
stop_decided order good s = record {
  wholes = λ rs qs a b h k. (k.0 ∙ sym h.0, (whole_same End End b a (record_same order s (whole End a) (whole End b) h.1 k.1)).1);
  faults = λ f g h k. fault_same order s f g h k;
  not_both = λ rs a f h k. whole_no_fault End a f (record_same order s (faulty f) (whole End a) k h.1);
  no_lack = λ n h. h;
}

stop_no_item : (order : Order) (good : List NameRecord) (s : List ℕ) (w : Verdict (List NameRecord)) (r : NameRecord) (a : List ℕ) → RecordStop order good s w → KeptText order r s a → ⊥
unfolding RecordStop
stop_no_item order good s (whole rs b) r a h k = k.no_end (whole_same r End a b (record_same order s (whole End b) (whole r a) h.1 k.record_is)).0
stop_no_item order good s (lacks n) r a h k = h
stop_no_item order good s (faulty f) r a h k = whole_no_fault r a f (record_same order s (faulty f) (whole r a) h k.record_is)

record_stops : (order : Order) (good : List NameRecord) (s : List ℕ) (v : Verdict NameRecord) → RecordSays order s v → ((w : Verdict (List NameRecord)) × RecordStop order good s w) ⊎ ((r : NameRecord) × (a : List ℕ) × KeptText order r s a)
unfolding RecordStop
record_stops order good s (whole End a) h = inl (whole good a, (refl, h))
record_stops order good s (whole (Ipv4 x) a) h = inr (Ipv4 x, a, record { record_is = h; no_end = λ z. cc })
record_stops order good s (whole (Ipv6 x) a) h = inr (Ipv6 x, a, record { record_is = h; no_end = λ z. cc })
record_stops order good s (whole (Other t n v) a) h = inr (Other t n v, a, record { record_is = h; no_end = λ z. cc })
record_stops order good s (lacks n) h = absurd h
record_stops order good s (faulty f) h = inl (faulty f, h)

records_many : (order : Order) → IsMany (KeptText order) (RecordStop order)
records_many order = record { item_same = item_same order; item_shorter = item_shorter order; stop_same = λ good s v w h k. same_said (stop_decided order good s) v w h k; stop_no_item = stop_no_item order; one_of_both = λ good s. record_stops order good s (record_one order s).value (record_one order s).holds }

records_to : (order : Order) (s : List ℕ) (w : Verdict (List NameRecord)) → RecordsSay order s w → Stopped (KeptText order) (RecordStop order) s w
unfolding RecordStop
records_to order s (whole rs rest) h = (rs, h.end, h.are, (refl, h.ends))
records_to order s (lacks n) h = absurd h
records_to order s (faulty f) h = (h.good, h.bad, h.are_good, h.fault_is)

records_from : (order : Order) (s : List ℕ) (w : Verdict (List NameRecord)) → Stopped (KeptText order) (RecordStop order) s w → RecordsSay order s w
unfolding RecordStop
records_from order s (whole rs rest) t = record { end = t.1; are = subst (λ (x : List NameRecord). Chain (KeptText order) x s t.1) (sym t.3.0) t.2; ends = t.3.1 }
records_from order s (lacks n) t = t.3
records_from order s (faulty f) t = record { good = t.0; bad = t.1; are_good = t.2; fault_is = t.3 }

pub records_one : (order : Order) (s : List ℕ) → ExactlyOne (RecordsSay order s)
records_one order s = one_moved (RecordsSay order s) (Stopped (KeptText order) (RecordStop order) s) (records_to order s) (records_from order s) (one_stopped (KeptText order) (RecordStop order) (records_many order) s)
