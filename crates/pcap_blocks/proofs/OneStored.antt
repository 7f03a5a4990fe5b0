-- Any bytes have exactly one reading as a stored packet, and as each body that holds one.
use Rattle.std.proofs.Common.{◌≡◌, ℕ, ◌+◌, ◌*◌, ◌^◌, ◌<◌, List, [], ◌∷◌, length, take, drop, refl, sym, ap, subst, arith, inl, inr}
use Rattle.std.specs.Prelude.{◌⊎◌}
use Rattle.std.proofs.lemmas.Bool.{cases_lt}
use Rattle.std.proofs.lemmas.List.{take-append-drop, length-take, length-drop}
use Rattle.pcap_core.specs.Answer.{Order, Number, Verdict, whole, lacks, faulty, Made}
use Rattle.pcap_core.specs.Faults.{Fault, Invalid}
use Rattle.pcap_core.specs.Laws.{ExactlyOne}
use Rattle.pcap_core.specs.Padded.{Behind}
use Rattle.pcap_core.specs.declared.rules.Rule.TheVariants.{EnhancedTooShort, EnhancedCut}
use Rattle.pcap_options.specs.Values.{Entry, Kind}
use Rattle.pcap_options.specs.Options.{may_end_with_body, ListSays}
use Rattle.pcap_blocks.specs.StoredPacket.{Stored, StoredHead, StoredText, StoredFault, short, cut, in_options, StoredSays}
use Rattle.pcap_core.proofs.Verdicts.{one_moved, Then, one_then, one_made}
use Rattle.pcap_core.proofs.Numbers.{Values, Numbers, NumbersSay, numbers_one}
use Rattle.pcap_core.proofs.OnePadded.{PaddedSays, padded_one}
use Rattle.pcap_options.proofs.OneList.{list_one}
use Rattle.pcap_blocks.proofs.StoredPackets.{stored}

-- The widths of the halves of the time, the captured length and the original length.
abbrev widths : List ℕ
widths = 4 ∷ 4 ∷ 4 ∷ 4 ∷ []

abbrev time_in : Values widths → ℕ
time_in ns = ns.0 * 2 ^ 32 + ns.1.0

stored_with : Values widths → List ℕ → List Entry → Stored
stored_with ns v options = stored (time_in ns) ns.1.1.0 ns.1.1.1.0 v options

DataThen : Order → Kind → Values widths → List ℕ → Verdict Stored → Type 0
DataThen order kind ns after = Then (PaddedSays (Invalid EnhancedCut) ns.1.1.0 after) (λ v more. Made (stored_with ns v) (ListSays may_end_with_body order kind more))

data_one : (order : Order) (kind : Kind) (ns : Values widths) (after : List ℕ) → ExactlyOne (DataThen order kind ns after)
unfolding DataThen
data_one order kind ns after =
    one_then (PaddedSays (Invalid EnhancedCut) ns.1.1.0 after) (λ v more. Made (stored_with ns v) (ListSays may_end_with_body order kind more)) (padded_one (Invalid EnhancedCut) ns.1.1.0 after)
    (λ v more k. one_made (stored_with ns v) (ListSays may_end_with_body order kind more) (list_one may_end_with_body order kind more))

StoredThen : Order → Kind → List ℕ → Verdict Stored → Type 0
StoredThen order kind s = Then (NumbersSay order (Invalid EnhancedTooShort) widths s) (λ ns after. DataThen order kind ns after)

numbers_of : (order : Order) (p : Stored) (s rest : List ℕ) → StoredHead order p s rest → Values widths
numbers_of order p s rest h = (h.time_is.high, (h.time_is.low, (p.captured_len, (p.original_len, tt))))

head_to : (order : Order) (p : Stored) (s rest : List ℕ) (h : StoredHead order p s rest) → Numbers order widths (numbers_of order p s rest h) s rest
unfolding numbers_of
head_to order p s rest h = (h.time_is.after_high, h.time_is.high_is, (h.after_time, h.time_is.low_is, (h.after_captured, h.captured_is, (rest, h.original_is, refl))))

head_from : (order : Order) (ns : Values widths) (v : List ℕ) (options : List Entry) (s rest : List ℕ) → Numbers order widths ns s rest → StoredHead order (stored_with ns v options) s rest
unfolding stored_with
head_from order ns v options s rest t = record {
  after_time = t.2.0;
  after_captured = t.2.2.0;
  time_is = record { high = ns.0; low = ns.1.0; after_high = t.0; high_is = t.1; low_is = t.2.1; both = refl };
  captured_is = t.2.2.1;
  original_is = subst (λ (x : List ℕ). Number order 4 ns.1.1.1.0 t.2.2.0 x) t.2.2.2.2 t.2.2.2.1;
}

at_time : Stored → ℕ → Stored
at_time p t = stored t p.captured_len p.original_len p.bytes p.options

stored_to : (order : Order) (kind : Kind) (s : List ℕ) (w : Verdict Stored) → StoredSays order kind s w → StoredThen order kind s w
unfolding StoredThen DataThen stored_with at_time numbers_of
stored_to order kind s (whole p rest) h =
    (numbers_of order p s h.after_head h.head, h.after_head, head_to order p s h.after_head h.head, (p.bytes, h.after_bytes, (h.padded, h.captured), (p.options, ap (at_time p) h.head.time_is.both, h.options_are)))
stored_to order kind s (lacks n) h = absurd h
stored_to order kind s (faulty f) (short lt) = inl (refl, lt)
stored_to order kind s (faulty f) (cut p after h lt) = inr (numbers_of order p s after h, after, head_to order p s after h, inl (refl, lt))
stored_to order kind s (faulty f) (in_options _ p after after_bytes h captured padded fault) =
    inr (numbers_of order p s after h, after, head_to order p s after h, inr (p.bytes, after_bytes, (padded, captured), fault))

stored_fault : (order : Order) (kind : Kind) (s : List ℕ) (f : Fault) (ns : Values widths) (after : List ℕ) → Numbers order widths ns s after → DataThen order kind ns after (faulty f) → StoredFault order kind s f
unfolding DataThen stored_with
stored_fault order kind s f ns after k (inl t) = rw t.0 (cut (stored_with ns [] []) after (head_from order ns [] [] s after k) t.1)
stored_fault order kind s f ns after k (inr t) = in_options f (stored_with ns t.0 []) after t.1 (head_from order ns t.0 [] s after k) t.2.1 t.2.0 t.3

no_lack : (order : Order) (kind : Kind) (ns : Values widths) (after : List ℕ) (n : ℕ) → DataThen order kind ns after (lacks n) → ⊥
unfolding DataThen
no_lack order kind ns after n (inl t) = t
no_lack order kind ns after n (inr t) = t.3

stored_from : (order : Order) (kind : Kind) (s : List ℕ) (w : Verdict Stored) → StoredThen order kind s w → StoredSays order kind s w
unfolding StoredThen DataThen stored_with
stored_from order kind s (whole p rest) t =
    let d = t.3 in
    let is : StoredText order kind (stored_with t.0 d.0 d.3.0) s rest =
    record { after_head = t.1; after_bytes = d.1; head = head_from order t.0 d.0 d.3.0 s t.1 t.2; captured = d.2.1; padded = d.2.0; options_are = d.3.2 } in
    subst (λ (x : Stored). StoredText order kind x s rest) (sym d.3.1) is
stored_from order kind s (lacks n) (inl t) = t
stored_from order kind s (lacks n) (inr t) = no_lack order kind t.0 t.1 n t.3
stored_from order kind s (faulty f) (inl t) = rw t.0 (short t.1)
stored_from order kind s (faulty f) (inr t) = stored_fault order kind s f t.0 t.1 t.2 t.3

pub stored_one : (order : Order) (kind : Kind) (s : List ℕ) → ExactlyOne (StoredSays order kind s)
unfolding StoredThen
stored_one order kind s =
    one_moved (StoredSays order kind s) (StoredThen order kind s) (stored_to order kind s) (stored_from order kind s)
    (one_then (NumbersSay order (Invalid EnhancedTooShort) widths s) (λ ns after. DataThen order kind ns after) (numbers_one order (Invalid EnhancedTooShort) widths s) (λ ns after k. data_one order kind ns after))

-- The fault of a body of four bytes and a stored packet: fewer than four bytes, or the fault of the stored packet.
abbrev pub PacketFault : Order → Kind → List ℕ → Fault → Type 0
PacketFault order kind s fault = ((fault ≡ Invalid EnhancedTooShort) × (length s < 4)) ⊎ ((after : List ℕ) × Behind 4 s after × StoredSays order kind after (faulty fault))

-- A body of fewer than 20 bytes has fewer than 16 after its first 4.
pub short_packet : (order : Order) (kind : Kind) (s : List ℕ) → length s < 20 → PacketFault order kind s (Invalid EnhancedTooShort)
short_packet order kind s lt =
    elim (cases_lt (length s) 4) [
      | inl few ↦ inl (refl, few)
      | inr some ↦ inr (drop 4 s, record { bytes = take 4 s; text = sym (take-append-drop 4 s); length_is = omega (arith, length-take 4 s) }, short (omega (arith, lt, length-drop 4 s)))
    ]
