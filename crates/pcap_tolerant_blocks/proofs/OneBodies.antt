-- Lenient reading of a packet or of statistics gives exactly one answer for any bytes.
use Rattle.std.proofs.Common.{◌≡◌, ◌<◌, ℕ, ◌+◌, ◌*◌, ◌^◌, List, [], ◌∷◌, length, take, drop, refl, sym, ap, subst, arith, inl, inr}
use Rattle.std.specs.Prelude.{◌⊎◌}
use Rattle.std.proofs.lemmas.Bool.{cases_lt}
use Rattle.std.proofs.lemmas.List.{take-append-drop, length-take, length-drop, length-append}
use Rattle.pcap_core.specs.declared.rules.Rule.{Rule}
use Rattle.pcap_core.specs.declared.rules.Rule.TheVariants.{EnhancedTooShort, EnhancedCut, SimpleTooShort, StatisticsTooShort}
use Rattle.pcap_core.specs.Answer.{Order, Number, Verdict, whole, lacks, faulty, Says, Made}
use Rattle.pcap_core.specs.Faults.{Fault, Invalid}
use Rattle.pcap_core.specs.Laws.{ExactlyOne}
use Rattle.pcap_core.specs.Padded.{Behind}
use Rattle.pcap_core.proofs.Verdicts.{one_moved, Then, one_then, one_made}
use Rattle.pcap_core.proofs.Numbers.{Values, Numbers, NumbersSay, numbers_one}
use Rattle.pcap_core.proofs.OnePadded.{PaddedSays, padded_one}
use Rattle.pcap_options.specs.Values.{Entry, Kind}
use Rattle.pcap_blocks.specs.StoredPacket.{Stored, StoredHead}
use Rattle.pcap_options.specs.EnhancedOption.{enhanced_packet}
use Rattle.pcap_blocks.specs.EnhancedPacket.{Enhanced}
use Rattle.pcap_options.specs.PacketOption.{packet_kind}
use Rattle.pcap_blocks.specs.Packet.{PacketBody}
use Rattle.pcap_blocks.specs.SimplePacket.{Simple, SimpleFault, SimpleSays}
use Rattle.pcap_blocks.specs.SimplePacket as strict_simple
use Rattle.pcap_options.specs.StatisticsOption.{interface_statistics}
use Rattle.pcap_blocks.specs.InterfaceStatistics.{Statistics}
use Rattle.pcap_blocks.proofs.OneWhole.{simple_one}
use Rattle.pcap_blocks.proofs.StoredPackets.{stored}
use Rattle.pcap_blocks.proofs.NumbersThen.{IsNumbersThen, numbers_then_one}
use Rattle.pcap_tolerant_blocks.specs.Flaws.{Said, Flawed, IfRoom, IfRoomSays}
use Rattle.pcap_tolerant_blocks.specs.OptionsAsIs.{OptionsAsIsSay}
use Rattle.pcap_tolerant_blocks.specs.StoredAsIs.{WithBytes, NoBytes, NoPacket, no_head, no_bytes}
use Rattle.pcap_tolerant_blocks.specs.EnhancedAsIs.{OfInterface, EnhancedAsIsSays}
use Rattle.pcap_tolerant_blocks.specs.PacketBlockAsIs.{WithDrops, PacketBlockAsIsSays}
use Rattle.pcap_tolerant_blocks.specs.SimpleAsIs.{Whole, NoLength, SimpleAsIsSays}
use Rattle.pcap_tolerant_blocks.specs.StatisticsAsIs.{AtTime, NoTime, StatisticsAsIsSay}
use Rattle.pcap_tolerant_blocks.proofs.OneAsIs.{said, one_image, placed_one, list_one}

-- ---- a body that there may be no room for

if_room_one : {V : Type 0} (IsText : V → List Said → List ℕ → List ℕ → Type 0) (NoRoom : List ℕ → Rule → Type 0) (HasFault : List ℕ → Fault → Type 0) (s : List ℕ)
    → ((fault : Fault) → HasFault s fault → (rule : Rule) × NoRoom s rule × (fault ≡ Invalid rule)) → ((rule : Rule) → NoRoom s rule → HasFault s (Invalid rule))
    → ExactlyOne (Says (λ (x : Flawed V) rest. IsText x.value x.flaws s rest) (λ n. ⊥) (HasFault s)) → ExactlyOne (IfRoomSays IsText NoRoom s)
if_room_one IsText NoRoom HasFault s fault_to fault_from one =
    placed_one (IfRoom IsText NoRoom) HasFault s (λ fault h. let t = fault_to fault h in (t.0, t.1, ap said t.2, refl)) (λ flaws rest h. (Invalid h.0, fault_from h.0 h.1, h.2, h.3)) one

-- ---- packets with a time: the halves of the time, captured and original length, the bytes, and options

abbrev widths : List ℕ
widths = 4 ∷ 4 ∷ 4 ∷ 4 ∷ []

stored_with : Values widths → List ℕ → Flawed (List Entry) → Flawed Stored
stored_with ns v x = record { value = stored (ns.0 * 2 ^ 32 + ns.1.0) ns.1.1.0 ns.1.1.1.0 v x.value; flaws = x.flaws }

at_time : Flawed Stored → ℕ → Flawed Stored
at_time x t = record { value = stored t x.value.captured_len x.value.original_len x.value.bytes x.value.options; flaws = x.flaws }

-- The fault of a stored packet: there is no room for its head, or for its bytes.
abbrev NoStored : Order → List ℕ → Fault → Type 0
NoStored order s fault = ((fault ≡ Invalid EnhancedTooShort) × (length s < 16)) ⊎ ((fault ≡ Invalid EnhancedCut) × NoBytes order s)

module _ (order : Order) (kind : Kind) where
  abbrev StoredSays : List ℕ → Verdict (Flawed Stored) → Type 0
  StoredSays s = Says (λ x rest. WithBytes order kind x.value x.flaws s rest) (λ n. ⊥) (NoStored order s)

  DataThen : Values widths → List ℕ → Verdict (Flawed Stored) → Type 0
  DataThen ns after = Then (PaddedSays (Invalid EnhancedCut) ns.1.1.0 after) (λ v more. Made (stored_with ns v) (OptionsAsIsSay order kind more))

  data_one : (ns : Values widths) (after : List ℕ) → ExactlyOne (DataThen ns after)
  unfolding DataThen
  data_one ns after =
      one_then (PaddedSays (Invalid EnhancedCut) ns.1.1.0 after) (λ v more. Made (stored_with ns v) (OptionsAsIsSay order kind more)) (padded_one (Invalid EnhancedCut) ns.1.1.0 after)
      (λ v more k. one_made (stored_with ns v) (OptionsAsIsSay order kind more) (list_one order kind more))

  StoredThen : List ℕ → Verdict (Flawed Stored) → Type 0
  StoredThen s = Then (NumbersSay order (Invalid EnhancedTooShort) widths s) (λ ns after. DataThen ns after)

  numbers_of : (p : Stored) (s rest : List ℕ) → StoredHead order p s rest → Values widths
  numbers_of p s rest h = (h.time_is.high, (h.time_is.low, (p.captured_len, (p.original_len, tt))))

  head_to : (p : Stored) (s rest : List ℕ) (h : StoredHead order p s rest) → Numbers order widths (numbers_of p s rest h) s rest
  unfolding numbers_of
  head_to p s rest h = (h.time_is.after_high, h.time_is.high_is, (h.after_time, h.time_is.low_is, (h.after_captured, h.captured_is, (rest, h.original_is, refl))))

  head_from : (ns : Values widths) (v : List ℕ) (x : Flawed (List Entry)) (s rest : List ℕ) → Numbers order widths ns s rest → StoredHead order (stored_with ns v x).value s rest
  unfolding stored_with
  head_from ns v x s rest t = record {
    after_time = t.2.0;
    after_captured = t.2.2.0;
    time_is = record { high = ns.0; low = ns.1.0; after_high = t.0; high_is = t.1; low_is = t.2.1; both = refl };
    captured_is = t.2.2.1;
    original_is = subst (λ (l : List ℕ). Number order 4 ns.1.1.1.0 t.2.2.0 l) t.2.2.2.2 t.2.2.2.1;
  }

  stored_to : (s : List ℕ) (w : Verdict (Flawed Stored)) → StoredSays s w → StoredThen s w
  unfolding StoredThen DataThen stored_with at_time numbers_of
  stored_to s (whole x rest) h =
      (numbers_of x.value s h.after_head h.head, h.after_head, head_to x.value s h.after_head h.head, (x.value.bytes, h.after_bytes, (h.padded, h.captured), (record { value = x.value.options; flaws = x.flaws }, ap (at_time x) h.head.time_is.both, h.options_are)))
  stored_to s (lacks n) h = absurd h
  stored_to s (faulty f) (inl t) = inl t
  stored_to s (faulty f) (inr t) = let x = t.1 in inr (numbers_of x.packet s x.after x.head, x.after, head_to x.packet s x.after x.head, inl (t.0, x.missing))

  no_options : Flawed (List Entry)
  no_options = record { value = []; flaws = [] }

  stored_fault : (s : List ℕ) (f : Fault) (ns : Values widths) (after : List ℕ) → Numbers order widths ns s after → DataThen ns after (faulty f) → NoStored order s f
  unfolding DataThen stored_with no_options
  stored_fault s f ns after k (inl t) = inr (t.0, record { packet = (stored_with ns [] no_options).value; after = after; head = head_from ns [] no_options s after k; missing = t.1 })
  stored_fault s f ns after k (inr t) = absurd t.3

  no_lack : (ns : Values widths) (after : List ℕ) (n : ℕ) → DataThen ns after (lacks n) → ⊥
  unfolding DataThen
  no_lack ns after n (inl t) = t
  no_lack ns after n (inr t) = t.3

  stored_from : (s : List ℕ) (w : Verdict (Flawed Stored)) → StoredThen s w → StoredSays s w
  unfolding StoredThen DataThen stored_with
  stored_from s (whole x rest) t =
      let d = t.3 in
      let y = stored_with t.0 d.0 d.3.0 in
      let is : WithBytes order kind y.value y.flaws s rest = record { after_head = t.1; after_bytes = d.1; head = head_from t.0 d.0 d.3.0 s t.1 t.2; captured = d.2.1; padded = d.2.0; options_are = d.3.2 } in
      subst (λ (z : Flawed Stored). WithBytes order kind z.value z.flaws s rest) (sym d.3.1) is
  stored_from s (lacks n) (inl t) = t
  stored_from s (lacks n) (inr t) = no_lack t.0 t.1 n t.3
  stored_from s (faulty f) (inl t) = inl t
  stored_from s (faulty f) (inr t) = stored_fault s f t.0 t.1 t.2 t.3

  stored_one : (s : List ℕ) → ExactlyOne (StoredSays s)
  unfolding StoredThen
  stored_one s =
      one_moved (StoredSays s) (StoredThen s) (stored_to s) (stored_from s)
      (one_then (NumbersSay order (Invalid EnhancedTooShort) widths s) (λ ns after. DataThen ns after) (numbers_one order (Invalid EnhancedTooShort) widths s) (λ ns after k. data_one ns after))

  -- The fault of four bytes and a stored packet.
  abbrev NoBody : List ℕ → Fault → Type 0
  NoBody s fault = ((fault ≡ Invalid EnhancedTooShort) × (length s < 4)) ⊎ ((after : List ℕ) × Behind 4 s after × NoStored order after fault)

  no_packet_to : (s : List ℕ) (fault : Fault) → NoBody s fault → (rule : Rule) × NoPacket order s rule × (fault ≡ Invalid rule)
  no_packet_to s fault (inl t) = (EnhancedTooShort, no_head (omega (arith, t.1)), t.0)
  no_packet_to s fault (inr (after, behind, inl t)) =
      (EnhancedTooShort, no_head (omega (arith, t.1, ap length behind.text, length-append behind.bytes after, behind.length_is)), t.0)
  no_packet_to s fault (inr (after, behind, inr t)) = (EnhancedCut, no_bytes after behind t.1, t.0)

  no_packet_from : (s : List ℕ) (rule : Rule) → NoPacket order s rule → NoBody s (Invalid rule)
  no_packet_from s rule (no_head lt) =
      elim (cases_lt (length s) 4) [
        | inl few ↦ inl (refl, few)
        | inr some ↦ inr (drop 4 s, record { bytes = take 4 s; text = sym (take-append-drop 4 s); length_is = omega (arith, length-take 4 s) }, inl (refl, omega (arith, lt, length-drop 4 s)))
      ]
  no_packet_from s rule (no_bytes after behind x) = inr (after, behind, inr (refl, x))

-- ---- enhanced packets

abbrev OfInterfaceText : Order → Flawed Enhanced → List ℕ → List ℕ → Type 0
OfInterfaceText order x s rest = OfInterface order x.value x.flaws s rest

abbrev enhanced_widths : List ℕ
enhanced_widths = 4 ∷ []

enhanced_with : Values enhanced_widths → Flawed Stored → Flawed Enhanced
enhanced_with ns x = record { value = record { interface_id = ns.0; packet = x.value }; flaws = x.flaws }

enhanced_then : (order : Order) → IsNumbersThen order (Invalid EnhancedTooShort) enhanced_widths enhanced_with (StoredSays order enhanced_packet) (OfInterfaceText order) (NoBody order enhanced_packet)
unfolding enhanced_with
enhanced_then order = record {
  text_to = λ x s rest h. ((x.value.interface_id, tt), h.after_interface, (h.after_interface, h.interface_is, refl), record { value = x.value.packet; flaws = x.flaws }, refl, h.packet_is);
  text_from = λ ns x s after rest n h. record { after_interface = after; interface_is = subst (λ (l : List ℕ). Number order 4 ns.0 s l) n.2 n.1; packet_is = h };
  fault_to = λ fault s h. h;
  short_from = λ s lt. inl (refl, lt);
  fault_from = λ fault s after behind h. inr (after, behind, h);
  no_lack = λ s n h. h;
}

pub enhanced_one : (order : Order) (s : List ℕ) → ExactlyOne (EnhancedAsIsSays order s)
enhanced_one order s =
    if_room_one (OfInterface order) (NoPacket order) (NoBody order enhanced_packet) s (no_packet_to order enhanced_packet s) (no_packet_from order enhanced_packet s)
    (numbers_then_one order (Invalid EnhancedTooShort) enhanced_widths enhanced_with (StoredSays order enhanced_packet) (OfInterfaceText order) (NoBody order enhanced_packet) (enhanced_then order) (stored_one order enhanced_packet) s)

-- ---- obsolete packets

abbrev WithDropsText : Order → Flawed PacketBody → List ℕ → List ℕ → Type 0
WithDropsText order x s rest = WithDrops order x.value x.flaws s rest

abbrev packet_widths : List ℕ
packet_widths = 2 ∷ 2 ∷ []

packet_with : Values packet_widths → Flawed Stored → Flawed PacketBody
packet_with ns x = record { value = record { interface_id = ns.0; drop_count = ns.1.0; packet = x.value }; flaws = x.flaws }

packet_then : (order : Order) → IsNumbersThen order (Invalid EnhancedTooShort) packet_widths packet_with (StoredSays order packet_kind) (WithDropsText order) (NoBody order packet_kind)
unfolding packet_with
packet_then order = record {
  text_to = λ x s rest h.
      ((x.value.interface_id, (x.value.drop_count, tt)), h.after_drops, (h.after_interface, h.interface_is, (h.after_drops, h.drops_are, refl)), record { value = x.value.packet; flaws = x.flaws }, refl, h.packet_is);
  text_from = λ ns x s after rest n h.
      record { after_interface = n.0; after_drops = after; interface_is = n.1; drops_are = subst (λ (l : List ℕ). Number order 2 ns.1.0 n.0 l) n.2.2 n.2.1; packet_is = h };
  fault_to = λ fault s h. h;
  short_from = λ s lt. inl (refl, lt);
  fault_from = λ fault s after behind h. inr (after, behind, h);
  no_lack = λ s n h. h;
}

pub packet_one : (order : Order) (s : List ℕ) → ExactlyOne (PacketBlockAsIsSays order s)
packet_one order s =
    if_room_one (WithDrops order) (NoPacket order) (NoBody order packet_kind) s (no_packet_to order packet_kind s) (no_packet_from order packet_kind s)
    (numbers_then_one order (Invalid EnhancedTooShort) packet_widths packet_with (StoredSays order packet_kind) (WithDropsText order) (NoBody order packet_kind) (packet_then order) (stored_one order packet_kind) s)

-- ---- simple packets

sound : Simple → Flawed Simple
sound simple = record { value = simple; flaws = [] }

sound_all : Verdict Simple → Verdict (Flawed Simple)
sound_all (whole simple rest) = whole (sound simple) rest
sound_all (lacks n) = lacks n
sound_all (faulty fault) = faulty fault

module _ (order : Order) (s : List ℕ) where
  abbrev WholeSays : Verdict (Flawed Simple) → Type 0
  WholeSays = Says (λ x rest. Whole order x.value x.flaws s rest) (λ n. ⊥) (SimpleFault s)

  sound_to : (v : Verdict Simple) → SimpleSays order s v → WholeSays (sound_all v)
  unfolding sound sound_all
  sound_to (whole simple rest) h = (h, refl)
  sound_to (lacks n) h = h
  sound_to (faulty fault) h = h

  flawed_as : Simple → List Said → List ℕ → Verdict (Flawed Simple)
  flawed_as simple flaws rest = whole (record { value = simple; flaws = flaws }) rest

  sound_from : (v : Verdict (Flawed Simple)) → WholeSays v → (w : Verdict Simple) × SimpleSays order s w × (v ≡ sound_all w)
  unfolding sound sound_all flawed_as
  sound_from (whole x rest) h = let same : flawed_as x.value x.flaws rest ≡ flawed_as x.value [] rest = ap (λ (l : List Said). flawed_as x.value l rest) h.1 in (whole x.value rest, h.0, same)
  sound_from (lacks n) h = absurd h
  sound_from (faulty fault) h = (faulty fault, h, refl)

simple_to : (s : List ℕ) (fault : Fault) → SimpleFault s fault → (rule : Rule) × NoLength s rule × (fault ≡ Invalid rule)
simple_to s fault (strict_simple.short lt) = (SimpleTooShort, (refl, lt), refl)

simple_from : (s : List ℕ) (rule : Rule) → NoLength s rule → SimpleFault s (Invalid rule)
simple_from s rule x = rw x.0 (strict_simple.short x.1)

pub simple_as_is_one : (order : Order) (s : List ℕ) → ExactlyOne (SimpleAsIsSays order s)
simple_as_is_one order s =
    if_room_one (Whole order) NoLength SimpleFault s (simple_to s) (simple_from s) (one_image (SimpleSays order s) (WholeSays order s) sound_all (sound_to order s) (sound_from order s) (simple_one order s))

-- ---- statistics: the interface, the halves of the time, and options

abbrev AtTimeText : Order → Flawed Statistics → List ℕ → List ℕ → Type 0
AtTimeText order x s rest = AtTime order x.value x.flaws s rest

abbrev NoStatistics : List ℕ → Fault → Type 0
NoStatistics s fault = (fault ≡ Invalid StatisticsTooShort) × (length s < 12)

abbrev statistics_widths : List ℕ
statistics_widths = 4 ∷ 4 ∷ 4 ∷ []

statistics_with : Values statistics_widths → Flawed (List Entry) → Flawed Statistics
statistics_with ns x = record { value = record { interface_id = ns.0; timestamp = ns.1.0 * 2 ^ 32 + ns.1.1.0; options = x.value }; flaws = x.flaws }

statistics_at : Flawed Statistics → ℕ → Flawed Statistics
statistics_at x t = record { value = record { interface_id = x.value.interface_id; timestamp = t; options = x.value.options }; flaws = x.flaws }

statistics_then : (order : Order) → IsNumbersThen order (Invalid StatisticsTooShort) statistics_widths statistics_with (OptionsAsIsSay order interface_statistics) (AtTimeText order) NoStatistics
unfolding statistics_with statistics_at
statistics_then order = record {
  text_to = λ x s rest h.
      let t = h.time_is in (
        (x.value.interface_id, (t.high, (t.low, tt))),
        h.after_time,
        (h.after_interface, h.interface_is, (t.after_high, t.high_is, (h.after_time, t.low_is, refl))),
        record { value = x.value.options; flaws = x.flaws },
        ap (statistics_at x) t.both,
        h.options_are,
      );
  text_from = λ ns x s after rest n h. record {
    after_interface = n.0;
    after_time = after;
    interface_is = n.1;
    time_is = record { high = ns.1.0; low = ns.1.1.0; after_high = n.2.0; high_is = n.2.1; low_is = subst (λ (l : List ℕ). Number order 4 ns.1.1.0 n.2.0 l) n.2.2.2 n.2.2.1; both = refl };
    options_are = h;
  };
  fault_to = λ fault s h. inl h;
  short_from = λ s lt. (refl, lt);
  fault_from = λ fault s after behind h. absurd h;
  no_lack = λ s n h. h;
}

pub statistics_one : (order : Order) (s : List ℕ) → ExactlyOne (StatisticsAsIsSay order s)
statistics_one order s =
    if_room_one (AtTime order) NoTime NoStatistics s (λ fault t. (StatisticsTooShort, (refl, t.1), t.0)) (λ rule t. (ap Invalid t.0, t.1))
    (numbers_then_one order (Invalid StatisticsTooShort) statistics_widths statistics_with (OptionsAsIsSay order interface_statistics) (AtTimeText order) NoStatistics (statistics_then order) (list_one order interface_statistics) s)
