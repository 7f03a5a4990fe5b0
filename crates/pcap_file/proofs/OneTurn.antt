-- A block becomes exactly one packet, or none.
use Rattle.std.proofs.Common.{◌≡◌, ◌<◌, ◌+◌, ◌*◌, ◌^◌, arith, ℕ, List, [], ◌∷◌, ◌++◌, length, refl, sym, ap, subst, ◌∙◌, length-append, true, false, Some, None}
use Rattle.std.specs.Prelude.{Option, pos, ◌+ℤ◌}
use Rattle.std.specs.List.{AllZip, slice_get}
use Rattle.std.proofs.lemmas.List.Concat.{flat_map-cons}
use Rattle.std.proofs.lemmas.Option.{same_Some}
use Rattle.pcap_core.specs.declared.link.DataLink.{DataLink}
use Rattle.pcap_core.specs.Answer.{number_in, whole}
use Rattle.pcap_classic.specs.PacketText.{Captured}
use Rattle.pcap_times.specs.declared.clock.Timestamp.{Timestamp}
use Rattle.pcap_times.specs.declared.unit.TimeUnit.{TimeUnit}
use Rattle.pcap_times.specs.Times.{nanoseconds_in}
use Rattle.pcap_blocks.specs.InterfaceDescription.{Interface}
use Rattle.pcap_blocks.specs.InterfaceTimes.{IsTimeAt}
use Rattle.pcap_blocks.specs.ParsedBlock.{Body, OldPacketBody, EnhancedBody}
use Rattle.pcap_file.specs.declared.run.unplaced.Unplaced.{Unplaced}
use Rattle.pcap_file.specs.declared.run.unplaced.Unplaced.TheVariants as reasons
use Rattle.pcap_ng.specs.Blocks.{Item}
use Rattle.pcap_ng.specs.Bodies.{SaysOfBody}
use Rattle.pcap_ng.specs.Frames.{Framed}
use Rattle.pcap_file.specs.Placed.{Becomes, BecomesIn, HasNoPlace, HasNoPlaceBody, Places, PlacesBody, Turn, is_packet, no_packet, packet_of_turn, packets_of, placed, reason_of_turn, reasons_of, time_in, unplaced}
use Rattle.pcap_ng.specs.State.{interfaces_at}
use Rattle.pcap_ng.proofs.Bodies.{bodies_same, type_is}
use Rattle.pcap_written.specs.Bodies.{type_of}

-- A block holds a packet exactly if its body does.
pub packet_as_body : (b : Framed) (body : Body) (rest : List ℕ) → SaysOfBody b (whole body rest) → is_packet b.type_ ≡ is_packet (type_of body)
packet_as_body b body rest says = ap is_packet (sym (type_is (number_in b.endianness) b.type_ b.body body rest says))

-- A number of nanoseconds splits into seconds and nanoseconds in only one way.
split_same : (m n x y : ℕ) → m * 10 ^ 9 + x ≡ n * 10 ^ 9 + y → x < 10 ^ 9 → y < 10 ^ 9 → (m ≡ n) × (x ≡ y)
split_same m n x y e few less = (omega (arith, e, few, less), omega (arith, e, few, less))

-- An interface's clock shows only one time.
time_same : (interface : Interface) (units : ℕ) (s t : Timestamp) → IsTimeAt interface units s → IsTimeAt interface units t
    → (s.seconds ≡ t.seconds) × (s.nanoseconds ≡ t.nanoseconds)
time_same interface units s t x y =
    let unit : x.clock.unit ≡ y.clock.unit = x.clock_is.unit ∙ sym y.clock_is.unit in
    let offset : x.clock.offset ≡ y.clock.offset = x.clock_is.offset ∙ sym y.clock_is.offset in
    let m = x.time_is.counted in
    let n = y.time_is.counted in
    let total : nanoseconds_in x.clock.unit units ≡ nanoseconds_in y.clock.unit units = ap (λ (u : TimeUnit). nanoseconds_in u units) unit in
    let same = split_same m n s.nanoseconds t.nanoseconds (x.time_is.split.together ∙ total ∙ sym y.time_is.split.together) x.time_is.split.no_second_more y.time_is.split.no_second_more in
    let seconds : pos m +ℤ x.clock.offset ≡ pos n +ℤ y.clock.offset = rw (same.0, offset) refl in
    (x.time_is.moved ∙ seconds ∙ sym y.time_is.moved, same.1)

make_captured : ℕ → ℕ → ℕ → ℕ → List ℕ → Captured
make_captured seconds nanoseconds included original bytes =
    record { header = record { ts_sec = seconds; ts_nsec = nanoseconds; incl_len = included; orig_len = original }; bytes = bytes }

captured_same : (p q : Captured) → p.header.ts_sec ≡ q.header.ts_sec → p.header.ts_nsec ≡ q.header.ts_nsec → p.header.incl_len ≡ q.header.incl_len
    → p.header.orig_len ≡ q.header.orig_len → p.bytes ≡ q.bytes → p ≡ q
unfolding make_captured
captured_same p q seconds nanoseconds included original bytes =
    let e : make_captured p.header.ts_sec p.header.ts_nsec p.header.incl_len p.header.orig_len p.bytes ≡ make_captured q.header.ts_sec q.header.ts_nsec q.header.incl_len q.header.orig_len q.bytes =
    rw (seconds, nanoseconds, included, original, bytes) refl in
    e

pos_same : (m n : ℕ) → pos m ≡ pos n → m ≡ n
pos_same m n e = cc

module _ (interface : Option Interface) (link : DataLink) (units original : ℕ) (bytes : List ℕ) (p : Captured) (x : Places interface link units original bytes p) where
  -- There is only one such interface.
  by_same : (by : Interface) → interface ≡ Some by → x.by ≡ by
  by_same by is = same_Some x.by by (sym x.described ∙ is)

  time_by : (by : Interface) → interface ≡ Some by → IsTimeAt by units (time_in p)
  time_by by is = subst (λ (i : Interface). IsTimeAt i units (time_in p)) (by_same by is) x.time

  places_same : (q : Captured) → Places interface link units original bytes q → p ≡ q
  places_same q y =
      let time = time_same y.by units (time_in p) (time_in q) (time_by y.by y.described) y.time in
      let stored : p.bytes ≡ q.bytes = x.bytes_are ∙ sym y.bytes_are in
      let included : p.header.incl_len ≡ q.header.incl_len = sym x.whole.included ∙ ap length stored ∙ y.whole.included in
      captured_same p q (pos_same p.header.ts_sec q.header.ts_sec time.0) time.1 included (x.original_is ∙ sym y.original_is) stored

  -- A packet that has a place has no reason against it.
  no_reason : (reason : Unplaced) → HasNoPlace interface link units original bytes reason → ⊥
  no_reason reasons.NoTime none = none
  no_reason reasons.InterfaceMissing none = let e : ◌≡◌ {A = Option Interface} None (Some x.by) = sym none ∙ x.described in absurd cc
  no_reason reasons.OtherLink none = none.2 (ap (λ (i : Interface). i.linktype) (sym (by_same none.0 none.1)) ∙ x.same_link)
  no_reason reasons.SecondsOutside none =
      let time = time_same none.0 units none.2.0 (time_in p) none.2.1 (time_by none.0 none.1) in
      none.2.2 p.header.ts_sec x.whole.seconds time.0
  no_reason reasons.OriginalTooLong none = absurd (omega (arith, none, x.original_is, x.whole.limit))
  no_reason reasons.CapturedPastOriginal none = absurd (omega (arith, none, x.original_is, x.whole.original, x.whole.included, ap length x.bytes_are))

module _ (interfaces : List Interface) (link : DataLink) where
  body_places_same : (body : Body) (p q : Captured) → PlacesBody interfaces link body p → PlacesBody interfaces link body q → p ≡ q
  body_places_same (EnhancedBody b) p q x y = places_same (slice_get interfaces b.interface_id) link b.packet.timestamp b.packet.original_len b.packet.bytes p x q y
  body_places_same (OldPacketBody b) p q x y = places_same (slice_get interfaces b.interface_id) link b.packet.timestamp b.packet.original_len b.packet.bytes p x q y
  body_places_same _ p q x y = absurd x

  body_no_reason : (body : Body) (p : Captured) → PlacesBody interfaces link body p → (reason : Unplaced) → HasNoPlaceBody interfaces link body reason → ⊥
  body_no_reason (EnhancedBody b) p x = no_reason (slice_get interfaces b.interface_id) link b.packet.timestamp b.packet.original_len b.packet.bytes p x
  body_no_reason (OldPacketBody b) p x = no_reason (slice_get interfaces b.interface_id) link b.packet.timestamp b.packet.original_len b.packet.bytes p x
  body_no_reason _ p x = absurd x

  module _ (b : Framed) where
    -- A block becomes one packet, or has a packet without a place, or holds none.
    abbrev IsSame : Turn → Turn → Type 0
    IsSame t u = (packet_of_turn t ≡ packet_of_turn u) × (length (reason_of_turn t) ≡ length (reason_of_turn u))

    placed_one : (p : Captured) (reason : Unplaced) → BecomesIn interfaces link b (placed p) → BecomesIn interfaces link b (unplaced reason) → ⊥
    placed_one p reason x y =
        let there : PlacesBody interfaces link y.1 p = subst (λ (body : Body). PlacesBody interfaces link body p) (bodies_same b x.1 y.1 x.2 y.2 x.3 y.3) x.4 in
        body_no_reason y.1 p there reason y.4

    pub turn_same : (t u : Turn) → BecomesIn interfaces link b t → BecomesIn interfaces link b u → IsSame t u
    turn_same (placed p) (placed q) x y =
        let there : PlacesBody interfaces link y.1 p = subst (λ (body : Body). PlacesBody interfaces link body p) (bodies_same b x.1 y.1 x.2 y.2 x.3 y.3) x.4 in
        (ap (λ (r : Captured). r ∷ []) (body_places_same y.1 p q there y.4), refl)
    turn_same (placed p) (unplaced reason) x y = absurd (placed_one p reason x y)
    turn_same (placed p) no_packet x y = let e : true ≡ false = sym x.0 ∙ y in absurd cc
    turn_same (unplaced reason) (placed q) x y = absurd (placed_one q reason y x)
    turn_same (unplaced reason) (unplaced other) x y = (refl, refl)
    turn_same (unplaced reason) no_packet x y = let e : true ≡ false = sym x.0 ∙ y in absurd cc
    turn_same no_packet (placed q) x y = let e : true ≡ false = sym y.0 ∙ x in absurd cc
    turn_same no_packet (unplaced reason) x y = let e : true ≡ false = sym y.0 ∙ x in absurd cc
    turn_same no_packet no_packet x y = (refl, refl)

-- Blocks always become the same packets, and equally many of their packets have no place.
pub turns_same : (link : DataLink) (items : List Item) (ts us : List Turn) → AllZip (Becomes link) items ts → AllZip (Becomes link) items us
    → (packets_of ts ≡ packets_of us) × (length (reasons_of ts) ≡ length (reasons_of us))
turns_same link [] [] [] x y = (refl, refl)
turns_same link [] [] (u ∷ us) x y = absurd y
turns_same link [] (t ∷ ts) us x y = absurd x
turns_same link (item ∷ items) [] us x y = absurd x
turns_same link (item ∷ items) (t ∷ ts) [] x y = absurd y
turns_same link (item ∷ items) (t ∷ ts) (u ∷ us) x y =
    let one = turn_same (interfaces_at item.after) link item.block t u x.0 y.0 in
    let more = turns_same link items ts us x.1 y.1 in
    let left : length (reasons_of (t ∷ ts)) ≡ length (reason_of_turn t) + length (reasons_of ts) = ap length (flat_map-cons reason_of_turn t ts) ∙ length-append (reason_of_turn t) (reasons_of ts) in
    let right : length (reasons_of (u ∷ us)) ≡ length (reason_of_turn u) + length (reasons_of us) = ap length (flat_map-cons reason_of_turn u us) ∙ length-append (reason_of_turn u) (reasons_of us) in
    let packets : packet_of_turn t ++ packets_of ts ≡ packet_of_turn u ++ packets_of us = rw (one.0, more.0) refl in (
      flat_map-cons packet_of_turn t ts ∙ packets ∙ sym (flat_map-cons packet_of_turn u us),
      omega (arith, left, right, one.1, more.1),
    )

-- The body of a packet's block is read.
pub packet_is_read : (interfaces : List Interface) (link : DataLink) (b : Framed) (t : Turn) → is_packet b.type_ ≡ true → BecomesIn interfaces link b t
    → (body : Body) × (rest : List ℕ) × SaysOfBody b (whole body rest)
packet_is_read interfaces link b (placed p) is x = (x.1, x.2, x.3)
packet_is_read interfaces link b (unplaced reason) is x = (x.1, x.2, x.3)
packet_is_read interfaces link b no_packet is x = let e : true ≡ false = sym is ∙ x in absurd cc
