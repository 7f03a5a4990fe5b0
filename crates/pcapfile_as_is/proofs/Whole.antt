-- This file proves that repaired packets break no rule, and that packets which break none are unchanged.
use Rattle.std.proofs.Common.{◌≡◌, ◌<◌, ◌≤◌, ◌/◌, ◌%◌, ◌^◌, ℕ, List, [], length, take, map, cond, Bool, true, false, refl, sym, ap, ◌∙◌, arith, slice_index_or}
use Rattle.std.specs.Prelude.{max, min, nat_lt, All, if◌then◌else◌}
use Rattle.std.proofs.lemmas.Bool.{ltb-false}
use Rattle.std.proofs.lemmas.List.{length-take, take_all}
use Rattle.std.proofs.lemmas.List.Elements.{All-map}
use Rattle.pcap_core.specs.Answer.{Order}
use Rattle.pcap_classic.specs.declared.common.TsResolution.{TsResolution}
use Rattle.pcap_classic.specs.declared.pcap.header.PcapHeader.{PcapHeader}
use Rattle.pcap_classic.specs.Front.{CaptureFront}
use Rattle.pcap_classic.specs.Magic.{resolution_of}
use Rattle.pcap_classic.specs.PacketText.{Head, packet_limit, nanoseconds, Captured}
use Rattle.pcap_classic.specs.Written.{IsWhole, IsWholeHeader, capture, cut}
use Rattle.pcap_classic.proofs.ReadCapture.{capture_again}
use Rattle.pcap_tolerant.specs.AsIs.{AsIs, AsIsText, breaks_one, strict_of}
use Rattle.pcapfile_as_is.specs.Lists.{exact_time}
use Rattle.pcapfile_as_is.specs.Repaired.{repaired_of, repaired_time}

-- HasRoom time: the seconds and nanoseconds fit in a packet's header.
record HasRoom (time : ℕ × ℕ) : Type 0 where
  seconds : time.0 < 2 ^ 32
  nanos : time.1 < 2 ^ 32

carried_room : (t : ℕ) (b : Bool) → nat_lt 4294967295 (t / 1_000_000_000) ≡ b → HasRoom (if b then (4294967295, 999999000) else (t / 1_000_000_000, t % 1_000_000_000))
carried_room t true e = record { seconds = omega arith; nanos = omega arith }
carried_room t false e = record { seconds = omega (arith, ltb-false _ _ e); nanos = omega arith }

time_room : (r : TsResolution) (head : Head) → head.seconds < 2 ^ 32 → (b : Bool) → nat_lt 4294967295 (nanoseconds r head.fraction) ≡ b
    → HasRoom (if b then (if nat_lt 4294967295 (exact_time r head / 1_000_000_000) then (4294967295, 999999000) else (exact_time r head / 1_000_000_000, exact_time r head % 1_000_000_000)) else (head.seconds, nanoseconds r head.fraction))
time_room r head room true e = carried_room (exact_time r head) (nat_lt 4294967295 (exact_time r head / 1_000_000_000)) refl
time_room r head room false e = record { seconds = room; nanos = omega (arith, ltb-false _ _ e) }

pub repaired_whole : (r : TsResolution) (packet : AsIs) → packet.head.seconds < 2 ^ 32 → IsWhole (repaired_of r packet)
repaired_whole r packet room =
    let time : HasRoom (repaired_time r packet.head) = time_room r packet.head room (nat_lt 4294967295 (nanoseconds r packet.head.fraction)) refl in
    record {
      seconds = time.seconds;
      nanoseconds = time.nanos;
      included = refl;
      original = omega arith;
      limit = omega (arith, length-take packet_limit packet.bytes);
    }

pub repaired_read : (header : PcapHeader) (packets : List AsIs) → IsWholeHeader header → All (λ packet. packet.head.seconds < 2 ^ 32) packets
    → CaptureFront packet_limit header (map (cut (resolution_of header.magic_number)) (map (repaired_of (resolution_of header.magic_number)) packets)) (capture header (map (repaired_of (resolution_of header.magic_number)) packets)) []
repaired_read header packets whole rooms =
    let r = resolution_of header.magic_number in
    let all : All IsWhole (map (repaired_of r) packets) = All-map IsWhole (repaired_of r) packets (λ k d below. repaired_whole r (slice_index_or packets k d) (rooms k d below)) in
    capture_again header (map (repaired_of r) packets) whole all

-- ---- a packet that breaks no rule

none_of : (a b d e : Bool) → cond a true (cond b true (cond d true e)) ≡ false → (a ≡ false) × (b ≡ false) × (d ≡ false) × (e ≡ false)
none_of true b d e x = absurd cc
none_of false true d e x = absurd cc
none_of false false true e x = absurd cc
none_of false false false e x = (refl, refl, refl, x)

-- The packet with this time, these lengths and these bytes.
abbrev pub captured_with : ℕ × ℕ → ℕ → ℕ → List ℕ → Captured
captured_with time stored original bytes = record { header = record { ts_sec = time.0; ts_nsec = time.1; incl_len = stored; orig_len = original }; bytes = bytes }

pub captured_same : (t u : ℕ × ℕ) (a b c d : ℕ) (l m : List ℕ) → t ≡ u → a ≡ b → c ≡ d → l ≡ m → captured_with t a c l ≡ captured_with u b d m
captured_same t u a b c d l m times stored original bytes =
    ap (λ (x : ℕ × ℕ). captured_with x a c l) times ∙ ap (λ (x : ℕ). captured_with u x c l) stored ∙ ap (λ (x : ℕ). captured_with u b x l) original ∙ ap (λ (x : List ℕ). captured_with u b d x) bytes

time_stays : (b : Bool) (x y : ℕ × ℕ) → b ≡ false → (if b then x else y) ≡ y
time_stays true x y e = absurd cc
time_stays false x y e = refl

pub sound_stays : (limit : ℕ) (order : Order) (r : TsResolution) (packet : AsIs) (s rest : List ℕ) → AsIsText limit order r packet s rest → breaks_one packet.flaws ≡ false → repaired_of r packet ≡ strict_of r packet
sound_stays limit order r packet s rest text sound =
    let head = packet.head in
    let none = none_of (nat_lt 4294967295 (nanoseconds r head.fraction)) (nat_lt packet_limit head.included) (nat_lt packet_limit head.original) (nat_lt head.original head.included)
    (sym (ap breaks_one text.flaws_are) ∙ sound) in
    let short : head.included ≤ packet_limit = ltb-false _ _ none.1 in
    let known : head.original ≤ packet_limit = ltb-false _ _ none.2 in
    let below : head.included ≤ head.original = ltb-false _ _ none.3 in
    let all : take packet_limit packet.bytes ≡ packet.bytes = take_all packet_limit packet.bytes (omega (arith, text.whole, short)) in
    let long : length (take packet_limit packet.bytes) ≡ head.included = ap length all ∙ text.whole in
    let original : max (min head.original packet_limit) (length (take packet_limit packet.bytes)) ≡ head.original = omega (arith, long, known, below) in
    let time : repaired_time r head ≡ (head.seconds, nanoseconds r head.fraction) = time_stays (nat_lt 4294967295 (nanoseconds r head.fraction)) _ _ none.0 in
    captured_same (repaired_time r head) (head.seconds, nanoseconds r head.fraction) (length (take packet_limit packet.bytes)) head.included (max (min head.original packet_limit) (length (take packet_limit packet.bytes))) head.original
    (take packet_limit packet.bytes) packet.bytes time long original all
