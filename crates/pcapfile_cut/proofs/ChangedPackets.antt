-- Lemmas on packets that are written with another time, in another resolution, or with at most a number of their bytes.
use Rattle.std.proofs.Common.{◌≡◌, ◌≤◌, ◌<◌, ◌+◌, ◌-◌, ◌^◌, ℕ, List, [], ◌++◌, length, take, Bool, true, false, Option, Some, None, refl, sym, ap, ◌∙◌, subst, arith, append-nil}
use Rattle.std.specs.Prelude.{min, nat_lt, nat_le, IsTrue, if◌then◌else◌}
use Rattle.std.proofs.lemmas.Bool.Decides.{nat_tests}
use Rattle.std.proofs.lemmas.List.{length-take, take_all}
use Rattle.pcap_core.specs.declared.common.Endianness.{Endianness}
use Rattle.pcap_core.specs.Answer.{number_in}
use Rattle.pcap_core.specs.Bytes.{IsBytes}
use Rattle.pcap_core.specs.Codec.{number_bytes}
use Rattle.pcap_core.proofs.WrittenNumbers.{number_below}
use Rattle.pcap_classic.specs.declared.common.TsResolution.{TsResolution}
use Rattle.pcap_classic.specs.declared.common.TsResolution.TheVariants.{MicroSecond, NanoSecond}
use Rattle.pcap_classic.specs.declared.pcap.header.PcapHeader.{PcapHeader}
use Rattle.pcap_classic.specs.declared.pcap.packet.PacketHeader.{PacketHeader}
use Rattle.pcap_classic.specs.Magic.{is_magic, magic_for, order_of, resolution_of}
use Rattle.pcap_classic.specs.Packets.{packet_format}
use Rattle.pcap_classic.specs.PacketText.{Captured, PacketText, nanoseconds, packet_limit}
use Rattle.pcap_classic.specs.Written.{IsWhole, cut, fraction_of, record_bytes, written_under}
use Rattle.pcap_classic.proofs.Concrete.{packet_written}
use Rattle.pcap_classic.proofs.ReadBack.{written_again}
use Rattle.pcapfile_cut.specs.declared.changing.Changes.{Changes}
use Rattle.pcapfile_cut.specs.declared.moving.Shift.{Shift}
use Rattle.pcapfile_cut.specs.declared.moving.Shift.TheVariants.{Later, Earlier}
use Rattle.pcapfile_cut.specs.Changes.{bytes_within, changed, head_behind, head_within, header_after, moved_in, moved_or_same, no_changes, rounded, shortened, text_after}
use Rattle.pcapfile_cut.specs.Choice.{Stored}
use Rattle.pcapfile_cut.specs.Cuts.{IsStored}
use Rattle.pcapfile_cut.specs.Moves.{at_time, can_state, moved, moved_by, stated_at}
use Rattle.pcapfile_cut.specs.Openings.{header_in}
use Rattle.pcapfile_cut.specs.Selections.{time_of}
use Rattle.pcapfile_cut.proofs.Resolutions.{order_again, resolution_again, same_header}

-- A header whose time is written without a loss.
record IsTimed (r : TsResolution) (head : PacketHeader) : Type 0 where
  seconds : head.ts_sec < 2 ^ 32
  fraction : head.ts_nsec < 2 ^ 32
  whole : nanoseconds r (fraction_of r head.ts_nsec) ≡ head.ts_nsec

-- A header with another time and the same lengths.
record Follows (r : TsResolution) (old new : PacketHeader) : Type 0 where
  timed : IsTimed r new
  included : new.incl_len ≡ old.incl_len
  original : new.orig_len ≡ old.orig_len

-- A time that was read is written without a loss.
same_time : (r : TsResolution) (f : ℕ) → nanoseconds r (fraction_of r (nanoseconds r f)) ≡ nanoseconds r f
same_time MicroSecond f = omega arith
same_time NanoSecond f = refl

timed_at : (r : TsResolution) (head : PacketHeader) (time : ℕ) → can_state r time ≡ true → IsTimed r (at_time head time)
timed_at MicroSecond head time can = record {
  seconds = grind (arith, nat_tests, can);
  fraction = omega arith;
  whole = grind (arith, nat_tests, can);
}
timed_at NanoSecond head time can = record {
  seconds = grind (arith, nat_tests, can);
  fraction = omega arith;
  whole = refl;
}

stated_follows : (r : TsResolution) (head : PacketHeader) (time : ℕ) (can : Bool) → can_state r time ≡ can → IsTimed r head
    → Follows r head (moved_or_same head (if can then Some (at_time head time) else None))
stated_follows r head time true can timed = record { timed = timed_at r head time can; included = refl; original = refl }
stated_follows r head time false can timed = record { timed = timed; included = refl; original = refl }

found_follows : (r : TsResolution) (head : PacketHeader) (found : Option ℕ) → IsTimed r head → Follows r head (moved_or_same head (stated_at r head found))
found_follows r head None timed = record { timed = timed; included = refl; original = refl }
found_follows r head (Some time) timed = stated_follows r head time (can_state r time) refl timed

behind_follows : (r : TsResolution) (shift : Option Shift) (head : PacketHeader) → IsTimed r head → Follows r head (head_behind r shift head)
behind_follows r None head timed = record { timed = timed; included = refl; original = refl }
behind_follows r (Some shift) head timed = found_follows r head (moved_by shift (time_of head)) timed

timed_in : (to : Option TsResolution) (r : TsResolution) (head : PacketHeader) → IsTimed r head → IsTimed (moved_in to r) head
timed_in None r head timed = timed
timed_in (Some MicroSecond) r head timed = timed
timed_in (Some NanoSecond) r head timed = record { seconds = timed.seconds; fraction = timed.fraction; whole = refl }

-- The resolution of a capture of this resolution that gets another one, if one is given.
abbrev resolution_in : Option TsResolution → TsResolution → TsResolution
resolution_in None r = r
resolution_in (Some to) r = to

-- A packet with this header and data, with at most so many bytes if a number is given.
abbrev within : Option ℕ → PacketHeader → List ℕ → Captured
within most head bytes = record { header = head_within most head; bytes = bytes_within most bytes }

whole_within : (r : TsResolution) (most : Option ℕ) (head : PacketHeader) (bytes : List ℕ) → IsTimed r head → length bytes ≡ head.incl_len → head.incl_len ≤ head.orig_len
    → head.orig_len ≤ packet_limit → IsWhole (within most head bytes)
whole_within r None head bytes timed long below limit = record { seconds = timed.seconds; nanoseconds = timed.fraction; included = long; original = below; limit = limit }
whole_within r (Some n) head bytes timed long below limit = record {
  seconds = timed.seconds;
  nanoseconds = timed.fraction;
  included = length-take n bytes ∙ ap (min n) long;
  original = omega (arith, below);
  limit = limit;
}

same_within : (r : TsResolution) (most : Option ℕ) (head : PacketHeader) (bytes : List ℕ) → IsTimed r head → cut r (within most head bytes) ≡ within most head bytes
same_within r None head bytes timed =
    ap (λ (t : ℕ). record { header = record { ts_sec = head.ts_sec; ts_nsec = t; incl_len = head.incl_len; orig_len = head.orig_len }; bytes = bytes }) timed.whole
same_within r (Some n) head bytes timed =
    ap (λ (t : ℕ). record { header = record { ts_sec = head.ts_sec; ts_nsec = t; incl_len = min n head.incl_len; orig_len = head.orig_len }; bytes = take n bytes }) timed.whole

cut_within : (to : Option TsResolution) (r : TsResolution) (most : Option ℕ) (head : PacketHeader) (bytes : List ℕ) → IsTimed (moved_in to r) head
    → cut (resolution_in to r) (within most head bytes) ≡ rounded to (within most head bytes)
cut_within None r most head bytes timed = same_within r most head bytes timed
cut_within (Some to) r most head bytes timed = refl

module _ (e : Endianness) (r : TsResolution) (packet : Captured) (s : List ℕ) where
  timed_still : IsBytes s → PacketText packet_limit (number_in e) r packet s [] → IsTimed r packet.header
  timed_still fits p =
      let h = p.header.head in
      let seconds : packet.header.ts_sec ≡ h.seconds = ap (λ (x : PacketHeader). x.ts_sec) p.header.value in
      let fraction : packet.header.ts_nsec ≡ nanoseconds r h.fraction = ap (λ (x : PacketHeader). x.ts_nsec) p.header.value in
      record {
        seconds = rw seconds (number_below e h.seconds s p.header.text.after_seconds fits p.header.text.seconds);
        fraction = omega (arith, fraction, p.header.good.fraction);
        whole = subst (λ (t : ℕ). nanoseconds r (fraction_of r t) ≡ t) (sym fraction) (same_time r h.fraction);
      }

  changed_text : (changes : Changes) → IsBytes s → PacketText packet_limit (number_in e) r packet s []
      → PacketText packet_limit (number_in e) (resolution_in changes.resolution r) (rounded changes.resolution (changed r changes packet))
      (record_bytes (number_bytes e) (resolution_in changes.resolution r) (changed r changes packet)) []
  changed_text changes fits p =
      let included : packet.header.incl_len ≡ p.header.head.included = ap (λ (x : PacketHeader). x.incl_len) p.header.value in
      let original : packet.header.orig_len ≡ p.header.head.original = ap (λ (x : PacketHeader). x.orig_len) p.header.value in
      let to = changes.resolution in
      let new = behind_follows (moved_in to r) changes.shift packet.header (timed_in to r packet.header (timed_still fits p)) in
      let head = head_behind (moved_in to r) changes.shift packet.header in
      let whole = whole_within (moved_in to r) changes.snaplen head packet.bytes new.timed (p.whole ∙ sym new.included)
      (omega (arith, new.included, new.original, included, original, p.header.good.included)) (omega (arith, new.original, original, p.header.good.original)) in
      let now = resolution_in to r in
      let text = record_bytes (number_bytes e) now (changed r changes packet) in
      let again : PacketText packet_limit (number_in e) now (cut now (changed r changes packet)) (text ++ []) [] = written_again e now (changed r changes packet) [] whole in
      subst (λ (t : List ℕ). PacketText packet_limit (number_in e) now (rounded to (changed r changes packet)) t []) (append-nil text)
      (subst (λ (x : Captured). PacketText packet_limit (number_in e) now x (text ++ []) []) (cut_within to r changes.snaplen head packet.bytes new.timed) again)

  -- A packet that is not changed is written unchanged.
  same_text : IsBytes s → PacketText packet_limit (number_in e) r packet s [] → record_bytes (number_bytes e) r packet ≡ s
  same_text fits p = sym (append-nil (record_bytes (number_bytes e) r packet)) ∙ sym (packet_written packet_limit e r packet s [] fits p).0

  -- A packet of no more bytes is not shortened.
  short_text : (n : ℕ) → IsBytes s → PacketText packet_limit (number_in e) r packet s [] → packet.header.incl_len ≤ n → record_bytes (number_bytes e) r (shortened n packet) ≡ s
  short_text n fits p short =
      let sized : ℕ → List ℕ → Captured = λ k bytes. record {
        header = record { ts_sec = packet.header.ts_sec; ts_nsec = packet.header.ts_nsec; incl_len = k; orig_len = packet.header.orig_len };
        bytes = bytes;
      } in
      let least : min n packet.header.incl_len ≡ packet.header.incl_len = omega (arith, short) in
      let all : take n packet.bytes ≡ packet.bytes = take_all n packet.bytes (omega (arith, p.whole, short)) in
      let same : shortened n packet ≡ packet = ap (λ (k : ℕ). sized k (take n packet.bytes)) least ∙ ap (sized packet.header.incl_len) all in
      ap (record_bytes (number_bytes e) r) same ∙ same_text fits p

stored_under : (to : Option TsResolution) (header : PcapHeader) (read written : Captured)
    → PacketText packet_limit (number_in (order_of header.magic_number)) (resolution_in to (resolution_of header.magic_number)) read
    (record_bytes (number_bytes (order_of header.magic_number)) (resolution_in to (resolution_of header.magic_number)) written) []
    → IsStored (header_in to header) (record { packet = read; text = written_under (header_in to header) written })
unfolding packet_format
stored_under None header read written text = text
stored_under (Some to) header read written text =
    let e = order_of header.magic_number in
    let magic = magic_for e to in
    subst (λ (o : Endianness). PacketText packet_limit (number_in o) (resolution_of magic) read (record_bytes (number_bytes o) (resolution_of magic) written) []) (sym (order_again e to))
    (subst (λ (r : TsResolution). PacketText packet_limit (number_in e) r read (record_bytes (number_bytes e) r written) []) (sym (resolution_again e to)) text)

-- A packet that is written after changes is read again.
pub changed_read : (header : PcapHeader) (changes : Changes) (stored : Stored) → IsBytes stored.text → IsStored header stored
    → IsStored (header_after header changes) (record {
      packet = rounded changes.resolution (changed (resolution_of header.magic_number) changes stored.packet);
      text = written_under (header_after header changes) (changed (resolution_of header.magic_number) changes stored.packet);
    })
unfolding packet_format
changed_read header changes stored fits is =
    let r = resolution_of header.magic_number in
    let new = changed r changes stored.packet in
    stored_under changes.resolution header (rounded changes.resolution new) new (changed_text (order_of header.magic_number) r stored.packet stored.text changes fits is)

-- A packet keeps its bytes in the resolution that it has.
pub same_stays : (header : PcapHeader) (stored : Stored) → IsTrue (is_magic header.magic_number) → IsBytes stored.text → IsStored header stored
    → text_after header (record no_changes { resolution = Some (resolution_of header.magic_number) }) stored ≡ stored.text
unfolding packet_format
same_stays header stored valid fits is =
    ap (λ (h : PcapHeader). written_under h stored.packet) (same_header header valid)
    ∙ same_text (order_of header.magic_number) (resolution_of header.magic_number) stored.packet stored.text fits is

-- A shortened packet is read again.
pub shortened_read : (header : PcapHeader) (n : ℕ) (stored : Stored) → IsBytes stored.text → IsStored header stored
    → IsStored header (record { packet = shortened n stored.packet; text = written_under header (shortened n stored.packet) })
shortened_read header n stored fits is = changed_read header (record { snaplen = Some n; shift = None; resolution = None }) stored fits is

-- A packet that has no more bytes is written unchanged.
pub short_stays : (header : PcapHeader) (n : ℕ) (stored : Stored) → IsBytes stored.text → IsStored header stored → stored.packet.header.incl_len ≤ n
    → written_under header (shortened n stored.packet) ≡ stored.text
unfolding packet_format
short_stays header n stored fits is short = short_text (order_of header.magic_number) (resolution_of header.magic_number) stored.packet stored.text n fits is short

stated_time : (r : TsResolution) (head new : PacketHeader) (time : ℕ) (can : Bool) → (if can then Some (at_time head time) else None) ≡ Some new → time_of new ≡ time
stated_time r head new time true is =
    let same : time_of (at_time head time) ≡ time_of new = ap (λ (found : Option PacketHeader). time_of (moved_or_same head found)) is in
    let whole : time_of (at_time head time) ≡ time = omega arith in
    sym same ∙ whole
stated_time r head new time false is = absurd cc

later_in : (r : TsResolution) (n : ℕ) (head new : PacketHeader) (fits : Bool) → stated_at r head (if fits then Some (time_of head + n) else None) ≡ Some new
    → time_of new ≡ time_of head + n
later_in r n head new true is = stated_time r head new (time_of head + n) (can_state r (time_of head + n)) is
later_in r n head new false is = absurd cc

earlier_in : (r : TsResolution) (n : ℕ) (head new : PacketHeader) (enough : Bool) → nat_le n (time_of head) ≡ enough
    → stated_at r head (if enough then Some (time_of head - n) else None) ≡ Some new → time_of new + n ≡ time_of head
earlier_in r n head new true enough is =
    let time = stated_time r head new (time_of head - n) (can_state r (time_of head - n)) is in
    grind (arith, nat_tests, enough, time)
earlier_in r n head new false enough is = absurd cc

-- A later time is later by exactly so many nanoseconds.
pub later_time : (r : TsResolution) (n : ℕ) (head new : PacketHeader) → moved r (Later n) head ≡ Some new → time_of new ≡ time_of head + n
later_time r n head new is = later_in r n head new (nat_lt (time_of head + n) (2 ^ 64)) is

-- An earlier time is earlier by exactly so many nanoseconds.
pub earlier_time : (r : TsResolution) (n : ℕ) (head new : PacketHeader) → moved r (Earlier n) head ≡ Some new → time_of new + n ≡ time_of head
earlier_time r n head new is = earlier_in r n head new (nat_le n (time_of head)) refl is
