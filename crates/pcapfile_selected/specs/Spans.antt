-- The spans of time of a capture's parts (they are no part of the format's draft).
use Rattle.std.specs.Prelude.{◌≡◌, ℕ, ℤ, pos, ◌+ℤ◌, ◌-ℤ◌, ◌*ℤ◌, max, nat_lt, if◌then◌else◌, ⊤, Option, None, Some}
use Rattle.std.specs.Int.{int_div_euclid}
use Rattle.pcap_times.specs.declared.clock.Timestamp.{Timestamp}
use Rattle.pcapfile_selected.specs.declared.spans.Spans.{Spans}
use Rattle.pcapfile_selected.specs.Judging.{IsUntil}
use Rattle.pcapfile_selected.specs.Moments.{nearest}

-- The whole seconds from one time to another, rounded down.
abbrev pub seconds_between : Timestamp → Timestamp → ℤ
seconds_between first time =
    nearest (nearest (time.seconds -ℤ first.seconds) -ℤ pos (if nat_lt time.nanoseconds first.nanoseconds then 1 else 0))

-- The spans that precede a number of seconds, and the one with it, if each has so many seconds.
abbrev pub spans_until : ℕ → ℤ → ℤ
spans_until length seconds = nearest (int_div_euclid seconds (pos (max length 1)) +ℤ pos 1)

-- The end of the span with this time, if spans of so many seconds follow one another from the first time on.
abbrev pub end_of : ℕ → Timestamp → Timestamp → Timestamp
end_of length first time = record {
  seconds = nearest (first.seconds +ℤ nearest (spans_until length (seconds_between first time) *ℤ pos (max length 1)));
  nanoseconds = first.nanoseconds;
}

-- The part takes a packet with this time: it has no span yet, or the time is before its end. A packet without a time belongs to the part.
abbrev pub IsTaken : Spans → Option Timestamp → Type 0
IsTaken spans None = ⊤
IsTaken spans (Some time) = IsUntil spans.end time

-- The first time of the capture after a packet with this time.
abbrev pub first_after : Spans → Timestamp → Timestamp
first_after spans time = elim spans.first [ None ↦ time | Some first ↦ first ]

-- The part's span after a packet with this time. The span of its first packet with a time is that of the part.
abbrev pub spans_at : Spans → Timestamp → Spans
spans_at spans time = record spans { first = Some (first_after spans time); end = Some (end_of spans.seconds (first_after spans time) time) }

-- The spans after a packet of the part.
abbrev pub spans_after : Spans → Option Timestamp → Spans
spans_after spans None = spans
spans_after spans (Some time) = elim spans.end [ None ↦ spans_at spans time | Some end ↦ spans ]

-- Spans of so many seconds before any packet.
pub record AreSpansOf (seconds : ℕ) (spans : Spans) : Type 0 where
  pub length : spans.seconds ≡ seconds
  pub no_first : spans.first ≡ None
  pub no_end : spans.end ≡ None

-- The next part begins, and has no span yet.
pub record BeginsPart (old new : Spans) : Type 0 where
  pub length : new.seconds ≡ old.seconds
  pub first : new.first ≡ old.first
  pub no_end : new.end ≡ None
