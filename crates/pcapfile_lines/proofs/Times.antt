-- This file proves that a printer writes times in UTC as specified.
use Rattle.std.specs.Prelude.{◌≡◌, ℕ, ℤ, List, ◌++◌, Bool, Option, Some, false}
use Rattle.std.proofs.Common.{ap, subst, ◌∙◌, inl}
use Rattle.jiff_core.specs.declared.timestamp.Timestamp.{Timestamp as Instant}
use Rattle.jiff_fmt.specs.declared.temporal.printer.DateTimePrinter.{DateTimePrinter}
use Rattle.jiff_fmt.specs.Printer.{options, IsTimestampText}
use Rattle.jiff_fmt.specs.Text.{datetime_text, zulu_text}
use Rattle.pcap_times.specs.declared.clock.Timestamp.{Timestamp}
use Rattle.pcapfile_lines.specs.Lines.{IsUtcTextOr, ShowsInstant, nanoseconds_of}

-- A printer with nine digits after the point shows an instant.
pub printer_shows : (p : DateTimePrinter) (instant : Instant) (text : List ℕ) → options p ≡ (false, 84, Some 9) → IsTimestampText p instant text → ShowsInstant instant.nanosecond text
printer_shows p instant text are (shown, at, is) =
    (shown, at, is ∙ ap (λ (o : Bool × ℕ × Option ℕ). datetime_text o.0 o.1 o.2 shown ++ zulu_text o.0) are)

-- A text that shows the instant of a time shows the time.
pub instant_shows : (other : List ℕ) (time : Timestamp) (n : ℤ) (text : List ℕ) → n ≡ nanoseconds_of time → ShowsInstant n text → IsUtcTextOr other (Some time) text
instant_shows other time n text same shows = inl (subst (λ m. ShowsInstant m text) same shows)
