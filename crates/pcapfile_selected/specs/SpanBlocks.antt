-- The blocks of a part that has a span of time.
use Rattle.std.specs.Prelude.{◌≡◌, ◌-◌, ◌^◌, ◌⊎◌, ℕ, List, [], ◌∷◌, length, Bool, true, false, Option, Result, Ok, Err}
use Rattle.std.specs.Io.KnownBytes.{Appends, Keeps}
use Rattle.pcap_core.specs.declared.errors.PcapError.{PcapError}
use Rattle.pcap_core.specs.Errors.{IsIo}
use Rattle.pcap_items.specs.Writing.{AppendsPart}
use Rattle.pcap_times.specs.declared.clock.Timestamp.{Timestamp}
use Rattle.pcap_ng.specs.State.{interfaces_at}
use Rattle.pcapfile_cut.specs.declared.cutting.Outcome.{Outcome}
use Rattle.pcapfile_cut.specs.BlockCuts.{Between, IsDone, Lent, Place, TearsOpeningOf, block_outcome, has_packet}
use Rattle.pcapfile_cut.specs.Cuts.{IsNew, SameCounts}
use Rattle.pcapfile_selected.specs.declared.spans.Spans.{Spans}
use Rattle.pcapfile_selected.specs.Judging.{IsBlockTime}
use Rattle.pcapfile_selected.specs.SelectedBlocks.{CountsBlock, FailsAt}
use Rattle.pcapfile_selected.specs.Spans.{IsTaken, spans_after}

-- The spans of a cut, what it has written, and what it has counted.
pub record SpanRun : Type 0 where
  pub spans : Spans
  pub out : Option (List ℕ)
  pub outcome : Outcome

abbrev pub span_run : Spans → Option (List ℕ) → Outcome → SpanRun
span_run spans out outcome = record { spans = spans; out = out; outcome = outcome }

-- The time of the packet in a block that was lent. There is none if the body is malformed, or holds no packet with a time.
abbrev pub IsLentTime : Lent → Option Timestamp → Type 0
IsLentTime block time = IsBlockTime (interfaces_at block.item.after) block.item.block time

-- The part takes a block: it holds no packet, or one that the part's span takes.
abbrev pub TakesBlock : Spans → Spans → Lent → Type 0
TakesBlock old new block =
    ((has_packet block ≡ false) × (new ≡ old))
    ⊎ ((has_packet block ≡ true) × (time : Option Timestamp) × IsLentTime block time × IsTaken old time × (new ≡ spans_after old time))

-- The part's span takes a block, or it holds a packet that the span does not take.
abbrev pub TakesLent : Spans → Spans → Lent → Bool → Type 0
TakesLent old new block true = TakesBlock old new block
TakesLent old new block false =
    (has_packet block ≡ true) × (new ≡ old) × (time : Option Timestamp) × IsLentTime block time × (IsTaken old time → ⊥)

-- The next block begins the next part: it holds a packet that the part's span does not take.
pub record BeginsNext (spans : Spans) (a b : Place) : Type 0 where
  pub block : Lent
  pub between : Between a b []
  pub pending : b.pending ≡ block ∷ []
  pub packet : has_packet block ≡ true
  pub time : Option Timestamp
  pub timed : IsLentTime block time
  pub later : IsTaken spans time → ⊥

-- A block was read that the part takes, written and counted.
pub record PutsTaken (old new : SpanRun) (block : Lent) : Type 0 where
  pub takes : TakesBlock old.spans new.spans block
  pub went : Appends old.out new.out block.text
  pub counts : CountsBlock (has_packet block) (length block.text) old.outcome new.outcome

-- Nothing was written or counted, and the part has the same span.
pub record SpansNothing (old new : SpanRun) : Type 0 where
  pub spans : new.spans ≡ old.spans
  pub out : Keeps old.out new.out
  pub outcome : new.outcome ≡ old.outcome

-- A write failed in the next block, which the part takes. The block is not counted.
pub record TearsTaken (old new : SpanRun) (a b : Place) (e : PcapError) : Type 0 where
  pub block : Lent
  pub between : Between a b []
  pub pending : b.pending ≡ block ∷ []
  pub takes : TakesBlock old.spans new.spans block
  pub refused : IsIo e
  pub write_failed : new.outcome.write_failed ≡ true
  pub went : AppendsPart old.out new.out block.text
  pub counts : SameCounts old.outcome new.outcome

-- The next block is refused, and nothing was written. Or the part takes it, and a write failed in it.
abbrev pub FailsSpan : SpanRun → SpanRun → Place → Place → PcapError → Type 0
FailsSpan old new a b e = (SpansNothing old new × FailsAt a b e) ⊎ TearsTaken old new a b e

-- The next block was read and written. Or none is left, or it begins the next part. Or it is refused, or a write failed in it.
abbrev pub StepsSpan : SpanRun → SpanRun → Place → Place → Result Bool PcapError → Type 0
StepsSpan old new a b (Ok true) = (block : Lent) × Between a b (block ∷ []) × PutsTaken old new block
StepsSpan old new a b (Ok false) = SpansNothing old new × (IsDone a b ⊎ BeginsNext old.spans a b)
StepsSpan old new a b (Err e) = FailsSpan old new a b e

-- These blocks were read and written, one after another.
abbrev pub PutsTakenAll : SpanRun → List Lent → SpanRun → Type 0
PutsTakenAll old [] new = new ≡ old
PutsTakenAll old (block ∷ blocks) new = (mid : SpanRun) × PutsTaken old mid block × PutsTakenAll mid blocks new

-- The end of a part with a span that has so many blocks.
abbrev pub EndsSpan : SpanRun → SpanRun → Place → Place → ℕ → Result (Unit {0}) PcapError → Type 0
EndsSpan old new a b blocks (Ok u) = StepsSpan old new a b (Ok false) ⊎ ((new ≡ old) × (b ≡ a) × (blocks ≡ 2 ^ 64 - 1))
EndsSpan old new a b blocks (Err e) = FailsSpan old new a b e

-- Blocks were written until the part ended.
pub record SpansBlocks (old new : SpanRun) (a now : Place) (result : Result (Unit {0}) PcapError) : Type 0 where
  pub blocks : List Lent
  pub mid : SpanRun
  pub b : Place
  pub between : Between a b blocks
  pub puts : PutsTakenAll old blocks mid
  pub ends : EndsSpan mid new b now (length blocks) result

-- The opening at this position was written, and then blocks. Or a write failed in the opening.
abbrev pub OpensSpan : SpanRun → SpanRun → Place → Place → Result (Unit {0}) PcapError → Type 0
OpensSpan old new a now result =
    ((behind : Option (List ℕ)) × Appends old.out behind a.opening × SpansBlocks (span_run old.spans behind old.outcome) new a now result)
    ⊎ ((e : PcapError) × (result ≡ Err e) × (new.spans ≡ old.spans) × TearsOpeningOf a now old.out new.out old.outcome new.outcome e)

-- A part with a span of time was written, and the outcome has the counts and the error.
pub record WritesSpan (old new : Spans) (a now : Place) (out out_now : Option (List ℕ)) (outcome : Outcome) : Type 0 where
  pub begun : Outcome
  pub counts : Outcome
  pub result : Result (Unit {0}) PcapError
  pub is_new : IsNew begun
  pub opens : OpensSpan (span_run old out begun) (span_run new out_now counts) a now result
  pub told : outcome ≡ block_outcome counts result now
