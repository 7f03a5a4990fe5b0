-- The bytes that a copy of blocks takes and writes, and how it ends.
use Rattle.std.specs.Prelude.{◌≡◌, ◌≤◌, ◌⊎◌, ℕ, List, [], ◌∷◌, length, false, Option, None, Some, IfSome, ⊤, Result, Ok, Err}
use Rattle.std.specs.Option.{IsSomeAnd}
use Rattle.std.specs.Io.KnownBytes.{Appends, Keeps, IsAtEnd}
use Rattle.pcap_core.specs.declared.errors.PcapError.{PcapError}
use Rattle.pcap_items.specs.declared.stream.copying.Tally.{Tally}
use Rattle.pcap_items.specs.AsTheyCame.{as_they_came}
use Rattle.pcap_items.specs.Copying as core
use Rattle.pcap_items.specs.Copying.{NothingCopied}
use Rattle.pcap_core.specs.Answer.{Verdict, whole, faulty, Refuses}
use Rattle.pcap_core.specs.Errors.{IsMemory, IsIo}
use Rattle.pcap_items.specs.Format.{Format, state_after}
use Rattle.pcap_ng.specs.declared.pcapng.copying.NgCopied.{NgCopied}
use Rattle.pcap_ng.specs.declared.pcapng.state.InForce.{InForce}
use Rattle.pcap_ng.specs.Blocks.{Item, block_format}
use Rattle.pcap_ng.specs.State.{State, opening, state_in}

-- Exactly the texts of these items were taken, and exactly their bytes were written.
abbrev pub CopiesTexts : {S V : Type 0} → Format S V → S → List V → Option (List ℕ) → Option (List ℕ) → Option (List ℕ) → Option (List ℕ) → Type 0
CopiesTexts f q vs before left out mid = core.CopiesTexts f as_they_came q vs before left out mid

-- The result of a copy that has this tally and ended with this fault, or none.
abbrev pub copied_of : Tally → Option PcapError → NgCopied
copied_of tally fault = record { blocks = tally.items; fault = fault; read_failed = tally.read_failed; write_failed = tally.write_failed }

-- A copy ended with a fault.
abbrev pub Fails : {V : Type 0} → (List ℕ → Verdict V → Type 0) → Option (List ℕ) → Option (List ℕ) → Option (List ℕ) → Option (List ℕ) → NgCopied → Type 0
Fails IsSaid left now mid out_now copied = core.Fails as_they_came IsSaid left now mid out_now copied.fault copied.read_failed copied.write_failed

-- A copy ended at the end of the stream, at the most blocks, or with a fault before these.
abbrev pub Ends : {V : Type 0} → (List ℕ → Verdict V → Type 0) → Option (List ℕ) → Option (List ℕ) → Option (List ℕ) → Option (List ℕ) → ℕ → NgCopied → Type 0
Ends IsSaid left now mid out_now most copied = core.Ends as_they_came IsSaid left now mid out_now most copied.blocks copied.fault copied.read_failed copied.write_failed

-- The stream was at its end, and nothing was taken or written.
pub record StartsAtEnd (before now out_before out_now : Option (List ℕ)) (copied : NgCopied) : Type 0 where
  pub at_end : IsAtEnd before
  pub refused : IsSomeAnd copied.fault IsIo
  pub no_read_failed : copied.read_failed ≡ false
  pub no_write_failed : copied.write_failed ≡ false
  pub taken : Keeps before now
  pub out : Keeps out_before out_now

-- The stream has no first block, or the first block has a fault.
abbrev pub FailsFirst : Option (List ℕ) → Option (List ℕ) → Option (List ℕ) → Option (List ℕ) → NgCopied → Type 0
FailsFirst before now out out_now copied = (copied.blocks ≡ 0) × (StartsAtEnd before now out out_now copied ⊎ Fails (block_format.says opening) before now out out_now copied)

-- The first block was copied, and this state is in force after it; or the copy failed at the first block.
abbrev pub BeginsNg : Option (List ℕ) → Option (List ℕ) → Option (List ℕ) → Option (List ℕ) → Tally → Result InForce PcapError → Type 0
BeginsNg before now out out_now tally (Ok f) = NothingCopied tally × ((first : Item) × (first.after ≡ state_in f) × CopiesTexts block_format opening (first ∷ []) before now out out_now)
BeginsNg before now out out_now tally (Err e) = FailsFirst before now out out_now (copied_of tally (Some e))

-- The first block and the blocks after it were copied, until the copy ended.
pub record CopiesNg (before now out out_now : Option (List ℕ)) (most : ℕ) (copied : NgCopied) : Type 0 where
  pub first : Item
  pub items : List Item
  pub left : Option (List ℕ)
  pub mid : Option (List ℕ)
  pub texts : CopiesTexts block_format opening (first ∷ items) before left out mid
  pub count : copied.blocks ≡ length items
  pub within : copied.blocks ≤ most
  pub ends : Ends (block_format.says (state_after block_format opening (first ∷ items))) left now mid out_now most copied

-- A copy either failed at the first block, or copied blocks.
abbrev pub CopyNgRun : Option (List ℕ) → Option (List ℕ) → Option (List ℕ) → Option (List ℕ) → ℕ → NgCopied → Type 0
CopyNgRun before now out out_now most copied = FailsFirst before now out out_now copied ⊎ CopiesNg before now out out_now most copied

-- Memory was sufficient, and no read and no write failed.
pub record NothingFailed (copied : NgCopied) : Type 0 where
  pub no_read_failed : copied.read_failed ≡ false
  pub no_write_failed : copied.write_failed ≡ false
  pub memory : IfSome copied.fault (λ e. IsMemory e → ⊥)

-- All of these bytes were written, and n blocks followed the first one.
pub record CopiesBytes (bytes : List ℕ) (n : ℕ) (out out_now : Option (List ℕ)) (copied : NgCopied) : Type 0 where
  pub fine : copied.fault ≡ None
  pub count : copied.blocks ≡ n
  pub went : Appends out out_now bytes

-- The block in these bytes leads to this state, or the bytes are refused.
abbrev pub FollowsHeld : State → State → List ℕ → Result (Unit {0}) PcapError → Type 0
FollowsHeld q next s (Ok u) = (item : Item) × (item.after ≡ next) × block_format.says q s (whole item [])
FollowsHeld q next s (Err e) = Refuses ⊤ (λ n. ⊥) (λ fault. block_format.says q s (faulty fault)) e
