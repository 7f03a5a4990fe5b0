-- A capture of selected packets that is read: its items are made as they are needed.
use Rattle.std.specs.Prelude.{◌≡◌, ◌<◌, ◌-◌, ◌^◌, ◌++◌, ◌||◌, ◌⊎◌, ℕ, List, [], ◌∷◌, length, take, drop, Bool, true, false, IsTrue, Option, None, Some, Result, Ok, Err}
use Rattle.std.specs.Result.{result_err}
use Rattle.std.specs.Io.KnownBytes.{Keeps}
use Rattle.std.specs.IoError.{error_kind}
use Rattle.std.specs.declared.alloc.Global.{Global}
use Rattle.std.specs.declared.io.Error.{Error}
use Rattle.std.specs.declared.io.buffered.BufReader.{BufReader}
use Rattle.std.specs.declared.io.ErrorKind.TheVariants as kinds
use Rattle.pcap_core.specs.declared.errors.PcapError.{PcapError}
use Rattle.pcap_core.specs.declared.errors.PcapError.TheVariants.{IoError, OutOfMemory}
use Rattle.pcap_core.specs.Errors.{IsIo, IsMemory}
use Rattle.pcap_program.specs.declared.exit.Exit.{Exit}
use Rattle.pcap_program.specs.declared.exit.Exit.TheVariants as exits
use Rattle.pcap_program.specs.Exits.{EndsAt}
use Rattle.pcap_program.specs.declared.uninterrupted.Uninterrupted.{Uninterrupted}
use Rattle.pcapfile_files.specs.Buffered.{left_in}
use Rattle.pcapfile_cut.specs.declared.cutting.Outcome.{Outcome}
use Rattle.pcapfile_cut.specs.Cuts.{IsNew}
use Rattle.pcapfile_cut.specs.Steps.{StaysThat, StepsOnce, ends_with, progress_of}
use Rattle.pcapfile_selected.specs.declared.blocks.selected.Choosing.{Choosing}
use Rattle.pcapfile_selected.specs.declared.blocks.BlockSource.{BlockSource}
use Rattle.pcapfile_selected.specs.declared.selected.Items.{Items}
use Rattle.pcapfile_selected.specs.declared.selected.Items.TheVariants.{Packets, Blocks}
use Rattle.pcapfile_selected.specs.declared.selected.Selected.{Selected}
use Rattle.pcapfile_selected.specs.declared.selected.SelectedBlocks.{SelectedBlocks}
use Rattle.pcapfile_selected.specs.declared.selected.SelectedPackets.{SelectedPackets}
use Rattle.pcapfile_selected.specs.declared.selecting.Tests.{Tests}
use Rattle.pcapfile_selected.specs.declared.source.PacketSource.{PacketSource}
use Rattle.pcapfile_selected.specs.Asked.{IsLeastFirst}
use Rattle.pcapfile_selected.specs.PacketTimes.{BeginsAsked, OpensPackets, input_of, opening_of}
use Rattle.pcapfile_selected.specs.SelectedBlocks.{Begins, ChoosesSame, OpensBlocks, Passes, SelectsNext, place_of, run, spot}

-- The next packet was read, and written if it is selected. Or no further packet is wanted, or there is none.
pub record PutsPacket {R : Type 0} (remaining : R → Option (List ℕ)) (old new : SelectedPackets R) (out out_now : Option (List ℕ)) (result : Result Bool PcapError) : Type 0 where
  pub same : StaysThat old.cutter new.cutter
  pub opening : opening_of new.source ≡ opening_of old.source
  pub steps : StepsOnce old.cutter new.cutter (progress_of old.cutter (input_of (left_in remaining) old.source) out)
      (progress_of new.cutter (input_of (left_in remaining) new.source) out_now) result

-- The next block was read, and written if it is selected. Or no further packet is wanted, or there is no block.
pub record PutsNext {R : Type 0} (remaining : R → Option (List ℕ)) (old new : SelectedBlocks R) (out out_now : Option (List ℕ)) (result : Result Bool PcapError) : Type 0 where
  pub fault : new.fault ≡ None
  pub selects : SelectsNext (run old.choosing out old.outcome) (run new.choosing out_now new.outcome) (place_of (left_in remaining) old.source)
      (place_of (left_in remaining) new.source) result

-- The error that came before the first wanted packet was returned, and nothing was written.
pub record ReturnsFault {R : Type 0} (e : PcapError) (old new : SelectedBlocks R) (out out_now : Option (List ℕ)) (result : Result Bool PcapError) : Type 0 where
  pub told : result ≡ Err e
  pub same : new ≡ record old { fault = None }
  pub wrote : Keeps out out_now

-- The next block was put, unless an error came before the first wanted packet.
abbrev pub PutsBlocks : {R : Type 0} → (R → Option (List ℕ)) → SelectedBlocks R → SelectedBlocks R → Option (List ℕ) → Option (List ℕ) → Result Bool PcapError → Type 0
PutsBlocks remaining old new out out_now result =
    elim old.fault [ None ↦ PutsNext remaining old new out out_now result | Some e ↦ ReturnsFault e old new out out_now result ]

-- The next packet or block was put.
abbrev pub PutsItem : {R : Type 0} → (R → Option (List ℕ)) → Items R → Items R → Option (List ℕ) → Option (List ℕ) → Result Bool PcapError → Type 0
PutsItem remaining (Packets old) (Packets new) out out_now result = PutsPacket remaining old new out out_now result
PutsItem remaining (Blocks old) (Blocks new) out out_now result = PutsBlocks remaining old new out out_now result
PutsItem remaining _ _ out out_now result = ⊥

-- A read of the capture or a write of the selection failed.
abbrev pub has_failed : {R : Type 0} → Items R → Bool
has_failed (Packets packets) = packets.cutter.outcome.read_failed || packets.cutter.outcome.write_failed
has_failed (Blocks blocks) = (place_of (λ _. None) blocks.source).source.failed || blocks.outcome.write_failed

-- The error is that of a failed read or write, or memory ran out. Other errors are faults of the capture.
abbrev pub is_failure : PcapError → Bool → Bool
is_failure (OutOfMemory e) failed = true
is_failure (IoError e) failed = failed
is_failure _ failed = false

-- The error of a read, given the exit that a program would have for it.
abbrev pub IsFailureAt : Exit → Error → Type 0
IsFailureAt (exits.Io (IoError e)) error = error ≡ e
IsFailureAt exits.Memory error = error_kind error ≡ kinds.OutOfMemory
IsFailureAt _ error = error_kind error ≡ kinds.InvalidData

-- The error is kept for the reader of the selection if it is a failure.
abbrev pub KeepsFailure : PcapError → Bool → Option Error → Option Error → Type 0
KeepsFailure e failed old new =
    (IsTrue (is_failure e failed) × (exit : Exit) × EndsAt e exit × (error : Error) × (new ≡ Some error) × IsFailureAt exit error)
    ⊎ ((is_failure e failed ≡ false) × (new ≡ old))

-- The failure that is kept after an item with this result.
abbrev pub NotesFailure : Result Bool PcapError → Bool → Option Error → Option Error → Type 0
NotesFailure (Ok is_more) failed old new = new ≡ old
NotesFailure (Err e) failed old new = KeepsFailure e failed old new

-- One more item was made behind those that were made. There is no memory for its number only if it was put.
pub record MakesOne {R : Type 0} (remaining : R → Option (List ℕ)) (old new : Selected R) (result : Result (Unit {0}) Error) : Type 0 where
  pub goes_on : old.has_ended ≡ false
  pub put : Result Bool PcapError
  pub puts : PutsItem remaining old.items new.items (Some old.made.items) (Some new.made.items) put
  pub ended : new.has_ended ≡ ends_with put
  pub failure : NotesFailure put (has_failed new.items) old.failure new.failure
  pub given : new.given ≡ old.given
  pub numbered : (result ≡ Ok tt) ⊎ (put ≡ Ok true)

-- Each of these is the selection after one more item.
abbrev pub MakesAll : {R : Type 0} → (R → Option (List ℕ)) → Selected R → List (Selected R) → Selected R → Type 0
MakesAll remaining old [] new = new ≡ old
MakesAll remaining old (next ∷ others) new = MakesOne remaining old next (Ok tt) × MakesAll remaining next others new

-- There are bytes to give, or the selection has ended.
abbrev pub HasMade : {R : Type 0} → ℕ → Selected R → Type 0
HasMade items new = IsTrue new.has_ended ⊎ (0 < length new.made.items) ⊎ (items ≡ 2 ^ 64 - 1)

-- The end of making so many items.
abbrev pub EndsMaking : {R : Type 0} → (R → Option (List ℕ)) → ℕ → Selected R → Selected R → Result (Unit {0}) Error → Type 0
EndsMaking remaining items mid new (Ok u) = (new ≡ mid) × HasMade items new
EndsMaking remaining items mid new (Err e) = MakesOne remaining mid new (Err e)

-- Items were made until there are bytes to give, or the selection has ended.
pub record MakesItems {R : Type 0} (remaining : R → Option (List ℕ)) (old new : Selected R) (result : Result (Unit {0}) Error) : Type 0 where
  pub steps : List (Selected R)
  pub mid : Selected R
  pub makes : MakesAll remaining old steps mid
  pub ends : EndsMaking remaining (length steps) mid new result

-- No byte of the same selection is made.
pub record Empties {R : Type 0} (old new : Selected R) : Type 0 where
  pub none : new.made.items ≡ []
  pub given : new.given ≡ 0
  pub items : new.items ≡ old.items
  pub ended : new.has_ended ≡ old.has_ended
  pub failure : new.failure ≡ old.failure

-- The failure that was kept is returned if there is no byte to give.
abbrev pub TellsFailure : {R : Type 0} → Selected R → Selected R → Result (Unit {0}) Error → Type 0
TellsFailure mid new (Ok u) = (new ≡ mid) × ((0 < length mid.made.items) ⊎ (mid.failure ≡ None))
TellsFailure mid new (Err e) = (mid.made.items ≡ []) × (mid.failure ≡ Some e) × (new ≡ record mid { failure = None })

-- More bytes were made in place of those that were read.
pub record MakesMore {R : Type 0} (remaining : R → Option (List ℕ)) (old new : Selected R) (result : Result (Unit {0}) Error) : Type 0 where
  pub begun : Selected R
  pub empties : Empties old begun
  pub makes : ((e : Error) × (result ≡ Err e) × MakesItems remaining begun new (Err e))
      ⊎ ((mid : Selected R) × MakesItems remaining begun mid (Ok tt) × TellsFailure mid new result)

-- The bytes that were made and not read.
abbrev pub unread : {R : Type 0} → Selected R → List ℕ
unread selected = drop selected.given selected.made.items

-- A read gave the first of the bytes that were made, and at least one if there is one and there is room.
pub record Gives {R : Type 0} (old new : Selected R) (n : ℕ) (bytes : List ℕ) : Type 0 where
  pub first : unread old ≡ take n bytes ++ unread new
  pub some : n ≡ 0 → 0 < length bytes → unread old ≡ []
  pub items : new.items ≡ old.items
  pub ended : new.has_ended ≡ old.has_ended
  pub failure : new.failure ≡ old.failure

-- There are bytes that were made and not read. Or there were none, and more were made.
abbrev pub HasUnread : {R : Type 0} → (R → Option (List ℕ)) → Selected R → Selected R → Type 0
HasUnread remaining old mid = ((0 < length (unread old)) × (mid ≡ old)) ⊎ ((unread old ≡ []) × MakesMore remaining old mid (Ok tt))

-- There are bytes that were made and not read. Or all of them were read, and more were made, or making more failed.
abbrev pub Refills : {R : Type 0} → (R → Option (List ℕ)) → Selected R → Selected R → Result (Unit {0}) Error → Type 0
Refills remaining old new (Ok u) = HasUnread remaining old new
Refills remaining old new (Err e) = (unread old ≡ []) × MakesMore remaining old new (Err e)

-- A read of a selection gave the next of its bytes. Or all bytes that were made had been read, and making more of them failed.
abbrev pub ReadsSelected : {R : Type 0} → (R → Option (List ℕ)) → Selected R → Selected R → Result ℕ Error → List ℕ → Type 0
ReadsSelected remaining old new (Ok n) bytes = (mid : Selected _) × Refills remaining old mid (Ok tt) × Gives mid new n bytes
ReadsSelected remaining old new (Err e) bytes = Refills remaining old new (Err e)

-- The opening of a classic capture was made, and a cut of its packets that a user selects begins.
pub record BeginsPackets {R : Type 0} (remaining : R → Option (List ℕ)) (asked : Tests) (input : BufReader (Uninterrupted R) Global) (packets : SelectedPackets R)
    (made : List ℕ) : Type 0 where
  pub source : PacketSource (BufReader (Uninterrupted R) Global)
  pub opens : OpensPackets (left_in remaining) input (Ok source)
  pub begins : BeginsAsked asked (opening_of source) (input_of (left_in remaining) source) (Some []) (Some made) packets.cutter
  pub kept : Keeps (input_of (left_in remaining) source) (input_of (left_in remaining) packets.source)
  pub opening : opening_of packets.source ≡ opening_of source

-- The blocks before the first wanted packet of a capture were read, and the opening in force there was made.
pub record BeginsBlocks {R : Type 0} (remaining : R → Option (List ℕ)) (asked : Tests) (input : BufReader (Uninterrupted R) Global) (blocks : SelectedBlocks R)
    (made : List ℕ) : Type 0 where
  pub source : BlockSource (BufReader (Uninterrupted R) Global)
  pub opens : OpensBlocks (left_in remaining) input (Ok source)
  pub choosing : Choosing
  pub begins : Begins asked choosing
  pub number : ℕ
  pub least : IsLeastFirst asked.asked.now.numbers.items number
  pub outcome : Outcome
  pub new : IsNew outcome
  pub passed : Result (Unit {0}) PcapError
  pub passes : Passes choosing.asked number (spot (place_of (left_in remaining) source) outcome choosing.first)
      (spot (place_of (left_in remaining) blocks.source) blocks.outcome blocks.choosing.first) passed
  pub same : ChoosesSame choosing blocks.choosing
  pub fault : blocks.fault ≡ result_err passed
  pub opening : made ≡ (place_of (left_in remaining) blocks.source).opening

-- The beginning of a classic capture can't be made: a read or a write failed, memory ran out, or the header is refused.
abbrev pub FailsPackets : {R : Type 0} → (R → Option (List ℕ)) → BufReader (Uninterrupted R) Global → PcapError → Type 0
FailsPackets remaining input e = IsIo e ⊎ IsMemory e ⊎ OpensPackets (left_in remaining) input (Err e)

-- The beginning of a PcapNg capture can't be made: memory ran out, or the section header can't be read or is refused.
abbrev pub FailsBlocks : {R : Type 0} → (R → Option (List ℕ)) → BufReader (Uninterrupted R) Global → PcapError → Type 0
FailsBlocks remaining input e = IsMemory e ⊎ OpensBlocks (left_in remaining) input (Err e)

-- The items of a capture that a user selects begin with the bytes of an opening.
abbrev pub BeginsIn : {R : Type 0} → (R → Option (List ℕ)) → Tests → BufReader (Uninterrupted R) Global → Items R → List ℕ → Type 0
BeginsIn remaining asked input (Packets packets) made = BeginsPackets remaining asked input packets made
BeginsIn remaining asked input (Blocks blocks) made = BeginsBlocks remaining asked input blocks made

-- The items of a capture with these bytes that a user selects begin with the bytes of an opening.
abbrev pub BeginsItems : {R : Type 0} → (R → Option (List ℕ)) → Tests → Option (List ℕ) → Items R → List ℕ → Type 0
BeginsItems remaining asked capture items made =
    (input : BufReader (Uninterrupted _) Global) × Keeps capture (left_in remaining input) × BeginsIn remaining asked input items made

-- A selection begins, and no byte of it was read.
pub record BeginsSelected {R : Type 0} (remaining : R → Option (List ℕ)) (asked : Tests) (capture : Option (List ℕ)) (selected : Selected R) : Type 0 where
  pub begins : BeginsItems remaining asked capture selected.items selected.made.items
  pub given : selected.given ≡ 0
  pub goes_on : selected.has_ended ≡ false
  pub no_failure : selected.failure ≡ None

-- A capture can't be opened: a read failed, memory ran out, or its header or first section header is refused.
abbrev pub FailsToBegin : {R : Type 0} → (R → Option (List ℕ)) → Option (List ℕ) → PcapError → Type 0
FailsToBegin remaining capture e =
    IsIo e ⊎ ((input : BufReader (Uninterrupted _) Global) × Keeps capture (left_in remaining input) × (FailsPackets remaining input e ⊎ FailsBlocks remaining input e))
