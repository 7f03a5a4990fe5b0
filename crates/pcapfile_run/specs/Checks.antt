-- This file defines the results of checking a capture.
use Rattle.std.specs.Prelude.{⊤, ◌≡◌, ◌<◌, ◌≤◌, ◌+◌, ◌⊎◌, ℕ, List, [], ◌++◌, length, Bool, true, false, Option, None, Some}
use Rattle.pcap_core.specs.declared.errors.PcapError.{PcapError}
use Rattle.pcap_core.specs.declared.rules.Rule.{Rule}
use Rattle.pcap_core.specs.Answer.{Verdict, whole}
use Rattle.pcap_core.specs.Errors.{IsIo, IsMemory}
use Rattle.pcap_core.specs.Faults.{Names, Invalid, Io, Utf8}
use Rattle.pcap_items.specs.Format.{Format, Front, Texts, state_after}
use Rattle.pcap_items.specs.Reading.{IsFaultOf, IsShort, IsTorn}
use Rattle.pcap_classic.specs.declared.pcap.header.PcapHeader.{PcapHeader}
use Rattle.pcap_classic.specs.HeaderText.{HeaderText, HeaderSays}
use Rattle.pcap_classic.specs.Packets.{format_under}
use Rattle.pcap_classic.specs.PacketText.{packet_limit}
use Rattle.pcap_ng.specs.Blocks.{Item, block_format}
use Rattle.pcap_ng.specs.Opening.{OpeningSays}
use Rattle.pcap_ng.specs.State.{State}
use Rattle.pcapfile_run.specs.declared.checked.Checked.{Checked}
use Rattle.pcapfile_run.specs.declared.checked.End.{End}
use Rattle.pcapfile_run.specs.declared.checked.End.TheVariants.{Whole, Most, Short, Breaks, NotUtf8, Unread, Memory}
use Rattle.pcapfile_run.specs.declared.format.Format.TheVariants.{Pcap, PcapNg}
use Rattle.pcap_walk.specs.CountedItems.{CountsItems}
use Rattle.pcapfile_run.specs.Passing.{counted}
use Rattle.pcapfile_run.specs.SoundBlocks.{sound_blocks}

-- FaultIs error failed end: a run that stopped with this error, and in which a read failed or not, has this end. `Unread` holds the error.
abbrev pub FaultIs : PcapError → Bool → End → Type 0
FaultIs e failed Short = IsIo e × (failed ≡ false)
FaultIs e failed (Breaks rule) = Names rule e
FaultIs e failed NotUtf8 = (IsIo e → ⊥) × (IsMemory e → ⊥) × ((rule : Rule) → Names rule e → ⊥)
FaultIs e failed (Unread error) = (error ≡ e) × IsIo e × (failed ≡ true)
FaultIs e failed Memory = IsMemory e
FaultIs e failed end = ⊥

-- EndIs fault failed n most end: a run of n items has this end: `Whole` or `Most` without a fault, or else that of its fault.
abbrev pub EndIs : Option PcapError → Bool → ℕ → ℕ → End → Type 0
EndIs None failed n most Whole = n < most
EndIs None failed n most Most = most ≤ n
EndIs None failed n most end = ⊥
EndIs (Some e) failed n most end = FaultIs e failed end

-- FailsAt MayGrow IsSaid s end: the reason why s has no opening. Bytes are missing, or there is a fault, or the input can't be read, or
-- there is no memory, if finding the opening may need any.
abbrev pub FailsAt : {V : Type 0} → Type 0 → (List ℕ → Verdict V → Type 0) → List ℕ → End → Type 0
FailsAt MayGrow IsSaid s Whole = ⊥
FailsAt MayGrow IsSaid s Most = ⊥
FailsAt MayGrow IsSaid s Short = IsShort IsSaid s ⊎ IsFaultOf IsSaid (Some s) Io
FailsAt MayGrow IsSaid s (Breaks rule) = IsFaultOf IsSaid (Some s) (Invalid rule)
FailsAt MayGrow IsSaid s NotUtf8 = IsFaultOf IsSaid (Some s) Utf8
FailsAt MayGrow IsSaid s (Unread error) = IsIo error
FailsAt MayGrow IsSaid s Memory = MayGrow

-- StopsAt: the reason why no item follows n items. The front has no more items, and its rest is empty, lacks bytes or has a fault; or
-- n is the most; or the input can't be read; or there is no memory.
abbrev pub StopsAt : {V : Type 0} → (List ℕ → Verdict V → Type 0) → List V → List ℕ → ℕ → ℕ → End → Type 0
StopsAt IsSaid more rest n most Whole = (more ≡ []) × (rest ≡ [])
StopsAt IsSaid more rest n most Most = n ≡ most
StopsAt IsSaid more rest n most Short = (more ≡ []) × (IsTorn IsSaid rest ⊎ IsFaultOf IsSaid (Some rest) Io)
StopsAt IsSaid more rest n most (Breaks rule) = (more ≡ []) × IsFaultOf IsSaid (Some rest) (Invalid rule)
StopsAt IsSaid more rest n most NotUtf8 = (more ≡ []) × IsFaultOf IsSaid (Some rest) Utf8
StopsAt IsSaid more rest n most (Unread error) = IsIo error
StopsAt IsSaid more rest n most Memory = ⊤

-- ChecksItems: s is the counted bytes, more items, and a rest that no item begins; `before` items were counted before the first.
pub record ChecksItems {S V : Type 0} (f : Format S V) (q : S) (s after : List ℕ) (before most : ℕ) (checked : Checked) : Type 0 where
  pub items : List V
  pub more : List V
  pub front_bytes : List ℕ
  pub left : List ℕ
  pub rest : List ℕ
  pub front : Front f q (items ++ more) after rest
  pub texts : Texts f q items after left
  pub place : s ≡ front_bytes ++ left
  pub bytes : checked.bytes ≡ counted (length front_bytes)
  pub count : checked.items ≡ before + length items
  pub stops : StopsAt (f.says (state_after f q items)) more rest (length items) most checked.end

-- FailsOpening: nothing is counted, since s has no opening.
pub record FailsOpening {V : Type 0} (MayGrow : Type 0) (IsSaid : List ℕ → Verdict V → Type 0) (s : List ℕ) (checked : Checked) : Type 0 where
  pub items : checked.items ≡ 0
  pub bytes : checked.bytes ≡ 0
  pub fails : FailsAt MayGrow IsSaid s checked.end

-- The most items of a capture that are counted after its opening.
abbrev pub most_passed : ℕ
most_passed = 18446744073709551614

-- ChecksPackets s checked: the result of checking a classic capture, with its header and then its packets.
abbrev pub ChecksPackets : List ℕ → Checked → Type 0
ChecksPackets s checked =
    (checked.format ≡ Pcap)
    × (FailsOpening ⊥ HeaderSays s checked
    ⊎ ((header : PcapHeader) × (after : List ℕ) × HeaderText header s after × ChecksItems (format_under packet_limit header) tt s after 0 most_passed checked))

-- CountsBehind f q before now first checked: items were counted behind a first block of this many bytes, and why no other one follows.
pub record CountsBehind {S V : Type 0} (f : Format S V) (q : S) (before now : Option (List ℕ)) (first : ℕ) (checked : Checked) : Type 0 where
  pub failed : Bool
  pub fault : Option PcapError
  pub items : ℕ
  pub counts : CountsItems f q before now failed most_passed 0 items first checked.bytes fault
  pub format : checked.format ≡ PcapNg
  pub count : checked.items ≡ items + 1
  pub end : EndIs fault failed checked.items (1 + most_passed) checked.end

-- ChecksOpened f s checked: the result of checking a PcapNg capture, with its first section header, which is counted, and then its blocks
-- in this format.
abbrev pub ChecksOpened : Format State Item → List ℕ → Checked → Type 0
ChecksOpened f s checked =
    (checked.format ≡ PcapNg)
    × (FailsOpening ⊤ OpeningSays s checked
    ⊎ ((first : State) × (after : List ℕ) × OpeningSays s (whole first after) × ChecksItems f first s after 1 most_passed checked))

-- ChecksBlocks s checked: the result of checking the frames of blocks, and what stays in force.
abbrev pub ChecksBlocks : List ℕ → Checked → Type 0
ChecksBlocks = ChecksOpened block_format

-- ChecksBodies s checked: the result of checking blocks and their bodies.
abbrev pub ChecksBodies : List ℕ → Checked → Type 0
ChecksBodies = ChecksOpened sound_blocks
