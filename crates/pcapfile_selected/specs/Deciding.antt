-- Which of the packets in blocks a selection writes.
use Rattle.std.specs.Prelude.{◌≡◌, ◌<◌, ◌+◌, ◌-◌, ◌^◌, ◌++◌, ◌||◌, ◌⊎◌, ℕ, List, [], ◌∷◌, Bool, true, false, IsTrue, Option, None, Some, nat_lt, is_some, if◌then◌else◌}
use Rattle.std.specs.List.{list_any}
use Rattle.circular_buffer.specs.Buffer.{keep_last}
use Rattle.pcap_blocks.specs.InterfaceDescription.{Interface}
use Rattle.pcap_ng.specs.Frames.{Framed}
use Rattle.pcapfile_run.specs.BlockPackets.{InBlock}
use Rattle.pcapfile_cut.specs.declared.duplicates.Recent.{Recent}
use Rattle.pcapfile_cut.specs.declared.cutting.Outcome.{Outcome}
use Rattle.pcapfile_cut.specs.Cuts.{counted}
use Rattle.pcapfile_cut.specs.Duplicates.{digest_with, is_among, most_remembered, remembered}
use Rattle.pcapfile_cut.specs.Selections.{is_in}
use Rattle.pcapfile_selected.specs.declared.blocks.deciding.Decision.{Decision}
use Rattle.pcapfile_selected.specs.declared.blocks.deciding.Decision.TheVariants as to
use Rattle.pcapfile_selected.specs.declared.blocks.judging.BlockTests.{BlockTests}
use Rattle.pcapfile_selected.specs.declared.source.Exceptions.{Exceptions}
use Rattle.pcapfile_selected.specs.declared.blocks.judging.Verdict.{Verdict}
use Rattle.pcapfile_selected.specs.declared.blocks.judging.Verdict.TheVariants as verdicts
use Rattle.pcapfile_selected.specs.Judging.{IsPacketOf, Judges}

-- A test depends on more than a packet's number.
abbrev pub reads_packets : BlockTests → Bool
reads_packets tests =
    is_some tests.times || is_some tests.selection.filter || is_some tests.interface
    || nat_lt 0 tests.selection.lengths.first || nat_lt tests.selection.lengths.last (2 ^ 64 - 1)

-- The number is in a range of the selection.
abbrev pub has_number : BlockTests → ℕ → Bool
has_number tests number = list_any (λ range. is_in range number) tests.selection.numbers.now

-- A packet with this verdict is left out, or passes.
abbrev pub left_out_by : Verdict → Option Decision
left_out_by verdicts.Selected = None
left_out_by verdicts.Rejected = Some to.Rejected
left_out_by verdicts.Malformed = Some to.Malformed
left_out_by verdicts.WithoutTime = Some to.WithoutTime

-- The packet in a block is left out for this reason, or passes. Tests that depend on its number alone don't read it.
abbrev pub LeavesOut : BlockTests → List Interface → Framed → Option Decision → Type 0
LeavesOut tests interfaces block reason =
    ((reads_packets tests ≡ false) × (reason ≡ None))
    ⊎ ((reads_packets tests ≡ true) × (verdict : Verdict) × Judges tests interfaces block verdict × (reason ≡ left_out_by verdict))

-- The digest of a packet in a block.
abbrev pub digest_of : InBlock → List ℕ
digest_of packet = digest_with packet.original_len packet.bytes

-- The packet that a body holds, if it holds one, is compared with the recent packets, and is one of them from now on.
abbrev pub ComparesHeld : Recent → Recent → Option InBlock → Decision → Type 0
ComparesHeld old now None decision = (decision ≡ to.Uncompared) × (now ≡ old)
ComparesHeld old now (Some packet) decision =
    (decision ≡ (if is_among (digest_of packet) (remembered old) then to.Duplicate else to.Written))
    × (remembered now ≡ keep_last (most_remembered old) (remembered old ++ digest_of packet ∷ []))
    × (most_remembered now ≡ most_remembered old)

-- The packet in a block that passes the tests is compared with the recent packets if duplicates are left out, or else written.
abbrev pub Compares : ℕ → Recent → Recent → List Interface → Framed → Decision → Type 0
Compares dedup old now interfaces block decision =
    ((dedup ≡ 0) × (decision ≡ to.Written) × (now ≡ old))
    ⊎ ((0 < dedup) × (packet : Option InBlock) × IsPacketOf interfaces block packet × ComparesHeld old now packet decision)

-- What is done with the packet of this number in a block: it is left out if its number is in no range or if it fails a test, and else
-- compared.
abbrev pub Decides : BlockTests → Recent → Recent → List Interface → ℕ → Framed → Decision → Type 0
Decides tests old now interfaces number block decision =
    ((has_number tests number ≡ false) × (decision ≡ to.Rejected) × (now ≡ old))
    ⊎ (IsTrue (has_number tests number) × LeavesOut tests interfaces block (Some decision) × (now ≡ old))
    ⊎ (IsTrue (has_number tests number) × LeavesOut tests interfaces block None × Compares tests.selection.dedup old now interfaces block decision)

-- A packet is written if nothing leaves it out.
abbrev pub is_written : Decision → Bool
is_written to.Written = true
is_written to.Uncompared = true
is_written _ = false

-- The count of duplicates after a packet.
abbrev pub duplicates_after : Decision → ℕ → ℕ
duplicates_after to.Duplicate n = counted (n + 1)
duplicates_after _ n = n

-- The packet with this decision is counted if it is left out as a duplicate.
pub record CountsDecision (decision : Decision) (old new : Outcome) : Type 0 where
  pub packets : new.packets ≡ old.packets
  pub bytes : new.bytes ≡ old.bytes
  pub duplicates : new.duplicates ≡ duplicates_after decision old.duplicates
  pub write_failed : new.write_failed ≡ old.write_failed

-- The counts of packets to which a test did not apply, or that were not compared, after a packet.
abbrev pub exceptions_after : Decision → Exceptions → Exceptions
exceptions_after to.Malformed old = record old { malformed = counted (old.malformed + 1) }
exceptions_after to.WithoutTime old = record old { without_time = counted (old.without_time + 1) }
exceptions_after to.Uncompared old = record old { uncompared = counted (old.uncompared + 1) }
exceptions_after _ old = old
