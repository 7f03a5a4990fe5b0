-- The times of packets of a classic capture, and the tests that depend on the first one ('Packet Record').
use Rattle.std.specs.Prelude.{◌≡◌, ◌⊎◌, ℕ, List, [], pos, take, Bool, true, false, IsTrue, IfSome, Option, None, Some, Result, Ok, Err}
use Rattle.std.specs.Io.KnownBytes.{Appends, Consumes, Keeps}
use Rattle.pcap_core.specs.declared.errors.PcapError.{PcapError}
use Rattle.pcap_items.specs.Reading.{ReadsTold}
use Rattle.pcap_classic.specs.HeaderText.{HeaderSays, HeaderText}
use Rattle.std.specs.declared.io.Error.{Error}
use Rattle.pcap_core.specs.declared.errors.PcapError.TheVariants.{IoError}
use Rattle.pcap_core.specs.Answer.{Order, whole, lacks, faulty, number_in}
use Rattle.pcap_core.specs.Faults.{Fault}
use Rattle.pcap_times.specs.declared.clock.Timestamp.{Timestamp}
use Rattle.pcap_classic.specs.declared.common.TsResolution.{TsResolution}
use Rattle.pcap_classic.specs.declared.pcap.header.PcapHeader.{PcapHeader}
use Rattle.pcap_classic.specs.declared.pcap.packet.PacketHeader.{PacketHeader}
use Rattle.pcap_classic.specs.Magic.{order_of, resolution_of}
use Rattle.pcap_classic.specs.PacketText.{PacketHeaderSays, packet_limit}
use Rattle.pcapfile_cut.specs.declared.cutting.Outcome.{Outcome}
use Rattle.pcapfile_cut.specs.declared.opening.Opening.{Opening}
use Rattle.pcapfile_cut.specs.declared.selection.Selection.{Selection}
use Rattle.pcapfile_cut.specs.declared.wanted.Wanted.{Wanted}
use Rattle.pcapfile_cut.specs.Cuts.{CutsPart}
use Rattle.pcapfile_cut.specs.declared.stepping.PacketCutter.{PacketCutter}
use Rattle.pcapfile_cut.specs.Openings.{bytes_of, header_of}
use Rattle.pcapfile_cut.specs.Steps.{Begins, IsOf}
use Rattle.pcapfile_selected.specs.declared.selecting.Tests.{Tests}
use Rattle.pcapfile_selected.specs.declared.source.PacketSource.{PacketSource}
use Rattle.pcapfile_selected.specs.Ahead.{remaining_in}
use Rattle.pcapfile_selected.specs.Asked.{AreAskedOfPackets, first_or_1970, is_relative}
use Rattle.pcapfile_selected.specs.Moments.{time_with}

-- The time that a packet's header states. Whole seconds of its fraction are carried.
abbrev pub time_of_header : PacketHeader → Timestamp
time_of_header head = time_with (pos head.ts_sec) (pos head.ts_nsec)

-- The time that the packet header at the front of these bytes states. There is none if it is truncated or malformed.
abbrev pub IsTimeUnder : Order → TsResolution → List ℕ → Option Timestamp → Type 0
IsTimeUnder order resolution bytes (Some time) =
    (head : PacketHeader) × (rest : List ℕ) × PacketHeaderSays packet_limit order resolution bytes (whole head rest) × (time ≡ time_of_header head)
IsTimeUnder order resolution bytes None =
    ((n : ℕ) × PacketHeaderSays packet_limit order resolution bytes (lacks n))
    ⊎ ((fault : Fault) × PacketHeaderSays packet_limit order resolution bytes (faulty fault))

-- The time that the packet header at the front of these bytes states, under the header of a capture.
abbrev pub IsHeadTime : PcapHeader → List ℕ → Option Timestamp → Type 0
IsHeadTime header bytes time = IsTimeUnder (number_in (order_of header.magic_number)) (resolution_of header.magic_number) bytes time

-- The time of the next packet, where the bytes that follow are known.
abbrev pub IsNextTime : PcapHeader → Option (List ℕ) → Option Timestamp → Type 0
IsNextTime header input time = IfSome input (λ bytes. IsHeadTime header (take 16 bytes) time)

-- The first time that tests are given: that of the next packet, if a test depends on it, or else 1970.
abbrev pub IsFirstTime : Tests → PcapHeader → Option (List ℕ) → Timestamp → Type 0
IsFirstTime asked header input first =
    ((is_relative asked ≡ false) × (first ≡ first_or_1970 None))
    ⊎ (IsTrue (is_relative asked) × (time : Option Timestamp) × IsNextTime header input time × (first ≡ first_or_1970 time))

-- The tests of a classic capture's packets are those that a user asks for, given the packets that follow.
abbrev pub SelectsAsked : Tests → PcapHeader → Option (List ℕ) → Selection → Type 0
SelectsAsked asked header input selection = (first : Timestamp) × IsFirstTime asked header input first × AreAskedOfPackets asked first selection

-- The bytes that follow in a classic capture that is read part by part.
abbrev pub input_of : {R : Type 0} → (R → Option (List ℕ)) → PacketSource R → Option (List ℕ)
input_of remaining source = remaining_in remaining source.input

-- The opening of a classic capture that is read part by part.
abbrev pub opening_of : {R : Type 0} → PacketSource R → Opening
opening_of source = source.opening

-- The outcome of a cut that could not read its first packet.
abbrev pub unread : Error → Outcome
unread error = record {
  packets = 0;
  bytes = 0;
  duplicates = 0;
  unmoved = 0;
  fault = Some (IoError error);
  read_failed = true;
  write_failed = false;
}

-- Reading the header of the first packet failed, on whose time a test depends. Nothing was written.
pub record FailsFirst (asked : Tests) (before now out out_now : Option (List ℕ)) (outcome : Outcome) : Type 0 where
  pub needed : IsTrue (is_relative asked)
  pub error : Error
  pub told : outcome ≡ unread error
  pub taken : Keeps before now
  pub went : Keeps out out_now

-- The packets that a user selects were cut.
pub record CutsSelected (asked : Tests) (opening : Opening) (before now out out_now : Option (List ℕ)) (outcome : Outcome) : Type 0 where
  pub selection : Selection
  pub selects : SelectsAsked asked (header_of opening) before selection
  pub wanted : Wanted
  pub is_of : IsOf selection wanted
  pub input : Option (List ℕ)
  pub kept : Keeps before input
  pub cuts : CutsPart opening wanted input now out out_now outcome

-- The packets that a user selects were cut, or reading failed before.
abbrev pub WritesAsked : Tests → Opening → Option (List ℕ) → Option (List ℕ) → Option (List ℕ) → Option (List ℕ) → Outcome → Type 0
WritesAsked asked opening before now out out_now outcome =
    CutsSelected asked opening before now out out_now outcome ⊎ FailsFirst asked before now out out_now outcome

-- A capture was opened: its header was read, and nothing more. Or the header is refused.
abbrev pub OpensPackets : {R : Type 0} → (R → Option (List ℕ)) → R → Result (PacketSource R) PcapError → Type 0
OpensPackets remaining stream (Ok source) =
    HeaderText (header_of source.opening) (bytes_of source.opening) [] × Consumes (remaining stream) (input_of remaining source) (bytes_of source.opening)
OpensPackets remaining stream (Err e) = (now : Option (List ℕ)) × (failed : Bool) × ReadsTold {X = Opening} HeaderSays header_of (remaining stream) now failed (Err e)

-- The opening was written, and a cut of the packets that a user selects begins.
pub record BeginsAsked (asked : Tests) (opening : Opening) (before out out_now : Option (List ℕ)) (cutter : PacketCutter) : Type 0 where
  pub selection : Selection
  pub selects : SelectsAsked asked (header_of opening) before selection
  pub went : Appends out out_now (bytes_of opening)
  pub begins : Begins opening selection cutter

-- The outcome after a flush: the same, or with the error of the failed call if it had none.
abbrev pub IsFlushed : Outcome → Outcome → Type 0
IsFlushed old new =
    (new ≡ old) ⊎ ((old.fault ≡ None) × (error : Error) × (new ≡ record old { fault = Some (IoError error); write_failed = true }))
