-- Packet records of classic captures with their times.
use Rattle.std.specs.Prelude.{◌≡◌, ◌≤◌, ◌+◌, ◌*◌, ◌^◌, ◌++◌, ℕ, List, [], length, All, Bool, Option, Err}
use Rattle.std.specs.Io.KnownBytes.{Consumes}
use Rattle.pcap_core.specs.declared.errors.PcapError.{PcapError}
use Rattle.pcap_core.specs.Answer.{Verdict, whole}
use Rattle.pcap_items.specs.Reading.{HasCause, ReadsTold}
use Rattle.pcap_classic.specs.declared.pcap.header.PcapHeader.{PcapHeader}
use Rattle.pcap_classic.specs.declared.pcap.packet.PacketHeader.{PacketHeader}
use Rattle.pcap_classic.specs.HeaderText.{HeaderSays, HeaderText}
use Rattle.pcap_classic.specs.Packets.{reader_format}
use Rattle.pcap_classic.specs.PacketText.{Captured, packet_limit}
use Rattle.pcapfile_cut.specs.declared.opening.Opening.{Opening}
use Rattle.pcapfile_cut.specs.Openings.{bytes_of, header_of}
use Rattle.pcapfile_sort.specs.Ranked.{Ranked, texts_of}
use Rattle.pcapfile_sort.specs.Sortable.{Sortable}

-- The time of a packet in nanoseconds since 1970.
abbrev pub time_in : PacketHeader → ℕ
time_in header = 1000000000 * header.ts_sec + header.ts_nsec

-- The verdict of the grammar on the next packet under this header.
abbrev pub PacketIsSaid : PcapHeader → List ℕ → Verdict Captured → Type 0
PacketIsSaid header = (reader_format packet_limit header).says tt

-- The bytes are exactly one packet record, and its rank is the time of the packet.
pub record IsTimed (header : PcapHeader) (ranked : Ranked) : Type 0 where
  pub packet : Captured
  pub said : PacketIsSaid header ranked.text (whole packet [])
  pub time_is : ranked.rank ≡ time_in packet.header

-- The capture begins with this opening and these records, and the rest follows them.
pub record BeginsWith (opening : Opening) (records : List Ranked) (capture rest : Option (List ℕ)) : Type 0 where
  pub header : HeaderText (header_of opening) (bytes_of opening) []
  pub each : All (IsTimed (header_of opening)) records
  pub took : Consumes capture rest (bytes_of opening ++ texts_of records)

-- The header can't be read, or is refused.
pub record RefusesHeader (capture : Option (List ℕ)) (e : PcapError) : Type 0 where
  pub now : Option (List ℕ)
  pub failed : Bool
  pub told : ReadsTold HeaderSays header_of capture now failed (Err e)

-- Classic captures: a header, and packet records with their times. Their bytes are counted with a number of 64 bits.
abbrev pub packet_captures : Sortable
packet_captures = record {
  Opening = Opening;
  lead = bytes_of;
  Is = λ opening. IsTimed (header_of opening);
  Begins = BeginsWith;
  RefusesRest = λ opening records rest failed e. HasCause (PacketIsSaid (header_of opening)) rest failed e;
  AreTooMany = λ opening records. 2 ^ 64 ≤ length (bytes_of opening ++ texts_of records);
  RefusesOpening = RefusesHeader;
}
