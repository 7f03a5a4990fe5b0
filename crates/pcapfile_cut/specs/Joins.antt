-- The bytes that the join of a part reads and writes.
use Rattle.std.specs.Prelude.{◌≢◌, ℕ, List, Bool, Option, Err}
use Rattle.std.specs.Io.KnownBytes.{Consumes, Keeps}
use Rattle.pcap_items.specs.Reading.{ReadsTold}
use Rattle.pcap_classic.specs.HeaderText.{HeaderSays}
use Rattle.pcapfile_cut.specs.declared.joining.Joined.{Joined}
use Rattle.pcapfile_cut.specs.declared.joining.Joined.TheVariants.{Unopened, OtherHeader, Packets}
use Rattle.pcapfile_cut.specs.declared.opening.Opening.{Opening}
use Rattle.pcapfile_cut.specs.declared.wanted.Wanted.TheVariants.{All}
use Rattle.pcapfile_cut.specs.Cuts.{CutsBehind}
use Rattle.pcapfile_cut.specs.Openings.{bytes_of, header_of}

-- The join of one part: nothing is written if its header can't be read, is malformed or has other bytes than the first. Otherwise its
-- packets are written, read under the first part's header.
abbrev pub JoinsPart : Opening → Option (List ℕ) → Option (List ℕ) → Option (List ℕ) → Option (List ℕ) → Joined → Type 0
JoinsPart first before now out out_now (Unopened e) = ((failed : Bool) × ReadsTold HeaderSays header_of before now failed (Err e)) × Keeps out out_now
JoinsPart first before now out out_now OtherHeader = ((other : Opening) × Consumes before now (bytes_of other) × (bytes_of other ≢ bytes_of first)) × Keeps out out_now
JoinsPart first before now out out_now (Packets outcome) =
    (behind : Option (List ℕ)) × Consumes before behind (bytes_of first) × CutsBehind (header_of first) All behind now out out_now outcome
