-- This file defines the text of a packet in a block: its number, time, lengths and interface.
use Rattle.std.specs.Prelude.{◌≡◌, ◌≢◌, ◌<◌, ◌^◌, ◌⊎◌, ℕ, pos, List, ◌++◌, length, Option, None, Some, codes}
use Rattle.std.specs.Fmt.{decimal}
use Rattle.pcap_times.specs.declared.clock.Timestamp.{Timestamp}
use Rattle.pcap_blocks.specs.InterfaceDescription.{Interface}
use Rattle.pcap_blocks.specs.InterfaceTimes.{IsTimeAt}
use Rattle.pcap_program.specs.Digits.{nine_digits}
use Rattle.pcapfile_run.specs.BlockPackets.{InBlock}

-- ShowsTime time text: `text` is the time in seconds and nanoseconds, or a hyphen if the seconds are no natural number of 64 bits.
abbrev pub ShowsTime : Timestamp → List ℕ → Type 0
ShowsTime time text =
    ((s : ℕ) × (s < 2 ^ 64) × (time.seconds ≡ pos s) × (text ≡ decimal s ++ (codes "." ++ nine_digits time.nanoseconds)))
    ⊎ (((s : ℕ) → s < 2 ^ 64 → time.seconds ≢ pos s) × (text ≡ codes "-"))

-- IsTimeText interface units text: `text` is the time at this count of the interface's clock, or a hyphen if there is no interface.
abbrev pub IsTimeText : Option Interface → ℕ → List ℕ → Type 0
IsTimeText (Some interface) units text = (time : Timestamp) × IsTimeAt interface units time × ShowsTime time text
IsTimeText None units text = text ≡ codes "-"

-- The end of a line gives the stored and the original length of a packet, and its interface.
abbrev pub lengths_text : ℕ → ℕ → ℕ → List ℕ → List ℕ
lengths_text stored original interface ending = codes " " ++ (decimal stored ++ (codes "/" ++ (decimal original ++ (codes " " ++ (decimal interface ++ ending)))))

-- The line of a packet with this ending gives its number, its time, its lengths and its interface.
abbrev pub stored_line : ℕ → List ℕ → ℕ → ℕ → ℕ → List ℕ → List ℕ
stored_line number time stored original interface ending = decimal number ++ (codes " " ++ (time ++ lengths_text stored original interface ending))

-- IsUnitsText: the text is the time of a packet of this interface, or a hyphen if it has none or its interface isn't described.
abbrev pub IsUnitsText : Option Interface → Option ℕ → List ℕ → Type 0
IsUnitsText interface (Some units) text = IsTimeText interface units text
IsUnitsText interface None text = text ≡ codes "-"

-- IsPacketText: the line, with this ending, of a packet of this interface, if that is described.
abbrev pub IsPacketText : Option Interface → ℕ → InBlock → List ℕ → List ℕ → Type 0
IsPacketText interface number packet ending line =
    (time : List ℕ) × IsUnitsText interface packet.units time
    × (line ≡ stored_line number time (length packet.bytes) packet.original_len packet.interface ending)
