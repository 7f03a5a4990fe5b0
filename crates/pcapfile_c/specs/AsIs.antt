-- The struct that shows C a packet from lenient reading, and the result of the search for the next good packets.
use Rattle.std.specs.Prelude.{◌≡◌, ◌<◌, ◌+◌, ◌*◌, ◌^◌, ◌⊎◌, ℕ, ℤ, pos, List, [], ◌∷◌, Option, Some, None}
use Rattle.pcap_core.specs.declared.rules.Rule.{Rule}
use Rattle.pcap_core.specs.Answer.{Verdict, number_in}
use Rattle.pcap_core.specs.Rules.{number_of}
use Rattle.pcap_classic.specs.declared.common.TsResolution.{TsResolution}
use Rattle.pcap_classic.specs.Magic.{order_of, resolution_of}
use Rattle.pcap_classic.specs.PacketText.{packet_limit, Head, nanoseconds}
use Rattle.pcap_classic.specs.Packets.{packet_format}
use Rattle.pcap_tolerant.specs.AsIs.{AsIs, AsIsSays, raised, rules_of, first_rule}
use Rattle.pcap_tolerant.specs.Resync.{Resyncs, HasData}
use Rattle.pcapfile_values.specs.declared.bodies.PcapfileTime.{PcapfileTime}
use Rattle.pcapfile_values.specs.declared.errors.PcapfileError.{PcapfileError}
use Rattle.pcapfile_c.specs.declared.as_is.PcapfilePacketAsIs.{PcapfilePacketAsIs}

-- The verdict of lenient reading on bytes after a header of this magic number, with this limit.
abbrev pub AsIsSaid : ℕ → ℕ → List ℕ → Verdict AsIs → Type 0
AsIsSaid limit magic = AsIsSays (raised limit) (number_in (order_of magic)) (resolution_of magic)

-- A list of rules as a number, with the bit of each rule's number set.
abbrev pub bits_of : List Rule → ℕ
bits_of [] = 0
bits_of (rule ∷ rules) = 2 ^ number_of rule + bits_of rules

-- The number of a rule, or 0 for none.
abbrev pub number_or_0 : Option Rule → ℕ
number_or_0 None = 0
number_or_0 (Some rule) = number_of rule

-- The struct shows the time of a head, with whole seconds carried from the fraction into the seconds.
pub record ShowsTime (r : TsResolution) (head : Head) (shown : PcapfileTime) : Type 0 where
  pub seconds : ℕ
  pub seconds_are : shown.seconds ≡ pos seconds
  pub below_second : shown.nanoseconds < 1_000_000_000
  pub time : seconds * 1_000_000_000 + shown.nanoseconds ≡ head.seconds * 1_000_000_000 + nanoseconds r head.fraction

-- The struct shows a packet from lenient reading: the numbers of its head as written, the rules that it breaks, its time and its bytes.
pub record ShowsAsIs (r : TsResolution) (packet : AsIs) (shown : PcapfilePacketAsIs) : Type 0 where
  pub seconds : shown.ts_sec ≡ packet.head.seconds
  pub fraction : shown.ts_fraction ≡ packet.head.fraction
  pub original : shown.orig_len ≡ packet.head.original
  pub flaws : shown.flaws ≡ bits_of (rules_of packet.flaws)
  pub first : shown.first_flaw ≡ number_or_0 (first_rule (rules_of packet.flaws))
  pub time : ShowsTime r packet.head shown.time
  pub bytes : shown.bytes.now ≡ packet.bytes

-- The first place from which this many packets with data follow after a header of this magic number, or fewer, at least one, to the end;
-- or there is none.
abbrev pub PacketsStandAgain : ℕ → ℕ → List ℕ → Option ℕ → Type 0
PacketsStandAgain magic = Resyncs (packet_format packet_limit (number_in (order_of magic)) (resolution_of magic)) HasData tt

-- Status 0: this is the place. Status 8: there is none, and the number is unchanged. The error is unchanged in either case.
abbrev pub TellsPlace : (Option ℕ → Type 0) → ℕ → ℕ → PcapfileError → PcapfileError → ℤ → Type 0
TellsPlace IsPlace before after error told status =
    (told ≡ error) × (((status ≡ pos 0) × IsPlace (Some after)) ⊎ ((status ≡ pos 8) × (after ≡ before) × IsPlace None))
