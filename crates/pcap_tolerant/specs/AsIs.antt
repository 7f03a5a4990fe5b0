-- The text of a packet read leniently, the bytes that it lacks, and the rules that it breaks ('Packet Record').
use Rattle.std.specs.Prelude.{◌≡◌, ◌<◌, ◌≤◌, ◌+◌, ◌⊎◌, ℕ, List, [], ◌∷◌, ◌++◌, length, Bool, true, Option, Some, None, max, nat_lt, if◌then◌else◌}
use Rattle.pcap_classic.specs.declared.common.TsResolution.{TsResolution}
use Rattle.pcap_core.specs.declared.rules.Rule.{Rule}
use Rattle.pcap_core.specs.declared.rules.Rule.TheVariants.{FractionTooLarge, IncludedTooLong, OriginalTooLong, IncludedPastOriginal}
use Rattle.pcap_core.specs.Answer.{Order, Verdict, Says}
use Rattle.pcap_core.specs.Faults.{Fault, Invalid}
use Rattle.pcap_items.specs.Format.{Format}
use Rattle.pcap_items.specs.Headed.{HeadReading, good, bad, Headed}
use Rattle.pcap_classic.specs.PacketText.{packet_limit, Head, RecordHeadText, nanoseconds, spelled_header, Captured, LacksHead}
use Rattle.pcap_tolerant.specs.declared.as_is.Flaws.{Flaws}
use Rattle.pcap_tolerant.specs.declared.as_is.HeadAsIs.{HeadAsIs}
use Rattle.pcap_tolerant.specs.declared.as_is.PacketAsIs.{PacketAsIs}

-- The caller's limit, raised to the longest packet that breaks no rule.
abbrev pub raised : ℕ → ℕ
raised limit = max limit packet_limit

-- The flaws of a head: the rules that it breaks.
abbrev pub flaws_of : TsResolution → Head → Flaws
flaws_of r head = record {
  fraction_too_large = nat_lt 4294967295 (nanoseconds r head.fraction);
  included_too_long = nat_lt packet_limit head.included;
  original_too_long = nat_lt packet_limit head.original;
  included_past_original = nat_lt head.original head.included;
}

-- Some rule is broken.
abbrev pub breaks_one : Flaws → Bool
breaks_one f =
    if f.fraction_too_large then true else if f.included_too_long then true else if f.original_too_long then true else f.included_past_original

-- A rule before other rules if it is broken, and otherwise the other rules alone.
abbrev pub where_broken : Bool → Rule → List Rule → List Rule
where_broken broken rule rules = if broken then rule ∷ rules else rules

-- The broken rules, in the order in which the parser checks a packet.
abbrev pub rules_of : Flaws → List Rule
rules_of f =
    where_broken f.fraction_too_large FractionTooLarge
    (where_broken f.included_too_long IncludedTooLong (where_broken f.original_too_long OriginalTooLong (where_broken f.included_past_original IncludedPastOriginal [])))

-- The first of the rules, if there is one.
abbrev pub first_rule : List Rule → Option Rule
first_rule [] = None
first_rule (rule ∷ rules) = Some rule

-- A packet read leniently: the four numbers of its head, the rules that they break, and its bytes, wherever they are stored.
pub record AsIs : Type 0 where
  pub head : Head
  pub flaws : Flaws
  pub bytes : List ℕ

-- The contents of a packet of the code, wherever its bytes are stored.
abbrev pub as_it_is : PacketAsIs → AsIs
as_it_is p = record { head = record { seconds = p.ts_sec; fraction = p.fraction; included = p.incl_len; original = p.orig_len }; flaws = p.flaws; bytes = p.data.now }

-- The four numbers of a head read leniently.
abbrev pub numbers_of : HeadAsIs → Head
numbers_of head = record { seconds = head.ts_sec; fraction = head.fraction; included = head.incl_len; original = head.orig_len }

-- The packet with this head and these bytes.
abbrev pub packet_with : HeadAsIs → List ℕ → AsIs
packet_with head bytes = record { head = numbers_of head; flaws = head.flaws; bytes = bytes }

-- The packet that strict reading returns if no rule is broken.
abbrev pub strict_of : TsResolution → AsIs → Captured
strict_of r p = record { header = spelled_header r p.head; bytes = p.bytes }

-- `s` is the text of a packet of at most `limit` bytes, read leniently, followed by `rest`.
pub record AsIsText (limit : ℕ) (order : Order) (r : TsResolution) (packet : AsIs) (s rest : List ℕ) : Type 0 where
  pub after : List ℕ
  pub text : RecordHeadText order packet.head s after
  pub below : packet.head.included ≤ limit
  pub flaws_are : packet.flaws ≡ flaws_of r packet.head
  pub data_is : after ≡ packet.bytes ++ rest
  pub whole : length packet.bytes ≡ packet.head.included

-- `s` is the text of a head whose stored length is at most `limit`, read leniently, followed by `rest`.
pub record HeadAsIsText (limit : ℕ) (order : Order) (r : TsResolution) (head : HeadAsIs) (s rest : List ℕ) : Type 0 where
  pub text : RecordHeadText order (numbers_of head) s rest
  pub below : head.incl_len ≤ limit
  pub flaws_are : head.flaws ≡ flaws_of r (numbers_of head)

-- `s` is a head and data that lack `n` bytes.
pub record LacksStored (limit : ℕ) (order : Order) (s : List ℕ) (n : ℕ) : Type 0 where
  pub head : Head
  pub after : List ℕ
  pub text : RecordHeadText order head s after
  pub below : head.included ≤ limit
  pub some : 0 < n
  pub missing : length after + n ≡ head.included

-- `s` begins with a head whose stored length is above the limit, and the fault is V3.
pub record HasLongHead (limit : ℕ) (order : Order) (s : List ℕ) (fault : Fault) : Type 0 where
  pub head : Head
  pub after : List ℕ
  pub text : RecordHeadText order head s after
  pub above : limit < head.included
  pub fault_is : fault ≡ Invalid IncludedTooLong

-- `s` lacks `n` bytes of a packet: of its head, or else of its data.
abbrev pub LacksAsIs : ℕ → Order → List ℕ → ℕ → Type 0
LacksAsIs limit order s n = LacksHead s n ⊎ LacksStored limit order s n

-- The answers of lenient reading where the bytes should begin with a head.
abbrev pub HeadAsIsSays : ℕ → Order → TsResolution → List ℕ → Verdict HeadAsIs → Type 0
HeadAsIsSays limit order r s = Says (λ head rest. HeadAsIsText limit order r head s rest) (LacksHead s) (HasLongHead limit order s)

-- The answers of lenient reading where the bytes should begin with a packet.
abbrev pub AsIsSays : ℕ → Order → TsResolution → List ℕ → Verdict AsIs → Type 0
AsIsSays limit order r s = Says (λ packet rest. AsIsText limit order r packet s rest) (LacksAsIs limit order s) (HasLongHead limit order s)

-- The format of packets read leniently.
unfoldable pub as_is_format : ℕ → Order → TsResolution → Format (Unit {0}) AsIs
as_is_format limit order r = record { says = λ q. AsIsSays limit order r; goes = λ q packet. q; head = λ q. 16 }

-- ---- the same format as a head and what follows it

-- These sixteen bytes are a head with a stored length of at most the limit, or a head with a length above it.
abbrev pub HeadReads : ℕ → Order → List ℕ → HeadReading Head → Type 0
HeadReads limit order b (good head) = RecordHeadText order head b [] × (head.included ≤ limit)
HeadReads limit order b (bad fault) = (head : Head) × RecordHeadText order head b [] × (limit < head.included) × (fault ≡ Invalid IncludedTooLong)

-- These bytes are the data after a head, whatever they are.
abbrev pub DataReads : TsResolution → Head → List ℕ → HeadReading AsIs → Type 0
DataReads r head b (good p) = (p.head ≡ head) × (p.flaws ≡ flaws_of r head) × (p.bytes ≡ b)
DataReads r head b (bad fault) = ⊥

-- The format of packets read leniently, with a head.
abbrev pub headed_as_is : ℕ → Order → TsResolution → Headed (Unit {0}) Head AsIs
headed_as_is limit order r = record {
  head = λ q. 16;
  reads = λ q. HeadReads limit order;
  size = λ head. head.included;
  means = λ q. DataReads r;
  goes = λ q packet. q;
}
