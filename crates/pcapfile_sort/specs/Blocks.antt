-- Blocks of PcapNg captures with their ranks: by section, then blocks without a packet before packets, then packets by time.
use Rattle.std.specs.Prelude.{⊤, ◌≡◌, ◌<◌, ◌≤◌, ◌+◌, ◌*◌, ◌^◌, ◌⊎◌, ◌+ℤ◌, pos, ℕ, List, [], ◌∷◌, length, Bool, Option, None, Some}
use Rattle.std.specs.Io.KnownBytes.{Consumes, IsAtEnd}
use Rattle.pcap_core.specs.declared.common.Endianness.{Endianness}
use Rattle.pcap_core.specs.declared.common.Endianness.TheVariants.{Big, Little}
use Rattle.pcap_core.specs.declared.errors.PcapError.{PcapError}
use Rattle.pcap_core.specs.Answer.{whole, lacks, faulty, Refuses}
use Rattle.pcap_items.specs.Reading.{HasCause}
use Rattle.pcap_times.specs.declared.clock.Timestamp.{Timestamp}
use Rattle.pcap_blocks.specs.InterfaceDescription.{Interface}
use Rattle.pcap_blocks.specs.ParsedBlock.{Body, SectionBody}
use Rattle.pcap_ng.specs.Blocks.{Item, block_format}
use Rattle.pcap_ng.specs.Bodies.{GrowsInBody, SaysOfBody}
use Rattle.pcap_ng.specs.Frames.{Framed, FrameSays}
use Rattle.pcap_ng.specs.Opening.{RefusesOpening}
use Rattle.pcap_ng.specs.State.{State, interfaces_at, opening}
use Rattle.pcapfile_run.specs.BlockPackets.{InBlock, IsTimeIn, packet_in}
use Rattle.pcapfile_sort.specs.Ranked.{Ranked, texts_of}
use Rattle.pcapfile_sort.specs.Sortable.{Sortable}

-- The number of a packet's time: 1 if there is none, or else 2 and the nanoseconds since 2^63 seconds before 1970.
abbrev pub IsTimeNumber : Option Timestamp → ℕ → Type 0
IsTimeNumber None n = n ≡ 1
IsTimeNumber (Some time) n = (seconds : ℕ) × (pos seconds ≡ time.seconds +ℤ pos (2 ^ 63)) × (n ≡ 2 + (seconds * 10 ^ 9 + time.nanoseconds))

-- The nanoseconds of a time, if there is one, are less than a second.
abbrev pub IsWithinSecond : Option Timestamp → Type 0
IsWithinSecond None = ⊤
IsWithinSecond (Some time) = time.nanoseconds < 10 ^ 9

-- The number of a block within its section: 0 without a packet, or else that of the packet's time under these interfaces.
abbrev pub IsNumberIn : List Interface → Option InBlock → ℕ → Type 0
IsNumberIn interfaces None n = n ≡ 0
IsNumberIn interfaces (Some packet) n = (time : Option Timestamp) × IsTimeIn interfaces packet.interface packet.units time × IsTimeNumber time n

-- How many sections there are with this block, after this many.
abbrev pub sections_with : Body → ℕ → ℕ
sections_with (SectionBody section) before = before + 1
sections_with _ before = before

-- The rank of a block of this number in the section that is this one of its capture: no number within a section is 2^95 or more.
abbrev pub rank_in : ℕ → ℕ → ℕ
rank_in sections number = sections * 2 ^ 95 + number

-- The rank of a block with a well-formed body, before which there are so many sections, and with it so many.
pub record IsRankOf (item : Item) (before after rank : ℕ) : Type 0 where
  pub body : Body
  pub rest : List ℕ
  pub says : SaysOfBody item.block (whole body rest)
  pub sections : after ≡ sections_with body before
  pub number : ℕ
  pub number_is : IsNumberIn (interfaces_at item.after) (packet_in (interfaces_at item.after) body) number
  pub rank_is : rank ≡ rank_in after number

-- These records are blocks one after another with their ranks, and lead from one state and count of sections to another.
abbrev pub AreBlocks : State → ℕ → List Ranked → State → ℕ → Type 0
AreBlocks q before [] next after = (next ≡ q) × (after ≡ before)
AreBlocks q before (ranked ∷ others) next after =
    (item : Item) × (sections : ℕ) × block_format.says q ranked.text (whole item []) × IsRankOf item before sections ranked.rank × AreBlocks item.after sections others next after

-- The capture begins with these blocks, and the rest follows them. Behind them this state is in force, and there were so many sections.
pub record BeginsWithBlocks (records : List Ranked) (next : State) (sections : ℕ) (capture rest : Option (List ℕ)) : Type 0 where
  pub blocks : AreBlocks opening 0 records next sections
  pub took : Consumes capture rest (texts_of records)

-- The capture is blocks of so many sections, and nothing more.
pub record HasSections (capture : Option (List ℕ)) (sections : ℕ) : Type 0 where
  pub records : List Ranked
  pub next : State
  pub rest : Option (List ℕ)
  pub begins : BeginsWithBlocks records next sections capture rest
  pub at_end : IsAtEnd rest

-- The bytes are exactly one block in this byte order.
abbrev pub IsBlockIn : Endianness → List ℕ → Type 0
IsBlockIn order text = (block : Framed) × FrameSays order text (whole block [])

-- The bytes are exactly one block in one of the two byte orders.
abbrev pub IsBlock : List ℕ → Type 0
IsBlock text = IsBlockIn Little text ⊎ IsBlockIn Big text

-- The body of a block is malformed, or there is no memory for it.
abbrev pub RefusesParsing : Framed → PcapError → Type 0
RefusesParsing block e = Refuses (GrowsInBody block) (λ n. SaysOfBody block (lacks n)) (λ fault. SaysOfBody block (faulty fault)) e

-- The next block has a body that is refused with this error.
pub record RefusesBody (q : State) (rest : Option (List ℕ)) (e : PcapError) : Type 0 where
  pub item : Item
  pub text : List ℕ
  pub behind : Option (List ℕ)
  pub said : block_format.says q text (whole item []) × Consumes rest behind text
  pub refused : RefusesParsing item.block e

-- The next block or its body is refused with an error, or a read failed.
abbrev pub RefusesNext : State → Option (List ℕ) → Bool → PcapError → Type 0
RefusesNext q rest failed e = HasCause (block_format.says q) rest failed e ⊎ RefusesBody q rest e

-- Behind these blocks, the rest is refused with an error, or a read failed.
pub record RefusesBlock (records : List Ranked) (rest : Option (List ℕ)) (failed : Bool) (e : PcapError) : Type 0 where
  pub next : State
  pub sections : ℕ
  pub blocks : AreBlocks opening 0 records next sections
  pub cause : RefusesNext next rest failed e

-- These blocks have 2^64 bytes or more, or 2^33 sections or more.
pub record AreTooManyBlocks (records : List Ranked) : Type 0 where
  pub next : State
  pub sections : ℕ
  pub blocks : AreBlocks opening 0 records next sections
  pub many : (2 ^ 64 ≤ length (texts_of records)) ⊎ (2 ^ 33 ≤ sections)

-- PcapNg captures: blocks with well-formed bodies, and their ranks. The second pass checks that it reads one block.
abbrev pub block_captures : Sortable
block_captures = record {
  Opening = Unit {0};
  lead = λ none. [];
  Is = λ none ranked. IsBlock ranked.text;
  Begins = λ none records capture rest. (next : State) × (sections : ℕ) × BeginsWithBlocks records next sections capture rest;
  RefusesRest = λ none. RefusesBlock;
  AreTooMany = λ none. AreTooManyBlocks;
  RefusesOpening = RefusesOpening;
}
