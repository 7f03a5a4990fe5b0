-- The answers of strict reading for bodies that are also read leniently.
use Rattle.std.proofs.Common.{ℕ, List, [], ◌∷◌, Option, Some, None, refl, sym, subst, ◌∙◌}
use Rattle.pcap_core.specs.Answer.{Order, number_in, Verdict, whole, faulty}
use Rattle.pcap_core.specs.Faults.{Fault, Invalid}
use Rattle.pcap_core.specs.Laws.{ExactlyOne}
use Rattle.pcap_core.specs.declared.rules.Rule.{Rule}
use Rattle.pcap_core.specs.declared.rules.Rule.TheVariants.{InterfaceTooShort, EnhancedCut}
use Rattle.pcap_core.specs.Padded.{Behind}
use Rattle.pcap_core.proofs.Padded.{behind_number, behind_both}
use Rattle.pcap_options.specs.Values.{Entry, Kind}
use Rattle.pcap_options.specs.Options.{may_end_with_body, OptionList, ListFault, ListSays}
use Rattle.pcap_options.specs.InterfaceOption.{interface_description}
use Rattle.pcap_blocks.specs.InterfaceDescription.{Interface, InterfaceHead, short, in_options, InterfaceSays}
use Rattle.pcap_blocks.proofs.OneInterface.{interface_one}
use Rattle.pcap_options.specs.SectionOption.{section_header}
use Rattle.pcap_blocks.specs.SectionHeader.{Section, VersionText, SectionFault, SectionSays}
use Rattle.pcap_blocks.specs.SectionHeader as strict_section
use Rattle.pcap_blocks.proofs.OneSection.{section_one}
use Rattle.pcap_blocks.specs.StoredPacket.{Stored, StoredText, StoredFault}
use Rattle.pcap_blocks.specs.StoredPacket as stored
use Rattle.pcap_options.specs.EnhancedOption.{enhanced_packet}
use Rattle.pcap_blocks.specs.EnhancedPacket.{Enhanced, EnhancedFault, EnhancedSays}
use Rattle.pcap_blocks.specs.EnhancedPacket as strict_enhanced
use Rattle.pcap_blocks.proofs.OneEnhanced.{enhanced_one}
use Rattle.pcap_options.specs.PacketOption.{packet_kind}
use Rattle.pcap_blocks.specs.Packet.{PacketBody, PacketBodyFault, PacketBodySays}
use Rattle.pcap_blocks.specs.Packet as strict_packet
use Rattle.pcap_blocks.proofs.OnePacket.{packet_body_one}
use Rattle.pcap_blocks.specs.SimplePacket.{Simple, SimpleFault, SimpleSays}
use Rattle.pcap_blocks.specs.SimplePacket as strict_simple
use Rattle.pcap_blocks.proofs.OneWhole.{simple_one}
use Rattle.pcap_options.specs.StatisticsOption.{interface_statistics}
use Rattle.pcap_blocks.specs.InterfaceStatistics.{Statistics, StatisticsFault, StatisticsSays}
use Rattle.pcap_blocks.specs.InterfaceStatistics as strict_statistics
use Rattle.pcap_blocks.proofs.OneStatistics.{statistics_one}
use Rattle.pcap_blocks.proofs.StoredPackets.{behind_time}
use Rattle.pcap_tolerant_blocks.specs.Flaws.{Said, IfRoom, StrictIs, StrictIsWhere}
use Rattle.pcap_tolerant_blocks.specs.OptionsAsIs.{OptionsAsIs}
use Rattle.pcap_tolerant_blocks.specs.InterfaceAsIs.{InterfaceText}
use Rattle.pcap_tolerant_blocks.specs.SectionAsIs.{SectionText, NoSection, short_section, unnamed}
use Rattle.pcap_tolerant_blocks.specs.StoredAsIs.{WithBytes, NoPacket, no_head, no_bytes}
use Rattle.pcap_tolerant_blocks.specs.EnhancedAsIs.{OfInterface, EnhancedText}
use Rattle.pcap_tolerant_blocks.specs.PacketBlockAsIs.{WithDrops, PacketBlockText}
use Rattle.pcap_tolerant_blocks.specs.SimpleAsIs.{Whole, NoLength, SimpleAsIsText}
use Rattle.pcap_tolerant_blocks.specs.StatisticsAsIs.{AtTime, NoTime, StatisticsAsIsText}
use Rattle.pcap_tolerant_blocks.proofs.StrictLists.{list_there}

-- ---- what bodies share

-- An answer of strict reading that is the one of the law.
abbrev Meant : {V : Type 0} → (Verdict V → Type 0) → List Said → Option V → List ℕ → Type 0
Meant {V} IsSaid flaws value rest = (v : Verdict V) × IsSaid v × StrictIsWhere flaws value rest v

-- It is the only one.
meant : {V : Type 0} (IsSaid : Verdict V → Type 0) (flaws : List Said) (value : Option V) (rest : List ℕ) (v : Verdict V) → ExactlyOne IsSaid → Meant IsSaid flaws value rest → IsSaid v → StrictIsWhere flaws value rest v
meant {V} IsSaid flaws value rest v one t y = subst (λ (w : Verdict V). StrictIsWhere flaws value rest w) (one.only t.0 t.1 ∙ sym (one.only v y)) t.2

-- If there is no room for a body, its rule is the strict fault.
if_room : {V : Type 0} (IsText : V → List Said → List ℕ → List ℕ → Type 0) (NoRoom : List ℕ → Rule → Type 0) (s : List ℕ) (IsSaid : Verdict V → Type 0)
    → ((value : V) (flaws : List Said) (rest : List ℕ) → IsText value flaws s rest → Meant IsSaid flaws (Some value) rest) → ((rule : Rule) → NoRoom s rule → IsSaid (faulty (Invalid rule)))
    → (value : Option V) (flaws : List Said) (rest : List ℕ) → IfRoom IsText NoRoom value flaws s rest → Meant IsSaid flaws value rest
if_room IsText NoRoom s IsSaid there refused None flaws rest x = rw x.2 (faulty (Invalid x.0), refused x.0 x.1, refl)
if_room IsText NoRoom s IsSaid there refused (Some value) flaws rest x = there value flaws rest x

module _ (order : Order) (kind : Kind) where
  by_flaws : {V : Type 0} (IsSaid : Verdict V → Type 0) (value : V) (options : List Entry) (flaws : List Said) (s rest : List ℕ) → (v : Verdict (List Entry)) × ListSays may_end_with_body order kind s v × StrictIs flaws options rest v
      → (OptionList may_end_with_body order kind options s rest → IsSaid (whole value rest)) → ((fault : Fault) → ListFault may_end_with_body order kind s fault → IsSaid (faulty fault)) → Meant IsSaid flaws (Some value) rest
  by_flaws IsSaid value options [] s rest t sound wrong =
      (whole value rest, sound (subst (λ (v : Verdict (List Entry)). ListSays may_end_with_body order kind s v) t.2 t.1), refl)
  by_flaws IsSaid value options (first ∷ others) s rest t sound wrong =
      (faulty first.fault, wrong first.fault (subst (λ (v : Verdict (List Entry)). ListSays may_end_with_body order kind s v) t.2 t.1), refl)

  -- A body that ends in options is whole if they have no flaw, and otherwise has their first flaw.
  options_behind : {V : Type 0} (IsSaid : Verdict V → Type 0) (value : V) (options : List Entry) (flaws : List Said) (s rest : List ℕ) → OptionsAsIs order kind options flaws s rest
      → (OptionList may_end_with_body order kind options s rest → IsSaid (whole value rest)) → ((fault : Fault) → ListFault may_end_with_body order kind s fault → IsSaid (faulty fault)) → Meant IsSaid flaws (Some value) rest
  options_behind IsSaid value options flaws s rest x sound wrong = by_flaws IsSaid value options flaws s rest (list_there order kind options flaws s rest x) sound wrong

-- ---- interfaces

head_behind : (order : Order) (i : Interface) (s rest : List ℕ) → InterfaceHead order i s rest → Behind 8 s rest
head_behind order i s rest h = behind_both (behind_both (behind_number h.link_number_is) (behind_number h.reserved_is)) (behind_number h.snaplen_is)

interface_there : (order : Order) (interface : Option Interface) (flaws : List Said) (s rest : List ℕ) → InterfaceText order interface flaws s rest → Meant (InterfaceSays order s) flaws interface rest
interface_there order None flaws s rest x = rw x.1 (faulty (Invalid InterfaceTooShort), short x.0, refl)
interface_there order (Some i) flaws s rest x =
    options_behind order interface_description (InterfaceSays order s) i i.options flaws x.after_head rest x.options_are (λ list. record { after_head = x.after_head; head = x.head; options_are = list })
    (λ fault stands. in_options fault x.after_head (head_behind order i s x.after_head x.head) stands)

pub interface_strict : (order : Order) (interface : Option Interface) (flaws : List Said) (s rest : List ℕ) (v : Verdict Interface) → InterfaceText order interface flaws s rest → InterfaceSays order s v
    → StrictIsWhere flaws interface rest v
interface_strict order interface flaws s rest v x y = meant (InterfaceSays order s) flaws interface rest v (interface_one order s) (interface_there order interface flaws s rest x) y

-- ---- sections

version_behind : (order : Order) (section : Section) (s rest : List ℕ) → VersionText order section s rest → Behind 12 s rest
version_behind order section s rest h = behind_both (behind_both (behind_number h.major) (behind_number h.minor)) (behind_number h.length_number)

section_there : (section : Section) (flaws : List Said) (s rest : List ℕ) → SectionText section flaws s rest → Meant (SectionSays s) flaws (Some section) rest
section_there section flaws s rest x =
    let order = number_in x.endianness in
    options_behind order section_header (SectionSays s) section section.options flaws x.after.after_version rest x.after.options_are
    (λ list. record { after_magic = x.after_magic; endianness = x.endianness; magic_is = x.magic_is; names = x.names; after = record { after_version = x.after.after_version; version = x.after.version; options_are = list } })
    (λ fault stands. strict_section.after_magic fault section.magic x.after_magic x.endianness x.magic_is x.names
    (record { after_version = x.after.after_version; behind = version_behind order section x.after_magic x.after.after_version x.after.version; in_options = stands }))

pub section_strict : (section : Section) (flaws : List Said) (s rest : List ℕ) (v : Verdict Section) → SectionText section flaws s rest → SectionSays s v → StrictIs flaws section rest v
section_strict section flaws s rest v x y = meant (SectionSays s) flaws (Some section) rest v (section_one s) (section_there section flaws s rest x) y

pub section_refused : (s : List ℕ) (fault : Fault) → NoSection s fault → SectionFault s fault
section_refused s fault (short_section lt) = strict_section.short lt
section_refused s fault (unnamed magic after long number none) = strict_section.no_magic magic after long number none

-- ---- packets with a time, whatever precedes it

-- A body that ends in a stored packet is whole if the packet has no flaw, and otherwise has its first flaw.
stored_behind : (order : Order) (kind : Kind) {V : Type 0} (IsSaid : Verdict V → Type 0) (value : V) (packet : Stored) (flaws : List Said) (s rest : List ℕ) → WithBytes order kind packet flaws s rest
    → (StoredText order kind packet s rest → IsSaid (whole value rest)) → ((fault : Fault) → StoredFault order kind s fault → IsSaid (faulty fault)) → Meant IsSaid flaws (Some value) rest
stored_behind order kind IsSaid value packet flaws s rest x sound wrong =
    options_behind order kind IsSaid value packet.options flaws x.after_bytes rest x.options_are
    (λ list. sound (record { after_head = x.after_head; after_bytes = x.after_bytes; head = x.head; captured = x.captured; padded = x.padded; options_are = list }))
    (λ fault stands. wrong fault (stored.in_options fault packet x.after_head x.after_bytes x.head x.captured x.padded stands))

enhanced_refused : (order : Order) (s : List ℕ) (rule : Rule) → NoPacket order s rule → EnhancedFault order s (Invalid rule)
enhanced_refused order s rule (no_head lt) = strict_enhanced.short lt
enhanced_refused order s rule (no_bytes after behind x) = strict_enhanced.in_packet (Invalid EnhancedCut) after behind (stored.cut x.packet x.after x.head x.missing)

enhanced_there : (order : Order) (s : List ℕ) (enhanced : Enhanced) (flaws : List Said) (rest : List ℕ) → OfInterface order enhanced flaws s rest → Meant (EnhancedSays order s) flaws (Some enhanced) rest
enhanced_there order s enhanced flaws rest x =
    stored_behind order enhanced_packet (EnhancedSays order s) enhanced enhanced.packet flaws x.after_interface rest x.packet_is
    (λ text. record { after_interface = x.after_interface; interface_is = x.interface_is; packet_is = text }) (λ fault stands. strict_enhanced.in_packet fault x.after_interface (behind_number x.interface_is) stands)

pub enhanced_strict : (order : Order) (enhanced : Option Enhanced) (flaws : List Said) (s rest : List ℕ) (v : Verdict Enhanced) → EnhancedText order enhanced flaws s rest → EnhancedSays order s v → StrictIsWhere flaws enhanced rest v
enhanced_strict order enhanced flaws s rest v x y =
    meant (EnhancedSays order s) flaws enhanced rest v (enhanced_one order s) (if_room (OfInterface order) (NoPacket order) s (EnhancedSays order s) (enhanced_there order s) (enhanced_refused order s) enhanced flaws rest x) y

packet_refused : (order : Order) (s : List ℕ) (rule : Rule) → NoPacket order s rule → PacketBodyFault order s (Invalid rule)
packet_refused order s rule (no_head lt) = strict_packet.short lt
packet_refused order s rule (no_bytes after behind x) = strict_packet.in_packet (Invalid EnhancedCut) after behind (stored.cut x.packet x.after x.head x.missing)

packet_there : (order : Order) (s : List ℕ) (body : PacketBody) (flaws : List Said) (rest : List ℕ) → WithDrops order body flaws s rest → Meant (PacketBodySays order s) flaws (Some body) rest
packet_there order s body flaws rest x =
    stored_behind order packet_kind (PacketBodySays order s) body body.packet flaws x.after_drops rest x.packet_is
    (λ text. record { after_interface = x.after_interface; after_drops = x.after_drops; interface_is = x.interface_is; drops_are = x.drops_are; packet_is = text })
    (λ fault stands. strict_packet.in_packet fault x.after_drops (behind_both (behind_number x.interface_is) (behind_number x.drops_are)) stands)

pub packet_strict : (order : Order) (body : Option PacketBody) (flaws : List Said) (s rest : List ℕ) (v : Verdict PacketBody) → PacketBlockText order body flaws s rest → PacketBodySays order s v → StrictIsWhere flaws body rest v
packet_strict order body flaws s rest v x y =
    meant (PacketBodySays order s) flaws body rest v (packet_body_one order s) (if_room (WithDrops order) (NoPacket order) s (PacketBodySays order s) (packet_there order s) (packet_refused order s) body flaws rest x) y

-- ---- simple packets

simple_refused : (s : List ℕ) (rule : Rule) → NoLength s rule → SimpleFault s (Invalid rule)
simple_refused s rule x = rw x.0 (strict_simple.short x.1)

simple_there : (order : Order) (s : List ℕ) (simple : Simple) (flaws : List Said) (rest : List ℕ) → Whole order simple flaws s rest → Meant (SimpleSays order s) flaws (Some simple) rest
simple_there order s simple flaws rest x = rw x.1 (whole simple rest, x.0, refl)

pub simple_strict : (order : Order) (simple : Option Simple) (flaws : List Said) (s rest : List ℕ) (v : Verdict Simple) → SimpleAsIsText order simple flaws s rest → SimpleSays order s v → StrictIsWhere flaws simple rest v
simple_strict order simple flaws s rest v x y =
    meant (SimpleSays order s) flaws simple rest v (simple_one order s) (if_room (Whole order) NoLength s (SimpleSays order s) (simple_there order s) (simple_refused s) simple flaws rest x) y

-- ---- statistics

statistics_refused : (order : Order) (s : List ℕ) (rule : Rule) → NoTime s rule → StatisticsFault order s (Invalid rule)
statistics_refused order s rule x = rw x.0 (strict_statistics.short x.1)

statistics_there : (order : Order) (s : List ℕ) (statistics : Statistics) (flaws : List Said) (rest : List ℕ) → AtTime order statistics flaws s rest → Meant (StatisticsSays order s) flaws (Some statistics) rest
statistics_there order s statistics flaws rest x =
    options_behind order interface_statistics (StatisticsSays order s) statistics statistics.options flaws x.after_time rest x.options_are
    (λ list. record { after_interface = x.after_interface; after_time = x.after_time; interface_is = x.interface_is; time_is = x.time_is; options_are = list })
    (λ fault stands. strict_statistics.in_options fault x.after_time (behind_both (behind_number x.interface_is) (behind_time x.time_is)) stands)

pub statistics_strict : (order : Order) (statistics : Option Statistics) (flaws : List Said) (s rest : List ℕ) (v : Verdict Statistics) → StatisticsAsIsText order statistics flaws s rest → StatisticsSays order s v
    → StrictIsWhere flaws statistics rest v
statistics_strict order statistics flaws s rest v x y =
    meant (StatisticsSays order s) flaws statistics rest v (statistics_one order s) (if_room (AtTime order) NoTime s (StatisticsSays order s) (statistics_there order s) (statistics_refused order s) statistics flaws rest x) y
