-- What the calls return that find and read options ('Options').
use Rattle.std.specs.Prelude.{◌≡◌, ◌≢◌, ◌<◌, ◌⊎◌, ℕ, ℤ, pos, List, [], length, Bool, true, false, Option, Some, None, Result, Ok, Err}
use Rattle.std.specs.Borrow.{Bor}
use Rattle.pcap_core.specs.declared.common.Endianness.{Endianness}
use Rattle.pcap_core.specs.declared.errors.PcapError.{PcapError}
use Rattle.pcap_core.specs.declared.rules.Rule.{Rule}
use Rattle.pcap_core.specs.declared.rules.Rule.TheVariants.{SectionTooShort, InterfaceTooShort, StatisticsTooShort, EnhancedTooShort, EnhancedCut}
use Rattle.pcap_core.specs.Answer.{Order, number_in, Verdict, whole, faulty, Says}
use Rattle.pcap_core.specs.Faults.{Fault, Invalid, Shows}
use Rattle.pcap_core.specs.Padded.{Padded, Behind, up_to_4}
use Rattle.pcap_blocks.specs.declared.block_type.BlockType.{BlockType}
use Rattle.pcap_blocks.specs.declared.block_type.BlockType.TheVariants as types
use Rattle.pcap_blocks.specs.BlockType.{block_type}
use Rattle.pcap_options.specs.Records.{RecordsText, RecordsFault}
use Rattle.pcap_options.specs.Options.{OptionText, EndMark, OptionSays}
use Rattle.pcap_options.specs.Record.{NameRecord}
use Rattle.pcap_blocks.specs.StoredPacket.{Stored, StoredHead}
use Rattle.pcap_options.specs.Values.{Entry, Unknown}
use Rattle.pcap_raw_options.specs.UpTo.{no_kind}
use Rattle.pcapfile_values.specs.declared.blocks.PcapfileBlock.{PcapfileBlock}
use Rattle.pcapfile_values.specs.declared.shown.PcapfileBytes.{PcapfileBytes}
use Rattle.pcapfile_values.specs.Refusals.{TellsRefusal}
use Rattle.pcapfile_c.specs.declared.options.PcapfileOption.{PcapfileOption}
use Rattle.pcapfile_c.specs.Readers.{Reader, Target}

-- The option that a struct shows: its code, and its value without an interpretation.
abbrev pub option_shown : PcapfileOption → Entry
option_shown shown = record { code = shown.code; value = Unknown (length shown.value.now) shown.value.now }

-- The list of options ends here, with its end mark or because no byte is left.
abbrev pub IsOverAt : Order → List ℕ → Type 0
IsOverAt order s = (s ≡ []) ⊎ ((rest : List ℕ) × EndMark order s rest)

-- The result of reading the option at the front of bytes: the option and what follows it, or the end of the list.
abbrev pub OptionTells : Order → List ℕ → Result (Option (Bor (List ℕ) × PcapfileOption)) PcapError → Type 0
OptionTells order s (Ok (Some (rest, shown))) = OptionText order no_kind (option_shown shown) s rest.now
OptionTells order s (Ok None) = IsOverAt order s
OptionTells order s (Err e) = (s ≢ []) × Shows (λ fault. OptionSays order no_kind s (faulty fault)) e

-- Status 0: the left bytes begin with an option, the struct shows it, and the rest is left. Status 8: the list ends here. The error is
-- unchanged under both. Another status: the option is refused, and the left bytes and the struct are unchanged.
abbrev pub TakesOption : Endianness → Reader PcapfileBytes PcapfileOption → Reader PcapfileBytes PcapfileOption → ℤ → Type 0
TakesOption e old new status =
    ((status ≡ pos 0) × (new.error ≡ old.error) × OptionText (number_in e) no_kind (option_shown new.value) old.left.bytes.now new.left.bytes.now)
    ⊎ (((status ≡ pos 8) × (new.error ≡ old.error) × (new.left ≡ old.left) × (new.value ≡ old.value) × IsOverAt (number_in e) old.left.bytes.now)
    ⊎ ((new.left ≡ old.left) × (new.value ≡ old.value) × (old.left.bytes.now ≢ []) × TellsRefusal (OptionSays (number_in e) no_kind old.left.bytes.now) new.error status))

-- The verdict on a body whose options follow its first n bytes: what follows these, or that the body is too short.
abbrev pub FixedSays : ℕ → Rule → List ℕ → Verdict (Unit {0}) → Type 0
FixedSays n too_short s = Says (λ nothing rest. Behind n s rest) (λ lack. ⊥) (λ fault. (fault ≡ Invalid too_short) × (length s < n))

-- PacketText order s rest: `s` is an interface number, the time and the lengths of a packet, its bytes with their padding, and then
-- `rest`.
pub record PacketText (order : Order) (s rest : List ℕ) : Type 0 where
  pub packet : Stored
  pub after_interface : List ℕ
  pub after_head : List ℕ
  pub interface : Behind 4 s after_interface
  pub head : StoredHead order packet after_interface after_head
  pub captured : length packet.bytes ≡ packet.captured_len
  pub padded : Padded packet.bytes after_head rest

-- The first fault of a packet's body before its options.
pub data PacketFault (order : Order) (s : List ℕ) : Fault → Type 0 where
  short : length s < 20 → PacketFault order s (Invalid EnhancedTooShort)
  cut : (packet : Stored) (after_interface after_head : List ℕ) → Behind 4 s after_interface → StoredHead order packet after_interface after_head
      → length after_head < up_to_4 packet.captured_len → PacketFault order s (Invalid EnhancedCut)

-- The verdict on a packet's body up to its options.
abbrev pub PacketSays : Order → List ℕ → Verdict (Unit {0}) → Type 0
PacketSays order s = Says (λ nothing rest. PacketText order s rest) (λ lack. ⊥) (PacketFault order s)

-- The verdict on a name resolution body up to its options, which follow the end of the records.
abbrev pub NamesSay : Order → List ℕ → Verdict (Unit {0}) → Type 0
NamesSay order s = Says (λ nothing rest. (records : List NameRecord) × RecordsText order records s rest) (λ lack. ⊥) (RecordsFault order s)

-- Bodies of this type have options.
abbrev pub has_options : BlockType → Bool
has_options types.SimplePacket = false
has_options types.SystemdJournalExport = false
has_options (types.Unknown n) = false
has_options _ = true

-- The verdict on the body of a block of this type up to its options: they begin at the rest, or there is a fault before them.
abbrev pub OptionsSay : Order → BlockType → List ℕ → Verdict (Unit {0}) → Type 0
OptionsSay order types.SectionHeader s = FixedSays 16 SectionTooShort s
OptionsSay order types.InterfaceDescription s = FixedSays 8 InterfaceTooShort s
OptionsSay order types.Packet s = PacketSays order s
OptionsSay order types.SimplePacket s = λ verdict. ⊥
OptionsSay order types.NameResolution s = NamesSay order s
OptionsSay order types.InterfaceStatistics s = FixedSays 12 StatisticsTooShort s
OptionsSay order types.EnhancedPacket s = PacketSays order s
OptionsSay order types.SystemdJournalExport s = λ verdict. ⊥
OptionsSay order (types.Unknown n) s = λ verdict. ⊥

-- The result of a search for where something begins in bytes: the rest, or the reason why there is none.
abbrev pub BeginsTells : (Verdict (Unit {0}) → Type 0) → Result (Bor (List ℕ)) PcapError → Type 0
BeginsTells IsSaid (Ok rest) = IsSaid (whole tt rest.now)
BeginsTells IsSaid (Err e) = Shows (λ fault. IsSaid (faulty fault)) e

-- The result of skipping the first n bytes of a body.
abbrev pub FixedTells : ℕ → Rule → List ℕ → Result (Bor (List ℕ)) PcapError → Type 0
FixedTells n too_short s = BeginsTells (FixedSays n too_short s)

-- The result of skipping a packet's bytes and their padding.
abbrev pub PacketTells : Order → List ℕ → Result (Bor (List ℕ)) PcapError → Type 0
PacketTells order s = BeginsTells (PacketSays order s)

-- The result of a search for the options in the body of a block of this type, which may have none.
abbrev pub OptionsTell : Order → BlockType → List ℕ → Result (Option (Bor (List ℕ))) PcapError → Type 0
OptionsTell order type s (Ok (Some options)) = OptionsSay order type s (whole tt options.now)
OptionsTell order type s (Ok None) = has_options type ≡ false
OptionsTell order type s (Err e) = Shows (λ fault. OptionsSay order type s (faulty fault)) e

-- Status 0: the options of the block begin at the shown bytes. Status 8: blocks of this type have none, and the shown bytes are
-- unchanged. The error is unchanged under both. Another status: there is a fault before the options, and the shown bytes are unchanged.
abbrev pub FindsOptions : Endianness → PcapfileBlock → Target PcapfileBytes → Target PcapfileBytes → ℤ → Type 0
FindsOptions e block old new status =
    let IsSaid = OptionsSay (number_in e) (block_type block.type_) block.body.now in
    ((status ≡ pos 0) × (new.error ≡ old.error) × IsSaid (whole tt new.value.bytes.now))
    ⊎ (((status ≡ pos 8) × (new.error ≡ old.error) × (new.value ≡ old.value) × (has_options (block_type block.type_) ≡ false))
    ⊎ ((new.value ≡ old.value) × TellsRefusal IsSaid new.error status))
