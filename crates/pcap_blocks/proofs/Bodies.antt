-- Lemmas for the calls that read bodies.
use Rattle.std.proofs.Common.{◌≡◌, ◌≢◌, ℕ, List, refl, false, Ok, Err, Some, None, Result}
use Rattle.std.specs.Prelude.{◌==◌}
use Rattle.std.specs.Borrow.{Bor}
use Rattle.std.proofs.lemmas.Bool.{ne_eqb}
use Rattle.byteorder.specs.Endian.{big_number}
use Rattle.pcap_core.specs.declared.common.Endianness.{Endianness}
use Rattle.pcap_core.specs.declared.common.Endianness.TheVariants.{Big, Little}
use Rattle.pcap_core.specs.Answer.{Order, Number, number_in}
use Rattle.pcap_core.specs.Faults.{Fault}
use Rattle.pcap_options.specs.declared.refusal.Refusal.{Refusal}
use Rattle.pcap_blocks.specs.declared.section_header.SectionHeaderBlock.{SectionHeaderBlock}
use Rattle.pcap_options.specs.Refusal.{FindsWhere}
use Rattle.pcap_core.specs.Padded.{Behind}
use Rattle.pcap_options.specs.Options.{may_end_with_body, ListFault}
use Rattle.pcap_options.specs.InterfaceOption.{interface_description}
use Rattle.pcap_blocks.specs.InterfaceDescription.{InterfaceFault, in_options}
use Rattle.pcap_options.specs.SectionOption.{section_header}
use Rattle.pcap_blocks.specs.SectionHeader.{magic_order, AfterMagicFault, AfterMagicSays, AfterMagicMayGrow, SectionFault, after_magic, SectionSays, SectionMayGrow, section_of}
use Rattle.pcap_options.proofs.Refusals.{denies_more}
use Rattle.pcap_options.specs.Record.{NameRecord}
use Rattle.pcap_options.specs.Records.{RecordsText}
use Rattle.pcap_options.specs.NameOption.{name_resolution}
use Rattle.pcap_blocks.specs.NameResolution.{ResolutionFault}
use Rattle.pcap_blocks.specs.NameResolution as names

pub interface_fails : (order : Order) (s after : List ℕ) → Behind 8 s after → (f : Fault) → ListFault may_end_with_body order interface_description after f → InterfaceFault order s f
interface_fails order s after behind f fault = in_options f after behind fault

pub after_magic_fails : (order : Order) (s after : List ℕ) → Behind 12 s after → (f : Fault) → ListFault may_end_with_body order section_header after f → AfterMagicFault order s f
after_magic_fails order s after behind f fault = record { after_version = after; behind = behind; in_options = fault }

section_fails : (magic : ℕ) (endianness : Endianness) (s after : List ℕ) → Number big_number 4 magic s after → magic_order magic ≡ Some endianness → (f : Fault) → AfterMagicFault (number_in endianness) after f → SectionFault s f
section_fails magic endianness s after is names f fault = after_magic f magic after endianness is names fault

section_grows : (magic : ℕ) (endianness : Endianness) (s after : List ℕ) → Number big_number 4 magic s after → magic_order magic ≡ Some endianness → AfterMagicMayGrow (number_in endianness) after → SectionMayGrow s
section_grows magic endianness s after is names grows = record { magic = magic; after_magic = after; endianness = endianness; magic_is = is; names = names; grows = grows }

-- A result that agrees with the verdict after the magic number agrees with the verdict on the whole body.
pub section_tells : (magic : ℕ) (endianness : Endianness) (s after : List ℕ) → Number big_number 4 magic s after → magic_order magic ≡ Some endianness → (r : Result (Bor (List ℕ) × SectionHeaderBlock) Refusal)
    → FindsWhere (AfterMagicMayGrow (number_in endianness) after) (AfterMagicSays (number_in endianness) magic after) section_of r → FindsWhere (SectionMayGrow s) (SectionSays s) section_of r
section_tells magic endianness s after is names (Ok x) tells =
    record { after_magic = after; endianness = endianness; magic_is = rw tells.0 is; names = rw tells.0 names; after = tells.1 }
section_tells magic endianness s after is names (Err e) tells = denies_more e (section_grows magic endianness s after is names) (section_fails magic endianness s after is names) tells

pub big_magic : (magic : ℕ) → magic ≡ 0x1A2B3C4D → magic_order magic ≡ Some Big
unfolding magic_order
big_magic magic is = rw is refl

pub little_magic : (magic : ℕ) → magic ≡ 0x4D3C2B1A → magic_order magic ≡ Some Little
unfolding magic_order
little_magic magic is = rw is refl

pub no_magic_order : (magic : ℕ) → magic ≢ 0x1A2B3C4D → magic ≢ 0x4D3C2B1A → magic_order magic ≡ None
unfolding magic_order
no_magic_order magic a b =
    let x : (magic == 0x1A2B3C4D) ≡ false = ne_eqb _ _ a in
    let y : (magic == 0x4D3C2B1A) ≡ false = ne_eqb _ _ b in
    rw (x, y) refl

pub resolution_options : (order : Order) (s : List ℕ) (records : List NameRecord) (after : List ℕ) → RecordsText order records s after → (f : Fault) → ListFault may_end_with_body order name_resolution after f → ResolutionFault order s f
resolution_options order s records after are f fault = names.in_options records after are fault
