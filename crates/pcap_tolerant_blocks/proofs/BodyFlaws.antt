-- The flaws of an interface or a section are those of the options behind its fixed fields.
use Rattle.std.proofs.Common.{◌≡◌, ◌<◌, ◌≤◌, ℕ, List, Option, Some, None, drop, length, sym, ap, subst, ◌∙◌, arith, length-append}
use Rattle.pcap_core.specs.declared.common.Endianness.{Endianness}
use Rattle.pcap_core.specs.declared.rules.Rule.TheVariants.{InterfaceTooShort}
use Rattle.pcap_core.specs.Answer.{Order, number_in}
use Rattle.pcap_core.specs.Padded.{Behind}
use Rattle.pcap_core.proofs.Padded.{behind_both, behind_number}
use Rattle.pcap_core.proofs.Texts.{rest_of}
use Rattle.pcap_options.specs.InterfaceOption.{interface_description}
use Rattle.pcap_options.specs.SectionOption.{section_header}
use Rattle.pcap_blocks.specs.InterfaceDescription.{Interface}
use Rattle.pcap_blocks.specs.SectionHeader.{Section, magic_order}
use Rattle.pcap_tolerant_blocks.specs.Flaws.{Said, alone}
use Rattle.pcap_tolerant_blocks.specs.InterfaceAsIs.{WithHead, InterfaceText}
use Rattle.pcap_tolerant_blocks.specs.NextFlaw.{HasFlaws}
use Rattle.pcap_tolerant_blocks.specs.OptionsAsIs.{OptionsAsIs}
use Rattle.pcap_tolerant_blocks.specs.SectionAsIs.{SectionText}

dropped : (n : ℕ) (s rest : List ℕ) → Behind n s rest → rest ≡ drop n s
dropped n s rest b = sym (rest_of s b.bytes rest n b.text (omega (arith, ap length b.text, length-append b.bytes rest, b.length_is)))

behind_head : (order : Order) (interface : Interface) (flaws : List Said) (s rest : List ℕ) (text : WithHead order interface flaws s rest) → Behind 8 s text.after_head
behind_head order interface flaws s rest text =
    behind_both (behind_number text.head.link_number_is) (behind_both (behind_number text.head.reserved_is) (behind_number text.head.snaplen_is))

pub interface_flaws : (order : Order) (interface : Option Interface) (flaws : List Said) (s rest : List ℕ) → 8 ≤ length s → InterfaceText order interface flaws s rest → HasFlaws order interface_description flaws (drop 8 s)
interface_flaws order None flaws s rest long text = absurd (omega (arith, long, text.0))
interface_flaws order (Some interface) flaws s rest long text =
    let is = dropped 8 s text.after_head (behind_head order interface flaws s rest text) in
    record { options = interface.options; rest = rest; are = subst (λ (l : List ℕ). OptionsAsIs order interface_description interface.options flaws l rest) is text.options_are }

pub short_interface : (order : Order) (interface : Option Interface) (flaws : List Said) (s rest : List ℕ) → length s < 8 → InterfaceText order interface flaws s rest → flaws ≡ alone InterfaceTooShort
short_interface order None flaws s rest short text = text.1
short_interface order (Some interface) flaws s rest short text =
    let b = behind_head order interface flaws s rest text in
    absurd (omega (arith, short, ap length b.text, length-append b.bytes text.after_head, b.length_is))

same_order : (e f : Endianness) → Some e ≡ Some f → e ≡ f
same_order e f same = cc

behind_version : (section : Section) (flaws : List Said) (s rest : List ℕ) (text : SectionText section flaws s rest) → Behind 16 s text.after.after_version
behind_version section flaws s rest text =
    let version = text.after.version in
    behind_both (behind_number text.magic_is) (behind_both (behind_number version.major) (behind_both (behind_number version.minor) (behind_number version.length_number)))

-- A section has the sixteen bytes before its options.
pub section_long : (section : Section) (flaws : List Said) (s rest : List ℕ) → SectionText section flaws s rest → 16 ≤ length s
section_long section flaws s rest text =
    let b = behind_version section flaws s rest text in
    omega (arith, ap length b.text, length-append b.bytes text.after.after_version, b.length_is)

pub section_flaws : (section : Section) (flaws : List Said) (s rest : List ℕ) (e : Endianness) → magic_order section.magic ≡ Some e → SectionText section flaws s rest → HasFlaws (number_in e) section_header flaws (drop 16 s)
section_flaws section flaws s rest e is text =
    let behind = behind_version section flaws s rest text in
    let own : text.endianness ≡ e = same_order text.endianness e (sym text.names ∙ is) in
    let here = subst (λ (l : List ℕ). OptionsAsIs (number_in text.endianness) section_header section.options flaws l rest) (dropped 16 s text.after.after_version behind) text.after.options_are in
    record { options = section.options; rest = rest; are = subst (λ (f : Endianness). OptionsAsIs (number_in f) section_header section.options flaws (drop 16 s) rest) own here }
