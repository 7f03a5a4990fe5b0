-- Enhanced packets whose options are all skipped.
use Rattle.std.proofs.Common.{ℕ, List, [], refl, sym, subst, ◌∙◌}
use Rattle.std.specs.Prelude.{All}
use Rattle.pcap_core.specs.Answer.{Order, Verdict, whole, lacks, faulty}
use Rattle.pcap_core.proofs.Padded.{behind_number}
use Rattle.pcap_core.proofs.Verdicts.{whole_no_fault, whole_same}
use Rattle.pcap_options.specs.EnhancedOption.{enhanced_packet}
use Rattle.pcap_options.specs.Options.{ListSays, may_end_with_body}
use Rattle.pcap_options.specs.Values.{Entry}
use Rattle.pcap_options.proofs.OneList.{list_one}
use Rattle.pcap_blocks.specs.EnhancedPacket.{Enhanced, in_packet}
use Rattle.pcap_blocks.specs.StoredPacket.{in_options}
use Rattle.pcap_blocks.proofs.OneEnhanced.{enhanced_one}
use Rattle.pcap_ng.specs.Enhanced.{IsRefused, PartsText, enhanced_with}
use Rattle.pcap_ng.specs.declared.pcapng.enhanced.EnhancedParts.{EnhancedParts}
use Rattle.pcap_ng.proofs.EnhancedFrames.{parts_read}
use Rattle.pcapfile_values.specs.Bodies.{NotPlain}
use Rattle.pcapfile_values.specs.EnhancedOptions.{IsPassed, NoOptions}

-- A body that is refused is no enhanced packet with skipped options.
pub refused_not_plain : (order : Order) (body : List ℕ) → IsRefused order body → NotPlain order body
refused_not_plain order body refused packet rest plain =
    let one = enhanced_one order body in
    whole_no_fault packet rest refused.0 (one.only (whole packet rest) plain.text ∙ sym (one.only (faulty refused.0) refused.1))

-- A body is no such packet if the bytes after its data are no such list of options, whatever the verdict on that list is.
told_not_plain : (order : Order) (parts : EnhancedParts) (body : List ℕ) → PartsText order parts body → NoOptions order parts.options.now
    → (verdict : Verdict (List Entry)) → ListSays may_end_with_body order enhanced_packet parts.options.now verdict → NotPlain order body
told_not_plain order parts body text none (whole options rest) list = λ packet behind plain.
    let one = enhanced_one order body in
    let read = enhanced_with parts options in
    let same = whole_same packet read behind rest (one.only (whole packet behind) plain.text ∙ sym (one.only (whole read rest) (parts_read order parts body text options rest list))) in
    let passed = subst (λ (p : Enhanced). All (λ option. IsPassed option.code) p.packet.options) same.0 plain.passed in
    none options rest (record { list = list; passed = passed })
told_not_plain order parts body text none (lacks n) list = absurd list
told_not_plain order parts body text none (faulty fault) list =
    let stored = in_options fault (enhanced_with parts []).packet text.after_head parts.options.now text.head refl text.padded list in
    refused_not_plain order body (fault, in_packet fault text.after_interface (behind_number text.interface_is) stored)

-- A body is no such packet if the bytes after its data are no such list of options.
pub options_not_plain : (order : Order) (parts : EnhancedParts) (body : List ℕ) → PartsText order parts body → NoOptions order parts.options.now → NotPlain order body
options_not_plain order parts body text none =
    let one = list_one may_end_with_body order enhanced_packet parts.options.now in
    told_not_plain order parts body text none one.value one.holds
