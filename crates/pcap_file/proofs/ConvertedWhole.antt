-- A classic capture that is accepted whole is converted whole.
use Rattle.std.proofs.Common.{◌≡◌, ◌≤◌, ◌<◌, ◌^◌, ℕ, zero, suc, List, [], ◌∷◌, length, refl, ap, sym, ◌∙◌, subst, arith, Some, None, ◌⊎◌, inl, inr}
use Rattle.std.specs.Prelude.{Any, Option, IfSome}
use Rattle.std.specs.Option.{IsSomeAnd}
use Rattle.std.specs.Io.KnownBytes.{Appends}
use Rattle.std.proofs.lemmas.Bool.{true≢false}
use Rattle.pcap_core.specs.declared.common.Endianness.TheVariants.{Little}
use Rattle.pcap_core.specs.declared.errors.PcapError.{PcapError}
use Rattle.pcap_core.specs.declared.errors.PcapError.TheVariants as errors
use Rattle.pcap_core.specs.Answer.{number_in, whole}
use Rattle.pcap_core.specs.Codec.{number_bytes}
use Rattle.pcap_core.specs.Errors.{IsMemory}
use Rattle.pcap_core.specs.Link.{IsPlain, link_number}
use Rattle.pcap_items.specs.Reading.{Takes}
use Rattle.pcap_items.specs.Copying.{each_written}
use Rattle.pcap_items.proofs.Accepted.{copies_accepted}
use Rattle.pcap_core.proofs.Verdicts.{whole_same}
use Rattle.pcap_items.proofs.Taking.{taken_known}
use Rattle.pcap_classic.specs.declared.pcap.header.PcapHeader.{PcapHeader}
use Rattle.pcap_classic.specs.declared.run.copy.Copied.{Copied}
use Rattle.pcap_classic.specs.Copies.{CopiesBehind, NothingFailed}
use Rattle.pcap_classic.specs.Front.{CaptureFront}
use Rattle.pcap_classic.specs.HeaderText.{HeaderSays, HeaderText}
use Rattle.pcap_classic.specs.Packets.{format_under}
use Rattle.pcap_classic.specs.PacketText.{Captured, packet_limit}
use Rattle.pcap_classic.specs.Written.{IsWholeHeader}
use Rattle.pcap_classic.proofs.Accepted.{no_header_refusal}
use Rattle.pcap_classic.proofs.Copied.{lawful_under}
use Rattle.pcap_classic.proofs.One.{header_one}
use Rattle.pcap_classic.proofs.Stable.{header_stable}
use Rattle.pcap_options.specs.InterfaceOption.{interface_description}
use Rattle.pcap_blocks.specs.ParsedBlock.{SectionBody, InterfaceBody}
use Rattle.pcap_written.specs.declared.unwritable.Unwritable.{Unwritable}
use Rattle.pcap_written.specs.declared.unwritable.Unwritable.TheVariants as flaws
use Rattle.pcap_written.specs.Bodies.{body_text}
use Rattle.pcap_written.specs.Flaws.{OptionFlaw}
use Rattle.pcap_written.specs.Plain.{plain_section}
use Rattle.pcap_written.specs.Writing.{FlawIn}
use Rattle.pcap_file.specs.Conversion.{ConvertsEach}
use Rattle.pcap_file.specs.Converted.{converted_text, in_nanoseconds, interface_for, little_texts, opening_blocks}
use Rattle.pcap_file.specs.Converts.{ConvertRun, ConvertsPackets, RefusesBlocks}
use Rattle.pcap_file.proofs.Converting.{blocks_out}

any_none : {X : Type 0} (P : X → Type 0) → Any P [] → ⊥
any_none P x = absurd (omega (arith, x.2))

any_one : {X : Type 0} (P : X → Type 0) (y : X) → Any P (y ∷ []) → P y
any_one P y (zero, x, few, is, p) = subst P (sym is) p
any_one P y (suc k, x, few, is, p) = absurd (omega (arith, few))

any_two : {X : Type 0} (P : X → Type 0) (y z : X) → Any P (y ∷ z ∷ []) → P y ⊎ P z
any_two P y z (zero, x, few, is, p) = inl (subst P (sym is) p)
any_two P y z (suc zero, x, few, is, p) = inr (subst P (sym is) p)
any_two P y z (suc (suc k), x, few, is, p) = absurd (omega (arith, few))

-- The option for nanoseconds has no flaw.
no_option_flaw : (flaw : Unwritable) → OptionFlaw (number_in Little) (number_bytes Little) interface_description flaw in_nanoseconds → ⊥
no_option_flaw flaws.OptionTooLong x = absurd (omega (arith, x))
no_option_flaw flaws.OptionMisplaced (inl is) = absurd cc
no_option_flaw flaws.OptionMisplaced (inr unsuited) = unsuited tt
no_option_flaw flaws.OptionLengthDiffers x = x
no_option_flaw (flaws.Breaks rule) x = absurd cc
no_option_flaw _ x = absurd x

-- The section has no flaw.
no_section_flaw : (flaw : Unwritable) → FlawIn Little (SectionBody (plain_section Little)) flaw → ⊥
no_section_flaw flaws.BlockTooLong x = let long : length (body_text (number_bytes Little) (SectionBody (plain_section Little))) ≡ 16 = refl in absurd (omega (arith, x, long))
no_section_flaw _ x = any_none _ x

module _ (header : PcapHeader) (plain : IsPlain header.datalink) (link : link_number header.datalink < 2 ^ 16) where
  -- The interface has no flaw, if its link type fits.
  no_interface_flaw : (flaw : Unwritable) → FlawIn Little (InterfaceBody (interface_for header)) flaw → ⊥
  no_interface_flaw flaws.BlockTooLong x = let long : length (body_text (number_bytes Little) (InterfaceBody (interface_for header))) ≡ 20 = refl in absurd (omega (arith, x, long))
  no_interface_flaw flaws.LinkTooLarge x = absurd (omega (arith, x, link))
  no_interface_flaw flaws.LinkMisnamed x = x plain
  no_interface_flaw flaw x = no_option_flaw flaw (any_one (OptionFlaw (number_in Little) (number_bytes Little) interface_description flaw) in_nanoseconds x)

  no_flaw : (flaw : Unwritable) → Any (λ block. FlawIn Little block flaw) (opening_blocks header) → ⊥
  no_flaw flaw x =
      elim (any_two (λ block. FlawIn Little block flaw) (SectionBody (plain_section Little)) (InterfaceBody (interface_for header)) x) [
        | inl bad ↦ no_section_flaw flaw bad
        | inr bad ↦ no_interface_flaw flaw bad
      ]

  -- So only a lack of memory can refuse the blocks before the packets.
  no_refusal : (fault : Option PcapError) → IfSome fault (λ e. IsMemory e → ⊥) → IsSomeAnd fault (RefusesBlocks (opening_blocks header)) → ⊥
  no_refusal None memory refused = refused
  no_refusal (Some (errors.OutOfMemory e)) memory refused = memory tt
  no_refusal (Some (errors.InvalidField text)) memory refused = no_flaw refused.0 refused.2
  no_refusal (Some _) memory refused = absurd refused

-- A header that was taken from a capture is its header, and the same bytes follow it.
same_header : (bytes after : List ℕ) (now : Option (List ℕ)) (taken header : PcapHeader) → HeaderText header bytes after
    → Takes HeaderSays (Some bytes) now taken → (taken ≡ header) × (now ≡ Some after)
same_header bytes after now taken header text took =
    let l = taken_known bytes took.0 now took.2 in
    let there : HeaderText taken bytes l.0 = subst (λ (s : List ℕ). HeaderText taken s l.0) (sym l.2) (header_stable.text took.0 l.0 [] taken took.1) in
    let o = header_one bytes in
    let e = whole_same taken header l.0 after (o.only (whole taken l.0) there ∙ sym (o.only (whole header after) text)) in
    (e.0, l.1 ∙ ap Some e.1)

module _ (header : PcapHeader) (packets : List Captured) (bytes : List ℕ) (now out out_now : Option (List ℕ)) (most : ℕ) (copied : Copied)
    (front : CaptureFront packet_limit header packets bytes []) (few : length packets ≤ most) (fine : NothingFailed copied) where
  all_converted : ConvertsPackets (Some bytes) now out out_now most copied → ConvertsEach header packets out out_now copied
  all_converted run =
      let same = same_header bytes front.after run.behind run.header header front.header_text run.opened.read in
      let Behind : PcapHeader → Option (List ℕ) → Type 0 = λ h o. CopiesBehind converted_text h o now run.out_behind out_now most copied in
      let them : Behind header (Some front.after) = subst (λ (h : PcapHeader). Behind h (Some front.after)) same.0 (subst (Behind run.header) same.1 run.packets) in
      let room : copied.packets ≡ most → length packets ≤ length them.items = λ full. omega (arith, few, full, them.count) in
      let all = copies_accepted (format_under packet_limit header) (lawful_under header) (each_written converted_text) copied.read_failed copied.write_failed copied.fault tt them.items
      (Some front.after) them.left now run.out_behind them.mid out_now most copied.packets packets front.after fine.no_read_failed fine.no_write_failed fine.memory front.front room them.texts them.ends in
      let opened = subst (λ (h : PcapHeader). Appends out run.out_behind (little_texts (opening_blocks h))) same.0 run.opened.out in
      record { fine = all.0; count = them.count ∙ ap length (sym all.1); out = blocks_out header packets out run.out_behind out_now opened all.2 }

  pub converted_each : IsWholeHeader header → link_number header.datalink < 2 ^ 16 → ConvertRun (Some bytes) now out out_now most copied
      → ConvertsEach header packets out out_now copied
  converted_each fits link (inl (inl bad)) =
      absurd (no_header_refusal header bytes front.after now copied.read_failed copied.fault fine.no_read_failed front.header_text bad.refused)
  converted_each fits link (inl (inr (inl bad))) =
      let is : bad.header ≡ header = (same_header bytes front.after now bad.header header front.header_text bad.read).0 in
      absurd (no_refusal header fits.plain link copied.fault fine.memory (subst (λ (h : PcapHeader). IsSomeAnd copied.fault (RefusesBlocks (opening_blocks h))) is bad.refused))
  converted_each fits link (inl (inr (inr tear))) = absurd (true≢false (sym tear.write_failed ∙ fine.no_write_failed))
  converted_each fits link (inr run) = all_converted run

pub accepted_converted : (header : PcapHeader) (packets : List Captured) (bytes : List ℕ) (now out out_now : Option (List ℕ)) (most : ℕ) (copied : Copied)
    → IsWholeHeader header → link_number header.datalink < 2 ^ 16 → CaptureFront packet_limit header packets bytes [] → length packets ≤ most
    → NothingFailed copied
    → ConvertRun (Some bytes) now out out_now most copied → ConvertsEach header packets out out_now copied
accepted_converted header packets bytes now out out_now most copied fits link front few fine run = converted_each header packets bytes now out out_now most copied front few fine fits link run
