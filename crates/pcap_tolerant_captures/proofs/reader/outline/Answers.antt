use Rattle.std.proofs.Common.{◌≡◌, ◌∙◌, ℕ, List, length, Some, refl, ap, subst, arith}
use Rattle.pcap_core.specs.declared.common.Endianness.{Endianness}
use Rattle.pcap_core.specs.declared.rules.Rule.TheVariants.{SectionMissing, SectionTooShort}
use Rattle.pcap_core.specs.Answer.{lacks, faulty}
use Rattle.pcap_core.proofs.Refusals.{named_refuses}
use Rattle.pcap_ng.specs.Frames.{framed_of, FrameText}
use Rattle.pcap_tolerant_blocks.specs.SectionAsIs.{short_section}
use Rattle.pcap_tolerant_captures.specs.Blocks.{AsIsSays}
use Rattle.pcap_tolerant_captures.specs.HeldAsIs.{state_in}
use Rattle.pcap_tolerant_captures.specs.Outlines.{known_order}
use Rattle.pcap_tolerant_captures.specs.State.{order_at}
use Rattle.pcap_tolerant_captures.proofs.Outlines.{begun_leads, missing_section, section_leads, section_short}
use Rattle.pcap_tolerant_captures.proofs.reader.outline.Goals as goal
use Rattle.pcap_tolerant_captures.proofs.reader.outline.Goals.{in-SectionHeader-2+in-Some-1, in-SectionHeader-2+in-None-1, in_default+else-is_none}

pub returns-in-SectionHeader : goal.returns-in-SectionHeader
returns-in-SectionHeader c =
    let q = state_in c.args.parser.now in
    let s = c.args.bytes.now in
    let b = framed_of c.in_ok-_rest.block in
    let rest = c.in_ok-_rest._rest.now in
    let frame : FrameText (order_at q) b s rest = subst (λ (e : Endianness). FrameText e b s rest) c.order_in.ensures c.in_ok-_rest.ensures.tells in
    let short = short_section (omega (arith, ap length c.as_slice.ensures, c.if-as_slice-lt16.true)) in
    (refl, named_refuses ⊥ (λ n. AsIsSays q s (lacks n)) (λ fault. AsIsSays q s (faulty fault)) SectionTooShort c.from.result (section_short q s rest b frame c.in-SectionHeader.is short) c.from.ensures)

pub returns-in_default : goal.returns-in_default
returns-in_default c =
    let q = state_in c.args.parser.now in
    let s = c.args.bytes.now in
    let b = framed_of c.in_ok-_rest.block in
    let rest = c.in_ok-_rest._rest.now in
    let frame : FrameText (order_at q) b s rest = subst (λ (e : Endianness). FrameText e b s rest) c.order_in.ensures c.in_ok-_rest.ensures.tells in
    let missing = missing_section c.args.parser.now c.if-is_none.ensures s rest b frame c.in_default.not-SectionHeader in
    (refl, named_refuses ⊥ (λ n. AsIsSays q s (lacks n)) (λ fault. AsIsSays q s (faulty fault)) SectionMissing c.from-in_default.result missing c.from-in_default.ensures)

pub returns : goal.returns
returns c =
    let q = state_in c.args.parser.now in
    let s = c.args.bytes.now in
    let b = framed_of c.in_ok-_rest.block in
    let rest = c.in_ok-_rest._rest.now in
    let next = state_in c.match-block.parser in
    let frame : FrameText (order_at q) b s rest = subst (λ (e : Endianness). FrameText e b s rest) c.order_in.ensures c.in_ok-_rest.ensures.tells in
    elim c.match-block.branch [
      | in-SectionHeader-2+in-Some-1 w ↦
          let knows : known_order next ≡ Some b.endianness = ap (λ p. known_order (state_in p)) w.parser-is ∙ w.bare.ensures ∙ ap (λ (e : Endianness). Some e) w.endianness.ensures in
          let led = section_leads q s rest b frame w.in-SectionHeader-2.is (omega (arith, ap length w.as_slice.ensures, w.if-as_slice-lt16.false)) next knows in
          (b, led.0, rest, c.header_in.ensures, led.1, led.2)
      | in-SectionHeader-2+in-None-1 w ↦
          let knows : known_order next ≡ Some b.endianness = ap (λ p. known_order (state_in p)) w.parser-is ∙ w.bare.ensures ∙ ap (λ (e : Endianness). Some e) w.endianness.ensures in
          let led = section_leads q s rest b frame w.in-SectionHeader-2.is (omega (arith, ap length w.as_slice.ensures, w.if-as_slice-lt16.false)) next knows in
          (b, led.0, rest, c.header_in.ensures, led.1, led.2)
      | in_default+else-is_none w ↦
          let led = begun_leads c.args.parser.now w.if-is_none.ensures s rest b frame w.in_default.not-SectionHeader in
          (b, led.0, rest, c.header_in.ensures, led.1, ap (λ p. known_order (state_in p)) w.parser-is ∙ led.2)
    ]
