-- The body of a block is read as exactly one value.
use Rattle.std.proofs.Common.{◌≡◌, ℕ, List, refl, ap, sym, ◌∙◌}
use Rattle.pcap_core.specs.declared.errors.PcapError.{PcapError}
use Rattle.pcap_core.specs.declared.errors.PcapError.TheVariants as errors
use Rattle.pcap_core.specs.Answer.{Order, faulty, lacks, number_in, Refuses, whole}
use Rattle.pcap_core.specs.Errors.{IsMemory}
use Rattle.pcap_core.specs.Faults.{Fault, Shows}
use Rattle.pcap_core.proofs.Refusals.{shown_fault}
use Rattle.pcap_blocks.specs.declared.block_type.BlockType.{BlockType}
use Rattle.pcap_blocks.specs.declared.block_type.BlockType.TheVariants as types
use Rattle.pcap_blocks.specs.ParsedBlock.{Body, BodySays}
use Rattle.pcap_blocks.specs.UnknownBlock.{UnknownBody}
use Rattle.pcap_blocks.proofs.OneBody.{body_one}
use Rattle.pcap_written.specs.Bodies.{type_of}
use Rattle.pcap_ng.specs.Bodies.{SaysOfBody}
use Rattle.pcap_ng.specs.Frames.{Framed}

-- A block has exactly one body.
pub bodies_same : (b : Framed) (x y : Body) (r t : List ℕ) → SaysOfBody b (whole x r) → SaysOfBody b (whole y t) → x ≡ y
bodies_same b x y r t p q =
    let o = body_one (number_in b.endianness) b.type_ b.body in
    let e : whole x r ≡ whole y t = o.only (whole x r) p ∙ sym (o.only (whole y t) q) in
    cc

-- A body is read from a block of its own type.
pub type_is : (order : Order) (type : BlockType) (s : List ℕ) (body : Body) (rest : List ℕ) → BodySays order type s (whole body rest) → type_of body ≡ type
type_is order (types.Unknown n) s body rest says = rw says.1 (ap (λ (u : UnknownBody). u.type_) says.2.0)
type_is order _ s body rest says = rw says.1 refl

module _ (b : Framed) (body : Body) (rest : List ℕ) (says : SaysOfBody b (whole body rest)) where
  no_lack : (n : ℕ) → SaysOfBody b (lacks n) → ⊥
  no_lack n x =
      let o = body_one (number_in b.endianness) b.type_ b.body in
      let e : whole body rest ≡ lacks n = o.only (whole body rest) says ∙ sym (o.only (lacks n) x) in
      absurd cc

  no_fault : (fault : Fault) → SaysOfBody b (faulty fault) → ⊥
  no_fault fault x =
      let o = body_one (number_in b.endianness) b.type_ b.body in
      let e : whole body rest ≡ faulty fault = o.only (whole body rest) says ∙ sym (o.only (faulty fault) x) in
      absurd cc

  no_shown : (e : PcapError) → Shows (λ fault. SaysOfBody b (faulty fault)) e → ⊥
  no_shown e x = let there = shown_fault (λ fault. SaysOfBody b (faulty fault)) e x in no_fault there.0 there.1

  -- A body that can be read is refused only if memory runs out.
  pub refused_for_memory : (MayGrow : Type 0) (e : PcapError) → Refuses MayGrow (λ n. SaysOfBody b (lacks n)) (λ fault. SaysOfBody b (faulty fault)) e
      → IsMemory e
  refused_for_memory MayGrow (errors.OutOfMemory a) x = tt
  refused_for_memory MayGrow (errors.IncompleteBuffer n) x = absurd (no_lack n x)
  refused_for_memory MayGrow (errors.InvalidField text) x = absurd (no_shown (errors.InvalidField text) x)
  refused_for_memory MayGrow (errors.IoError a) x = absurd (no_shown (errors.IoError a) x)
  refused_for_memory MayGrow (errors.Utf8Error a) x = absurd (no_shown (errors.Utf8Error a) x)
  refused_for_memory MayGrow (errors.FromUtf8Error a) x = absurd x
  refused_for_memory MayGrow errors.WriterFailed x = absurd x
