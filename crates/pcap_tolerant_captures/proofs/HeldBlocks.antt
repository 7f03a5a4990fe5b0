-- Blocks read leniently from a stream: the held bytes have exactly one answer.
use Rattle.std.proofs.Common.{◌≡◌, ℕ, List, [], length, Bool, false, Option, refl, sym, ap, subst, ◌∙◌, arith, inl, inr}
use Rattle.std.specs.Io.KnownBytes.{Consumes}
use Rattle.std.proofs.lemmas.List.{nil_from_length}
use Rattle.pcap_core.specs.declared.errors.PcapError.{PcapError}
use Rattle.pcap_core.specs.declared.errors.PcapError.TheVariants as errors
use Rattle.pcap_core.specs.Answer.{Verdict, whole, lacks, faulty, Refuses}
use Rattle.pcap_core.specs.Faults.{Fault, Shows}
use Rattle.pcap_items.specs.Filling.{IsSettled, IsAskedFor}
use Rattle.pcap_items.specs.Headed.{HeadReading, good, bad}
use Rattle.pcap_items.specs.Reading.{HasCause, no_memory, TakesAsked}
use Rattle.pcap_items.proofs.Filled.{held_refused}
use Rattle.pcap_items.proofs.Formats.{fault_no_text, lacks_no_text, only, text_same}
use Rattle.pcap_ng.specs.Frames.{Framed, FrameText, FrameSays, frame_format}
use Rattle.pcap_ng.specs.Lent.{header_of, framed_around, body_in}
use Rattle.pcap_ng.specs.declared.pcapng.block_header.BlockHeader.{BlockHeader}
use Rattle.pcap_ng.proofs.Frames.{frame_long}
use Rattle.pcap_ng.proofs.Lent.{held_block}
use Rattle.pcap_tolerant_captures.specs.State.{State, order_at, Led, Means}
use Rattle.pcap_tolerant_captures.specs.Blocks.{Item, AsIsSays, MayGrow, as_is_format}
use Rattle.pcap_tolerant_captures.proofs.Format.{as_is_lawful, means_one}

module _ (q : State) (s : List ℕ) where
  -- A frame with nothing behind it is a block or is refused.
  frame_settled : (b : Framed) → FrameText (order_at q) b s [] → (r : HeadReading Led) → Means q b r → IsSettled (AsIsSays q s)
  frame_settled b frame (good led) means = inl (record { block = b; led = led }, record { frame = frame; means = means })
  frame_settled b frame (bad fault) means = inr (fault, inr (record { block = b; rest = []; frame = frame; means = means }))

  pub whole_settled : (b : Framed) (rest : List ℕ) → length s ≡ 12 → FrameText (order_at q) b s rest → IsSettled (as_is_format.says q s)
  unfolding as_is_format
  whole_settled b rest long frame =
      let none : rest ≡ [] = nil_from_length rest (omega (arith, long, frame_long (order_at q) b s rest frame)) in
      let one = means_one q b in
      frame_settled b (subst (λ (l : List ℕ). FrameText (order_at q) b s l) none frame) one.value one.holds

  lacks_no_fault : (n : ℕ) (fault : Fault) → ◌≡◌ {A = Verdict Item} (lacks n) (faulty fault) → ⊥
  lacks_no_fault n fault e = absurd cc

  -- A refused head refuses the block.
  pub head_refused : (e : PcapError) → ((n : ℕ) → e ≡ errors.IncompleteBuffer n → ⊥) → Refuses ⊥ (λ n. FrameSays (order_at q) s (lacks n)) (λ fault. FrameSays (order_at q) s (faulty fault)) e
      → Shows (λ fault. as_is_format.says q s (faulty fault)) e
  unfolding as_is_format
  head_refused (errors.IncompleteBuffer n) other x = absurd (other n refl)
  head_refused (errors.InvalidField text) other x = (x.0, x.1, inl x.2)
  head_refused (errors.IoError a) other x = inl x
  head_refused (errors.Utf8Error a) other x = inl x
  head_refused _ other x = absurd x

  -- Settled bytes lack nothing, and nothing follows their block.
  settled_lacks : IsSettled (AsIsSays q s) → (n : ℕ) → AsIsSays q s (lacks n) → ⊥
  unfolding as_is_format
  settled_lacks (inl x) n lack = lacks_no_text as_is_format as_is_lawful q n s lack x.0 [] x.1
  settled_lacks (inr x) n lack = lacks_no_fault n x.0 (only as_is_format as_is_lawful q s (lacks n) (faulty x.0) lack x.1)

  settled_rest : IsSettled (AsIsSays q s) → (item : Item) (rest : List ℕ) → AsIsSays q s (whole item rest) → rest ≡ []
  unfolding as_is_format
  settled_rest (inl x) item rest text = (text_same as_is_format as_is_lawful q item x.0 s rest [] text x.1).1
  settled_rest (inr x) item rest text = absurd (fault_no_text as_is_format as_is_lawful q x.0 s x.1 item rest text)

  -- The reason why the held bytes are no block.
  module _ (before after : Option (List ℕ)) (failed : Bool) (unfailed : failed ≡ false) (came : Consumes before after s) (asked : IsAskedFor (as_is_format.says q) s) (settled : IsSettled (as_is_format.says q s)) where
    shown_cause : (e : PcapError) → Shows (λ fault. AsIsSays q s (faulty fault)) e → HasCause (as_is_format.says q) before failed e × TakesAsked (as_is_format.says q) before after
    unfolding as_is_format
    shown_cause e shown = held_refused as_is_format as_is_lawful q e s before after failed (record { came = came; asked = asked }) unfailed shown

    pub held_cause : (e : PcapError) → Refuses (MayGrow q s) (λ n. AsIsSays q s (lacks n)) (λ fault. AsIsSays q s (faulty fault)) e → HasCause (as_is_format.says q) before failed e × TakesAsked (as_is_format.says q) before after
    unfolding as_is_format
    held_cause (errors.IncompleteBuffer n) x = absurd (settled_lacks settled n x)
    held_cause (errors.InvalidField text) x = shown_cause (errors.InvalidField text) x
    held_cause (errors.IoError a) x = shown_cause (errors.IoError a) x
    held_cause (errors.Utf8Error a) x = shown_cause (errors.Utf8Error a) x
    held_cause (errors.OutOfMemory a) x = (no_memory tt unfailed, record { taken = s; from_stream = came; asked = asked })
    held_cause _ x = absurd x

  item_of_led : Led → Framed → Item
  item_of_led led b = record { block = b; led = led }

  -- The held bytes are the block with its header and with the body that the reader lends.
  pub held_said : (b : Framed) (led : Led) (rest : List ℕ) (header : BlockHeader) → IsSettled (as_is_format.says q s) → header ≡ header_of b → AsIsSays q s (whole (record { block = b; led = led }) rest)
      → as_is_format.says q s (whole (record { block = framed_around header (body_in s); led = led }) [])
  unfolding as_is_format frame_format item_of_led
  held_said b led rest header settled is text =
      let none : rest ≡ [] = settled_rest settled (record { block = b; led = led }) rest text in
      let alone : AsIsSays q s (whole (item_of_led led b) []) = subst (λ (l : List ℕ). AsIsSays q s (whole (item_of_led led b) l)) none text in
      let same : framed_around header (body_in s) ≡ b = ap (λ (h : BlockHeader). framed_around h (body_in s)) is ∙ held_block (order_at q) b s alone.frame in
      subst (λ (x : Framed). AsIsSays q s (whole (item_of_led led x) [])) (sym same) alone
