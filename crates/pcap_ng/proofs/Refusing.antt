-- A fault that refuses a frame, or what the block means, refuses the block.
use Rattle.std.proofs.Common.{◌≡◌, ℕ, List, refl, inl, inr}
use Rattle.pcap_core.specs.declared.common.Endianness.TheVariants.{Big}
use Rattle.pcap_core.specs.declared.errors.PcapError.{PcapError}
use Rattle.pcap_core.specs.declared.errors.PcapError.TheVariants as errors
use Rattle.pcap_core.specs.Answer.{lacks, faulty, Refuses}
use Rattle.pcap_core.specs.Faults.{Fault, Invalid, Io, Utf8, Shows}
use Rattle.pcap_items.specs.Headed.{bad}
use Rattle.pcap_ng.specs.Frames.{Framed, FrameText, FrameSays}
use Rattle.pcap_ng.specs.State.{State, opening, order_at, Means, CanGrow}
use Rattle.pcap_ng.specs.Blocks.{BlockSays, MayGrow}

-- A refusal for a fault is a refusal for what follows from that fault, and a refusal for memory is one where memory may run out.
pub refuses_wider : (M N : Type 0) (P Q : Fault → Type 0) → (M → N) → ((f : Fault) → P f → Q f) → (e : PcapError) → Refuses M (λ n. ⊥) P e → Refuses N (λ n. ⊥) Q e
refuses_wider M N P Q grow step (errors.IncompleteBuffer n) x = x
refuses_wider M N P Q grow step (errors.InvalidField text) x = (x.0, x.1, step (Invalid x.0) x.2)
refuses_wider M N P Q grow step (errors.IoError a) x = step Io x
refuses_wider M N P Q grow step (errors.Utf8Error a) x = step Utf8 x
refuses_wider M N P Q grow step (errors.FromUtf8Error a) x = x
refuses_wider M N P Q grow step (errors.OutOfMemory a) x = grow x
refuses_wider M N P Q grow step errors.WriterFailed x = x

-- An error that shows a fault is a refusal for that fault.
pub shows_refuses : (M : Type 0) (F : Fault → Type 0) (e : PcapError) → Shows F e → Refuses M (λ n. ⊥) F e
shows_refuses M F (errors.OutOfMemory a) x = absurd x
shows_refuses M F _ x = x

module _ (q : State) (s : List ℕ) where
  pub frame_refuses : (M : Type 0) (e : PcapError) → Refuses ⊥ (λ n. FrameSays (order_at q) s (lacks n)) (λ f. FrameSays (order_at q) s (faulty f)) e
      → Refuses M (λ n. BlockSays q s (lacks n)) (λ f. BlockSays q s (faulty f)) e
  frame_refuses M (errors.IncompleteBuffer n) x = x
  frame_refuses M (errors.InvalidField text) x = (x.0, x.1, inl x.2)
  frame_refuses M (errors.IoError a) x = inl x
  frame_refuses M (errors.Utf8Error a) x = inl x
  frame_refuses M (errors.FromUtf8Error a) x = absurd x
  frame_refuses M (errors.OutOfMemory a) x = absurd x
  frame_refuses M errors.WriterFailed x = absurd x

  can_grow : (b : Framed) (rest : List ℕ) → FrameText (order_at q) b s rest → CanGrow q b → MayGrow q s
  can_grow b rest frame grows = record { block = b; rest = rest; frame = frame; grows = grows }

  pub body_refuses : (b : Framed) (rest : List ℕ) → FrameText (order_at q) b s rest → (e : PcapError) → Refuses (CanGrow q b) (λ n. ⊥) (λ f. Means q b (bad f)) e
      → Refuses (MayGrow q s) (λ n. BlockSays q s (lacks n)) (λ f. BlockSays q s (faulty f)) e
  body_refuses b rest frame (errors.IncompleteBuffer n) x = absurd x
  body_refuses b rest frame (errors.InvalidField text) x = (x.0, x.1, inr (record { block = b; rest = rest; frame = frame; means = x.2 }))
  body_refuses b rest frame (errors.IoError a) x = inr (record { block = b; rest = rest; frame = frame; means = x })
  body_refuses b rest frame (errors.Utf8Error a) x = inr (record { block = b; rest = rest; frame = frame; means = x })
  body_refuses b rest frame (errors.FromUtf8Error a) x = absurd x
  body_refuses b rest frame (errors.OutOfMemory a) x = can_grow b rest frame x
  body_refuses b rest frame errors.WriterFailed x = absurd x

pub opening_order : order_at opening ≡ Big
unfolding order_at
opening_order = refl
