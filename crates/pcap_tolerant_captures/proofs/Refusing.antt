-- An error that refuses a frame, or the meaning of a block, refuses the block in lenient reading.
use Rattle.std.proofs.Common.{◌≡◌, ℕ, List, refl, inl, inr}
use Rattle.pcap_core.specs.declared.errors.PcapError.{PcapError}
use Rattle.pcap_core.specs.declared.errors.PcapError.TheVariants as errors
use Rattle.pcap_core.specs.declared.rules.Rule.TheVariants.{SectionMissing}
use Rattle.pcap_core.specs.Answer.{lacks, faulty, Refuses}
use Rattle.pcap_core.specs.Faults.{Fault, Invalid, Io, Utf8}
use Rattle.pcap_items.specs.Headed.{bad}
use Rattle.pcap_blocks.specs.declared.block_type.BlockType.{BlockType}
use Rattle.pcap_blocks.specs.declared.block_type.BlockType.TheVariants as types
use Rattle.pcap_ng.specs.Frames.{Framed, FrameText, FrameSays}
use Rattle.pcap_tolerant_captures.specs.State.{State, opening, order_at, role_of, MeansFor, Means, CanGrow}
use Rattle.pcap_tolerant_captures.specs.Blocks.{AsIsSays, MayGrow}

-- A refusal stays true for weaker conditions of what is missing, of the fault, and of when memory may run out.
pub refuses_more : (M N : Type 0) (K L : ℕ → Type 0) (P Q : Fault → Type 0) → (M → N) → ((n : ℕ) → K n → L n) → ((f : Fault) → P f → Q f) → (e : PcapError) → Refuses M K P e → Refuses N L Q e
refuses_more M N K L P Q grow lack step (errors.IncompleteBuffer n) x = lack n x
refuses_more M N K L P Q grow lack step (errors.InvalidField text) x = (x.0, x.1, step (Invalid x.0) x.2)
refuses_more M N K L P Q grow lack step (errors.IoError a) x = step Io x
refuses_more M N K L P Q grow lack step (errors.Utf8Error a) x = step Utf8 x
refuses_more M N K L P Q grow lack step (errors.OutOfMemory a) x = grow x
refuses_more M N K L P Q grow lack step _ x = absurd x

module _ (q : State) (s : List ℕ) where
  pub frame_refuses : (e : PcapError) → Refuses ⊥ (λ n. FrameSays (order_at q) s (lacks n)) (λ f. FrameSays (order_at q) s (faulty f)) e
      → Refuses (MayGrow q s) (λ n. AsIsSays q s (lacks n)) (λ f. AsIsSays q s (faulty f)) e
  frame_refuses e x =
      refuses_more ⊥ (MayGrow q s) (λ n. FrameSays (order_at q) s (lacks n)) (λ n. AsIsSays q s (lacks n)) (λ f. FrameSays (order_at q) s (faulty f)) (λ f. AsIsSays q s (faulty f)) (λ none. absurd none) (λ n h. h) (λ f h. inl h) e x

  pub body_refuses : (b : Framed) (rest : List ℕ) → FrameText (order_at q) b s rest → (e : PcapError) → Refuses (CanGrow q b) (λ n. ⊥) (λ f. Means q b (bad f)) e
      → Refuses (MayGrow q s) (λ n. AsIsSays q s (lacks n)) (λ f. AsIsSays q s (faulty f)) e
  body_refuses b rest frame e x =
      refuses_more (CanGrow q b) (MayGrow q s) (λ n. ⊥) (λ n. AsIsSays q s (lacks n)) (λ f. Means q b (bad f)) (λ f. AsIsSays q s (faulty f)) (λ grows. record { block = b; rest = rest; frame = frame; grows = grows }) (λ n none. absurd none)
      (λ f h. inr (record { block = b; rest = rest; frame = frame; means = h })) e x

-- A first block of another type is refused.
pub first_missing : (t : BlockType) → (t ≡ types.SectionHeader → ⊥) → (b : Framed) → MeansFor (role_of t) opening b (bad (Invalid SectionMissing))
first_missing types.SectionHeader none b = absurd (none refl)
first_missing _ none b = refl
