-- The facts that are known about a frame once its head is read.
use Rattle.std.specs.Prelude.{◌≡◌, ◌≢◌, ◌+◌, ℕ, List, Result, Ok, Err}
use Rattle.std.specs.Borrow.{Bor}
use Rattle.pcap_core.specs.declared.common.Endianness.{Endianness}
use Rattle.pcap_core.specs.declared.rules.Rule.{Rule}
use Rattle.pcap_core.specs.declared.rules.Rule.TheVariants.{BlockLengthsDiffer}
use Rattle.pcap_blocks.specs.BlockType.{block_type}
use Rattle.pcap_ng.specs.declared.pcapng.block.Block.{Block}
use Rattle.pcap_ng.specs.declared.pcapng.framing.FrameHead.{FrameHead}
use Rattle.pcap_ng.specs.Frames.{Framed, framed_of, FrameHeadText, IsGoodLength, BreaksHead, FrameTail}

-- The first twelve bytes are a good head, or break this rule.
abbrev pub HeadTells : Endianness → List ℕ → Result (FrameHead × Bor (List ℕ)) Rule → Type 0
HeadTells e s (Ok x) = FrameHeadText e x.0.number x.0.endianness x.0.len s x.1.now × IsGoodLength x.0.len
HeadTells e s (Err rule) = BreaksHead e s rule

-- KnowsFrame e head n bytes: the bytes begin with this head, in which n bytes follow the first twelve.
pub record KnowsFrame (e : Endianness) (head : FrameHead) (n : ℕ) (bytes : List ℕ) : Type 0 where
  pub after : List ℕ
  pub text : FrameHeadText e head.number head.endianness head.len bytes after
  pub good : IsGoodLength head.len
  pub follows : head.len ≡ 12 + n

-- TailOf head b s rest: s is what follows the head of the block b, followed by rest.
pub record TailOf (head : FrameHead) (b : Framed) (s rest : List ℕ) : Type 0 where
  pub type_is : b.type_ ≡ block_type head.number
  pub len_is : b.initial_len ≡ head.len
  pub endianness_is : b.endianness ≡ head.endianness
  pub tail : FrameTail head.endianness head.len b.body b.trailer_len s rest
  pub same : b.trailer_len ≡ head.len

-- TailDiffers head s: the length after the body that follows this head differs from the head's length.
pub record TailDiffers (head : FrameHead) (s : List ℕ) : Type 0 where
  pub body : List ℕ
  pub trailer : ℕ
  pub rest : List ℕ
  pub tail : FrameTail head.endianness head.len body trailer s rest
  pub differ : trailer ≢ head.len

-- TailTells head s result: s is the rest of the block after this head, or its lengths differ.
abbrev pub TailTells : FrameHead → List ℕ → Result (Bor (List ℕ) × Block) Rule → Type 0
TailTells head s (Ok x) = TailOf head (framed_of x.1) s x.0.now
TailTells head s (Err rule) = (rule ≡ BlockLengthsDiffer) × TailDiffers head s
