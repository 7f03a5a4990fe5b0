-- The blocks of a buffer that a copy writes at once.
use Rattle.std.specs.Prelude.{◌≡◌, ◌<◌, ◌≤◌, ◌+◌, ◌++◌, ℕ, List, [], length, Bool, true, false, Option, None, Some, All}
use Rattle.std.specs.Borrow.{Bor}
use Rattle.std.specs.Io.KnownBytes.{Appends}
use Rattle.pcap_core.specs.declared.common.Endianness.{Endianness}
use Rattle.pcap_core.specs.declared.errors.PcapError.{PcapError}
use Rattle.pcap_core.specs.Errors.{IsIo}
use Rattle.pcap_items.specs.Format.{Texts}
use Rattle.pcap_items.specs.Writing.{AppendsPart}
use Rattle.pcap_ng.specs.Frames.{Framed, FrameText, frame_format}
use Rattle.pcap_ng.specs.State.{is_kept}

-- A block leaves what is in force unchanged if it is neither a section header nor an interface description.
abbrev pub LeavesInForce : Framed → Type 0
LeavesInForce b = is_kept b.type_ ≡ false

-- NoneBefore e n s: if a whole block begins s and leaves what is in force unchanged, fewer than n bytes follow it.
abbrev pub NoneBefore : Endianness → ℕ → List ℕ → Type 0
NoneBefore e n s = (b : Framed) (after : List ℕ) → FrameText e b s after → LeavesInForce b → length after < n

-- PassesBlock e n s result: the result is what follows the block at the front of s, if the block is whole, leaves what is in
-- force unchanged, and at least n bytes follow it.
abbrev pub PassesBlock : Endianness → ℕ → List ℕ → Option (Bor (List ℕ)) → Type 0
PassesBlock e n s (Some after) = ((b : Framed) × FrameText e b s after.now × LeavesInForce b) × (n ≤ length after.now)
PassesBlock e n s None = NoneBefore e n s

-- IsStretch e bytes n: the bytes are n consecutive blocks that leave what is in force unchanged.
pub record IsStretch (e : Endianness) (bytes : List ℕ) (n : ℕ) : Type 0 where
  pub blocks : List Framed
  pub count : length blocks ≡ n
  pub texts : Texts frame_format e blocks bytes []
  pub leave : All LeavesInForce blocks

-- Passes e bytes rest n: the bytes begin with n such blocks, followed by rest.
pub record Passes (e : Endianness) (bytes rest : List ℕ) (n : ℕ) : Type 0 where
  pub front : List ℕ
  pub split : bytes ≡ front ++ rest
  pub stretch : IsStretch e front n

-- TearsBlock e bytes gone used n: of a stretch of which `gone` bytes were written, n blocks were written whole. The next block,
-- which ends at `used`, was not written whole.
pub record TearsBlock (e : Endianness) (bytes : List ℕ) (gone used n : ℕ) : Type 0 where
  pub front : List ℕ
  pub text : List ℕ
  pub back : List ℕ
  pub split : bytes ≡ (front ++ text) ++ back
  pub whole_ones : IsStretch e front n
  pub block : Framed
  pub next : FrameText e block text []
  pub leaves : LeavesInForce block
  pub used_is : used ≡ length front + length text
  pub begun : length front ≤ gone
  pub torn : gone < used

-- SendsWhole e bytes before after n: these bytes are n blocks and were written.
pub record SendsWhole (e : Endianness) (bytes : List ℕ) (before after : Option (List ℕ)) (n : ℕ) : Type 0 where
  pub stretch : IsStretch e bytes n
  pub out : Appends before after bytes

-- SendsTorn e bytes before after n: these bytes are n blocks, which were written, and one more, in which a write failed.
pub record SendsTorn (e : Endianness) (bytes : List ℕ) (before after : Option (List ℕ)) (n : ℕ) : Type 0 where
  pub front : List ℕ
  pub text : List ℕ
  pub split : bytes ≡ front ++ text
  pub mid : Option (List ℕ)
  pub whole_ones : SendsWhole e front before mid n
  pub block : Framed
  pub next : FrameText e block text []
  pub leaves : LeavesInForce block
  pub out : AppendsPart mid after text

-- Whole blocks of a buffer were written, at most `most`; or these and a beginning of the next, in which a write failed.
abbrev pub Sends : Endianness → List ℕ → Option (List ℕ) → Option (List ℕ) → ℕ → ℕ → Bool → Bool → Option PcapError → Type 0
Sends e bytes before after most n old new None = SendsWhole e bytes before after n × (n ≤ most) × (new ≡ old)
Sends e bytes before after most n old new (Some error) = SendsTorn e bytes before after n × (n < most) × IsIo error × (new ≡ true)
