-- The blocks that strict reading takes, made of malformed blocks.
use Rattle.std.specs.Prelude.{◌≡◌, ◌≢◌, ◌≤◌, ◌<◌, ◌+◌, ◌-◌, ℕ, List, [], ◌++◌, length, take, drop, replicate, ◌⊎◌, Bool, true, false, Option, Some, None, ⊤}
use Rattle.pcap_core.specs.declared.common.Endianness.{Endianness}
use Rattle.pcap_core.specs.Answer.{Order, Verdict, whole, faulty, number_in}
use Rattle.pcap_core.specs.Faults.{Fault}
use Rattle.pcap_core.specs.Padded.{up_to_4}
use Rattle.pcap_blocks.specs.declared.block_type.BlockType.{BlockType}
use Rattle.pcap_blocks.specs.declared.block_type.BlockType.TheVariants as types
use Rattle.pcap_blocks.specs.ParsedBlock.{Body, BodyMayGrow, BodySays}
use Rattle.pcap_written.specs.Bodies.{order_under}
use Rattle.pcap_written.specs.Raw.{Raw, magic_at, raw_text}
use Rattle.pcap_tolerant_blocks.specs.declared.sound.OptionsOf.{OptionsOf}
use Rattle.pcap_tolerant_blocks.specs.declared.sound.OptionsOf.TheVariants as of
use Rattle.pcap_tolerant_blocks.specs.SoundOptions.{SoundOptions, kind_of}
use Rattle.pcapfile_mended.specs.declared.mending.Mended.{Mended}
use Rattle.pcapfile_mended.specs.declared.mending.Mended.TheVariants as shown

-- The result of mending a block: it is unchanged, it has this body, or it is left out.
pub data Becomes : Type 0 where
  stays : Becomes
  has_body : List ℕ → Becomes
  is_left_out : Becomes

-- Strict reading gives this verdict on the block's body.
abbrev pub SaysOfRaw : Raw → Verdict Body → Type 0
SaysOfRaw raw = BodySays (number_in raw.endianness) raw.type_ raw.body

-- Strict reading takes these bytes as the body of a block of this type, or refuses them.
abbrev pub IsTaken : Order → BlockType → List ℕ → Bool → Type 0
IsTaken order type s true = (body : Body) × (rest : List ℕ) × BodySays order type s (whole body rest)
IsTaken order type s false = (fault : Fault) × BodySays order type s (faulty fault)

-- The kind of options that end a body of this type, if it may have options.
abbrev pub options_of : BlockType → Option OptionsOf
options_of types.SectionHeader = Some of.Section
options_of types.InterfaceDescription = Some of.Interface
options_of types.Packet = Some of.Packet
options_of types.InterfaceStatistics = Some of.InterfaceStatistics
options_of types.EnhancedPacket = Some of.EnhancedPacket
options_of _ = None

-- The length of a packet's body up to its options: 20, the captured length, which is its fourth number, and the padding.
abbrev pub packet_front : Order → List ℕ → ℕ
packet_front order s = 20 + up_to_4 (order 4 (take 4 (drop 12 s)))

-- The length of a body up to options of this kind.
abbrev pub front_length : OptionsOf → Order → List ℕ → ℕ
front_length of.Section order s = 16
front_length of.Interface order s = 8
front_length of.EnhancedPacket order s = packet_front order s
front_length of.Packet order s = packet_front order s
front_length of.InterfaceStatistics order s = 12

-- A body has room for what precedes its options, which are of this kind and in this order; a section names its own order.
pub record OptionsAt (raw : Raw) (of : OptionsOf) (order : Endianness) : Type 0 where
  pub of_type : options_of raw.type_ ≡ Some of
  pub named : order_under raw.endianness (magic_at raw.type_ raw.body) ≡ Some order
  pub room : front_length of (number_in order) raw.body ≤ length raw.body

-- The same bytes, except that the length of a section is -1: not stated.
abbrev pub unstated : BlockType → List ℕ → List ℕ
unstated types.SectionHeader s = take 8 s ++ (replicate 8 255 ++ drop 16 s)
unstated _ s = s

-- The flag says whether the body is that of a section that states its length.
abbrev pub IsStated : Bool → BlockType → List ℕ → Type 0
IsStated false type s = unstated type s ≡ s
IsStated true type s = unstated type s ≢ s

-- The bytes before a body's options, without a section's length, and then these options.
abbrev pub with_options : Raw → OptionsOf → Endianness → List ℕ → List ℕ
with_options raw of order kept = unstated raw.type_ (take (front_length of (number_in order) raw.body) raw.body) ++ kept

-- The bytes of a body's options.
abbrev pub options_in : Raw → OptionsOf → Endianness → List ℕ
options_in raw of order = drop (front_length of (number_in order) raw.body) raw.body

-- The rules of mending. A body that strict reading takes is unchanged, except for the length of a section. Any other body keeps only its
-- sound options if it has room for what precedes them. A short interface is filled with zeros, so that later interfaces keep their numbers.
-- Any other body is left out.
pub data Mends (raw : Raw) : Becomes → Type 0 where
  sound : (body : Body) (rest : List ℕ) → SaysOfRaw raw (whole body rest) → unstated raw.type_ raw.body ≡ raw.body → Mends raw stays
  stated : (body : Body) (rest : List ℕ) → SaysOfRaw raw (whole body rest) → unstated raw.type_ raw.body ≢ raw.body → Mends raw (has_body (unstated raw.type_ raw.body))
  flawed : (fault : Fault) (of : OptionsOf) (order : Endianness) (kept : List ℕ) → SaysOfRaw raw (faulty fault) → OptionsAt raw of order
      → SoundOptions (number_in order) (kind_of of) (options_in raw of order) kept → Mends raw (has_body (with_options raw of order kept))
  short : raw.type_ ≡ types.InterfaceDescription → length raw.body < 8 → Mends raw (has_body (raw.body ++ replicate (8 - length raw.body) 0))
  lost : (fault : Fault) → SaysOfRaw raw (faulty fault) → ((of : OptionsOf) (order : Endianness) → OptionsAt raw of order → ⊥) → raw.type_ ≢ types.InterfaceDescription → Mends raw is_left_out

-- Mending a block may need memory: reading its body may need a list, or the block isn't left out.
abbrev pub MendGrows : Raw → Type 0
MendGrows raw = BodyMayGrow (number_in raw.endianness) raw.type_ raw.body ⊎ (Mends raw is_left_out → ⊥)

-- Strict reading takes the result of mending, unless the block is left out.
abbrev pub IsTakenAfter : Raw → Becomes → Type 0
IsTakenAfter raw stays = IsTaken (number_in raw.endianness) raw.type_ raw.body true
IsTakenAfter raw (has_body s) = IsTaken (number_in raw.endianness) raw.type_ s true
IsTakenAfter raw is_left_out = ⊤

-- The block with another body.
abbrev pub with_body : Raw → List ℕ → Raw
with_body raw s = record { type_ = raw.type_; endianness = raw.endianness; body = s }

-- The bytes of the mended block; none if it is left out.
abbrev pub mended_text : Raw → Becomes → List ℕ
mended_text raw stays = raw_text raw
mended_text raw (has_body s) = raw_text (with_body raw s)
mended_text raw is_left_out = []

-- The result as the program reports it.
abbrev pub told : Becomes → Mended
told stays = shown.Stays
told (has_body s) = shown.Changed
told is_left_out = shown.LeftOut

-- The report and the text are those of one result of mending the block.
pub record IsMended (raw : Raw) (mended : Mended) (text : List ℕ) : Type 0 where
  pub becomes : Becomes
  pub mends : Mends raw becomes
  pub told_so : mended ≡ told becomes
  pub text_is : text ≡ mended_text raw becomes
