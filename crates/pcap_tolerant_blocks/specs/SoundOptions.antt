-- Sound options, whose values break no rule, with their unchanged bytes ('Options').
use Rattle.std.specs.Prelude.{◌≡◌, ◌≢◌, ℕ, List, [], ◌∷◌, ◌++◌, filter, All, Bool, true, false, Option}
use Rattle.std.specs.List.{flat_map}
use Rattle.pcap_core.specs.Answer.{Order}
use Rattle.pcap_core.specs.Faults.{Fault}
use Rattle.pcap_options.specs.EnhancedOption.{enhanced_packet}
use Rattle.pcap_options.specs.InterfaceOption.{interface_description}
use Rattle.pcap_options.specs.StatisticsOption.{interface_statistics}
use Rattle.pcap_options.specs.Options.{may_end_with_body}
use Rattle.pcap_options.specs.PacketOption.{packet_kind}
use Rattle.pcap_options.specs.SectionOption.{section_header}
use Rattle.pcap_options.specs.Values.{Kind}
use Rattle.pcap_raw_options.specs.UpTo.{StopsAt, no_kind}
use Rattle.pcap_tolerant_blocks.specs.declared.sound.OptionsOf.{OptionsOf}
use Rattle.pcap_tolerant_blocks.specs.declared.sound.OptionsOf.TheVariants as of
use Rattle.pcap_tolerant_blocks.specs.Flaws.{Said}
use Rattle.pcap_tolerant_blocks.specs.OptionsAsIs.{Judged, JudgedText}

-- The shapes of the values of these options, by their codes.
abbrev pub kind_of : OptionsOf → Kind
kind_of of.Section = section_header
kind_of of.Interface = interface_description
kind_of of.EnhancedPacket = enhanced_packet
kind_of of.Packet = packet_kind
kind_of of.InterfaceStatistics = interface_statistics

-- An option read leniently, and its bytes.
pub record Piece : Type 0 where
  pub option : Judged
  pub text : List ℕ

-- These bytes are the option, whatever follows them.
abbrev pub IsPiece : Order → Kind → Piece → Type 0
IsPiece order kind piece = (rest : List ℕ) → JudgedText order kind piece.option (piece.text ++ rest) rest

-- The bytes of the option.
abbrev pub text_in : Piece → List ℕ
text_in piece = piece.text

-- There is no flaw.
abbrev pub are_none : List Said → Bool
are_none [] = true
are_none (first ∷ others) = false

-- The option's value breaks no rule.
abbrev pub is_sound : Piece → Bool
is_sound piece = are_none piece.option.flaws

-- These bytes if the option has no flaw, and otherwise none.
abbrev pub text_if : Bool → List ℕ → List ℕ
text_if true text = text
text_if false text = []

-- `s` begins with options read leniently, and `left` follows them. `kept` is the bytes of those whose values break no rule.
pub record PiecesSoFar (order : Order) (kind : Kind) (s left kept : List ℕ) : Type 0 where
  pub pieces : List Piece
  pub are : All (IsPiece order kind) pieces
  pub text : s ≡ flat_map text_in pieces ++ left
  pub kept_are : kept ≡ flat_map text_in (filter is_sound pieces)

-- `s` is options read leniently, up to their mark, to the end, or to where no next one is found. `kept` is the bytes of those whose
-- values break no rule.
pub record SoundOptions (order : Order) (kind : Kind) (s kept : List ℕ) : Type 0 where
  pub pieces : List Piece
  pub stop : List ℕ
  pub cut : Option Fault
  pub rest : List ℕ
  pub are : All (IsPiece order kind) pieces
  pub text : s ≡ flat_map text_in pieces ++ stop
  pub stops : StopsAt may_end_with_body order no_kind [] cut stop rest
  pub kept_are : kept ≡ flat_map text_in (filter is_sound pieces)

-- The bytes after the call are those before it, and then the whole bytes of some first options of `s` whose values break no rule.
pub record PutsFirst (order : Order) (kind : Kind) (s before after : List ℕ) : Type 0 where
  pub left : List ℕ
  pub kept : List ℕ
  pub are_put : PiecesSoFar order kind s left kept
  pub behind : after ≡ before ++ kept

-- Something of `s` is appended: it has an option whose value breaks no rule.
pub record PutsSome (order : Order) (kind : Kind) (s : List ℕ) : Type 0 where
  pub kept : List ℕ
  pub are_put : SoundOptions order kind s kept
  pub some : kept ≢ []
