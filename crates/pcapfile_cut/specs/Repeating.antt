-- The blocks of a PcapNg capture that each of its parts repeats.
use Rattle.std.specs.Prelude.{◌≡◌, ◌==◌, ◌++◌, ℕ, List, [], ◌∷◌, All, filter, Bool, true, false, if◌then◌else◌, Result, Ok, Err}
use Rattle.std.specs.List.{flat_map}
use Rattle.std.specs.declared.alloc.AllocError.{AllocError}
use Rattle.pcap_blocks.specs.declared.block_type.BlockType.{BlockType}
use Rattle.pcap_blocks.specs.declared.block_type.BlockType.TheVariants as types
use Rattle.pcapfile_cut.specs.declared.repeated.Repeated.{Repeated}

-- A block, by its type and its bytes.
pub record Typed : Type 0 where
  pub type_ : BlockType
  pub text : List ℕ

-- The bytes of these blocks, concatenated.
abbrev pub texts_of : List Typed → List ℕ
texts_of blocks = flat_map (λ (block : Typed). block.text) blocks

-- Blocks of this type say something of the packets after them in their section: interfaces, names, and decryption secrets (type 10).
abbrev pub is_about_packets : BlockType → Bool
is_about_packets types.InterfaceDescription = true
is_about_packets types.NameResolution = true
is_about_packets (types.Unknown n) = n == 10
is_about_packets _ = false

abbrev pub is_header : BlockType → Bool
is_header types.SectionHeader = true
is_header _ = false

-- The blocks of a section that say something of the packets after them.
abbrev pub about_packets : List Typed → List Typed
about_packets blocks = filter (λ (block : Typed). is_about_packets block.type_) blocks

-- No block begins a section.
abbrev pub HasNoHeader : List Typed → Type 0
HasNoHeader blocks = All (λ (block : Typed). is_header block.type_ ≡ false) blocks

-- The bytes with which a part begins.
abbrev pub opening_of : Repeated → List ℕ
opening_of repeated = repeated.opening.items

-- The bytes with which a part begins after one more block: a section header begins them anew.
abbrev pub opening_after : List ℕ → Typed → List ℕ
opening_after opening block =
    if is_header block.type_ then block.text
    else if is_about_packets block.type_ then opening ++ block.text
    else opening

-- The same after more blocks.
abbrev pub opening_behind : List ℕ → List Typed → List ℕ
opening_behind opening [] = opening
opening_behind opening (block ∷ blocks) = opening_behind (opening_after opening block) blocks

-- Without memory for it, a block is not repeated.
abbrev pub Passes : Typed → Repeated → Repeated → Result (Unit {0}) AllocError → Type 0
Passes block old new (Ok u) = opening_of new ≡ opening_after (opening_of old) block
Passes block old new (Err e) = opening_of new ≡ opening_of old
