-- The length of blocks that are kept, and numbers of interfaces that stay.
use Rattle.std.proofs.Common.{◌≡◌, ◌+◌, ◌≤◌, ◌++◌, ◌∷◌, [], ℕ, suc, zero, List, length, take, drop, length-append, arith, Bool, true, false, None, Some, refl, ap, ◌∙◌}
use Rattle.std.specs.Prelude.{◌==◌, if◌then◌else◌}
use Rattle.std.specs.List.{slice_get}
use Rattle.std.proofs.lemmas.List.{length-take, length-drop}
use Rattle.std.proofs.lemmas.Option.{none-some}
use Rattle.byteorder.specs.Endian.{little_number}
use Rattle.pcap_core.specs.declared.common.Endianness.TheVariants.{Little}
use Rattle.pcap_core.specs.Codec.{number_bytes}
use Rattle.pcap_core.proofs.Codec.{codec}
use Rattle.pcap_blocks.specs.declared.block_type.BlockType.{BlockType}
use Rattle.pcap_blocks.specs.BlockType.{type_number}
use Rattle.pcap_ng.specs.Frames.{Framed}
use Rattle.pcapfile_merge.specs.Keeping.{carried_with, first_number, with_number}
use Rattle.pcapfile_merge.specs.Little.{raw_little, turned_body}
use Rattle.pcapfile_merge.proofs.LittleOptions.{turned_length}

-- The text of a block has 12 bytes around the body.
pub raw_length : (type : BlockType) (body : List ℕ) → length (raw_little type body) ≡ length body + 12
raw_length type body =
    let write = number_bytes Little in
    let wide = (codec Little).wide in
    let number = write 4 (type_number type) in
    let len = write 4 (length body + 12) in
    omega (
      arith,
      wide 4 (type_number type),
      wide 4 (length body + 12),
      length-append number (len ++ (body ++ len)),
      length-append len (body ++ len),
      length-append body len,
    )

-- So has that of a block whose body turned.
pub turned_text : (type : BlockType) (body : List ℕ) → length (raw_little type (turned_body type body)) ≡ length body + 12
turned_text type body = raw_length type (turned_body type body) ∙ ap (λ (n : ℕ). n + 12) (turned_length type body)

-- Statistics with another interface number are as long as before.
pub same_length : (number : ℕ) (body : List ℕ) → 4 ≤ length body → length (with_number number body) ≡ length body
same_length number body long = omega (arith, (codec Little).wide 4 number, length-append (number_bytes Little 4 number) (drop 4 body), length-drop 4 body, long)

pub numbered_length : (block : Framed) (number : ℕ) → 4 ≤ length block.body → length (carried_with (with_number number block.body) block).text ≡ length block.body + 12
numbered_length block number long = raw_length block.type_ (with_number number block.body) ∙ ap (λ (n : ℕ). n + 12) (same_length number block.body long)

long_by : (body : List ℕ) (own : ℕ) (b : Bool) → (length (take 4 body) == 4) ≡ b → (if b then Some (little_number 4 (take 4 body)) else None) ≡ Some own → 4 ≤ length body
long_by body own true is some = let four : length (take 4 body) ≡ 4 = grind (arith, is) in omega (arith, four, length-take 4 body)
long_by body own false is some = absurd (none-some own some)

-- A body with a first number has its 4 bytes.
pub first_long : (body : List ℕ) (own : ℕ) → first_number body ≡ Some own → 4 ≤ length body
first_long body own some = long_by body own (length (take 4 body) == 4) refl some

-- What these lists have at an index, those have there too.
abbrev pub Grows : List ℕ → List ℕ → Type 0
Grows xs ys = (k n : ℕ) → slice_get xs k ≡ Some n → slice_get ys k ≡ Some n

get_left : (xs more : List ℕ) (k n : ℕ) → slice_get xs k ≡ Some n → slice_get (xs ++ more) k ≡ Some n
get_left [] more k n is = absurd (none-some n is)
get_left (x ∷ xs) more zero n is = is
get_left (x ∷ xs) more (suc k) n is = get_left xs more k n is

-- The numbers of interfaces stay as more are appended.
pub grown : (before : ℕ) (xs more : List ℕ) → Grows (drop before xs) (drop before (xs ++ more))
grown zero xs more k n is = get_left xs more k n is
grown (suc before) [] more k n is = absurd (none-some n is)
grown (suc before) (x ∷ xs) more k n is = grown before xs more k n is
