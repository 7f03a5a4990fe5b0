-- Lemmas on what a part of a PcapNg capture begins with.
use Rattle.std.proofs.Common.{◌≡◌, ◌++◌, ℕ, List, [], ◌∷◌, Bool, true, false, refl, sym, ap, ◌∙◌, append-nil}
use Rattle.std.specs.Prelude.{if◌then◌else◌}
use Rattle.std.proofs.lemmas.List.{append_assoc}
use Rattle.std.proofs.lemmas.List.Elements.{All-head, All-tail}
use Rattle.std.proofs.lemmas.Bool.{true≢false}
use Rattle.pcapfile_cut.specs.Repeating.{HasNoHeader, Typed, about_packets, is_about_packets, is_header, opening_after, opening_behind, texts_of}

-- The opening after blocks and further blocks.
pub behind_more : (opening : List ℕ) (blocks more : List Typed) → opening_behind opening (blocks ++ more) ≡ opening_behind (opening_behind opening blocks) more
behind_more opening [] more = refl
behind_more opening (block ∷ blocks) more = behind_more (opening_after opening block) blocks more

one_more : (opening : List ℕ) (block : Typed) (blocks : List Typed) (header about : Bool) → header ≡ false
    → (if header then block.text else if about then opening ++ block.text else opening) ++ texts_of blocks ≡ opening ++ texts_of (if about then block ∷ blocks else blocks)
one_more opening block blocks true about isnt = absurd (true≢false isnt)
one_more opening block blocks false true isnt = append_assoc opening block.text (texts_of blocks)
one_more opening block blocks false false isnt = refl

-- Within a section the opening grows by the blocks that say something of the packets after them.
pub goes_on : (opening : List ℕ) (blocks : List Typed) → HasNoHeader blocks → opening_behind opening blocks ≡ opening ++ texts_of (about_packets blocks)
goes_on opening [] none = sym (append-nil opening)
goes_on opening (block ∷ blocks) none =
    goes_on (opening_after opening block) blocks (All-tail (λ (it : Typed). is_header it.type_ ≡ false) block blocks none)
    ∙ one_more opening block (about_packets blocks) (is_header block.type_) (is_about_packets block.type_) (All-head (λ (it : Typed). is_header it.type_ ≡ false) block blocks none)

begun : (opening : List ℕ) (header : Typed) (is about : Bool) → is ≡ true → (if is then header.text else if about then opening ++ header.text else opening) ≡ header.text
begun opening header true about same = refl
begun opening header false about same = absurd (true≢false (sym same))

-- A section header begins the opening anew.
pub begins : (opening : List ℕ) (before after : List Typed) (header : Typed) → is_header header.type_ ≡ true → HasNoHeader after
    → opening_behind opening (before ++ header ∷ after) ≡ header.text ++ texts_of (about_packets after)
begins opening before after header is none =
    let old = opening_behind opening before in
    behind_more opening before (header ∷ after)
    ∙ goes_on (opening_after old header) after none
    ∙ ap (λ (l : List ℕ). l ++ texts_of (about_packets after)) (begun old header (is_header header.type_) (is_about_packets header.type_) is)
