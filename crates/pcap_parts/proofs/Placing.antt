-- Proofs about the places of the blocks of a walk.
use Rattle.std.proofs.Common.{◌≡◌, ◌≤◌, ◌+◌, ◌-◌, ℕ, List, [], ◌∷◌, ◌++◌, length, map, take, drop, Bool, true, false}
use Rattle.std.proofs.Common.{refl, sym, ap, subst, ◌∙◌, arith, length-append, append-nil, append_assoc, length-drop}
use Rattle.std.specs.Prelude.{if◌then◌else◌}
use Rattle.std.specs.List.{AllByRecursion}
use Rattle.std.proofs.lemmas.List.{drop-append-le, drop_all, map-append, take-append-le, take_all}
use Rattle.std.proofs.lemmas.List.Elements.{All-nil, All-push}
use Rattle.pcap_core.specs.declared.common.Endianness.{Endianness}
use Rattle.pcap_core.specs.Answer.{number_in, whole}
use Rattle.pcap_items.specs.Format.{Texts}
use Rattle.pcap_items.proofs.Formats.{state_push, texts_push}
use Rattle.pcap_blocks.specs.declared.block_type.BlockType.{BlockType}
use Rattle.pcap_blocks.specs.declared.block_type.BlockType.TheVariants as types
use Rattle.pcap_ng.specs.Blocks.{Item, BlockSays, block_format}
use Rattle.pcap_ng.specs.Frames.{Framed, FrameText}
use Rattle.pcap_ng.specs.Opening.{OpeningSays}
use Rattle.pcap_ng.specs.Sections.{Leaves, is_interface, is_section}
use Rattle.pcap_ng.specs.State.{State, opening, within, order_at}
use Rattle.pcap_ng.proofs.Frames.{head_long, number_long}
use Rattle.pcap_ng.proofs.Sections.{texts_leave}
use Rattle.pcap_parts.specs.declared.cut_ng.NgCut.{NgCut}
use Rattle.pcap_parts.specs.NgParts.{GoesOn, ResumesAt, places_at}
use Rattle.pcap_parts.specs.Places.{IsPlaced, StandsInForce, TellAllPlaces, TellsPlaces, bytes_of, interfaces_from}

abbrev block_in : Item → Framed
block_in item = item.block

abbrev one_at : Bool → ℕ → List ℕ
one_at is place = if is then place ∷ [] else []

-- A block takes as many bytes as its length says.
block_bytes : (e : Endianness) (b : Framed) (s rest : List ℕ) → FrameText e b s rest → length s ≡ b.initial_len + length rest
block_bytes e b s rest t =
    let tail = t.tail in
    let sum : length t.after ≡ length b.body + length tail.after_body = ap length tail.body_is ∙ length-append b.body tail.after_body in
    let head : length s ≡ 8 + length t.after = head_long e t.number b.initial_len b.endianness s t.after t.head in
    let last : length tail.after_body ≡ 4 + length rest = number_long (number_in b.endianness) 4 b.trailer_len tail.after_body rest tail.trailer_is in
    omega (arith, head, sum, tail.length_is, last)

-- Blocks take the bytes before what is left.
blocks_bytes : (q : State) (items : List Item) (s rest : List ℕ) → Texts block_format q items s rest → length s ≡ bytes_of (map block_in items) + length rest
unfolding block_format
blocks_bytes q [] s rest texts = omega (arith, ap length {x = s} {y = rest} texts)
blocks_bytes q (item ∷ items) s rest texts =
    omega (arith, block_bytes (order_at q) item.block s texts.0 texts.1.frame, blocks_bytes item.after items texts.0 rest texts.2)

bytes_all : (bs cs : List Framed) → bytes_of (bs ++ cs) ≡ bytes_of bs + bytes_of cs
bytes_all [] cs = omega arith
bytes_all (b ∷ bs) cs = omega (arith, bytes_all bs cs)

-- One more block adds its place to the places of interface descriptions if it is one.
interfaces_push : (place : ℕ) (bs : List Framed) (b : Framed)
    → interfaces_from place (bs ++ b ∷ []) ≡ interfaces_from place bs ++ one_at (is_interface b.type_) (place + bytes_of bs)
interfaces_push place [] b =
    let here : place ≡ place + 0 = omega arith in
    append-nil (one_at (is_interface b.type_) place) ∙ ap (λ (n : ℕ). one_at (is_interface b.type_) n) here
interfaces_push place (x ∷ xs) b =
    let one = one_at (is_interface x.type_) place in
    let next = place + x.initial_len in
    let there : next + bytes_of xs ≡ place + (x.initial_len + bytes_of xs) = omega arith in
    ap (λ (l : List ℕ). one ++ l) (interfaces_push next xs b ∙ ap (λ (n : ℕ). interfaces_from next xs ++ one_at (is_interface b.type_) n) there)
    ∙ sym (append_assoc one (interfaces_from next xs) (one_at (is_interface b.type_) (place + (x.initial_len + bytes_of xs))))

-- One more block adds its place to the places of all interface descriptions if it is one.
all_push : (bs : List Framed) (b : Framed) → interfaces_from 0 (bs ++ b ∷ []) ≡ interfaces_from 0 bs ++ one_at (is_interface b.type_) (bytes_of bs)
all_push bs b =
    let none : 0 + bytes_of bs ≡ bytes_of bs = omega arith in
    interfaces_push 0 bs b ∙ ap (λ (n : ℕ). interfaces_from 0 bs ++ one_at (is_interface b.type_) n) none

-- One more block that is not a section header leaves the last section header in force.
stands_push : (blocks : List Framed) (b : Framed) (header first : ℕ) (places : List ℕ) → StandsInForce blocks header first places → is_section b.type_ ≡ false
    → StandsInForce (blocks ++ b ∷ []) header first (places ++ one_at (is_interface b.type_) (bytes_of blocks))
stands_push blocks b header first places x none =
    let behind = header + x.block.initial_len in
    let size : bytes_of blocks ≡ bytes_of x.before + (x.block.initial_len + bytes_of x.after) = ap bytes_of x.split ∙ bytes_all x.before (x.block ∷ x.after) in
    let here : bytes_of blocks ≡ behind + bytes_of x.after = omega (arith, size, x.header_is) in
    record {
      before = x.before;
      block = x.block;
      after = x.after ++ b ∷ [];
      split = ap (λ (l : List Framed). l ++ b ∷ []) x.split ∙ append_assoc x.before (x.block ∷ x.after) (b ∷ []);
      is_header = x.is_header;
      is_last = All-push (λ (c : Framed). is_section c.type_ ≡ false) x.after b x.is_last none;
      header_is = x.header_is;
      first_is = x.first_is;
      places_are = ap (λ (l : List ℕ). l ++ one_at (is_interface b.type_) (bytes_of blocks)) x.places_are
          ∙ ap (λ (n : ℕ). interfaces_from behind x.after ++ one_at (is_interface b.type_) n) here ∙ sym (interfaces_push behind x.after b);
    }

-- A section header at the end of the blocks is in force, without interfaces.
stands_alone : (blocks : List Framed) (b : Framed) (header first : ℕ) (places : List ℕ) → is_section b.type_ ≡ true → header ≡ bytes_of blocks
    → first ≡ length (interfaces_from 0 blocks) → places ≡ []
    → StandsInForce (blocks ++ b ∷ []) header first places
stands_alone blocks b header first places is here count none = record {
  before = blocks;
  block = b;
  after = [];
  split = refl;
  is_header = is;
  is_last = All-nil (λ (c : Framed). is_section c.type_ ≡ false);
  header_is = here;
  first_is = count;
  places_are = none;
}

pub section_no_interface : (t : BlockType) → is_section t ≡ true → is_interface t ≡ false
section_no_interface types.InterfaceDescription is = absurd cc
section_no_interface _ is = refl

pub no_section : (t : BlockType) → (t ≡ types.SectionHeader → ⊥) → is_section t ≡ false
no_section types.SectionHeader none = absurd (none refl)
no_section _ none = refl

pub no_interface : (t : BlockType) → (t ≡ types.InterfaceDescription → ⊥) → is_interface t ≡ false
no_interface types.InterfaceDescription none = absurd (none refl)
no_interface _ none = refl

module _ (bytes left after : List ℕ) (q : State) (header first : ℕ) (places : List ℕ) (item : Item)
    (placed : IsPlaced bytes left q header first places) (text : BlockSays q left (whole item after)) where
  abbrev blocks : List Framed
  blocks = map block_in placed.items

  here : length bytes - length left ≡ bytes_of blocks
  here = omega (arith, blocks_bytes opening placed.items bytes left placed.texts)

  more : map block_in (placed.items ++ item ∷ []) ≡ blocks ++ item.block ∷ []
  more = map-append block_in placed.items (item ∷ [])

  placed_to : (header_now first_now : ℕ) (now : List ℕ) → StandsInForce (blocks ++ item.block ∷ []) header_now first_now (drop first_now now)
      → now ≡ places ++ one_at (is_interface item.block.type_) (bytes_of blocks) → IsPlaced bytes after item.after header_now first_now now
  unfolding block_format
  placed_to header_now first_now now stands is =
      let here = subst (λ (p : State). block_format.says p left (whole item after)) (sym placed.leads) text in
      let known = ap (λ (l : List ℕ). l ++ one_at (is_interface item.block.type_) (bytes_of blocks)) placed.all in
      record {
        items = placed.items ++ item ∷ [];
        texts = texts_push block_format opening placed.items item bytes left after placed.texts here;
        leads = state_push block_format opening placed.items item;
        in_force = subst (λ (l : List Framed). StandsInForce l header_now first_now (drop first_now now)) (sym more) stands;
        all = is ∙ known ∙ sym (all_push blocks item.block) ∙ ap (λ (l : List Framed). interfaces_from 0 l) (sym more);
      }

  -- A section header is in force at its place.
  pub placed_section : item.block.type_ ≡ types.SectionHeader → IsPlaced bytes after item.after (length bytes - length left) (length places) places
  placed_section is =
      let section : is_section item.block.type_ ≡ true = ap is_section is in
      let none : is_interface item.block.type_ ≡ false = ap is_interface is in
      let nothing : one_at (is_interface item.block.type_) (bytes_of blocks) ≡ [] = ap (λ (b : Bool). one_at b (bytes_of blocks)) none in
      let place = length bytes - length left in
      let count = length places in
      placed_to place count places
      (stands_alone blocks item.block place count (drop count places) section here (ap length placed.all) (drop_all count places (omega arith)))
      (sym (ap (λ (l : List ℕ). places ++ l) nothing ∙ append-nil places))

  -- An interface is in force at its place.
  pub placed_interface : first ≤ length places → item.block.type_ ≡ types.InterfaceDescription
      → IsPlaced bytes after item.after header first (places ++ (length bytes - length left) ∷ [])
  placed_interface inside is =
      let section : is_section item.block.type_ ≡ false = ap is_section is in
      let one : one_at (is_interface item.block.type_) (bytes_of blocks) ≡ (length bytes - length left) ∷ [] =
      ap (λ (b : Bool). one_at b (bytes_of blocks)) (ap is_interface is) ∙ ap (λ (n : ℕ). n ∷ []) (sym here) in
      let place = (length bytes - length left) ∷ [] in
      let there : drop first places ++ one_at (is_interface item.block.type_) (bytes_of blocks) ≡ drop first (places ++ place) =
      ap (λ (l : List ℕ). drop first places ++ l) one ∙ sym (drop-append-le first places place inside) in
      placed_to header first (places ++ place)
      (subst (λ (l : List ℕ). StandsInForce (blocks ++ item.block ∷ []) header first l) there
      (stands_push blocks item.block header first (drop first places) placed.in_force section))
      (ap (λ (l : List ℕ). places ++ l) (sym one))

  -- Any other block leaves the places in force unchanged.
  pub placed_other : is_section item.block.type_ ≡ false → is_interface item.block.type_ ≡ false → IsPlaced bytes after item.after header first places
  placed_other section none =
      let nothing : one_at (is_interface item.block.type_) (bytes_of blocks) ≡ [] = ap (λ (b : Bool). one_at b (bytes_of blocks)) none in
      let there : drop first places ++ one_at (is_interface item.block.type_) (bytes_of blocks) ≡ drop first places =
      ap (λ (l : List ℕ). drop first places ++ l) nothing ∙ append-nil (drop first places) in
      placed_to header first places
      (subst (λ (l : List ℕ). StandsInForce (blocks ++ item.block ∷ []) header first l) there
      (stands_push blocks item.block header first (drop first places) placed.in_force section))
      (sym (ap (λ (l : List ℕ). places ++ l) nothing ∙ append-nil places))

-- If a list of one block has a section header, the block is that header.
one_block : (b h : Framed) (us vs : List Framed) → b ∷ [] ≡ us ++ h ∷ vs → is_section h.type_ ≡ true → is_section b.type_ ≡ true
one_block b h [] vs e is = let same : b ≡ h = cc in ap (λ (x : Framed). is_section x.type_) same ∙ is
one_block b h (u ∷ us) vs e is = absurd (omega (arith, ap length {x = b ∷ []} {y = u ∷ us ++ h ∷ vs} e, length-append us (h ∷ vs)))

opens_section : (b : Framed) (q : State) → Leaves (b ∷ []) q → is_section b.type_ ≡ true
opens_section b opening x = absurd x
opens_section b (within section interfaces) x = one_block b x.header x.before x.after x.split x.is_header

-- Behind the first section header, only this header is in force.
pub placed_first : (bytes after : List ℕ) (q : State) → OpeningSays bytes (whole q after) → IsPlaced bytes after q 0 0 []
unfolding block_format
placed_first bytes after q x =
    let first : Item = record { block = x.0; after = q } in
    let section = opens_section x.0 q (texts_leave first [] bytes after (after, x.1, refl)) in
    let nothing : one_at (is_interface x.0.type_) 0 ≡ [] = ap (λ (b : Bool). one_at b 0) (section_no_interface x.0.type_ section) in
    record {
      items = first ∷ [];
      texts = (after, x.1, refl);
      leads = refl;
      in_force = stands_alone [] x.0 0 0 [] section refl refl refl;
      all = sym (append-nil (one_at (is_interface x.0.type_) 0) ∙ nothing);
    }

module _ (bytes : List ℕ) where
  -- At the position of a walk, its places are those of the cut.
  pub tells_here : (left places : List ℕ) (p : State) (cut : NgCut) → IsPlaced bytes left p cut.header cut.first places
      → cut.at.offset + length left ≡ length bytes → cut.interfaces ≡ length places - cut.first
      → TellsPlaces bytes places cut
  tells_here left places p cut placed place all =
      let these : places_at places cut ≡ drop cut.first places =
      take_all cut.interfaces (drop cut.first places) (omega (arith, all, length-drop cut.first places)) in
      record {
        items = placed.items;
        rest = left;
        texts = placed.texts;
        place = place;
        in_force = subst (λ (l : List ℕ). StandsInForce (map block_in placed.items) cut.header cut.first l) (sym these) placed.in_force;
      }

  tells_further : (places now : List ℕ) (cut : NgCut) → GoesOn places now → cut.first + cut.interfaces ≤ length places → TellsPlaces bytes places cut
      → TellsPlaces bytes now cut
  tells_further places now cut on inside x =
      let behind : drop cut.first now ≡ drop cut.first places ++ on.0 =
      ap (λ (l : List ℕ). drop cut.first l) on.1 ∙ drop-append-le cut.first places on.0 (omega (arith, inside)) in
      let these : places_at now cut ≡ places_at places cut =
      ap (λ (l : List ℕ). take cut.interfaces l) behind
      ∙ take-append-le cut.interfaces (drop cut.first places) on.0 (omega (arith, inside, length-drop cut.first places)) in
      record {
        items = x.items;
        rest = x.rest;
        texts = x.texts;
        place = x.place;
        in_force = subst (λ (l : List ℕ). StandsInForce (map block_in x.items) cut.header cut.first l) (sym these) x.in_force;
      }

  -- The places of cuts stay valid if the list of places grows.
  pub all_tell_further : (q : State) (s places now : List ℕ) (cuts : List NgCut) → GoesOn places now → AllByRecursion (ResumesAt bytes places q s) cuts
      → AllByRecursion (TellsPlaces bytes places) cuts
      → AllByRecursion (TellsPlaces bytes now) cuts
  all_tell_further q s places now [] on resume all = tt
  all_tell_further q s places now (c ∷ cs) on resume all =
      (tells_further places now c on resume.0.within all.0, all_tell_further q s places now cs on resume.1 all.1)

  -- Cuts that are not behind the beginning of `left` are not behind the beginning of `after`.
  pub stand_before : (left after : List ℕ) (cuts : List NgCut) → length after ≤ length left
      → AllByRecursion (λ (cut : NgCut). cut.at.offset + length left ≤ length bytes) cuts
      → AllByRecursion (λ (cut : NgCut). cut.at.offset + length after ≤ length bytes) cuts
  stand_before left after [] less all = tt
  stand_before left after (c ∷ cs) less all = (omega (arith, less, all.0), stand_before left after cs less all.1)

  -- At the end of a walk, its places are the places of all cuts.
  pub tell_all : (left : List ℕ) (p : State) (header first : ℕ) (places : List ℕ) (cuts : List NgCut) → IsPlaced bytes left p header first places
      → AllByRecursion (λ (cut : NgCut). cut.at.offset + length left ≤ length bytes) cuts → AllByRecursion (TellsPlaces bytes places) cuts
      → TellAllPlaces bytes places cuts
  tell_all left p header first places cuts placed far each =
      record { items = placed.items; rest = left; texts = placed.texts; all = placed.all; as_far = far; each = each }
