-- Lemmas on descriptions and comments, one block after another.
use Rattle.std.proofs.Common.{◌≡◌, ◌<◌, ◌+◌, ◌⊎◌, ◌++◌, ◌∷◌, [], ℕ, List, Bool, true, false, cond, length, map, take, drop, get_or, suc, inl, inr, refl, sym, subst, ap, ◌∙◌, arith, add-one, append_assoc, append-nil, length-append, Option, Some, None}
use Rattle.std.specs.Prelude.{⊤, count_by, filter, IsSomeAnd, MatchResult, Result, Ok, Err, String, Vec}
use Rattle.std.specs.Global.{Global}
use Rattle.std.specs.declared.alloc.AllocError.{AllocError}
use Rattle.std.specs.List.{filter_map, cons_option}
use Rattle.std.specs.Option.{option_map, option_to_list}
use Rattle.std.specs.String.{string_bytes}
use Rattle.std.proofs.Math.Seq.{take-suc}
use Rattle.std.proofs.lemmas.List.{map-append, take-append-drop}
use Rattle.std.proofs.lemmas.List.Elements.{filter_map-append}
use Rattle.std.proofs.lemmas.List.Sums.{length-filter}
use Rattle.std.proofs.lemmas.Grind.{flat_map-append}
use Rattle.pcap_core.specs.declared.errors.PcapError.{PcapError}
use Rattle.pcap_core.specs.declared.errors.PcapError.TheVariants as errors
use Rattle.pcap_core.specs.Errors.{IsMemory}
use Rattle.pcap_options.specs.Held.{string_in, under}
use Rattle.pcap_options.specs.Values.{Entry}
use Rattle.pcap_blocks.specs.declared.block_type.BlockType.{BlockType}
use Rattle.pcap_blocks.specs.declared.block_type.BlockType.TheVariants as types
use Rattle.pcap_blocks.specs.InterfaceDescription.{Interface}
use Rattle.pcap_blocks.specs.SectionHeader.{Section}
use Rattle.pcap_ng.specs.Blocks.{Item}
use Rattle.pcap_ng.specs.Frames.{Framed}
use Rattle.pcap_ng.specs.State.{interfaces_at}
use Rattle.pcap_ng.specs.State.{State, within}
use Rattle.pcapfile_run.specs.declared.checked.End.{End}
use Rattle.pcapfile_run.specs.declared.checked.End.TheVariants.{Short, Breaks, NotUtf8, Unread, Memory}
use Rattle.pcapfile_run.specs.Checks.{EndIs, FaultIs}
use Rattle.pcapfile_run.specs.Passing.{counted}
use Rattle.pcapfile_info.specs.declared.described.Described.{Described}
use Rattle.pcapfile_info.specs.declared.progress.Progress.{Progress}
use Rattle.pcapfile_info.specs.Describing.{AddsDescribed, Description, DescribesBlocks, DescribesFront, LacksMemory, HasComment, LosesNone, SameDescribed, TellsMore, begins, comments_among, comments_in, commented_by, described_by, descriptions, is_begin, last_description, number_behind, section_comments, sections_if, told_of}
use Rattle.pcapfile_info.proofs.Tallying.{count_push}

-- A text that was mapped is there if the text is.
pub some_mapped : {A B : Type 0} (f : A → B) (o : Option A) (p : Option B) → option_map f o ≡ p → IsSomeAnd o (λ x. ⊤) → IsSomeAnd p (λ x. ⊤)
some_mapped f None p is some = absurd some
some_mapped {A} {B} f (Some x) p is some = subst (λ (q : Option B). IsSomeAnd q (λ y. ⊤)) is tt

given_of : {X : Type 0} (x : Option X) → cons_option x [] ≡ option_to_list x
given_of None = refl
given_of (Some x) = refl

one_given : {E X : Type 0} (h : E → Option X) (e : E) → filter_map h (e ∷ []) ≡ option_to_list (h e)
one_given h e = given_of (h e)

-- One more element appends what it gives.
pub given_more : {O E X : Type 0} (view : O → E) (h : E → Option X) (items : List O) (i : ℕ) (o : O) (start before after : List X) → i < length items → o ≡ get_or items i o
    → before ≡ start ++ filter_map h (map view (take i items)) → after ≡ before ++ option_to_list (h (view o)) → after ≡ start ++ filter_map h (map view (take (i + 1) items))
given_more view h items i o start before after less is so_far adds =
    let more : take (suc i) items ≡ take i items ++ (o ∷ []) = take-suc items i o less ∙ ap (λ y. take i items ++ (y ∷ [])) (sym is) in
    let split : map view (take (suc i) items) ≡ map view (take i items) ++ (view o ∷ []) = ap (map view) more ∙ map-append view (take i items) (o ∷ []) in
    let one : filter_map h (view o ∷ []) ≡ option_to_list (h (view o)) = one_given h (view o) in
    let all : filter_map h (map view (take (i + 1) items)) ≡ filter_map h (map view (take i items)) ++ option_to_list (h (view o)) =
    ap (λ k. filter_map h (map view (take k items))) (add-one i) ∙ ap (filter_map h) split ∙ filter_map-append h (map view (take i items)) (view o ∷ []) ∙ ap (λ l. filter_map h (map view (take i items)) ++ l) one in
    adds ∙ ap (λ l. l ++ option_to_list (h (view o))) so_far ∙ append_assoc start (filter_map h (map view (take i items))) (option_to_list (h (view o))) ∙ ap (λ l. start ++ l) (sym all)

length_some : {X : Type 0} (x : Option X) → IsSomeAnd x (λ given. ⊤) → length (option_to_list x) ≡ 1
length_some None some = absurd some
length_some (Some x) some = refl

-- If an option is a comment, there is a comment among the options.
pub some_among : {O : Type 0} (view : O → Entry) (options : List O) (i : ℕ) (o : O) → i < length options → o ≡ get_or options i o
    → IsSomeAnd (under 1 string_in (view o)) (λ given. ⊤) → HasComment (map view options)
some_among view options i o less is some =
    let h : Entry → Option (List ℕ) = under 1 string_in in
    let front : List (List ℕ) = filter_map h (map view (take i options)) in
    let step : front ++ option_to_list (h (view o)) ≡ filter_map h (map view (take (i + 1) options)) =
    given_more view h options i o [] front (front ++ option_to_list (h (view o))) less is refl refl in
    let split : comments_among (map view options) ≡ filter_map h (map view (take (i + 1) options)) ++ filter_map h (map view (drop (i + 1) options)) =
    ap (λ l. filter_map h (map view l)) (sym (take-append-drop (i + 1) options)) ∙ ap (filter_map h) (map-append view (take (i + 1) options) (drop (i + 1) options))
    ∙ filter_map-append h (map view (take (i + 1) options)) (map view (drop (i + 1) options)) in
    omega (
      arith,
      ap length split,
      length-append (filter_map h (map view (take (i + 1) options))) (filter_map h (map view (drop (i + 1) options))),
      ap length step,
      length-append front (option_to_list (h (view o))),
      length_some (h (view o)) some,
    )

count_if : {X : Type 0} (starts : Bool) (x : X) (xs : List X) → length (cond starts (x ∷ xs) xs) ≡ sections_if starts + length xs
count_if true x xs = omega arith
count_if false x xs = omega arith

descriptions_push : (n : ℕ) (items : List Item) (item : Item)
    → descriptions n (items ++ item ∷ []) ≡ descriptions n items ++ described_by item.block.type_ (counted (n + count_by is_begin items)) (interfaces_at item.after)
descriptions_push n [] item =
    append-nil (described_by item.block.type_ (counted n) (interfaces_at item.after)) ∙ ap (λ (k : ℕ). described_by item.block.type_ (counted k) (interfaces_at item.after)) (omega arith)
descriptions_push n (begun ∷ items) item =
    let here = described_by begun.block.type_ (counted n) (interfaces_at begun.after) in
    let next = n + sections_if (is_begin begun) in
    let last = λ (k : ℕ). described_by item.block.type_ (counted k) (interfaces_at item.after) in
    let counts : next + count_by is_begin items ≡ n + count_by is_begin (begun ∷ items) = omega (arith, count_if (is_begin begun) begun (filter is_begin items), length-filter is_begin items, length-filter is_begin (begun ∷ items)) in
    ap (λ (l : List Description). here ++ l) (descriptions_push next items item) ∙ sym (append_assoc here (descriptions next items) (last (next + count_by is_begin items)))
    ∙ ap (λ (k : ℕ). (here ++ descriptions next items) ++ last k) counts

comments_push : (items : List Item) (item : Item) → comments_in (items ++ item ∷ []) ≡ comments_in items ++ commented_by item.block.type_ item.after
comments_push items item =
    flat_map-append (λ (i : Item). commented_by i.block.type_ i.after) items (item ∷ []) ∙ ap (λ (l : List (List ℕ)). comments_in items ++ l) (append-nil (commented_by item.block.type_ item.after))

-- One more block adds its descriptions and comments.
pub described_more : (first : State) (items : List Item) (block : Framed) (section : Section) (interfaces : List Interface) (old new : Progress) → DescribesBlocks first items old.described.items old.comments.items
    → old.section ≡ counted (1 + count_by is_begin items) → AddsDescribed block.type_ section interfaces old new
    → DescribesBlocks first (items ++ record { block = block; after = within section interfaces } ∷ []) new.described.items new.comments.items
described_more first items block section interfaces old new before number adds =
    let item : Item = record { block = block; after = within section interfaces } in
    record {
      described_are = adds.described_are ∙ ap (λ (l : List Description). l ++ described_by block.type_ old.section interfaces) before.described_are
          ∙ ap (λ (k : ℕ). descriptions 1 items ++ described_by block.type_ k interfaces) number ∙ sym (descriptions_push 1 items item);
      comments_are = adds.comments_are ∙ ap (λ (l : List (List ℕ)). l ++ commented_by block.type_ (within section interfaces)) before.comments_are
          ∙ append_assoc (section_comments first) (comments_in items) (commented_by block.type_ (within section interfaces))
          ∙ ap (λ (l : List (List ℕ)). section_comments first ++ l) (sym (comments_push items item));
    }

number_push : (starts : Bool) (number n : ℕ) → number ≡ counted (1 + n) → number_behind starts number ≡ counted (1 + (n + cond starts 1 0))
number_push true number n is = omega (arith, is)
number_push false number n is = omega (arith, is)

-- One more block updates the number of the current section.
pub section_more : (items : List Item) (block : Framed) (section : Section) (interfaces : List Interface) (old new : Progress) → old.section ≡ counted (1 + count_by is_begin items) → AddsDescribed block.type_ section interfaces old new
    → new.section ≡ counted (1 + count_by is_begin (items ++ record { block = block; after = within section interfaces } ∷ []))
section_more items block section interfaces old new number adds =
    let item : Item = record { block = block; after = within section interfaces } in
    adds.section_is ∙ number_push (begins block.type_) old.section (count_by is_begin items) number ∙ ap (λ (k : ℕ). counted (1 + k)) (sym (count_push is_begin items item))

-- Descriptions are unchanged if only counts change.
pub described_behind : (type : BlockType) (section : Section) (interfaces : List Interface) (old mid new : Progress) → AddsDescribed type section interfaces old mid → SameDescribed mid new → AddsDescribed type section interfaces old new
described_behind type section interfaces old mid new adds (number, described, comments) = record {
  section_is = number ∙ adds.section_is;
  described_are = ap (λ (v : Vec Described Global). map told_of v.items) described ∙ adds.described_are;
  comments_are = ap (λ (v : Vec (String Global) Global). map string_bytes v.items) comments ∙ adds.comments_are;
}

-- Nothing is lost if nothing changed.
pub same_loses : (old new : Progress) → new.described.items ≡ old.described.items → new.comments.items ≡ old.comments.items → LosesNone old new
same_loses old new described comments = record {
  described_begin = ([], ap (map told_of) described ∙ sym (append-nil (map told_of old.described.items)));
  comments_begin = ([], ap (map string_bytes) comments ∙ sym (append-nil (map string_bytes old.comments.items)));
}

-- The description of an interface was added, or nothing was.
pub describes_or_loses : (section : Section) (interfaces : List Interface) (old new : Progress) (r : Result (Unit {0}) AllocError)
    → new.section ≡ old.section → new.comments ≡ old.comments
    → MatchResult r (λ done. map told_of new.described.items ≡ map told_of old.described.items ++ option_to_list (last_description old.section interfaces))
    (λ e. new.described.items ≡ old.described.items)
    → MatchResult r (λ done. AddsDescribed types.InterfaceDescription section interfaces old new) (λ e. LosesNone old new)
describes_or_loses section interfaces old new (Ok done) number comments described = record {
  section_is = number;
  described_are = described;
  comments_are = ap (λ (v : Vec (String Global) Global). map string_bytes v.items) comments ∙ sym (append-nil (map string_bytes old.comments.items));
}
describes_or_loses section interfaces old new (Err e) number comments described = same_loses old new described (ap (λ (v : Vec (String Global) Global). v.items) comments)

-- The comments on a section were added, or some of them.
pub comments_or_loses : (section : Section) (interfaces : List Interface) (old new : Progress) (r : Result (Unit {0}) AllocError)
    → new.section ≡ counted (old.section + 1) → new.described ≡ old.described
    → MatchResult r (λ done. map string_bytes new.comments.items ≡ map string_bytes old.comments.items ++ comments_among section.options)
    (λ e. TellsMore (map string_bytes old.comments.items) (map string_bytes new.comments.items) × HasComment section.options)
    → MatchResult r (λ done. AddsDescribed types.SectionHeader section interfaces old new) (λ e. LosesNone old new)
comments_or_loses section interfaces old new (Ok done) number described comments = record {
  section_is = number;
  described_are = ap (λ (v : Vec Described Global). map told_of v.items) described ∙ sym (append-nil (map told_of old.described.items));
  comments_are = comments;
}
comments_or_loses section interfaces old new (Err e) number described comments = record {
  described_begin = ([], ap (λ (v : Vec Described Global). map told_of v.items) described ∙ sym (append-nil (map told_of old.described.items)));
  comments_begin = comments.0;
}

-- A block that adds descriptions and comments loses none.
pub adds_loses : (type : BlockType) (section : Section) (interfaces : List Interface) (old mid new : Progress)
    → AddsDescribed type section interfaces old mid → SameDescribed mid new → LosesNone old new
adds_loses type section interfaces old mid new adds same =
    let all = described_behind type section interfaces old mid new adds same in
    record { described_begin = (described_by type old.section interfaces, all.described_are); comments_begin = (commented_by type (within section interfaces), all.comments_are) }

-- A step that loses nothing keeps the descriptions and comments of the blocks before it.
pub front_kept : (first : State) (items : List Item) (old new : Progress) → DescribesBlocks first items old.described.items old.comments.items → LosesNone old new
    → DescribesFront first items new.described.items new.comments.items
front_kept first items old new told loses = record {
  described_begin = (loses.described_begin.0, loses.described_begin.1 ∙ ap (λ (l : List Description). l ++ loses.described_begin.0) told.described_are);
  comments_begin = (loses.comments_begin.0, loses.comments_begin.1 ∙ ap (λ (l : List (List ℕ)). l ++ loses.comments_begin.0) told.comments_are);
}

-- A run that ends out of memory reports it.
pub memory_end : (e : PcapError) (failed : Bool) (end : End) → IsMemory e → FaultIs e failed end → end ≡ Memory
memory_end (errors.OutOfMemory x) failed Short memory is = absurd is.0
memory_end (errors.OutOfMemory x) failed (Breaks rule) memory is = absurd is
memory_end (errors.OutOfMemory x) failed NotUtf8 memory is = absurd (is.1 memory)
memory_end (errors.OutOfMemory x) failed (Unread error) memory is = absurd is.1
memory_end (errors.OutOfMemory x) failed Memory memory is = refl
memory_end (errors.OutOfMemory x) failed end memory is = absurd is
memory_end _ failed end memory is = absurd memory

pub described_to_end : (fault : Option PcapError) (failed : Bool) (n most : ℕ) (end : End) (F D : Type 0) → (LacksMemory fault × F) ⊎ D → EndIs fault failed n most end → ((end ≡ Memory) × F) ⊎ D
described_to_end None failed n most end F D kept is = elim kept [ inl lacks ↦ absurd lacks.0 | inr d ↦ inr d ]
described_to_end (Some e) failed n most end F D kept is = elim kept [ inl lacks ↦ inl (memory_end e failed end lacks.0 is, lacks.1) | inr d ↦ inr d ]
