-- This file proves facts about the names of words.
use Rattle.std.proofs.Common.{◌≡◌, ◌<◌, ℕ, List, [], ◌∷◌, Bool, true, false, nat_eq, slice_index_or, ap, refl, sym, subst, ◌∙◌, arith}
use Rattle.std.specs.Prelude.{◌≢◌}
use Rattle.std.specs.Cmp.Lexicographic.{pointwise}
use Rattle.pcapfile_command.specs.declared.words.Word.{Word}
use Rattle.pcapfile_command.specs.declared.words.Word.TheVariants as words
use Rattle.pcapfile_command.specs.Words.{name_of}

-- The place of a word in the list of all words.
abbrev pub place_of : Word → ℕ
place_of words.Check = 0
place_of words.Info = 1
place_of words.List = 2
place_of words.Convert = 3
place_of words.Cut = 4
place_of words.Join = 5
place_of words.Merge = 6
place_of words.Sort = 7
place_of words.Repair = 8

-- Every word is in the list.
pub placed : (word : Word) → place_of word < 9
placed words.Check = omega arith
placed words.Info = omega arith
placed words.List = omega arith
placed words.Convert = omega arith
placed words.Cut = omega arith
placed words.Join = omega arith
placed words.Merge = omega arith
placed words.Sort = omega arith
placed words.Repair = omega arith

-- A name is the same text as itself.
pub alike : (word : Word) → true ≡ pointwise nat_eq (name_of word) (name_of word)
alike words.Check = refl
alike _ = refl

-- All words, in the order of the list.
abbrev pub all : List Word
all = words.Check ∷ words.Info ∷ words.List ∷ words.Convert ∷ words.Cut ∷ words.Join ∷ words.Merge ∷ words.Sort ∷ words.Repair ∷ []

-- Each word is at its place.
pub at_place : (word : Word) → slice_index_or all (place_of word) words.Check ≡ word
at_place words.Check = refl
at_place words.Info = refl
at_place words.List = refl
at_place words.Convert = refl
at_place words.Cut = refl
at_place words.Join = refl
at_place words.Merge = refl
at_place words.Sort = refl
at_place words.Repair = refl

-- If the name of a word is another text than this one, the word doesn't have this name.
pub other_name : (word self : Word) (told name : List ℕ) (is_same : Bool) → self ≡ word → told ≡ name_of self → is_same ≡ pointwise nat_eq told name → is_same ≡ false → name_of word ≢ name
other_name word self told name is_same is called test fails same =
    let told_alike = subst (λ (t : List ℕ). true ≡ pointwise nat_eq t (name_of word)) (sym (called ∙ ap name_of is)) (alike word) in
    let alike_name = subst (λ (n : List ℕ). true ≡ pointwise nat_eq told n) same told_alike in
    let x : true ≡ false = alike_name ∙ sym test ∙ fails in
    absurd cc
