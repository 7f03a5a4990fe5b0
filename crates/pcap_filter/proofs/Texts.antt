-- Proofs about programs as text, a line at a time.
use Rattle.std.proofs.Common.{◌≡◌, ◌≢◌, ◌++◌, ◌==◌, ℕ, List, [], ◌∷◌, length, Bool, true, false, Option, sym, subst, ap, ◌∙◌}
use Rattle.pcap_filter.specs.declared.program.Instruction.{Instruction}
use Rattle.pcap_filter.specs.Texts.{AreLines, IsLine, ReadsWords, behind_line, first_line}

-- One more line may follow the lines of instructions.
pub lines_more : (text rest : List ℕ) (before : List Instruction) (instruction : Instruction) → AreLines text before rest → rest ≢ [] →
    IsLine (first_line rest) instruction → AreLines text (before ++ (instruction ∷ [])) (behind_line rest)
lines_more text rest [] instruction lines some line =
    (λ none. some (sym lines ∙ none), subst (λ (l : List ℕ). IsLine (first_line l) instruction) (sym lines) line, ap behind_line lines)
lines_more text rest (first ∷ before) instruction lines some line =
    (lines.0, lines.1, lines_more (behind_line text) rest before instruction lines.2 some line)

-- Equal words are read as the same instruction.
pub same_words : (result : Option Instruction) (a b c d a' b' c' d' : List ℕ) → a ≡ a' → b ≡ b' → c ≡ c' → d ≡ d' → ReadsWords result a b c d → ReadsWords result a' b' c' d'
same_words result a b c d a' b' c' d' first second third fourth reads =
    subst (λ (w : List ℕ). ReadsWords result a' b' c' w) fourth
    (subst (λ (w : List ℕ). ReadsWords result a' b' w d) third (subst (λ (w : List ℕ). ReadsWords result a' w c d) second (subst (λ (w : List ℕ). ReadsWords result w b c d) first reads)))

-- A text whose length is not 0 is not empty.
pub some_left : (is_empty : Bool) (text : List ℕ) → is_empty ≡ false → is_empty ≡ (length text == 0) → text ≢ []
some_left is_empty text is test none =
    let both : false ≡ true = sym is ∙ (test ∙ ap (λ (l : List ℕ). length l == 0) none) in
    absurd cc
