-- This file defines the words that the program knows.
use Rattle.std.specs.Prelude.{◌≡◌, ℕ, List, [], ◌∷◌, map, codes}
use Rattle.std.specs.Borrow.{Bor}
use Rattle.pcap_core.specs.declared.common.Endianness.{Endianness}
use Rattle.pcap_core.specs.declared.common.Endianness.TheVariants.{Big, Little}
use Rattle.pcap_classic.specs.declared.common.TsResolution.{TsResolution}
use Rattle.pcap_classic.specs.declared.common.TsResolution.TheVariants.{MicroSecond, NanoSecond}
use Rattle.pcap_classic.specs.declared.run.copy.Under.{Under}
use Rattle.pcap_classic.specs.declared.run.copy.Under.TheVariants.{Same, Header, Order}

-- The word for a byte order.
abbrev pub order_word : Endianness → List ℕ
order_word Big = codes "big"
order_word Little = codes "little"

-- The word for a timestamp resolution.
abbrev pub resolution_word : TsResolution → List ℕ
resolution_word MicroSecond = codes "micro"
resolution_word NanoSecond = codes "nano"

-- The texts of borrowed words.
abbrev pub texts_of : List (Bor (List ℕ)) → List (List ℕ)
texts_of words = map (λ word. word.now) words

-- AskForList words: the words are the single word list.
abbrev pub AskForList : List (List ℕ) → Type 0
AskForList words = words ≡ codes "list" ∷ []

-- AskForBlocks words: the words are the single word blocks.
abbrev pub AskForBlocks : List (List ℕ) → Type 0
AskForBlocks words = words ≡ codes "blocks" ∷ []

-- AskForCopy under words: the words are copy alone, or copy with the words for a byte order and a timestamp resolution.
abbrev pub AskForCopy : Under → List (List ℕ) → Type 0
AskForCopy Same words = words ≡ codes "copy" ∷ []
AskForCopy (Order e r) words = words ≡ codes "copy" ∷ order_word e ∷ resolution_word r ∷ []
AskForCopy (Header header) words = ⊥

-- AskForNothing words: the program doesn't know these words.
abbrev pub AskForNothing : List (List ℕ) → Type 0
AskForNothing words = (AskForList words → ⊥) × (AskForBlocks words → ⊥) × ((under : Under) → AskForCopy under words → ⊥)
