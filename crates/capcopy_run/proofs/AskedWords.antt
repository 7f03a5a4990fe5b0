-- This file proves which action words select when they are fetched one by one.
use Rattle.std.proofs.Common.{◌≡◌, ◌≤◌, ℕ, zero, suc, List, [], ◌∷◌, Option, None, Some, IfSome, Ok, Err, inl, inr, refl, ap, ◌∙◌, subst, length, slice_get, codes, arith}
use Rattle.std.specs.Borrow.{Bor}
use Rattle.std.specs.Prelude.{⊤, IsUtf8, ◌==◌, if◌then◌else◌}
use Rattle.std.proofs.KnownBytes.{Keeps-refl, prepend_known-nil}
use Rattle.std.specs.Io.KnownBytes.{prepend_known}
use Rattle.std.specs.Io.Buffered.{reader_remaining, reader_buffer, reader_capacity, reader_inner}
use Rattle.std.specs.declared.io.buffered.BufReader.{BufReader}
use Rattle.std.specs.declared.env.FillError.TheVariants as fills
use Rattle.pcap_core.specs.declared.common.Endianness.{Endianness}
use Rattle.pcap_core.specs.declared.common.Endianness.TheVariants.{Big, Little}
use Rattle.pcap_classic.specs.declared.common.TsResolution.{TsResolution}
use Rattle.pcap_classic.specs.declared.common.TsResolution.TheVariants.{MicroSecond, NanoSecond}
use Rattle.pcap_classic.specs.declared.run.copy.Under.{Under}
use Rattle.pcap_classic.specs.declared.run.copy.Under.TheVariants.{Same, Header, Order}
use Rattle.pcap_program.specs.declared.exit.Exit.{Exit}
use Rattle.pcap_program.specs.declared.exit.Exit.TheVariants as exits
use Rattle.capcopy_run.specs.declared.words.Place.TheVariants.{Empty, Unknown, Text}
use Rattle.capcopy_run.specs.Runs.{IsStrange, StandsAt, TellsWord, Runs, RunsBuffered}
use Rattle.capcopy_run.specs.Words.{order_word, resolution_word, AskForCopy, AskForNothing}

-- ArePlain words: none of these words is strange.
abbrev ArePlain : List (List ℕ) → Type 0
ArePlain [] = ⊤
ArePlain (w ∷ ws) = (IsStrange w → ⊥) × ArePlain ws

plain : (w : List ℕ) → length w ≤ 64 → IsUtf8 w → IsStrange w → ⊥
plain w short text strange = elim strange [ inl long ↦ absurd (omega (arith, short, long)) | inr broken ↦ broken text ]

list_plain : ArePlain (codes "list" ∷ [])
unfolding lib.Utf8.encode
list_plain = (plain (codes "list") (omega arith) (codes "list", (refl, refl)), tt)

blocks_plain : ArePlain (codes "blocks" ∷ [])
unfolding lib.Utf8.encode
blocks_plain = (plain (codes "blocks") (omega arith) (codes "blocks", (refl, refl)), tt)

copy_plain : IsStrange (codes "copy") → ⊥
unfolding lib.Utf8.encode
copy_plain = plain (codes "copy") (omega arith) (codes "copy", (refl, refl))

order_plain : (e : Endianness) → IsStrange (order_word e) → ⊥
unfolding lib.Utf8.encode
order_plain Big = plain (codes "big") (omega arith) (codes "big", (refl, refl))
order_plain Little = plain (codes "little") (omega arith) (codes "little", (refl, refl))

resolution_plain : (r : TsResolution) → IsStrange (resolution_word r) → ⊥
unfolding lib.Utf8.encode
resolution_plain MicroSecond = plain (codes "micro") (omega arith) (codes "micro", (refl, refl))
resolution_plain NanoSecond = plain (codes "nano") (omega arith) (codes "nano", (refl, refl))

-- No plain word is strange.
none_strange : (ws : List (List ℕ)) → ArePlain ws → (i : ℕ) → StandsAt (slice_get ws i) Unknown → ⊥
none_strange [] plain i strange = strange
none_strange (w ∷ ws) plain zero strange = plain.0 strange
none_strange (w ∷ ws) plain (suc i) strange = none_strange ws plain.1 i strange

-- Words with a strange one select no action.
copies_plain : (words : List (List ℕ)) (i : ℕ) → StandsAt (slice_get words i) Unknown → (under : Under) → AskForCopy under words → ⊥
copies_plain words i strange Same is = none_strange (codes "copy" ∷ []) (copy_plain, tt) i (subst (λ (ws : List (List ℕ)). StandsAt (slice_get ws i) Unknown) is strange)
copies_plain words i strange (Order e r) is =
    none_strange (codes "copy" ∷ order_word e ∷ resolution_word r ∷ []) (copy_plain, (order_plain e, (resolution_plain r, tt))) i (subst (λ (ws : List (List ℕ)). StandsAt (slice_get ws i) Unknown) is strange)
copies_plain words i strange (Header header) is = is

strange_asks : (words : List (List ℕ)) (i : ℕ) → StandsAt (slice_get words i) Unknown → AskForNothing words
strange_asks words i strange = (
  λ is. none_strange (codes "list" ∷ []) list_plain i (subst (λ (ws : List (List ℕ)). StandsAt (slice_get ws i) Unknown) is strange),
  λ is. none_strange (codes "blocks" ∷ []) blocks_plain i (subst (λ (ws : List (List ℕ)). StandsAt (slice_get ws i) Unknown) is strange),
  copies_plain words i strange,
)

-- An empty list of words selects no action.
copies_some : (words : List (List ℕ)) → StandsAt (slice_get words 0) Empty → (under : Under) → AskForCopy under words → ⊥
copies_some words none Same is = subst (λ (ws : List (List ℕ)). StandsAt (slice_get ws 0) Empty) is none
copies_some words none (Order e r) is = subst (λ (ws : List (List ℕ)). StandsAt (slice_get ws 0) Empty) is none
copies_some words none (Header header) is = is

none_asks : (words : List (List ℕ)) → StandsAt (slice_get words 0) Empty → AskForNothing words
none_asks words none = (
  λ is. subst (λ (ws : List (List ℕ)). StandsAt (slice_get ws 0) Empty) is none,
  λ is. subst (λ (ws : List (List ℕ)). StandsAt (slice_get ws 0) Empty) is none,
  copies_some words none,
)

-- Four words or more select no action.
copies_three : (words : List (List ℕ)) → (slice_get words 3 ≡ None → ⊥) → (under : Under) → AskForCopy under words → ⊥
copies_three words more Same is = more (ap (λ (ws : List (List ℕ)). slice_get ws 3) is)
copies_three words more (Order e r) is = more (ap (λ (ws : List (List ℕ)). slice_get ws 3) is)
copies_three words more (Header header) is = is

four_ask : (words : List (List ℕ)) → (slice_get words 3 ≡ None → ⊥) → AskForNothing words
four_ask words more = (
  λ is. more (ap (λ (ws : List (List ℕ)). slice_get ws 3) is),
  λ is. more (ap (λ (ws : List (List ℕ)). slice_get ws 3) is),
  copies_three words more,
)

-- The words are those found at their indices.
one : (words : List (List ℕ)) (first : Bor (List ℕ)) → StandsAt (slice_get words 0) (Text first) → StandsAt (slice_get words 1) Empty → first.now ∷ [] ≡ words
one [] first stands end = absurd stands
one (w ∷ []) first stands end = ap (λ (word : List ℕ). word ∷ []) stands
one (w ∷ v ∷ ws) first stands end = absurd end

two : (words : List (List ℕ)) (first second : Bor (List ℕ)) → StandsAt (slice_get words 0) (Text first) → StandsAt (slice_get words 1) (Text second) → StandsAt (slice_get words 2) Empty
    → first.now ∷ second.now ∷ [] ≡ words
two [] first second stands next end = absurd stands
two (w ∷ ws) first second stands next end = rw (stands, one ws second next end) refl

three : (words : List (List ℕ)) (first second third : Bor (List ℕ)) → StandsAt (slice_get words 0) (Text first) → StandsAt (slice_get words 1) (Text second) → StandsAt (slice_get words 2) (Text third)
    → StandsAt (slice_get words 3) Empty → first.now ∷ second.now ∷ third.now ∷ [] ≡ words
three [] first second third stands next last end = absurd stands
three (w ∷ ws) first second third stands next last end = rw (stands, two ws second third next last end) refl

-- There is a strange word at this index.
pub strange_word : (known : Option (List (List ℕ))) (i : ℕ) → IfSome known (λ words. StandsAt (slice_get words i) Unknown) → IfSome known AskForNothing
strange_word None i strange = tt
strange_word (Some words) i strange = strange_asks words i strange

-- There is no first word.
pub no_word : (known : Option (List (List ℕ))) → IfSome known (λ words. StandsAt (slice_get words 0) Empty) → IfSome known AskForNothing
no_word None none = tt
no_word (Some words) none = none_asks words none

-- There is one word, and no more.
pub one_word : (known : Option (List (List ℕ))) (first : Bor (List ℕ)) → IfSome known (λ words. StandsAt (slice_get words 0) (Text first))
    → IfSome known (λ words. StandsAt (slice_get words 1) Empty) → IfSome known (λ words. first.now ∷ [] ≡ words)
one_word None first stands end = tt
one_word (Some words) first stands end = one words first stands end

-- There are two words, and no more.
pub two_words : (known : Option (List (List ℕ))) (first second : Bor (List ℕ)) → IfSome known (λ words. StandsAt (slice_get words 0) (Text first))
    → IfSome known (λ words. StandsAt (slice_get words 1) (Text second)) → IfSome known (λ words. StandsAt (slice_get words 2) Empty)
    → IfSome known (λ words. first.now ∷ second.now ∷ [] ≡ words)
two_words None first second stands next end = tt
two_words (Some words) first second stands next end = two words first second stands next end

no_more : (word : Option (List ℕ)) (room : List ℕ) → TellsWord word (Err fills.NotPresent) room → StandsAt word Empty
no_more None room end = tt
no_more (Some word) room end = absurd end

-- There are three words, and no more.
pub three_words : (known : Option (List (List ℕ))) (first second third : Bor (List ℕ)) (room : List ℕ) → IfSome known (λ words. StandsAt (slice_get words 0) (Text first))
    → IfSome known (λ words. StandsAt (slice_get words 1) (Text second)) → IfSome known (λ words. StandsAt (slice_get words 2) (Text third))
    → IfSome known (λ words. TellsWord (slice_get words 3) (Err fills.NotPresent) room) → IfSome known (λ words. first.now ∷ second.now ∷ third.now ∷ [] ≡ words)
three_words None first second third room stands next last end = tt
three_words (Some words) first second third room stands next last end = three words first second third stands next last (no_more (slice_get words 3) room end)

-- A word that was copied, or is longer than the room, exists.
long_some : (word : Option (List ℕ)) (room : List ℕ) → TellsWord word (Err fills.TooLong) room → word ≡ None → ⊥
long_some None room long none = long
long_some (Some word) room long none = subst (λ (w : Option (List ℕ)). TellsWord w (Err fills.TooLong) room) none long

pub long_fourth : (known : Option (List (List ℕ))) (room : List ℕ) → IfSome known (λ words. TellsWord (slice_get words 3) (Err fills.TooLong) room) → IfSome known AskForNothing
long_fourth None room long = tt
long_fourth (Some words) room long = four_ask words (long_some (slice_get words 3) room long)

pub short_fourth : (known : Option (List (List ℕ))) (n : ℕ) (room : List ℕ) → IfSome known (λ words. TellsWord (slice_get words 3) (Ok n) room) → IfSome known AskForNothing
short_fourth None n room short = tt
short_fourth (Some words) n room short = four_ask words (λ none. subst (λ (w : Option (List ℕ)). TellsWord w (Ok n) room) none short)

-- A run with words that select no action.
pub nothing_runs : (words : List (List ℕ)) (most : ℕ) (before out : Option (List ℕ)) → AskForNothing words → RunsBuffered words most before out out exits.Usage
nothing_runs words most before out nothing = inl (
  before,
  record {
    listed = λ is. absurd (nothing.0 is);
    list_takes_no_memory = λ is memory. memory;
    blocks_listed = λ is. absurd (nothing.1 is);
    copied = λ under is. absurd (nothing.2 under is);
    known = λ some. absurd (some nothing);
    usage = λ _. refl;
    unread = λ _. Keeps-refl before;
    unwritten = λ _. Keeps-refl out;
  },
)

-- A run over an input with an empty buffer.
pub buffer_left : {T A : Type 0} (remaining : T → Option (List ℕ)) (r : BufReader T A) (left : Option (List ℕ)) → reader_capacity r ≡ 262144 → reader_buffer r ≡ [] → remaining (reader_inner r) ≡ left
    → reader_remaining remaining r ≡ left
buffer_left remaining r left capacity empty inner =
    ap (λ (n : ℕ). if n == 0 then None else prepend_known (reader_buffer r) (remaining (reader_inner r))) capacity
    ∙ ap (λ (bytes : List ℕ). prepend_known bytes (remaining (reader_inner r))) empty ∙ prepend_known-nil (remaining (reader_inner r)) ∙ inner

pub buffered_runs : (words : List (List ℕ)) (most : ℕ) (before behind now out_before out_now : Option (List ℕ)) (exit : Exit) → behind ≡ before → Runs words most behind now out_before out_now exit
    → RunsBuffered words most before out_before out_now exit
buffered_runs words most before behind now out_before out_now exit same runs = inl (now, subst (λ (left : Option (List ℕ)). Runs words most left now out_before out_now exit) same runs)

-- A fact about all words of one kind holds for the known ones.
pub known_words : (P Q : List (List ℕ) → Type 0) (known : Option (List (List ℕ))) → IfSome known Q → ((words : List (List ℕ)) → Q words → P words) → IfSome known P
known_words P Q None are all = tt
known_words P Q (Some words) are all = all words are
