-- Options that are passed, and put in little-endian order, one after another; and the length of bodies in that order.
use Rattle.std.proofs.Common.{◌≡◌, ◌≢◌, ◌≤◌, ◌++◌, ◌∷◌, [], ℕ, suc, zero, Bool, true, false, List, length, take, drop, length-append, length-drop, append_assoc, arith, refl, sym, ap, ◌∙◌}
use Rattle.std.specs.Prelude.{◌==◌, if◌then◌else◌, Result, Ok, Err, MatchResult, reverse}
use Rattle.std.proofs.lemmas.List.{length-reverse, length-take}
use Rattle.pcap_core.specs.declared.errors.PcapError.{PcapError}
use Rattle.pcap_core.specs.Errors.{IsMemory}
use Rattle.pcap_blocks.specs.declared.block_type.BlockType.{BlockType}
use Rattle.pcap_blocks.specs.declared.block_type.BlockType.TheVariants as types
use Rattle.pcapfile_merge.specs.Little.{after_options, code_at, number_width, option_size, secrets_size, turned, turned_all, turned_body, turned_option, turned_options, turned_secrets}

-- An option has this size at the beginning of `left`, and `next` is what is after it.
pub record Next (left next : List ℕ) (size : ℕ) : Type 0 where
  pub some : size ≢ 0
  pub within : size ≤ length left
  pub is : size ≡ option_size left
  pub behind : next ≡ drop size left

-- All options of `old` end where those of `left` do.
pub record Walked (old left : List ℕ) : Type 0 where
  pub most : ℕ
  pub enough : length left ≤ most
  pub same : after_options (length old) old ≡ after_options most left

pub walked_none : (s : List ℕ) → Walked s s
walked_none s = record { most = length s; enough = omega arith; same = refl }

after_next : (left next : List ℕ) (size n : ℕ) → Next left next size → after_options (suc n) left ≡ after_options n next
unfolding after_options
after_next left next size n to = ap (λ (k : ℕ). after_options n (drop k left)) (sym to.is) ∙ ap (after_options n) (sym to.behind)

shorter : (left next : List ℕ) (size n : ℕ) → Next left next size → length left ≤ suc n → length next ≤ n
shorter left next size n to enough = let some = to.some in let within = to.within in omega (arith, ap length to.behind, length-drop size left)

not_over : (left next : List ℕ) (size : ℕ) → Next left next size → length left ≤ 0 → ⊥
not_over left next size to none = let some = to.some in let within = to.within in omega arith

walked_next : (old left next : List ℕ) (size most : ℕ) → Next left next size → length left ≤ most → after_options (length old) old ≡ after_options most left → Walked old next
walked_next old left next size zero to enough same = absurd (not_over left next size to enough)
walked_next old left next size (suc n) to enough same = record { most = n; enough = shorter left next size n to enough; same = same ∙ after_next left next size n to }

pub walked_more : (old left next : List ℕ) (size : ℕ) → Next left next size → Walked old left → Walked old next
walked_more old left next size to walked = walked_next old left next size walked.most to walked.enough walked.same

pub after_none : (n : ℕ) (s : List ℕ) → option_size s ≡ 0 → after_options n s ≡ s
unfolding after_options
after_none zero s none = refl
after_none (suc n) s none = ap (λ (k : ℕ). after_options n (drop k s)) none ∙ after_none n s none

pub walked_all : (old left : List ℕ) → option_size left ≡ 0 → Walked old left → left ≡ after_options (length old) old
walked_all old left none walked = sym (walked.same ∙ after_none walked.most left none)

-- Turns options old left now: where the text was `old` before these options, and is `now`, the options of `left` are still to turn.
pub record Turns (options old left now : List ℕ) : Type 0 where
  pub most : ℕ
  pub enough : length left ≤ most
  pub same : old ++ turned_all options ≡ now ++ turned_options most left

pub turns_none : (s now : List ℕ) → Turns s now s now
turns_none s now = record { most = length s; enough = omega arith; same = refl }

turned_next : (left next : List ℕ) (size n : ℕ) → Next left next size → turned_options (suc n) left ≡ turned_option (take size left) ++ turned_options n next
unfolding turned_options
turned_next left next size n to = ap (λ (k : ℕ). turned_option (take k left) ++ turned_options n (drop k left)) (sym to.is) ∙ ap (λ (l : List ℕ). turned_option (take size left) ++ turned_options n l) (sym to.behind)

turns_next : (options old left next now new : List ℕ) (size most : ℕ) → Next left next size → new ≡ now ++ turned_option (take size left) → length left ≤ most → old ++ turned_all options ≡ now ++ turned_options most left
    → Turns options old next new
turns_next options old left next now new size zero to put enough same = absurd (not_over left next size to enough)
turns_next options old left next now new size (suc n) to put enough same =
    let option = turned_option (take size left) in
    let rest = turned_options n next in
    let again : (now ++ option) ++ rest ≡ now ++ (option ++ rest) = append_assoc now option rest in
    record {
      most = n;
      enough = shorter left next size n to enough;
      same = same ∙ ap (λ (l : List ℕ). now ++ l) (turned_next left next size n to) ∙ sym again ∙ sym (ap (λ (l : List ℕ). l ++ rest) put);
    }

pub turns_more : (options old left next now new : List ℕ) (size : ℕ) → Next left next size → new ≡ now ++ turned_option (take size left) → Turns options old left now → Turns options old next new
turns_more options old left next now new size to put turns = turns_next options old left next now new size turns.most to put turns.enough turns.same

pub turned_none : (n : ℕ) (s : List ℕ) → option_size s ≡ 0 → turned_options n s ≡ turned (2 ∷ 2 ∷ []) s
unfolding turned_options
turned_none zero s none = refl
turned_none (suc n) s none = ap (λ (k : ℕ). turned_option (take k s) ++ turned_options n (drop k s)) none ∙ turned_none n s none

turns_end : (options old left now new : List ℕ) → option_size left ≡ 0 → Turns options old left now → new ≡ now ++ turned (2 ∷ 2 ∷ []) left → new ≡ old ++ turned_all options
turns_end options old left now new none turns put = put ∙ sym (turns.same ∙ ap (λ (l : List ℕ). now ++ l) (turned_none turns.most left none))

pub turns_all : (options old left now new : List ℕ) (result : Result (Unit {0}) PcapError) → option_size left ≡ 0 → Turns options old left now → MatchResult result (λ done. new ≡ now ++ turned (2 ∷ 2 ∷ []) left) IsMemory
    → MatchResult result (λ done. new ≡ old ++ turned_all options) IsMemory
turns_all options old left now new (Ok done) none turns put = turns_end options old left now new none turns put
turns_all options old left now new (Err e) none turns memory = memory

-- An option has a code and a length.
pub option_least : (s : List ℕ) → option_size s ≢ 0 → 4 ≤ option_size s
unfolding option_size
option_least s some = grind arith

numbers_length : (widths s : List ℕ) → length (turned widths s) ≡ length s
numbers_length [] s = refl
numbers_length (width ∷ widths) s =
    let front = reverse (take width s) in
    omega (arith, length-append front (turned widths (drop width s)), length-reverse (take width s), length-take width s, length-drop width s, numbers_length widths (drop width s))

options_length : (n : ℕ) (s : List ℕ) → length (turned_options n s) ≡ length s
unfolding turned_options
options_length zero s = numbers_length (2 ∷ 2 ∷ []) s
options_length (suc n) s =
    let size = option_size s in
    let option = take size s in
    let rest = drop size s in
    omega (
      arith,
      length-append (turned_option option) (turned_options n rest),
      numbers_length (2 ∷ 2 ∷ number_width (code_at option) ∷ []) option,
      options_length n rest,
      length-take size s,
      length-drop size s,
    )

secrets_length : (body : List ℕ) → length (turned_secrets body) ≡ length body
secrets_length body =
    let size = secrets_size body in
    let front = take size body in
    let rest = drop size body in
    omega (
      arith,
      length-append (turned (4 ∷ 4 ∷ []) front) (turned_all rest),
      numbers_length (4 ∷ 4 ∷ []) front,
      options_length (length rest) rest,
      length-take size body,
      length-drop size body,
    )

either_length : (b : Bool) (body : List ℕ) → length (if b then turned_secrets body else turned (4 ∷ []) body) ≡ length body
either_length true body = secrets_length body
either_length false body = numbers_length (4 ∷ []) body

-- A body is as long as before.
pub turned_length : (type : BlockType) (body : List ℕ) → length (turned_body type body) ≡ length body
turned_length (types.Unknown number) body = either_length (number == 10) body
turned_length _ body = refl
