-- This file proves facts about the bytes that a stream shows in its buffer.
use Rattle.std.proofs.Common.{◌≡◌, ◌∙◌, ℕ, List, ◌++◌, length, take, drop, Option, Some, None, IfSome, refl, sym, ap, append_assoc, take-append-drop, drop_at}
use Rattle.std.specs.Io.{StartsWith}
use Rattle.std.specs.Io.KnownBytes.{Keeps, Consumes, prepend_known}
use Rattle.std.proofs.KnownBytes.{starts_with_rest}
use Rattle.std.specs.Prelude.{option_map}
use Rattle.pcap_core.specs.Answer.{whole}
use Rattle.pcap_items.specs.Format.{Format, IsLawful}
use Rattle.pcap_items.specs.Reading.{Takes}

-- An item at the front of the buffered bytes is taken from them and whatever follows.
pub takes_shown : {S V : Type 0} (f : Format S V) → IsLawful f → (here : S) (s rest : List ℕ) (v : V) → f.says here s (whole v rest) → (behind : Option (List ℕ))
    → Takes (f.says here) (prepend_known s behind) (prepend_known rest behind) v
takes_shown f laws here s rest v stands behind =
    let own = laws.own here s rest v stands in
    (own.0, own.2, came own.0 own.1 behind)
  where
    came : (t : List ℕ) → s ≡ t ++ rest → (more : Option (List ℕ)) → Consumes (prepend_known s more) (prepend_known rest more) t
    came t e None = tt
    came t e (Some more) = ap (λ l. l ++ more) e ∙ append_assoc t rest more

-- The bytes of a stream that follow its buffered bytes.
abbrev pub behind_shown : List ℕ → Option (List ℕ) → Option (List ℕ)
behind_shown shown left = option_map (λ xs. drop (length shown) xs) left

pub shown_split : (shown : List ℕ) (left : Option (List ℕ)) → IfSome left (λ xs. StartsWith xs shown) → left ≡ prepend_known shown (behind_shown shown left)
shown_split shown None front = refl
shown_split shown (Some xs) front = ap Some (starts_with_rest xs shown front)

-- The rest of both, after some of the buffered bytes are used.
pub shown_used : (shown : List ℕ) (used : ℕ) (left now : Option (List ℕ)) → IfSome left (λ xs. StartsWith xs shown) → Consumes left now (take used shown)
    → Keeps (prepend_known (drop used shown) (behind_shown shown left)) now
shown_used shown used None now front came = tt
shown_used shown used (Some xs) None front came = absurd came
shown_used shown used (Some xs) (Some ys) front came =
    let behind = drop (length shown) xs in
    let all : xs ≡ take used shown ++ (drop used shown ++ behind) =
    starts_with_rest xs shown front ∙ ap (λ l. l ++ behind) (sym (take-append-drop used shown)) ∙ append_assoc (take used shown) (drop used shown) behind in
    sym (drop_at (take used shown) ys (length (take used shown)) refl) ∙ ap (drop (length (take used shown))) (sym came ∙ all) ∙ drop_at (take used shown) (drop used shown ++ behind) (length (take used shown)) refl
