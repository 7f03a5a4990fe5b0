-- Lemmas on the packets behind the last number of a selection.
use Rattle.std.proofs.Common.{◌≡◌, ◌+◌, ℕ, List, [], ◌∷◌, ◌++◌, length, Bool, true, false, Bor, refl, sym, ap, ◌∙◌, subst, arith, append_assoc, append-nil, length-append}
use Rattle.std.specs.Prelude.{◌&&◌, ◌||◌, nat_le, nat_lt, not}
use Rattle.std.specs.List.{list_any}
use Rattle.std.proofs.lemmas.Bool.Decides.{nat_tests}
use Rattle.pcapfile_cut.specs.declared.selection.Range.{Range}
use Rattle.pcapfile_cut.specs.declared.selection.Selection.{Selection}
use Rattle.pcapfile_cut.specs.declared.wanted.Wanted.TheVariants.{Selected}
use Rattle.pcapfile_cut.specs.Choice.{Stored, chosen}
use Rattle.pcapfile_cut.specs.Duplicates.{digest_of, is_among}
use Rattle.pcapfile_cut.specs.Selections.{accepts, goes_behind, is_in, is_selected, is_within, time_of}
use Rattle.pcapfile_cut.proofs.Chosen.{chosen_push, one_if, recent_of}

first_false : (a b : Bool) → (a || b) ≡ false → a ≡ false
first_false false b none = refl
first_false true b none = absurd cc

second_false : (a b : Bool) → (a || b) ≡ false → b ≡ false
second_false false b none = none
second_false true b none = absurd cc

both_false : (a b : Bool) → a ≡ false → b ≡ false → (a || b) ≡ false
both_false false b first second = second
both_false true b first second = absurd cc

is_behind : (first last n : ℕ) → nat_lt n last ≡ false → (nat_le first (n + 1) && nat_le (n + 1) last) ≡ false
is_behind first last n none = grind (arith, nat_tests)

is_still_behind : (last n : ℕ) → nat_lt n last ≡ false → nat_lt (n + 1) last ≡ false
is_still_behind last n none = grind (arith, nat_tests)

-- The number behind the last one of the ranges is in none of them.
none_has : (ranges : List Range) (n : ℕ) → list_any (λ (range : Range). nat_lt n range.last) ranges ≡ false → list_any (λ (range : Range). is_in range (n + 1)) ranges ≡ false
none_has [] n none = refl
none_has (r ∷ rs) n none =
    let here = first_false (nat_lt n r.last) (list_any (λ (range : Range). nat_lt n range.last) rs) none in
    let more = second_false (nat_lt n r.last) (list_any (λ (range : Range). nat_lt n range.last) rs) none in
    both_false (is_in r (n + 1)) (list_any (λ (range : Range). is_in range (n + 1)) rs) (is_behind r.first r.last n here) (none_has rs n more)

none_goes_on : (ranges : List Range) (n : ℕ) → list_any (λ (range : Range). nat_lt n range.last) ranges ≡ false → list_any (λ (range : Range). nat_lt (n + 1) range.last) ranges ≡ false
none_goes_on [] n none = refl
none_goes_on (r ∷ rs) n none =
    let here = first_false (nat_lt n r.last) (list_any (λ (range : Range). nat_lt n range.last) rs) none in
    let more = second_false (nat_lt n r.last) (list_any (λ (range : Range). nat_lt n range.last) rs) none in
    both_false (nat_lt (n + 1) r.last) (list_any (λ (range : Range). nat_lt (n + 1) range.last) rs) (is_still_behind r.last n here) (none_goes_on rs n more)

not_selected : (selection : Selection) (n : ℕ) (x : Stored) → goes_behind selection n ≡ false → is_selected selection (n + 1) x.packet ≡ false
not_selected selection n x none =
    ap
    (λ (b : Bool). b && is_within selection.from selection.until (time_of x.packet.header) && is_in selection.lengths x.packet.header.orig_len
    && accepts selection x.packet.bytes x.packet.header.orig_len)
    (none_has selection.numbers.now n none)

-- Packets behind the last number are not chosen.
pub selections_end : (selection : Bor Selection) (packets more : List Stored) → goes_behind selection.now (length packets) ≡ false
    → chosen (Selected selection) (packets ++ more) ≡ chosen (Selected selection) packets
selections_end selection packets [] none = ap (chosen (Selected selection)) (append-nil packets)
selections_end selection packets (x ∷ xs) none =
    let kept = chosen (Selected selection) packets in
    let is_other = not (is_among (digest_of x.packet) (recent_of (Selected selection) packets)) in
    let once : chosen (Selected selection) (packets ++ x ∷ []) ≡ kept =
    chosen_push (Selected selection) packets x ∙ ap (λ (b : Bool). kept ++ one_if (b && is_other) x) (not_selected selection.now (length packets) x none) ∙ append-nil kept in
    let next : goes_behind selection.now (length (packets ++ x ∷ [])) ≡ false =
    subst (λ (n : ℕ). goes_behind selection.now n ≡ false) (sym (length-append packets (x ∷ []))) (none_goes_on selection.now.numbers.now (length packets) none) in
    ap (chosen (Selected selection)) (sym (append_assoc packets (x ∷ []) xs)) ∙ selections_end selection (packets ++ x ∷ []) xs next ∙ once
