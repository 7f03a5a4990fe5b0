-- Lemmas for names that follow one another.
use Rattle.std.proofs.Common.{◌≡◌, ℕ, ◌+◌, ◌≤◌, suc, ◌<◌, List, ◌∷◌, ◌++◌, length, sym, ap, ◌∙◌, arith, take, drop, length-append, get_or, drop-cons}
use Rattle.std.specs.Prelude.{Err}
use Rattle.std.proofs.lemmas.List.{take-append-drop}
use Rattle.pcap_core.specs.Faults.{Fault}
use Rattle.pcap_options.specs.Values.{string_at}
use Rattle.pcap_core.specs.declared.rules.Rule.{Rule}
use Rattle.pcap_options.specs.Record.{AddressFault, in_names, AddressMayGrow}
use Rattle.pcap_options.specs.Names.{NameText, HasNoZero, NameFault, no_string, NamesFault, NamesMayGrow}

pub name_shorter : (n s rest : List ℕ) → NameText n s rest → length rest < length s
name_shorter n s rest is =
    let l : length s ≡ length (n ++ 0 ∷ rest) = ap length is.parts in
    omega (arith, l, length-append n (0 ∷ rest))

pub name_parts : (s : List ℕ) (i : ℕ) → i < length s → get_or s i 0 ≡ 0 → s ≡ take i s ++ 0 ∷ drop 1 (drop i s)
name_parts s i lt zero_at =
    let cons : drop i s ≡ get_or s i 0 ∷ drop (suc i) s = drop-cons s i 0 lt in
    sym (take-append-drop i s) ∙ ap (λ (x : List ℕ). take i s ++ x) (cons ∙ ap (λ (b : ℕ). b ∷ drop (suc i) s) zero_at) ∙ ap (λ (x : List ℕ). take i s ++ 0 ∷ x) (sym (ap (drop 1) cons))

pub name_string_fails : (s name rest : List ℕ) → s ≡ name ++ 0 ∷ rest → HasNoZero name → (f : Fault) → string_at name ≡ Err f → NameFault s f
name_string_fails s name rest parts no_zero f fault = no_string f name rest parts no_zero fault

pub split_parts : (n : ℕ) (s a b : List ℕ) → a ≡ take n s → b ≡ drop n s → s ≡ a ++ b
split_parts n s a b front back = rw (front, back) (sym (take-append-drop n s))

pub address_fails : (width : ℕ) (too_short : Rule) (s bytes after : List ℕ) → width + 2 ≤ length s → s ≡ bytes ++ after → length bytes ≡ width → (f : Fault) → NamesFault after f → AddressFault width too_short s f
address_fails width too_short s bytes after long parts wide f fault = in_names f after long (record { bytes = bytes; text = parts; length_is = wide }) fault

pub address_grows : (width : ℕ) (s bytes after : List ℕ) → width + 2 ≤ length s → s ≡ bytes ++ after → length bytes ≡ width → NamesMayGrow after → AddressMayGrow width s
address_grows width s bytes after long parts wide grows =
    record { long = long; grows = record { after = after; behind = record { bytes = bytes; text = parts; length_is = wide }; holds = grows } }
