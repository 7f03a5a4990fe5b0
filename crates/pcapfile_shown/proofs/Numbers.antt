-- Lemmas on numbers and texts that become JSON one by one.
use Rattle.std.specs.Prelude.{◌≡◌, ◌+◌, ◌-◌, ◌<◌, ◌≤◌, ◌++◌, ◌∷◌, [], ℕ, List, String, count_by, length, map, take}
use Rattle.std.specs.Global.{Global}
use Rattle.std.specs.List.{range_with_len}
use Rattle.std.proofs.Common.{◌∙◌, ap, arith, get_or, refl, sym}
use Rattle.std.proofs.lemmas.List.{map-append, map_more, take_all, take_more}
use Rattle.std.proofs.lemmas.List.FromFn.{get_or-map-range_with_len, length-map-range_with_len}
use Rattle.serde_json.specs.Data.{Data, array}
use Rattle.serde_json.specs.View.{items_of, view}
use Rattle.serde_json.specs.declared.value.Value.{Value}
use Rattle.pcapfile_run.specs.Passing.{counted}
use Rattle.pcapfile_info.specs.declared.spread.Spread.{Spread}
use Rattle.pcapfile_info.specs.Spreads.{Rows, lies_in}
use Rattle.pcapfile_shown.specs.Json.{AreCountsOf, counts_in, number_data, numbers_data, text_data}

-- One more number becomes a value.
pub numbers_more : (values : List Value) (value : Value) (counts : List ℕ) (i : ℕ) → i < length counts
    → map view values ≡ map number_data (take i counts) → view value ≡ number_data (get_or counts i 0)
    → map view (values ++ value ∷ []) ≡ map number_data (take (i + 1) counts)
numbers_more values value counts i below before now =
    rw (map-append view values (value ∷ []), map_more number_data counts i 0 below, before, now)

-- One more text becomes a value.
pub texts_more : (values : List Value) (value : Value) (texts : List (String Global)) (i : ℕ) (text : String Global) → i < length texts
    → text ≡ get_or texts i text → map view values ≡ map text_data (take i texts) → view value ≡ text_data text
    → map view (values ++ value ∷ []) ≡ map text_data (take (i + 1) texts)
texts_more values value texts i text below is before now =
    rw (map-append view values (value ∷ []), map_more text_data texts i text below, before, now ∙ ap text_data is)

-- This is the number of packets in the span of this number, for any instants that the row counts.
abbrev pub IsCount : Spread → ℕ → ℕ → Type 0
IsCount spread span packets = (instants : List ℕ) → Rows instants spread → packets ≡ counted (count_by (lies_in spread.width span) instants)

-- These values are the counts of the first n spans.
abbrev pub AreCounts : Spread → ℕ → List Value → Type 0
AreCounts spread place values =
    (counts : List ℕ) × ((instants : List ℕ) → Rows instants spread → counts ≡ take place (counts_in instants spread)) × (map view values ≡ map number_data counts)

-- The count of the next span becomes a value.
pub counts_more : (spread : Spread) (values : List Value) (value : Value) (place packets : ℕ) → place < spread.last - spread.first + 1
    → AreCounts spread place values → view value ≡ number_data packets → IsCount spread (spread.first + place) packets
    → AreCounts spread (place + 1) (values ++ value ∷ [])
counts_more spread values value place packets below (before, are, shown) now is = (
  before ++ packets ∷ [],
  λ instants rows.
      let f : ℕ → ℕ = λ span. counted (count_by (lies_in spread.width span) instants) in
      let n : ℕ = spread.last - spread.first + 1 in
      let all : List ℕ = map f (range_with_len spread.first n) in
      let within : place < length all = omega (arith, below, length-map-range_with_len f spread.first n) in
      let here : get_or all place 0 ≡ f (spread.first + place) = get_or-map-range_with_len f spread.first n place (spread.first + place) 0 below refl in
      ap (λ (l : List ℕ). l ++ packets ∷ []) (are instants rows) ∙ ap (λ (c : ℕ). take place all ++ c ∷ []) (is instants rows ∙ sym here) ∙ sym (take_more all place 0 within),
  map-append view values (value ∷ []) ∙ ap (λ (l : List Data). l ++ view value ∷ []) shown ∙ ap (λ (d : Data). map number_data before ++ d ∷ []) now ∙ sym (map-append number_data before (packets ∷ [])),
)

-- The counts of all spans are values.
pub counts_all : (spread : Spread) (values : List Value) (place : ℕ) → spread.last - spread.first + 1 ≤ place → AreCounts spread place values
    → (counts : List ℕ) × AreCountsOf spread counts × (array (items_of (map view values)) ≡ numbers_data counts)
counts_all spread values place enough (counts, are, shown) = (
  counts,
  λ instants rows.
      let f : ℕ → ℕ = λ span. counted (count_by (lies_in spread.width span) instants) in
      let n : ℕ = spread.last - spread.first + 1 in
      let all : List ℕ = map f (range_with_len spread.first n) in
      let whole : length all ≤ place = omega (arith, enough, length-map-range_with_len f spread.first n) in
      are instants rows ∙ take_all place all whole,
  ap (λ shown. array (items_of shown)) shown,
)
