-- Values with their padding, and items that follow one another.
use Rattle.std.proofs.Common.{◌≡◌, ℕ, ◌+◌, ◌≤◌, List, [], ◌∷◌, ◌++◌, length, refl, sym, ap, subst, ◌∙◌, arith, take, drop, append_assoc}
use Rattle.std.proofs.lemmas.List.{take-append-drop, length-take, length-append}
use Rattle.pcap_core.specs.Answer.{Order, Number}
use Rattle.pcap_core.specs.Padded.{Padded, up_to_4, Chain, Behind}

pub split_padded : (len k : ℕ) (s : List ℕ) → k ≡ up_to_4 len → k ≤ length s → Padded (take len (take k s)) s (drop k s)
split_padded len k s is le =
    let few : length (take k s) ≡ k = omega (arith, length-take k s) in
    let len_is : length (take len (take k s)) ≡ len = omega (arith, length-take len (take k s)) in
    let both : length (take len (take k s)) + length (drop len (take k s)) ≡ length (take k s) =
    sym (length-append (take len (take k s)) (drop len (take k s))) ∙ ap length (take-append-drop len (take k s)) in
    record {
      padding = drop len (take k s);
      text = sym (take-append-drop k s) ∙ ap (λ (t : List ℕ). t ++ drop k s) (sym (take-append-drop len (take k s)));
      aligned = both ∙ few ∙ is ∙ ap up_to_4 (sym len_is);
    }

-- one more item
pub chain_more : {V : Type 0} (IsItem : V → List ℕ → List ℕ → Type 0) (items : List V) (s rest after : List ℕ) (item : V) → Chain IsItem items s rest → IsItem item rest after → Chain IsItem (items ++ item ∷ []) s after
chain_more IsItem [] s rest after item are is = (after, subst (λ (x : List ℕ). IsItem item x after) (sym are) is, refl)
chain_more IsItem (first ∷ items) s rest after item are is = (are.0, are.1, chain_more IsItem items are.0 rest after item are.2 is)

pub behind_number : {order : Order} {w n : ℕ} {s rest : List ℕ} → Number order w n s rest → Behind w s rest
behind_number a = record { bytes = a.bytes; text = a.text; length_is = a.length_is }

pub behind_both : {m n : ℕ} {s after rest : List ℕ} → Behind m s after → Behind n after rest → Behind (m + n) s rest
behind_both {rest = rest} a b = record {
  bytes = a.bytes ++ b.bytes;
  text = a.text ∙ ap (λ (x : List ℕ). a.bytes ++ x) b.text ∙ sym (append_assoc a.bytes b.bytes rest);
  length_is = omega (arith, length-append a.bytes b.bytes, a.length_is, b.length_is);
}
