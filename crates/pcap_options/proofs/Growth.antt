-- Whatever a part keeps in a list, the whole keeps.
use Rattle.std.proofs.Common.{ℕ, List, [], ◌∷◌, sym, subst}
use Rattle.pcap_core.specs.Padded.{Chain, Behind}
use Rattle.pcap_options.specs.Growth.{BeginsWith, HoldsAfter}

pub holds_after : (n : ℕ) (Holds : List ℕ → Type 0) (s after : List ℕ) → Behind n s after → Holds after → HoldsAfter n Holds s
holds_after n Holds s after behind holds = record { after = after; behind = behind; holds = holds }

-- Bytes that begin with some items and one more begin with an item.
pub begins_with : {V : Type 0} (IsItem : V → List ℕ → List ℕ → Type 0) (items : List V) (s rest after : List ℕ) (item : V) → Chain IsItem items s rest → IsItem item rest after → BeginsWith IsItem s
begins_with IsItem [] s rest after item are is = record { value = item; rest = after; text = subst (λ (x : List ℕ). IsItem item x after) (sym are) is }
begins_with IsItem (first ∷ items) s rest after item are is = record { value = first; rest = are.0; text = are.1 }
