-- Items that a copy writes unchanged, for any format.
use Rattle.std.specs.Prelude.{◌≡◌, ℕ, List, [], Bool, true, false, Option, Some, None, Result, Ok, Err}
use Rattle.std.specs.Borrow.{Bor}
use Rattle.std.specs.Io.KnownBytes.{Consumes, Keeps, IsAtEnd}
use Rattle.pcap_core.specs.declared.errors.PcapError.{PcapError}
use Rattle.pcap_core.specs.Answer.{whole}
use Rattle.pcap_items.specs.Format.{Format}
use Rattle.pcap_items.specs.Reading.{HasCause, TakesAsked}

-- as_they_came gives the bytes of the items unchanged.
abbrev pub as_they_came : {V : Type 0} → List V → List ℕ → List ℕ
as_they_came items bytes = bytes

-- LeadsBytes f q next bytes: the bytes are exactly one item, and it leads from q to next.
pub record LeadsBytes {S V : Type 0} (f : Format S V) (q next : S) (bytes : List ℕ) : Type 0 where
  pub item : V
  pub text : f.says q bytes (whole item [])
  pub leads : f.goes q item ≡ next

-- HoldsNext: exactly one item was taken, its bytes are held, and the state is the one after it; or nothing is held at the end of the
-- stream. After an error, no more was taken than requested.
abbrev pub HoldsNext : {S V : Type 0} → Format S V → S → S → Option (List ℕ) → Option (List ℕ) → List ℕ → Bool → Result Bool PcapError → Type 0
HoldsNext f q next before after held failed (Ok true) = (failed ≡ false) × LeadsBytes f q next held × Consumes before after held
HoldsNext f q next before after held failed (Ok false) = (failed ≡ false) × (held ≡ []) × IsAtEnd before × Keeps before after
HoldsNext f q next before after held failed (Err e) = HasCause (f.says q) before failed e × TakesAsked (f.says q) before after

-- PassesBytes: the bytes begin with an item that leaves the state unchanged, and `after` follows it.
pub record PassesBytes {S V : Type 0} (f : Format S V) (Leaves : V → Type 0) (q : S) (bytes after : List ℕ) : Type 0 where
  pub item : V
  pub text : f.says q bytes (whole item after)
  pub leaves : Leaves item
  pub stays : f.goes q item ≡ q

-- PassesItem: what follows the item at the front of the bytes that leaves the state unchanged, or that there is no such item.
abbrev pub PassesItem : {S V : Type 0} → Format S V → (V → Type 0) → S → List ℕ → Option (Bor (List ℕ)) → Type 0
PassesItem f Leaves q bytes (Some after) = PassesBytes f Leaves q bytes after.now
PassesItem {V = V} f Leaves q bytes None = (item : V) (after : List ℕ) → f.says q bytes (whole item after) → Leaves item → ⊥
