-- Lemmas about whether bytes are UTF-8.
use Rattle.std.proofs.Common.{◌≡◌, ℕ, Bool, true, false, List, Ok, Err, refl}
use Rattle.std.specs.Prelude.{IsUtf8}
use Rattle.std.specs.Str.{is_utf8}
use Rattle.std.proofs.lemmas.Str.{IsUtf8-from_is_utf8, is_utf8-from_IsUtf8}
use Rattle.pcap_core.specs.Faults.{Utf8}
use Rattle.pcap_options.specs.Values.{string_at}

pub string_is : (v : List ℕ) → IsUtf8 v → string_at v ≡ Ok v
string_is v h = rw (is_utf8-from_IsUtf8 v h) refl

not_utf8 : (v : List ℕ) (b : Bool) → is_utf8 v ≡ b → (IsUtf8 v → ⊥) → b ≡ false
not_utf8 v true e h = absurd (h (IsUtf8-from_is_utf8 v e))
not_utf8 v false e h = refl

pub no_string : (v : List ℕ) → (IsUtf8 v → ⊥) → string_at v ≡ Err Utf8
no_string v h = rw (not_utf8 v (is_utf8 v) refl h) refl
