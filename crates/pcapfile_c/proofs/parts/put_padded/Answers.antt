use Rattle.std.proofs.Common.{◌≡◌, ◌-◌, ◌%◌, ◌∷◌, ◌++◌, [], ℕ, List, arith, length, refl, subst, take}
use Rattle.pcap_core.specs.Padded.{up_to_4}
use Rattle.pcapfile_values.specs.BlockTexts.{PutsAt}
use Rattle.pcapfile_values.proofs.Puts.{puts_both}
use Rattle.pcapfile_c.proofs.parts.put_padded.Goals as goal

pub returns-clause-put : goal.returns-clause-put
returns-clause-put c =
    let bytes = c.args.bytes.now in
    let zeros : List ℕ = 0 ∷ 0 ∷ 0 ∷ [] in
    let missing = (4 - length bytes % 4) % 4 in
    let few : missing ≡ up_to_4 (length bytes) - length bytes = omega arith in
    let put = puts_both (length bytes) refl c.put_bytes-zeros_at.ensures.behind c.put_bytes-zeros_at.ensures.put c.put_bytes.ensures.put in
    subst (λ (k : ℕ). PutsAt c.args.at (bytes ++ take k zeros) c.args.room.now c.put_bytes.new.room) few put
