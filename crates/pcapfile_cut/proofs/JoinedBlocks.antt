-- Lemmas on the lead of a part.
use Rattle.std.proofs.Common.{◌≡◌, ◌++◌, ◌∙◌, ℕ, List, [], ◌∷◌, true, append-nil, ap, inl, inr, refl, subst, sym, ◌≤◌, ◌-◌, ◌^◌}
use Rattle.std.specs.Prelude.{None}
use Rattle.std.proofs.lemmas.List.{append_assoc}
use Rattle.pcapfile_cut.specs.declared.cutting.Outcome.{Outcome}
use Rattle.pcapfile_cut.specs.declared.wanted.Wanted.TheVariants.{All}
use Rattle.pcapfile_cut.specs.BlockCuts.{Lent, Place, bytes_in}
use Rattle.pcapfile_cut.specs.JoinedBlocks.{LeadsOn, ReadsLead, is_front}
use Rattle.pcapfile_cut.proofs.BlockCuts.{bytes_more, puts_more, puts_none}

-- The lead has no block yet.
pub leads_none : (text : List ℕ) (a : Place) (outcome : Outcome) → outcome.packets ≤ 2 ^ 64 - 1 → outcome.bytes ≤ 2 ^ 64 - 1
    → ReadsLead text a a outcome outcome []
leads_none text a outcome packets bytes = record { reads = puts_none All a None outcome packets bytes; led = inl refl; write_failed = refl }

-- The lead has one more block.
pub leads_more : (text lead lead_now : List ℕ) (a m b : Place) (old mid new : Outcome) (blocks : List Lent) → ReadsLead text a m old mid blocks
    → lead ≡ a.opening ++ bytes_in blocks → is_front text lead ≡ true → (more : LeadsOn lead lead_now m b mid new)
    → ReadsLead text a b old new (blocks ++ more.one.block ∷ [])
leads_more text lead lead_now a m b old mid new blocks so_far is front more = record {
  reads = puts_more All a m b None None None old mid new blocks so_far.reads more.one;
  led = inr (blocks, more.one.block, refl, subst (λ (l : List ℕ). is_front text l ≡ true) is front);
  write_failed = more.one.counts.write_failed ∙ so_far.write_failed;
}

-- The bytes of the lead after one more block.
pub lead_more : (lead lead_now : List ℕ) (a m b : Place) (mid new : Outcome) (blocks : List Lent) → lead ≡ a.opening ++ bytes_in blocks
    → (more : LeadsOn lead lead_now m b mid new) → lead_now ≡ a.opening ++ bytes_in (blocks ++ more.one.block ∷ [])
lead_more lead lead_now a m b mid new blocks is more =
    let x = more.one.block in
    more.text ∙ ap (λ (l : List ℕ). l ++ x.text) is ∙ append_assoc a.opening (bytes_in blocks) x.text
    ∙ ap (λ (l : List ℕ). a.opening ++ l) (ap (λ (l : List ℕ). bytes_in blocks ++ l) (sym (append-nil x.text)) ∙ sym (bytes_more blocks (x ∷ [])))
