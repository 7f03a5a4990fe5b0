-- Lemmas on counts of other blocks by kind.
use Rattle.std.proofs.Common.{◌≡◌, ◌+◌, ◌++◌, ◌∷◌, [], ℕ, List, Bool, true, false, cond, sym, ap, ◌∙◌, arith}
use Rattle.std.specs.Prelude.{count_by}
use Rattle.pcapfile_run.specs.Passing.{counted}
use Rattle.pcapfile_info.specs.declared.others.Kind.{Kind}
use Rattle.pcapfile_info.specs.declared.others.Others.{Others}
use Rattle.pcapfile_info.specs.declared.seen.Sight.{Sight}
use Rattle.pcapfile_info.specs.Describing.{number_behind}
use Rattle.pcapfile_info.specs.Others.{CountsOthers, is_custom, is_journal, is_names, is_other, is_secrets, is_statistics, is_unknown}
use Rattle.pcapfile_info.proofs.Tallying.{count_push}

-- Each count goes up by one if the item is of its kind.
pub record AddsOther (sight : Sight) (old new : Others) : Type 0 where
  pub names : new.names ≡ number_behind (is_other is_names sight) old.names
  pub statistics : new.statistics ≡ number_behind (is_other is_statistics sight) old.statistics
  pub journal : new.journal ≡ number_behind (is_other is_journal sight) old.journal
  pub secrets : new.secrets ≡ number_behind (is_other is_secrets sight) old.secrets
  pub custom : new.custom ≡ number_behind (is_other is_custom sight) old.custom
  pub unknown : new.unknown ≡ number_behind (is_other is_unknown sight) old.unknown

counted_behind : (one : Bool) (old n : ℕ) → old ≡ counted n → number_behind one old ≡ counted (n + cond one 1 0)
counted_behind true old n is = omega (arith, is)
counted_behind false old n is = omega (arith, is)

count_behind : (among : Kind → Bool) (sights : List Sight) (sight : Sight) (old new : ℕ) → old ≡ counted (count_by (is_other among) sights) → new ≡ number_behind (is_other among sight) old
    → new ≡ counted (count_by (is_other among) (sights ++ sight ∷ []))
count_behind among sights sight old new before adds =
    adds ∙ counted_behind (is_other among sight) old (count_by (is_other among) sights) before ∙ ap counted (sym (count_push (is_other among) sights sight))

-- The counts with one more item.
pub others_push : (sights : List Sight) (sight : Sight) (old new : Others) → CountsOthers sights old → AddsOther sight old new → CountsOthers (sights ++ sight ∷ []) new
others_push sights sight old new before adds = record {
  names = count_behind is_names sights sight old.names new.names before.names adds.names;
  statistics = count_behind is_statistics sights sight old.statistics new.statistics before.statistics adds.statistics;
  journal = count_behind is_journal sights sight old.journal new.journal before.journal adds.journal;
  secrets = count_behind is_secrets sights sight old.secrets new.secrets before.secrets adds.secrets;
  custom = count_behind is_custom sights sight old.custom new.custom before.custom adds.custom;
  unknown = count_behind is_unknown sights sight old.unknown new.unknown before.unknown adds.unknown;
}

not_behind : (one : Bool) (old new : ℕ) → one ≡ false → new ≡ old → new ≡ number_behind one old
not_behind one old new none same = same ∙ ap (λ (b : Bool). number_behind b old) (sym none)

-- The counts with one more item that is no other block.
pub others_stay : (sights : List Sight) (sight : Sight) → ((among : Kind → Bool) → is_other among sight ≡ false) → (old new : Others) → CountsOthers sights old → new ≡ old → CountsOthers (sights ++ sight ∷ []) new
others_stay sights sight none old new before same = others_push sights sight old new before (record {
  names = not_behind (is_other is_names sight) old.names new.names (none is_names) (ap (λ (o : Others). o.names) same);
  statistics = not_behind (is_other is_statistics sight) old.statistics new.statistics (none is_statistics) (ap (λ (o : Others). o.statistics) same);
  journal = not_behind (is_other is_journal sight) old.journal new.journal (none is_journal) (ap (λ (o : Others). o.journal) same);
  secrets = not_behind (is_other is_secrets sight) old.secrets new.secrets (none is_secrets) (ap (λ (o : Others). o.secrets) same);
  custom = not_behind (is_other is_custom sight) old.custom new.custom (none is_custom) (ap (λ (o : Others). o.custom) same);
  unknown = not_behind (is_other is_unknown sight) old.unknown new.unknown (none is_unknown) (ap (λ (o : Others). o.unknown) same);
})

-- Items that are no other blocks have the counts of no items.
pub others_none : (sights : List Sight) → ((among : Kind → Bool) → count_by (is_other among) sights ≡ 0) → (others : Others) → CountsOthers [] others → CountsOthers sights others
others_none sights none others before = record {
  names = before.names ∙ ap counted (sym (none is_names));
  statistics = before.statistics ∙ ap counted (sym (none is_statistics));
  journal = before.journal ∙ ap counted (sym (none is_journal));
  secrets = before.secrets ∙ ap counted (sym (none is_secrets));
  custom = before.custom ∙ ap counted (sym (none is_custom));
  unknown = before.unknown ∙ ap counted (sym (none is_unknown));
}
