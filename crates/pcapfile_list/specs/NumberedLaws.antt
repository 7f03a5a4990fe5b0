-- This file proves that numbered items of a lawful format are a lawful format.
use Rattle.std.proofs.Common.{ℕ, List, Bool, Option}
use Rattle.pcap_core.specs.declared.errors.PcapError.{PcapError}
use Rattle.pcap_items.specs.Format.{Format, IsLawful}
use Rattle.pcap_items.specs.Reading.{HasCause, TakesAsked}
use Rattle.pcap_core.proofs.Verdicts.{one_made}
use Rattle.pcapfile_list.specs.Numbered.{numbered, numbered_behind}
use Rattle.pcapfile_run.specs.WiderCauses.{cause_wider, asked_wider}

module _ {S V : Type 0} (f : Format S V) (is_one : V → Bool) where
  -- Numbered items are a lawful format.
  pub numbered_lawful : IsLawful f → IsLawful (numbered f is_one)
  numbered_lawful laws = record {
    one = λ q s. one_made (numbered_behind is_one q.1) (f.says q.0 s) (laws.one q.0 s);
    stable = λ q. record {
      text = λ s more rest value said. (said.0, said.1, (laws.stable q.0).text s more rest said.0 said.2);
      fault = λ s more fault said. (laws.stable q.0).fault s more fault said;
      request = λ s more n fewer said. (laws.stable q.0).request s more n fewer said;
    };
    own = λ q s rest value said. let own = laws.own q.0 s rest said.0 said.2 in (own.0, own.1, (said.0, said.1, own.2));
    some = λ q. laws.some q.0;
    asks = λ q s n said. laws.asks q.0 s n said;
    short = λ q s n long some. laws.short q.0 s n long some;
    last = λ q s more n m headed lack long again. laws.last q.0 s more n m headed lack long again;
  }

  module _ (q : S) (n : ℕ) where
    -- What refuses an item refuses the numbered item.
    pub cause_numbered : (known : Option (List ℕ)) (failed : Bool) (e : PcapError) → HasCause (f.says q) known failed e → HasCause ((numbered f is_one).says (q, n)) known failed e
    cause_numbered = cause_wider (f.says q) ((numbered f is_one).says (q, n)) (λ s k lack. lack) (λ s fault stands. stands)

    pub asked_numbered : (before after : Option (List ℕ)) → TakesAsked (f.says q) before after → TakesAsked ((numbered f is_one).says (q, n)) before after
    asked_numbered = asked_wider (f.says q) ((numbered f is_one).says (q, n)) (λ s k lack. lack) (λ s fault stands. stands)
