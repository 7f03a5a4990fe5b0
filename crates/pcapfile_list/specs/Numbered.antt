-- This file defines items of a format with numbers among those of one kind.
use Rattle.std.specs.Prelude.{◌+◌, ℕ, Bool, true, false}
use Rattle.pcap_core.specs.Answer.{Made}
use Rattle.pcap_items.specs.Format.{Format}
use Rattle.pcapfile_run.specs.Passing.{counted}

-- A numbered item is an item with the number of items of the kind up to it, itself included.
pub record Numbered (V : Type 0) : Type 0 where
  pub item : V
  pub number : ℕ

-- The number after an item: one more if the item is of the kind.
abbrev pub number_behind : Bool → ℕ → ℕ
number_behind true n = counted (n + 1)
number_behind false n = n

-- The numbered item after n items of the kind.
abbrev pub numbered_behind : {V : Type 0} → (V → Bool) → ℕ → V → Numbered V
numbered_behind is_one n item = record { item = item; number = number_behind (is_one item) n }

-- The format of numbered items. Its state is that of the format and the number of items of the kind so far.
abbrev pub numbered : {S V : Type 0} → Format S V → (V → Bool) → Format (S × ℕ) (Numbered V)
numbered f is_one = record {
  says = λ q s. Made (numbered_behind is_one q.1) (f.says q.0 s);
  goes = λ q numbered. (f.goes q.0 numbered.item, numbered.number);
  head = λ q. f.head q.0;
}
