-- This file defines formats whose items are the blocks of a capture, with a value kept from the blocks before each.
use Rattle.std.specs.Prelude.{◌≡◌, ℕ, List, Bool, Option}
use Rattle.pcap_core.specs.declared.errors.PcapError.{PcapError}
use Rattle.pcap_core.specs.Answer.{whole}
use Rattle.pcap_items.specs.Format.{Format, IsLawful}
use Rattle.pcap_items.specs.Reading.{HasCause, TakesAsked}
use Rattle.pcap_ng.specs.Blocks.{Item, block_format}
use Rattle.pcap_ng.specs.State.{State}
use Rattle.pcap_ng.proofs.BlockFormat.{blocks_lawful, goes_after}

-- AreBlocks: the format is lawful, its state is that of blocks with a kept value, and it reads bytes as the block format does.
pub record AreBlocks {K S V : Type 0} (f : Format S V) (reached : State → K → S) (value : K → Item → V) (behind : K → Item → K) : Type 0 where
  pub lawful : IsLawful f
  -- reading a block gives the block's value, and leads to the state after the block
  pub text : (q : State) (k : K) (s rest : List ℕ) (item : Item) → block_format.says q s (whole item rest) → f.says (reached q k) s (whole (value k item) rest)
  pub goes : (q : State) (k : K) (item : Item) → f.goes (reached q k) (value k item) ≡ reached item.after (behind k item)
  -- an error of a block is an error of the format, and the format reads no more of the input than the block needs
  pub cause : (q : State) (k : K) (known : Option (List ℕ)) (failed : Bool) (e : PcapError) → HasCause (block_format.says q) known failed e → HasCause (f.says (reached q k)) known failed e
  pub asked : (q : State) (k : K) (before after : Option (List ℕ)) → TakesAsked (block_format.says q) before after → TakesAsked (f.says (reached q k)) before after

-- Blocks alone are such a format, in which nothing is kept.
pub blocks_alone : AreBlocks {K = Unit {0}} block_format (λ q kept. q) (λ kept item. item) (λ kept item. kept)
blocks_alone = record {
  lawful = blocks_lawful;
  text = λ q kept s rest item said. said;
  goes = λ q kept item. goes_after q item;
  cause = λ q kept known failed e cause. cause;
  asked = λ q kept before after asked. asked;
}
