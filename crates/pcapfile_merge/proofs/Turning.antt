-- Blocks that are skipped, one after another.
use Rattle.std.proofs.Common.{◌≡◌, ◌+◌, ℕ, Bool, List, [], ◌∷◌, ◌++◌, length, length-append, arith, refl, sym, ap, ◌∙◌, subst}
use Rattle.std.specs.Prelude.{Result}
use Rattle.pcap_core.specs.declared.errors.PcapError.{PcapError}
use Rattle.pcap_items.specs.Format.{state_after}
use Rattle.pcap_items.specs.Reading.{Takes}
use Rattle.pcap_items.proofs.Formats.{state_push}
use Rattle.pcap_items.proofs.Taking.{takes_more, takes_none}
use Rattle.pcap_blocks.specs.InterfaceDescription.{Interface}
use Rattle.pcap_ng.specs.Blocks.{Item, block_format}
use Rattle.pcap_ng.specs.Frames.{Framed}
use Rattle.pcap_ng.specs.State.{State, interfaces_at}
use Rattle.pcap_ng.proofs.BlockFormat.{blocks_lawful, goes_after}
use Rattle.pcapfile_merge.specs.declared.kept.Kept.{Kept}
use Rattle.pcapfile_merge.specs.declared.made.Made.{Made}
use Rattle.pcapfile_merge.specs.declared.packet.Pending.{Pending}
use Rattle.pcapfile_merge.specs.Keeping.{Progress, gives, kept_with, with_item, with_items}
use Rattle.pcapfile_merge.specs.LeavingOut.{options_at}
use Rattle.pcapfile_merge.specs.Passing.{TellsPending}
use Rattle.pcapfile_merge.specs.TakingBlocks.{IsGoing, MayPass, Passes, TakesItem}
use Rattle.pcapfile_merge.proofs.Choices.{all_push}

-- The counts after one more block are those after the others, and then that one.
pub with_more : (items : List Item) (item : Item) (kept : Kept) → with_items (items ++ item ∷ []) kept ≡ with_item item (with_items items kept)
with_more [] item kept = refl
with_more (i ∷ items) item kept = with_more items item (with_item i kept)

pub with_both : (items more : List Item) (kept : Kept) → with_items (items ++ more) kept ≡ with_items more (with_items items kept)
with_both [] more kept = refl
with_both (i ∷ items) more kept = with_both items more (with_item i kept)

-- n blocks were skipped.
pub record Passed (a b : Progress) (n : ℕ) : Type 0 where
  pub passes : Passes a b
  pub count : length passes.items ≡ n

pub passed_none : (a : Progress) → IsGoing a.source → Passed a a 0
passed_none a ready = record {
  passes = record { items = []; may_pass = tt; took = takes_none block_format a.source.state a.source.left; in_force = refl; goes_on = ready; counts = refl };
  count = refl;
}

-- One more block is skipped.
pub passed_more : (a mid b : Progress) (n : ℕ) (item : Item) → Passed a mid n → TakesItem mid b item → MayPass item → Passed a b (n + 1)
passed_more a mid b n item so_far takes may =
    let passes = so_far.passes in
    let next = takes.0 in
    let here : Takes (block_format.says (state_after block_format a.source.state passes.items)) mid.source.left b.source.left item =
    subst (λ (q : State). Takes (block_format.says q) mid.source.left b.source.left item) (sym passes.in_force) next.took in
    record {
      passes = record {
        items = passes.items ++ item ∷ [];
        may_pass = all_push MayPass passes.items item passes.may_pass may;
        took = takes_more block_format blocks_lawful a.source.state passes.items item a.source.left mid.source.left b.source.left passes.took here;
        in_force = state_push block_format a.source.state passes.items item ∙ goes_after (state_after block_format a.source.state passes.items) item ∙ next.leads;
        goes_on = (next.goes_on, next.no_read_failed);
        counts = takes.1 ∙ ap (with_item item) passes.counts ∙ sym (with_more passes.items item a.kept);
      };
      count = length-append passes.items (item ∷ []) ∙ omega (arith, so_far.count);
    }

-- A result for a block is a result for an equal block.
pub tells_there : (numbers others : List ℕ) (lent interfaces : List Interface) (framed block : Framed) (made : Made) (result : Result Pending PcapError) → numbers ≡ others → lent ≡ interfaces → framed ≡ block
    → TellsPending numbers lent framed made result → TellsPending others interfaces block made result
tells_there numbers others lent interfaces framed block made result them there same tells =
    subst (λ (b : Framed). TellsPending others interfaces b made result) same
    (subst (λ (l : List Interface). TellsPending others l framed made result) there (subst (λ (n : List ℕ). TellsPending n lent framed made result) them tells))

-- A block of the code is counted as the item that it is.
pub counted_there : (options : ℕ) (lent : List Interface) (framed : Framed) (item : Item) (old new : Kept) → options ≡ options_at item.after → lent ≡ interfaces_at item.after → framed ≡ item.block
    → new ≡ kept_with options lent framed old → new ≡ with_item item old
counted_there options lent framed item old new many there same counts =
    counts ∙ ap (λ (n : ℕ). kept_with n lent framed old) many ∙ ap (λ (l : List Interface). kept_with (options_at item.after) l framed old) there
    ∙ ap (λ (b : Framed). kept_with (options_at item.after) (interfaces_at item.after) b old) same

-- A block of the code gives something if the item that it is does.
pub given_there : (lent : List Interface) (framed : Framed) (item : Item) (b : Bool) → lent ≡ interfaces_at item.after → framed ≡ item.block → gives lent framed ≡ b → gives (interfaces_at item.after) item.block ≡ b
given_there lent framed item b there same is = sym (ap (λ (l : List Interface). gives l framed) there ∙ ap (gives (interfaces_at item.after)) same) ∙ is

pub given_here : (lent : List Interface) (framed : Framed) (item : Item) (b : Bool) → lent ≡ interfaces_at item.after → framed ≡ item.block → gives (interfaces_at item.after) item.block ≡ b → gives lent framed ≡ b
given_here lent framed item b there same is = ap (λ (l : List Interface). gives l framed) there ∙ ap (gives (interfaces_at item.after)) same ∙ is
