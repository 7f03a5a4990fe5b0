-- The verdict of a first block, derived from the verdict of a block.
use Rattle.std.proofs.Common.{◌≡◌, ◌++◌, ℕ, List, refl, ap, ◌∙◌}
use Rattle.pcap_core.specs.Answer.{Verdict, whole, lacks, faulty}
use Rattle.pcap_core.specs.Laws.{ExactlyOne, IsStable}
use Rattle.pcap_ng.specs.Blocks.{Item, BlockSays, MayGrow, block_format}
use Rattle.pcap_ng.specs.Frames.{frame_format}
use Rattle.pcap_ng.specs.Opening.{OpeningSays}
use Rattle.pcap_ng.specs.State.{State, opening, order_at}
use Rattle.pcap_ng.proofs.BlockFormat.{block_one, blocks_lawful}
use Rattle.pcap_ng.proofs.HeadedFrames.{frames_lawful}

-- The verdict of a block with only the state after it.
state_verdict : Verdict Item → Verdict State
state_verdict (whole item rest) = whole item.after rest
state_verdict (lacks n) = lacks n
state_verdict (faulty fault) = faulty fault

block_opens : (s : List ℕ) (v : Verdict Item) → BlockSays opening s v → OpeningSays s (state_verdict v)
unfolding state_verdict
block_opens s (whole item rest) x = (item.block, x)
block_opens s (lacks n) x = x
block_opens s (faulty fault) x = x

opening_block : (s : List ℕ) (w : Verdict State) → OpeningSays s w → (v : Verdict Item) × BlockSays opening s v × (w ≡ state_verdict v)
unfolding state_verdict
opening_block s (whole q rest) x = (whole (record { block = x.0; after = q }) rest, x.1, refl)
opening_block s (lacks n) x = (lacks n, x, refl)
opening_block s (faulty fault) x = (faulty fault, x, refl)

pub opening_one : (s : List ℕ) → ExactlyOne (OpeningSays s)
opening_one s =
    let o = block_one opening s in
    record {
      value = state_verdict o.value;
      holds = block_opens s o.value o.holds;
      only = λ w x. let b = opening_block s w x in b.2 ∙ ap state_verdict (o.only b.0 b.1);
    }

pub block_stable : (q : State) → IsStable (BlockSays q)
unfolding block_format
block_stable q = blocks_lawful.stable q

-- If a call may need memory at these bytes, it may also need memory if more bytes follow.
pub grows_more : (q : State) (s more : List ℕ) → MayGrow q s → MayGrow q (s ++ more)
unfolding frame_format
grows_more q s more x = record { block = x.block; rest = x.rest ++ more; frame = (frames_lawful.stable (order_at q)).text s more x.rest x.block x.frame; grows = x.grows }

pub opening_stable : IsStable OpeningSays
opening_stable =
    let stable = block_stable opening in
    record {
      text = λ s more rest q x. (x.0, stable.text s more rest (record { block = x.0; after = q }) x.1);
      fault = λ s more fault x. stable.fault s more fault x;
      request = λ s more n fewer x. stable.request s more n fewer x;
    }
