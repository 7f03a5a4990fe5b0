-- The cause that refuses a block's frame from a stream refuses the block.
use Rattle.std.proofs.Common.{◌≡◌, ℕ, List, [], take, Bool, false, Some, None, Ok, Err, subst, inl, inr, ◌⊎◌, arith}
use Rattle.std.specs.Prelude.{Option, IfSome, Result, ⊤}
use Rattle.std.specs.Io.KnownBytes.{Consumes, Keeps}
use Rattle.std.proofs.KnownBytes.{Consumes-nil, Consumes-kept}
use Rattle.pcap_core.specs.declared.errors.PcapError.{PcapError}
use Rattle.pcap_core.specs.declared.common.Endianness.{Endianness}
use Rattle.pcap_core.specs.declared.common.Endianness.TheVariants.{Big}
use Rattle.pcap_core.specs.declared.errors.PcapError.TheVariants as errors
use Rattle.pcap_core.specs.Answer.{whole, faulty, Refuses}
use Rattle.pcap_core.specs.Errors.{IsMemory}
use Rattle.pcap_items.specs.Headed.{good, bad}
use Rattle.pcap_items.specs.Filling.{IsAskedFor}
use Rattle.pcap_items.proofs.Formats.{fault_some}
use Rattle.pcap_items.proofs.Pulling.{asked_cause}
use Rattle.pcap_items.specs.Early.{EarlyFault}
use Rattle.pcap_core.specs.Faults.{Fault, Shows}
use Rattle.pcap_items.specs.Reading.{IsShort, IsTorn, IsFaultOf, HasCause, read_failed, no_memory, torn, refused, TakesAsked}
use Rattle.pcap_core.proofs.Refusals.{shows_more}
use Rattle.pcap_ng.specs.declared.pcapng.state.InForce.{InForce}
use Rattle.pcap_ng.specs.Frames.{Framed, FrameSays, frame_format}
use Rattle.pcap_ng.specs.State.{State, opening, order_at, Means, CanGrow, OpensTells}
use Rattle.pcap_ng.specs.Blocks.{BlockSays, block_format}
use Rattle.pcap_ng.specs.Opening.{OpeningSays, OpensHeld, RefusesOpening}
use Rattle.pcap_ng.proofs.BlockFormat.{blocks_lawful}
use Rattle.pcap_ng.proofs.Refusing.{refuses_wider, shows_refuses}

module _ (q : State) where
  short_block : (s : List ℕ) → IsShort (FrameSays (order_at q)) s → IsShort (BlockSays q) s
  short_block s x = record { n = x.n; lack = x.lack }

  torn_block : (known : Option (List ℕ)) → IfSome known (IsTorn (FrameSays (order_at q))) → IfSome known (IsTorn (BlockSays q))
  torn_block None x = tt
  torn_block (Some s) x = (x.0, short_block s x.1)

  early_block : (s : List ℕ) (f : Fault) → EarlyFault (FrameSays (order_at q)) s f → EarlyFault (BlockSays q) s f
  early_block s f x = record { n = x.n; lack = x.lack; certain = λ more bytes count. inl (x.certain more bytes count) }

  shown_block : (known : Option (List ℕ)) (f : Fault) → IfSome known (λ s. FrameSays (order_at q) s (faulty f) ⊎ EarlyFault (FrameSays (order_at q)) s f)
      → IfSome known (λ s. BlockSays q s (faulty f) ⊎ EarlyFault (BlockSays q) s f)
  shown_block None f x = tt
  shown_block (Some s) f (inl x) = inl (inl x)
  shown_block (Some s) f (inr x) = inr (early_block s f x)

  fault_block : (known : Option (List ℕ)) (f : Fault) → IsFaultOf (FrameSays (order_at q)) known f → IsFaultOf (BlockSays q) known f
  fault_block known f x = record { bytes = x.bytes; stands = inl x.stands; some = x.some; shown = shown_block known f x.shown }

  pub cause_block : (known : Option (List ℕ)) (failed : Bool) (e : PcapError) → HasCause (FrameSays (order_at q)) known failed e → HasCause (BlockSays q) known failed e
  cause_block known failed e (read_failed io is) = read_failed io is
  cause_block known failed e (no_memory memory is) = no_memory memory is
  cause_block known failed e (torn io is rest) = torn io is (torn_block known rest)
  cause_block known failed e (refused shown is) = refused (shows_more (fault_block known) e shown) is

  pub asked_block : (before after : Option (List ℕ)) → TakesAsked (FrameSays (order_at q)) before after → TakesAsked (BlockSays q) before after
  asked_block before after x = record { taken = x.taken; from_stream = x.from_stream; asked = λ n less. short_block (take n x.taken) (x.asked n less) }

-- A refusal either reports that memory ran out, or shows a fault.
memory_or_shows : (M : Type 0) (F : Fault → Type 0) (e : PcapError) → Refuses M (λ n. ⊥) F e → IsMemory e ⊎ Shows F e
memory_or_shows M F (errors.IncompleteBuffer n) x = absurd x
memory_or_shows M F (errors.OutOfMemory a) x = inl tt
memory_or_shows M F _ x = inr x

-- A frame that was refused, in the byte order of a state, refuses the block.
pub pull_frame : (q : State) (order : Endianness) → order ≡ order_at q → (before after : Option (List ℕ)) (failed : Bool) (e : PcapError) → HasCause (frame_format.says order) before failed e × TakesAsked (frame_format.says order) before after
    → HasCause (block_format.says q) before failed e × TakesAsked (block_format.says q) before after
unfolding frame_format block_format
pull_frame q order is before after failed e x =
    let cause : HasCause (FrameSays (order_at q)) before failed e = subst (λ (o : Endianness). HasCause (FrameSays o) before failed e) is x.0 in
    let took : TakesAsked (FrameSays (order_at q)) before after = subst (λ (o : Endianness). TakesAsked (FrameSays o) before after) is x.1 in
    (cause_block q before failed e cause, asked_block q before after took)

module _ (q : State) (order : Endianness) (is : order ≡ order_at q) (held : List ℕ) (before after : Option (List ℕ)) (failed : Bool) (unfailed : failed ≡ false) (came : Consumes before after held) (asked : IsAskedFor (frame_format.says order) held) where
  -- A whole frame is no more than the reader requested.
  frame_asked : TakesAsked (block_format.says q) before after
  unfolding frame_format block_format
  frame_asked =
      let took : TakesAsked (FrameSays order) before after = record { taken = held; from_stream = came; asked = asked } in
      asked_block q before after (subst (λ (o : Endianness). TakesAsked (FrameSays o) before after) is took)

  pub pull_room : (e : PcapError) → IsMemory e → HasCause (block_format.says q) before failed e × TakesAsked (block_format.says q) before after
  pull_room e memory = (no_memory memory unfailed, frame_asked)

  -- The block that is held is refused.
  pub pull_held : (M : Type 0) (e : PcapError) → Refuses M (λ n. ⊥) (λ f. block_format.says q held (faulty f)) e → HasCause (block_format.says q) before failed e × TakesAsked (block_format.says q) before after
  pull_held M e x =
      elim (memory_or_shows M (λ f. block_format.says q held (faulty f)) e x) [
        | inl memory ↦ pull_room e memory
        | inr shown ↦ (
          asked_cause (block_format.says q) (blocks_lawful.stable q) e held (λ f stands. fault_some block_format blocks_lawful q held f stands) shown before after failed unfailed came,
          frame_asked,
        )
      ]

module _ (q : State) (order : Endianness) (is : order ≡ order_at q) (b : Framed) (held : List ℕ) (text : frame_format.says order held (whole b [])) where
  body_shows : (f : Fault) → Means q b (bad f) → block_format.says q held (faulty f)
  unfolding frame_format block_format
  body_shows f means = inr (record { block = b; rest = []; frame = subst (λ (o : Endianness). FrameSays o held (whole b [])) is text; means = means })

  pub body_refused : (M : Type 0) (e : PcapError) → Refuses M (λ n. ⊥) (λ f. Means q b (bad f)) e → Refuses M (λ n. ⊥) (λ f. block_format.says q held (faulty f)) e
  body_refused M e x = refuses_wider M M (λ f. Means q b (bad f)) (λ f. block_format.says q held (faulty f)) (λ m. m) body_shows e x

  pub pull_item : (own : Framed) (next : State) → own ≡ b → Means q b (good next) → block_format.says q held (whole (record { block = own; after = next }) [])
  unfolding frame_format block_format
  pull_item own next same means = rw same (record { frame = subst (λ (o : Endianness). FrameSays o held (whole b [])) is text; means = means })

opening_fault : (known : Option (List ℕ)) (f : Fault) → IsFaultOf (BlockSays opening) known f → IsFaultOf OpeningSays known f
opening_fault None f x = record { bytes = x.bytes; stands = x.stands; some = x.some; shown = tt }
opening_fault (Some s) f x = record { bytes = x.bytes; stands = x.stands; some = x.some; shown = elim x.shown [ inl stands ↦ inl stands | inr early ↦ inr (record { n = early.n; lack = early.lack; certain = early.certain }) ] }

-- The cause for which no reader was made.
pub opening_refused : (before : Option (List ℕ)) (failed : Bool) (e : PcapError) → HasCause (block_format.says opening) before failed e → RefusesOpening before e
unfolding block_format
opening_refused before failed e (read_failed io is) = inl io
opening_refused before failed e (no_memory memory is) = inr (inl memory)
opening_refused before failed e (torn io is rest) = inl io
opening_refused before failed e (refused shown is) = inr (inr (shows_more (opening_fault before) e shown))

-- No more was taken of the first block than the reader requested.
pub opening_asked : (before after : Option (List ℕ)) → TakesAsked (block_format.says opening) before after → TakesAsked OpeningSays before after
unfolding block_format
opening_asked before after x = record { taken = x.taken; from_stream = x.from_stream; asked = λ n less. record { n = (x.asked n less).n; lack = (x.asked n less).lack } }

-- Nothing was taken of the first block.
pub opening_kept : (before after : Option (List ℕ)) → Keeps before after → TakesAsked OpeningSays before after
opening_kept before after kept = record { taken = []; from_stream = Consumes-kept _ _ _ [] (Consumes-nil before) kept; asked = λ n less. absurd (omega (arith, less)) }

-- The verdict of the first block, by the format of all blocks.
pub opening_says : (M : Type 0) (held : List ℕ) (e : PcapError) → Refuses M (λ n. ⊥) (λ f. OpeningSays held (faulty f)) e → Refuses M (λ n. ⊥) (λ f. block_format.says opening held (faulty f)) e
unfolding block_format
opening_says M held e x = x

-- A first frame that is refused refuses the capture.
pub frame_opens : (held : List ℕ) (e : PcapError) → Shows (λ f. frame_format.says Big held (faulty f)) e → Refuses ⊤ (λ n. ⊥) (λ f. OpeningSays held (faulty f)) e
unfolding frame_format order_at
frame_opens held e x = shows_refuses ⊤ (λ f. OpeningSays held (faulty f)) e (shows_more {P = λ f. frame_format.says Big held (faulty f)} {Q = λ f. OpeningSays held (faulty f)} (λ f stands. inl stands) e x)

-- A first frame whose body is read opens the capture or is refused.
pub body_opens : (b : Framed) (held : List ℕ) (result : Result InForce PcapError) → frame_format.says Big held (whole b []) → OpensTells b result → OpensHeld held result
unfolding frame_format order_at
body_opens b held (Ok f) text means = (b, record { frame = text; means = means })
body_opens b held (Err e) text x = refuses_wider (CanGrow opening b) ⊤ (λ f. Means opening b (bad f)) (λ f. OpeningSays held (faulty f)) (λ grows. tt) (λ f means. inr (record { block = b; rest = []; frame = text; means = means })) e x
