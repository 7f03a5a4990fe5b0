-- Items that are copied, one after another.
use Rattle.std.proofs.Common.{◌≡◌, ℕ, List, [], ◌∷◌, refl, sym, subst, inl, Err}
use Rattle.std.specs.Prelude.{Option, Result, Ok, ⊤}
use Rattle.std.specs.Io.KnownBytes.{Consumes, Appends}
use Rattle.pcap_core.specs.declared.errors.PcapError.{PcapError}
use Rattle.pcap_core.specs.declared.common.Endianness.{Endianness}
use Rattle.pcap_items.specs.declared.stream.copying.Tally.{Tally}
use Rattle.pcap_core.specs.Faults.{Fault, Shows}
use Rattle.pcap_core.specs.Answer.{whole, faulty, Refuses}
use Rattle.pcap_items.specs.AsTheyCame.{as_they_came}
use Rattle.pcap_items.specs.Copying as core
use Rattle.pcap_items.proofs.AsTheyCame.{bytes_writing}
use Rattle.pcap_items.proofs.Copying.{copies_all}
use Rattle.pcap_core.proofs.Refusals.{shows_more}
use Rattle.pcap_ng.specs.Blocks.{Item, BlockSays, block_format}
use Rattle.pcap_ng.specs.Frames.{Framed, FrameSays, frame_format}
use Rattle.pcap_ng.specs.Opening.{OpeningSays}
use Rattle.pcap_ng.specs.Copies.{CopiesTexts, CopiesNg, FollowsHeld, copied_of}
use Rattle.pcap_ng.specs.State.{State, opening, order_at, CanGrow, FollowTells}
use Rattle.pcap_ng.proofs.Causes.{body_refused, pull_item}
use Rattle.pcap_ng.proofs.Refusing.{refuses_wider, shows_refuses}
use Rattle.pcap_ng.proofs.BlockFormat.{blocks_lawful}

-- The first block and the blocks that were copied after it are a copy.
pub first_copies : (first : Item) (q : State) (a b now s r out : Option (List ℕ)) (most : ℕ) (tally : Tally) (fault : Option PcapError) → first.after ≡ q → CopiesTexts block_format opening (first ∷ []) a b s r
    → core.CopiesBehind block_format as_they_came q b now r out most tally.items fault tally.read_failed tally.write_failed → CopiesNg a now s out most (copied_of tally fault)
unfolding block_format
first_copies first q a b now s r out most tally fault leads one more =
    let behind : core.CopiesBehind block_format as_they_came first.after b now r out most tally.items fault tally.read_failed tally.write_failed =
    subst (λ (x : State). core.CopiesBehind block_format as_they_came x b now r out most tally.items fault tally.read_failed tally.write_failed) (sym leads) more in
    record {
      first = first;
      items = behind.items;
      left = behind.left;
      mid = behind.mid;
      texts = copies_all block_format as_they_came bytes_writing blocks_lawful opening (first ∷ []) behind.items a b behind.left s r behind.mid one behind.texts;
      count = behind.count;
      within = behind.within;
      ends = behind.ends;
    }

-- A frame that is held and malformed refuses the block.
pub held_frame : (q : State) (order : Endianness) → order ≡ order_at q → (held : List ℕ) (e : PcapError) → Shows (λ f. frame_format.says order held (faulty f)) e → Refuses ⊤ (λ n. ⊥) (λ f. block_format.says q held (faulty f)) e
unfolding frame_format block_format
held_frame q order is held e x =
    let step : (f : Fault) → FrameSays order held (faulty f) → BlockSays q held (faulty f) = λ f stands. inl (subst (λ (o : Endianness). FrameSays o held (faulty f)) is stands) in
    shows_refuses ⊤ (λ f. BlockSays q held (faulty f)) e (shows_more {P = λ f. FrameSays order held (faulty f)} {Q = λ f. BlockSays q held (faulty f)} step e x)

-- Following a held block leads to its state, or refuses its bytes.
pub held_follows : (q next : State) (order : Endianness) → order ≡ order_at q → (b : Framed) (held : List ℕ) → frame_format.says order held (whole b []) → (r : Result (Unit {0}) PcapError) → FollowTells q next b r → FollowsHeld q next held r
held_follows q next order is b held text (Ok u) means = (record { block = b; after = next }, refl, pull_item q order is b held text b next refl means)
held_follows q next order is b held text (Err e) x =
    refuses_wider (CanGrow q b) ⊤ (λ f. block_format.says q held (faulty f)) (λ f. block_format.says q held (faulty f)) (λ grows. tt) (λ f stands. stands) e (body_refused q order is b held text (CanGrow q b) e x.1)

-- The first block of a capture, as an item.
pub opening_item : (held : List ℕ) (q : State) → OpeningSays held (whole q []) → (item : Item) × (item.after ≡ q) × block_format.says opening held (whole item [])
unfolding block_format
opening_item held q x = (record { block = x.0; after = q }, refl, x.1)

pub one_copied : (q : State) (item : Item) (held : List ℕ) (a b p r : Option (List ℕ)) → block_format.says q held (whole item []) → Consumes a b held → Appends p r held → CopiesTexts block_format q (item ∷ []) a b p r
one_copied q item held a b p r text took went = record { bytes = held; texts = ([], text, refl); took = took; went = went }
