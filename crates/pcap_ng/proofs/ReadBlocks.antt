-- The blocks that were taken from a stream with known bytes are the front of these bytes.
use Rattle.std.proofs.Common.{◌≡◌, ℕ, List, [], ◌++◌, Some, None, Ok, false, All, refl, sym, subst}
use Rattle.std.specs.Prelude.{Option, Result, IfNone, IfOk, IfSome, map}
use Rattle.pcap_core.specs.declared.errors.PcapError.{PcapError}
use Rattle.pcap_core.specs.declared.errors.PcapError.TheVariants.{OutOfMemory}
use Rattle.pcap_core.specs.Bytes.{IsOwned}
use Rattle.pcap_core.specs.Answer.{whole}
use Rattle.pcap_items.specs.Reading.{NextGives, Takes}
use Rattle.pcap_items.specs.Takes.{GivesItems, TakesParts}
use Rattle.pcap_items.proofs.Taking.{run_reads, run_takes}
use Rattle.pcap_ng.specs.declared.pcapng.block.Block.{Block}
use Rattle.pcap_ng.specs.declared.pcapng.reader.PcapNgReader.{PcapNgReader}
use Rattle.pcap_ng.specs.declared.run.NgRead.{NgRead}
use Rattle.pcap_ng.specs.Frames.{framed_of}
use Rattle.pcap_ng.specs.State.{State, opening}
use Rattle.pcap_ng.specs.Blocks.{Item, block_format, item_of}
use Rattle.pcap_ng.specs.Opening.{OpeningSays}
use Rattle.pcap_ng.specs.Reader.{state_of, stream_of, has_failed, is_done, text_of, OpensReader, StaysUnlessGiven}
use Rattle.pcap_ng.specs.Reads.{TakesNg, ReadsNg}
use Rattle.pcap_ng.proofs.BlockFormat.{blocks_lawful}

-- A text that opens a capture also opens it if more bytes follow.
pub opened_more : (t rest : List ℕ) (q : State) → OpeningSays t (whole q []) → OpeningSays (t ++ rest) (whole q rest)
unfolding block_format
opened_more t rest q x = (x.0, (blocks_lawful.stable opening).text t rest [] (record { block = x.0; after = q }) x.1)

module _ {T : Type 0} (most : ℕ) (read : NgRead T) (first : State) (s : List ℕ) (now : Option (List ℕ)) where
  front_of : (after : Option (List ℕ)) → Takes OpeningSays (Some s) after first → TakesParts block_format (λ (item : Item). item.block) first (state_of read.reader) after now (has_failed read.reader) most (map framed_of read.blocks.items) read.fault → ReadsNg s most read
  front_of None opened blocks = absurd opened.2
  front_of (Some rest) opened blocks = record {
    first = first;
    rest = rest;
    items = blocks.items;
    opened = subst (λ (l : List ℕ). OpeningSays l (whole first rest)) (sym opened.2) (opened_more opened.0 rest first opened.1);
    blocks_are = blocks.parts;
    in_force = blocks.state_is;
    front = run_reads block_format blocks_lawful first rest now (has_failed read.reader) most blocks.items read.fault blocks.run;
  }

pub front_read : {T : Type 0} (remaining : T → Option (List ℕ)) (known : Option (List ℕ)) (most : ℕ) (read : NgRead T) → TakesNg remaining known most read → IfSome known (λ bytes. ReadsNg bytes most read)
front_read remaining None most read x = tt
front_read remaining (Some s) most read x = front_of most read x.first s (remaining (stream_of read.reader)) x.after x.opened x.blocks

module _ {T : Type 0} (remaining : T → Option (List ℕ)) (most : ℕ) (stream : T) (old : PcapNgReader T) (opened : OpensReader remaining stream (Ok old)) where
  -- The contract of one call of a reader's `next`.
  abbrev pub GivesBlock : PcapNgReader T → Option (Result Block PcapError) → PcapNgReader T → Type 0
  GivesBlock a r b =
      StaysUnlessGiven (state_of a) (state_of b) r
      × NextGives (block_format.says (state_of a)) (item_of (state_of b)) (remaining (stream_of a)) (remaining (stream_of b)) (is_done a) (is_done b) (has_failed a) (has_failed b) r
      × (text_of b ≡ []) × IfSome r (λ given. IfOk given (λ block. IsOwned block.body))

  -- The blocks that a new reader returned are the parts that were taken from the stream.
  pub blocks_given : (now : PcapNgReader T) (blocks : List Block) (fault : Option PcapError) → GivesItems GivesBlock (λ refused e. e ≡ OutOfMemory refused) old now most blocks fault
      → TakesParts block_format (λ (item : Item). item.block) (state_of old) (state_of now) (remaining (stream_of old)) (remaining (stream_of now)) (has_failed now) most (map framed_of blocks) fault
      × IfNone fault (is_done now ≡ false) × All (λ block. IsOwned block.body) blocks
  unfolding block_format
  blocks_given now blocks fault run =
      let all = run_takes block_format (λ item. item.block) framed_of (λ block. IsOwned block.body) GivesBlock (λ refused e. e ≡ OutOfMemory refused) (λ a. Unit {0})
      state_of (λ a. remaining (stream_of a)) is_done has_failed (λ a. item_of (state_of a)) blocks_lawful (record {
        keeps = λ a b r kept step. tt;
        next = λ a b r kept step. step.1;
        item = λ a b x step. (refl, refl, step.3);
        none = λ a b step. step.0;
        refusal = λ a b e step. step.0;
        memory = λ refused e is. rw is tt;
      }) old now most blocks fault (tt, opened.0, opened.1) run in
      (all.0, all.2, all.3)

  pub blocks_taken : (read : NgRead T) → GivesItems GivesBlock (λ refused e. e ≡ OutOfMemory refused) old read.reader most read.blocks.items read.fault → TakesNg remaining (remaining stream) most read
  blocks_taken read run = record {
    after = remaining (stream_of old);
    first = state_of old;
    opened = (text_of old, opened.2.0, opened.2.1);
    blocks = (blocks_given read.reader read.blocks.items read.fault run).0;
  }
