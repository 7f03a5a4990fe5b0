use Rattle.std.proofs.Common.{arith, refl, sym, ◌∙◌, inl, inr}
use Rattle.std.specs.Io.KnownBytes.{IsAtEnd}
use Rattle.std.proofs.lemmas.Bool.{true≢false}
use Rattle.pcap_file.specs.Placing.{source_of}
use Rattle.pcap_file.proofs.Placing.{gives_next, gives_none, gives_refused}
use Rattle.pcap_ng.specs.Reader.{lent_item, state_of, stream_of, text_of}
use Rattle.pcapfile_sort.proofs.KeptBlocks.{ends_at_block, ends_at_end, ends_most, ends_refused, kept_more, kept_none}
use Rattle.pcapfile_sort.proofs.blocks.read_blocks.Goals as goal

pub loop-turn-init : goal.loop-turn-init
loop-turn-init g c = record {
  kept = kept_none (state_of c.args.reader.now) (g.R.Read.remaining (stream_of c.args.reader.now)) c.args.kept.now _ refl c.requires.few;
  ready = c.requires.ready;
}

pub returns-in-None : goal.returns-in-None
returns-in-None g c =
    let l = c.loop-turn in
    let at = source_of g.R.Read.remaining l.reader in
    let now = source_of g.R.Read.remaining c.next_header.new.self in
    let none = gives_none (lent_item c.next_header.new.self) at now c.in-None.ensures.stays c.in-None.ensures.next in
    let end : IsAtEnd at.left = elim none.why [ inl end ↦ end | inr done ↦ absurd (true≢false (sym done ∙ l.invariant.ready)) ] in
    ends_at_end (state_of c.args.reader.now) (g.R.Read.remaining (stream_of c.args.reader.now)) c.args.kept.now at.state at.left l.kept l.turn l.invariant.kept now.failed end

pub returns-in-Some-Err : goal.returns-in-Some-Err
returns-in-Some-Err g c =
    let l = c.loop-turn in
    let at = source_of g.R.Read.remaining l.reader in
    let now = source_of g.R.Read.remaining c.next_header.new.self in
    let stays = rw c.in-Some-Err.field-0-is at c.in-Some-Err.ensures.stays in
    let next = rw c.in-Some-Err.field-0-is at c.in-Some-Err.ensures.next in
    let refused = gives_refused (lent_item c.next_header.new.self) at now c.in-Some-Err.error stays next in
    ends_refused (state_of c.args.reader.now) (g.R.Read.remaining (stream_of c.args.reader.now)) c.args.kept.now at.state at.left l.kept l.turn l.invariant.kept now.failed c.in-Some-Err.error refused.cause

pub returns-in-Some : goal.returns-in-Some
returns-in-Some g c =
    let l = c.loop-turn in
    let at = source_of g.R.Read.remaining l.reader in
    let now = source_of g.R.Read.remaining c.next_header.new.self in
    let header = c.in-Some-Ok.header in
    let item = lent_item c.next_header.new.self header in
    let text = rw c.in-Some-Ok.field-0-is at c.in-Some-Ok.ensures.text in
    ends_at_block (state_of c.args.reader.now) (g.R.Read.remaining (stream_of c.args.reader.now)) c.args.kept.now at.state at.left l.kept l.turn l.invariant.kept now.failed item (text_of c.next_header.new.self) now.left
    c.keep_lent.new.self c.in-Some.ended text c.in-Some.ensures

pub returns : goal.returns
returns g c =
    let l = c.loop-turn in
    let at = source_of g.R.Read.remaining l.reader in
    ends_most (state_of c.args.reader.now) (g.R.Read.remaining (stream_of c.args.reader.now)) c.args.kept.now at.state at.left l.kept l.turn l.invariant.kept at.failed (omega (arith, c.loop-turn-test.false))

pub loop-turn-preserved : goal.loop-turn-preserved
loop-turn-preserved g c =
    let l = c.loop-turn in
    let at = source_of g.R.Read.remaining l.reader in
    let now = source_of g.R.Read.remaining c.next_header.new.self in
    let header = c.in-Some-Ok.header in
    let item = lent_item c.next_header.new.self header in
    let next = rw c.in-Some-Ok.field-0-is at c.in-Some-Ok.ensures.next in
    let text = rw c.in-Some-Ok.field-0-is at c.in-Some-Ok.ensures.text in
    let taken = gives_next (lent_item c.next_header.new.self) at now header refl next in
    let keeps = rw c.in_default.is at c.keep_lent.ensures in
    record {
      kept = kept_more (state_of c.args.reader.now) (g.R.Read.remaining (stream_of c.args.reader.now)) c.args.kept.now at.state at.left l.kept l.turn l.invariant.kept item (text_of c.next_header.new.self) now.left c.keep_lent.new.self text keeps;
      ready = taken.goes_on;
    }
