use Rattle.std.proofs.Common.{◌≡◌, length, [], refl, subst, ◌∙◌, arith, rules, inr}
use Rattle.std.specs.Io.BufRead.{FillKeeps}
use Rattle.std.proofs.BufReadLemmas.{Consumes_shown}
use Rattle.std.proofs.KnownBytes.{Consumes-nil, Consumes-kept, Keeps-refl}
use Rattle.pcap_items.specs.Reading.{read_failed}
use Rattle.pcap_items.proofs.Copying.{shows_nothing, to_none, whole_taken, torn_taken}
use Rattle.pcap_items.proofs.stream.copying.copy_shown.Goals as goal

pub returns-in-Err : goal.returns-in-Err
returns-in-Err g c = record {
  left = g.R.Read.remaining c.args.reader.now;
  mid = g.W.Write.contents c.args.writer.now;
  so_far = to_none (g.A.Ahead.format c.args.ahead.now) (g.A.Ahead.written c.args.ahead.now) c.requires.writing (g.A.Ahead.state c.args.place.now) _ _ _ _ refl;
  few = c.requires.fewer;
  why = inr (record {
    refused = read_failed tt refl;
    part = record { taken = []; from_stream = Consumes-kept _ _ _ [] (Consumes-nil _) c.fill_buf.follows.holds-at-none.0; asked = λ n less. absurd (omega (arith, less)) };
    no_write_failed = c.requires.no_write_failed;
    out = Keeps-refl _;
  });
}

pub returns-then-is_empty : goal.returns-then-is_empty
returns-then-is_empty g c =
    let empty : length c.in-Ok.shown.now ≡ 0 = search rules in (
      refl,
      shows_nothing (g.R.Read.remaining c.args.reader.now) _ empty c.in-Ok.ensures.end,
      record {
        fine = refl;
        no_read_failed = c.requires.no_read_failed;
        no_write_failed = c.requires.no_write_failed;
        taken = c.fill_buf.follows.holds-at-none.0;
        out = Keeps-refl _;
      },
    )

pub returns-in-None : goal.returns-in-None
returns-in-None g c =
    let shown = c.in-Ok.shown.now in
    let sent = rw c.in-None.is at c.put_shown-items.ensures.sends in
    let rested = c.fill_buf.follows.lender-at-none in
    let filled = subst (FillKeeps _ (g.R.Read.remaining rested) (g.R.BufRead.consumable_len rested)) c.in-Ok.is c.fill_buf.follows.holds-at-none in
    let moved = Consumes_shown _ _ _ _ shown c.put_shown-items.result.used c.put_shown-items.ensures.within c.in-Ok.ensures.front c.in-Ok.ensures.end filled.0 filled.1 c.consume.ensures.bytes in (
      whole_taken (g.A.Ahead.format c.args.ahead.now) (g.A.Ahead.written c.args.ahead.now) c.requires.writing (g.A.Ahead.state c.args.place.now) _ _ _ _ _ c.args.tally.now.items c.put_shown-items.result.items moved.0 sent.0,
      omega (arith, sent.1, c.requires.fewer),
      c.requires.no_read_failed,
      sent.2 ∙ c.requires.no_write_failed,
    )

pub returns-in-Some : goal.returns-in-Some
returns-in-Some g c =
    let shown = c.in-Ok.shown.now in
    let sent = rw c.in-Some.is at c.put_shown-items.ensures.sends in
    let rested = c.fill_buf.follows.lender-at-none in
    let filled = subst (FillKeeps _ (g.R.Read.remaining rested) (g.R.BufRead.consumable_len rested)) c.in-Ok.is c.fill_buf.follows.holds-at-none in
    let moved = Consumes_shown _ _ _ _ shown c.put_shown-items.result.used c.put_shown-items.ensures.within c.in-Ok.ensures.front c.in-Ok.ensures.end filled.0 filled.1 c.consume.ensures.bytes in
    torn_taken (g.A.Ahead.format c.args.ahead.now) (g.A.Ahead.written c.args.ahead.now) c.requires.writing (g.A.Ahead.state c.args.place.now) _ _ _ _ _ c.args.tally.now.items c.put_shown-items.result.items c.args.most c.in-Some.error _ _ moved.0 sent.0
    (omega (arith, sent.1, c.requires.fewer)) sent.2 c.requires.no_read_failed sent.3
