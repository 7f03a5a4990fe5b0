use Rattle.std.proofs.Common.{◌∙◌, ap}
use Rattle.pcap_program.specs.Uninterrupted.{stream_of}
use Rattle.capcopy_run.specs.Words.{texts_of}
use Rattle.capcopy_run.proofs.AskedWords.{buffer_left, buffered_runs}
use Rattle.capcopy_run.proofs.words.run_texts.Goals as goal

pub returns : goal.returns
returns g c =
    let remaining = g.R.Read.remaining in
    let same = buffer_left (λ reads. remaining (stream_of reads)) c.in-Ok.input (remaining c.args.input) c.in-Ok.ensures.capacity c.in-Ok.ensures.empty (ap (λ reads. remaining (stream_of reads)) c.in-Ok.ensures.inner ∙ ap remaining c.new.ensures) in
    buffered_runs (texts_of c.args.texts.now) 4294967295 (remaining c.args.input) _ _ _ _ c.run.result same (record {
      listed = c.run.ensures.listed;
      list_takes_no_memory = c.run.ensures.list_takes_no_memory;
      blocks_listed = c.run.ensures.blocks_listed;
      copied = c.run.ensures.copied;
      known = c.run.ensures.known;
      usage = c.run.ensures.usage;
      unread = c.run.ensures.unread;
      unwritten = c.run.ensures.unwritten;
    })
