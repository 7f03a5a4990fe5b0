use Rattle.std.proofs.Common.{arith, refl, sym, subst, inl, inr, [], List, ℕ, append-nil}
use Rattle.std.proofs.lemmas.Result.{err_from_is_err_and}
use Rattle.std.specs.Io.KnownBytes.{Appends}
use Rattle.std.proofs.KnownBytes.{Keeps-refl}
use Rattle.pcap_items.specs.Copying.{each_written}
use Rattle.pcap_items.specs.Held.{held_bytes}
use Rattle.pcap_items.specs.Format.{Format}
use Rattle.pcap_items.specs.Writing.{AppendsPart}
use Rattle.pcap_classic.specs.Packets.{format_under}
use Rattle.pcap_classic.specs.PacketText.{Captured, packet_limit}
use Rattle.pcap_items.specs.Reading.{HasCause, TakesAsked}
use Rattle.pcap_items.proofs.Copying.{each_writing, torn_write, step_fails, step_one}
use Rattle.pcap_classic.proofs.Captures.{under_valid}
use Rattle.pcap_classic.proofs.Packets.{reader_lawful, reader_whole}
use Rattle.pcap_classic.proofs.run.copy.PacketsAheadAhead.copy_next.Goals as goal

pub fill_item-requires-clause-lawful : goal.fill_item-requires-clause-lawful
fill_item-requires-clause-lawful g c = reader_lawful packet_limit c.args.self.now.header

pub returns-in_err-head-clause-steps : goal.returns-in_err-head-clause-steps
returns-in_err-head-clause-steps g c =
    let p = err_from_is_err_and c.from_residual.result c.from_residual.ensures.1 in
    let header = c.args.self.now.header in
    let text = g.P.PutsPacket.text c.args.self.now.puts in
    let magic = c.requires.stands.0 in
    let n = c.args.tally.now.items in
    rw (p.1, p.2) (step_fails (format_under packet_limit header) (each_written text) (each_writing text) tt _ _ _ _ n n c.in_err-head.field-0.0 _ _ refl (inr (record {
      refused = under_valid packet_limit header magic (λ (f : Format (Unit {0}) Captured). HasCause (f.says tt) (g.R.Read.remaining c.args.reader.now) c.fill_item.new.has_failed c.in_err-head.field-0.0) c.in_err-head.ensures.fills.0;
      part = under_valid packet_limit header magic (λ (f : Format (Unit {0}) Captured). TakesAsked (f.says tt) (g.R.Read.remaining c.args.reader.now) (g.R.Read.remaining c.fill_item.new.stream)) c.in_err-head.ensures.fills.1;
      no_write_failed = c.requires.no_write_failed;
      out = Keeps-refl _;
    })))

pub returns-in_default-clause-steps : goal.returns-in_default-clause-steps
returns-in_default-clause-steps g c =
    let filled = rw c.in_default.is at c.in_ok-head.ensures.fills in
    (refl, filled.2, record { fine = refl; no_read_failed = filled.0; no_write_failed = c.requires.no_write_failed; taken = filled.3; out = Keeps-refl _ })

pub returns-in-Err-clause-steps : goal.returns-in-Err-clause-steps
returns-in-Err-clause-steps g c =
    let header = c.args.self.now.header in
    let text = g.P.PutsPacket.text c.args.self.now.puts in
    let n = c.args.tally.now.items in
    let filled = rw c.in-Some.is at c.in_ok-head.ensures.fills in
    let wrote = c.in-Err.ensures in
    let part = torn_write _ _ _ _ wrote.2 in
    step_fails (format_under packet_limit header) (each_written text) (each_writing text) tt _ _ _ _ n n c.in-Err.e _ _ refl (inl (record {
      item = wrote.0;
      text = held_bytes c.fill_item.new.held;
      is_text = (reader_whole packet_limit header _ [] wrote.0 (rw c.as_slice.ensures at wrote.1)).1;
      took = filled.4;
      refused = part.0;
      no_read_failed = filled.0;
      write_failed = refl;
      out = subst (λ (l : List ℕ). AppendsPart (g.W.Write.contents c.args.writer.now) (g.W.Write.contents c.put_held.new.writer) l) (sym (append-nil (text wrote.0))) part.1;
    }))

pub returns-clause-steps : goal.returns-clause-steps
returns-clause-steps g c =
    let header = c.args.self.now.header in
    let text = g.P.PutsPacket.text c.args.self.now.puts in
    let n = c.args.tally.now.items in
    let filled = rw c.in-Some.is at c.in_ok-head.ensures.fills in
    let wrote = c.in_default-put_held.ensures in
    let went = subst (λ (l : List ℕ). Appends (g.W.Write.contents c.args.writer.now) (g.W.Write.contents c.put_held.new.writer) l) (sym (append-nil (text wrote.0))) wrote.2 in (
      step_one (format_under packet_limit header) (each_written text) (each_writing text) tt tt wrote.0 (held_bytes c.fill_item.new.held) _ _ _ _ n _ refl
          (reader_whole packet_limit header _ [] wrote.0 (rw c.as_slice.ensures at wrote.1)).1 filled.4 went refl,
      omega arith,
      filled.0,
      c.requires.no_write_failed,
    )
