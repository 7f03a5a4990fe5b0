use Rattle.std.proofs.Common.{[], refl}
use Rattle.std.proofs.KnownBytes.{Keeps-refl}
use Rattle.pcap_tolerant_captures.specs.ReaderAsIs.{state_of, stream_of}
use Rattle.pcap_tolerant_captures.proofs.reader.PcapNgReaderAsIs.next_outline.Goals as goal

pub returns-then-self : goal.returns-then-self
returns-then-self g c = record {
  led = record { flaws = []; after = state_of c.args.self.now };
  leads = refl;
  next = rw c.if-self.true (refl, refl, Keeps-refl (g.T.Read.remaining (stream_of c.args.self.now)));
  text = c.clear.ensures.held;
}
