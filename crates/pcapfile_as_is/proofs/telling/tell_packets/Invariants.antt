use Rattle.std.proofs.Common.{◌≡◌, false}
use Rattle.pcap_classic.specs.Magic.{resolution_of}
use Rattle.pcap_tolerant.specs.ReaderAsIs.{stream_of, header_read, limit_of, has_failed, is_done}
use Rattle.pcap_tolerant.specs.Run.{as_is_under}
use Rattle.pcapfile_as_is.specs.Counts.{has_flaw, size_of}
use Rattle.pcapfile_as_is.specs.Texts.{Telling, TellsBy}
use Rattle.pcapfile_as_is.proofs.telling.tell_packets.Given as goal

abbrev pub invariant-loop-turn : goal.invariant-loop-turn
invariant-loop-turn g l =
    let reader = l.fn.reader in
    let setting = g.P.Teller.setting l.fn.teller in
    record {
      telling : Telling (as_is_under (limit_of reader) (header_read reader)) tt size_of (TellsBy has_flaw (g.P.Teller.text setting (resolution_of (header_read reader).magic_number))) tt (g.T.Read.remaining (stream_of reader)) (g.T.Read.remaining (stream_of l.reader))
          (g.W.Write.contents l.fn.output) (g.W.Write.contents l.output) l.fn.counted l.counted l.turn;
      ready : is_done l.reader ≡ false;
      unfailed : has_failed l.reader ≡ false;
      header : header_read l.reader ≡ header_read reader;
      limit : limit_of l.reader ≡ limit_of reader;
      setting : g.P.Teller.setting l.teller ≡ setting;
    }
