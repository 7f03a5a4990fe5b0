use Rattle.std.proofs.Common.{◌∙◌, sym, ap, refl, option_map, Some, arith, length}
use Rattle.std.proofs.lemmas.Bool.{eqb-true, eq-eqb, not-false, not-true, true≢false}
use Rattle.pcap_core.specs.Link.{key}
use Rattle.pcap_core.proofs.Links.{key_same}
use Rattle.pcap_classic.specs.PacketText.{Captured}
use Rattle.pcap_blocks.specs.InterfaceDescription.{interface_of}
use Rattle.pcap_file.specs.Placed.{Places}
use Rattle.pcap_file.proofs.run.unplaced.placed.Goals as goal

pub returns-then-ne : goal.returns-then-ne
returns-then-ne c = (
  interface_of c.in-Some.interface.now,
  ap (option_map (λ i. interface_of i.now)) c.in-Some.is,
  λ same. true≢false (sym (eq-eqb _ _ (ap key same)) ∙ not-true _ (sym c.if-ne.ensures)),
)

pub returns : goal.returns
returns c =
    let interface = interface_of c.in-Some.interface.now in
    let seconds = c.in-Some-seconds_of.ensures in
    let time = c.timestamp-time.ensures in
    let packet : Captured = record {
      header = record { ts_sec = c.in-Some-seconds_of.seconds; ts_nsec = c.timestamp-time.result.nanoseconds; incl_len = length c.args.bytes.now; orig_len = c.args.original_len };
      bytes = c.args.bytes.now;
    } in
    let here : Places (Some interface) c.args.link c.args.units c.args.original_len c.args.bytes.now packet = record {
      by = interface;
      described = refl;
      same_link = key_same _ _ (eqb-true _ _ (not-false _ (sym c.if-ne.ensures)));
      time = record {
        clock = time.clock;
        clock_is = time.clock_is;
        time_is = record { counted = time.time_is.counted; split = time.time_is.split; moved = sym seconds.1 ∙ time.time_is.moved };
      };
      original_is = refl;
      bytes_are = refl;
      whole = record {
        seconds = seconds.0;
        nanoseconds = omega (arith, time.time_is.split.no_second_more);
        included = refl;
        original = c.if-bytes-original_len.false;
        limit = c.if-original_len-gt-PACKET_LIMIT.false;
      };
    } in
    rw (c.new-header.ensures, c.in-Some.is) here
