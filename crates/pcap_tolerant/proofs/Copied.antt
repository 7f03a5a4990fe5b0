-- Lenient copies of captures.
use Rattle.std.proofs.Common.{◌≡◌, ℕ, List, [], length, subst, arith, refl, Ok, Some, None, Bool}
use Rattle.std.specs.Prelude.{Option}
use Rattle.std.specs.Option.{is_some}
use Rattle.std.proofs.lemmas.List.{nil_from_length}
use Rattle.pcap_items.specs.AsTheyCame.{HoldsNext}
use Rattle.pcap_items.specs.Filling.{FillsHeaded}
use Rattle.pcap_classic.specs.declared.pcap.header.PcapHeader.{PcapHeader}
use Rattle.pcap_classic.specs.declared.pcap.parser.PcapParser.{PcapParser}
use Rattle.pcap_classic.specs.HeaderText.{HeaderText}
use Rattle.pcap_classic.specs.Parser.{header_of}
use Rattle.pcap_classic.proofs.Texts.{header_length}
use Rattle.pcap_tolerant.specs.declared.as_is.HeadAsIs.{HeadAsIs}
use Rattle.pcap_tolerant.specs.AsIs.{as_is_format}
use Rattle.pcap_tolerant.specs.KnownHeads.{KnowsAsIs, held_as_is}
use Rattle.pcap_tolerant.specs.Run.{as_is_under}
use Rattle.pcap_tolerant.proofs.KnownPackets.{held_stands}

-- Twenty-four bytes that begin with a header's text are that text.
pub held_header : (parser : PcapParser) (bytes rest : List ℕ) → length bytes ≡ 24 → HeaderText (header_of parser) bytes rest → HeaderText (header_of parser) bytes []
held_header parser bytes rest long text =
    let none : rest ≡ [] = nil_from_length rest (omega (arith, long, header_length (header_of parser) bytes rest text)) in
    subst (λ (l : List ℕ). HeaderText (header_of parser) bytes l) none text

-- A filled buffer holds the next packet, or there is none.
pub packet_held : (limit : ℕ) (header : PcapHeader) (before after : Option (List ℕ)) (held : List ℕ) (failed : Bool) (found : Option HeadAsIs)
    → FillsHeaded ((as_is_under limit header).says tt) (KnowsAsIs limit header) ((as_is_under limit header).head tt) before after held failed (Ok found)
    → HoldsNext (as_is_under limit header) tt tt before after held failed (Ok (is_some found))
unfolding as_is_format
packet_held limit header before after held failed (Some head) x = (x.0, record { item = held_as_is held head; text = held_stands limit header head held x.1; leads = refl }, x.4)
packet_held limit header before after held failed None x = x
