use Rattle.std.proofs.Common.{◌≡◌, ◌-◌, length, take, refl, sym, arith, inl}
use Rattle.std.proofs.lemmas.List.{length-take-le}
use Rattle.pcap_classic.specs.HeaderText.{HeaderText}
use Rattle.pcap_classic.specs.Parser.{header_of}
use Rattle.pcap_classic.proofs.Texts.{header_length}
use Rattle.pcap_parts.specs.Captures.{IsCut}
use Rattle.pcapfile_c.specs.Cuts.{CutsPackets}
use Rattle.pcapfile_c.proofs.CutPlaces.{cut_as_asked}
use Rattle.pcapfile_c.proofs.cuts.fill_cuts.Goals as goal

pub returns-in-Ok : goal.returns-in-Ok
returns-in-Ok c =
    let bytes = c.args.capture.now.bytes.now in
    let header = header_of c.in-Ok.parser in
    let after = c.in-Ok.after.now in
    let count = c.cut_packets.result in
    let now = c.cut_packets.new.cuts in
    let cuts = take count now in
    let text : HeaderText header bytes after = c.in-Ok.ensures.tells in
    let front : length bytes - length after ≡ 24 = omega (arith, header_length header bytes after text) in
    let cut : IsCut header cuts bytes = record { after = after; header_text = text; cuts_are = rw front at c.cut_packets.ensures.cuts } in
    let all : CutsPackets c.args.parting bytes c.args.cuts.now now count = record {
      header = header;
      cuts = cuts;
      cut = cut;
      asked = cut_as_asked c.args.parting header cuts bytes after text front c.cut_packets.ensures.asked;
      filled = (sym (length-take-le count now c.cut_packets.ensures.filled), refl, c.cut_packets.ensures.others);
    } in
    inl (refl, refl, all)
