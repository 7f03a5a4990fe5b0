-- Nothing is taken beyond what the grammar requests.
use Rattle.std.proofs.Common.{◌≡◌, ◌<◌, ℕ, List, length, take, arith, inl, inr}
use Rattle.std.proofs.lemmas.Bool.{cases_lt}
use Rattle.std.proofs.lemmas.List.{length-take-le}
use Rattle.std.specs.Prelude.{Option, false}
use Rattle.pcap_classic.specs.declared.pcap.header.PcapHeader.{PcapHeader}
use Rattle.pcap_core.specs.declared.rules.Rule.TheVariants.{CaptureMagic}
use Rattle.pcap_core.specs.Answer.{lacks, faulty}
use Rattle.pcap_core.specs.Faults.{Invalid}
use Rattle.pcap_classic.specs.Magic.{is_magic}
use Rattle.pcap_classic.specs.Packets.{reader_format}
use Rattle.pcap_items.specs.Reading.{TakesAsked, TakesAtMost}
use Rattle.pcap_items.proofs.Formats.{only}
use Rattle.pcap_classic.proofs.Packets.{reader_lawful, reader_refuses}

-- Under an invalid magic number at most one byte is taken.
pub invalid_takes_one : (limit : ℕ) (header : PcapHeader) (before after : Option (List ℕ)) → is_magic header.magic_number ≡ false
    → TakesAsked ((reader_format limit header).says tt) before after → TakesAtMost 1 before after
invalid_takes_one limit header before after invalid took =
    elim (cases_lt 1 (length took.taken)) [
      | inr le ↦ (took.taken, took.from_stream, le)
      | inl lt ↦
          let one = take 1 took.taken in
          let short = took.asked 1 lt in
          let some : 0 < length one = omega (arith, length-take-le 1 took.taken (omega (arith, lt))) in
          let same : lacks short.n ≡ faulty (Invalid CaptureMagic) =
          only (reader_format limit header) (reader_lawful limit header) tt one (lacks short.n) (faulty (Invalid CaptureMagic)) short.lack (reader_refuses limit header one invalid some) in
          absurd cc
    ]
