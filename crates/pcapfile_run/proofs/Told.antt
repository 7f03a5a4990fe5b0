-- This file proves the results of checking captures.
use Rattle.std.proofs.Common.{◌≡◌, ◌<◌, ◌+◌, ◌^◌, ℕ, List, [], length, Bool, true, Option, Some, None, Err, inl, inr, refl, sym, subst, arith}
use Rattle.std.specs.Prelude.{⊤, IfSome}
use Rattle.pcap_core.specs.declared.errors.PcapError.{PcapError}
use Rattle.pcap_core.specs.Answer.{number_in, whole}
use Rattle.pcap_items.specs.Format.{Format, IsLawful}
use Rattle.pcap_items.specs.Reading.{Takes, ReadsTold}
use Rattle.pcap_classic.specs.declared.pcap.header.PcapHeader.{PcapHeader}
use Rattle.pcap_classic.specs.HeaderText.{HeaderText, HeaderSays}
use Rattle.pcap_classic.specs.Magic.{order_of, resolution_of}
use Rattle.pcap_classic.specs.Packets.{format_under, reader_format}
use Rattle.pcap_classic.specs.PacketText.{packet_limit, Captured}
use Rattle.pcap_classic.proofs.Captures.{under_valid}
use Rattle.pcap_classic.proofs.HeadedPackets.{packets_lawful}
use Rattle.pcap_classic.proofs.Stable.{header_stable}
use Rattle.pcap_classic.proofs.Texts.{header_length}
use Rattle.pcap_ng.specs.Blocks.{Item}
use Rattle.pcap_items.specs.Lent.{TakesText}
use Rattle.pcap_ng.specs.Opening.{OpeningSays, RefusesOpening}
use Rattle.pcap_ng.specs.State.{State}
use Rattle.pcap_ng.proofs.ReadBlocks.{opened_more}
use Rattle.pcapfile_run.specs.declared.checked.Checked.{Checked}
use Rattle.pcapfile_run.specs.declared.checked.End.{End}
use Rattle.pcapfile_run.specs.declared.format.Format.TheVariants.{Pcap, PcapNg}
use Rattle.pcapfile_run.specs.Checks.{FaultIs, EndIs, ChecksPackets, ChecksOpened, CountsBehind, most_passed}
use Rattle.pcap_walk.specs.CountedItems.{CountsItems}
use Rattle.pcapfile_run.specs.Passing.{counted}
use Rattle.pcapfile_run.proofs.Ends.{fails_at, items_checked}

-- The result of a check.
abbrev pub packets_told : ℕ → ℕ → End → Checked
packets_told items bytes end = record { format = Pcap; items = items; bytes = bytes; end = end }

-- The header is refused.
pub packets_refused : (known now : Option (List ℕ)) (failed : Bool) (e : PcapError) (end : End) → ReadsTold HeaderSays (λ (header : PcapHeader). header) known now failed (Err e) → FaultIs e failed end
    → IfSome known (λ s. ChecksPackets s (packets_told 0 0 end))
packets_refused None now failed e end reads is = tt
packets_refused (Some s) now failed e end reads is = (
  refl,
  inl (record {
    items = refl;
    bytes = refl;
    fails = fails_at ⊥ HeaderSays s e failed end (elim reads.1 [ inl io ↦ inl io | inr (inl short) ↦ inr (inl short) | inr (inr stands) ↦ inr (inr (inr stands.0)) ]) is;
  }),
)

packets_behind : (header : PcapHeader) (s after : List ℕ) (took : Takes HeaderSays (Some s) (Some after) header) (now : Option (List ℕ)) (failed : Bool) (m n : ℕ) (fault : Option PcapError) (end : End)
    → CountsItems (reader_format packet_limit header) tt (Some after) now failed most_passed 0 m 24 n fault → EndIs fault failed m most_passed end → ChecksPackets s (packets_told m n end)
packets_behind header s after took now failed m n fault end counts is =
    let under = under_valid packet_limit header took.1.valid (λ (f : Format (Unit {0}) Captured). CountsItems f tt (Some after) now failed most_passed 0 m 24 n fault) counts in
    let text : HeaderText header s after = subst (λ (l : List ℕ). HeaderText header l after) (sym took.2) (header_stable.text took.0 after [] header took.1) in
    let long : 24 ≡ counted (length took.0) = omega (arith, header_length header took.0 [] took.1) in (
      refl,
      inr (
        header,
        after,
        text,
        items_checked (format_under packet_limit header) (packets_lawful packet_limit (number_in (order_of header.magic_number)) (resolution_of header.magic_number)) tt s took.0 after took.2 now failed most_passed 0 24 fault
            (packets_told m n end) m n under long (omega arith) refl is,
      ),
    )

-- The header is read, and then packets are counted.
pub packets_passed : (header : PcapHeader) (known after now : Option (List ℕ)) (failed : Bool) (m n : ℕ) (fault : Option PcapError) (end : End) → Takes HeaderSays known after header
    → CountsItems (reader_format packet_limit header) tt after now failed most_passed 0 m 24 n fault → EndIs fault failed m most_passed end → IfSome known (λ s. ChecksPackets s (packets_told m n end))
packets_passed header None after now failed m n fault end took counts is = tt
packets_passed header (Some s) None now failed m n fault end took counts is = absurd took.2
packets_passed header (Some s) (Some after) now failed m n fault end took counts is = packets_behind header s after took now failed m n fault end counts is

-- The first block is refused.
pub blocks_refused : (f : Format State Item) (known : Option (List ℕ)) (e : PcapError) (checked : Checked) → RefusesOpening known e
    → (checked.format ≡ PcapNg) × (checked.items ≡ 0) × (checked.bytes ≡ 0) × FaultIs e true checked.end → IfSome known (λ s. ChecksOpened f s checked)
blocks_refused f None e checked why is = tt
blocks_refused f (Some s) e checked why is = (
  is.0,
  inl (record {
    items = is.1;
    bytes = is.2;
    fails = fails_at ⊤ OpeningSays s e true checked.end (elim why [ inl io ↦ inl (io, refl) | inr (inl memory) ↦ inr (inr (inl (tt, memory))) | inr (inr stands) ↦ inr (inr (inr stands)) ]) is.3;
  }),
)

-- The first block is read, and then blocks are counted.
pub blocks_passed : (f : Format State Item) (laws : IsLawful f) (known after now : Option (List ℕ)) (text : List ℕ) (first : State) (before : ℕ) → before ≡ length text → before < 2 ^ 64 → (checked : Checked)
    → TakesText OpeningSays known after text first → CountsBehind f first after now before checked → IfSome known (λ s. ChecksOpened f s checked)
blocks_passed f laws None after now text first before long room checked took counts = tt
blocks_passed f laws (Some s) None now text first before long room checked took counts = absurd took.1
blocks_passed f laws (Some s) (Some after) now text first before long room checked took counts =
    let opens = subst (λ (l : List ℕ). OpeningSays l (whole first after)) (sym took.1) (opened_more text after first took.0) in
    let start : before ≡ counted (length text) = omega (arith, long, room) in
    let number : checked.items ≡ 1 + counts.items = omega (arith, counts.count) in (
      counts.format,
      inr (first, after, opens, items_checked f laws first s text after took.1 now counts.failed most_passed 1 before counts.fault checked counts.items checked.bytes counts.counts start number refl counts.end),
    )
