-- The header of a capture, alone.
use Rattle.std.proofs.Common.{◌≡◌, ◌≤◌, ◌+◌, ℕ, List, [], length, take, subst, arith, length-take-le}
use Rattle.pcap_items.proofs.Formats.{nil_of_length}
use Rattle.pcap_classic.specs.declared.pcap.header.PcapHeader.{PcapHeader}
use Rattle.pcap_classic.specs.HeaderText.{HeaderText}
use Rattle.pcap_classic.proofs.Texts.{header_length}
use Rattle.pcapfile_rows.specs.Opened.{BeginsWith}

-- A header in at most 24 bytes has all of them, and nothing follows it.
pub header_alone : (h : PcapHeader) (s : List ℕ) (n : ℕ) (rest : List ℕ) → n ≤ 24 → n ≤ length s → HeaderText h (take n s) rest → BeginsWith h s
header_alone h s n rest small inside text =
    let long : length (take n s) ≡ 24 + length rest = header_length h (take n s) rest text in
    let taken : length (take n s) ≡ n = length-take-le n s inside in
    let all : n ≡ 24 = omega (arith, long, taken, small) in
    let none : rest ≡ [] = nil_of_length rest (omega (arith, long, taken, small)) in
    (omega (arith, all, inside), subst (λ (k : ℕ). HeaderText h (take k s) []) all (subst (λ (t : List ℕ). HeaderText h (take n s) t) none text))
