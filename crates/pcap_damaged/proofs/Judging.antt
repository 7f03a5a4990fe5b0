-- What is at the front of bytes that are enough, and slices of them.
use Rattle.std.proofs.Common.{◌≡◌, ◌<◌, ◌≤◌, ◌-◌, ℕ, List, Bool, length, take, drop, arith, inl, inr}
use Rattle.std.proofs.lemmas.List.{take_all, length-drop}
use Rattle.pcap_classic.specs.declared.pcap.header.PcapHeader.{PcapHeader}
use Rattle.pcap_damaged.specs.declared.judged.Judged.{Judged}
use Rattle.pcap_damaged.specs.declared.judged.Judged.TheVariants.{Packet, Length, Gap, Corrupt, Missing}
use Rattle.pcap_damaged.specs.Judged.{IsEnough, IsJudged, Judges, NotOverlong}

-- The slice from a place on.
pub sliced : (n : ℕ) (s : List ℕ) → n ≤ length s → take (length s - n) (drop n s) ≡ drop n s
sliced n s inside = take_all (length s - n) (drop n s) (omega (arith, length-drop n s, inside))

-- What is found in bytes that are enough is what is known of their front.
pub judged_so : (header : PcapHeader) (time : ℕ) (all : Bool) (s : List ℕ) (judged : Judged) → NotOverlong header time all s → IsEnough header time all s → IsJudged header time s judged → Judges header time all s judged
judged_so header time all s Packet not enough is = (not, enough, is)
judged_so header time all s (Length n) not enough is = inr (enough, is)
judged_so header time all s (Gap n) not enough is = (not, enough, is)
judged_so header time all s Corrupt not enough is = (not, enough, is)
judged_so header time all s (Missing n) not enough is = absurd is

-- A right length and a gap are not 0.
pub length_is_some : (header : PcapHeader) (time : ℕ) (all : Bool) (s : List ℕ) (n : ℕ) → Judges header time all s (Length n) → 0 < n
length_is_some header time all s n (inl over) = omega (arith, over.length, over.overlong.0.2.some)
length_is_some header time all s n (inr (enough, inl (short, is))) = absurd cc
length_is_some header time all s n (inr (enough, inr (head, bytes, text, (not, right, is)))) = omega (arith, is, right.can.some)

pub gap_is_some : (header : PcapHeader) (time : ℕ) (all : Bool) (s : List ℕ) (n : ℕ) → Judges header time all s (Gap n) → 0 < n
gap_is_some header time all s n (not, enough, (place, wrong, is)) = omega (arith, is)
