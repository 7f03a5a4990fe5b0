-- This file proves how the line of a packet is put together.
use Rattle.std.proofs.Common.{◌≡◌, ℕ, List, [], ◌∷◌, ◌++◌, rules}
use Rattle.std.specs.Fmt.{decimal}
use Rattle.std.proofs.lemmas.List.{append_assoc}
use Rattle.pcap_classic.specs.declared.pcap.packet.PacketHeader.{PacketHeader}
use Rattle.pcap_program.specs.Digits.{nine_digits}
use Rattle.capcopy_run.specs.PacketLines.{packet_line}

-- The parts put before a text, from the line's end to its beginning, are the line.
pub line_made : (index original included seconds : ℕ) (header : PacketHeader) (l9 l8 l7 l6 l5 l4 l3 l2 l1 l0 all : List ℕ)
    → original ≡ header.orig_len → included ≡ header.incl_len → seconds ≡ header.ts_sec
    → l0 ≡ [] → l1 ≡ 10 ∷ l0 → l2 ≡ decimal original ++ l1 → l3 ≡ 47 ∷ l2 → l4 ≡ decimal included ++ l3 → l5 ≡ 32 ∷ l4
    → l6 ≡ nine_digits header.ts_nsec ++ l5 → l7 ≡ 46 ∷ l6 → l8 ≡ decimal seconds ++ l7 → l9 ≡ 32 ∷ l8 → all ≡ decimal index ++ l9
    → all ≡ packet_line index header
line_made index original included seconds header l9 l8 l7 l6 l5 l4 l3 l2 l1 l0 all o i s e0 e1 e2 e3 e4 e5 e6 e7 e8 e9 e =
    rw (e, e9, e8, e7, e6, e5, e4, e3, e2, e1, e0, o, i, s) (search (rules, append_assoc))
