-- The digests by which packets are compared with the packets before them.
use Rattle.std.specs.Prelude.{◌++◌, ℕ, List, [], Bool, nat_eq, None, Some}
use Rattle.std.specs.Int.{w32, to_be_bytes}
use Rattle.std.specs.List.{list_any}
use Rattle.std.specs.Cmp.Lexicographic.{pointwise}
use Rattle.pcap_classic.specs.PacketText.{Captured}
use Rattle.sha2.specs.Sha256.{sha256}
use Rattle.pcapfile_cut.specs.declared.duplicates.Recent.{Recent}

-- The message of a packet: its length on the wire in four bytes, high byte first, and then its data.
abbrev pub message_with : ℕ → List ℕ → List ℕ
message_with original_len bytes = to_be_bytes w32 original_len ++ bytes

-- The SHA-256 digest of a packet's message.
abbrev pub digest_with : ℕ → List ℕ → List ℕ
digest_with original_len bytes = sha256 (message_with original_len bytes)

-- The digest of a packet.
abbrev pub digest_of : Captured → List ℕ
digest_of packet = digest_with packet.header.orig_len packet.bytes

-- The digest is one of these.
abbrev pub is_among : List ℕ → List (List ℕ) → Bool
is_among digest digests = list_any (λ (other : List ℕ). pointwise nat_eq other digest) digests

-- The digests that are remembered, the oldest first.
abbrev pub remembered : Recent → List (List ℕ)
remembered recent = elim recent.digests [ None ↦ [] | Some digests ↦ digests.items ]

-- The most digests that are remembered.
abbrev pub most_remembered : Recent → ℕ
most_remembered recent = elim recent.digests [ None ↦ 0 | Some digests ↦ digests.capacity ]
