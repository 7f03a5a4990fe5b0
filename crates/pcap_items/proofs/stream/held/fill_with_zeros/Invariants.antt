-- The loop of fill_with_zeros keeps the bytes, and adds no more than are missing.
use Rattle.std.proofs.Common.{◌≡◌, ◌-◌, ◌≤◌, take, max, vec_len}
use Rattle.pcap_items.proofs.stream.held.fill_with_zeros.Given as goal

abbrev pub invariant-loop-bytes : goal.invariant-loop-bytes
invariant-loop-bytes l =
    (take (vec_len l.fn.bytes) l.bytes.items ≡ l.fn.bytes.items) × (vec_len l.fn.bytes ≤ vec_len l.bytes)
    × (vec_len l.bytes ≤ max (vec_len l.fn.bytes) l.end)

abbrev pub decreases-loop-bytes : goal.decreases-loop-bytes
decreases-loop-bytes l = l.end - vec_len l.bytes
