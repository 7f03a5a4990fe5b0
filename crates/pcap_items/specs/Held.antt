-- Bytes that were read from a stream and are held.
use Rattle.std.specs.Prelude.{ℕ, List, take, vec_len}
use Rattle.pcap_items.specs.declared.stream.held.Held.{Held}

-- held_bytes gives the bytes that are held.
abbrev pub held_bytes : Held → List ℕ
held_bytes h = take h.len h.room.items

-- room_of gives the number of bytes for which there is room, including those that are held.
abbrev pub room_of : Held → ℕ
room_of h = vec_len h.room
