-- The parts of a buffer that is filled from a stream, as contracts see them.
use Rattle.std.specs.Prelude.{ℕ, List, Bool, vec_len}
use Rattle.pcap_items.specs.declared.stream.fill.Fill.{Fill}
use Rattle.pcap_items.specs.declared.stream.told.Told.{Told}
use Rattle.pcap_items.specs.Held.{held_bytes}

-- told_of gives the stream of the buffer, with the memory of whether a call failed.
abbrev pub told_of : {T : Type 0} → Fill T → Told T
told_of f = f.told

-- held_of gives the bytes that are held.
abbrev pub held_of : {T : Type 0} → Fill T → List ℕ
held_of f = held_bytes f.held

-- room_of gives the number of bytes for which the buffer has room, including those that are held.
abbrev pub room_of : {T : Type 0} → Fill T → ℕ
room_of f = vec_len f.held.room

-- stream_of gives the stream from which the buffer is filled.
abbrev pub stream_of : {T : Type 0} → Fill T → T
stream_of f = f.told.inner

-- has_failed gives whether a read of the stream failed.
abbrev pub has_failed : {T : Type 0} → Fill T → Bool
has_failed f = f.told.has_failed
