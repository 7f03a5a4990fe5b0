-- A stream that remembers whether a call of it failed.
use Rattle.std.specs.Prelude.{Bool}
use Rattle.pcap_items.specs.declared.stream.told.Told.{Told}

-- stream_of gives the wrapped stream.
abbrev pub stream_of : {T : Type 0} → Told T → T
stream_of t = t.inner

-- has_failed gives whether a call of the stream failed.
abbrev pub has_failed : {T : Type 0} → Told T → Bool
has_failed t = t.has_failed
