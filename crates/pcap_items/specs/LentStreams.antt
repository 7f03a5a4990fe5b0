-- Values in which the inner stream is replaced.
use Rattle.pcap_items.specs.declared.stream.told.Told.{Told}
use Rattle.pcap_items.specs.declared.stream.fill.Fill.{Fill}

-- told_with gives a watched stream with another stream in it.
abbrev pub told_with : {T : Type 0} → Told T → T → Told T
told_with t x = record t { inner = x }

-- fill_with gives a filled buffer with another stream.
abbrev pub fill_with : {T : Type 0} → Fill T → T → Fill T
fill_with f x = record f { told = told_with f.told x }
