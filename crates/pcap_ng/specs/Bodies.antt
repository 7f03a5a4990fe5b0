-- The results of reading a block's body.
use Rattle.std.specs.Prelude.{ℕ, List, Result, Ok, Err}
use Rattle.pcap_core.specs.declared.errors.PcapError.{PcapError}
use Rattle.pcap_core.specs.Answer.{number_in, Verdict, whole, lacks, faulty, Refuses}
use Rattle.pcap_blocks.specs.ParsedBlock.{Body, BodySays, BodyMayGrow}
use Rattle.pcap_ng.specs.Frames.{Framed}

-- The verdict of a block's body, by the block's type and in its own byte order.
abbrev pub SaysOfBody : Framed → Verdict Body → Type 0
SaysOfBody b = BodySays (number_in b.endianness) b.type_ b.body

-- The body of a block has something that is kept in a list.
abbrev pub GrowsInBody : Framed → Type 0
GrowsInBody b = BodyMayGrow (number_in b.endianness) b.type_ b.body

-- The result of a call that ignores what follows its value agrees with a verdict.
abbrev pub ParsesWhere : {X V : Type 0} → Type 0 → (Verdict V → Type 0) → (X → V) → Result X PcapError → Type 0
ParsesWhere MayGrow IsSaid view (Ok x) = (rest : List ℕ) × IsSaid (whole (view x) rest)
ParsesWhere MayGrow IsSaid view (Err e) = Refuses MayGrow (λ n. IsSaid (lacks n)) (λ fault. IsSaid (faulty fault)) e
