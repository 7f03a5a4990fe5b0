use Rattle.std.proofs.Common.{◌≡◌, length, vec_len}
use denote.Shadow.{shadow}
use denote.Text.{Utf8}
use Rattle.pcap_filter.specs.Texts.{AreLines}
use Rattle.pcap_filter.proofs.text.instructions.Given as goal

abbrev pub invariant-loop-rest : goal.invariant-loop-rest
invariant-loop-rest l = shadow (Utf8 l.rest) × AreLines l.text l.program.items l.rest × (vec_len l.program ≡ length l.program.items)

abbrev pub decreases-loop-rest : goal.decreases-loop-rest
decreases-loop-rest l = length l.rest
