-- The frame format that has a name gives the verdicts of frames.
use Rattle.std.proofs.Common.{ℕ, List}
use Rattle.pcap_core.specs.declared.common.Endianness.{Endianness}
use Rattle.pcap_core.specs.Answer.{Verdict}
use Rattle.pcap_ng.specs.Frames.{Framed, FrameSays, frame_format}

pub frames_say : (e : Endianness) (s : List ℕ) (v : Verdict Framed) → FrameSays e s v → frame_format.says e s v
unfolding frame_format
frames_say e s v x = x
