-- This file defines the bytes in the buffered input of a capture.
use Rattle.std.specs.Prelude.{ℕ, List, Option}
use Rattle.std.specs.Io.Buffered.{reader_remaining}
use Rattle.std.specs.declared.io.buffered.BufReader.{BufReader}
use Rattle.pcap_program.specs.declared.uninterrupted.Uninterrupted.{Uninterrupted}
use Rattle.pcap_program.specs.Uninterrupted.{stream_of}

-- The bytes that are left in the buffered input of a capture.
abbrev pub left_in : {R A : Type 0} → (R → Option (List ℕ)) → BufReader (Uninterrupted R) A → Option (List ℕ)
left_in remaining input = reader_remaining (λ (stream : Uninterrupted _). remaining (stream_of stream)) input
