-- This file defines the stream inside a stream that repeats interrupted calls.
use Rattle.pcap_program.specs.declared.uninterrupted.Uninterrupted.{Uninterrupted}

-- The stream inside.
abbrev pub stream_of : {R : Type 0} → Uninterrupted R → R
stream_of reads = reads.stream
