-- This file proves facts about the exits of known words.
use Rattle.pcap_core.specs.declared.errors.PcapError.{PcapError}
use Rattle.pcap_core.specs.declared.errors.PcapError.TheVariants as errors
use Rattle.pcap_program.specs.declared.exit.Exit.{Exit}
use Rattle.pcap_program.specs.declared.exit.Exit.TheVariants as exits
use Rattle.pcap_program.specs.Exits.{EndsAt, IsEarlyEnd}
use Rattle.capcopy_run.specs.Exits.{IsOfKnownWord}

early_known : (exit : Exit) → IsEarlyEnd exit → IsOfKnownWord exit
early_known (exits.Io (errors.IoError x)) early = tt
early_known _ early = absurd early

-- The exit of an error is one of a known word.
pub error_known : (e : PcapError) (exit : Exit) → EndsAt e exit → IsOfKnownWord exit
error_known (errors.IncompleteBuffer n) exit ends = early_known exit ends
error_known _ exit ends = rw ends tt
