-- How the library reports an error to C.
use Rattle.std.specs.Prelude.{◌≡◌, ◌≢◌, ◌⊎◌, ℤ, pos}
use Rattle.pcap_core.specs.declared.errors.PcapError.{PcapError}
use Rattle.pcap_core.specs.declared.errors.PcapError.TheVariants as errors
use Rattle.pcap_core.specs.declared.rules.Rule.{Rule}
use Rattle.pcap_core.specs.Answer.{Verdict, lacks, faulty}
use Rattle.pcap_core.specs.Faults.{Invalid, Io, Utf8, rule_message}
use Rattle.pcap_core.specs.Rules.{number_of}
use Rattle.pcapfile_values.specs.declared.errors.PcapfileError.{PcapfileError}

-- The struct has no details: no rule and no number of missing bytes.
abbrev pub SaysNoMore : PcapfileError → Type 0
SaysNoMore told = (told.rule ≡ 0) × (told.missing ≡ 0)

-- The status and the struct show an error. A message that belongs to no rule has the number 0.
abbrev pub ShowsError : PcapError → PcapfileError → ℤ → Type 0
ShowsError (errors.IncompleteBuffer n) told status = (status ≡ pos 1) × (told.rule ≡ 0) × (told.missing ≡ n)
ShowsError (errors.IoError e) told status = (status ≡ pos 2) × SaysNoMore told
ShowsError (errors.InvalidField text) told status =
    (status ≡ pos 3)
    × ((rule : Rule) → text.now ≡ rule_message rule → told.rule ≡ number_of rule)
    × (told.missing ≡ 0)
    × (((rule : Rule) → text.now ≢ rule_message rule) → told.rule ≡ 0)
ShowsError (errors.Utf8Error e) told status = (status ≡ pos 4) × SaysNoMore told
ShowsError (errors.FromUtf8Error e) told status = (status ≡ pos 5) × SaysNoMore told
ShowsError (errors.OutOfMemory e) told status = (status ≡ pos 6) × SaysNoMore told
ShowsError errors.WriterFailed told status = (status ≡ pos 7) × SaysNoMore told

-- The struct shows this rule.
abbrev pub ShowsRule : Rule → PcapfileError → Type 0
ShowsRule rule told = (told.rule ≡ number_of rule) × (told.missing ≡ 0)

-- The status and the struct report why there is no value: this many bytes are missing, a rule is broken, or there is another fault.
abbrev pub TellsRefusal : {V : Type 0} → (Verdict V → Type 0) → PcapfileError → ℤ → Type 0
TellsRefusal IsSaid told status =
    ((status ≡ pos 1) × (told.rule ≡ 0) × IsSaid (lacks told.missing))
    ⊎ (((status ≡ pos 3) × (rule : Rule) × ShowsRule rule told × IsSaid (faulty (Invalid rule)))
    ⊎ (((status ≡ pos 2) × SaysNoMore told × IsSaid (faulty Io)) ⊎ ((status ≡ pos 4) × SaysNoMore told × IsSaid (faulty Utf8))))

-- The same for a call that allocates memory, which may run out only under this condition.
abbrev pub TellsRefusalWhere : {V : Type 0} → Type 0 → (Verdict V → Type 0) → PcapfileError → ℤ → Type 0
TellsRefusalWhere MayGrow IsSaid told status = TellsRefusal IsSaid told status ⊎ ((status ≡ pos 6) × SaysNoMore told × MayGrow)
