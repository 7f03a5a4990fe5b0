-- The body of a systemd journal export ('systemd Journal Export Block').
use Rattle.std.specs.Prelude.{◌≡◌, ℕ, List, []}
use Rattle.pcap_core.specs.Answer.{Verdict, Says}
use Rattle.pcap_core.specs.Bytes.{cow_bytes, IsBorrowed, IsOwned}
use Rattle.pcap_blocks.specs.declared.systemd_journal_export.SystemdJournalExportBlock.{SystemdJournalExportBlock}

-- JournalSays s verdict: `s` read as a journal entry gives this verdict, an entry of all its bytes.
abbrev pub JournalSays : List ℕ → Verdict (List ℕ) → Type 0
JournalSays s = Says (λ entry rest. (entry ≡ s) × (rest ≡ [])) (λ n. ⊥) (λ fault. ⊥)

-- The journal entry of a block in the code.
abbrev pub journal_of : SystemdJournalExportBlock → List ℕ
journal_of block = cow_bytes block.journal_entry

-- The bytes of a journal entry are borrowed.
abbrev pub JournalIsBorrowed : SystemdJournalExportBlock → Type 0
JournalIsBorrowed block = IsBorrowed block.journal_entry

-- The bytes of a journal entry are owned.
abbrev pub JournalIsOwned : SystemdJournalExportBlock → Type 0
JournalIsOwned block = IsOwned block.journal_entry
