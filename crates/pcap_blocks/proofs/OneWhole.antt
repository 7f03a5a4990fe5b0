-- Any bytes have exactly one reading as a simple packet, and as a journal entry.
use Rattle.std.proofs.Common.{◌≡◌, ℕ, ◌<◌, List, [], ◌∷◌, length, refl, sym, subst, ◌∙◌, inl}
use Rattle.std.specs.Prelude.{◌⊎◌}
use Rattle.pcap_core.specs.Answer.{Order, Number, Verdict, whole, lacks, faulty}
use Rattle.pcap_core.specs.Faults.{Fault, Invalid}
use Rattle.pcap_core.specs.Laws.{ExactlyOne}
use Rattle.pcap_core.specs.Padded.{Behind}
use Rattle.pcap_core.specs.declared.rules.Rule.TheVariants.{SimpleTooShort}
use Rattle.pcap_core.proofs.Numbers.{Values}
use Rattle.pcap_blocks.specs.SimplePacket.{Simple, SimpleText, SimpleFault, short, SimpleSays}
use Rattle.pcap_blocks.specs.SystemdJournalExport.{JournalSays}
use Rattle.pcap_blocks.proofs.NumbersThen.{IsNumbersThen, numbers_then_one}

journal_only : (s : List ℕ) (w : Verdict (List ℕ)) → JournalSays s w → w ≡ whole s []
journal_only s (whole entry rest) h = rw (h.0, h.1) refl
journal_only s (lacks n) h = absurd h
journal_only s (faulty f) h = absurd h

pub journal_one : (s : List ℕ) → ExactlyOne (JournalSays s)
journal_one s = record { value = whole s []; holds = (refl, refl); only = journal_only s }

abbrev widths : List ℕ
widths = 4 ∷ []

abbrev make : Values widths → List ℕ → Simple
make ns bytes = record { original_len = ns.0; bytes = bytes }

fault_to : (fault : Fault) (s : List ℕ) → SimpleFault s fault → ((fault ≡ Invalid SimpleTooShort) × (length s < 4)) ⊎ ((after : List ℕ) × Behind 4 s after × JournalSays after (faulty fault))
fault_to fault s (short lt) = inl (refl, lt)

-- A simple packet is a number and then all bytes that are left, read as a journal entry is.
simple_then : (order : Order) → IsNumbersThen order (Invalid SimpleTooShort) widths make JournalSays (SimpleText order) SimpleFault
simple_then order = record {
  text_to = λ b s rest h. ((b.original_len, tt), b.bytes, (b.bytes, h.original_is, refl), b.bytes, refl, (refl, h.nothing_left));
  text_from = λ ns bytes s after rest n h. record { original_is = subst (λ (x : List ℕ). Number order 4 ns.0 s x) (n.2 ∙ sym h.0) n.1; nothing_left = h.1 };
  fault_to = λ fault s h. fault_to fault s h;
  short_from = λ s lt. short lt;
  fault_from = λ fault s after behind h. absurd h;
  no_lack = λ s n h. h;
}

pub simple_one : (order : Order) (s : List ℕ) → ExactlyOne (SimpleSays order s)
simple_one order = numbers_then_one order (Invalid SimpleTooShort) widths make JournalSays (SimpleText order) SimpleFault (simple_then order) journal_one
