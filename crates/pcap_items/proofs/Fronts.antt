-- The place where a run over a slice stops.
use Rattle.std.proofs.Common.{◌≡◌, ◌<◌, ◌∙◌, sym, length, ℕ, List}
use Rattle.pcap_core.specs.Faults.{Invalid, Io, Utf8}
use Rattle.pcap_core.specs.declared.errors.PcapError.{PcapError}
use Rattle.pcap_core.specs.declared.errors.PcapError.TheVariants as errors
use Rattle.pcap_core.specs.Answer.{Verdict, whole, lacks, faulty, Refuses}
use Rattle.pcap_items.specs.Format.{Format, IsLawful}
use Rattle.pcap_core.specs.Laws.{ExactlyOne}
use Rattle.pcap_items.specs.Run.{IsRest, rest_after}
use Rattle.pcap_items.proofs.Formats.{lacks_no_text, fault_no_text}

-- where an item is refused, the refusal is that of the rest, and no item begins the rest
pub record StopsAt {S V : Type 0} (f : Format S V) (q : S) (left : List ℕ) (e : PcapError) : Type 0 where
  pub rest : IsRest (f.says q) left (rest_after e)
  pub longest : (v : V) (after : List ℕ) → f.says q left (whole v after) → ⊥

pub stops : {S V : Type 0} (f : Format S V) → IsLawful f → (q : S) (left : List ℕ) (e : PcapError) → 0 < length left
    → Refuses ⊥ (λ n. f.says q left (lacks n)) (λ fault. f.says q left (faulty fault)) e → StopsAt f q left e
stops f laws q left (errors.IncompleteBuffer n) some h = record { rest = (h, some); longest = lacks_no_text f laws q n left h }
stops f laws q left (errors.InvalidField text) some h = record { rest = h; longest = fault_no_text f laws q (Invalid h.0) left h.2 }
stops f laws q left (errors.IoError e) some h = record { rest = h; longest = fault_no_text f laws q Io left h }
stops f laws q left (errors.Utf8Error e) some h = record { rest = h; longest = fault_no_text f laws q Utf8 left h }
stops f laws q left (errors.FromUtf8Error e) some h = absurd h
stops f laws q left (errors.OutOfMemory e) some h = absurd h
stops f laws q left errors.WriterFailed some h = absurd h

-- bytes that begin with an item are not refused
pub said_not_refused : {V : Type 0} (IsSaid : Verdict V → Type 0) → ExactlyOne IsSaid → (v : V) (rest : List ℕ) → IsSaid (whole v rest)
    → (e : PcapError) → Refuses ⊥ (λ n. IsSaid (lacks n)) (λ fault. IsSaid (faulty fault)) e → ⊥
said_not_refused IsSaid one v rest text (errors.IncompleteBuffer n) h = let no : lacks n ≡ whole v rest = one.only (lacks n) h ∙ sym (one.only (whole v rest) text) in absurd cc
said_not_refused IsSaid one v rest text (errors.InvalidField t) h = let no : faulty (Invalid h.0) ≡ whole v rest = one.only (faulty (Invalid h.0)) h.2 ∙ sym (one.only (whole v rest) text) in absurd cc
said_not_refused IsSaid one v rest text (errors.IoError e) h = let no : faulty Io ≡ whole v rest = one.only (faulty Io) h ∙ sym (one.only (whole v rest) text) in absurd cc
said_not_refused IsSaid one v rest text (errors.Utf8Error e) h = let no : faulty Utf8 ≡ whole v rest = one.only (faulty Utf8) h ∙ sym (one.only (whole v rest) text) in absurd cc
said_not_refused IsSaid one v rest text (errors.FromUtf8Error e) h = h
said_not_refused IsSaid one v rest text (errors.OutOfMemory e) h = h
said_not_refused IsSaid one v rest text errors.WriterFailed h = h
