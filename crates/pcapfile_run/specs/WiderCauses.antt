-- This file proves that what refuses an item under one grammar refuses it under another one with at least the same faults.
use Rattle.std.proofs.Common.{ℕ, List, take, Bool, Option, None, Some, inl, inr, ◌⊎◌}
use Rattle.std.specs.Prelude.{IfSome}
use Rattle.pcap_core.specs.declared.errors.PcapError.{PcapError}
use Rattle.pcap_core.specs.Answer.{Verdict, lacks, faulty}
use Rattle.pcap_items.specs.Early.{EarlyFault}
use Rattle.pcap_core.specs.Faults.{Fault}
use Rattle.pcap_items.specs.Reading.{IsShort, IsTorn, IsFaultOf, HasCause, read_failed, no_memory, torn, refused, TakesAsked}
use Rattle.pcap_core.proofs.Refusals.{shows_more}

module _ {V W : Type 0} (P : List ℕ → Verdict V → Type 0) (Q : List ℕ → Verdict W → Type 0)
    (lacking : (s : List ℕ) (n : ℕ) → P s (lacks n) → Q s (lacks n)) (failing : (s : List ℕ) (fault : Fault) → P s (faulty fault) → Q s (faulty fault)) where
  short_wider : (s : List ℕ) → IsShort P s → IsShort Q s
  short_wider s x = record { n = x.n; lack = lacking s x.n x.lack }

  torn_wider : (known : Option (List ℕ)) → IfSome known (IsTorn P) → IfSome known (IsTorn Q)
  torn_wider None x = tt
  torn_wider (Some s) x = (x.0, short_wider s x.1)

  early_wider : (s : List ℕ) (fault : Fault) → EarlyFault P s fault → EarlyFault Q s fault
  early_wider s fault x = record { n = x.n; lack = lacking s x.n x.lack; certain = λ more bytes count. failing _ fault (x.certain more bytes count) }

  shown_wider : (known : Option (List ℕ)) (fault : Fault) → IfSome known (λ s. P s (faulty fault) ⊎ EarlyFault P s fault) → IfSome known (λ s. Q s (faulty fault) ⊎ EarlyFault Q s fault)
  shown_wider None fault x = tt
  shown_wider (Some s) fault (inl x) = inl (failing s fault x)
  shown_wider (Some s) fault (inr x) = inr (early_wider s fault x)

  fault_wider : (known : Option (List ℕ)) (fault : Fault) → IsFaultOf P known fault → IsFaultOf Q known fault
  fault_wider known fault x = record { bytes = x.bytes; stands = failing x.bytes fault x.stands; some = x.some; shown = shown_wider known fault x.shown }

  pub cause_wider : (known : Option (List ℕ)) (failed : Bool) (e : PcapError) → HasCause P known failed e → HasCause Q known failed e
  cause_wider known failed e (read_failed io is) = read_failed io is
  cause_wider known failed e (no_memory memory is) = no_memory memory is
  cause_wider known failed e (torn io is rest) = torn io is (torn_wider known rest)
  cause_wider known failed e (refused shown is) = refused (shows_more (fault_wider known) e shown) is

  pub asked_wider : (before after : Option (List ℕ)) → TakesAsked P before after → TakesAsked Q before after
  asked_wider before after x = record { taken = x.taken; from_stream = x.from_stream; asked = λ k less. short_wider (take k x.taken) (x.asked k less) }
