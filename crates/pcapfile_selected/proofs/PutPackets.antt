-- Packets that a selection writes or leaves out.
use Rattle.std.proofs.Common.{◌≡◌, ◌∙◌, ◌+◌, ℕ, List, length, true, false, Bool, Option, None, Some, Result, Ok, Err, ap, inl, inr, refl, subst, sym}
use Rattle.std.proofs.KnownBytes.{Keeps-refl}
use Rattle.pcap_core.specs.declared.errors.PcapError.{PcapError}
use Rattle.pcap_blocks.specs.InterfaceDescription.{Interface}
use Rattle.pcap_ng.specs.Frames.{Framed}
use Rattle.pcap_file.specs.Placed.{is_packet}
use Rattle.pcapfile_cut.specs.declared.cutting.Outcome.{Outcome}
use Rattle.pcapfile_cut.specs.declared.duplicates.Recent.{Recent}
use Rattle.pcapfile_cut.specs.Cuts.{counted}
use Rattle.pcap_times.specs.declared.clock.Timestamp.{Timestamp}
use Rattle.pcapfile_selected.specs.declared.blocks.changed.Changing.{Changing}
use Rattle.pcapfile_selected.specs.declared.blocks.deciding.Decision.{Decision}
use Rattle.pcapfile_selected.specs.declared.blocks.deciding.Sieve.{Sieve}
use Rattle.pcapfile_selected.specs.declared.blocks.judging.BlockTests.{BlockTests}
use Rattle.pcapfile_selected.specs.declared.blocks.selected.Choosing.{Choosing}
use Rattle.pcapfile_selected.specs.declared.blocks.deciding.Decision.TheVariants as to
use Rattle.pcapfile_selected.specs.declared.source.Exceptions.{Exceptions}
use Rattle.pcapfile_selected.specs.Asked.{FindsFirst}
use Rattle.pcapfile_selected.specs.Changing.{AsksSame, PutsChanged}
use Rattle.pcapfile_selected.specs.Deciding.{Decides, duplicates_after, is_written}
use Rattle.pcapfile_selected.specs.SelectedBlocks.{ChangesOnly, ChoosesNone, ChoosesPacket, CountsBytes, CountsLent, CountsText, CountsTorn, DecidesLent, FailsLent, HandlesLent, NotesFault, PutsLent, PutsText, WritesChanged, WritesLent, run}

-- The same decision for the same values.
pub decided : (tests tests_now : BlockTests) (recent recent_now now : Recent) (interfaces : List Interface) (n n_now : ℕ) (block : Framed) (decision : Decision)
    → tests_now ≡ tests → recent ≡ recent_now → n ≡ n_now → Decides tests recent now interfaces n block decision
    → Decides tests_now recent_now now interfaces n_now block decision
decided tests tests_now recent recent_now now interfaces n n_now block decision same_tests same_recent same_number decides =
    subst (λ (t : BlockTests). Decides t recent_now now interfaces n_now block decision) (sym same_tests)
    (subst (λ (r : Recent). Decides tests r now interfaces n_now block decision) same_recent
    (subst (λ (k : ℕ). Decides tests recent now interfaces k block decision) same_number decides))

counts_packet : (old mid : Choosing) (interfaces : List Interface) (block : Framed) (o0 o1 o2 : Outcome) (len : ℕ) (is_chosen : Bool)
    → (chosen : ChoosesPacket old mid interfaces block o0 o1 is_chosen) → CountsBytes len o1 o2 → CountsLent (Some chosen.decision) len o0 o2
counts_packet old mid interfaces block o0 o1 o2 len is_chosen chosen counts = record {
  packets = counts.packets ∙ chosen.packets;
  bytes = counts.bytes ∙ ap (λ (n : ℕ). counted (n + len)) chosen.bytes;
  duplicates = counts.duplicates ∙ chosen.duplicates;
  write_failed = counts.write_failed ∙ chosen.write_failed;
}

-- The decision on the packet that was chosen, after its block was written.
decides_packet : (old mid new : Choosing) (out out_now : Option (List ℕ)) (o0 o1 o2 : Outcome) (interfaces : List Interface) (block : Framed) (is_chosen : Bool)
    → is_packet block.type_ ≡ true → (chosen : ChoosesPacket old mid interfaces block o0 o1 is_chosen) → ChangesOnly mid new
    → DecidesLent (run old out o0) (run new out_now o2) interfaces block (Some chosen.decision)
decides_packet old mid new out out_now o0 o1 o2 interfaces block is_chosen is chosen keeps = (
  is,
  subst (λ (t : Option Timestamp). FindsFirst old.asked interfaces block old.first t) (sym keeps.first) chosen.first,
  subst (λ (s : Sieve). Decides s.tests old.sieve.recent s.recent interfaces (counted (o0.packets + 1)) block chosen.decision) (sym keeps.sieve) chosen.decides,
)

-- A packet that is written is no duplicate.
no_duplicate : (decision : Decision) (n : ℕ) → is_written decision ≡ true → duplicates_after decision n ≡ n
no_duplicate to.Written n is = refl
no_duplicate to.Uncompared n is = refl
no_duplicate to.Rejected n is = refl
no_duplicate to.Malformed n is = refl
no_duplicate to.WithoutTime n is = refl
no_duplicate to.Duplicate n is = absurd cc

torn_packet : (old mid : Choosing) (interfaces : List Interface) (block : Framed) (o0 o1 o2 : Outcome) → is_packet block.type_ ≡ true
    → ChoosesPacket old mid interfaces block o0 o1 true → CountsTorn false o1 o2 → CountsTorn (is_packet block.type_) o0 o2
torn_packet old mid interfaces block o0 o1 o2 is chosen counts = subst (λ (b : Bool). CountsTorn b o0 o2) (sym is) (record {
  packets = counts.packets ∙ chosen.packets;
  bytes = counts.bytes ∙ chosen.bytes;
  duplicates = counts.duplicates ∙ (chosen.duplicates ∙ no_duplicate chosen.decision o0.duplicates (sym chosen.chosen));
})

noted_before : (e : PcapError) (o0 o1 o2 : Outcome) → o1.write_failed ≡ o0.write_failed → NotesFault e o1 o2 → NotesFault e o0 o2
noted_before e o0 o1 o2 same (inl (memory, noted)) = inl (memory, noted ∙ same)
noted_before e o0 o1 o2 same (inr failed) = inr failed

-- A packet that was chosen was written.
pub puts_packet : (old mid new : Choosing) (out out_now : Option (List ℕ)) (o0 o1 o2 : Outcome) (interfaces : List Interface) (block : Framed)
    (text : List ℕ) (result : Result (Unit {0}) PcapError) → is_packet block.type_ ≡ true → ChoosesPacket old mid interfaces block o0 o1 true
    → PutsText (run mid out o1) (run new out_now o2) interfaces block text result → ChangesOnly mid new → CountsText (length text) o1 o2 result
    → PutsLent (run old out o0) (run new out_now o2) interfaces block text result
puts_packet old mid new out out_now o0 o1 o2 interfaces block text (Ok u) is chosen puts keeps counts =
    let wrote : WritesLent (Some chosen.decision) (run old out o0) (run new out_now o2) interfaces block text true =
    subst (λ (x : Exceptions). WritesChanged old.changing x out (run new out_now o2) interfaces block text) chosen.exceptions
    (subst (λ (c : Changing). WritesChanged c mid.exceptions out (run new out_now o2) interfaces block text) chosen.changing puts) in
    record {
      decision = Some chosen.decision;
      decides = decides_packet old mid new out out_now o0 o1 o2 interfaces block true is chosen keeps;
      wrote = subst (λ (b : Bool). WritesLent (Some chosen.decision) (run old out o0) (run new out_now o2) interfaces block text b) chosen.chosen wrote;
      counts = counts_packet old mid interfaces block o0 o1 o2 (length text) true chosen counts;
      asks = subst (λ (c : Changing). AsksSame c new.changing) chosen.changing keeps.asks;
      asked = keeps.asked ∙ chosen.asked;
    }
puts_packet old mid new out out_now o0 o1 o2 interfaces block text (Err e) is chosen puts keeps counts = record {
  why = inr (record {
    decision = Some chosen.decision;
    decides = decides_packet old mid new out out_now o0 o1 o2 interfaces block true is chosen keeps;
    is_to_be_written = sym chosen.chosen;
    wrote = subst (λ (c : Changing). PutsChanged c interfaces block text out out_now (Err e)) chosen.changing puts.0;
    exceptions = puts.1 ∙ chosen.exceptions;
  });
  counts = torn_packet old mid interfaces block o0 o1 o2 is chosen counts.0;
  noted = noted_before e o0 o1 o2 chosen.write_failed counts.1;
}

-- A packet that was not chosen was left out.
pub leaves_packet : (old new : Choosing) (out : Option (List ℕ)) (o0 o1 o2 : Outcome) (interfaces : List Interface) (block : Framed) (text : List ℕ)
    → is_packet block.type_ ≡ true → ChoosesPacket old new interfaces block o0 o1 false
    → CountsBytes (length text) o1 o2 → HandlesLent (run old out o0) (run new out o2) interfaces block text
leaves_packet old new out o0 o1 o2 interfaces block text is chosen counts = record {
  decision = Some chosen.decision;
  decides = (is, chosen.first, chosen.decides);
  wrote = subst (λ (b : Bool). WritesLent (Some chosen.decision) (run old out o0) (run new out o2) interfaces block text b) chosen.chosen (Keeps-refl out, chosen.exceptions);
  counts = counts_packet old new interfaces block o0 o1 o2 (length text) false chosen counts;
  asks = subst (λ (c : Changing). AsksSame c new.changing) chosen.changing (record { shift = refl; most = refl });
  asked = chosen.asked;
}

-- There was no memory to choose whether a packet is written.
pub lacks_packet : (old new : Choosing) (out : Option (List ℕ)) (o0 o1 : Outcome) (interfaces : List Interface) (block : Framed) (text : List ℕ) (e : PcapError)
    → is_packet block.type_ ≡ true → ChoosesNone old new o0 o1 e → FailsLent (run old out o0) (run new out o1) interfaces block text e
lacks_packet old new out o0 o1 interfaces block text e is none = record {
  why = inl (none.memory, Keeps-refl out, none.exceptions);
  counts = subst (λ (b : Bool). CountsTorn b o0 o1) (sym is) none.counts;
  noted = inl (none.memory, none.write_failed);
}

-- A block without a packet was written.
pub puts_other : (old new : Choosing) (out out_now : Option (List ℕ)) (o0 o1 : Outcome) (interfaces : List Interface) (block : Framed)
    (text : List ℕ) (result : Result (Unit {0}) PcapError) → is_packet block.type_ ≡ false
    → PutsText (run old out o0) (run new out_now o1) interfaces block text result → ChangesOnly old new → CountsText (length text) o0 o1 result
    → PutsLent (run old out o0) (run new out_now o1) interfaces block text result
puts_other old new out out_now o0 o1 interfaces block text (Ok u) is puts keeps counts = record {
  decision = None;
  decides = (is, ap (λ (s : Sieve). s.recent) keeps.sieve, keeps.first);
  wrote = puts;
  counts = record { packets = counts.packets; bytes = counts.bytes; duplicates = counts.duplicates; write_failed = counts.write_failed };
  asks = keeps.asks;
  asked = keeps.asked;
}
puts_other old new out out_now o0 o1 interfaces block text (Err e) is puts keeps counts = record {
  why = inr (record {
    decision = None;
    decides = (is, ap (λ (s : Sieve). s.recent) keeps.sieve, keeps.first);
    is_to_be_written = refl;
    wrote = puts.0;
    exceptions = puts.1;
  });
  counts = subst (λ (b : Bool). CountsTorn b o0 o1) (sym is) counts.0;
  noted = counts.1;
}
