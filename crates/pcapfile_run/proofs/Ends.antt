-- This file proves why no item follows, given what stopped a run.
use Rattle.std.proofs.Common.{◌≡◌, ◌≤◌, ◌+◌, ◌⊎◌, ℕ, List, [], ◌++◌, length, Bool, true, false, Option, Some, None, inl, inr, sym, ap, ◌∙◌, subst, arith, length-append, append_assoc}
use Rattle.std.specs.Prelude.{⊤, IfNone}
use Rattle.pcap_core.specs.declared.errors.PcapError.{PcapError}
use Rattle.pcap_core.specs.declared.errors.PcapError.TheVariants as errors
use Rattle.pcap_core.specs.declared.rules.Rule.{Rule}
use Rattle.pcap_core.specs.Answer.{Verdict}
use Rattle.pcap_core.specs.Errors.{IsIo, IsMemory}
use Rattle.pcap_core.specs.Faults.{Fault, Invalid, Io, Utf8, Names, Shows}
use Rattle.pcap_items.specs.Format.{Format, Texts, IsLawful, state_after}
use Rattle.pcap_items.specs.Reading.{IsFaultOf, IsShort, IsTorn, HasCause, read_failed, no_memory, torn, refused}
use Rattle.pcap_items.specs.Takes.{EndsFront, TakesTexts, TakesItems, Stops}
use Rattle.pcap_core.proofs.EachRule.{one_message}
use Rattle.pcap_items.proofs.Formats.{texts_more}
use Rattle.pcap_items.proofs.Taking.{run_reads}
use Rattle.pcapfile_run.specs.declared.checked.Checked.{Checked}
use Rattle.pcapfile_run.specs.declared.checked.End.{End}
use Rattle.pcapfile_run.specs.declared.checked.End.TheVariants.{Whole, Most, Short, Breaks, NotUtf8, Unread, Memory}
use Rattle.pcapfile_run.specs.Checks.{FaultIs, EndIs, FailsAt, StopsAt, ChecksItems}
use Rattle.pcap_walk.specs.CountedItems.{CountsItems}
use Rattle.pcapfile_run.specs.Passing.{counted}
use Rattle.pcapfile_run.proofs.Passing.{counted_behind}

abbrev pub IsNothing : Option Rule → Type 0
IsNothing None = ⊤
IsNothing (Some rule) = ⊥

-- If no rule is found in an error, the error names none.
pub none_named : (r : Option Rule) (e : PcapError) → ((rule : Rule) → Names rule e → r ≡ Some rule) → IfNone r ((rule : Rule) → Names rule e → ⊥)
none_named None e found = λ rule named. absurd (subst IsNothing (found rule named) tt)
none_named (Some rule) e found = tt

-- The fault shown is that of the rule that the error names.
named_fault : (Stands : Fault → Type 0) (rule : Rule) (e : PcapError) → Names rule e → Shows Stands e → Stands (Invalid rule)
named_fault Stands rule (errors.InvalidField message) named (other, message_is, stands) =
    subst (λ (r : Rule). Stands (Invalid r)) (one_message {a = other} {b = rule} (sym message_is ∙ named)) stands
named_fault Stands rule _ named stands = absurd named

named_no_io : (rule : Rule) (e : PcapError) → Names rule e → IsIo e → ⊥
named_no_io rule (errors.IoError x) named io = named
named_no_io rule _ named io = io

named_no_growth : (rule : Rule) (e : PcapError) → Names rule e → IsMemory e → ⊥
named_no_growth rule (errors.OutOfMemory x) named memory = named
named_no_growth rule _ named memory = memory

io_no_growth : (e : PcapError) → IsIo e → IsMemory e → ⊥
io_no_growth (errors.IoError x) io memory = memory
io_no_growth _ io memory = io

-- The fault shown is a string that isn't UTF-8, if the error names no rule and is not of a read.
other_fault : (Stands : Fault → Type 0) (e : PcapError) → (IsIo e → ⊥) → ((rule : Rule) → Names rule e → ⊥) → Shows Stands e → Stands Utf8
other_fault Stands (errors.InvalidField message) no_io unnamed stands = absurd (unnamed stands.0 stands.1)
other_fault Stands (errors.IoError x) no_io unnamed stands = absurd (no_io tt)
other_fault Stands (errors.Utf8Error x) no_io unnamed stands = stands
other_fault Stands _ no_io unnamed stands = absurd stands

-- True is not false.
abbrev pub IsFalse : Bool → Type 0
IsFalse true = ⊥
IsFalse false = ⊤

module _ {V : Type 0} (IsSaid : List ℕ → Verdict V → Type 0) (rest : List ℕ) where
  -- An error that is neither of a read nor of memory shows a fault.
  shown : (e : PcapError) → (IsIo e → ⊥) → (IsMemory e → ⊥) → (failed : Bool) → HasCause IsSaid (Some rest) failed e → Shows (IsFaultOf IsSaid (Some rest)) e
  shown e no_io no_growth failed cause =
      elim cause [ read_failed io is ↦ absurd (no_io io) | no_memory memory is ↦ absurd (no_growth memory) | torn io is short ↦ absurd (no_io io) | refused stands is ↦ stands ]

  -- An error of a read that didn't fail is for bytes that are missing.
  short_of : (e : PcapError) → IsIo e → (failed : Bool) → failed ≡ false → HasCause IsSaid (Some rest) failed e → IsTorn IsSaid rest ⊎ IsFaultOf IsSaid (Some rest) Io
  short_of (errors.IoError x) io failed unfailed cause = elim cause [
    | read_failed io is ↦ absurd (subst IsFalse is (subst IsFalse (sym unfailed) tt))
    | no_memory memory is ↦ absurd memory
    | torn io is short ↦ inl short
    | refused stands is ↦ inr stands
  ]
  short_of _ io failed unfailed cause = absurd io

  short_at : (more : List V) (e : PcapError) (failed : Bool) → IsIo e → failed ≡ false → (IsIo e × (failed ≡ true)) ⊎ (IsMemory e × (failed ≡ false)) ⊎ ((more ≡ []) × HasCause IsSaid (Some rest) failed e)
      → (more ≡ []) × (IsTorn IsSaid rest ⊎ IsFaultOf IsSaid (Some rest) Io)
  short_at more e failed io unfailed why = elim why [
    | inl failing ↦ absurd (subst IsFalse failing.1 (subst IsFalse (sym unfailed) tt))
    | inr (inl memory) ↦ absurd (io_no_growth e io memory.0)
    | inr (inr all) ↦ (all.0, short_of e io failed unfailed all.1)
  ]

  -- The fault of an error after all items of the front.
  module _ (more : List V) (e : PcapError) (no_io : IsIo e → ⊥) (no_growth : IsMemory e → ⊥) (failed : Bool) where
    fault_shown : (IsIo e × (failed ≡ true)) ⊎ (IsMemory e × (failed ≡ false)) ⊎ ((more ≡ []) × HasCause IsSaid (Some rest) failed e)
        → (more ≡ []) × Shows (IsFaultOf IsSaid (Some rest)) e
    fault_shown why = elim why [
      | inl io ↦ absurd (no_io io.0)
      | inr (inl memory) ↦ absurd (no_growth memory.0)
      | inr (inr all) ↦ (all.0, shown e no_io no_growth failed all.1)
    ]

  -- The reason why a run stopped that ended with this fault.
  pub stops_at : (more : List V) (n m before most : ℕ) → n ≡ before + m → m ≤ most → (fault : Option PcapError) (failed : Bool) (end : End)
      → EndsFront IsSaid rest more failed m most fault → EndIs fault failed n (before + most) end → StopsAt IsSaid more rest m most end
  stops_at more n m before most count within None failed Whole ends is =
      elim ends.1 [ inl all ↦ all | inr full ↦ absurd (omega (arith, full, count, is)) ]
  stops_at more n m before most count within None failed Most ends is = omega (arith, count, is, within)
  stops_at more n m before most count within (Some e) failed (Unread error) ends is = subst IsIo (sym is.0) is.1
  stops_at more n m before most count within (Some e) failed Memory ends is = tt
  stops_at more n m before most count within (Some e) failed Short ends is = short_at more e failed is.0 is.1 ends.1
  stops_at more n m before most count within (Some e) failed (Breaks rule) ends is =
      let all = fault_shown more e (named_no_io rule e is) (named_no_growth rule e is) failed ends.1 in
      (all.0, named_fault (IsFaultOf IsSaid (Some rest)) rule e is all.1)
  stops_at more n m before most count within (Some e) failed NotUtf8 ends is =
      let all = fault_shown more e is.0 is.1 failed ends.1 in
      (all.0, other_fault (IsFaultOf IsSaid (Some rest)) e is.0 is.2 all.1)
  stops_at more n m before most count within _ _ _ ends is = absurd is

module _ {V : Type 0} (MayGrow : Type 0) (IsSaid : List ℕ → Verdict V → Type 0) (s : List ℕ) where
  -- The reason why a call found no opening.
  abbrev pub Unopened : Bool → PcapError → Type 0
  Unopened failed e = (IsIo e × (failed ≡ true)) ⊎ (IsIo e × (failed ≡ false) × IsShort IsSaid s) ⊎ (MayGrow × IsMemory e) ⊎ Shows (IsFaultOf IsSaid (Some s)) e

  -- It shows a fault, if the error is neither of a read nor of memory.
  unopened_fault : (failed : Bool) (e : PcapError) → (IsIo e → ⊥) → (IsMemory e → ⊥) → Unopened failed e → Shows (IsFaultOf IsSaid (Some s)) e
  unopened_fault failed e no_io no_growth why =
      elim why [ inl io ↦ absurd (no_io io.0) | inr (inl short) ↦ absurd (no_io short.0) | inr (inr (inl memory)) ↦ absurd (no_growth memory.1) | inr (inr (inr stands)) ↦ stands ]

  unopened_short : (failed : Bool) (e : PcapError) → IsIo e → failed ≡ false → Unopened failed e → IsShort IsSaid s ⊎ IsFaultOf IsSaid (Some s) Io
  unopened_short failed (errors.IoError x) io unfailed why =
      elim why [ inl failing ↦ absurd (subst IsFalse failing.1 (subst IsFalse (sym unfailed) tt)) | inr (inl short) ↦ inl short.2 | inr (inr (inl memory)) ↦ absurd memory.1 | inr (inr (inr stands)) ↦ inr stands ]
  unopened_short failed _ io unfailed why = absurd io

  unopened_memory : (failed : Bool) (e : PcapError) → IsMemory e → Unopened failed e → MayGrow
  unopened_memory failed (errors.OutOfMemory x) memory why =
      elim why [ inl io ↦ absurd io.0 | inr (inl short) ↦ absurd short.0 | inr (inr (inl grows)) ↦ grows.0 | inr (inr (inr stands)) ↦ absurd stands ]
  unopened_memory failed _ memory why = absurd memory

  -- The reason why there is no opening, given the error of a call.
  pub fails_at : (e : PcapError) (failed : Bool) (end : End) → Unopened failed e → FaultIs e failed end → FailsAt MayGrow IsSaid s end
  fails_at e failed Short why is = unopened_short failed e is.0 is.1 why
  fails_at e failed (Breaks rule) why is =
      named_fault (IsFaultOf IsSaid (Some s)) rule e is (unopened_fault failed e (named_no_io rule e is) (named_no_growth rule e is) why)
  fails_at e failed NotUtf8 why is = other_fault (IsFaultOf IsSaid (Some s)) e is.0 is.2 (unopened_fault failed e is.0 is.1 why)
  fails_at e failed (Unread error) why is = subst IsIo (sym is.0) is.1
  fails_at e failed Memory why is = unopened_memory failed e is why
  fails_at e failed _ why is = absurd is

-- The items after what was counted, as a check reports them.
module _ {S V : Type 0} (f : Format S V) (laws : IsLawful f) (q : S) (s opening after : List ℕ) (joined : s ≡ opening ++ after) (now : Option (List ℕ)) (failed : Bool) (most before bytes_before : ℕ) (fault : Option PcapError) (checked : Checked) where
  checked_left : (vs : List V) (left : Option (List ℕ)) (took : TakesTexts f q vs (Some after) left) → length vs ≤ most → Stops (f.says (state_after f q vs)) left now failed (length vs) most fault
      → bytes_before ≡ counted (length opening) → checked.items ≡ before + length vs → checked.bytes ≡ counted (bytes_before + length took.bytes) → EndIs fault failed checked.items (before + most) checked.end
      → ChecksItems f q s after before most checked
  checked_left vs None took within stops first items bytes end = absurd took.took
  checked_left vs (Some left) took within stops first items bytes end =
      let run : TakesItems f q (Some after) now failed most vs fault = record { left = Some left; took = took; within = within; stops = stops } in
      let reads = run_reads f laws q after now failed most vs fault run in
      let all : Texts f q vs (took.bytes ++ left) left = texts_more f laws q vs took.bytes [] left took.texts in
      record {
        items = vs;
        more = reads.more;
        front_bytes = opening ++ took.bytes;
        left = left;
        rest = reads.rest;
        front = reads.front;
        texts = subst (λ (l : List ℕ). Texts f q vs l left) (sym took.took) all;
        place = joined ∙ ap (λ (l : List ℕ). opening ++ l) took.took ∙ sym (append_assoc opening took.bytes left);
        bytes = counted_behind bytes_before checked.bytes (length opening) (length took.bytes) first bytes ∙ ap counted (sym (length-append opening took.bytes));
        count = items;
        stops = stops_at (f.says (state_after f q vs)) reads.rest reads.more checked.items (length vs) before most items within fault failed checked.end reads.ends end;
      }

  -- The items as a walk counted them.
  pub items_checked : (m n : ℕ) → CountsItems f q (Some after) now failed most 0 m bytes_before n fault → bytes_before ≡ counted (length opening) → checked.items ≡ before + m → checked.bytes ≡ n
      → EndIs fault failed checked.items (before + most) checked.end → ChecksItems f q s after before most checked
  items_checked m n counts first items bytes end =
      checked_left counts.items counts.run.left counts.run.took counts.run.within counts.run.stops first (omega (arith, items, counts.number)) (bytes ∙ counts.bytes) end
