-- The packets that a merge takes from its sources, and the bytes that it writes.
use Rattle.std.specs.Prelude.{⊤, ◌≡◌, ◌⊎◌, ◌<◌, ◌+◌, ◌==◌, ◌&&◌, if◌then◌else◌, ℕ, List, [], ◌∷◌, ◌++◌, map, length, Bool, Option, None, Some, Result, Ok, Err}
use Rattle.std.specs.Option.{IsSomeAnd}
use Rattle.std.specs.Result.{result_err}
use Rattle.std.specs.List.{slice_index_or, slice_set}
use Rattle.std.specs.Io.KnownBytes.{Appends}
use Rattle.pcap_core.specs.declared.errors.PcapError.{PcapError}
use Rattle.pcap_core.specs.Errors.{IsIo, IsMemory}
use Rattle.pcap_items.specs.Writing.{AppendsPart}
use Rattle.pcapfile_run.specs.Passing.{counted}
use Rattle.pcapfile_merge.specs.declared.choice.PacketOrder.{PacketOrder}
use Rattle.pcapfile_merge.specs.declared.merging.Merged.{Merged}
use Rattle.pcapfile_merge.specs.declared.reader.Reader.{Reader}
use Rattle.pcapfile_merge.specs.declared.source.Source.{Source}
use Rattle.pcapfile_merge.specs.Choosing.{HaveEnded, IsFirst}
use Rattle.pcapfile_merge.specs.Merges.{Merges}
use Rattle.pcapfile_merge.specs.Packets.{Packet, IsEarlierIn, text_of, texts}
use Rattle.pcapfile_merge.specs.Sources.{Advances, Gave, numbers_of, pending_of}

-- The packets that were written, without the indexes of their inputs.
abbrev pub packets_in : List (ℕ × Packet) → List Packet
packets_in = map (λ (given : ℕ × Packet). given.1)

-- An output: its bytes, where known, and the number that its next interface gets.
pub record Output : Type 0 where
  pub bytes : Option (List ℕ)
  pub next : ℕ

abbrev pub output_of : Option (List ℕ) → ℕ → Output
output_of bytes next = record { bytes = bytes; next = next }

-- What a merge is asked for: the order of the packets, and the most packets and other blocks that it may write.
pub record Asked : Type 0 where
  pub order : PacketOrder
  pub most : ℕ

abbrev pub asked_of : PacketOrder → ℕ → Asked
asked_of order most = record { order = order; most = most }

-- The number of the output's next interface, after one more interface with this number, or after something else.
abbrev pub next_number : Bool → ℕ → ℕ
next_number is_interface number = if is_interface then counted (number + 1) else number

abbrev pub next_after : Packet → ℕ → ℕ
next_after p = next_number p.is_interface

abbrev pub next_after_all : List Packet → ℕ → ℕ
next_after_all [] next = next
next_after_all (p ∷ ps) next = next_after_all ps (next_after p next)

-- The numbers of the interfaces that the input at this index gave, where the first interface among these packets has the number `next`.
abbrev pub numbers_given : ℕ → ℕ → List (ℕ × Packet) → List ℕ
numbers_given place next [] = []
numbers_given place next (given ∷ out) =
    (if (given.0 == place) && given.1.is_interface then next ∷ [] else []) ++ numbers_given place (next_after given.1 next) out

-- What a source gave was written and the source took the next; or part of it was written and the source still holds it.
abbrev pub MergesNext : {R : Type 0} → (R → Option (List ℕ)) → Source R → Source R → Output → Output → Result (Unit {0}) PcapError → Type 0
MergesNext remaining old new a b (Ok done) = Advances remaining a.next old new × Appends a.bytes b.bytes (texts (pending_of old)) × (b.next ≡ next_after_all (pending_of old) a.next)
MergesNext remaining old new a b (Err e) = (new ≡ old) × IsIo e × AppendsPart a.bytes b.bytes (texts (pending_of old)) × (b.next ≡ a.next)

-- The same for the source at one index among several.
abbrev pub MergesAt : {R : Type 0} → (R → Option (List ℕ)) → ℕ → List (Source R) → List (Source R) → Output → Output → Result (Unit {0}) PcapError → Type 0
MergesAt {R} remaining place olds news a b result =
    (old : Source R) × (new : Source R) × (old ≡ slice_index_or olds place old) × (news ≡ slice_set olds place new) × MergesNext remaining old new a b result

-- An input of a merge: its source before and after, and the packets that it gave since it began.
pub record Input {R : Type 0} (remaining : R → Option (List ℕ)) : Type 0 where
  pub start : Source R
  pub now : Source R
  pub based : now.base ≡ start.base
  pub gone : List Packet
  pub gave : (from : Reader R) (earlier : List Packet) → Gave remaining from start earlier → Gave remaining from now (earlier ++ gone)

module _ {R : Type 0} {remaining : R → Option (List ℕ)} where
  -- The packets that an input holds.
  abbrev pub held_of : Input remaining → List Packet
  held_of input = pending_of input.now

  -- The packets that an input gave, and then the one that it holds.
  abbrev pub packets_of : Input remaining → List Packet
  packets_of input = input.gone ++ held_of input

  -- An input ended because there was no memory for the number of an interface.
  abbrev pub LacksNumber : Input remaining → Type 0
  LacksNumber input = (input.now.taken.next ≡ None) × IsSomeAnd input.now.taken.fault IsMemory

  -- The interfaces that an input gave have these numbers, unless there was no memory for the last of them.
  abbrev pub HasNumbers : Input remaining → List ℕ → Type 0
  HasNumbers input given = (numbers_of input.now ≡ numbers_of input.start ++ given) ⊎ LacksNumber input

  -- AllHaveNumbers first next out inputs: the interfaces among the packets that these inputs gave have the numbers from `next` on, in the
  -- order of the output. The index of the first input is `first`.
  abbrev pub AllHaveNumbers : ℕ → ℕ → List (ℕ × Packet) → List (Input remaining) → Type 0
  AllHaveNumbers first next out [] = ⊤
  AllHaveNumbers first next out (input ∷ inputs) = HasNumbers input (numbers_given first next out) × AllHaveNumbers (first + 1) next out inputs

-- These sources were merged in this order: the packets written are a merge of theirs, and each source holds the packet that it did not give.
-- The interfaces among the packets have the numbers from `next` on.
pub record Merging {R : Type 0} (remaining : R → Option (List ℕ)) (order : PacketOrder) (starts nows : List (Source R)) (next : ℕ) (out : List (ℕ × Packet)) : Type 0 where
  pub inputs : List (Input remaining)
  pub starts_are : map (λ (input : Input remaining). input.start) inputs ≡ starts
  pub nows_are : map (λ (input : Input remaining). input.now) inputs ≡ nows
  pub merges : Merges (IsEarlierIn order) (map packets_of inputs) out (map held_of inputs)
  pub numbers : AllHaveNumbers 0 next out inputs

-- The merge ended after all packets, or after the most that it may write, or with a write that failed in the next one.
abbrev pub EndsMerge : {R : Type 0} → Asked → List (Source R) → Option (List ℕ) → Option (List ℕ) → ℕ → Option PcapError → Type 0
EndsMerge asked nows mid now count None = (now ≡ mid) × (HaveEnded nows ⊎ (count ≡ asked.most))
EndsMerge asked nows mid now count (Some e) =
    (count < asked.most) × IsIo e × (place : ℕ) × (p : Packet) × IsFirst asked.order nows place p × AppendsPart mid now (text_of p)

-- One run of a merge.
pub record MergesRun {R : Type 0} (remaining : R → Option (List ℕ)) (starts nows : List (Source R)) (before now : Output) (asked : Asked) (merged : Merged) : Type 0 where
  pub out : List (ℕ × Packet)
  pub mid : Option (List ℕ)
  pub merging : Merging remaining asked.order starts nows before.next out
  pub count : length out ≡ merged.packets
  pub went_out : Appends before.bytes mid (texts (packets_in out))
  pub next : now.next ≡ next_after_all (packets_in out) before.next
  pub ends : EndsMerge asked nows mid now.bytes merged.packets merged.fault

-- The outcome of a merge that wrote this many packets, with the number of the next interface.
abbrev pub outcome_of : ℕ → ℕ → Result (Unit {0}) PcapError → Merged
outcome_of packets interfaces result = record { packets = packets; interfaces = interfaces; fault = result_err result }
