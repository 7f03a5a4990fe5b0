-- A log of samples, as a format with a head. An item sets the size of the samples after it, or is a sample. If samples are long, the
-- numbers in heads are long too.
use Rattle.std.specs.Prelude.{◌≡◌, ◌+◌, ◌==◌, if◌then◌else◌, nat_lt, ℕ, List, [], length, drop, Option, None, Some, Result, Ok, Err, Bool, true, false}
use Rattle.std.specs.Io.KnownBytes.{Consumes, Keeps, IsAtEnd}
use Rattle.byteorder.specs.Endian.{big_number}
use Rattle.pcap_core.specs.Answer.{Number, faulty}
use Rattle.pcap_core.specs.Faults.{Fault, Own}
use Rattle.pcap_items.specs.Format.{Format}
use Rattle.pcap_items.specs.Headed.{HeadReading, good, bad, Headed, headed}
use Rattle.pcap_items.specs.Reading.{HasCause, Takes, TakesAsked}
use Rattle.test_formats.specs.declared.lent.Lent.{Lent}
use Rattle.test_formats.specs.declared.samples.Head.{Head}
use Rattle.test_formats.specs.declared.samples.Head.TheVariants as heads
use Rattle.test_formats.specs.declared.samples.LogError.{LogError}
use Rattle.test_formats.specs.declared.samples.LogError.TheVariants.{Refused, Stopped}
use Rattle.test_formats.specs.declared.samples.LogFault.{LogFault}
use Rattle.test_formats.specs.declared.samples.LogFault.TheVariants as faults

-- An item: what its head says, and the bytes after it.
pub record Item : Type 0 where
  pub head : Head
  pub bytes : List ℕ

-- A good head: what it says, and how many bytes follow it.
pub record Announced : Type 0 where
  pub head : Head
  pub follows : ℕ

-- The faults of a log, which are no rules of captures.
abbrev pub fault_of : LogFault → Fault
fault_of faults.UnknownKind = Own 1
fault_of faults.SizeTooLarge = Own 2

-- What a head of this kind and number says for samples of this size: kind 1 is a size, kind 2 a sample.
unfoldable pub meaning : ℕ → ℕ → ℕ → HeadReading Announced
meaning size kind number =
    if kind == 1 then (if nat_lt 1000 number then bad (fault_of faults.SizeTooLarge) else good (record { head = heads.Size number; follows = 0 }))
    else if kind == 2 then good (record { head = heads.Sample number; follows = size }) else bad (fault_of faults.UnknownKind)

-- The bytes of a number in a head: four if samples have more than eight bytes, or else two.
abbrev pub number_width : ℕ → ℕ
number_width size = if nat_lt 8 size then 4 else 2

-- The length of a head: a kind of two bytes, and a number.
abbrev pub head_length : ℕ → ℕ
head_length size = 2 + number_width size

-- HeadReads size s h: s is exactly a kind and a number, high byte first, that say h for samples of this size.
pub record HeadReads (size : ℕ) (s : List ℕ) (h : HeadReading Announced) : Type 0 where
  pub kind : ℕ
  pub number : ℕ
  pub after : List ℕ
  pub kind_is : Number big_number 2 kind s after
  pub number_is : Number big_number (number_width size) number after []
  pub means : meaning size kind number ≡ h

-- The bytes after a head are those of its item, without any condition.
abbrev pub BytesRead : Announced → List ℕ → HeadReading Item → Type 0
BytesRead x s (good item) = (item.head ≡ x.head) × (item.bytes ≡ s)
BytesRead x s (bad fault) = ⊥

-- The size of the samples after such a head.
abbrev pub size_after : ℕ → Head → ℕ
size_after size (heads.Size n) = n
size_after size (heads.Sample channel) = size

-- A log as a format with a head, whose state is the size of the samples that follow.
abbrev pub headed_samples : Headed ℕ Announced Item
headed_samples = record {
  head = head_length;
  reads = HeadReads;
  size = λ x. x.follows;
  means = λ q. BytesRead;
  goes = λ q item. size_after q item.head;
}

-- The format of a log.
unfoldable pub sample_format : Format ℕ Item
sample_format = headed headed_samples

-- KnowsHead size head n s: s is a head that says `head` for samples of this size, and n bytes follow it.
abbrev pub KnowsHead : ℕ → Head → ℕ → List ℕ → Type 0
KnowsHead size head n s = HeadReads size s (good (record { head = head; follows = n }))

-- The item with this head and these bytes.
abbrev pub item_with : Head → List ℕ → Item
item_with head bytes = record { head = head; bytes = bytes }

-- The item that is lent.
abbrev pub item_of : Lent → Item
item_of lent = item_with lent.head lent.bytes.now

-- The item with this head, whose head and bytes are held, for samples of this size.
abbrev pub held_item : ℕ → List ℕ → Head → Item
held_item size held head = item_with head (drop (head_length size) held)

-- The size of the samples after what a call of a reader returned: only an item changes it.
abbrev pub size_behind : ℕ → Option (Result Head LogError) → ℕ
size_behind size (Some (Ok head)) = size_after size head
size_behind size (Some (Err e)) = size
size_behind size None = size

-- The result for a kind and a number: what they say, or their fault.
abbrev pub HeadTells : HeadReading Announced → Result (Head × ℕ) LogFault → Type 0
HeadTells h (Ok x) = h ≡ good (record { head = x.0; follows = x.1 })
HeadTells h (Err fault) = h ≡ bad (fault_of fault)

-- The result for the bytes of a head, for samples of this size.
abbrev pub BytesTell : ℕ → List ℕ → Result (Head × ℕ) LogFault → Type 0
BytesTell size s (Ok x) = KnowsHead size x.0 x.1 s
BytesTell size s (Err fault) = HeadReads size s (bad (fault_of fault))

-- KnowsTold size result n s: s is a head with this result for samples of this size, and n bytes follow it; none follows a bad head.
abbrev pub KnowsTold : ℕ → Result Head LogFault → ℕ → List ℕ → Type 0
KnowsTold size (Ok head) n s = KnowsHead size head n s
KnowsTold size (Err fault) n s = (n ≡ 0) × HeadReads size s (bad (fault_of fault))

-- A bad head was taken, and nothing more.
abbrev pub TakesBadHead : ℕ → Option (List ℕ) → Option (List ℕ) → LogFault → Type 0
TakesBadHead size before after fault = (t : List ℕ) × (length t ≡ head_length size) × sample_format.says size t (faulty (fault_of fault)) × Consumes before after t

-- Why a call on a stream returns no item: its head is bad, or there is another cause.
abbrev pub StopsFor : ℕ → Option (List ℕ) → Option (List ℕ) → Bool → LogError → Type 0
StopsFor size before after failed (Refused fault) = (failed ≡ false) × TakesBadHead size before after fault
StopsFor size before after failed (Stopped e) = HasCause (sample_format.says size) before failed e × TakesAsked (sample_format.says size) before after

-- TakesSample: one call takes an item, or returns None exactly at the end of the stream, or stops.
abbrev pub TakesSample : {X : Type 0} → ℕ → (X → Item) → Option (List ℕ) → Option (List ℕ) → Bool → Result (Option X) LogError → Type 0
TakesSample size view before after failed (Ok None) = (failed ≡ false) × IsAtEnd before × Keeps before after
TakesSample size view before after failed (Ok (Some x)) = (failed ≡ false) × Takes (sample_format.says size) before after (view x)
TakesSample size view before after failed (Err e) = StopsFor size before after failed e

-- NextSample: one call of a reader's next. After it stopped, it returns None for good and changes nothing.
abbrev pub NextSample : {X : Type 0} → ℕ → (X → Item) → Option (List ℕ) → Option (List ℕ) → Bool → Bool → Bool → Bool → Option (Result X LogError) → Type 0
NextSample size view before after true done old new None = (done ≡ true) × (new ≡ old) × Keeps before after
NextSample size view before after true done old new (Some r) = ⊥
NextSample size view before after false done old new None = (done ≡ false) × (new ≡ false) × IsAtEnd before × Keeps before after
NextSample size view before after false done old new (Some (Ok x)) = (done ≡ false) × (new ≡ false) × Takes (sample_format.says size) before after (view x)
NextSample size view before after false done old new (Some (Err e)) = (done ≡ true) × StopsFor size before after new e
