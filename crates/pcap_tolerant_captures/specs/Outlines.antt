-- Blocks read leniently of which only the byte order of their section stays known.
use Rattle.std.specs.Prelude.{◌≡◌, ℕ, List, Bool, Option, None, Some, Result, Ok, Err}
use Rattle.pcap_core.specs.declared.common.Endianness.{Endianness}
use Rattle.pcap_core.specs.declared.errors.PcapError.{PcapError}
use Rattle.pcap_core.specs.Answer.{whole, lacks, faulty, Refuses}
use Rattle.pcap_items.specs.Lent.{HoldsText, LendsText}
use Rattle.pcap_items.specs.Reading.{NextGives, Pulls}
use Rattle.pcap_ng.specs.Frames.{Framed}
use Rattle.pcap_ng.specs.Lent.{header_of, framed_around, body_in}
use Rattle.pcap_ng.specs.declared.pcapng.block_header.BlockHeader.{BlockHeader}
use Rattle.pcap_tolerant_captures.specs.Blocks.{Item, AsIsSays, as_is_format}
use Rattle.pcap_tolerant_captures.specs.State.{State, opening, within, order_at, Led}

-- The byte order of the section in force, if there is a section.
abbrev pub known_order : State → Option Endianness
known_order opening = None
known_order (within section interfaces) = Some (order_at (within section interfaces))

-- The block with this header whose text is these bytes, with the flaws and the state that it leads to.
abbrev pub outlined : Led → List ℕ → BlockHeader → Item
outlined led s header = record { block = framed_around header (body_in s); led = led }

-- The result of reading the frame of the block at the front of the bytes: the new state knows the byte order of the state to which the
-- block leads. Or the block is refused, and the state stays the same.
abbrev pub OutlineTells : State → State → List ℕ → Result BlockHeader PcapError → Type 0
OutlineTells old new s (Ok header) =
    (block : Framed) × (led : Led) × (rest : List ℕ) × (header ≡ header_of block) × AsIsSays old s (whole (record { block = block; led = led }) rest) × (known_order new ≡ known_order led.after)
OutlineTells old new s (Err e) = (new ≡ old) × Refuses ⊥ (λ n. AsIsSays old s (lacks n)) (λ fault. AsIsSays old s (faulty fault)) e

-- The new state knows the byte order of the state to which a block leads, if a block was taken. Otherwise the state stays the same.
abbrev pub LeadsIfTaken : {X : Type 0} → Led → State → State → Result (Option X) PcapError → Type 0
LeadsIfTaken led old new (Ok (Some x)) = known_order new ≡ known_order led.after
LeadsIfTaken led old new _ = new ≡ old

-- A call took the next block under this state, and holds these bytes of it, or nothing; the block leads to a state of which the new one
-- knows the byte order.
pub record HoldsOutline (old new : State) (before after : Option (List ℕ)) (failed : Bool) (held : List ℕ) (result : Result (Option BlockHeader) PcapError) : Type 0 where
  pub led : Led
  pub leads : LeadsIfTaken led old new result
  pub pulls : Pulls (as_is_format.says old) (outlined led held) before after failed result
  pub text : HoldsText (as_is_format.says old) (outlined led held) before after held result

-- The new state knows the byte order of the state to which a block leads, if a block came. Otherwise the state stays the same.
abbrev pub LeadsIfGiven : {X : Type 0} → Led → State → State → Option (Result X PcapError) → Type 0
LeadsIfGiven led old new (Some (Ok x)) = known_order new ≡ known_order led.after
LeadsIfGiven led old new _ = new ≡ old

-- What can be seen of a reader: its state, what its stream has left, whether the reader is done and a read failed, and the text it lends.
pub record Seen : Type 0 where
  pub state : State
  pub left : Option (List ℕ)
  pub done : Bool
  pub failed : Bool
  pub text : List ℕ

-- A call of a reader gave the next block, or none, as `next_header` does; but of what the block puts in force, only the byte order is
-- known.
pub record NextOutline (old new : Seen) (result : Option (Result BlockHeader PcapError)) : Type 0 where
  pub led : Led
  pub leads : LeadsIfGiven led old.state new.state result
  pub next : NextGives (as_is_format.says old.state) (outlined led new.text) old.left new.left old.done new.done old.failed new.failed result
  pub text : LendsText (as_is_format.says old.state) (outlined led new.text) old.left new.left new.text result
