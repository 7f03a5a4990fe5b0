-- How a capture of a variant is written as a plain capture.
use Rattle.std.specs.Prelude.{◌≡◌, ◌⊎◌, ◌++◌, [], Bool, ℕ, List, length}
use Rattle.pcap_variants.specs.Variants.{Packet, ArePackets, text_of, plain_of}
use Rattle.pcap_variants.specs.Ahead.{Ahead}
use Rattle.pcap_variants.specs.Fronts.{IsShort, MayFollow}
use Rattle.pcap_variants.specs.declared.variant.Variant.{Variant}
use Rattle.pcap_variants.specs.declared.plain.Plain.{Plain}

-- With the bytes that are held and the next ones, `plain` is what is still to be written.
abbrev pub Writes : Plain → List ℕ → List ℕ → Type 0
Writes step next plain = Ahead step.variant step.left (step.held.items ++ next) plain

-- Behind the magic number, the rest of a file header and all packets of the variant are to be written.
abbrev pub Begins : Variant → Plain → Type 0
Begins variant step = (header : List ℕ) (packets : List Packet) → length header ≡ 20 → ArePackets variant packets
    → Writes step (header ++ text_of packets) (header ++ plain_of packets)

-- Whatever follows a piece: what was to be written behind `before` is what is now written behind it, and then what is still to be written.
abbrev pub Goes : Plain → List ℕ → List ℕ → Plain → List ℕ → Type 0
Goes step before piece step_now now = (next plain : List ℕ) → Writes step (piece ++ next) plain
    → (rest : List ℕ) × (before ++ plain ≡ now ++ rest) × Writes step_now next rest

-- The same without a piece. With `true`, nothing follows.
abbrev pub GoesBy : Bool → Plain → List ℕ → Plain → List ℕ → Type 0
GoesBy is_all step before step_now now = (next plain : List ℕ) → MayFollow is_all next → Writes step next plain
    → (rest : List ℕ) × (before ++ plain ≡ now ++ rest) × Writes step_now next rest

-- If nothing follows, all that was to be written is written.
abbrev pub Ends : Plain → List ℕ → List ℕ → Type 0
Ends step before now = (plain : List ℕ) → Writes step [] plain → now ≡ before ++ plain

-- Nothing is held, or the beginning of a head, before which nothing stays.
abbrev pub IsDone : Plain → Type 0
IsDone step = (step.held.items ≡ []) ⊎ IsShort step.variant step.left step.held.items
