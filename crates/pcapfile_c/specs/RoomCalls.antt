-- What sequences of calls do on a capture that comes in pieces.
use Rattle.std.specs.Prelude.{◌≡◌, ◌≢◌, ℕ, ℤ, pos, zero, List, [], ◌∷◌, ◌++◌, take, drop}
use Rattle.std.specs.List.{flat_map}
use Rattle.pcapfile_values.specs.declared.errors.PcapfileError.{PcapfileError}
use Rattle.pcapfile_c.specs.declared.push.PcapfilePush.{PcapfilePush}
use Rattle.pcapfile_c.specs.Push.{MakesSpace, Puts, held_in}
use Rattle.pcapfile_c.specs.Readers.{reader}

-- What a call with this status put or returned: all of it under 0, and otherwise nothing.
abbrev pub under_status : {A : Type 0} → ℤ → List A → List A
under_status (pos zero) all = all
under_status _ all = []

-- All bytes that the caller put.
abbrev pub all_put : {A : Type 0} → List (List ℕ × List A) → List ℕ
all_put calls = flat_map (λ call. call.0) calls

-- All packets or blocks that the calls returned.
abbrev pub all_given : {A : Type 0} → List (List ℕ × List A) → List A
all_given calls = flat_map (λ call. call.1) calls

-- The calls return values of G and keep a value of T beside the room. Gives is what a call with a status returns. Keeps is how the
-- program may change what is kept between two calls.
module _ {T G : Type 0} (Gives : ℤ → PcapfilePush → T → List ℕ → PcapfilePush → T → List G → Type 0) (Keeps : T → T → Type 0) where
  -- One of the calls, with its result; or what the program does between two calls, which keeps the held bytes: it writes elsewhere in the
  -- room, or takes another room. Each has the bytes that were put and the values that were returned.
  pub data RoomCall (before : PcapfilePush) (kept : T) (room : List ℕ) (push : PcapfilePush) (next : T) (now : List ℕ) : List ℕ → List G → Type 0 where
    space : (wanted : ℕ) (error told : PcapfileError) (status : ℤ) → next ≡ kept → MakesSpace wanted (reader before room error) (reader push now told) status → RoomCall before kept room push next now [] []
    put : (count : ℕ) (status : ℤ) → next ≡ kept → now ≡ room → Puts before push room count status
        → RoomCall before kept room push next now (under_status status (take count (drop before.end room))) []
    gives : (status : ℤ) (given : List G) → now ≡ room → Gives status before kept room push next given → RoomCall before kept room push next now [] given
    between : push ≡ before → Keeps kept next → held_in before now ≡ held_in before room → RoomCall before kept room push next now [] []

  -- Calls one after the other.
  abbrev pub RoomCalls : PcapfilePush → T → List ℕ → List (List ℕ × List G) → PcapfilePush → T → List ℕ → Type 0
  RoomCalls before kept room [] push next now = (push ≡ before) × (next ≡ kept) × (now ≡ room)
  RoomCalls before kept room (call ∷ calls) push next now =
      (mid : PcapfilePush) × (then : T) × (there : List ℕ) × RoomCall before kept room mid then there call.0 call.1 × RoomCalls mid then there calls push next now

  -- What is left after these calls, from nothing on: the last call ended them, after what it returned.
  pub record Ended (IsFresh : PcapfilePush → T → Type 0) (Ends : ℤ → PcapfilePush → Type 0) (calls : List (List ℕ × List G)) (push : PcapfilePush) (next : T) (room : List ℕ) : Type 0 where
    pub start : PcapfilePush
    pub start_kept : T
    pub start_room : List ℕ
    pub fresh : IsFresh start start_kept
    pub empty : held_in start start_room ≡ []
    pub earlier : List (List ℕ × List G)
    pub last : PcapfilePush
    pub last_kept : T
    pub made : RoomCalls start start_kept start_room earlier last last_kept room
    pub given : List G
    pub status : ℤ
    pub tells : Gives status last last_kept room push next given
    pub all : calls ≡ earlier ++ ([], given) ∷ []
    pub refused : status ≢ pos 0
    pub ends : Ends status push
