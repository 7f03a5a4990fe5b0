-- The blocks that the join of a PcapNg part reads and writes.
use Rattle.std.specs.Prelude.{◌≡◌, ◌≢◌, ◌-◌, ◌^◌, ◌++◌, ◌&&◌, ◌⊎◌, ℕ, List, [], ◌∷◌, length, Bool, true, false, nat_eq, nat_lt, Option, None, Result, Ok, Err}
use Rattle.std.specs.List.{starts_with}
use Rattle.std.specs.Io.KnownBytes.{Appends, Keeps}
use Rattle.pcap_core.specs.declared.errors.PcapError.{PcapError}
use Rattle.pcap_core.specs.Errors.{IsIo, IsMemory}
use Rattle.pcap_items.specs.Writing.{AppendsPart}
use Rattle.pcapfile_cut.specs.declared.cutting.Outcome.{Outcome}
use Rattle.pcapfile_cut.specs.declared.wanted.Wanted.TheVariants.{All}
use Rattle.pcapfile_cut.specs.BlockCuts.{Between, CutsFrom, IsDone, Lent, Place, Point, PutsBlock, PutsBlocks, Refuses, block_outcome, bytes_in, point}
use Rattle.pcapfile_cut.specs.Cuts.{IsNew, SameCounts}

-- A text begins with these bytes, and has more.
abbrev pub is_front : List ℕ → List ℕ → Bool
is_front text front = nat_lt (length front) (length text) && starts_with nat_eq text front

-- The next block of a part was read and counted, and is appended to the part's lead.
pub record LeadsOn (lead lead_now : List ℕ) (a b : Place) (old new : Outcome) : Type 0 where
  pub one : PutsBlock All a b None None old new
  pub text : lead_now ≡ lead ++ one.block.text

-- The next block of a part is refused. Or it was read, and there is no memory to hold it.
abbrev pub FailsLead : Place → Place → PcapError → Type 0
FailsLead a b e = Refuses a b e ⊎ (IsMemory e × (block : Lent) × Between a b [] × (b.pending ≡ block ∷ []))

-- The next block was appended to the lead. Or no block is left, or the next one can't be appended.
abbrev pub StepsLead : List ℕ → List ℕ → Place → Place → Outcome → Outcome → Result Bool PcapError → Type 0
StepsLead lead lead_now a b old new (Ok true) = LeadsOn lead lead_now a b old new
StepsLead lead lead_now a b old new (Ok false) = IsDone a b × (lead_now ≡ lead) × (new ≡ old)
StepsLead lead lead_now a b old new (Err e) = FailsLead a b e × (new ≡ old)

-- Each of these blocks was needed: a text begins with the opening and the blocks before the last one, and has more.
abbrev pub LastIsLed : List ℕ → List ℕ → List Lent → Type 0
LastIsLed text opening blocks =
    (blocks ≡ []) ⊎ ((before : List Lent) × (last : Lent) × (blocks ≡ before ++ last ∷ []) × (is_front text (opening ++ bytes_in before) ≡ true))

-- The lead of a part is its opening and these blocks, which were read and counted.
pub record ReadsLead (text : List ℕ) (a b : Place) (old new : Outcome) (blocks : List Lent) : Type 0 where
  pub reads : PutsBlocks All a b None None old new blocks
  pub led : LastIsLed text a.opening blocks
  pub write_failed : new.write_failed ≡ old.write_failed

-- The lead ends where it is all of a text or other bytes, or where no block is left.
abbrev pub EndsLead : List ℕ → List ℕ → Place → Place → ℕ → Type 0
EndsLead text lead b now blocks = ((now ≡ b) × ((is_front text lead ≡ false) ⊎ (blocks ≡ 2 ^ 64 - 1))) ⊎ IsDone b now

-- The lead of a part that is to follow a text.
pub record TakesLead (text : List ℕ) (a now : Place) (old new : Outcome) (lead : List ℕ) : Type 0 where
  pub blocks : List Lent
  pub b : Place
  pub reads : ReadsLead text a b old new blocks
  pub bytes : lead ≡ a.opening ++ bytes_in blocks
  pub ends : EndsLead text lead b now (length blocks)

-- There is no memory for the opening, or the lead ended at a block that can't be appended.
pub record LosesLead (text : List ℕ) (a now : Place) (old new : Outcome) (e : PcapError) : Type 0 where
  pub blocks : List Lent
  pub b : Place
  pub reads : ReadsLead text a b old new blocks
  pub fails : ((blocks ≡ []) × (now ≡ b) × IsMemory e) ⊎ FailsLead b now e

-- A lead was written unless it is the text in force. Or a write failed in it.
abbrev pub PutsLead : List ℕ → List ℕ → Option (List ℕ) → Option (List ℕ) → Result (Unit {0}) PcapError → Type 0
PutsLead text lead out out_now (Ok u) = ((lead ≡ text) × (out_now ≡ out)) ⊎ ((lead ≢ text) × Appends out out_now lead)
PutsLead text lead out out_now (Err e) = (lead ≢ text) × IsIo e × AppendsPart out out_now lead

-- A write failed in a lead, and nothing more is counted.
pub record TearsLead (text lead : List ℕ) (b now : Point) (e : PcapError) : Type 0 where
  pub wrote : PutsLead text lead b.out now.out (Err e)
  pub place : now.place ≡ b.place
  pub write_failed : now.outcome.write_failed ≡ true
  pub counts : SameCounts b.outcome now.outcome

-- The lead of a part was written unless it is the text in force, and then all blocks after it. Or a write failed in the lead.
abbrev pub PutsRest : List ℕ → List ℕ → Point → Point → Result (Unit {0}) PcapError → Type 0
PutsRest text lead b now result =
    ((behind : Option (List ℕ)) × PutsLead text lead b.out behind (Ok tt) × CutsFrom All false (point b.place behind b.outcome) now result)
    ⊎ ((e : PcapError) × (result ≡ Err e) × TearsLead text lead b now e)

-- The lead of a part was read, and was written with the blocks after it.
pub record JoinsBehind (text : List ℕ) (a now : Point) (result : Result (Unit {0}) PcapError) : Type 0 where
  pub lead : List ℕ
  pub b : Place
  pub mid : Outcome
  pub takes : TakesLead text a.place b a.outcome mid lead
  pub puts : PutsRest text lead (point b a.out mid) now result

-- A part was appended. Or its lead can't be read, and nothing was written.
abbrev pub JoinsFrom : List ℕ → Point → Point → Result (Unit {0}) PcapError → Type 0
JoinsFrom text a now result =
    JoinsBehind text a now result
    ⊎ ((e : PcapError) × (result ≡ Err e) × LosesLead text a.place now.place a.outcome now.outcome e × Keeps a.out now.out)

-- A part was appended behind a text, and the outcome says how far.
pub record JoinsBlocks (text : List ℕ) (a now : Place) (out out_now : Option (List ℕ)) (outcome : Outcome) : Type 0 where
  pub old : Outcome
  pub new : Outcome
  pub result : Result (Unit {0}) PcapError
  pub is_new : IsNew old
  pub joins : JoinsFrom text (point a out old) (point now out_now new) result
  pub told : outcome ≡ block_outcome new result now
