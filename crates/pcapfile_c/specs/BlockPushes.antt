-- What sequences of calls do that read blocks of a PcapNg capture in pieces.
use Rattle.std.specs.Prelude.{◌≡◌, ◌≢◌, ℕ, ℤ, pos, List, [], ◌∷◌}
use Rattle.pcap_ng.specs.State.{State}
use Rattle.pcapfile_values.specs.declared.blocks.PcapfileBlock.{PcapfileBlock}
use Rattle.pcapfile_values.specs.declared.blocks.PcapfileSection.{PcapfileSection}
use Rattle.pcapfile_values.specs.declared.errors.PcapfileError.{PcapfileError}
use Rattle.pcapfile_values.specs.Blocks.{ShowsState}
use Rattle.pcapfile_c.specs.declared.push.PcapfilePush.{PcapfilePush}
use Rattle.pcapfile_c.specs.PushBlocks.{TakesNextBlock}
use Rattle.pcapfile_c.specs.Readers.{block_reader}
use Rattle.pcapfile_c.specs.RoomCalls.{Ended, under_status}

-- One call that reads a block, with these values behind its pointers.
pub record BlockCall (before push : PcapfilePush) (section next : PcapfileSection) (room : List ℕ) (block : PcapfileBlock) (told : PcapfileError) (status : ℤ) : Type 0 where
  pub old : PcapfileBlock
  pub error : PcapfileError
  pub takes : (q : State) → ShowsState section q → TakesNextBlock q room (block_reader section before old error) (block_reader next push block told) status

-- The call returns its block under status 0, and otherwise nothing.
abbrev pub GivesBlock : ℤ → PcapfilePush → PcapfileSection → List ℕ → PcapfilePush → PcapfileSection → List PcapfileBlock → Type 0
GivesBlock status before section room push next given =
    (block : PcapfileBlock) × (told : PcapfileError) × BlockCall before push section next room block told status × (given ≡ under_status status (block ∷ []))

-- The section stays the same between two calls.
abbrev pub KeepsSection : PcapfileSection → PcapfileSection → Type 0
KeepsSection section next = next ≡ section

-- BlocksHaveEnded calls push section room: after these calls, from nothing on, the last call reported that no block follows.
abbrev pub BlocksHaveEnded : List (List ℕ × List PcapfileBlock) → PcapfilePush → PcapfileSection → List ℕ → Type 0
BlocksHaveEnded = Ended GivesBlock KeepsSection (λ start section. section.magic_number ≡ 0) (λ status push. (status ≢ pos 6) × (status ≢ pos 10))
