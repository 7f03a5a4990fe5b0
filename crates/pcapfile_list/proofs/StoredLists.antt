-- This file proves how the packets of blocks are listed.
use Rattle.std.proofs.Common.{◌≡◌, ℕ, List, Option, None, Some, Result, IfSome, subst}
use Rattle.std.specs.Io.KnownBytes.{Keeps}
use Rattle.std.proofs.KnownBytes.{Appends-nil}
use Rattle.pcap_items.specs.Reading.{Takes}
use Rattle.pcap_blocks.specs.InterfaceDescription.{Interface}
use Rattle.pcap_ng.specs.Blocks.{Item}
use Rattle.pcap_ng.specs.Opening.{OpeningSays}
use Rattle.pcap_ng.specs.State.{interfaces_at}
use Rattle.pcap_ng.specs.State.{State}
use Rattle.pcap_ng.proofs.FirstBlock.{opening_stable}
use Rattle.pcap_program.specs.declared.exit.Exit.{Exit}
use Rattle.pcap_program.specs.Exits.{exit_of}
use Rattle.pcap_program.specs.Lines.{WritesLine}
use Rattle.capcopy_run.specs.Listing.{ListsItems, ListsUntil, streams}
use Rattle.capcopy_run.proofs.Listing.{lists_known}
use Rattle.pcapfile_lines.specs.declared.form.Form.{Form}
use Rattle.pcapfile_run.specs.declared.format.Format.{Format}
use Rattle.pcapfile_list.specs.FileLines.{ListsAs, IsLineIf, Output, IsNumberedLine, is_packet_item, numbered_blocks, stored_lines}
use Rattle.pcapfile_run.specs.Formats.{format_at}
use Rattle.pcapfile_list.specs.Numbered.{number_behind, numbered_behind}
use Rattle.pcapfile_list.specs.StoredBlocks.{stored_blocks}

-- The line of a block after n packets has the number that follows from n.
pub stored_written : (form : Option Form) (index n m : ℕ) (item : Item) (interfaces : List Interface) (before now : Option (List ℕ)) (result : Result (Unit {0}) Exit) → m ≡ number_behind (is_packet_item item) n
    → interfaces ≡ interfaces_at item.after → WritesLine (IsLineIf form (is_packet_item item) interfaces m item.block) before now result
    → WritesLine (IsNumberedLine form index (numbered_behind is_packet_item n item)) before now result
stored_written form index n m item interfaces before now result counts described writes =
    let numbered = subst (λ (k : ℕ). WritesLine (IsLineIf form (is_packet_item item) interfaces k item.block) before now result) counts writes in
    subst (λ (l : List Interface). WritesLine (IsLineIf form (is_packet_item item) l (number_behind (is_packet_item item) n) item.block) before now result) described numbered

-- A capture whose first block was read, and whose packets were listed.
pub stored_known : (form : Option Form) (q : State) (bytes known before : Option (List ℕ)) → Takes OpeningSays bytes known q → (most : ℕ) (now after : Option (List ℕ)) (result : Result (Unit {0}) Exit)
    → ListsItems (IsNumberedLine form) numbered_blocks (q, 0) (streams known before) (streams now after) most result → IfSome bytes (λ s. ListsUntil (stored_lines form) most s now before after (exit_of result))
stored_known form q bytes known before took most now after result run =
    lists_known (stored_lines form) opening_stable q stored_blocks.lawful bytes known before before took (Appends-nil before) most now after result run

-- A capture of this format, whose first byte was looked at, and which was then listed.
pub lists_told : (form : Option Form) (format : Format) (most : ℕ) (before mid now : Option (List ℕ)) (output : Output) (exit : Exit) → Keeps before mid → IfSome before (λ s. format ≡ format_at s)
    → IfSome mid (λ s. ListsAs form format most s now output exit) → IfSome before (λ s. ListsAs form (format_at s) most s now output exit)
lists_told form format most None mid now output exit kept told lists = tt
lists_told form format most (Some s) None now output exit kept told lists = absurd kept
lists_told form format most (Some s) (Some t) now output exit kept told lists =
    let same = subst (λ (l : List ℕ). ListsAs form format most l now output exit) kept lists in
    subst (λ (f : Format). ListsAs form f most s now output exit) told same
