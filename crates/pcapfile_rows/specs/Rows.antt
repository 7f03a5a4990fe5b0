-- This file names what rows of packets or blocks say of a damaged capture so far.
use Rattle.std.specs.Prelude.{ℕ, List, Bool}
use Rattle.pcap_damaged.specs.declared.scrap.LeftOut.{LeftOut}
use Rattle.pcapfile_rows.specs.declared.change.Changed.{Changed}
use Rattle.pcapfile_rows.specs.declared.rows.Rows.{Rows}

-- The bytes that were left out.
abbrev pub left_out_of : {R : Type 0} → Rows R → LeftOut
left_out_of rows = rows.left_out

-- The packets that were left out for their link type, and the blocks for their interface.
abbrev pub others_of : {R : Type 0} → Rows R → ℕ
others_of rows = rows.others

-- The reports on packets and blocks.
abbrev pub changed_of : {R : Type 0} → Rows R → Changed
changed_of rows = rows.changed

-- The capture is at its end.
abbrev pub is_at_end : {R : Type 0} → Rows R → Bool
is_at_end rows = rows.is_at_end

-- The descriptions of interfaces that the last report is about.
abbrev pub descriptions_of : {R : Type 0} → Rows R → List ℕ
descriptions_of rows = rows.describing.text.items

-- The link type of the section's packets is a guess.
abbrev pub is_link_guessed : {R : Type 0} → Rows R → Bool
is_link_guessed rows = rows.describing.is_guess
