-- This file proves how blocks are listed.
use Rattle.std.proofs.Common.{◌≡◌, refl, IfSome, ℕ, List, [], ◌∷◌, ◌++◌, Option, Result, Ok, Err, sym, subst, ◌∙◌}
use Rattle.std.specs.Fmt.{decimal}
use Rattle.std.specs.Io.KnownBytes.{Appends}
use Rattle.pcap_items.specs.Reading.{Takes}
use Rattle.pcap_blocks.specs.SectionHeader.{Section}
use Rattle.pcap_ng.specs.Blocks.{block_format}
use Rattle.pcap_ng.specs.Frames.{Framed}
use Rattle.pcap_ng.specs.Opening.{OpeningSays}
use Rattle.pcap_ng.specs.State.{State}
use Rattle.pcap_ng.proofs.BlockFormat.{blocks_lawful}
use Rattle.pcap_ng.proofs.FirstBlock.{opening_stable}
use Rattle.pcap_program.specs.declared.exit.Exit.{Exit}
use Rattle.pcap_program.specs.Exits.{exit_of}
use Rattle.pcap_program.specs.Lines.{WritesLine}
use Rattle.capcopy_run.specs.Listing.{ListsItems, ListsUntil, streams}
use Rattle.capcopy_run.specs.BlockLines.{IsBodyWord, IsBlockLine, IsItemLine, kind_name, block_lines, section_line, heading_of}
use Rattle.capcopy_run.proofs.Listing.{lists_heading, lists_known}

-- A capture whose first block was read.
module _ (q : State) (section : Section) (names : heading_of q ≡ section_line section) (bytes known before mid : Option (List ℕ)) (took : Takes OpeningSays bytes known q) where
  -- The section's line wasn't written.
  pub section_torn : (most : ℕ) (exit : Exit) → WritesLine (λ line. line ≡ section_line section) before mid (Err exit) → IfSome bytes (λ s. ListsUntil block_lines most s known before mid exit)
  section_torn most exit part = lists_heading block_lines opening_stable q tt most bytes known before mid took exit (subst (λ (l : List ℕ). WritesLine (λ line. line ≡ l) before mid (Err exit)) (sym names) part)

  -- The blocks were listed after the section's line.
  pub blocks_known : WritesLine (λ line. line ≡ section_line section) before mid (Ok tt) → (most : ℕ) (now after : Option (List ℕ)) (result : Result (Unit {0}) Exit)
      → ListsItems IsItemLine block_format q (streams known mid) (streams now after) most result → IfSome bytes (λ s. ListsUntil block_lines most s now before after (exit_of result))
  blocks_known written most now after result run =
      let headed = subst (λ (l : List ℕ). Appends before mid l) (written.1 ∙ sym names) written.2 in
      lists_known block_lines opening_stable q blocks_lawful bytes known before mid took headed most now after result run

-- The parts put before a text, from the line's end to its beginning, are the line.
pub block_line_made : (index len : ℕ) (block : Framed) (word l7 l6 l5 l4 l3 l2 l1 l0 all : List ℕ) → IsBodyWord block word → len ≡ block.initial_len
    → l0 ≡ [] → l1 ≡ 10 ∷ l0 → l2 ≡ word ++ l1 → l3 ≡ 32 ∷ l2 → l4 ≡ decimal len ++ l3 → l5 ≡ 32 ∷ l4 → l6 ≡ kind_name block.type_ ++ l5 → l7 ≡ 32 ∷ l6 → all ≡ decimal index ++ l7
    → IsBlockLine index block all
block_line_made index len block word l7 l6 l5 l4 l3 l2 l1 l0 all is same e0 e1 e2 e3 e4 e5 e6 e7 e =
    (word, is, rw (e, e7, e6, e5, e4, e3, e2, e1, e0, same) refl)
