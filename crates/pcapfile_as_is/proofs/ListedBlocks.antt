-- This file proves what a list has for blocks that are read leniently.
use Rattle.std.proofs.Common.{◌≡◌, ℕ, List, [], map, Bool, true, false, refl, sym, ap, subst}
use Rattle.std.specs.Prelude.{Option}
use Rattle.pcap_blocks.specs.ParsedBlock.{Body}
use Rattle.pcap_ng.specs.Frames.{Framed}
use Rattle.pcap_file.specs.Placed.{is_packet}
use Rattle.pcap_tolerant_blocks.specs.declared.flaws.Flaw.{Flaw}
use Rattle.pcap_tolerant_blocks.specs.Flaws.{Said, said_of}
use Rattle.pcap_tolerant_captures.specs.Blocks.{Item}
use Rattle.pcapfile_as_is.specs.declared.counted.Told.{Told}
use Rattle.pcapfile_as_is.specs.BlockLists.{HoldsAsIs, enhanced, obsolete, simple, IsListed, IsListedBody, IsListedIf, described, unnumbered}
use Rattle.pcapfile_as_is.specs.Counts.{is_flawed}

holds_packet : (b : Framed) (body : Option Body) (flaws : List Said) → HoldsAsIs b body flaws → is_packet b.type_ ≡ true
holds_packet b body flaws (enhanced packet said rest type text) = ap is_packet type
holds_packet b body flaws (obsolete packet said rest type text) = ap is_packet type
holds_packet b body flaws (simple packet said rest type text) = ap is_packet type

-- The block holds the body and the flaws that were read.
pub holds_as : (b : Framed) (body other : Option Body) (flaws others : List Flaw) → body ≡ other → flaws ≡ others → HoldsAsIs b other (map said_of others) → HoldsAsIs b body (map said_of flaws)
holds_as b body other flaws others bodies same holds =
    subst (λ (x : Option Body). HoldsAsIs b x (map said_of flaws)) (sym bodies) (subst (λ (l : List Flaw). HoldsAsIs b other (map said_of l)) (sym same) holds)

-- A block that holds no packet.
pub no_packet : (number place : ℕ) (item : Item) (told : Told) → is_packet item.block.type_ ≡ false → told ≡ unnumbered (is_flawed item) → IsListed number place item told []
no_packet number place item told none is = subst (λ (b : Bool). IsListedIf b number item told []) (sym none) (is, refl)

-- A block that holds a packet.
pub one_packet : (number place : ℕ) (item : Item) (body : Option Body) (flaws : List Said) → HoldsAsIs item.block body flaws → (told : Told) (line : List ℕ) → IsListedBody (described item.led.after) number body flaws told line → IsListed number place item told line
one_packet number place item body flaws holds told line listed =
    subst (λ (b : Bool). IsListedIf b number item told line) (sym (holds_packet item.block body flaws holds)) (body, flaws, holds, listed)
