use Rattle.std.proofs.Common.{ap}
use Rattle.std.specs.Prelude.{option_map}
use Rattle.std.specs.Global.{Vec}
use Rattle.pcap_blocks.specs.ParsedBlock.{body_of as body_shown, EnhancedBody, OldPacketBody, SimpleBody}
use Rattle.pcap_ng.specs.Lent.{framed_around}
use Rattle.pcap_tolerant_blocks.specs.declared.flaws.Flaw.{Flaw}
use Rattle.pcap_tolerant_blocks.specs.EnhancedAsIs.{enhanced_in, flaws_said}
use Rattle.pcap_tolerant_blocks.specs.PacketBlockAsIs.{packet_in as obsolete_in, flaws_said as obsolete_said}
use Rattle.pcap_tolerant_blocks.specs.SimpleAsIs.{simple_in, flaws_said as simple_said}
use Rattle.pcap_tolerant_captures.specs.ReaderAsIs.{body_of}
use Rattle.pcapfile_as_is.specs.BlockLists.{enhanced, obsolete, simple}
use Rattle.pcapfile_as_is.proofs.ListedBlocks.{holds_as}
use Rattle.pcapfile_as_is.proofs.block_listed.body_lent.Goals as goal

pub returns-in-Some : goal.returns-in-Some
returns-in-Some g c =
    let read = c.in-Some.read in
    let is = rw c.in-Some.is at c.in_ok-read.ensures.body in
    holds_as (framed_around c.args.header (body_of c.args.reader.now)) (option_map body_shown c.of_enhanced.result.body) (option_map EnhancedBody (enhanced_in read)) c.of_enhanced.result.flaws.items read.flaws.items c.of_enhanced.ensures.body
    (ap (λ (v : Vec Flaw). v.items) c.of_enhanced.ensures.flaws) (enhanced (enhanced_in read) (flaws_said read) is.1.0 is.0 is.1.1)

pub returns-in-Some-2 : goal.returns-in-Some-2
returns-in-Some-2 g c =
    let read = c.in-Some-2.read in
    let is = rw c.in-Some-2.is at c.in_ok-read-2.ensures.body in
    holds_as (framed_around c.args.header (body_of c.args.reader.now)) (option_map body_shown c.of_obsolete.result.body) (option_map OldPacketBody (obsolete_in read)) c.of_obsolete.result.flaws.items read.flaws.items c.of_obsolete.ensures.body
    (ap (λ (v : Vec Flaw). v.items) c.of_obsolete.ensures.flaws) (obsolete (obsolete_in read) (obsolete_said read) is.1.0 is.0 is.1.1)

pub returns-in-Some-3 : goal.returns-in-Some-3
returns-in-Some-3 g c =
    let read = c.in-Some-3.read in
    let is = rw c.in-Some-3.is at c.in_ok-simple.ensures.body in
    holds_as (framed_around c.args.header (body_of c.args.reader.now)) (option_map body_shown c.of_simple.result.body) (option_map SimpleBody (simple_in read)) c.of_simple.result.flaws.items read.flaws.items c.of_simple.ensures.body
    (ap (λ (v : Vec Flaw). v.items) c.of_simple.ensures.flaws) (simple (simple_in read) (simple_said read) is.1.0 is.0 is.1.1)
