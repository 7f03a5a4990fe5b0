-- This file defines blocks in which those that hold packets are numbered.
use Rattle.std.specs.Prelude.{refl}
use Rattle.pcap_ng.specs.Blocks.{block_format}
use Rattle.pcap_ng.proofs.BlockFormat.{blocks_lawful}
use Rattle.capcopy_run.specs.OfBlocks.{AreBlocks}
use Rattle.pcapfile_list.specs.FileLines.{is_packet_item, numbered_blocks}
use Rattle.pcapfile_list.specs.Numbered.{number_behind, numbered_behind}
use Rattle.pcapfile_list.specs.NumberedLaws.{numbered_lawful, cause_numbered, asked_numbered}

-- Numbered blocks are blocks, with the number of packets so far as the kept value.
pub stored_blocks : AreBlocks numbered_blocks (λ q n. (q, n)) (numbered_behind is_packet_item) (λ n item. number_behind (is_packet_item item) n)
unfolding numbered_blocks block_format
stored_blocks = record {
  lawful = numbered_lawful block_format is_packet_item blocks_lawful;
  text = λ q n s rest item said. (item, refl, said);
  goes = λ q n item. refl;
  cause = cause_numbered block_format is_packet_item;
  asked = asked_numbered block_format is_packet_item;
}
