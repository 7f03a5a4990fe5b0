use Rattle.pcap_ng.specs.Blocks.{block_format}
use Rattle.pcap_ng.proofs.BlockFormat.{blocks_lawful}
use Rattle.pcap_parts.proofs.InParts.{in_parts}
use Rattle.pcap_parts.proofs.laws.blocks_are_in_parts.Goals as goal

pub returns : goal.returns
returns c q h s rest items cuts front are = in_parts block_format blocks_lawful q h s rest items cuts front are
