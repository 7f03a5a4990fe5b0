use Rattle.std.proofs.Common.{◌∙◌, sym}
use Rattle.pcap_ng.specs.Frames.{framed_of}
use Rattle.pcapfile_merge.proofs.Bodies.{puts_numbered, puts_whole}
use Rattle.pcapfile_merge.proofs.made.Made.put_block.Goals as goal

pub returns-then-is_statistics : goal.returns-then-is_statistics
returns-then-is_statistics c = puts_numbered c.args.numbers.now (framed_of c.args.block.now) c.put_numbered.new.self c.put_numbered.result (sym c.is_statistics.ensures ∙ c.if-is_statistics.true) c.put_numbered.ensures

pub returns : goal.returns
returns c = puts_whole c.args.numbers.now (framed_of c.args.block.now) c.put_whole.new.self c.put_whole.result (sym c.is_statistics.ensures ∙ c.if-is_statistics.false) c.put_whole.ensures
