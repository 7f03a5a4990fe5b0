use Rattle.std.proofs.Common.{rules}
use Rattle.pcap_core.specs.declared.common.Endianness.TheVariants.{Big, Little}
use Rattle.pcapfile_cut.specs.Openings.{header_of}
use Rattle.pcapfile_selected.proofs.HeadTimes.{time_by_header}
use Rattle.pcapfile_selected.proofs.source.time_in.Goals as goal

pub returns-in-Big : goal.returns-in-Big
returns-in-Big c = time_by_header (header_of c.args.opening.now) Big c.ts_resolution-resolution.result c.args.bytes.now c.time_under.result
    (search rules) (search rules) c.time_under.ensures

pub returns-in-Little : goal.returns-in-Little
returns-in-Little c = time_by_header (header_of c.args.opening.now) Little c.ts_resolution-resolution.result c.args.bytes.now c.time_under-in-Little.result
    (search rules) (search rules) c.time_under-in-Little.ensures
