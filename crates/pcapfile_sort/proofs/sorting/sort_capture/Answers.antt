use Rattle.std.proofs.Common.{◌≡◌, ◌∙◌, length, ap, subst, sym}
use Rattle.pcapfile_cut.specs.declared.opening.Opening.{Opening}
use Rattle.pcapfile_cut.specs.Openings.{bytes_of}
use Rattle.pcapfile_sort.specs.Packets.{packet_captures}
use Rattle.pcapfile_sort.specs.Reading.{PassesOnce}
use Rattle.pcapfile_sort.proofs.SortedCaptures.{packets_passed, packets_sortable}
use Rattle.pcapfile_sort.proofs.sorting.sort_capture.Goals as goal

pub end_sort-requires : goal.end_sort-requires
end_sort-requires g c = record { lawful = packets_sortable }

pub returns : goal.returns
returns g c =
    let placed : c.new-entries.result.place ≡ length (bytes_of c.in-Ok.opening) = c.new-entries.ensures.place ∙ ap length c.bytes.ensures in
    let capture = g.R.Read.remaining c.args.input in
    let pass = packets_passed c.in-Ok.opening c.header-header.result.now c.header-header.ensures.header capture (g.R.Read.remaining c.read.new.input) c.in-Ok.ensures.bytes.0 c.in-Ok.ensures.bytes.1
    c.read_entries-ended.new.walked.read_failed c.new-entries.result.place placed c.read_entries-ended.new.entries c.read_entries-ended.result c.read_entries-ended.ensures in
    let there = subst (λ (o : Opening). PassesOnce packet_captures o capture c.read_entries-ended.new.walked.read_failed c.read_entries-ended.new.entries c.read_entries-ended.result) (sym c.after-records.ensures) pass in
    c.end_sort.ensures.sorts capture there
