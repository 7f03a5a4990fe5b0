use Rattle.std.proofs.Common.{map}
use Rattle.pcap_options.specs.Record.{name_record_of}
use Rattle.pcap_options.specs.NameOption.{name_entry}
use Rattle.pcap_tolerant_blocks.specs.Flaws.{said_of}
use Rattle.pcap_tolerant_blocks.specs.NamesAsIs.{NamesGrow}
use Rattle.pcap_tolerant_blocks.proofs.OneNames.{names_ended, names_cut, names_grow, options_grow, flaws_grow}
use Rattle.pcap_tolerant_blocks.proofs.names.NamesAsIs.from_slice.Goals as goal
use Rattle.pcap_raw_options.proofs.RawRead.{holds_on_err}

pub returns-in_err-read-clause-memory : goal.returns-in_err-read-clause-memory
returns-in_err-read-clause-memory g c =
    holds_on_err (NamesGrow _ _) (names_grow _ _ c.in_err-read.ensures.memory) c.from_residual.result

pub returns-then-not-has_end-clause-read : goal.returns-then-not-has_end-clause-read
returns-then-not-has_end-clause-read g c =
    let read = c.in_ok-read.read in
    let are = rw c.if-not-has_end.true at c.in_ok-read.ensures.read in
    rw c.new.ensures.items (names_cut g.B.ByteOrder.number_of (map name_record_of read.records.items) (map said_of read.flaws.items) c.args.slice.now read.left.now are)

pub returns-in_err-list-clause-memory : goal.returns-in_err-list-clause-memory
returns-in_err-list-clause-memory g c =
    let are = rw c.if-not-has_end.false at c.in_ok-read.ensures.read in
    holds_on_err (NamesGrow _ _) (options_grow _ _ _ _ _ are c.in_err-list.ensures.memory) c.from_residual-in_err-list.result

pub returns-in_err-note_all-clause-memory : goal.returns-in_err-note_all-clause-memory
returns-in_err-note_all-clause-memory g c =
    let are = rw c.if-not-has_end.false at c.in_ok-read.ensures.read in
    let grows = flaws_grow _ _ _ _ _ c.in_ok-list.ensures.read c.in_err-note_all.ensures.memory in
    holds_on_err (NamesGrow _ _) (options_grow _ _ _ _ _ are grows) c.from_residual-in_err-note_all.result

pub returns-clause-read : goal.returns-clause-read
returns-clause-read g c =
    let read = c.in_ok-read.read in
    let list = c.in_ok-list.list in
    let are = rw c.if-not-has_end.false at c.in_ok-read.ensures.read in
    rw c.in_ok-note_all.ensures.items
    (names_ended g.B.ByteOrder.number_of (map name_record_of read.records.items) (map name_entry list.options.items) (map said_of read.flaws.items) (map said_of list.flaws.items) c.args.slice.now read.left.now list.left.now are c.in_ok-list.ensures.read)
