use Rattle.std.proofs.Common.{ℕ, List, Some, length, refl, subst}
use Rattle.pcap_ng.specs.Reader.{has_failed, state_of, stream_of, text_of}
use Rattle.pcap_walk.specs.declared.walking.Ended.{Ended}
use Rattle.pcapfile_sort.specs.declared.blocks.Numbered.{Numbered}
use Rattle.pcapfile_sort.specs.declared.collecting.Unkept.{Unkept}
use Rattle.pcapfile_sort.specs.ReadingBlocks.{KeepsNumbered, ReadsBlocks}
use Rattle.pcapfile_sort.proofs.KeptBlocks.{all_counted, all_read, first_ends}
use Rattle.pcapfile_sort.proofs.blocks.read_all_blocks.Goals as goal

pub returns-in-None-clause-passes : goal.returns-in-None-clause-passes
returns-in-None-clause-passes g c = λ capture takes.
    let one = rw c.text.ensures at c.in-None.ensures in
    all_read capture (g.R.Read.remaining (stream_of c.args.reader.now)) (state_of c.args.reader.now) (text_of c.args.reader.now) takes c.args.kept.now c.requires.none c.requires.start c.keep.new.self
    one.2 one.0 _ c.read_blocks.new.kept c.read_blocks.result c.read_blocks.ensures

pub returns-in-None-clause-sections : goal.returns-in-None-clause-sections
returns-in-None-clause-sections g c = λ capture takes at_end.
    let one = rw c.text.ensures at c.in-None.ensures in
    let q = state_of c.args.reader.now in
    let left = g.R.Read.remaining (stream_of c.args.reader.now) in
    let reads = subst (λ (e : Ended Unkept). ReadsBlocks q left (has_failed c.read_blocks.new.reader) c.keep.new.self c.read_blocks.new.kept e) at_end c.read_blocks.ensures in
    all_counted capture left q (text_of c.args.reader.now) takes c.args.kept.now c.requires.none c.requires.start c.keep.new.self one.2 one.0 _ c.read_blocks.new.kept reads

pub returns-in-Some-clause-passes : goal.returns-in-Some-clause-passes
returns-in-Some-clause-passes g c = λ capture takes.
    let one : Numbered = record { sections = 1; number = 0 } in
    let ends : KeepsNumbered one (length c.text.result.now) c.args.kept.now c.keep.new.self (Some c.in-Some.ended) = c.in-Some.ensures in
    let here = subst (λ (l : List ℕ). KeepsNumbered one (length l) c.args.kept.now c.keep.new.self (Some c.in-Some.ended)) c.text.ensures ends in
    first_ends capture (g.R.Read.remaining (stream_of c.args.reader.now)) (state_of c.args.reader.now) (text_of c.args.reader.now) takes c.args.kept.now c.requires.none c.requires.start _ one refl c.keep.new.self c.in-Some.ended here

pub returns-in-Some-clause-sections : goal.returns-in-Some-clause-sections
returns-in-Some-clause-sections g c = λ capture takes at_end.
    let one : Numbered = record { sections = 1; number = 0 } in
    let ends : KeepsNumbered one (length c.text.result.now) c.args.kept.now c.keep.new.self (Some c.in-Some.ended) = c.in-Some.ensures in
    absurd (subst (λ (e : Ended Unkept). KeepsNumbered one (length c.text.result.now) c.args.kept.now c.keep.new.self (Some e)) at_end ends)
