use Rattle.std.proofs.Common.{◌+◌, ◌≡◌, ◌<◌, ◌-◌, length, take, rules, sym, subst, refl, arith, ◌∙◌, ℕ}
use Rattle.std.proofs.lemmas.List.{length-set}
use Rattle.pcap_classic.specs.PacketText.{packet_limit}
use Rattle.pcap_classic.specs.Packets.{format_under}
use Rattle.pcap_classic.specs.Parser.{header_of}
use Rattle.pcap_classic.proofs.CaptureFormat.{under_lawful}
use Rattle.pcap_parts.specs.declared.cut.Cut.{Cut}
use Rattle.pcap_parts.proofs.Parted.{parted_begin, parted_end, parted_end_with_bytes, parted_enough}
use Rattle.pcapfile_c.specs.Cuts.{HasRoom}
use Rattle.pcapfile_c.proofs.CutPlaces.{cut_filled, cut_next, cuts_few}
use Rattle.pcapfile_c.proofs.Many.{others_kept}
use Rattle.pcapfile_c.proofs.cuts.cut_packets.Goals as goal

pub loop-wanted-init : goal.loop-wanted-init
loop-wanted-init c =
    let f = format_under packet_limit (header_of c.args.parser.now) in
    let s = c.args.slice.now in
    let how = c.args.parting in
    let places = c.args.cuts.now in
    let first : Cut = record { offset = c.args.total - length s; before = 0 } in
    let begun = parted_begin f (under_lawful packet_limit (header_of c.args.parser.now)) tt s c.args.total c.requires.within how c.requires.some first refl refl in
    let few = cuts_few f tt s c.args.total s 0 how places 0 first c.requires.room (omega arith) begun in
    record {
      so_far = cut_filled f tt s c.args.total s 0 how places 0 first few begun;
      filled = rw length-set (omega (arith, few));
      long = length-set places 0 first;
      others = others_kept places places 0 first refl;
    }

pub returns-in-Some-rest-clause-asked : goal.returns-in-Some-rest-clause-asked
returns-in-Some-rest-clause-asked c =
    let l = c.loop-wanted in
    let header = header_of c.args.parser.now in
    let passed = c.skip_packets-items in
    parted_end (format_under packet_limit header) (under_lawful packet_limit header) tt c.args.slice.now c.args.total c.requires.within c.args.parting c.requires.some l.left.now passed.result.after.now l.before c.in-Some.wanted passed.result.items
    (take l.count l.cuts) c.in-Some-rest.field-0 l.invariant.so_far c.in-Some.ensures (rw c.in-Some-rest.is at passed.ensures.passes)

pub returns-then-is_empty-clause-asked : goal.returns-then-is_empty-clause-asked
returns-then-is_empty-clause-asked c =
    let l = c.loop-wanted in
    let header = header_of c.args.parser.now in
    let passed = c.skip_packets-items in
    let empty : length passed.result.after.now ≡ 0 = search rules in
    parted_end_with_bytes (format_under packet_limit header) (under_lawful packet_limit header) tt c.args.slice.now c.args.total c.requires.within c.args.parting c.requires.some l.left.now passed.result.after.now l.before c.in-Some.wanted
    passed.result.items (take l.count l.cuts) l.invariant.so_far c.in-Some.ensures (rw c.in-None.is at passed.ensures.passes) empty

pub bounds-cuts-count : goal.bounds-cuts-count
bounds-cuts-count c =
    let l = c.loop-wanted in
    let passed = c.skip_packets-items in
    let x : Cut = record { offset = c.args.total - length passed.result.after.now; before = l.before + passed.result.items } in
    let some : 0 < length passed.result.after.now = search rules in
    let room : HasRoom c.args.parting c.args.total (length l.cuts) = subst (λ (n : ℕ). HasRoom c.args.parting c.args.total n) (sym l.invariant.long) c.requires.room in
    (cut_next (header_of c.args.parser.now) c.args.slice.now c.args.total c.requires.within c.args.parting c.requires.some l.left.now passed.result.after.now l.before c.in-Some.wanted passed.result.items passed.result.rest l.cuts l.count x
    l.invariant.so_far c.in-Some.ensures passed.ensures.passes c.in-None.is some passed.ensures.few refl refl room l.invariant.filled).0

pub loop-wanted-preserved : goal.loop-wanted-preserved
loop-wanted-preserved c =
    let l = c.loop-wanted in
    let passed = c.skip_packets-items in
    let x : Cut = record { offset = c.args.total - length passed.result.after.now; before = l.before + passed.result.items } in
    let some : 0 < length passed.result.after.now = search rules in
    let room : HasRoom c.args.parting c.args.total (length l.cuts) = subst (λ (n : ℕ). HasRoom c.args.parting c.args.total n) (sym l.invariant.long) c.requires.room in
    let next = cut_next (header_of c.args.parser.now) c.args.slice.now c.args.total c.requires.within c.args.parting c.requires.some l.left.now passed.result.after.now l.before c.in-Some.wanted passed.result.items passed.result.rest l.cuts l.count x
    l.invariant.so_far c.in-Some.ensures passed.ensures.passes c.in-None.is some passed.ensures.few refl refl room l.invariant.filled in
    record {
      so_far = next.1;
      filled = rw length-set (omega (arith, next.0));
      long = length-set l.cuts l.count x ∙ l.invariant.long;
      others = others_kept l.cuts c.args.cuts.now l.count x l.invariant.others;
    }

pub returns-clause-asked : goal.returns-clause-asked
returns-clause-asked c =
    let l = c.loop-wanted in
    let header = header_of c.args.parser.now in
    parted_enough (format_under packet_limit header) (under_lawful packet_limit header) tt c.args.slice.now c.args.total c.requires.within c.args.parting l.left.now l.before (take l.count l.cuts) l.invariant.so_far c.in_default.ensures
