use Rattle.std.proofs.Common.{◌≡◌, ◌<◌, ◌+◌, ◌-◌, length, rules, subst, refl}
use Rattle.std.specs.Prelude.{Option, None}
use Rattle.pcap_items.specs.declared.rest.Rest.{Rest}
use Rattle.pcap_classic.specs.PacketText.{packet_limit}
use Rattle.pcap_classic.specs.Packets.{format_under}
use Rattle.pcap_classic.specs.Parser.{header_of}
use Rattle.pcap_classic.proofs.CaptureFormat.{under_lawful}
use Rattle.pcap_parts.specs.declared.cut.Cut.{Cut}
use Rattle.pcap_parts.specs.Parts.{Passes}
use Rattle.pcap_parts.proofs.Parted.{parted_begin, parted_enough, parted_more, parted_stops}
use Rattle.pcap_parts.proofs.cut.cut_packets.Goals as goal

pub loop-wanted-init : goal.loop-wanted-init
loop-wanted-init c =
    let header = header_of c.args.parser.now in
    let s = c.args.slice.now in
    let first : Cut = record { offset = c.args.total - length s; before = 0 } in
    record { so_far = rw (c.in_ok-push.ensures.items, c.new-cuts.ensures.items) (parted_begin (format_under packet_limit header) (under_lawful packet_limit header) tt s c.args.total c.requires.within c.args.parting c.requires.some first refl refl) }

pub returns-then-is_some-clause-asked : goal.returns-then-is_some-clause-asked
returns-then-is_some-clause-asked c =
    let header = header_of c.args.parser.now in
    let passed = c.skip_packets-items.result in
    let empty : passed.rest ≡ None → length passed.after.now ≡ 0 = λ none. search rules in
    parted_stops (format_under packet_limit header) (under_lawful packet_limit header) tt c.args.slice.now c.args.total c.requires.within c.args.parting c.requires.some c.loop-wanted.left.now passed.after.now c.loop-wanted.before
    c.in-Some.wanted passed.items c.loop-wanted.cuts.items passed.rest c.loop-wanted.invariant.so_far c.in-Some.ensures c.skip_packets-items.ensures.passes empty

pub loop-wanted-preserved : goal.loop-wanted-preserved
loop-wanted-preserved c =
    let header = header_of c.args.parser.now in
    let left = c.loop-wanted.left.now in
    let passed = c.skip_packets-items.result in
    let after = passed.after.now in
    let x : Cut = record { offset = c.args.total - length after; before = c.loop-wanted.before + passed.items } in
    let none : passed.rest ≡ None = search rules in
    let p : Passes (format_under packet_limit header) tt left after c.in-Some.wanted passed.items None =
    subst (λ (r : Option Rest). Passes (format_under packet_limit header) tt left after c.in-Some.wanted passed.items r) none c.skip_packets-items.ensures.passes in
    let some : 0 < length after = search rules in
    let more = parted_more (format_under packet_limit header) (under_lawful packet_limit header) tt c.args.slice.now c.args.total c.requires.within c.args.parting c.requires.some left after c.loop-wanted.before
    c.in-Some.wanted passed.items c.loop-wanted.cuts.items x c.loop-wanted.invariant.so_far c.in-Some.ensures p some c.skip_packets-items.ensures.few refl refl in
    record { so_far = rw c.in_ok-push-2.ensures.items more }

pub returns-clause-asked : goal.returns-clause-asked
returns-clause-asked c =
    let header = header_of c.args.parser.now in
    parted_enough (format_under packet_limit header) (under_lawful packet_limit header) tt c.args.slice.now c.args.total c.requires.within c.args.parting c.loop-wanted.left.now c.loop-wanted.before
    c.loop-wanted.cuts.items c.loop-wanted.invariant.so_far c.in_default.ensures
