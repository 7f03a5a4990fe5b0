use Rattle.std.proofs.Common.{◌≡◌, ◌-◌, ◌∷◌, [], ℕ, length, drop, arith, rules, subst, sym}
use Rattle.std.proofs.lemmas.List.{drop_all, drop-append-le}
use Rattle.pcap_core.specs.Bytes.{IsBytes}
use Rattle.pcap_ng.specs.Blocks.{item_of}
use Rattle.pcap_ng.specs.Parser.{interfaces_in_force, section_in_force, state_of}
use Rattle.pcap_parts.specs.NgParts.{IsWalked}
use Rattle.pcap_parts.proofs.Walking.{goes_nowhere, not_kept, other_stays, place_of, slice_bytes, walked_interface, walked_other, walked_section}
use Rattle.pcap_parts.proofs.Placing.{no_interface, no_section, placed_interface, placed_other, placed_section}
use Rattle.pcap_parts.specs.Places.{IsPlaced}
use Rattle.pcap_parts.proofs.walk.Walk.pass.Goals as goal

pub overflow_sub-place : goal.overflow_sub-place
overflow_sub-place c = (place_of c.args.bytes.now c.args.left.now c.requires.walked.items c.requires.walked.texts).1

pub returns-in-SectionHeader-clause-walked : goal.returns-in-SectionHeader-clause-walked
returns-in-SectionHeader-clause-walked c =
    let self = c.args.self.now in
    let places = self.interfaces.items in
    let item = item_of (state_of c.next_block.new.self) c.in_ok-after.block in
    let fits : IsBytes c.args.left.now = slice_bytes c.args.left.now (λ i. omega (arith, c.type_inv.left i)) in
    let all : c.len-self.result ≡ length places = search rules in
    let here = length c.args.bytes.now - length c.args.left.now in
    let walked : IsWalked c.args.bytes.now c.in_ok-after.after.now (state_of c.next_block.new.self) here (drop (length places) places) =
    rw (drop_all (length places) places (omega arith)) (walked_section c.args.bytes.now c.args.left.now c.in_ok-after.after.now (state_of self.parser) self.header (drop self.first places) item c.requires.walked c.in_ok-after.ensures.tells fits c.in-SectionHeader.is) in
    subst (λ (n : ℕ). IsWalked c.args.bytes.now c.in_ok-after.after.now (state_of c.next_block.new.self) here (drop n places)) (sym all) walked

pub returns-in-SectionHeader-clause-goes_on : goal.returns-in-SectionHeader-clause-goes_on
returns-in-SectionHeader-clause-goes_on c = goes_nowhere c.args.self.now.interfaces.items

pub returns-in-InterfaceDescription-clause-walked : goal.returns-in-InterfaceDescription-clause-walked
returns-in-InterfaceDescription-clause-walked c =
    let self = c.args.self.now in
    let places = self.interfaces.items in
    let item = item_of (state_of c.next_block.new.self) c.in_ok-after.block in
    let place = length c.args.bytes.now - length c.args.left.now in
    rw (c.in_ok-push-in-InterfaceDescription.ensures.items, drop-append-le self.first places (place ∷ []) c.requires.within) (walked_interface c.args.bytes.now c.args.left.now c.in_ok-after.after.now (state_of self.parser)
    self.header (drop self.first places) item c.requires.walked c.in_ok-after.ensures.tells)

pub returns-clause-walked : goal.returns-clause-walked
returns-clause-walked c =
    let self = c.args.self.now in
    let item = item_of (state_of c.next_block.new.self) c.in_ok-after.block in
    let left = c.args.left.now in
    let after = c.in_ok-after.after.now in
    let same = other_stays (section_in_force self.parser) (interfaces_in_force self.parser) item left after
    (not_kept c.in_ok-after.block.type_ c.in_default.not-SectionHeader c.in_default.not-InterfaceDescription) c.in_ok-after.ensures.tells in
    walked_other c.args.bytes.now left after (state_of self.parser) self.header (drop self.first self.interfaces.items) item c.requires.walked c.in_ok-after.ensures.tells same

pub returns-clause-goes_on : goal.returns-clause-goes_on
returns-clause-goes_on c = goes_nowhere c.args.self.now.interfaces.items

pub returns-in-SectionHeader-clause-placed : goal.returns-in-SectionHeader-clause-placed
returns-in-SectionHeader-clause-placed c =
    let self = c.args.self.now in
    let places = self.interfaces.items in
    let item = item_of (state_of c.next_block.new.self) c.in_ok-after.block in
    let all : c.len-self.result ≡ length places = search rules in
    let here = length c.args.bytes.now - length c.args.left.now in
    let after = c.in_ok-after.after.now in
    subst (λ (n : ℕ). IsPlaced c.args.bytes.now after (state_of c.next_block.new.self) here n places) (sym all)
    (placed_section c.args.bytes.now c.args.left.now after (state_of self.parser) self.header self.first places item c.requires.placed c.in_ok-after.ensures.tells c.in-SectionHeader.is)

pub returns-in-InterfaceDescription-clause-placed : goal.returns-in-InterfaceDescription-clause-placed
returns-in-InterfaceDescription-clause-placed c =
    let self = c.args.self.now in
    let item = item_of (state_of c.next_block.new.self) c.in_ok-after.block in
    rw c.in_ok-push-in-InterfaceDescription.ensures.items
    (placed_interface c.args.bytes.now c.args.left.now c.in_ok-after.after.now (state_of self.parser) self.header self.first self.interfaces.items item c.requires.placed c.in_ok-after.ensures.tells c.requires.within
    c.in-InterfaceDescription.is)

pub returns-clause-placed : goal.returns-clause-placed
returns-clause-placed c =
    let self = c.args.self.now in
    let item = item_of (state_of c.next_block.new.self) c.in_ok-after.block in
    let type = c.in_ok-after.block.type_ in
    placed_other c.args.bytes.now c.args.left.now c.in_ok-after.after.now (state_of self.parser) self.header self.first self.interfaces.items item c.requires.placed c.in_ok-after.ensures.tells
    (no_section type c.in_default.not-SectionHeader) (no_interface type c.in_default.not-InterfaceDescription)

pub returns-in_err-push-in-InterfaceDescription-clause-goes_on : goal.returns-in_err-push-in-InterfaceDescription-clause-goes_on
returns-in_err-push-in-InterfaceDescription-clause-goes_on c = rw c.in_err-push-in-InterfaceDescription.ensures.items (goes_nowhere c.args.self.now.interfaces.items)
