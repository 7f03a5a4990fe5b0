use Rattle.std.proofs.Common.{rules, ◌≡◌, ◌++◌, Err, List, map, subst}
use Rattle.std.specs.List.{flat_map}
use Rattle.pcap_core.proofs.Kept.{moves_on}
use Rattle.pcap_options.specs.SectionOption.{section_entry}
use Rattle.pcap_options.specs.Values.{Entry}
use Rattle.pcapfile_merge.specs.SectionOptions.{AddsFewer, added}
use Rattle.pcapfile_merge.proofs.SectionOptions.{added_more, fewer_of_all, front_stays}
use Rattle.pcapfile_merge.proofs.section_options.add_options.Goals as goal

pub loop-option-preserved : goal.loop-option-preserved
loop-option-preserved c =
    let i = c.loop-option.invariant in
    let start = map section_entry c.args.options.now.items in
    let so_far = map section_entry c.loop-option.options.items in
    let now = map section_entry c.add_option.new.options.items in
    let option = section_entry c.in-Some.option in
    let more = flat_map (added c.args.name.now start) (map section_entry c.loop-option.yielded) in
    record {
      options = added_more section_entry (added c.args.name.now start) start so_far now c.loop-option.yielded c.in-Some.option i.options
          (subst (λ (l : List Entry). now ≡ so_far ++ added c.args.name.now l option) (front_stays section_entry _ start more c.loop-option.options.items i.earlier i.options) c.in_ok-add_option.ensures);
      earlier = i.earlier;
      rest = moves_on c.loop-option.yielded _ _ _ c.in-Some.option i.rest c.in-Some.ensures.steps.0;
    }

pub returns-in_err-add_option : goal.returns-in_err-add_option
returns-in_err-add_option c =
    let i = c.loop-option.invariant in
    let start = map section_entry c.args.options.now.items in
    let so_far = map section_entry c.loop-option.options.items in
    let now = map section_entry c.add_option.new.options.items in
    let option = section_entry c.in-Some.option in
    let more = flat_map (added c.args.name.now start) (map section_entry c.loop-option.yielded) in
    let fewer = subst (λ (l : List Entry). AddsFewer (added c.args.name.now l option) so_far now) (front_stays section_entry _ start more c.loop-option.options.items i.earlier i.options) c.in_err-add_option.ensures.1 in
    let failed : c.from_residual.result ≡ Err c.in_err-add_option.field-0.0 = search rules in
    rw failed (c.in_err-add_option.ensures.0, fewer_of_all section_entry (added c.args.name.now start) start so_far now c.loop-option.yielded _ _ c.args.section.items c.in-Some.option i.options i.rest c.in-Some.ensures.steps.0 fewer)
