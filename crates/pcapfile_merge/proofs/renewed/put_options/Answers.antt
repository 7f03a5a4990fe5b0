use Rattle.std.proofs.Common.{map}
use Rattle.pcap_core.proofs.Kept.{moves_on}
use Rattle.pcap_options.specs.EnhancedOption.{enhanced_entry}
use Rattle.pcapfile_merge.proofs.Renewing.{kept_more}
use Rattle.pcapfile_merge.proofs.renewed.put_options.Goals as goal

pub loop-option-preserved : goal.loop-option-preserved
loop-option-preserved c = record {
  kept = kept_more (map enhanced_entry c.args.kept.now.items) (map enhanced_entry c.loop-option.kept.items) (map enhanced_entry c.put_option.new.kept.items) c.loop-option.yielded c.in-Some.option c.loop-option.invariant.kept c.in_ok-put_option.ensures;
  rest = moves_on c.loop-option.yielded _ _ _ c.in-Some.option c.loop-option.invariant.rest c.in-Some.ensures.steps.0;
}
