use Rattle.std.proofs.Common.{◌≡◌, true, refl}
use Rattle.pcap_ng.specs.State.{is_kept}
use Rattle.pcapfile_info.specs.declared.progress.Progress.{Progress}
use Rattle.pcapfile_info.proofs.Bodies.{err_says}
use Rattle.pcapfile_info.proofs.Describing.{describes_or_loses, comments_or_loses}
use Rattle.pcapfile_info.proofs.progress.Progress.keep.Goals as goal

pub returns-in-InterfaceDescription-clause-adds : goal.returns-in-InterfaceDescription-clause-adds
returns-in-InterfaceDescription-clause-adds c =
    let describes = c.describe.ensures in
    rw c.in-InterfaceDescription.is (describes_or_loses _ _ c.args.self.now c.describe.new.self _ describes.section describes.comments describes.described)

pub returns-in-SectionHeader-clause-adds : goal.returns-in-SectionHeader-clause-adds
returns-in-SectionHeader-clause-adds c =
    let old = c.args.self.now in
    let new : Progress = record {
      items = old.items;
      bytes = old.bytes;
      totals = old.totals;
      section = c.saturating_add-self.result;
      described = old.described;
      comments = c.push_comments.new.comments;
    } in
    rw c.in-SectionHeader.is (comments_or_loses _ _ old new _ c.saturating_add-self.ensures refl c.push_comments.ensures)

pub returns-in-InterfaceDescription-clause-memory : goal.returns-in-InterfaceDescription-clause-memory
returns-in-InterfaceDescription-clause-memory c = err_says (is_kept c.args.type_ ≡ true) (rw c.in-InterfaceDescription.is refl) c.describe.result

pub returns-in-SectionHeader-clause-memory : goal.returns-in-SectionHeader-clause-memory
returns-in-SectionHeader-clause-memory c = err_says (is_kept c.args.type_ ≡ true) (rw c.in-SectionHeader.is refl) c.push_comments.result
