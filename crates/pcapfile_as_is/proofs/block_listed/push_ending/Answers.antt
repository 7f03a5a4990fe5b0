use Rattle.std.proofs.Common.{◌≡◌, ◌∙◌, ◌++◌, List, ℕ, map, take, ap, arith, append_assoc, refl, rules}
use Rattle.std.specs.List.{flat_map}
use Rattle.pcap_tolerant_blocks.specs.Flaws.{said_of}
use Rattle.pcapfile_as_is.specs.BlockLists.{said_mark}
use Rattle.pcapfile_as_is.proofs.SaidLines.{next_text}
use Rattle.pcapfile_as_is.proofs.block_listed.push_ending.Goals as goal

pub loop-marked-preserved : goal.loop-marked-preserved
loop-marked-preserved c =
    let front = c.args.line.now.items in
    let so_far = c.loop-marked.line.items in
    let made = flat_map said_mark (map said_of (take c.loop-marked.marked c.args.flaws.now)) in
    let text = c.as_bytes.result.now in
    let pushed : c.extend_from_slice.new.self.items ≡ so_far ++ text = search rules in
    let mark = c.as_bytes.ensures.value ∙ c.in_ok-mark.ensures in
    record {
      inside = omega (arith, c.loop-marked-test.true);
      text = pushed ∙ ap (λ (l : List ℕ). l ++ text) c.loop-marked.invariant.text ∙ append_assoc front made text
          ∙ ap (λ (l : List ℕ). front ++ (made ++ l)) mark ∙ ap (λ (l : List ℕ). front ++ l) (next_text said_mark made c.args.flaws.now c.loop-marked.marked _ c.loop-marked-test.true refl);
    }
