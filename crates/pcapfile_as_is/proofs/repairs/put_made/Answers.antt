use Rattle.std.proofs.Common.{◌≡◌, ◌∙◌, ℕ, List, subst}
use Rattle.pcap_program.specs.Lines.{WritesLine}
use Rattle.pcapfile_as_is.proofs.repairs.put_made.Goals as goal

pub returns : goal.returns
returns g c =
    subst (λ (l : List ℕ). WritesLine (λ k. k ≡ l) (g.W.Write.contents c.args.output.now) (g.W.Write.contents c.put_line.new.output) c.put_line.result) (c.as_slice.ensures.value ∙ c.in_ok-put_bytes.ensures) c.put_line.ensures.writes
