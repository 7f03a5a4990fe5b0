use Rattle.std.proofs.Common.{◌≡◌, ◌+◌, ◌-◌, ℕ, arith, subst}
use Rattle.pcap_ng.specs.Stretches.{Passes}
use Rattle.pcap_ng.proofs.Stretched.{more_taken}
use Rattle.pcap_ng.proofs.pcapng.stretch.pass_blocks.Goals as goal

pub loop-left-preserved : goal.loop-left-preserved
loop-left-preserved c =
    let passed = c.in-Some.ensures in
    let loop = c.loop-left in
    let one = more_taken c.args.order c.args.bytes.now loop.rest.now c.in-Some.after.now (c.args.most - loop.left) passed.0.0 loop.invariant.so_far passed.0.1 passed.0.2 in
    let count : c.args.most - loop.left + 1 ≡ c.args.most - (loop.left - 1) = omega (arith, loop.invariant.within, c.loop-left-test.true) in
    record {
      so_far = subst (λ (n : ℕ). Passes c.args.order c.args.bytes.now c.in-Some.after.now n) count one;
      within = omega (arith, loop.invariant.within);
      head = passed.1;
    }
