use Rattle.std.proofs.Common.{◌≡◌, ◌<◌, ◌+◌, ◌∙◌, arith, length, subst}
use Rattle.pcap_filter.specs.Effects.{start}
use Rattle.pcap_filter.specs.Machines.{machine_of}
use Rattle.pcap_filter.specs.Runs.{Runs}
use Rattle.pcap_filter.proofs.Results.{run_gives}
use Rattle.pcap_filter.proofs.Walking.{comes_end, comes_next, number_here, stays}
use Rattle.pcap_filter.proofs.filter.Filter.accepts.Goals as goal

pub act-requires : goal.act-requires
act-requires c = number_here _ _ _ c.loop-over.invariant.fine c.loop-over.invariant.inside

pub overflow_add-place : goal.overflow_add-place
overflow_add-place c =
    let inside = stays _ _ _ _ _ _ _ _ c.loop-over.invariant c.in-On.ensures in
    omega (arith, inside, c.loop-over.invariant.most)

pub overflow_add-place-in-On : goal.overflow_add-place-in-On
overflow_add-place-in-On c =
    let inside = stays _ _ _ _ _ _ _ _ c.loop-over.invariant c.in-On.ensures in
    omega (arith, inside, c.loop-over.invariant.most)

pub loop-over-preserved : goal.loop-over-preserved
loop-over-preserved c = comes_next _ _ _ _ _ _ _ _ c.loop-over.invariant c.in-On.ensures

pub returns-in-End-clause-run : goal.returns-in-End-clause-run
returns-in-End-clause-run c =
    let run = comes_end _ _ _ _ _ _ _ c.loop-over.invariant c.in-End.ensures in
    subst (λ steps. Runs c.args.packet.now c.args.length steps start c.in-End.value) (c.as_slice-steps.ensures.value ∙ c.self.view_is) run

pub returns-in-End-clause-value : goal.returns-in-End-clause-value
returns-in-End-clause-value c =
    let run = comes_end _ _ _ _ _ _ _ c.loop-over.invariant c.in-End.ensures in
    run_gives c.args.packet.now c.args.length c.args.self.now c.in-End.value
    (subst (λ steps. Runs c.args.packet.now c.args.length steps start c.in-End.value) (c.as_slice-steps.ensures.value ∙ c.self.view_is) run)
