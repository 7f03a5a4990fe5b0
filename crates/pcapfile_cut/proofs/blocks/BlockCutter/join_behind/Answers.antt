use Rattle.std.proofs.Common.{◌≡◌, ◌∙◌, ℕ, List, Bool, Ok, Err, false, inl, inr, refl, rules, subst}
use Rattle.pcapfile_cut.specs.declared.wanted.Wanted.TheVariants.{All}
use Rattle.pcapfile_cut.specs.BlockCuts.{CutsFrom, place_of, point}
use Rattle.pcapfile_cut.specs.JoinedBlocks.{PutsLead}
use Rattle.pcapfile_cut.proofs.blocks.BlockCutter.join_behind.Goals as goal

pub cut_blocks-requires-clause-no_write_failed : goal.cut_blocks-requires-clause-no_write_failed
cut_blocks-requires-clause-no_write_failed g c =
    c.in_ok-put_lead.ensures.told ∙ c.in_ok-lead.ensures.lead.reads.write_failed ∙ c.requires.no_write_failed

pub returns-in_err-put_lead : goal.returns-in_err-put_lead
returns-in_err-put_lead g c =
    let out = g.W.Write.contents c.args.output.now in
    let now = g.W.Write.contents c.put_lead.new.output in
    let e = c.in_err-put_lead.field-0.0 in
    let failed : c.from_residual-in_err-put_lead.result ≡ Err e = search rules in
    rw failed (inl (record {
      lead = c.in_ok-lead.lead.items;
      b = place_of g.R.Read.remaining c.read_lead.new.self;
      mid = c.read_lead.new.outcome;
      takes = c.in_ok-lead.ensures.lead;
      puts = inr (
        e,
        refl,
        record {
          wrote = subst (λ (l : List ℕ). PutsLead c.args.in_force.now l out now (Err e)) c.as_slice.ensures.value c.in_err-put_lead.ensures.wrote;
          place = refl;
          write_failed = c.in_err-put_lead.ensures.failed;
          counts = search rules;
        },
      );
    }))

pub returns : goal.returns
returns g c =
    let b = place_of g.R.Read.remaining c.read_lead.new.self in
    let mid = c.read_lead.new.outcome in
    let behind = g.W.Write.contents c.put_lead.new.output in
    let now = point (place_of g.R.Read.remaining c.cut_blocks.new.self) (g.W.Write.contents c.cut_blocks.new.output) c.cut_blocks.new.outcome in
    inl (record {
      lead = c.in_ok-lead.lead.items;
      b = b;
      mid = mid;
      takes = c.in_ok-lead.ensures.lead;
      puts = inl (
        behind,
        subst (λ (l : List ℕ). PutsLead c.args.in_force.now l (g.W.Write.contents c.args.output.now) behind (Ok tt)) c.as_slice.ensures.value c.in_ok-put_lead.ensures.wrote,
        subst (λ (w : Bool). CutsFrom All false (point b behind (record mid { write_failed = w })) now c.cut_blocks.result) c.in_ok-put_lead.ensures.told c.cut_blocks.ensures,
      );
    })
