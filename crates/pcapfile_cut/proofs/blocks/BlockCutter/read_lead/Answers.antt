use Rattle.std.proofs.Common.{◌≡◌, [], Err, ◌∷◌, ◌++◌, arith, refl, length-append, inl, rules}
use Rattle.pcapfile_cut.specs.BlockCuts.{place_of}
use Rattle.pcapfile_cut.proofs.JoinedBlocks.{lead_more, leads_more, leads_none}
use Rattle.pcapfile_cut.proofs.blocks.BlockCutter.read_lead.Goals as goal

pub loop-blocks-init : goal.loop-blocks-init
loop-blocks-init g c = record {
  read = [];
  reads = leads_none _ _ c.args.outcome.now c.requires.within c.requires.within_bytes;
  lead = search rules;
  count = refl;
}

pub loop-blocks-preserved : goal.loop-blocks-preserved
loop-blocks-preserved g c =
    let i = c.loop-blocks.invariant in
    let more = rw c.if-not-branch.false at c.in_ok-lead_on.ensures in
    record {
      read = i.read ++ more.one.block ∷ [];
      reads = leads_more _ _ _ _ _ _ c.args.outcome.now c.loop-blocks.outcome c.lead_on.new.outcome i.read i.reads i.lead (search rules) more;
      lead = lead_more _ _ (place_of g.R.Read.remaining c.args.self.now) (place_of g.R.Read.remaining c.loop-blocks.self) (place_of g.R.Read.remaining c.lead_on.new.self) c.loop-blocks.outcome c.lead_on.new.outcome i.read i.lead more;
      count = omega (arith, length-append i.read (more.one.block ∷ []), i.count);
    }

pub returns-in_err-lead-clause-fails : goal.returns-in_err-lead-clause-fails
returns-in_err-lead-clause-fails g c =
    let failed : c.from_residual.result ≡ Err c.in_err-lead.field-0.0 = search rules in
    rw failed (record {
      blocks = [];
      b = place_of g.R.Read.remaining c.args.self.now;
      reads = leads_none _ _ c.args.outcome.now c.requires.within c.requires.within_bytes;
      fails = inl (refl, refl, c.in_err-lead.ensures.memory);
    })
