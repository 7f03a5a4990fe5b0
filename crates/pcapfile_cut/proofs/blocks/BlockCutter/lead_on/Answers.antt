use Rattle.std.proofs.Common.{◌≡◌, ◌∙◌, [], ◌∷◌, refl, sym, ap, rules}
use Rattle.pcapfile_cut.specs.BlockCuts.{Between, Lent, lent_with, pending_in, place_of}
use Rattle.pcapfile_cut.proofs.BlockCuts.{put_pending}
use Rattle.pcapfile_cut.proofs.blocks.BlockCutter.lead_on.Goals as goal

pub returns : goal.returns
returns g c =
    let a = place_of g.R.Read.remaining c.args.self.now in
    let m = place_of g.R.Read.remaining c.lend.new.self in
    let reader = c.lend.new.self.reader in
    let block : Lent = lent_with reader c.in-Some.header in
    let lent : Between a m [] = rw c.in-Some.is at c.in_ok-header.ensures.next in
    let pending : m.pending ≡ block ∷ [] = ap (pending_in reader) (sym c.in_ok-header.ensures.pending ∙ c.in-Some.is) in
    record {
      one = record {
        block = block;
        between = put_pending a m block lent pending;
        went = search rules;
        pending = refl;
        needed = λ is. refl;
        counts = search rules;
      };
      text = search rules;
    }
