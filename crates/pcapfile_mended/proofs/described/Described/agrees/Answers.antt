use Rattle.std.proofs.Common.{◌≡◌, ◌∙◌, sym, IsTrue}
use Rattle.std.specs.Prelude.{true}
use Rattle.std.proofs.Math.Dec.{eqb}
use Rattle.std.proofs.lemmas.Bool.{eqb-true, not-false}
use Rattle.pcap_core.specs.Link.{key}
use Rattle.pcap_core.proofs.Links.{key_same}
use Rattle.pcapfile_mended.specs.Described.{Agree}
use Rattle.pcapfile_mended.proofs.described.Described.agrees.Goals as goal

pub returns : goal.returns
returns c =
    let link = c.args.self.link in
    let other = c.args.other.link in
    let same : eqb (key link) (key other) ≡ true = not-false _ (sym c.ne.ensures ∙ c.if-ne.false) in
    let clock = c.has_clock.ensures in
    let agree : IsTrue c.has_clock.result → Agree c.args.self c.args.other = λ is. record { link = key_same link other (eqb-true _ _ same); resolution = (clock.0 is).0; offset = (clock.0 is).1 } in
    (agree, (λ both. clock.1 (both.resolution, both.offset)))
