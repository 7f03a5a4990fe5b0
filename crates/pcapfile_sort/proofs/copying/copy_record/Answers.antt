use Rattle.std.proofs.Common.{◌≡◌, ◌∙◌, ℕ, List, length, ap, subst, sym}
use Rattle.std.proofs.KnownBytes.{Keeps-refl}
use Rattle.std.proofs.lemmas.List.{with_items_is}
use Rattle.pcapfile_sort.specs.Again.{GivesAt}
use Rattle.pcapfile_sort.specs.Ranked.{Ranked, ranked_at}
use Rattle.pcapfile_sort.proofs.CopiedRecords.{no_copy}
use Rattle.pcapfile_sort.proofs.PacketRecords.{ranked_same}
use Rattle.pcapfile_sort.proofs.copying.copy_record.Goals as goal

pub returns-then-not-is_record-clause-copies : goal.returns-then-not-is_record-clause-copies
returns-then-not-is_record-clause-copies g c =
    let Is : Ranked → Type 0 = g.C.Records.format.Is (g.C.Records.opening c.args.records.now) in
    let again = g.S.ReadAgain.bytes c.args.again.now in
    let part = c.as_slice.result.now in
    let long = c.read_at.auto.buf ∙ c.as_mut_slice.ensures.len in
    let same : part ≡ c.read_at.new.buf = c.as_slice.ensures.value ∙ with_items_is c.resize.new.self c.read_at.new.buf long in
    let gives : GivesAt again c.args.entry.place part = subst (λ (l : List ℕ). GivesAt again c.args.entry.place l) (sym same) c.in-Ok-read_at.ensures.gives in (
      no_copy Is again c.args.entry part gives (ap length same ∙ long ∙ c.in-Ok.ensures.len)
          (λ ranked ranks texts is. c.is_record.ensures.no c.if-not-is_record.true (subst Is (ranked_same ranked (ranked_at c.args.entry.rank part) ranks texts) is)),
      Keeps-refl _,
    )
