use Rattle.std.proofs.Common.{List, ℕ, Err, true, subst, sym}
use Rattle.std.specs.Io.KnownBytes.{Appends}
use Rattle.pcap_items.specs.Writing.{WritesAll}
use Rattle.pcapfile_sort.specs.declared.entry.Entry.{Entry}
use Rattle.pcapfile_sort.specs.Entries.{AreInOrder}
use Rattle.pcapfile_sort.proofs.WrittenEntries.{ends_stopped, tears_lead, writes_whole}
use Rattle.pcapfile_sort.proofs.sorting.write_in_order.Goals as goal

pub returns-in-Err-put : goal.returns-in-Err-put
returns-in-Err-put g c =
    let f = g.C.Records.format in
    let o = g.C.Records.opening c.args.records.now in
    let entries = c.args.entries.now.items in
    let sorted = c.put_in_order.new.entries.items in
    let order : AreInOrder entries sorted = record { same = c.in-Ok.ensures.same; ordered = c.in-Ok.ensures.ordered; stable = c.in-Ok.ensures.stable } in
    let out = g.W.Write.contents c.args.output.now in
    let now = g.W.Write.contents c.put.new.writer in
    tears_lead (f.Is o) (g.S.ReadAgain.bytes c.args.again.now) (f.lead o) entries sorted order true out now c.in-Err-put.error (subst (λ (l : List ℕ). WritesAll out now l (Err c.in-Err-put.error)) c.lead.ensures c.in-Err-put.ensures.out)

pub returns-in-Ok-copy_all : goal.returns-in-Ok-copy_all
returns-in-Ok-copy_all g c =
    let f = g.C.Records.format in
    let o = g.C.Records.opening c.args.records.now in
    let entries = c.args.entries.now.items in
    let sorted = c.as_slice.result.now in
    let order : AreInOrder entries c.put_in_order.new.entries.items = record { same = c.in-Ok.ensures.same; ordered = c.in-Ok.ensures.ordered; stable = c.in-Ok.ensures.stable } in
    let here : AreInOrder entries sorted = subst (λ (l : List Entry). AreInOrder entries l) (sym c.as_slice.ensures.value) order in
    let out = g.W.Write.contents c.args.output.now in
    let mid = g.W.Write.contents c.put.new.writer in
    let opened = subst (λ (l : List ℕ). Appends out mid l) c.lead.ensures c.in-Ok-put.ensures.out in
    let copied = c.in-Ok-copy_all.ensures in
    writes_whole (f.Is o) (g.S.ReadAgain.bytes c.args.again.now) (f.lead o) entries sorted here true out mid (g.W.Write.contents c.copy_all.new.output) copied.0 copied.1 opened copied.2

pub returns-in-Err-copy_all : goal.returns-in-Err-copy_all
returns-in-Err-copy_all g c =
    let f = g.C.Records.format in
    let o = g.C.Records.opening c.args.records.now in
    let entries = c.args.entries.now.items in
    let sorted = c.as_slice.result.now in
    let order : AreInOrder entries c.put_in_order.new.entries.items = record { same = c.in-Ok.ensures.same; ordered = c.in-Ok.ensures.ordered; stable = c.in-Ok.ensures.stable } in
    let here : AreInOrder entries sorted = subst (λ (l : List Entry). AreInOrder entries l) (sym c.as_slice.ensures.value) order in
    let out = g.W.Write.contents c.args.output.now in
    let mid = g.W.Write.contents c.put.new.writer in
    let opened = subst (λ (l : List ℕ). Appends out mid l) c.lead.ensures c.in-Ok-put.ensures.out in
    ends_stopped (f.Is o) (g.S.ReadAgain.bytes c.args.again.now) (f.lead o) entries sorted here (g.S.ReadAgain.has_failed c.copy_all.new.again) out mid (g.W.Write.contents c.copy_all.new.output) c.in-Err-copy_all.stop opened c.in-Err-copy_all.ensures
