use Rattle.std.proofs.Common.{ℕ, List, refl, subst, sym}
use Rattle.pcap_options.specs.InterfaceOption.{interface_description}
use Rattle.pcap_written.specs.Text.{list_text}
use Rattle.pcapfile_values.specs.BlockTexts.{PutsAt, clock_options}
use Rattle.pcapfile_values.proofs.Puts.{puts_both}
use Rattle.pcapfile_values.proofs.Parts.{pair_long, unmoved_clock, moved_clock}
use Rattle.pcapfile_values.proofs.texts.put_clock.Goals as goal

pub returns-then-offset-eq0-clause-put : goal.returns-then-offset-eq0-clause-put
returns-then-offset-eq0-clause-put g c =
    let write = g.B.ByteOrder.bytes_of in
    let wide = g.met.B.ByteOrder.length_bytes in
    let put = puts_both 4 (pair_long write wide 9 1) c.put_pair-resolution_at.ensures.behind c.put_pair-resolution_at.ensures.put
    (puts_both 4 refl c.put_bytes-offset_at.ensures.behind c.put_bytes-offset_at.ensures.put c.put_pair.ensures.put) in
    let text = subst (λ (text : List ℕ). PutsAt c.args.at text c.args.room.now c.put_pair.new.room) (unmoved_clock write wide c.args.resolution) put in
    subst (λ (offset : ℕ). PutsAt c.args.at (list_text write interface_description (clock_options c.args.resolution offset)) c.args.room.now c.put_pair.new.room) (sym c.if-offset-eq0.true) text

pub returns-clause-put : goal.returns-clause-put
returns-clause-put g c =
    let write = g.B.ByteOrder.bytes_of in
    let wide = g.met.B.ByteOrder.length_bytes in
    let put = puts_both 4 (pair_long write wide 9 1) c.put_pair-resolution_at.ensures.behind c.put_pair-resolution_at.ensures.put
    (puts_both 4 refl c.put_bytes-offset_at.ensures.behind c.put_bytes-offset_at.ensures.put
    (puts_both 4 (pair_long write wide 14 8) c.put_pair-number_at.ensures.behind c.put_pair-number_at.ensures.put
    (puts_both 8 (wide 8 c.args.offset) c.put_u64-mark_at.ensures.behind c.put_u64-mark_at.ensures.put c.put_pair-2.ensures.put))) in
    subst (λ (text : List ℕ). PutsAt c.args.at text c.args.room.now c.put_pair-2.new.room) (moved_clock write wide c.args.resolution c.args.offset c.if-offset-eq0.false) put
