use Rattle.std.proofs.Common.{ℕ, List, append_assoc, length, subst}
use Rattle.pcapfile_values.specs.BlockTexts.{PutsAt}
use Rattle.pcap_written.specs.Text.{padded_bytes}
use Rattle.pcapfile_values.proofs.Parts.{pair_long}
use Rattle.pcapfile_values.proofs.Puts.{puts_both}
use Rattle.pcapfile_c.proofs.parts.put_option.Goals as goal

pub returns-clause-put : goal.returns-clause-put
returns-clause-put g c =
    let write = g.B.ByteOrder.bytes_of in
    let wide = g.met.B.ByteOrder.length_bytes in
    let o = c.args.option.now in
    let n = length o.value.now in
    let put = puts_both 4 (pair_long write wide o.code n) c.put_pair-value_at.ensures.behind c.put_pair-value_at.ensures.put c.put_padded.ensures.put in
    subst (λ (text : List ℕ). PutsAt c.args.at text c.args.room.now c.put_padded.new.room) (append_assoc (write 2 o.code) (write 2 n) (padded_bytes o.value.now)) put
