use Rattle.std.proofs.Common.{◌≡◌, ◌-◌, ◌+◌, length, take, refl, arith, ◌∙◌}
use Rattle.std.proofs.lemmas.Grind.{take-set_at}
use Rattle.std.proofs.lemmas.List.{length-set}
use Rattle.pcap_core.specs.declared.rules.Rule.TheVariants.{CaptureMagic}
use Rattle.pcap_core.specs.Answer.{whole}
use Rattle.pcapfile_values.specs.Shown.{captured}
use Rattle.pcapfile_c.specs.Calls.{PacketsSaid}
use Rattle.pcapfile_c.specs.Rows.{ShowsRow}
use Rattle.pcapfile_c.proofs.Many.{others_kept}
use Rattle.pcapfile_c.proofs.Refused.{tells_named, took}
use Rattle.pcapfile_c.proofs.RowTexts.{row_length, row_more}
use Rattle.pcapfile_c.proofs.rows.pcapfile_take_rows.Goals as goal

pub returns-in_default-clause-refused : goal.returns-in_default-clause-refused
returns-in_default-clause-refused c invalid =
    let told = tells_named CaptureMagic c.from.result c.tell.new.told c.tell.result c.from.ensures c.tell.ensures in
    (refl, (told.0, told.1, refl, refl))

pub loop-taken-preserved : goal.loop-taken-preserved
loop-taken-preserved c =
    let header = c.args.header.now in
    let inv = c.loop-taken.invariant in
    let here = c.next_packet-status in
    let s = c.args.left.now.bytes.now in
    let left = c.loop-taken.left.bytes.now in
    let rest = here.new.left.bytes.now in
    let k = c.loop-taken.taken in
    let t = took (PacketsSaid header.magic_number) (λ found shown. captured shown ≡ found) c.loop-taken.left here.new.left _ here.new.packet c.loop-taken.error here.new.error here.result here.ensures c.if-status-ne0.false in
    let packet = captured here.new.packet in
    let text : PacketsSaid header.magic_number left (whole packet rest) = rw t.2 t.3 in
    let shows : ShowsRow header.link (length s - length left + 16) packet c.new.result = c.new.ensures in
    let more = row_more header (length s) (take k c.loop-taken.rows) c.new.result (length s - length left + 16) packet s left rest inv.texts text shows inv.shorter refl in
    record {
      within = rw length-set (omega arith);
      all = refl;
      shorter = omega (arith, row_length header.magic_number packet left rest text, inv.shorter);
      texts = rw (take-set_at c.loop-taken.rows k (k + 1) c.new.result refl c.loop-taken-test.true) more;
      others = others_kept c.loop-taken.rows c.args.rows.now k c.new.result inv.others;
      error = t.0 ∙ inv.error;
    }
