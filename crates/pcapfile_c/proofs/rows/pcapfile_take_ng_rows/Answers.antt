use Rattle.std.proofs.Common.{rules, ◌≡◌, ◌<◌, ◌-◌, length, ◌∷◌, [], ◌++◌, Some, None, w32, to_z, of_z, refl, sym, inr, arith, ◌∙◌}
use Rattle.std.proofs.lemmas.List.{length-set}
use Rattle.std.proofs.lemmas.Option.{same_Some}
use Rattle.pcap_core.specs.declared.rules.Rule.TheVariants.{SectionMagic}
use Rattle.pcapfile_c.specs.Batches.{PacketText, OtherText, PacketMayGrow, PassageSays}
use Rattle.pcapfile_c.specs.Rows.{ShowsNgRow, TakesNgRows}
use Rattle.pcapfile_c.specs.Readers.{reader}
use Rattle.pcapfile_c.proofs.Many.{others_kept}
use Rattle.pcapfile_c.proofs.Passages.{passage_shorter, somes_other, filled, packet_last}
use Rattle.pcapfile_c.proofs.Refused.{tells_named, tells_refusal_where}
use Rattle.pcapfile_c.proofs.RowTexts.{ng_passage_more, ng_row_more}
use Rattle.pcapfile_c.proofs.rows.pcapfile_take_ng_rows.Goals as goal

pub returns-in_default-clause-refused : goal.returns-in_default-clause-refused
returns-in_default-clause-refused c none =
    let told = tells_named SectionMagic c.from.result c.tell.new.told c.tell.result c.from.ensures c.tell.ensures in
    (refl, refl, (told.0, told.1, refl))

pub loop-taken-init : goal.loop-taken-init
loop-taken-init c =
    record { within = omega arith; total = refl; shorter = omega arith; passed = ([], refl, refl, λ full. tt); others = refl; error = refl }

pub loop-taken-smaller-in-Some-plain_packet : goal.loop-taken-smaller-in-Some-plain_packet
loop-taken-smaller-in-Some-plain_packet c =
    let found = c.in-Some-plain_packet in
    passage_shorter c.in-Some.order (Some found.packet) c.loop-taken.left.bytes.now found.rest.now found.ensures

pub loop-taken-preserved-in-Some-plain_packet : goal.loop-taken-preserved-in-Some-plain_packet
loop-taken-preserved-in-Some-plain_packet c =
    let found = c.in-Some-plain_packet in
    let all = c.args.left.now.bytes.now in
    let s = c.loop-taken.left.bytes.now in
    let o = c.in-Some.order in
    let inv = c.loop-taken.invariant in
    let shows : ShowsNgRow (length all - length s) found.packet c.new.result = c.new.ensures in
    let so_far = inv.passed in
    let less : length found.rest.now < length s = passage_shorter o (Some found.packet) s found.rest.now found.ensures in
    record {
      within = rw length-set (omega arith);
      total = refl;
      shorter = omega (arith, less, inv.shorter);
      passed = (
        so_far.0 ++ Some c.new.result ∷ [],
        ng_row_more o (length all) so_far.0 c.new.result (length all - length s) found.packet all s found.rest.now so_far.1 found.ensures shows inv.shorter refl,
        filled c.loop-taken.rows c.loop-taken.taken c.new.result so_far.0 c.loop-taken-test.true so_far.2,
        λ full. packet_last so_far.0 c.new.result,
      );
      others = others_kept c.loop-taken.rows c.args.rows.now c.loop-taken.taken c.new.result inv.others;
      error = inv.error;
    }

pub loop-taken-smaller-in-Ok-default-Packet : goal.loop-taken-smaller-in-Ok-default-Packet
loop-taken-smaller-in-Ok-default-Packet c =
    let found = c.in-Ok-default-Packet in
    let text : PacketText c.in-Some.order found.packet c.loop-taken.left.bytes.now found.rest.now = rw found.field-0-1-is at found.ensures in
    passage_shorter c.in-Some.order (Some found.packet) c.loop-taken.left.bytes.now found.rest.now text

pub loop-taken-preserved-in-Ok-default-Packet : goal.loop-taken-preserved-in-Ok-default-Packet
loop-taken-preserved-in-Ok-default-Packet c =
    let found = c.in-Ok-default-Packet in
    let all = c.args.left.now.bytes.now in
    let s = c.loop-taken.left.bytes.now in
    let o = c.in-Some.order in
    let inv = c.loop-taken.invariant in
    let text : PacketText o found.packet s found.rest.now = rw found.field-0-1-is at found.ensures in
    let shows : ShowsNgRow (length all - length s) found.packet c.new-in-Ok-default-Packet.result = c.new-in-Ok-default-Packet.ensures in
    let so_far = inv.passed in
    let less : length found.rest.now < length s = passage_shorter o (Some found.packet) s found.rest.now text in
    record {
      within = rw length-set (omega arith);
      total = refl;
      shorter = omega (arith, less, inv.shorter);
      passed = (
        so_far.0 ++ Some c.new-in-Ok-default-Packet.result ∷ [],
        ng_row_more o (length all) so_far.0 c.new-in-Ok-default-Packet.result (length all - length s) found.packet all s found.rest.now so_far.1 text shows inv.shorter refl,
        filled c.loop-taken.rows c.loop-taken.taken c.new-in-Ok-default-Packet.result so_far.0 c.loop-taken-test.true so_far.2,
        λ full. packet_last so_far.0 c.new-in-Ok-default-Packet.result,
      );
      others = others_kept c.loop-taken.rows c.args.rows.now c.loop-taken.taken c.new-in-Ok-default-Packet.result inv.others;
      error = inv.error;
    }

pub loop-taken-smaller : goal.loop-taken-smaller
loop-taken-smaller c =
    let found = c.in-Ok-default-Other in
    let text : OtherText c.in-Some.order c.loop-taken.left.bytes.now found.rest.now = rw found.field-0-1-is at found.ensures in
    passage_shorter c.in-Some.order None c.loop-taken.left.bytes.now found.rest.now text

pub loop-taken-preserved : goal.loop-taken-preserved
loop-taken-preserved c =
    let found = c.in-Ok-default-Other in
    let all = c.args.left.now.bytes.now in
    let s = c.loop-taken.left.bytes.now in
    let o = c.in-Some.order in
    let inv = c.loop-taken.invariant in
    let text : OtherText o s found.rest.now = rw found.field-0-1-is at found.ensures in
    let so_far = inv.passed in
    let less : length found.rest.now < length s = passage_shorter o None s found.rest.now text in
    record {
      within = inv.within;
      total = refl;
      shorter = omega (arith, less, inv.shorter);
      passed = (
        so_far.0 ++ None ∷ [],
        ng_passage_more o (length all) so_far.0 None all s found.rest.now so_far.1 text,
        so_far.2 ∙ sym (somes_other so_far.0),
        λ full. absurd (omega (arith, full, c.loop-taken-test.true)),
      );
      others = inv.others;
      error = inv.error;
    }

pub returns-in-Err-clause-taken : goal.returns-in-Err-clause-taken
returns-in-Err-clause-taken c e names =
    let o = c.in-Some.order in
    let s = c.loop-taken.left.bytes.now in
    let inv = c.loop-taken.invariant in
    let same : o ≡ e = same_Some o e (sym c.in-Some.is ∙ c.endianness.ensures ∙ names) in
    let so_far = inv.passed in
    let some : 0 < length s = search rules in
    let refused = tells_refusal_where (PacketMayGrow o s) (PassageSays o s) c.in-Err.e c.tell-in-Err.new.told c.tell-in-Err.result c.in-Err.ensures c.tell-in-Err.ensures in
    let all : TakesNgRows o (reader c.args.left.now c.args.rows.now c.args.error.now) (reader c.loop-taken.left c.loop-taken.rows c.tell-in-Err.new.told) c.loop-taken.taken (to_z w32 (of_z w32 c.tell-in-Err.result)) =
    record {
      found = so_far.0;
      within = inv.within;
      texts = so_far.1;
      rows = so_far.2;
      stops = so_far.3;
      others = inv.others;
      ends = inr (inr (c.loop-taken-test.true, some, refused));
    } in
    rw (← same) all
