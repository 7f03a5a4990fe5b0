use Rattle.std.proofs.Common.{◌∙◌, ◌≡◌, ◌+◌, ap, drop, refl, inl, inr, [], List, ℕ, Bool, true, Err, rules, subst}
use Rattle.std.proofs.lemmas.Result.{err_from_is_err_and}
use Rattle.std.proofs.KnownBytes.{Keeps-refl}
use Rattle.pcap_items.specs.Held.{held_bytes}
use Rattle.pcap_items.specs.Format.{Format}
use Rattle.pcap_items.specs.Reading.{HasCause, TakesAsked}
use Rattle.pcap_classic.specs.PacketText.{Captured, packet_limit}
use Rattle.pcap_classic.specs.StatedPackets.{held_packet}
use Rattle.pcap_classic.proofs.Captures.{under_valid}
use Rattle.pcap_items.proofs.Copying.{torn_write}
use Rattle.pcap_classic.proofs.Packets.{reader_lawful, reader_whole}
use Rattle.pcap_classic.proofs.StatedPackets.{shown_stands}
use Rattle.std.specs.Prelude.{◌&&◌, if◌then◌else◌}
use Rattle.std.specs.Io.KnownBytes.{Appends}
use Rattle.pcap_items.specs.Writing.{WritesAll}
use Rattle.pcapfile_cut.specs.Changes.{is_unmoved, written_for}
use Rattle.pcapfile_cut.specs.Choice.{Stored, is_new, remembers, repeats}
use Rattle.pcapfile_cut.specs.Cuts.{counted}
use Rattle.pcapfile_cut.specs.Duplicates.{remembered}
use Rattle.pcapfile_cut.specs.Selections.{captured}
use Rattle.pcapfile_cut.proofs.cutting.cut_next.Goals as goal

pub fill_item-requires-clause-lawful : goal.fill_item-requires-clause-lawful
fill_item-requires-clause-lawful g c = reader_lawful packet_limit c.args.cut.header.now

pub returns-in_err-head-clause-steps : goal.returns-in_err-head-clause-steps
returns-in_err-head-clause-steps g c =
    let p = err_from_is_err_and c.from_residual.result c.from_residual.ensures.1 in
    let header = c.args.cut.header.now in
    rw (p.1, p.2) (
      (refl, refl, refl, refl),
      inr (record {
        refused = under_valid packet_limit header c.requires.valid (λ (f : Format (Unit {0}) Captured). HasCause (f.says tt) (g.R.Read.remaining c.args.input.now) c.fill_item.new.has_failed c.in_err-head.field-0.0) c.in_err-head.ensures.fills.0;
        part = under_valid packet_limit header c.requires.valid (λ (f : Format (Unit {0}) Captured). TakesAsked (f.says tt) (g.R.Read.remaining c.args.input.now) (g.R.Read.remaining c.fill_item.new.stream)) c.in_err-head.ensures.fills.1;
        no_write_failed = c.requires.no_write_failed;
        went = Keeps-refl _;
      }),
    )

pub returns-in_err-put_if-clause-steps : goal.returns-in_err-put_if-clause-steps
returns-in_err-put_if-clause-steps g c =
    let filled = rw c.in-Some.is at c.in_ok-head.ensures.fills in
    let held = held_bytes c.fill_item.new.held in
    let stored_at : List ℕ → Stored = λ s. record { packet = held_packet s c.in-Some.head; text = s } in
    let stored = stored_at held in
    let header = c.args.cut.header.now in
    let wanted = c.args.cut.wanted in
    let digests = remembered c.args.recent.now in
    let number = c.args.outcome.now.packets + 1 in
    let same : c.data_of.result.now ≡ drop 16 held = c.data_of.ensures ∙ ap (drop 16) c.as_slice-text.ensures in
    let written : c.choose-choice.result.is_written ≡ is_new wanted digests number stored.packet =
    c.choose-choice.ensures.written ∙ ap (λ (bytes : List ℕ). is_new wanted digests number (captured c.in-Some.head bytes)) same in
    let p = err_from_is_err_and c.from_residual-in_err-put_if.result c.from_residual-in_err-put_if.ensures.1 in
    let out = g.W.Write.contents c.args.output.now in
    let out_now = g.W.Write.contents c.put_if.new.output in
    let e = c.in_err-put_if.field-0.0 in
    let is : c.choose-choice.result.is_written ≡ true = c.in_err-put_if.ensures.wanted in
    let went : WritesAll out out_now (if c.choose-choice.result.is_written then written_for header wanted (stored_at c.as_slice-text.result.now) else []) (Err e) = c.in_err-put_if.ensures.out in
    let all_went : WritesAll out out_now (written_for header wanted (stored_at c.as_slice-text.result.now)) (Err e) =
    subst (λ (b : Bool). WritesAll out out_now (if b then written_for header wanted (stored_at c.as_slice-text.result.now) else []) (Err e)) is went in
    let part = torn_write (written_for header wanted stored) out out_now e (subst (λ (s : List ℕ). WritesAll out out_now (written_for header wanted (stored_at s)) (Err e)) c.as_slice-text.ensures all_went) in
    rw (p.1, p.2) (
      (refl, refl, refl, refl),
      inl (record {
        stored = stored;
        is_stored = (reader_whole packet_limit header held [] stored.packet (shown_stands header c.in-Some.head held filled.1)).1;
        took = filled.4;
        is_wanted = subst (λ (b : Bool). b ≡ true) written is;
        refused = part.0;
        no_read_failed = filled.0;
        write_failed = c.in_err-put_if.ensures.told;
        went = part.1;
      }),
    )

pub returns-clause-steps : goal.returns-clause-steps
returns-clause-steps g c =
    let filled = rw c.in-Some.is at c.in_ok-head.ensures.fills in
    let held = held_bytes c.fill_item.new.held in
    let stored_at : List ℕ → Stored = λ s. record { packet = held_packet s c.in-Some.head; text = s } in
    let stored = stored_at held in
    let header = c.args.cut.header.now in
    let wanted = c.args.cut.wanted in
    let digests = remembered c.args.recent.now in
    let number = c.args.outcome.now.packets + 1 in
    let choice = c.choose-choice.result in
    let same : c.data_of.result.now ≡ drop 16 held = c.data_of.ensures ∙ ap (drop 16) c.as_slice-text.ensures in
    let written : choice.is_written ≡ is_new wanted digests number stored.packet =
    c.choose-choice.ensures.written ∙ ap (λ (bytes : List ℕ). is_new wanted digests number (captured c.in-Some.head bytes)) same in
    let duplicate : choice.is_duplicate ≡ repeats wanted digests number stored.packet =
    c.choose-choice.ensures.duplicate ∙ ap (λ (bytes : List ℕ). repeats wanted digests number (captured c.in-Some.head bytes)) same in
    let out = g.W.Write.contents c.args.output.now in
    let out_now = g.W.Write.contents c.put_if.new.output in
    let went : Appends out out_now (if choice.is_written then written_for header wanted (stored_at c.as_slice-text.result.now) else []) = c.in_ok-put_if.ensures.out in
    let went_held : Appends out out_now (if choice.is_written then written_for header wanted stored else []) =
    subst (λ (s : List ℕ). Appends out out_now (if choice.is_written then written_for header wanted (stored_at s) else [])) c.as_slice-text.ensures went in
    let still : c.is_unmoved-keeps_time.result ≡ (is_new wanted digests number stored.packet && is_unmoved header wanted stored.packet) =
    c.is_unmoved-keeps_time.ensures ∙ ap (λ (b : Bool). b && is_unmoved header wanted stored.packet) written in
    let counts_unmoved : c.saturating_add-outcome-3.result ≡ counted (c.args.outcome.now.unmoved + (if c.is_unmoved-keeps_time.result then 1 else 0)) = search rules in
    let counts : c.saturating_add-outcome-2.result ≡ counted (c.args.outcome.now.duplicates + (if choice.is_duplicate then 1 else 0)) = search rules in
    record {
      stored = stored;
      is_stored = (reader_whole packet_limit header held [] stored.packet (shown_stands header c.in-Some.head held filled.1)).1;
      took = filled.4;
      went = subst (λ (b : Bool). Appends out out_now (if b then written_for header wanted stored else [])) written went_held;
      packets = refl;
      bytes = search rules;
      duplicates = counts ∙ ap (λ (b : Bool). counted (c.args.outcome.now.duplicates + (if b then 1 else 0))) duplicate;
      unmoved = counts_unmoved ∙ ap (λ (b : Bool). counted (c.args.outcome.now.unmoved + (if b then 1 else 0))) still;
      recent = c.choose-choice.ensures.recent ∙ ap (λ (bytes : List ℕ). remembers wanted digests number (captured c.in-Some.head bytes)) same;
      no_read_failed = filled.0;
      no_write_failed = c.in_ok-put_if.ensures.told ∙ c.requires.no_write_failed;
    }
