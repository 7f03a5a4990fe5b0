use Rattle.std.proofs.Common.{◌≡◌, ◌∙◌, length, arith, inl, inr}
use Rattle.std.proofs.lemmas.Result.{err_from_is_err_and}
use Rattle.std.proofs.KnownBytes.{Keeps-refl}
use Rattle.pcap_core.specs.Answer.{faulty}
use Rattle.pcap_core.specs.Faults.{Shows}
use Rattle.pcap_items.proofs.Copying.{torn_write}
use Rattle.pcap_items.proofs.Pulling.{array_told, array_refused}
use Rattle.pcap_core.proofs.Refusals.{refuses_shows}
use Rattle.pcap_classic.specs.HeaderText.{HeaderSays, LacksHeader}
use Rattle.pcap_classic.specs.Parser.{header_of}
use Rattle.pcap_classic.proofs.Stable.{header_stable}
use Rattle.pcap_tolerant.proofs.Copied.{held_header}
use Rattle.pcap_tolerant.proofs.copy.copy_header.Goals as goal

pub returns-in_err-fill_array : goal.returns-in_err-fill_array
returns-in_err-fill_array g c =
    let p = err_from_is_err_and c.from_residual.result c.from_residual.ensures.1 in
    let long : length c.fill_array.new.array ≡ 24 = omega (arith, c.fill_array.auto.array) in
    rw (p.1, p.2) (
      c.requires.none,
      inl (record {
        valid = tt;
        refused = array_told HeaderSays header_stable (λ header. header) 24 (λ s n sum some. record { some = some; missing = sum }) c.in_err-fill_array.field-0.0 _ (g.R.Read.remaining c.fill_array.new.stream) _ _ c.requires.no_read_failed (rw long at c.in_err-fill_array.ensures);
        none = c.requires.none;
        no_write_failed = c.requires.no_write_failed;
        out = Keeps-refl _;
      }),
    )

pub returns-in_err-parser : goal.returns-in_err-parser
returns-in_err-parser g c =
    let bytes = c.fill_array.new.array in
    let long : length bytes ≡ 24 = omega (arith, c.fill_array.auto.array) in
    let p = err_from_is_err_and c.from_residual-in_err-parser.result c.from_residual-in_err-parser.ensures.1 in
    let shows : Shows (λ fault. HeaderSays bytes (faulty fault)) c.in_err-parser.field-0.0 = refuses_shows (LacksHeader bytes) (λ fault. HeaderSays bytes (faulty fault)) c.in_err-parser.field-0.0 (λ n lack. omega (arith, long, lack.some, lack.missing)) c.in_err-parser.ensures.tells in
    rw (p.1, p.2) (
      c.requires.none,
      inl (record {
        valid = tt;
        refused = array_refused HeaderSays header_stable (λ header. header) c.in_err-parser.field-0.0 bytes (omega (arith, long)) (λ s n sum some. record { some = some; missing = sum ∙ long }) shows _ (g.R.Read.remaining c.fill_array.new.stream) _ (c.in_ok-fill_array.ensures.0 ∙ c.requires.no_read_failed) c.in_ok-fill_array.ensures.1;
        none = c.requires.none;
        no_write_failed = c.requires.no_write_failed;
        out = Keeps-refl _;
      }),
    )

pub returns-in_err-put : goal.returns-in_err-put
returns-in_err-put g c =
    let p = err_from_is_err_and c.from_residual-in_err-put.result c.from_residual-in_err-put.ensures.1 in
    let text = held_header c.in_ok-parser.parser c.fill_array.new.array c.in_ok-parser.field-0-0.now (omega (arith, c.fill_array.auto.array)) c.in_ok-parser.ensures.tells in
    let part = torn_write c.fill_array.new.array _ _ c.in_err-put.field-0.0 c.in_err-put.ensures.out in
    rw (p.1, p.2) (
      c.requires.none,
      inr (record {
        item = header_of c.in_ok-parser.parser;
        text = c.fill_array.new.array;
        is_text = text;
        took = c.in_ok-fill_array.ensures.1;
        refused = part.0;
        no_read_failed = c.in_ok-fill_array.ensures.0 ∙ c.requires.no_read_failed;
        write_failed = c.in_err-put.ensures.told;
        out = part.1;
      }),
    )

pub returns : goal.returns
returns g c =
    let text = held_header c.in_ok-parser.parser c.fill_array.new.array c.in_ok-parser.field-0-0.now (omega (arith, c.fill_array.auto.array)) c.in_ok-parser.ensures.tells in (
      record {
        none = c.requires.none;
        no_read_failed = c.in_ok-fill_array.ensures.0 ∙ c.requires.no_read_failed;
        no_write_failed = c.in_ok-put.ensures.told ∙ c.requires.no_write_failed;
      },
      record { bytes = c.fill_array.new.array; text = text; took = c.in_ok-fill_array.ensures.1; went = c.in_ok-put.ensures.out },
    )
