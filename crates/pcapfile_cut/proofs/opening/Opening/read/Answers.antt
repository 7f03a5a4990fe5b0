use Rattle.std.proofs.Common.{◌≡◌, ◌∙◌, List, ℕ, [], length, arith, subst}
use Rattle.std.proofs.lemmas.Result.{err_from_is_err_and}
use Rattle.std.proofs.lemmas.List.{nil_from_length}
use Rattle.pcap_core.specs.Answer.{faulty}
use Rattle.pcap_core.specs.Faults.{Shows}
use Rattle.pcap_items.proofs.Pulling.{array_told, array_refused}
use Rattle.pcap_core.proofs.Refusals.{refuses_shows}
use Rattle.pcap_classic.specs.declared.pcap.header.PcapHeader.{PcapHeader}
use Rattle.pcap_classic.specs.HeaderText.{HeaderSays, HeaderText, LacksHeader}
use Rattle.pcap_classic.proofs.Stable.{header_stable}
use Rattle.pcap_classic.proofs.Texts.{header_length}
use Rattle.pcapfile_cut.specs.Openings.{header_of}
use Rattle.pcapfile_cut.proofs.opening.Opening.read.Goals as goal

alone : (header : PcapHeader) (bytes rest : List ℕ) → length bytes ≡ 24 → HeaderText header bytes rest → HeaderText header bytes []
alone header bytes rest long text =
    let none : rest ≡ [] = nil_from_length rest (omega (arith, long, header_length header bytes rest text)) in
    subst (λ (l : List ℕ). HeaderText header bytes l) none text

pub returns-clause-told : goal.returns-clause-told
returns-clause-told g c =
    let bytes = c.fill_array.new.array in
    (c.in_ok-fill_array.ensures.0 ∙ c.requires, (bytes, alone c.in_ok-header.header bytes c.in_ok-header.field-0-0.now (omega (arith, c.fill_array.auto.array)) c.in_ok-header.ensures.tells, c.in_ok-fill_array.ensures.1))

pub returns-clause-bytes : goal.returns-clause-bytes
returns-clause-bytes g c =
    (alone c.in_ok-header.header c.fill_array.new.array c.in_ok-header.field-0-0.now (omega (arith, c.fill_array.auto.array)) c.in_ok-header.ensures.tells, c.in_ok-fill_array.ensures.1)

pub returns-in_err-fill_array-clause-told : goal.returns-in_err-fill_array-clause-told
returns-in_err-fill_array-clause-told g c =
    let p = err_from_is_err_and c.from_residual.result c.from_residual.ensures.1 in
    let long : length c.fill_array.new.array ≡ 24 = omega (arith, c.fill_array.auto.array) in
    rw (p.1, p.2) (array_told HeaderSays header_stable header_of 24 (λ s n sum some. record { some = some; missing = sum }) c.in_err-fill_array.field-0.0 _ (g.R.Read.remaining c.fill_array.new.stream) _ _ c.requires (rw long at c.in_err-fill_array.ensures))

pub returns-in_err-header-clause-told : goal.returns-in_err-header-clause-told
returns-in_err-header-clause-told g c =
    let bytes = c.fill_array.new.array in
    let long : length bytes ≡ 24 = omega (arith, c.fill_array.auto.array) in
    let p = err_from_is_err_and c.from_residual-in_err-header.result c.from_residual-in_err-header.ensures.1 in
    let shows : Shows (λ fault. HeaderSays bytes (faulty fault)) c.in_err-header.field-0.0 = refuses_shows (LacksHeader bytes) (λ fault. HeaderSays bytes (faulty fault)) c.in_err-header.field-0.0 (λ n lack. omega (arith, long, lack.some, lack.missing)) c.in_err-header.ensures.tells in
    rw (p.1, p.2) (array_refused HeaderSays header_stable header_of c.in_err-header.field-0.0 bytes (omega (arith, long)) (λ s n sum some. record { some = some; missing = sum ∙ long }) shows _ (g.R.Read.remaining c.fill_array.new.stream) _ (c.in_ok-fill_array.ensures.0 ∙ c.requires) c.in_ok-fill_array.ensures.1)
