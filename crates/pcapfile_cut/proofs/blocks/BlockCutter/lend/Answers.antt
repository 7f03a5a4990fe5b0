use Rattle.std.proofs.Common.{◌≡◌, List, ℕ, [], rules, refl, subst}
use Rattle.pcap_file.specs.Placing.{source_of}
use Rattle.pcap_ng.specs.Reader.{lent_item, text_of}
use Rattle.pcap_file.proofs.Placing.{gives_next}
use Rattle.pcapfile_cut.specs.BlockCuts.{Lent, place_of}
use Rattle.pcapfile_cut.specs.Repeating.{opening_after, opening_of}
use Rattle.pcapfile_cut.proofs.BlockCuts.{lends_read}
use Rattle.pcapfile_cut.proofs.blocks.BlockCutter.lend.Goals as goal

pub returns-clause-next : goal.returns-clause-next
returns-clause-next g c =
    let reader = c.next_header.new.self in
    let header = c.in-Some-Ok.header in
    let block : Lent = record { item = lent_item reader header; text = text_of reader } in
    let gives = rw c.in-Some-Ok.field-0-is at c.in-Some-Ok.ensures.next in
    let lent = rw c.in-Some-Ok.field-0-is at c.in-Some-Ok.ensures.text in
    let nothing : (place_of g.R.Read.remaining c.args.self.now).pending ≡ [] = search rules in
    let kept : opening_of c.pass.new.self ≡ opening_after (opening_of c.args.self.now.repeated) (record { type_ = header.type_; text = text_of reader }) =
    subst (λ (t : List ℕ). opening_of c.pass.new.self ≡ opening_after (opening_of c.args.self.now.repeated) (record { type_ = header.type_; text = t })) c.text.ensures c.in_ok-pass.ensures in
    lends_read _ _ block
    (gives_next (lent_item reader) (source_of g.R.Read.remaining c.args.self.now.reader) (source_of g.R.Read.remaining reader) header refl gives)
    lent.0 lent.1 kept nothing refl
