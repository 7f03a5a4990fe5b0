use Rattle.std.proofs.Common.{◌≡◌, ◌<◌, ◌∙◌, ℕ, List, [], false, length, arith, refl, subst, append-nil, sym, inl}
use Rattle.std.proofs.lemmas.List.{nil_from_length}
use Rattle.std.proofs.lemmas.Result.{err_from_is_err_and}
use Rattle.pcap_core.specs.declared.rules.Rule.TheVariants.{CaptureMagic}
use Rattle.pcap_core.specs.Answer.{number_in, faulty, Refuses}
use Rattle.pcap_classic.specs.Magic.{is_magic, order_of, resolution_of}
use Rattle.pcap_classic.specs.PacketText.{packet_limit, PacketHeaderText, LacksHead, HasHeadFault}
use Rattle.pcap_classic.specs.Packets.{reader_format}
use Rattle.pcap_classic.proofs.Packets.{reader_refuses, reader_lawful}
use Rattle.pcap_classic.proofs.FieldNumbers.{head_length}
use Rattle.pcap_core.proofs.Refusals.{named_shows}
use Rattle.pcap_classic.specs.StatedPackets.{KnowsHeader}
use Rattle.pcap_classic.proofs.StatedPackets.{kind_is, no_kind, reader_head, packet_stands, packet_lacks, header_refused}
use Rattle.pcap_classic.proofs.pcap.stated.PacketsUnderHasHead.stated.Goals as goal

pub returns-in_default : goal.returns-in_default
returns-in_default c =
    let header = c.args.self.now.header.now in
    let bytes = c.args.bytes.now in
    let invalid : is_magic header.magic_number ≡ false = no_kind header.magic_number (sym c.kind.ensures ∙ c.in_default.is) in
    let some : 0 < length bytes = omega (arith, c.requires, (reader_lawful packet_limit header).some tt) in
    named_shows (λ fault. (reader_format packet_limit header).says tt bytes (faulty fault)) CaptureMagic c.from.result (reader_refuses packet_limit header bytes invalid some) c.from.ensures

pub returns-in_err-head : goal.returns-in_err-head
returns-in_err-head c =
    let header = c.args.self.now.header.now in
    let bytes = c.args.bytes.now in
    let magic = header.magic_number in
    let e = c.in_err-head.field-0.0 in
    let kind = kind_is magic c.in-Some.endianness c.in-Some.ts_resolution (sym c.kind.ensures ∙ c.in-Some.is) in
    let long : length bytes ≡ 16 = c.requires ∙ reader_head header kind.0 in
    let refuses : Refuses ⊥ (λ n. LacksHead bytes n) (HasHeadFault packet_limit (number_in (order_of magic)) (resolution_of magic) bytes) e = rw (kind.1, kind.2) c.in_err-head.ensures.tells in
    let p = err_from_is_err_and c.from_residual.result c.from_residual.ensures.1 in
    rw (p.1, p.2) (header_refused header bytes e kind.0 long refuses)

pub returns : goal.returns
returns c =
    let header = c.args.self.now.header.now in
    let bytes = c.args.bytes.now in
    let magic = header.magic_number in
    let head = c.in_ok-head.head in
    let order = number_in (order_of magic) in
    let r = resolution_of magic in
    let rest = c.in_ok-head.field-0-0.now in
    let kind = kind_is magic c.in-Some.endianness c.in-Some.ts_resolution (sym c.kind.ensures ∙ c.in-Some.is) in
    let long : length bytes ≡ 16 = c.requires ∙ reader_head header kind.0 in
    let text : PacketHeaderText packet_limit order r head bytes rest = rw (kind.1, kind.2) c.in_ok-head.ensures.tells in
    let none : rest ≡ [] = nil_from_length rest (omega (arith, long, head_length order text.head bytes rest text.text)) in
    let knows : KnowsHeader header head head.incl_len bytes = record { valid = kind.0; text = subst (λ (l : List ℕ). PacketHeaderText packet_limit order r head bytes l) none text; follows = refl } in (
      knows,
      λ zero. inl (record { header = head; bytes = [] }, packet_stands header head head.incl_len bytes [] bytes knows (sym (append-nil bytes)) (sym zero)),
      λ some. packet_lacks header head head.incl_len bytes knows some,
    )
