use Rattle.std.proofs.Common.{◌≡◌, ◌∙◌, ℕ, List, Err, ap, drop, subst}
use Rattle.std.specs.Io.KnownBytes.{Appends}
use Rattle.std.proofs.lemmas.Result.{err_from_is_err_and}
use Rattle.pcap_core.specs.Codec.{number_bytes}
use Rattle.pcap_items.specs.Writing.{WritesAll}
use Rattle.pcap_items.proofs.Writing.{first_fails, second_ends}
use Rattle.pcap_classic.specs.declared.common.TsResolution.{TsResolution}
use Rattle.pcap_classic.specs.declared.pcap.header.PcapHeader.{PcapHeader}
use Rattle.pcap_classic.specs.declared.pcap.packet.PacketHeader.{PacketHeader}
use Rattle.pcap_classic.specs.Magic.{order_of, resolution_of}
use Rattle.pcap_classic.specs.Written.{packet_header_bytes}
use Rattle.pcapfile_cut.specs.Changes.{bytes_within, changed_head, header_after}
use Rattle.pcapfile_cut.proofs.changing.put_changed.Goals as goal

-- The bytes of a packet's header under a capture's header.
abbrev head_bytes : PcapHeader → PacketHeader → List ℕ
head_bytes header head = packet_header_bytes (number_bytes (order_of header.magic_number)) (resolution_of header.magic_number) head

pub returns-in_err-put-clause-out : goal.returns-in_err-put-clause-out
returns-in_err-put-clause-out g c =
    let p = err_from_is_err_and c.from_residual.result c.from_residual.ensures.1 in
    let before = g.W.Write.contents c.args.output.now in
    let after = g.W.Write.contents c.put.new.writer in
    let e = c.in_err-put.field-0.0 in
    let found = c.args.found in
    let changes = c.args.changes in
    let header = found.header.now in
    let new = header_after header changes in
    let first = head_bytes new (changed_head (resolution_of header.magic_number) changes found.head) in
    let resolved = c.head_of-head.ensures ∙ ap (λ (r : TsResolution). changed_head r changes found.head) c.ts_resolution.ensures in
    let head : c.bytes_under.result ≡ first =
    c.bytes_under.ensures ∙ ap (λ (h : PcapHeader). head_bytes h c.head_of-head.result) c.header_in-header.ensures.header ∙ ap (head_bytes new) resolved in
    let out : WritesAll before after first (Err e) = subst (λ (bytes : List ℕ). WritesAll before after bytes (Err e)) head c.in_err-put.ensures.out in
    rw (p.1, p.2) (first_fails first (bytes_within changes.snaplen (drop 16 found.text.now)) before after e out)

pub returns-clause-out : goal.returns-clause-out
returns-clause-out g c =
    let before = g.W.Write.contents c.args.output.now in
    let mid = g.W.Write.contents c.put.new.writer in
    let after = g.W.Write.contents c.put-2.new.writer in
    let found = c.args.found in
    let changes = c.args.changes in
    let header = found.header.now in
    let new = header_after header changes in
    let first = head_bytes new (changed_head (resolution_of header.magic_number) changes found.head) in
    let second = bytes_within changes.snaplen (drop 16 found.text.now) in
    let resolved = c.head_of-head.ensures ∙ ap (λ (r : TsResolution). changed_head r changes found.head) c.ts_resolution.ensures in
    let head : c.bytes_under.result ≡ first =
    c.bytes_under.ensures ∙ ap (λ (h : PcapHeader). head_bytes h c.head_of-head.result) c.header_in-header.ensures.header ∙ ap (head_bytes new) resolved in
    let shorter : c.bytes_of.result.now ≡ second = c.bytes_of.ensures ∙ ap (bytes_within changes.snaplen) c.data_of.ensures in
    let first_out : Appends before mid first = subst (λ (bytes : List ℕ). Appends before mid bytes) head c.in_ok-put.ensures.out in
    let second_out : WritesAll mid after second c.put-2.result = subst (λ (bytes : List ℕ). WritesAll mid after bytes c.put-2.result) shorter c.put-2.ensures.out in
    second_ends first second before mid after c.put-2.result first_out second_out
