use Rattle.std.proofs.Common.{◌<◌, ℕ, ℤ, ap, subst, sym, refl, inl, inr, nat_lt, w32, to_z, of_z}
use Rattle.pcap_classic.specs.Parser.{header_of}
use Rattle.pcap_damaged.specs.declared.judged.Judged.TheVariants as judged
use Rattle.pcap_damaged.specs.Judged.{Judges, Lacks}
use Rattle.pcap_damaged.proofs.Judging.{length_is_some}
use Rattle.pcapfile_c.proofs.damaged.pcapfile_judge_packet.Goals as goal

pub returns-in-Packet-clause-told : goal.returns-in-Packet-clause-told
returns-in-Packet-clause-told c =
    let told = c.tell_front.ensures in
    λ magic. (header_of c.in-Some.parser, c.in-Some.ensures.2, inl (ap (λ (z : ℤ). to_z w32 (of_z w32 z)) told.status, refl, inl (told.gap, told.length, c.in-Packet.ensures)))

pub returns-in-Length-clause-told : goal.returns-in-Length-clause-told
returns-in-Length-clause-told c =
    let header = header_of c.in-Some.parser in
    let told = c.tell_front-in-Length.ensures in
    let judges = subst (λ (n : ℕ). Judges header c.args.time (nat_lt 0 c.args.is_all) c.args.bytes.now.bytes.now (judged.Length n)) (sym told.length) c.in-Length.ensures in
    let some : 0 < c.tell_front-in-Length.new.length = length_is_some header c.args.time (nat_lt 0 c.args.is_all) c.args.bytes.now.bytes.now c.tell_front-in-Length.new.length judges in
    λ magic. (header, c.in-Some.ensures.2, inl (ap (λ (z : ℤ). to_z w32 (of_z w32 z)) told.status, refl, inr (inl (told.gap, some, judges))))

pub returns-in-Corrupt-clause-told : goal.returns-in-Corrupt-clause-told
returns-in-Corrupt-clause-told c = λ magic. (header_of c.in-Some.parser, c.in-Some.ensures.2, inr (inl (refl, refl, refl, c.in-Corrupt.ensures)))

pub returns-in-Missing-clause-told : goal.returns-in-Missing-clause-told
returns-in-Missing-clause-told c =
    let header = header_of c.in-Some.parser in
    let told = c.tell.ensures in
    let judges = c.in-Missing.ensures in
    let lacks = subst (λ (n : ℕ). Lacks header c.args.time c.args.bytes.now.bytes.now n) (sym told.2) judges.2 in
    λ magic. (header, c.in-Some.ensures.2, inr (inr (ap (λ (z : ℤ). to_z w32 (of_z w32 z)) told.0, told.1, refl, (judges.0, judges.1, lacks))))
