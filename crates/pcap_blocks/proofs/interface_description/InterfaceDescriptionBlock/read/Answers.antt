use Rattle.std.proofs.Common.{ℕ, arith, subst}
use Rattle.std.proofs.lemmas.Result.{err_from_is_err_and}
use Rattle.pcap_core.specs.Link.{Link}
use Rattle.pcap_blocks.specs.InterfaceDescription.{short}
use Rattle.pcap_blocks.proofs.Bodies.{interface_fails}
use Rattle.pcap_core.proofs.Padded.{behind_number, behind_both}
use Rattle.pcap_options.proofs.Growth.{holds_after}
use Rattle.pcap_options.proofs.Refusals.{denies_more}
use Rattle.pcap_blocks.proofs.interface_description.InterfaceDescriptionBlock.read.Goals as goal

pub returns-then-slice-lt8-clause-tells : goal.returns-then-slice-lt8-clause-tells
returns-then-slice-lt8-clause-tells g c = short (omega arith)

pub returns-in_err-rest-clause-tells : goal.returns-in_err-rest-clause-tells
returns-in_err-rest-clause-tells g c =
    let p = err_from_is_err_and c.from_residual.result c.from_residual.ensures.1 in
    let head = behind_both (behind_both (behind_number c.split_u16-linktype.ensures.number) (behind_number c.split_u16-reserved.ensures.number)) (behind_number c.split_u32-snaplen.ensures.number) in
    rw (p.1, p.2) (denies_more c.in_err-rest.field-0.0 (holds_after 8 _ _ _ head) (interface_fails _ _ _ head) c.in_err-rest.ensures.tells)

pub returns-clause-tells : goal.returns-clause-tells
returns-clause-tells g c = record {
  after_head = _;
  head = record {
    link_number = _;
    after_link = _;
    after_reserved = _;
    link_number_is = c.split_u16-linktype.ensures.number;
    link_is = subst (λ (n : ℕ). Link n c.from-2.result) c.from.ensures c.from-2.ensures;
    reserved_is = c.split_u16-reserved.ensures.number;
    snaplen_is = c.split_u32-snaplen.ensures.number;
  };
  options_are = c.in_ok-rest.ensures.tells;
}
