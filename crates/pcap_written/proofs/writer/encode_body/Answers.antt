use Rattle.std.proofs.Common.{◌≡◌, Some, subst}
use Rattle.pcap_written.specs.Bodies.{order_under}
use Rattle.pcap_written.specs.declared.block.BlockHead.{BlockHead}
use Rattle.pcap_written.proofs.writer.encode_body.Goals as goal

pub returns-in_ok-body_in-in-Big : goal.returns-in_ok-body_in-in-Big
returns-in_ok-body_in-in-Big g c =
    let put = c.in_ok-body_in-in-Big.ensures in (
      subst (λ (head : BlockHead). order_under c.args.order head.magic ≡ Some c.in_ok-own.own) c.head.ensures c.in_ok-own.ensures,
      rw c.in-Big.is put.1,
      rw c.in-Big.is put.0,
    )

pub returns-in_ok-body_in-in-Little : goal.returns-in_ok-body_in-in-Little
returns-in_ok-body_in-in-Little g c =
    let put = c.in_ok-body_in-in-Little.ensures in (
      subst (λ (head : BlockHead). order_under c.args.order head.magic ≡ Some c.in_ok-own.own) c.head.ensures c.in_ok-own.ensures,
      rw c.in-Little.is put.1,
      rw c.in-Little.is put.0,
    )
