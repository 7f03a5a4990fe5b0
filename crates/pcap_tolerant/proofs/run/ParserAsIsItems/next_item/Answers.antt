use Rattle.std.proofs.Common.{refl}
use Rattle.pcap_items.proofs.Items.{on_err, tells_item}
use Rattle.pcap_tolerant.specs.AsIs.{as_it_is, as_is_format}
use Rattle.pcap_tolerant.specs.Run.{any_as_is, setting_of}
use Rattle.pcap_tolerant.proofs.run.ParserAsIsItems.next_item.Goals as goal

pub returns-clause-finds : goal.returns-clause-finds
unfolding as_is_format
returns-clause-finds c =
    let q = setting_of c.args.self.now in
    rw c.found_in.ensures (tells_item any_as_is (λ packet. packet) as_it_is as_it_is (λ _. refl) q q (λ _. refl) (λ _ _. ⊥) c.args.slice.now c.next_packet_as_is.result (on_err refl c.next_packet_as_is.result) c.next_packet_as_is.ensures.tells)
