use Rattle.std.proofs.Common.{◌≡◌, [], refl, rules, subst, sym}
use Rattle.std.proofs.lemmas.List.{nil_from_length}
use Rattle.pcap_core.specs.Answer.{Order}
use Rattle.pcap_blocks.specs.EnhancedPacket.{EnhancedText}
use Rattle.pcap_options.specs.Options.{with_body}
use Rattle.pcap_ng.specs.Enhanced.{enhanced_with}
use Rattle.pcap_ng.proofs.EnhancedFrames.{parts_read}
use Rattle.pcapfile_merge.proofs.buffered_blocks.plain_in.Goals as goal

pub returns : goal.returns
returns g c =
    let body = c.in_ok-body.body.now in
    let parts = c.in_ok-parts.parts in
    let none : parts.options.now ≡ [] = nil_from_length _ (search rules) in
    let text = parts_read g.B.ByteOrder.number_of parts body c.in_ok-parts.ensures [] parts.options.now (with_body none tt none) in
    record {
      body = body;
      frame = c.in_ok-body.ensures;
      enhanced = enhanced_with parts [];
      after = parts.options.now;
      text = subst (λ (order : Order). EnhancedText order (enhanced_with parts []) body parts.options.now) (sym c.requires) text;
      tells = record { interface_is = refl; units_are = refl; stored_is = refl; original_is = refl };
      plain = refl;
    }
