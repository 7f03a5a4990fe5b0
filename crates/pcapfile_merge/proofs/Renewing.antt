-- The options of obsolete packets, one after another.
use Rattle.std.proofs.Common.{◌≡◌, List, [], ◌∷◌, ◌++◌, map, append_assoc, sym, ap, ◌∙◌}
use Rattle.std.proofs.lemmas.List.{map_push}
use Rattle.std.proofs.lemmas.List.Elements.{filter-append}
use Rattle.pcap_options.specs.declared.packet_option.PacketOption.{PacketOption}
use Rattle.pcap_options.specs.PacketOption.{packet_entry}
use Rattle.pcap_options.specs.Values.{Entry}
use Rattle.pcapfile_merge.specs.Renewing.{kept_options, stays}

-- One more option is kept or left out.
pub kept_more : (start so_far now : List Entry) (options : List PacketOption) (option : PacketOption) → so_far ≡ start ++ kept_options (map packet_entry options)
    → now ≡ so_far ++ kept_options (packet_entry option ∷ []) → now ≡ start ++ kept_options (map packet_entry (options ++ option ∷ []))
kept_more start so_far now options option are is =
    let one = packet_entry option ∷ [] in
    is ∙ ap (λ (l : List Entry). l ++ kept_options one) are ∙ append_assoc start (kept_options (map packet_entry options)) (kept_options one)
    ∙ ap (λ (l : List Entry). start ++ l) (sym (filter-append stays (map packet_entry options) one) ∙ ap kept_options (sym (map_push packet_entry options option)))
