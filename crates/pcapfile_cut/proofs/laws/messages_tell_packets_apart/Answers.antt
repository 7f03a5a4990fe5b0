use Rattle.std.proofs.Common.{◌∙◌, ap, refl, sym}
use Rattle.std.specs.Int.{w32, from_be_bytes, to_be_bytes}
use Rattle.std.proofs.lemmas.Nat.{from_be_bytes-to_be_bytes_4}
use Rattle.pcap_core.proofs.Texts.{split_same}
use Rattle.pcapfile_cut.proofs.laws.messages_tell_packets_apart.Goals as goal

pub returns : goal.returns
returns c n m s t fits other_fits same =
    let both = split_same (to_be_bytes w32 n) s (to_be_bytes w32 m) t refl same in
    (sym (from_be_bytes-to_be_bytes_4 n fits) ∙ ap (from_be_bytes w32) both.0 ∙ from_be_bytes-to_be_bytes_4 m other_fits, both.1)
