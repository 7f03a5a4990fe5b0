-- Lemmas about blocks without secrets.
use Rattle.std.proofs.Common.{ℕ, ◌<◌, List, length, sym, subst}
use Rattle.pcap_core.specs.Answer.{Order, Number}
use Rattle.pcap_core.specs.Bytes.{cow_bytes}
use Rattle.pcap_core.specs.Padded.{Padded, up_to_4}
use Rattle.pcap_core.proofs.Texts.{number_same}
use Rattle.pcap_core.proofs.OnePadded.{no_short_padded}
use Rattle.pcap_blocks.specs.Views.{SecretsText}
use Rattle.pcap_blocks.specs.declared.unknown_block.UnknownBlock.{UnknownBlock}

-- A block has no secrets if their stated length, with padding, extends past its body.
pub no_secrets : (order : Order) (block : UnknownBlock) (type len : ℕ) (after_type after_length : List ℕ) → Number order 4 type (cow_bytes block.value) after_type → Number order 4 len after_type after_length → length after_length < up_to_4 len
    → (t : ℕ) (secrets rest : List ℕ) → SecretsText order block t secrets rest → ⊥
no_secrets order block type len after_type after_length type_is length_is short t secrets rest x =
    let first = number_same order 4 type t (cow_bytes block.value) after_type x.after_type type_is x.type_is in
    let stated : Number order 4 (length secrets) after_type x.after_length = subst (λ (s : List ℕ). Number order 4 (length secrets) s x.after_length) (sym first.1) x.length_is in
    let second = number_same order 4 len (length secrets) after_type after_length x.after_length length_is stated in
    no_short_padded secrets after_length rest len (subst (λ (s : List ℕ). Padded secrets s rest) (sym second.1) x.padded) (sym second.0) short
