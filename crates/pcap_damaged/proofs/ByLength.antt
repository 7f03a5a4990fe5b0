-- Packets that follow each other by their stored lengths.
use Rattle.std.proofs.Common.{◌≡◌, ◌<◌, ◌-◌, ℕ, List, length}
use Rattle.pcap_core.specs.declared.errors.PcapError.{PcapError}
use Rattle.pcap_core.specs.Answer.{Verdict, number_in, whole, lacks, faulty, Refuses}
use Rattle.pcap_classic.specs.declared.pcap.header.PcapHeader.{PcapHeader}
use Rattle.pcap_classic.specs.Magic.{order_of, resolution_of}
use Rattle.pcap_tolerant.specs.AsIs.{AsIs, AsIsSays, as_is_format, raised}
use Rattle.pcap_tolerant.specs.Run.{as_is_under}
use Rattle.pcap_tolerant.proofs.KnownPackets.{under_lawful}
use Rattle.pcap_tolerant.proofs.Rows.{goes_down, goes_up, goes_to_the_end, goes_no_further, goes_not_over}
use Rattle.pcap_damaged.specs.Lengths.{FollowByLength, HasNumbers}

module _ (header : PcapHeader) where
  abbrev pub Says : List ℕ → Verdict AsIs → Type 0
  Says = AsIsSays (raised 0) (number_in (order_of header.magic_number)) (resolution_of header.magic_number)

  pub follow_down : (more : ℕ) (s rest : List ℕ) (v : AsIs) → Says s (whole v rest) → 0 < more → (length rest ≡ 0 → ⊥) → FollowByLength header more s → FollowByLength header (more - 1) rest
  unfolding as_is_format
  follow_down more s rest v x = goes_down (as_is_under 0 header) HasNumbers (under_lawful 0 header) tt more s rest v x

  pub follow_up : (more : ℕ) (s rest : List ℕ) (v : AsIs) → Says s (whole v rest) → HasNumbers v → 0 < more → FollowByLength header (more - 1) rest → FollowByLength header more s
  unfolding as_is_format
  follow_up more s rest v x = goes_up (as_is_under 0 header) HasNumbers (under_lawful 0 header) tt more s rest v x

  pub follow_end : (more : ℕ) (s rest : List ℕ) (v : AsIs) → Says s (whole v rest) → HasNumbers v → 0 < more → length rest ≡ 0 → FollowByLength header more s
  unfolding as_is_format
  follow_end more s rest v x = goes_to_the_end (as_is_under 0 header) HasNumbers (under_lawful 0 header) tt more s rest v x

  pub follow_refused : (more : ℕ) (s : List ℕ) (e : PcapError) → Refuses ⊥ (λ n. Says s (lacks n)) (λ fault. Says s (faulty fault)) e → 0 < more → FollowByLength header more s → ⊥
  unfolding as_is_format
  follow_refused more s e x = goes_no_further (as_is_under 0 header) HasNumbers (under_lawful 0 header) tt more s e x

  pub follow_zeros : (more : ℕ) (s rest : List ℕ) (v : AsIs) → Says s (whole v rest) → (HasNumbers v → ⊥) → 0 < more → FollowByLength header more s → ⊥
  unfolding as_is_format
  follow_zeros more s rest v x = goes_not_over (as_is_under 0 header) HasNumbers (under_lawful 0 header) tt more s rest v x
