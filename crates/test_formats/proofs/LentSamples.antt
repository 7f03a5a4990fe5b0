-- The item at the front of a slice, by the bytes of its head.
use Rattle.std.proofs.Common.{◌≡◌, ℕ, ◌<◌, ◌-◌, List, ◌++◌, length, refl, arith, inl, inr}
use Rattle.pcap_core.specs.Answer.{whole, lacks, faulty}
use Rattle.pcap_core.specs.Faults.{Fault}
use Rattle.pcap_items.specs.Headed.{bad}
use Rattle.test_formats.specs.declared.samples.Head.{Head}
use Rattle.test_formats.specs.Samples.{head_length, HeadReads, KnowsHead, item_with, sample_format}

pub lent_short : (size : ℕ) (s : List ℕ) → length s < head_length size → sample_format.says size s (lacks (head_length size - length s))
unfolding sample_format
lent_short size s short = inl (omega (arith, short), omega (arith, short))

module _ (size : ℕ) (s front after : List ℕ) (split : s ≡ front ++ after) (long : length front ≡ head_length size) where
  pub lent_refused : (fault : Fault) → HeadReads size front (bad fault) → sample_format.says size s (faulty fault)
  unfolding sample_format
  lent_refused fault reads = inr (inl (after, record { bytes = front; text = split; length_is = long; holds = reads }))

  pub lent_lacks : (head : Head) (n : ℕ) → KnowsHead size head n front → length after < n → sample_format.says size s (lacks (n - length after))
  unfolding sample_format
  lent_lacks head n knows less =
      inr (inr (record { head = head; follows = n }, after, record { bytes = front; text = split; length_is = long; holds = knows }, (omega (arith, less), omega (arith, less))))

  pub lent_whole : (head : Head) (n : ℕ) (body rest : List ℕ) → KnowsHead size head n front → after ≡ body ++ rest → length body ≡ n → sample_format.says size s (whole (item_with head body) rest)
  unfolding sample_format
  lent_whole head n body rest knows parts count =
      inr (inr (
        record { head = head; follows = n },
        after,
        record { bytes = front; text = split; length_is = long; holds = knows },
        record { bytes = body; text = parts; length_is = count; holds = (refl, refl) },
      ))
