-- Samples are a lawful format.
use Rattle.std.proofs.Common.{◌≡◌, ℕ, List, [], ◌∷◌, length, refl, sym, ap, subst, ◌∙◌, append-nil, arith}
use Rattle.byteorder.specs.Endian.{big_number}
use Rattle.pcap_core.specs.Answer.{Number}
use Rattle.pcap_core.specs.Laws.{ExactlyOne}
use Rattle.pcap_items.specs.Format.{IsLawful}
use Rattle.pcap_items.specs.Headed.{HeadReading, good, bad}
use Rattle.pcap_core.specs.Padded.{Behind}
use Rattle.pcap_items.proofs.Headed.{headed_lawful}
use Rattle.pcap_core.proofs.Numbers.{numbers_at, total}
use Rattle.pcap_core.proofs.Texts.{number_same}
use Rattle.test_formats.specs.declared.samples.Head.{Head}
use Rattle.test_formats.specs.Samples.{Item, item_with, Announced, meaning, number_width, head_length, HeadReads, BytesRead, headed_samples, sample_format}

-- A head is read in only one way.
head_same : (size : ℕ) (s : List ℕ) (h k : HeadReading Announced) → HeadReads size s h → HeadReads size s k → k ≡ h
head_same size s h k x y =
    let kinds = number_same big_number 2 x.kind y.kind s x.after y.after x.kind_is y.kind_is in
    let numbers = number_same big_number (number_width size) x.number y.number x.after [] [] x.number_is (subst (λ (l : List ℕ). Number big_number (number_width size) y.number l []) (sym kinds.1) y.number_is) in
    let same : meaning size x.kind x.number ≡ meaning size y.kind y.number = rw (kinds.0, numbers.0) refl in
    sym y.means ∙ sym same ∙ x.means

head_one : (size : ℕ) (s : List ℕ) → length s ≡ head_length size → ExactlyOne (HeadReads size s)
head_one size s long =
    let width = number_width size in
    let count : length s ≡ total (2 ∷ width ∷ []) = omega (arith, long) in
    let all : Behind (total (2 ∷ width ∷ [])) s [] = record { bytes = s; text = sym (append-nil s); length_is = count } in
    let there = numbers_at big_number (2 ∷ width ∷ []) s [] all in
    let rest_is : there.1.2.0 ≡ [] = there.1.2.2 in
    let reads : HeadReads size s (meaning size there.0.0 there.0.1.0) = record {
      kind = there.0.0;
      number = there.0.1.0;
      after = there.1.0;
      kind_is = there.1.1;
      number_is = subst (λ (l : List ℕ). Number big_number width there.0.1.0 there.1.0 l) rest_is there.1.2.1;
      means = refl;
    } in
    record { value = meaning size there.0.0 there.0.1.0; holds = reads; only = λ k y. head_same size s (meaning size there.0.0 there.0.1.0) k reads y }

item_same : (a b : Item) → a.head ≡ b.head → a.bytes ≡ b.bytes → a ≡ b
item_same a b heads bytes = ap (λ (h : Head). item_with h a.bytes) heads ∙ ap (λ (l : List ℕ). item_with b.head l) bytes

bytes_same : (x : Announced) (s : List ℕ) (m : HeadReading Item) → BytesRead x s m → m ≡ good (record { head = x.head; bytes = s })
bytes_same x s (good item) e = let is : item ≡ item_with x.head s = item_same item (item_with x.head s) e.0 e.1 in ap good is
bytes_same x s (bad fault) e = absurd e

bytes_one : (x : Announced) (s : List ℕ) → ExactlyOne (BytesRead x s)
bytes_one x s = record { value = good (record { head = x.head; bytes = s }); holds = (refl, refl); only = λ m e. bytes_same x s m e }

pub samples_lawful : IsLawful sample_format
unfolding sample_format
samples_lawful = headed_lawful headed_samples (record { some = λ q. omega arith; heads = λ q s long. head_one q s long; bodies = λ q x s long. bytes_one x s })
