-- The results of `==` on headers.
use Rattle.std.proofs.Common.{◌≡◌, Bool, true, false, ℕ, ℤ, refl}
use Rattle.std.specs.Prelude.{◌&&◌, nat_eq}
use Rattle.std.specs.Ordering.{int_eq, on}
use Rattle.std.specs.Cmp.Derive.{both_true}
use Rattle.std.proofs.lemmas.Bool.{eqb-true, eq-eqb}
use Rattle.std.proofs.lemmas.Cmp.{int_eq_equiv}
use Rattle.std.proofs.lemmas.Bool.Decides.{Decides-int_eq}
use Rattle.pcap_core.specs.Link.{key}
use Rattle.pcap_classic.specs.declared.pcap.header.PcapHeader.{PcapHeader}
use Rattle.pcap_core.proofs.Links.{key_same}
use Rattle.pcap_classic.proofs.One.{header_is}

first_true : (a b : Bool) → (a && b) ≡ true → a ≡ true
first_true true b e = refl
first_true false b e = absurd cc

second_true : (a b : Bool) → (a && b) ≡ true → b ≡ true
second_true true b e = e
second_true false b e = absurd cc

int_same : (x y : ℤ) → int_eq x y ≡ true → x ≡ y
int_same x y e = (Decides-int_eq x y).0 e

-- Two headers have the same fields.
abbrev pub same_header : PcapHeader → PcapHeader → Bool
same_header p q =
    nat_eq p.magic_number q.magic_number && (nat_eq p.version_major q.version_major && (nat_eq p.version_minor q.version_minor
    && (int_eq p.ts_correction q.ts_correction && (nat_eq p.ts_accuracy q.ts_accuracy && (nat_eq p.snaplen q.snaplen && on key nat_eq p.datalink q.datalink)))))

pub header_equal : (p q : PcapHeader) → same_header p q ≡ true → p ≡ q
header_equal p q e =
    let e1 = second_true (nat_eq p.magic_number q.magic_number) _ e in
    let e2 = second_true (nat_eq p.version_major q.version_major) _ e1 in
    let e3 = second_true (nat_eq p.version_minor q.version_minor) _ e2 in
    let e4 = second_true (int_eq p.ts_correction q.ts_correction) _ e3 in
    let e5 = second_true (nat_eq p.ts_accuracy q.ts_accuracy) _ e4 in
    header_is p q (eqb-true _ _ (first_true _ _ e)) (eqb-true _ _ (first_true _ _ e1)) (eqb-true _ _ (first_true _ _ e2)) (int_same _ _ (first_true _ _ e3))
    (eqb-true _ _ (first_true _ _ e4)) (eqb-true _ _ (first_true _ _ e5)) (key_same p.datalink q.datalink (eqb-true _ _ (second_true _ _ e5)))

number_itself : (n : ℕ) → nat_eq n n ≡ true
number_itself n = eq-eqb n n refl

pub header_equal_itself : (p : PcapHeader) → same_header p p ≡ true
header_equal_itself p =
    both_true (number_itself p.magic_number) (both_true (number_itself p.version_major) (both_true (number_itself p.version_minor)
    (both_true (int_eq_equiv.refl p.ts_correction) (both_true (number_itself p.ts_accuracy) (both_true (number_itself p.snaplen) (number_itself (key p.datalink)))))))
