-- Any bytes have exactly one reading as the body of a section.
use Rattle.std.proofs.Common.{◌≡◌, ℕ, ◌+◌, ◌<◌, ◌≤◌, List, [], ◌∷◌, length, Option, Some, None, refl, sym, ap, subst, ◌∙◌, arith, inl, inr}
use Rattle.std.specs.Prelude.{ℤ, ⊤}
use Rattle.std.specs.Int.{w64, cast_signed}
use Rattle.std.proofs.lemmas.Bool.{cases_lt}
use Rattle.std.proofs.lemmas.List.{length-append}
use Rattle.byteorder.specs.Endian.{big_number}
use Rattle.pcap_core.specs.declared.common.Endianness.{Endianness}
use Rattle.pcap_core.specs.declared.rules.Rule.TheVariants.{SectionTooShort, SectionMagic}
use Rattle.pcap_core.specs.Answer.{Order, Number, number_in, Verdict, whole, lacks, faulty, Made}
use Rattle.pcap_core.specs.Faults.{Fault, Invalid}
use Rattle.pcap_core.specs.Laws.{ExactlyOne}
use Rattle.pcap_core.proofs.Texts.{number_length}
use Rattle.pcap_options.specs.Values.{Entry}
use Rattle.pcap_options.specs.Options.{may_end_with_body, ListSays}
use Rattle.pcap_options.specs.SectionOption.{section_header}
use Rattle.pcap_blocks.specs.SectionHeader.{magic_order, Section, VersionText, AfterMagic, AfterMagicFault, SectionText, SectionFault, short, no_magic, after_magic, SectionSays}
use Rattle.pcap_core.proofs.Verdicts.{one_moved, Then, one_then, one_made}
use Rattle.pcap_core.proofs.Numbers.{Values, Numbers, NumbersSay, numbers_one, numbers_behind, numbers_at}
use Rattle.pcap_options.proofs.OneList.{list_one}
use Rattle.pcap_options.proofs.OneVerdict.{IsDecided, one_said}

abbrev too_short : Fault
too_short = Invalid SectionTooShort

-- The width of the magic number.
abbrev magic_width : List ℕ
magic_width = 4 ∷ []

-- The widths of the versions and the length.
abbrev widths : List ℕ
widths = 2 ∷ 2 ∷ 8 ∷ []

section_with : ℕ → Values widths → List Entry → Section
section_with magic ns options = record { magic = magic; major_version = ns.0; minor_version = ns.1.0; section_length = cast_signed w64 ns.1.1.0; options = options }

-- `s` has at least 16 bytes, or a fault says that it has too few.
LongSays : List ℕ → Verdict ⊤ → Type 0
LongSays s (whole x rest) = (rest ≡ s) × (16 ≤ length s)
LongSays s (lacks n) = ⊥
LongSays s (faulty f) = (f ≡ too_short) × (length s < 16)

long_one : (s : List ℕ) → ExactlyOne (LongSays s)
unfolding LongSays
long_one s =
    let is : IsDecided (LongSays s) = record { wholes = λ x y a b h k. (refl, k.0 ∙ sym h.0); faults = λ f g h k. k.0 ∙ sym h.0; not_both = λ x a f h k. absurd (omega (arith, h.1, k.1)); no_lack = λ n h. h } in
    elim (cases_lt (length s) 16) [
      | inl lt ↦ one_said (LongSays s) is (faulty too_short) (refl, lt)
      | inr long ↦ one_said (LongSays s) is (whole tt s) (refl, long)
    ]

AfterThen : ℕ → Option Endianness → List ℕ → Verdict Section → Type 0
AfterThen magic None s w = w ≡ faulty (Invalid SectionMagic)
AfterThen magic (Some e) s w = Then (NumbersSay (number_in e) too_short widths s) (λ ns after. Made (section_with magic ns) (ListSays may_end_with_body (number_in e) section_header after)) w

after_one : (magic : ℕ) (e : Option Endianness) (s : List ℕ) → ExactlyOne (AfterThen magic e s)
unfolding AfterThen
after_one magic None s = record { value = faulty (Invalid SectionMagic); holds = refl; only = λ w k. k }
after_one magic (Some e) s =
    one_then (NumbersSay (number_in e) too_short widths s) (λ ns after. Made (section_with magic ns) (ListSays may_end_with_body (number_in e) section_header after)) (numbers_one (number_in e) too_short widths s)
    (λ ns after k. one_made (section_with magic ns) (ListSays may_end_with_body (number_in e) section_header after) (list_one may_end_with_body (number_in e) section_header after))

MagicThen : List ℕ → Verdict Section → Type 0
MagicThen s = Then (NumbersSay big_number too_short magic_width s) (λ ns after. AfterThen ns.0 (magic_order ns.0) after)

magic_one : (s : List ℕ) → ExactlyOne (MagicThen s)
unfolding MagicThen
magic_one s = one_then (NumbersSay big_number too_short magic_width s) (λ ns after. AfterThen ns.0 (magic_order ns.0) after) (numbers_one big_number too_short magic_width s) (λ ns after k. after_one ns.0 (magic_order ns.0) after)

BodyThen : List ℕ → Verdict Section → Type 0
BodyThen s = Then (LongSays s) (λ x t. MagicThen t)

body_one : (s : List ℕ) → ExactlyOne (BodyThen s)
unfolding BodyThen
body_one s = one_then (LongSays s) (λ x t. MagicThen t) (long_one s) (λ x t k. magic_one t)

-- From the grammar to the reading field by field.
at_length : Section → ℤ → Section
at_length b n = record { magic = b.magic; major_version = b.major_version; minor_version = b.minor_version; section_length = n; options = b.options }

after_to : (magic : ℕ) (e : Endianness) (b : Section) (s rest : List ℕ) → b.magic ≡ magic → AfterMagic (number_in e) b s rest → AfterThen magic (Some e) s (whole b rest)
unfolding AfterThen section_with at_length
after_to magic e b s rest is h =
    let v = h.version in (
      (b.major_version, (b.minor_version, (v.length_bits, tt))),
      h.after_version,
      (v.after_major, v.major, (v.after_minor, v.minor, (h.after_version, v.length_number, refl))),
      (b.options, subst (λ (m : ℕ). b ≡ section_with m (b.major_version, (b.minor_version, (v.length_bits, tt))) b.options) is (ap (at_length b) v.length_is), h.options_are),
    )

after_fault_to : (magic : ℕ) (e : Endianness) (s : List ℕ) (f : Fault) → AfterMagicFault (number_in e) s f → AfterThen magic (Some e) s (faulty f)
unfolding AfterThen
after_fault_to magic e s f h = let t = numbers_at (number_in e) widths s h.after_version h.behind in inr (t.0, h.after_version, t.1, h.in_options)

magic_to : (s after : List ℕ) (magic : ℕ) (e : Option Endianness) (w : Verdict Section) → Number big_number 4 magic s after → magic_order magic ≡ e → AfterThen magic e after w → MagicThen s w
unfolding MagicThen
magic_to s after magic e (whole b rest) is names t = ((magic, tt), after, (after, is, refl), rw names t)
magic_to s after magic e (lacks n) is names t = inr ((magic, tt), after, (after, is, refl), rw names t)
magic_to s after magic e (faulty f) is names t = inr ((magic, tt), after, (after, is, refl), rw names t)

long_to : (s : List ℕ) (w : Verdict Section) → 16 ≤ length s → MagicThen s w → BodyThen s w
unfolding BodyThen LongSays
long_to s (whole b rest) long t = (tt, s, (refl, long), t)
long_to s (lacks n) long t = inr (tt, s, (refl, long), t)
long_to s (faulty f) long t = inr (tt, s, (refl, long), t)

pub version_length : (order : Order) (b : Section) (s rest : List ℕ) → VersionText order b s rest → length s ≡ 12 + length rest
version_length order b s rest v =
    omega (
      arith,
      number_length order 2 b.major_version s v.after_major v.major,
      number_length order 2 b.minor_version v.after_major v.after_minor v.minor,
      number_length order 8 v.length_bits v.after_minor rest v.length_number,
    )

body_to : (s : List ℕ) (w : Verdict Section) → SectionSays s w → BodyThen s w
unfolding BodyThen LongSays AfterThen
body_to s (whole b rest) h =
    let long : 16 ≤ length s = omega (arith, number_length big_number 4 b.magic s h.after_magic h.magic_is, version_length (number_in h.endianness) b h.after_magic h.after.after_version h.after.version) in
    long_to s (whole b rest) long (magic_to s h.after_magic b.magic (Some h.endianness) (whole b rest) h.magic_is h.names (after_to b.magic h.endianness b h.after_magic rest refl h.after))
body_to s (lacks n) h = absurd h
body_to s (faulty f) (short lt) = inl (refl, lt)
body_to s (faulty f) (no_magic magic after long is none) = long_to s (faulty (Invalid SectionMagic)) long (magic_to s after magic None (faulty (Invalid SectionMagic)) is none refl)
body_to s (faulty f) (after_magic _ magic after e is names fault) =
    let behind : length after ≡ 12 + length fault.after_version = ap length fault.behind.text ∙ length-append fault.behind.bytes fault.after_version ∙ ap (λ (k : ℕ). k + length fault.after_version) fault.behind.length_is in
    let long : 16 ≤ length s = omega (arith, number_length big_number 4 magic s after is, behind) in
    long_to s (faulty f) long (magic_to s after magic (Some e) (faulty f) is names (after_fault_to magic e after f fault))

-- From the reading field by field to the grammar.
after_from : (magic : ℕ) (e : Endianness) (s rest : List ℕ) (b : Section) → AfterThen magic (Some e) s (whole b rest) → (b.magic ≡ magic) × AfterMagic (number_in e) b s rest
unfolding AfterThen section_with
after_from magic e s rest b t =
    let n = t.2 in
    let version : VersionText (number_in e) (section_with magic t.0 t.3.0) s t.1 = record {
      after_major = n.0;
      after_minor = n.2.0;
      length_bits = t.0.1.1.0;
      major = n.1;
      minor = n.2.1;
      length_number = subst (λ (x : List ℕ). Number (number_in e) 8 t.0.1.1.0 n.2.0 x) n.2.2.2 n.2.2.1;
      length_is = refl;
    } in
    let is : AfterMagic (number_in e) (section_with magic t.0 t.3.0) s rest = record { after_version = t.1; version = version; options_are = t.3.2 } in
    (ap (λ (x : Section). x.magic) t.3.1, subst (λ (x : Section). AfterMagic (number_in e) x s rest) (sym t.3.1) is)

after_whole : (magic : ℕ) (s after rest : List ℕ) (b : Section) → Number big_number 4 magic s after → (e : Option Endianness) → magic_order magic ≡ e → AfterThen magic e after (whole b rest) → SectionText b s rest
unfolding AfterThen
after_whole magic s after rest b is None names t = absurd cc
after_whole magic s after rest b is (Some e) names t =
    let h = after_from magic e after rest b t in
    record { after_magic = after; endianness = e; magic_is = rw h.0 is; names = rw h.0 names; after = h.1 }

after_lack : (magic : ℕ) (after : List ℕ) (n : ℕ) (e : Option Endianness) → AfterThen magic e after (lacks n) → ⊥
unfolding AfterThen
after_lack magic after n None t = absurd cc
after_lack magic after n (Some e) (inl t) = t
after_lack magic after n (Some e) (inr t) = t.3

after_fault : (magic : ℕ) (s after : List ℕ) (f : Fault) → 16 ≤ length s → Number big_number 4 magic s after → (e : Option Endianness) → magic_order magic ≡ e → AfterThen magic e after (faulty f) → SectionFault s f
unfolding AfterThen
after_fault magic s after f long is None names t = let same : f ≡ Invalid SectionMagic = cc in rw same (no_magic magic after long is names)
after_fault magic s after f long is (Some e) names (inl t) = absurd (omega (arith, number_length big_number 4 magic s after is, t.1, long))
after_fault magic s after f long is (Some e) names (inr t) =
    after_magic f magic after e is names (record { after_version = t.1; behind = numbers_behind (number_in e) widths t.0 after t.1 t.2; in_options = t.3 })

magic_number : (ns : Values magic_width) (s rest : List ℕ) → Numbers big_number magic_width ns s rest → Number big_number 4 ns.0 s rest
magic_number ns s rest t = subst (λ (x : List ℕ). Number big_number 4 ns.0 s x) t.2 t.1

magic_from : (s : List ℕ) (w : Verdict Section) → 16 ≤ length s → MagicThen s w → SectionSays s w
unfolding MagicThen
magic_from s (whole b rest) long t = after_whole t.0.0 s t.1 rest b (magic_number t.0 s t.1 t.2) (magic_order t.0.0) refl t.3
magic_from s (lacks n) long (inl t) = t
magic_from s (lacks n) long (inr t) = after_lack t.0.0 t.1 n (magic_order t.0.0) t.3
magic_from s (faulty f) long (inl t) = absurd (omega (arith, t.1, long))
magic_from s (faulty f) long (inr t) = after_fault t.0.0 s t.1 f long (magic_number t.0 s t.1 t.2) (magic_order t.0.0) refl t.3

body_from : (s : List ℕ) (w : Verdict Section) → BodyThen s w → SectionSays s w
unfolding BodyThen LongSays
body_from s (whole b rest) t = magic_from s (whole b rest) t.2.1 (subst (λ (x : List ℕ). MagicThen x (whole b rest)) t.2.0 t.3)
body_from s (lacks n) (inl t) = t
body_from s (lacks n) (inr t) = magic_from s (lacks n) t.2.1 (subst (λ (x : List ℕ). MagicThen x (lacks n)) t.2.0 t.3)
body_from s (faulty f) (inl t) = rw t.0 (short t.1)
body_from s (faulty f) (inr t) = magic_from s (faulty f) t.2.1 (subst (λ (x : List ℕ). MagicThen x (faulty f)) t.2.0 t.3)

pub section_one : (s : List ℕ) → ExactlyOne (SectionSays s)
section_one s = one_moved (SectionSays s) (BodyThen s) (body_to s) (body_from s) (body_one s)
