-- The head of a packet record, and the fields after a magic number, as sequences of numbers.
use Rattle.std.proofs.Common.{◌≡◌, ℕ, ◌+◌, List, [], ◌∷◌, length, refl, sym, ap, subst, ◌∙◌}
use Rattle.std.specs.Prelude.{ℤ}
use Rattle.std.specs.Int.{w32, cast_signed}
use Rattle.pcap_classic.specs.declared.pcap.header.PcapHeader.{PcapHeader}
use Rattle.pcap_core.specs.declared.link.DataLink.{DataLink}
use Rattle.pcap_core.specs.Answer.{Order, Number}
use Rattle.pcap_classic.specs.HeaderText.{FieldsText}
use Rattle.pcap_classic.specs.PacketText.{Head, RecordHeadText}
use Rattle.pcap_core.proofs.Links.{plain_same, link_of}
use Rattle.pcap_core.proofs.Numbers.{Values, Numbers, numbers_same, numbers_length}

-- The widths of seconds, fraction, included and original length.
abbrev pub head_widths : List ℕ
head_widths = 4 ∷ 4 ∷ 4 ∷ 4 ∷ []

abbrev pub head_with : Values head_widths → Head
head_with ns = record { seconds = ns.0; fraction = ns.1.0; included = ns.1.1.0; original = ns.1.1.1.0 }

abbrev head_numbers : Head → Values head_widths
head_numbers head = (head.seconds, (head.fraction, (head.included, (head.original, tt))))

-- The widths of version, correction, accuracy, snaplen and link type.
abbrev pub field_widths : List ℕ
field_widths = 2 ∷ 2 ∷ 4 ∷ 4 ∷ 4 ∷ 4 ∷ []

abbrev pub header_with : ℕ → Values field_widths → PcapHeader
header_with magic ns = record {
  magic_number = magic;
  version_major = ns.0;
  version_minor = ns.1.0;
  ts_correction = cast_signed w32 ns.1.1.0;
  ts_accuracy = ns.1.1.1.0;
  snaplen = ns.1.1.1.1.0;
  datalink = (link_of ns.1.1.1.1.1.0).0;
}

-- The header with another correction and link type.
abbrev with_link : PcapHeader → ℤ → DataLink → PcapHeader
with_link header correction link = record {
  magic_number = header.magic_number;
  version_major = header.version_major;
  version_minor = header.version_minor;
  ts_correction = correction;
  ts_accuracy = header.ts_accuracy;
  snaplen = header.snaplen;
  datalink = link;
}

module _ (order : Order) where
  head_to : (head : Head) (s rest : List ℕ) → RecordHeadText order head s rest → Numbers order head_widths (head_numbers head) s rest
  head_to head s rest h = (h.after_seconds, h.seconds, (h.after_fraction, h.fraction, (h.after_included, h.included, (rest, h.original, refl))))

  pub head_from : (ns : Values head_widths) (s rest : List ℕ) → Numbers order head_widths ns s rest → RecordHeadText order (head_with ns) s rest
  head_from ns s rest t = record {
    after_seconds = t.0;
    after_fraction = t.2.0;
    after_included = t.2.2.0;
    seconds = t.1;
    fraction = t.2.1;
    included = t.2.2.1;
    original = subst (λ (x : List ℕ). Number order 4 ns.1.1.1.0 t.2.2.0 x) t.2.2.2.2 t.2.2.2.1;
  }

  pub head_same : (h k : Head) (s a b : List ℕ) → RecordHeadText order h s a → RecordHeadText order k s b → (h ≡ k) × (a ≡ b)
  head_same h k s a b p q =
      let e = numbers_same order head_widths (head_numbers h) (head_numbers k) s a b (head_to h s a p) (head_to k s b q) in
      (ap head_with e.0, e.1)

  pub head_length : (h : Head) (s a : List ℕ) → RecordHeadText order h s a → length s ≡ 16 + length a
  head_length h s a p = numbers_length order head_widths (head_numbers h) s a (head_to h s a p)

  field_numbers : (header : PcapHeader) (s rest : List ℕ) → FieldsText order header s rest → Values field_widths
  field_numbers header s rest h = (header.version_major, (header.version_minor, (h.correction_bits, (header.ts_accuracy, (header.snaplen, (h.link_number_is, tt))))))

  fields_to : (header : PcapHeader) (s rest : List ℕ) (h : FieldsText order header s rest) → Numbers order field_widths (field_numbers header s rest h) s rest
  unfolding field_numbers
  fields_to header s rest h =
      (h.after_major, h.major, (h.after_minor, h.minor, (h.after_correction, h.correction, (h.after_accuracy, h.accuracy, (h.after_snaplen, h.snaplen, (rest, h.link, refl))))))

  pub fields_from : (magic : ℕ) (ns : Values field_widths) (s rest : List ℕ) → Numbers order field_widths ns s rest → FieldsText order (header_with magic ns) s rest
  fields_from magic ns s rest t =
      let more = t.2.2 in
      record {
        correction_bits = ns.1.1.0;
        link_number_is = ns.1.1.1.1.1.0;
        after_major = t.0;
        after_minor = t.2.0;
        after_correction = more.0;
        after_accuracy = more.2.0;
        after_snaplen = more.2.2.0;
        major = t.1;
        minor = t.2.1;
        correction = more.1;
        correction_is = refl;
        accuracy = more.2.1;
        snaplen = more.2.2.1;
        link = subst (λ (x : List ℕ). Number order 4 ns.1.1.1.1.1.0 more.2.2.0 x) more.2.2.2.2 more.2.2.2.1;
        link_is = (link_of ns.1.1.1.1.1.0).1;
      }

  -- A header is determined by its numbers.
  header_made : (header : PcapHeader) (s rest : List ℕ) (h : FieldsText order header s rest) → header ≡ header_with header.magic_number (field_numbers header s rest h)
  unfolding field_numbers
  header_made header s rest h =
      let made = link_of h.link_number_is in
      let link : header.datalink ≡ made.0 = plain_same header.datalink made.0 h.link_is.plain made.1.plain (h.link_is.number ∙ sym made.1.number) in
      ap (λ (l : DataLink). with_link header header.ts_correction l) link ∙ ap (λ (z : ℤ). with_link header z made.0) h.correction_is

  pub fields_same : (p q : PcapHeader) (s a b : List ℕ) → p.magic_number ≡ q.magic_number → FieldsText order p s a → FieldsText order q s b → (p ≡ q) × (a ≡ b)
  fields_same p q s a b magic x y =
      let m = field_numbers q s b y in
      let e = numbers_same order field_widths (field_numbers p s a x) m s a b (fields_to p s a x) (fields_to q s b y) in
      let made : header_with p.magic_number (field_numbers p s a x) ≡ header_with q.magic_number m = ap (header_with p.magic_number) e.0 ∙ ap (λ (k : ℕ). header_with k m) magic in
      (header_made p s a x ∙ made ∙ sym (header_made q s b y), e.1)

  pub fields_length : (header : PcapHeader) (s rest : List ℕ) → FieldsText order header s rest → length s ≡ 20 + length rest
  fields_length header s rest h = numbers_length order field_widths (field_numbers header s rest h) s rest (fields_to header s rest h)
