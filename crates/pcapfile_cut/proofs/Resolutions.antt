-- Lemmas on captures that get another resolution.
use Rattle.std.proofs.Common.{◌≡◌, ◌<◌, ◌*◌, ◌/◌, ◌^◌, ℕ, List, [], ◌++◌, drop, Bool, true, false, Option, Some, None, refl, sym, ap, ◌∙◌, subst, arith}
use Rattle.std.specs.Prelude.{⊤, ◌==◌, IsTrue, is_some, if◌then◌else◌}
use Rattle.std.specs.Option.{option_map_or}
use Rattle.std.proofs.lemmas.Bool.Decides.{nat_tests}
use Rattle.std.proofs.Math.Seq.{drop_at}
use Rattle.byteorder.specs.Endian.{big_bytes, big_number}
use Rattle.pcap_core.specs.declared.common.Endianness.{Endianness}
use Rattle.pcap_core.specs.declared.common.Endianness.TheVariants.{Big, Little}
use Rattle.pcap_core.specs.Answer.{Number, Order, number_in}
use Rattle.pcap_core.specs.Bytes.{IsBytes}
use Rattle.pcap_core.proofs.Codec.{codec, number_again}
use Rattle.pcap_core.proofs.WrittenNumbers.{number_written}
use Rattle.pcap_classic.specs.declared.common.TsResolution.{TsResolution}
use Rattle.pcap_classic.specs.declared.common.TsResolution.TheVariants.{MicroSecond, NanoSecond}
use Rattle.pcap_classic.specs.declared.pcap.header.PcapHeader.{PcapHeader}
use Rattle.pcap_classic.specs.HeaderText.{FieldsText, HeaderText}
use Rattle.pcap_classic.specs.Magic.{is_magic, kind_of, magic_for, order_of, resolution_of}
use Rattle.pcap_classic.specs.PacketText.{Captured}
use Rattle.pcapfile_cut.specs.declared.opening.Opening.{Opening}
use Rattle.pcapfile_cut.specs.Changes.{rounded}
use Rattle.pcapfile_cut.specs.Openings.{bytes_in, bytes_of, header_in, header_of}
use Rattle.pcapfile_cut.specs.Selections.{time_of}

-- A magic number has the byte order and the resolution for which it is made.
pub order_again : (e : Endianness) (r : TsResolution) → order_of (magic_for e r) ≡ e
unfolding kind_of order_of
order_again Big MicroSecond = refl
order_again Big NanoSecond = refl
order_again Little MicroSecond = refl
order_again Little NanoSecond = refl

pub resolution_again : (e : Endianness) (r : TsResolution) → resolution_of (magic_for e r) ≡ r
unfolding kind_of resolution_of
resolution_again Big MicroSecond = refl
resolution_again Big NanoSecond = refl
resolution_again Little MicroSecond = refl
resolution_again Little NanoSecond = refl

valid_again : (e : Endianness) (r : TsResolution) → IsTrue (is_magic (magic_for e r))
unfolding kind_of is_magic
valid_again Big MicroSecond = refl
valid_again Big NanoSecond = refl
valid_again Little MicroSecond = refl
valid_again Little NanoSecond = refl

magic_fits : (e : Endianness) (r : TsResolution) → magic_for e r < 2 ^ 32
magic_fits Big MicroSecond = omega arith
magic_fits Big NanoSecond = omega arith
magic_fits Little MicroSecond = omega arith
magic_fits Little NanoSecond = omega arith

-- If a magic number has a kind, it is the magic number of that kind.
abbrev IsOfKind : ℕ → Option (Endianness × TsResolution) → Type 0
IsOfKind magic None = ⊤
IsOfKind magic (Some kind) = magic_for kind.0 kind.1 ≡ magic

one_kind : (magic n : ℕ) (kind : Endianness × TsResolution) (others : Option (Endianness × TsResolution)) (is : Bool) → (magic == n) ≡ is → magic_for kind.0 kind.1 ≡ n → IsOfKind magic others
    → IsOfKind magic (if is then Some kind else others)
one_kind magic n kind others true is made rest =
    let same : n ≡ magic = grind (arith, nat_tests, is) in
    made ∙ same
one_kind magic n kind others false is made rest = rest

each_kind : (magic : ℕ) → IsOfKind magic (kind_of magic)
unfolding kind_of
each_kind magic =
    let fourth = one_kind magic 0x4d3cb2a1 (Little, NanoSecond) None (magic == 0x4d3cb2a1) refl refl tt in
    let third = one_kind magic 0xd4c3b2a1 (Little, MicroSecond) _ (magic == 0xd4c3b2a1) refl refl fourth in
    let second = one_kind magic 0xa1b23c4d (Big, NanoSecond) _ (magic == 0xa1b23c4d) refl refl third in
    one_kind magic 0xa1b2c3d4 (Big, MicroSecond) _ (magic == 0xa1b2c3d4) refl refl second

kind_again : (magic : ℕ) (kind : Option (Endianness × TsResolution)) → IsOfKind magic kind → IsTrue (is_some kind)
    → magic_for (option_map_or (λ (it : Endianness × TsResolution). it.0) kind Big) (option_map_or (λ (it : Endianness × TsResolution). it.1) kind MicroSecond) ≡ magic
kind_again magic None is valid = absurd cc
kind_again magic (Some kind) is valid = is

-- A valid magic number is that of its byte order and resolution.
pub magic_again : (magic : ℕ) → IsTrue (is_magic magic) → magic_for (order_of magic) (resolution_of magic) ≡ magic
unfolding is_magic order_of resolution_of
magic_again magic valid = kind_again magic (kind_of magic) (each_kind magic) valid

-- The fields after the magic number are those of the header with another one.
fields_with : (order : Order) (header : PcapHeader) (magic : ℕ) (s rest : List ℕ) → FieldsText order header s rest → FieldsText order (record header { magic_number = magic }) s rest
fields_with order header magic s rest fields = record {
  correction_bits = fields.correction_bits;
  link_number_is = fields.link_number_is;
  after_major = fields.after_major;
  after_minor = fields.after_minor;
  after_correction = fields.after_correction;
  after_accuracy = fields.after_accuracy;
  after_snaplen = fields.after_snaplen;
  major = fields.major;
  minor = fields.minor;
  correction = fields.correction;
  correction_is = fields.correction_is;
  accuracy = fields.accuracy;
  snaplen = fields.snaplen;
  link = fields.link;
  link_is = fields.link_is;
}

-- The bytes of an opening behind its magic number are its fields.
behind_magic : (opening : Opening) (text : HeaderText (header_of opening) (bytes_of opening) []) → drop 4 (bytes_of opening) ≡ text.after_magic
behind_magic opening text = ap (drop 4) text.magic.text ∙ drop_at text.magic.bytes text.after_magic 4 text.magic.length_is

-- An opening with the magic number of another resolution is read as the header with that magic number.
pub opening_read : (resolution : Option TsResolution) (opening : Opening) → HeaderText (header_of opening) (bytes_of opening) []
    → HeaderText (header_in resolution (header_of opening)) (bytes_in resolution opening) []
opening_read None opening text = text
opening_read (Some resolution) opening text =
    let header = header_of opening in
    let e = order_of header.magic_number in
    let magic = magic_for e resolution in
    let after = text.after_magic in
    let number : Number big_number 4 magic (big_bytes 4 magic ++ after) after = number_again big_number big_bytes (codec Big) 4 magic after (magic_fits e resolution) in
    record {
      after_magic = after;
      valid = valid_again e resolution;
      magic = subst (λ (t : List ℕ). Number big_number 4 magic (big_bytes 4 magic ++ t) after) (sym (behind_magic opening text)) number;
      fields = subst (λ (o : Endianness). FieldsText (number_in o) (record header { magic_number = magic }) after []) (sym (order_again e resolution))
          (fields_with (number_in e) header magic after [] text.fields);
    }

-- The header of a capture in the resolution that it has is its own.
pub same_header : (header : PcapHeader) → IsTrue (is_magic header.magic_number) → header_in (Some (resolution_of header.magic_number)) header ≡ header
same_header header valid = ap (λ (magic : ℕ). record header { magic_number = magic }) (magic_again header.magic_number valid)

-- An opening keeps its bytes in the resolution that it has.
pub same_opening : (opening : Opening) → IsBytes (bytes_of opening) → HeaderText (header_of opening) (bytes_of opening) []
    → bytes_in (Some (resolution_of (header_of opening).magic_number)) opening ≡ bytes_of opening
same_opening opening fits text =
    let magic = (header_of opening).magic_number in
    ap (λ (n : ℕ). big_bytes 4 n ++ drop 4 (bytes_of opening)) (magic_again magic text.valid) ∙ ap (λ (t : List ℕ). big_bytes 4 magic ++ t) (behind_magic opening text)
    ∙ sym (number_written Big magic (bytes_of opening) text.after_magic fits text.magic)

-- A time in nanoseconds is not rounded.
pub nanoseconds_stay : (packet : Captured) → rounded (Some NanoSecond) packet ≡ packet
nanoseconds_stay packet = refl

-- A time in microseconds is rounded down to one.
pub microseconds_below : (packet : Captured) → time_of (rounded (Some MicroSecond) packet).header ≡ 1000 * (time_of packet.header / 1000)
microseconds_below packet = omega arith
