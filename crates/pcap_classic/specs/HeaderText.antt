-- The text of a capture's header ('File Header').
use Rattle.std.specs.Prelude.{◌≡◌, ◌<◌, ◌≤◌, ◌+◌, ℕ, List, length, IsTrue, false}
use Rattle.std.specs.Int.{w32, cast_signed}
use Rattle.byteorder.specs.Endian.{big_number}
use Rattle.pcap_classic.specs.declared.pcap.header.PcapHeader.{PcapHeader}
use Rattle.pcap_core.specs.declared.rules.Rule.TheVariants.{CaptureMagic}
use Rattle.pcap_core.specs.Answer.{Order, Number, number_in, Verdict, Says}
use Rattle.pcap_core.specs.Faults.{Fault, Invalid}
use Rattle.pcap_core.specs.Link.{Link}
use Rattle.pcap_classic.specs.Magic.{is_magic, order_of}

-- s is the fields after the magic number, in this byte order, and then rest.
pub record FieldsText (order : Order) (header : PcapHeader) (s rest : List ℕ) : Type 0 where
  pub correction_bits : ℕ
  pub link_number_is : ℕ
  pub after_major : List ℕ
  pub after_minor : List ℕ
  pub after_correction : List ℕ
  pub after_accuracy : List ℕ
  pub after_snaplen : List ℕ
  pub major : Number order 2 header.version_major s after_major
  pub minor : Number order 2 header.version_minor after_major after_minor
  pub correction : Number order 4 correction_bits after_minor after_correction
  pub correction_is : header.ts_correction ≡ cast_signed w32 correction_bits
  pub accuracy : Number order 4 header.ts_accuracy after_correction after_accuracy
  pub snaplen : Number order 4 header.snaplen after_accuracy after_snaplen
  pub link : Number order 4 link_number_is after_snaplen rest
  pub link_is : Link link_number_is header.datalink

-- s is the text of a header, and then rest.
pub record HeaderText (header : PcapHeader) (s rest : List ℕ) : Type 0 where
  pub after_magic : List ℕ
  pub valid : IsTrue (is_magic header.magic_number)
  pub magic : Number big_number 4 header.magic_number s after_magic
  pub fields : FieldsText (number_in (order_of header.magic_number)) header after_magic rest

-- s is a truncated header: n more bytes make 24.
pub record LacksHeader (s : List ℕ) (n : ℕ) : Type 0 where
  pub some : 0 < n
  pub missing : length s + n ≡ 24

-- s is long enough for a header, and has no valid magic number at its front.
pub record HasHeaderFault (s : List ℕ) (fault : Fault) : Type 0 where
  pub magic : ℕ
  pub after : List ℕ
  pub long : 24 ≤ length s
  pub text : Number big_number 4 magic s after
  pub invalid : is_magic magic ≡ false
  pub fault_is : fault ≡ Invalid CaptureMagic

-- The grammar's verdict on a capture's header at the front of s.
abbrev pub HeaderSays : List ℕ → Verdict PcapHeader → Type 0
HeaderSays s = Says (λ header rest. HeaderText header s rest) (LacksHeader s) (HasHeaderFault s)
