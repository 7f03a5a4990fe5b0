-- The joint results of the calls that read bodies leniently.
use Rattle.std.proofs.Common.{◌≡◌, ℕ, List, Option, Some, None, Result, Ok, Err, IfOk, Bor}
use Rattle.byteorder.specs.Endian.{big_number}
use Rattle.pcap_core.specs.declared.common.Endianness.{Endianness}
use Rattle.pcap_core.specs.declared.rules.Rule.{Rule}
use Rattle.pcap_core.specs.Answer.{Order, Number, number_in}
use Rattle.pcap_options.specs.Values.{Entry, Kind}
use Rattle.pcap_blocks.specs.SectionHeader.{Section, magic_order}
use Rattle.pcap_tolerant_blocks.specs.Flaws.{Said, alone, IfRoom}
use Rattle.pcap_tolerant_blocks.specs.OptionsAsIs.{OptionsAsIs}
use Rattle.pcap_tolerant_blocks.specs.SectionAsIs.{AfterMagic, SectionText}
use Rattle.pcap_tolerant_blocks.specs.StoredAsIs.{WithBytes, HasBytes, stored_with}
use Rattle.pcap_tolerant_blocks.specs.declared.stored.StoredBytes.{StoredBytes}

-- A section, from its magic number and what follows it.
pub section_text : (magic : ℕ) (section : Section) (flaws : List Said) (s behind rest : List ℕ) (e : Endianness) → Number big_number 4 magic s behind → magic_order magic ≡ Some e → section.magic ≡ magic
    → AfterMagic (number_in e) section flaws behind rest → SectionText section flaws s rest
section_text magic section flaws s behind rest e number names is after = record { after_magic = behind; endianness = e; magic_is = rw is number; names = rw is names; after = after }

-- If a call returns that there is no value, by a rule that the bytes break, the value is absent in lenient reading.
pub none_read : {X V E : Type 0} (IsText : V → List Said → List ℕ → List ℕ → Type 0) (NoRoom : List ℕ → Rule → Type 0) (value : X → Option V) (flaws : X → List Said) (s : List ℕ) (rule : Rule) (r : Result (Bor (List ℕ) × X) E) → NoRoom s rule
    → IfOk r (λ x. (x.0.now ≡ s) × (value x.1 ≡ None) × (flaws x.1 ≡ alone rule)) → IfOk r (λ x. IfRoom IsText NoRoom (value x.1) (flaws x.1) s x.0.now)
none_read IsText NoRoom value flaws s rule (Ok x) stands told = rw told.1 (rule, stands, told.2, told.0)
none_read IsText NoRoom value flaws s rule (Err e) stands told = told

-- Options read leniently behind the bytes of a packet.
pub with_options : (order : Order) (kind : Kind) (p : StoredBytes) (options : List Entry) (flaws : List Said) (s after rest : List ℕ) → HasBytes order p s after → OptionsAsIs order kind options flaws after rest
    → WithBytes order kind (stored_with p options) flaws s rest
with_options order kind p options flaws s after rest x list = record {
  after_head = x.after_head;
  after_bytes = after;
  head = record { after_time = x.head.after_time; after_captured = x.head.after_captured; time_is = x.head.time_is; captured_is = x.head.captured_is; original_is = x.head.original_is };
  captured = x.captured;
  padded = x.padded;
  options_are = list;
}
