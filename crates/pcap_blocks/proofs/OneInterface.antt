-- Any bytes have exactly one reading as the body of an interface.
use Rattle.std.proofs.Common.{◌≡◌, ℕ, ◌<◌, List, [], ◌∷◌, length, refl, sym, ap, subst, ◌∙◌, inl, inr}
use Rattle.std.specs.Prelude.{◌⊎◌}
use Rattle.pcap_core.specs.Answer.{Order, Number, faulty}
use Rattle.pcap_core.specs.Faults.{Fault, Invalid}
use Rattle.pcap_core.specs.Laws.{ExactlyOne}
use Rattle.pcap_core.specs.Link.{Link}
use Rattle.pcap_core.specs.declared.link.DataLink.{DataLink}
use Rattle.pcap_core.specs.declared.rules.Rule.TheVariants.{InterfaceTooShort}
use Rattle.pcap_core.proofs.Links.{plain_same, link_of}
use Rattle.pcap_options.specs.Values.{Entry}
use Rattle.pcap_options.specs.Options.{may_end_with_body, ListSays}
use Rattle.pcap_options.specs.InterfaceOption.{interface_description}
use Rattle.pcap_blocks.specs.InterfaceDescription.{Interface, InterfaceHead, InterfaceText, InterfaceFault, short, in_options, InterfaceSays}
use Rattle.pcap_core.specs.Padded.{Behind}
use Rattle.pcap_core.proofs.Numbers.{Values, Numbers}
use Rattle.pcap_blocks.proofs.NumbersThen.{IsNumbersThen, numbers_then_one}
use Rattle.pcap_options.proofs.OneList.{list_one}

-- The widths of the link type, the reserved number and the snapshot length.
abbrev widths : List ℕ
widths = 2 ∷ 2 ∷ 4 ∷ []

interface_with : Values widths → List Entry → Interface
interface_with ns options = record { linktype = (link_of ns.0).0; reserved = ns.1.0; snaplen = ns.1.1.0; options = options }

numbers_of : (order : Order) (i : Interface) (s rest : List ℕ) → InterfaceHead order i s rest → Values widths
numbers_of order i s rest h = (h.link_number, (i.reserved, (i.snaplen, tt)))

link_same : (n : ℕ) (a b : DataLink) → Link n a → Link n b → a ≡ b
link_same n a b x y = plain_same a b x.plain y.plain (x.number ∙ sym y.number)

with_link : Interface → DataLink → Interface
with_link i link = record { linktype = link; reserved = i.reserved; snaplen = i.snaplen; options = i.options }

made_of_head : (order : Order) (i : Interface) (s rest : List ℕ) (h : InterfaceHead order i s rest) → i ≡ interface_with (numbers_of order i s rest h) i.options
unfolding interface_with with_link numbers_of
made_of_head order i s rest h = ap (with_link i) (link_same h.link_number i.linktype (link_of h.link_number).0 h.link_is (link_of h.link_number).1)

head_to : (order : Order) (i : Interface) (s rest : List ℕ) (h : InterfaceHead order i s rest) → Numbers order widths (numbers_of order i s rest h) s rest
unfolding numbers_of
head_to order i s rest h = (h.after_link, h.link_number_is, (h.after_reserved, h.reserved_is, (rest, h.snaplen_is, refl)))

head_from : (order : Order) (ns : Values widths) (options : List Entry) (s rest : List ℕ) → Numbers order widths ns s rest → InterfaceHead order (interface_with ns options) s rest
unfolding interface_with
head_from order ns options s rest t = record {
  link_number = ns.0;
  after_link = t.0;
  after_reserved = t.2.0;
  link_number_is = t.1;
  link_is = (link_of ns.0).1;
  reserved_is = t.2.1;
  snaplen_is = subst (λ (x : List ℕ). Number order 4 ns.1.1.0 t.2.0 x) t.2.2.2 t.2.2.1;
}

fault_to : (order : Order) (fault : Fault) (s : List ℕ) → InterfaceFault order s fault
    → ((fault ≡ Invalid InterfaceTooShort) × (length s < 8)) ⊎ ((after : List ℕ) × Behind 8 s after × ListSays may_end_with_body order interface_description after (faulty fault))
fault_to order fault s (short lt) = inl (refl, lt)
fault_to order fault s (in_options _ after behind stands) = inr (after, behind, stands)

interface_then : (order : Order) → IsNumbersThen order (Invalid InterfaceTooShort) widths interface_with (ListSays may_end_with_body order interface_description) (InterfaceText order) (InterfaceFault order)
unfolding interface_with
interface_then order = record {
  text_to = λ i s rest h. (numbers_of order i s h.after_head h.head, h.after_head, head_to order i s h.after_head h.head, i.options, made_of_head order i s h.after_head h.head, h.options_are);
  text_from = λ ns options s after rest n h. record { after_head = after; head = head_from order ns options s after n; options_are = h };
  fault_to = λ fault s h. fault_to order fault s h;
  short_from = λ s lt. short lt;
  fault_from = λ fault s after behind h. in_options fault after behind h;
  no_lack = λ s n h. h;
}

pub interface_one : (order : Order) (s : List ℕ) → ExactlyOne (InterfaceSays order s)
interface_one order =
    numbers_then_one order (Invalid InterfaceTooShort) widths interface_with (ListSays may_end_with_body order interface_description) (InterfaceText order) (InterfaceFault order) (interface_then order) (list_one may_end_with_body order interface_description)
