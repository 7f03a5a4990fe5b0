-- The one head and the one header of given bytes.
use Rattle.std.proofs.Common.{◌≡◌, ℕ, List, Bool, false, ap, subst, ◌∙◌}
use Rattle.std.specs.Prelude.{IsTrue}
use Rattle.pcap_core.specs.declared.errors.PcapError.{PcapError}
use Rattle.pcap_core.specs.Answer.{number_in, lacks, faulty, Refuses}
use Rattle.pcap_items.proofs.Fronts.{said_not_refused}
use Rattle.pcap_classic.specs.declared.pcap.header.PcapHeader.{PcapHeader}
use Rattle.pcap_classic.specs.Magic.{order_of}
use Rattle.pcap_classic.specs.HeaderText.{HeaderSays, HeaderText}
use Rattle.pcap_classic.specs.PacketText.{Head, RecordHeadText}
use Rattle.pcap_classic.proofs.FieldNumbers.{head_same}
use Rattle.pcap_classic.proofs.One.{header_same, header_one}
use Rattle.pcap_damaged.specs.Plausible.{BeginsCapture, BeginsNear, MayFollow}
use Rattle.pcap_damaged.specs.Weighed.{CanBe, HeadCanBe}

-- A capture that begins here has the version of the header that was read.
pub capture_version : (h : PcapHeader) (s rest : List ℕ) → HeaderText h s rest → BeginsCapture s → (h.version_major ≡ 2) × (h.version_minor ≡ 4)
capture_version h s rest x b =
    let e = (header_same h b.header s rest b.rest x b.text).0 in
    (ap (λ (p : PcapHeader). p.version_major) e ∙ b.major, ap (λ (p : PcapHeader). p.version_minor) e ∙ b.minor)

-- No capture begins where no header is read.
pub no_capture : (s : List ℕ) (e : PcapError) → Refuses ⊥ (λ n. HeaderSays s (lacks n)) (λ fault. HeaderSays s (faulty fault)) e → BeginsCapture s → ⊥
no_capture s e x b = said_not_refused (HeaderSays s) (header_one s) b.header b.rest b.text e x

-- The head that was read can be as long as the head of these bytes.
pub head_can_be : (header : PcapHeader) (time : ℕ) (head : Head) (s rest : List ℕ) (n : ℕ) → RecordHeadText (number_in (order_of header.magic_number)) head s rest → HeadCanBe header time s n → CanBe header time head n
head_can_be header time head s rest n x can =
    let e = head_same (number_in (order_of header.magic_number)) can.head head s can.rest rest can.text x in
    subst (λ (h : Head). CanBe header time h n) e.0 can.can

-- The head that was read may follow, as the head of these bytes does.
pub head_may_follow : (header : PcapHeader) (time : ℕ) (head : Head) (s rest : List ℕ) → RecordHeadText (number_in (order_of header.magic_number)) head s rest → BeginsNear header time s → MayFollow time head
head_may_follow header time head s rest x begins =
    let e = head_same (number_in (order_of header.magic_number)) begins.head head s begins.rest rest begins.text x in
    subst (MayFollow time) e.0 begins.may

-- What is false is not true.
pub untrue : {b : Bool} → b ≡ false → IsTrue b → ⊥
untrue isnt is = cc
