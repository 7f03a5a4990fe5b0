-- A packet's header states the length of its data.
use Rattle.std.proofs.Common.{◌≡◌, ◌<◌, ◌≤◌, ℕ, List, [], ◌++◌, length, drop, Bool, true, false, refl, sym, ap, subst, ◌∙◌, arith, append-nil, inr, Option, Result, Ok, Err, Some, None}
use Rattle.std.proofs.lemmas.List.{drop_at}
use Rattle.pcap_core.specs.declared.errors.PcapError.{PcapError}
use Rattle.pcap_classic.specs.declared.pcap.header.PcapHeader.{PcapHeader}
use Rattle.pcap_classic.specs.declared.pcap.packet.PacketHeader.{PacketHeader}
use Rattle.pcap_core.specs.Answer.{number_in, whole, lacks, faulty, Refuses}
use Rattle.pcap_core.specs.Faults.{Fault, Shows}
use Rattle.pcap_items.specs.Format.{Format}
use Rattle.pcap_core.specs.declared.common.Endianness.{Endianness}
use Rattle.pcap_classic.specs.declared.common.TsResolution.{TsResolution}
use Rattle.pcap_classic.specs.Magic.{kind_of, is_magic, order_of, resolution_of}
use Rattle.pcap_classic.specs.PacketText.{packet_limit, Captured, PacketHeaderText, PacketText, LacksHead, HasHeadFault}
use Rattle.pcap_items.specs.Reading.{Takes, Pulls}
use Rattle.pcap_classic.specs.Packets.{packet_format, refusing_format, choice, reader_format}
use Rattle.pcap_classic.proofs.Packets.{reader_says}
use Rattle.pcap_core.proofs.Refusals.{refuses_shows, shows_more}
use Rattle.pcap_classic.proofs.Stable.{packet_header_more}
use Rattle.pcap_items.specs.Filling.{Stated, FillsHeaded, TakesStated}
use Rattle.pcap_classic.specs.StatedPackets.{KnowsHeader, held_packet}

-- The facts that the kind of a magic number implies.
pub kind_is : (magic : ℕ) (e : Endianness) (r : TsResolution) → kind_of magic ≡ Some (e, r) → (is_magic magic ≡ true) × (order_of magic ≡ e) × (resolution_of magic ≡ r)
unfolding is_magic order_of resolution_of
kind_is magic e r k = rw k (refl, refl, refl)

pub no_kind : (magic : ℕ) → kind_of magic ≡ None → is_magic magic ≡ false
unfolding is_magic
no_kind magic k = rw k refl

chosen_head : (b : Bool) (f g : Format (Unit {0}) Captured) → b ≡ true → (choice b f g).head tt ≡ f.head tt
chosen_head true f g e = refl
chosen_head false f g e = absurd cc

pub reader_head : (header : PcapHeader) → is_magic header.magic_number ≡ true → (reader_format packet_limit header).head tt ≡ 16
unfolding reader_format packet_format
reader_head header valid = chosen_head (is_magic header.magic_number) _ _ valid

-- A known header and the data after it are a packet.
pub packet_stands : (header : PcapHeader) (head : PacketHeader) (n : ℕ) (front body s : List ℕ) → KnowsHeader header head n front → s ≡ front ++ body → length body ≡ n
    → (reader_format packet_limit header).says tt s (whole (record { header = head; bytes = body }) [])
packet_stands header head n front body s k split count =
    let order = number_in (order_of header.magic_number) in
    let r = resolution_of header.magic_number in
    let more : PacketHeaderText packet_limit order r head (front ++ body) body = packet_header_more body packet_limit order r head front [] k.text in
    let text : PacketText packet_limit order r (record { header = head; bytes = body }) s [] = record {
      after = body;
      header = subst (λ (l : List ℕ). PacketHeaderText packet_limit order r head l body) (sym split) more;
      data_is = sym (append-nil body);
      whole = count ∙ sym k.follows;
    } in
    reader_says packet_limit header s (whole (record { header = head; bytes = body }) []) k.valid text

-- After a known header, its data is missing.
pub packet_lacks : (header : PcapHeader) (head : PacketHeader) (n : ℕ) (s : List ℕ) → KnowsHeader header head n s → 0 < n → (reader_format packet_limit header).says tt s (lacks n)
packet_lacks header head n s k some =
    reader_says packet_limit header s (lacks n) k.valid (inr (record { header = head; after = []; text = k.text; some = some; missing = omega (arith, k.follows) }))

-- 16 bytes that are not a good header are refused.
pub header_refused : (header : PcapHeader) (s : List ℕ) (e : PcapError) → is_magic header.magic_number ≡ true → length s ≡ 16
    → Refuses ⊥ (λ n. LacksHead s n) (HasHeadFault packet_limit (number_in (order_of header.magic_number)) (resolution_of header.magic_number) s) e
    → Shows (λ fault. (reader_format packet_limit header).says tt s (faulty fault)) e
header_refused header s e valid long refuses =
    let order = number_in (order_of header.magic_number) in
    let r = resolution_of header.magic_number in
    let step : (fault : Fault) → HasHeadFault packet_limit order r s fault → (reader_format packet_limit header).says tt s (faulty fault) = λ fault x. reader_says packet_limit header s (faulty fault) valid x in
    shows_more step e (refuses_shows (λ n. LacksHead s n) (HasHeadFault packet_limit order r s) e (λ n lack. omega (arith, long, lack.some, lack.missing)) refuses)

-- The packet that held bytes show.
pub shown_stands : (header : PcapHeader) (head : PacketHeader) (s : List ℕ) → Stated (KnowsHeader header) ((reader_format packet_limit header).head tt) head s
    → (reader_format packet_limit header).says tt s (whole (record { header = head; bytes = drop 16 s }) [])
shown_stands header head s t =
    let long : length t.front ≡ 16 = t.length_is ∙ reader_head header t.knows.valid in
    let back : drop 16 s ≡ t.body = ap (drop 16) t.split ∙ drop_at t.front t.body 16 long in
    subst (λ (l : List ℕ). (reader_format packet_limit header).says tt s (whole (record { header = head; bytes = l }) [])) (sym back)
    (packet_stands header head (length t.body) t.front t.body s t.knows t.split refl)

-- The bytes that a buffer was filled with were taken.
pub packet_held : (header : PcapHeader) (before after : Option (List ℕ)) (held : List ℕ) (failed : Bool) (result : Result (Option PacketHeader) PcapError)
    → FillsHeaded ((reader_format packet_limit header).says tt) (KnowsHeader header) ((reader_format packet_limit header).head tt) before after held failed result
    → Pulls ((reader_format packet_limit header).says tt) (held_packet held) before after failed result
packet_held header before after held failed (Ok (Some head)) x = (x.0, (held, shown_stands header head held x.1, x.4))
packet_held header before after held failed (Ok None) x = (x.0, x.2, x.3)
packet_held header before after held failed (Err e) x = x

-- A header that was taken and the data that it states are a packet.
pub packet_taken : (header : PcapHeader) (head : PacketHeader) (body : List ℕ) (before after : Option (List ℕ))
    → TakesStated ((reader_format packet_limit header).says tt) (KnowsHeader header) ((reader_format packet_limit header).head tt) before after head body
    → Takes ((reader_format packet_limit header).says tt) before after (record { header = head; bytes = body })
packet_taken header head body before after x =
    let s = x.stated in
    let stands = packet_stands header head (length s.body) s.front s.body x.bytes s.knows s.split refl in
    (x.bytes, subst (λ (l : List ℕ). (reader_format packet_limit header).says tt x.bytes (whole (record { header = head; bytes = l }) [])) x.body_is stands, x.took)

choice_within : (b : Bool) (f g : Format (Unit {0}) Captured) → f.head tt ≤ 16 → g.head tt ≤ 16 → (choice b f g).head tt ≤ 16
choice_within true f g x y = x
choice_within false f g x y = y

-- No head is longer than a packet's header.
pub head_within : (header : PcapHeader) → (reader_format packet_limit header).head tt ≤ 16
unfolding reader_format packet_format refusing_format
head_within header = choice_within (is_magic header.magic_number) _ _ (omega arith) (omega arith)
