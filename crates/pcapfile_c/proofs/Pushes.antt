-- Sequences of calls on a classic capture that comes in pieces.
use Rattle.std.proofs.Common.{take, map, ◌≡◌, ℕ, ℤ, List, [], ◌∷◌, ◌++◌, false, Bool, T, refl, sym, ap, subst, ◌∙◌, inl, inr, pos}
use Rattle.std.specs.Prelude.{IsTrue, ◌≢◌, ◌⊎◌}
use Rattle.pcap_core.specs.Answer.{number_in, whole}
use Rattle.pcap_items.specs.Format.{Front, Texts}
use Rattle.pcap_items.proofs.Formats.{texts_all, texts_more, texts_push}
use Rattle.pcap_classic.specs.declared.pcap.header.PcapHeader.{PcapHeader}
use Rattle.pcap_classic.specs.Front.{CaptureFront}
use Rattle.pcap_classic.specs.HeaderText.{HeaderSays, HeaderText}
use Rattle.pcap_classic.specs.Magic.{is_magic, order_of, resolution_of}
use Rattle.pcap_classic.specs.Packets.{format_under, packet_format}
use Rattle.pcap_classic.specs.PacketText.{Captured, packet_limit}
use Rattle.pcap_classic.proofs.HeadedPackets.{packets_lawful}
use Rattle.pcap_classic.proofs.Packets.{packets_say}
use Rattle.pcap_classic.proofs.Stable.{header_stable}
use Rattle.pcapfile_values.specs.declared.errors.PcapfileError.{PcapfileError}
use Rattle.pcapfile_values.specs.declared.shown.PcapfileHeader.{PcapfileHeader}
use Rattle.pcapfile_values.specs.declared.shown.PcapfilePacket.{PcapfilePacket}
use Rattle.pcapfile_values.specs.Refusals.{TellsRefusal}
use Rattle.pcapfile_values.specs.Shown.{captured, shown_header}
use Rattle.pcapfile_c.specs.declared.push.PcapfilePush.{PcapfilePush}
use Rattle.pcapfile_c.specs.Calls.{PacketsSaid}
use Rattle.pcapfile_c.specs.Push.{NextText, Opened, TakesFront, held_in}
use Rattle.pcapfile_c.specs.PushBatches.{TakesFrontPackets}
use Rattle.pcapfile_c.specs.Pushes.{GivesPackets, HaveEnded, KeepsNothing, TakingCall}
use Rattle.pcapfile_c.specs.Pushes.TakingCall.{one, many}
use Rattle.pcapfile_c.specs.RoomCalls.{all_given, all_put, under_status}
use Rattle.pcapfile_c.specs.Readers.{header_reader}
use Rattle.pcapfile_c.proofs.RoomLaws.{come_before, given_all, none_refused, put_all, refused_no_text, stays}

-- Packets under a magic number.
abbrev pub Under : ℕ → List Captured → List ℕ → List ℕ → Type 0
Under magic packets s rest = Texts (packet_format packet_limit (number_in (order_of magic)) (resolution_of magic)) tt packets s rest

-- There is no header yet, all of the bytes `s` are held, and there is no packet; or `s` is the text of the header, those of the packets,
-- and the held bytes.
abbrev pub HaveCome : List ℕ → PcapfileHeader → List ℕ → List Captured → Type 0
HaveCome s now held packets =
    ((is_magic now.magic_number ≡ false) × (held ≡ s) × (packets ≡ []))
    ⊎ ((header : PcapHeader) × (after : List ℕ) × (now ≡ shown_header header) × HeaderText header s after × Under header.magic_number packets after held)

pub not_both : (b : Bool) → IsTrue b → b ≡ false → ⊥
not_both b is wrong = subst T (sym is ∙ wrong) tt

-- The same, with nothing kept beside the room.
abbrev Known : List ℕ → PcapfileHeader → Unit {0} → List ℕ → List Captured → Type 0
Known s now kept held packets = HaveCome s now held packets

-- More bytes were put.
put_comes : (s t held : List ℕ) (now : PcapfileHeader) (kept : Unit {0}) (packets : List Captured) → HaveCome s now held packets → HaveCome (s ++ t) now (held ++ t) packets
put_comes s t held now kept packets (inl x) = inl (x.0, ap (λ (l : List ℕ). l ++ t) x.1, x.2)
put_comes s t held now kept packets (inr x) =
    let magic = x.0.magic_number in
    let order = number_in (order_of magic) in
    let r = resolution_of magic in
    let more = texts_more (packet_format packet_limit order r) (packets_lawful packet_limit order r) tt packets x.1 held t x.4 in
    inr (x.0, x.1 ++ t, x.2, header_stable.text s t x.1 x.0 x.3, more)

-- The text of the header was read, if there was no header yet.
pub opened_comes : (before now : PcapfileHeader) (held mid s : List ℕ) (packets : List Captured) → Opened before now held mid → HaveCome s before held packets
    → (header : PcapHeader) × (after : List ℕ) × (now ≡ shown_header header) × HeaderText header s after × Under header.magic_number packets after mid
opened_comes before now held mid s packets (inl o) (inl x) = absurd (not_both (is_magic before.magic_number) o.0 x.0)
opened_comes before now held mid s packets (inl o) (inr x) =
    (x.0, x.1, o.1 ∙ x.2, x.3, subst (λ (l : List ℕ). Under x.0.magic_number packets x.1 l) (sym o.2) x.4)
opened_comes before now held mid s packets (inr o) (inl x) =
    let none : Under o.1.magic_number packets mid mid = subst (λ (ps : List Captured). Under o.1.magic_number ps mid mid) (sym x.2) refl in
    (o.1, mid, o.2, subst (λ (l : List ℕ). HeaderText o.1 l mid) x.1 o.3, none)
opened_comes before now held mid s packets (inr o) (inr x) =
    let invalid : is_magic x.0.magic_number ≡ false = subst (λ (h : PcapfileHeader). is_magic h.magic_number ≡ false) x.2 o.0 in
    absurd (not_both (is_magic x.0.magic_number) x.3.valid invalid)

-- A packet was read.
pub packet_comes : (before now : PcapfileHeader) (held rest s : List ℕ) (packets : List Captured) (packet : Captured) → NextText before now packet held rest → HaveCome s before held packets
    → HaveCome s now rest (packets ++ packet ∷ [])
packet_comes before now held rest s packets packet n come =
    let o = opened_comes before now held n.0 s packets n.1 come in
    let magic = o.0.magic_number in
    let order = number_in (order_of magic) in
    let r = resolution_of magic in
    let said : PacketsSaid magic n.0 (whole packet rest) = subst (λ (h : PcapfileHeader). PacketsSaid h.magic_number n.0 (whole packet rest)) o.2 n.2 in
    let says = packets_say packet_limit order r tt n.0 (whole packet rest) said in
    let texts = texts_push (packet_format packet_limit order r) tt packets packet o.1 n.0 rest o.4 says in
    inr (o.0, o.1, o.2, o.3, texts)

-- A packet was read, or none.
next_comes : (before now : PcapfileHeader) (held rest s : List ℕ) (packets : List Captured) (old packet : PcapfilePacket) (error told : PcapfileError) (z : ℤ)
    → TakesFront (header_reader before held old error) (header_reader now rest packet told) z → HaveCome s before held packets → HaveCome s now rest (packets ++ under_status z (captured packet ∷ []))
next_comes before now held rest s packets old packet error told z (inl x) come =
    let given : under_status z (captured packet ∷ []) ≡ captured packet ∷ [] = ap (λ (k : ℤ). under_status k (captured packet ∷ [])) x.0 in
    rw given (packet_comes before now held rest s packets (captured packet) x.2 come)
next_comes before now held rest s packets old packet error told z (inr (inl x)) come =
    let none = none_refused (PacketsSaid now.magic_number rest) told z (captured packet ∷ []) x.2 in
    stays Known s rest rest now now tt tt packets (under_status z (captured packet ∷ [])) refl refl refl none (inr (opened_comes before now held rest s packets x.1 come))
next_comes before now held rest s packets old packet error told z (inr (inr x)) come =
    let none = none_refused (HeaderSays held) told z (captured packet ∷ []) x.4 in
    stays Known s held rest before now tt tt packets (under_status z (captured packet ∷ [])) x.2 refl x.3 none come

-- Packets were read, or none.
many_come : (before now : PcapfileHeader) (held rest s : List ℕ) (packets : List Captured) (old places : List PcapfilePacket) (taken : ℕ) (error told : PcapfileError) (z : ℤ)
    → TakesFrontPackets (header_reader before held old error) (header_reader now rest places told) taken z → HaveCome s before held packets → HaveCome s now rest (packets ++ map captured (take taken places))
many_come before now held rest s packets old places taken error told z (inl x) come =
    let more = map captured (take taken places) in
    let o = opened_comes before now held x.0 s packets x.1 come in
    let magic = o.0.magic_number in
    let there : Under magic more x.0 rest = subst (λ (h : PcapfileHeader). Under h.magic_number more x.0 rest) o.2 x.2.texts in
    let texts = texts_all (packet_format packet_limit (number_in (order_of magic)) (resolution_of magic)) tt packets more o.1 x.0 rest o.4 there in
    inr (o.0, o.1, o.2, o.3, texts)
many_come before now held rest s packets old places taken error told z (inr x) come =
    stays Known s held rest before now tt tt packets (map captured (take taken places)) x.2 refl x.3 (ap (λ (n : ℕ). map captured (take n places)) x.0.0) come

-- A call that reads packets.
taking_comes : (z : ℤ) (before push : PcapfilePush) (kept next : Unit {0}) (room s : List ℕ) (packets given : List Captured) → TakingCall before push room z given → HaveCome s before.header (held_in before room) packets
    → HaveCome s push.header (held_in push room) (packets ++ given)
taking_comes z before push kept next room s packets given (one old packet error told (inl x)) come = next_comes before.header push.header (held_in before room) (held_in push room) s packets old packet error told z x.3 come
taking_comes z before push kept next room s packets given (one old packet error told (inr x)) come =
    let none : under_status z (captured packet ∷ []) ≡ [] = ap (λ (k : ℤ). under_status k (captured packet ∷ [])) x.0 in
    stays Known s (held_in before room) (held_in push room) before.header push.header tt tt packets (under_status z (captured packet ∷ [])) (ap (λ (p : PcapfilePush). p.header) x.2) refl (ap (λ (p : PcapfilePush). held_in p room) x.2) none come
taking_comes z before push kept next room s packets given (many old places taken error told (inl x)) come = many_come before.header push.header (held_in before room) (held_in push room) s packets old places taken error told z x.3 come
taking_comes z before push kept next room s packets given (many old places taken error told (inr x)) come =
    let none : map captured (take taken places) ≡ [] = ap (λ (n : ℕ). map captured (take n places)) x.3.0 in
    stays Known s (held_in before room) (held_in push room) before.header push.header tt tt packets (map captured (take taken places)) (ap (λ (p : PcapfilePush). p.header) x.2) refl (ap (λ (p : PcapfilePush). held_in p room) x.2) none come

-- Bytes that are refused begin with no packet.
pub no_packet : (magic : ℕ) (left : List ℕ) (told : PcapfileError) (z : ℤ) → TellsRefusal (PacketsSaid magic left) told z → (v : Captured) (after : List ℕ)
    → (packet_format packet_limit (number_in (order_of magic)) (resolution_of magic)).says tt left (whole v after) → ⊥
unfolding packet_format
no_packet magic left told z refused v after text =
    let order = number_in (order_of magic) in
    let r = resolution_of magic in
    refused_no_text (packet_format packet_limit order r) (packets_lawful packet_limit order r) tt left told z refused v after text

-- The reason why no packet follows after the header.
abbrev Refuses : PcapfilePush → List ℕ → ℤ → Type 0
Refuses push room z = (told : PcapfileError) × TellsRefusal (PacketsSaid push.header.magic_number (held_in push room)) told z

taking_refuses : (before push : PcapfilePush) (room : List ℕ) (given : List Captured) (z : ℤ) → TakingCall before push room z given → z ≢ pos 0 → z ≢ pos 10 → IsTrue (is_magic push.header.magic_number) → Refuses push room z
taking_refuses before push room given z (one old packet error told (inl (lies, within, end, inl x))) some known valid = absurd (some x.0)
taking_refuses before push room given z (one old packet error told (inl (lies, within, end, inr (inl x)))) some known valid = (told, x.2)
taking_refuses before push room given z (one old packet error told (inl (lies, within, end, inr (inr x)))) some known valid =
    let none : is_magic push.header.magic_number ≡ false = subst (λ (h : PcapfileHeader). is_magic h.magic_number ≡ false) (sym x.2) x.1 in
    absurd (not_both (is_magic push.header.magic_number) valid none)
taking_refuses before push room given z (one old packet error told (inr x)) some known valid = absurd (known x.0)
taking_refuses before push room given z (many old places taken error told (inl (lies, within, end, inl x))) some known valid = elim x.2.ends [
  | inl e ↦ absurd (some e.0)
  | inr e ↦ (told, e.1)
]
taking_refuses before push room given z (many old places taken error told (inl (lies, within, end, inr x))) some known valid =
    let none : is_magic push.header.magic_number ≡ false = subst (λ (h : PcapfileHeader). is_magic h.magic_number ≡ false) (sym x.2) x.1 in
    absurd (not_both (is_magic push.header.magic_number) valid none)
taking_refuses before push room given z (many old places taken error told (inr x)) some known valid = absurd (known x.0)

-- If the bytes after all returned packets are refused, these packets are those of the front.
front_come : (now : PcapfileHeader) (left s : List ℕ) (packets : List Captured) (told : PcapfileError) (z : ℤ) → IsTrue (is_magic now.magic_number) → TellsRefusal (PacketsSaid now.magic_number left) told z
    → HaveCome s now left packets → (header : PcapHeader) × (now ≡ shown_header header) × CaptureFront packet_limit header packets s left
front_come now left s packets told z valid refused (inl x) = absurd (not_both (is_magic now.magic_number) valid x.0)
front_come now left s packets told z valid refused (inr o) =
    let here : TellsRefusal (PacketsSaid o.0.magic_number left) told z = subst (λ (h : PcapfileHeader). TellsRefusal (PacketsSaid h.magic_number left) told z) o.2 refused in
    let front : Front (format_under packet_limit o.0) tt packets o.1 left = record { texts = o.4; longest = λ v after text. no_packet o.0.magic_number left told z here v after text } in
    (o.0, o.2, record { after = o.1; header_text = o.3; front = front })

-- Between two calls, nothing beside the room changes.
nothing_changes : (s held : List ℕ) (header : PcapfileHeader) (kept next : Unit {0}) (packets : List Captured) → KeepsNothing kept next → HaveCome s header held packets → HaveCome s header held packets
nothing_changes s held header kept next packets keeps come = come

-- The law: for any pieces of the bytes and any calls, the returned packets are those of the front of all bytes.
pub pushes_front : (calls : List (List ℕ × List Captured)) (push : PcapfilePush) (room : List ℕ) → HaveEnded calls push room
    → (header : PcapHeader) × (push.header ≡ shown_header header) × CaptureFront packet_limit header (all_given calls) (all_put calls) (held_in push room)
pushes_front calls push room x =
    let come = come_before GivesPackets KeepsNothing Known put_comes taking_comes nothing_changes _ _ calls push tt room x (inl (x.fresh, refl, refl)) in
    let there = taking_comes x.status x.last push tt tt room (all_put x.earlier) (all_given x.earlier) x.given x.tells come in
    let refused = taking_refuses x.last push room x.given x.status x.tells x.refused x.ends.0 x.ends.1 in
    let put = put_all GivesPackets KeepsNothing Known put_comes taking_comes nothing_changes _ _ calls push tt room x in
    let given = given_all GivesPackets KeepsNothing Known put_comes taking_comes nothing_changes _ _ calls push tt room x in
    rw (put, given) (front_come push.header (held_in push room) (all_put x.earlier) (all_given x.earlier ++ x.given) refused.0 x.status x.ends.1 refused.1 there)
