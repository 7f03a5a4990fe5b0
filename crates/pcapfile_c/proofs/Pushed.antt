-- The held bytes of a capture that comes in pieces.
use Rattle.std.proofs.Common.{◌≡◌, ◌≤◌, ◌+◌, ◌-◌, ℕ, ℤ, List, [], ◌++◌, length, take, drop, sym, ap, subst, ◌∙◌, arith, append_assoc, length-drop, inl, inr, refl}
use Rattle.std.proofs.lemmas.List.{drop-take, drop-append-le, length-take-le, take-append-drop}
use Rattle.std.proofs.lemmas.List.Edits.{drop-paste, take-paste}
use Rattle.std.proofs.Math.Seq.{take-add}
use Rattle.std.specs.List.{copy_within}
use Rattle.pcap_core.specs.Answer.{whole, number_in}
use Rattle.pcap_classic.specs.Magic.{order_of, resolution_of}
use Rattle.pcap_classic.specs.PacketText.{Captured, packet_limit}
use Rattle.pcap_classic.proofs.HeadedPackets.{packets_lawful}
use Rattle.pcap_classic.proofs.Packets.{packets_say}
use Rattle.pcap_classic.proofs.Pieces.{header_opening}
use Rattle.pcap_items.proofs.Pieces.{after_is_drop}
use Rattle.pcapfile_values.specs.declared.errors.PcapfileError.{PcapfileError}
use Rattle.pcapfile_values.specs.declared.shown.PcapfileHeader.{PcapfileHeader}
use Rattle.pcapfile_values.specs.declared.shown.PcapfilePacket.{PcapfilePacket}
use Rattle.pcapfile_values.specs.Shown.{captured}
use Rattle.pcapfile_c.specs.declared.push.PcapfilePush.{PcapfilePush}
use Rattle.pcapfile_c.specs.Calls.{PacketsSaid}
use Rattle.pcapfile_c.specs.Push.{LiesWithin, Opened, TakesFront, TakesNext, held_in}
use Rattle.pcapfile_c.specs.Readers.{header_reader, reader}

-- The bytes between two places of a room.
pub between_same : (b e : ℕ) (room : List ℕ) → b ≤ e → take (e - b) (drop b room) ≡ drop b (take e room)
between_same b e room within =
    let sum : b + (e - b) ≡ e = omega (arith, within) in
    sym (ap (λ (n : ℕ). drop b (take n room)) (sym sum) ∙ drop-take b (e - b) room)

-- More bytes are held.
pub put_held : (b e n : ℕ) (room : List ℕ) → b ≤ e → e + n ≤ length room → drop b (take (e + n) room) ≡ drop b (take e room) ++ take n (drop e room)
put_held b e n room within fits =
    let long : length (take e room) ≡ e = length-take-le e room (omega (arith, fits)) in
    ap (drop b) (take-add e n room) ∙ drop-append-le b (take e room) (take n (drop e room)) (omega (arith, within, long))

-- The held bytes after they moved.
pub moved_held : (b e : ℕ) (room : List ℕ) → b ≤ e → e ≤ length room → take (e - b) (copy_within room b e 0) ≡ drop b (take e room)
moved_held b e room within fits =
    let zero : 0 + (e - b) ≡ e - b = omega arith in
    ap (λ (k : ℕ). take k (copy_within room b e 0)) (sym zero) ∙ take-paste room 0 (drop b room) (e - b) (omega arith) (omega (arith, fits, within, length-drop b room)) ∙ between_same b e room within

-- The bytes after the held ones.
pub moved_behind : (b e : ℕ) (room : List ℕ) → b ≤ e → e ≤ length room → drop (e - b) (copy_within room b e 0) ≡ drop (e - b) room
moved_behind b e room within fits =
    let zero : 0 + (e - b) ≡ e - b = omega arith in
    subst (λ (k : ℕ). drop k (copy_within room b e 0) ≡ drop k room) zero (drop-paste room 0 (drop b room) (e - b) (omega arith) (omega (arith, fits, within, length-drop b room)))

-- What follows a text in the held bytes ends where these end.
rest_held : (b e : ℕ) (room t rest : List ℕ) → b ≤ e → e ≤ length room → drop b (take e room) ≡ t ++ rest → drop (e - length rest) (take e room) ≡ rest
rest_held b e room t rest within fits text =
    let n = take e room in
    let long : length n ≡ e = length-take-le e room fits in
    let all : n ≡ (take b n ++ t) ++ rest = sym (take-append-drop b n) ∙ ap (λ (l : List ℕ). take b n ++ l) text ∙ sym (append_assoc (take b n) t rest) in
    ap (λ (k : ℕ). drop (k - length rest) n) (sym long) ∙ after_is_drop n (take b n ++ t) rest all

-- What follows the text of a packet.
packet_ends : (magic : ℕ) (s rest : List ℕ) (p : Captured) → PacketsSaid magic s (whole p rest) → (t : List ℕ) × (s ≡ t ++ rest)
packet_ends magic s rest p x =
    let order = number_in (order_of magic) in
    let r = resolution_of magic in
    let o = (packets_lawful packet_limit order r).own tt s rest p (packets_say packet_limit order r tt s (whole p rest) x) in
    (o.0, o.1)

-- What follows the text of the header.
pub opened_ends : (before now : PcapfileHeader) (s after : List ℕ) → Opened before now s after → (t : List ℕ) × (s ≡ t ++ after)
opened_ends before now s after (inl x) = ([], sym x.2)
opened_ends before now s after (inr x) = header_opening.ends s after x.1 x.3

-- What is left is the end of the bytes.
front_ends : (before now : PcapfileHeader) (s rest : List ℕ) (old packet : PcapfilePacket) (error told : PcapfileError) (z : ℤ)
    → TakesFront (header_reader before s old error) (header_reader now rest packet told) z → (t : List ℕ) × (s ≡ t ++ rest)
front_ends before now s rest old packet error told z (inl x) =
    let n = x.2 in
    let o = opened_ends before now s n.0 n.1 in
    let p = packet_ends now.magic_number n.0 rest (captured packet) n.2 in
    (o.0 ++ p.0, o.1 ∙ ap (λ (l : List ℕ). o.0 ++ l) p.1 ∙ sym (append_assoc o.0 p.0 rest))
front_ends before now s rest old packet error told z (inr (inl x)) = opened_ends before now s rest x.1
front_ends before now s rest old packet error told z (inr (inr x)) = ([], sym x.3)

-- What is kept if these bytes are left of the held ones.
abbrev pub with_rest : PcapfilePush → PcapfileHeader → List ℕ → PcapfilePush
with_rest push header rest = record { header = header; begin = push.end - length rest; end = push.end }

-- These are the held bytes of a room.
abbrev pub Found : PcapfilePush → List ℕ → List ℕ → Type 0
Found push room s = (push.begin ≤ push.end) × (push.end ≤ length room) × (s ≡ take (push.end - push.begin) (drop push.begin room)) × (length s + push.begin ≡ push.end)

-- A claim about the bytes before and after a call is a claim about the held bytes before and after it.
pub held_says : (Says : List ℕ → List ℕ → Type 0) (before : PcapfilePush) (header : PcapfileHeader) (room s rest : List ℕ) → Found before room s → (t : List ℕ) × (s ≡ t ++ rest) → Says s rest
    → LiesWithin before room × LiesWithin (with_rest before header rest) room × Says (held_in before room) (held_in (with_rest before header rest) room)
held_says Says before header room s rest found ends says =
    let is = found.2 ∙ between_same before.begin before.end room found.0 in
    let same = rest_held before.begin before.end room ends.0 rest found.0 found.1 (sym is ∙ ends.1) in
    ((found.0, found.1), (omega arith, found.1), subst (λ (l : List ℕ). Says l (held_in (with_rest before header rest) room)) is (subst (Says s) (sym same) says))

-- A packet is read from the held bytes.
pub next_takes : (before : PcapfilePush) (header : PcapfileHeader) (room s rest : List ℕ) (old packet : PcapfilePacket) (error told : PcapfileError) (z : ℤ)
    → Found before room s → TakesFront (header_reader before.header s old error) (header_reader header rest packet told) z
    → TakesNext room (reader before old error) (reader (with_rest before header rest) packet told) z
next_takes before header room s rest old packet error told z found takes =
    let ends = front_ends before.header header s rest old packet error told z takes in
    let held = held_says (λ s rest. TakesFront (header_reader before.header s old error) (header_reader header rest packet told) z) before header room s rest found ends takes in
    inl (held.0, held.1, refl, held.2)
