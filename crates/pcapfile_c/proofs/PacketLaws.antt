-- The packets of a PcapNg capture that comes in pieces.
use Rattle.std.proofs.Common.{◌≡◌, ◌≢◌, ℕ, ℤ, pos, List, [], ◌∷◌, ◌++◌, take, refl, sym, ap, subst, ◌∙◌, inl, inr}
use Rattle.std.specs.List.{AllZip}
use Rattle.pcap_items.specs.Format.{Front}
use Rattle.pcap_ng.specs.Blocks.{Item}
use Rattle.pcap_ng.specs.State.{State, opening, within}
use Rattle.pcapfile_values.specs.declared.any_packets.PcapfileAnyPacket.{PcapfileAnyPacket}
use Rattle.pcapfile_values.specs.declared.errors.PcapfileError.{PcapfileError}
use Rattle.pcapfile_values.specs.declared.shown.PcapfileHeader.{PcapfileHeader}
use Rattle.pcapfile_c.specs.declared.push.PcapfilePush.{PcapfilePush}
use Rattle.pcapfile_c.specs.PacketPushes.{GivesUnder, InForceShown, KeepsInForce, PacketsHaveEnded}
use Rattle.pcapfile_c.specs.Push.{held_in}
use Rattle.pcapfile_c.specs.PushNgBatches.{TakesNextNgPackets}
use Rattle.pcapfile_c.specs.PushPackets.{ShowsInForce, Stops, TakesNextPacket}
use Rattle.pcapfile_c.specs.ReadBlocks.{ShowsThere, read_format}
use Rattle.pcapfile_c.specs.RoomCalls.{all_given, all_put, under_status}
use Rattle.pcapfile_c.specs.Readers.{packet_reader}
use Rattle.pcapfile_c.proofs.PacketsCome.{PacketsCome, behind, come_all, front_comes, packets_among, read_more, state_all, stops_front}
use Rattle.pcapfile_c.proofs.RoomLaws.{come_before, given_all, put_all, stays}

-- What calls returned from the first byte on.
abbrev HaveCome : List ℕ → InForceShown → List ℕ → List PcapfileAnyPacket → Type 0
HaveCome s kept held given = PacketsCome opening s kept.0 kept.1 held given

-- The same for any header.
abbrev Known : List ℕ → PcapfileHeader → InForceShown → List ℕ → List PcapfileAnyPacket → Type 0
Known s header kept held given = HaveCome s kept held given

packet_puts : (s t held : List ℕ) (header : PcapfileHeader) (kept : InForceShown) (given : List PcapfileAnyPacket) → HaveCome s kept held given → HaveCome (s ++ t) kept (held ++ t) given
packet_puts s t held header kept given x = (x.0, read_more opening x.0 s held t x.1, x.2, x.3)

pub in_force_keeps : (q : State) (kept next : InForceShown) → KeepsInForce kept next → ShowsInForce kept.0 kept.1 q → ShowsInForce next.0 next.1 q
in_force_keeps opening kept next k x = rw k.0 x
in_force_keeps (within d interfaces) kept next k x = rw (k.0, k.1) x

packet_keeps : (s held : List ℕ) (header : PcapfileHeader) (kept next : InForceShown) (given : List PcapfileAnyPacket) → KeepsInForce kept next → HaveCome s kept held given → HaveCome s next held given
packet_keeps s held header kept next given k x = (x.0, x.1, in_force_keeps (behind opening x.0) kept next k x.2, x.3)

-- If a call reports that no packet follows, what is left gives none.
abbrev StopsSo : PcapfileError → PcapfileError → ℤ → InForceShown → List ℕ → List Item → Type 0
StopsSo error told z next rest items = z ≢ pos 0 → z ≢ pos 10 → Stops (behind opening items) next.0 next.1 rest error told z

-- What a call left, and how it ended.
CallComes : PcapfileError → PcapfileError → ℤ → List ℕ → InForceShown → List ℕ → List PcapfileAnyPacket → Type 0
CallComes error told z s next rest given = (x : HaveCome s next rest given) × StopsSo error told z next rest x.0

module _ (before push : PcapfilePush) (kept next : InForceShown) (room s : List ℕ) (given : List PcapfileAnyPacket) (error told : PcapfileError) (z : ℤ) (x : HaveCome s kept (held_in before room) given) where
  taken_comes : (more : List PcapfileAnyPacket) (y : PacketsCome (behind opening x.0) (held_in before room) next.0 next.1 (held_in push room) more)
      → (z ≢ pos 0 → Stops (behind (behind opening x.0) y.0) next.0 next.1 (held_in push room) error told z) → CallComes error told z s next (held_in push room) (given ++ more)
  unfolding CallComes
  taken_comes more y stops =
      let all = come_all opening s (held_in before room) (held_in push room) kept.0 next.0 kept.1 next.1 given more x y in
      let is : behind (behind opening x.0) y.0 ≡ behind opening all.0.0 = sym (state_all opening x.0 y.0) ∙ ap (behind opening) (sym all.1) in
      (all.0, λ some known. subst (λ (q : State). Stops q next.0 next.1 (held_in push room) error told z) is (stops some))

  left_comes : (more : List PcapfileAnyPacket) → z ≡ pos 10 → push ≡ before → KeepsInForce kept next → more ≡ [] → CallComes error told z s next (held_in push room) (given ++ more)
  unfolding CallComes
  left_comes more bad same keeps none =
      let there = packet_keeps s (held_in before room) push.header kept next given keeps x in
      (stays Known s (held_in before room) (held_in push room) push.header push.header next next given more refl refl (ap (λ (p : PcapfilePush). held_in p room) same) none there, λ some known. absurd (known bad))

  packet_taken : (old packet : PcapfileAnyPacket) → TakesNextPacket (behind opening x.0) room (packet_reader kept.0 kept.1 before old error) (packet_reader next.0 next.1 push packet told) z
      → CallComes error told z s next (held_in push room) (given ++ under_status z (packet ∷ []))
  packet_taken old packet (inl t) =
      let f = front_comes (behind opening x.0) kept.0 next.0 kept.1 next.1 (held_in before room) (held_in push room) old packet error told z t.1 in
      taken_comes (under_status z (packet ∷ [])) f.0 (λ some. elim f.1 [
        | inl e ↦ absurd (some e.0)
        | inr e ↦ e.1
      ])
  packet_taken old packet (inr l) =
      let none : under_status z (packet ∷ []) ≡ [] = ap (λ (k : ℤ). under_status k (packet ∷ [])) l.1.status_is in
      let same : KeepsInForce kept next = (l.1.section_is, ap (take kept.0.interfaces) l.1.places_are) in
      left_comes (under_status z (packet ∷ [])) l.1.status_is l.1.push_is same none

  packets_taken : (old packets : List PcapfileAnyPacket) (taken : ℕ) → TakesNextNgPackets (behind opening x.0) room (packet_reader kept.0 kept.1 before old error) (packet_reader next.0 next.1 push packets told) taken z
      → CallComes error told z s next (held_in push room) (given ++ take taken packets)
  packets_taken old packets taken (inl t) =
      let f = t.1 in
      taken_comes (take taken packets) (f.items, f.texts, f.in_force, f.shows) (λ some. elim f.ends [
        | inl e ↦ absurd (some e.0)
        | inr e ↦ e.1
      ])
  packets_taken old packets taken (inr l) =
      let none : take taken packets ≡ [] = ap (λ (n : ℕ). take n packets) l.1.5.0 in
      let same : KeepsInForce kept next = (l.1.3, ap (take kept.0.interfaces) l.1.4) in
      left_comes (take taken packets) l.1.0 l.1.2 same none

-- What a call of either kind returned.
abbrev CallEnds : ℤ → List ℕ → InForceShown → List ℕ → List PcapfileAnyPacket → Type 0
CallEnds z s next rest given = (error : PcapfileError) × (told : PcapfileError) × CallComes error told z s next rest given

call_ends : (before push : PcapfilePush) (kept next : InForceShown) (room s : List ℕ) (given more : List PcapfileAnyPacket) (z : ℤ) → GivesUnder z before kept room push next more
    → HaveCome s kept (held_in before room) given → CallEnds z s next (held_in push room) (given ++ more)
call_ends before push kept next room s given more z (inl g) x =
    let there = packet_taken before push kept next room s given g.2.error g.1 z x g.2.old g.0 (g.2.takes (behind opening x.0) x.2) in
    (g.2.error, g.1, subst (λ (l : List PcapfileAnyPacket). CallComes g.2.error g.1 z s next (held_in push room) (given ++ l)) (sym g.3) there)
call_ends before push kept next room s given more z (inr g) x =
    let there = packets_taken before push kept next room s given g.3.error g.2 z x g.3.old g.0 g.1 (g.3.takes (behind opening x.0) x.2) in
    (g.3.error, g.2, subst (λ (l : List PcapfileAnyPacket). CallComes g.3.error g.2 z s next (held_in push room) (given ++ l)) (sym g.4) there)

packet_goes : (z : ℤ) (before push : PcapfilePush) (kept next : InForceShown) (room s : List ℕ) (given more : List PcapfileAnyPacket) → GivesUnder z before kept room push next more
    → HaveCome s kept (held_in before room) given → HaveCome s next (held_in push room) (given ++ more)
unfolding CallComes
packet_goes z before push kept next room s given more g x = (call_ends before push kept next room s given more z g x).2.0

-- The returned packets are those of the front of the bytes that were put.
AreFront : List ℕ → List ℕ → List PcapfileAnyPacket → Type 0
AreFront s rest given = (items : List Item) × Front read_format opening items s rest × AllZip ShowsThere (packets_among opening items) given

module _ (calls : List (List ℕ × List PcapfileAnyPacket)) (push : PcapfilePush) (room : List ℕ) (ended : PacketsHaveEnded calls push room) where
  last_come : CallEnds ended.1.status (all_put ended.1.earlier) ended.0 (held_in push room) (all_given ended.1.earlier ++ ended.1.given)
  last_come =
      let come = come_before GivesUnder KeepsInForce Known packet_puts packet_goes packet_keeps _ _ calls push ended.0 room ended.1 ([], refl, ended.1.fresh, tt) in
      call_ends ended.1.last push ended.1.last_kept ended.0 room (all_put ended.1.earlier) (all_given ended.1.earlier) ended.1.given ended.1.status ended.1.tells come

  -- The law: for any pieces of the bytes and any calls, the returned packets are those of the front of all bytes.
  pub pushed_packets : (items : List Item) × Front read_format opening items (all_put calls) (held_in push room) × AllZip ShowsThere (packets_among opening items) (all_given calls)
  unfolding AreFront CallComes
  pushed_packets =
      let come = last_come in
      let front = stops_front opening ended.0.0 ended.0.1 come.2.0.0 (all_put ended.1.earlier) (held_in push room) come.0 come.1 ended.1.status ended.1.ends.0 ended.1.ends.2 come.2.0.1 (come.2.1 ended.1.refused ended.1.ends.1) in
      let all : AreFront (all_put ended.1.earlier) (held_in push room) (all_given ended.1.earlier ++ ended.1.given) = (come.2.0.0, front.0, come.2.0.3) in
      let put = put_all GivesUnder KeepsInForce Known packet_puts packet_goes packet_keeps _ _ calls push ended.0 room ended.1 in
      let given = given_all GivesUnder KeepsInForce Known packet_puts packet_goes packet_keeps _ _ calls push ended.0 room ended.1 in
      rw (put, given) all
