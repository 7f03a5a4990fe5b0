-- Many packets of a PcapNg capture that comes in pieces.
use Rattle.std.proofs.Common.{◌≡◌, ◌<◌, ◌+◌, ℕ, ℤ, List, [], ◌∷◌, ◌++◌, length, take, drop, refl, sym, ap, subst, ◌∙◌, arith, append-nil, inl, inr, w32, of_z}
use Rattle.std.specs.Prelude.{slice_set}
use Rattle.std.specs.List.{AllZip}
use Rattle.std.proofs.lemmas.Grind.{take-set_at}
use Rattle.pcap_items.specs.Format.{Texts}
use Rattle.pcap_items.proofs.Formats.{texts_own}
use Rattle.pcap_ng.specs.Blocks.{Item, block_format}
use Rattle.pcap_ng.specs.State.{State}
use Rattle.pcap_ng.proofs.BlockFormat.{blocks_lawful}
use Rattle.pcapfile_values.specs.declared.any_packets.PcapfileAnyPacket.{PcapfileAnyPacket}
use Rattle.pcapfile_values.specs.declared.blocks.PcapfileSection.{PcapfileSection}
use Rattle.pcapfile_values.specs.declared.bodies.PcapfileInterface.{PcapfileInterface}
use Rattle.pcapfile_values.specs.declared.errors.PcapfileError.{PcapfileError}
use Rattle.pcapfile_c.specs.declared.push.PcapfilePush.{PcapfilePush}
use Rattle.pcapfile_c.specs.PushNgBatches.{PacketIsLast, TakesFrontNgPackets, TakesNextNgPackets}
use Rattle.pcapfile_c.specs.PushPackets.{ReadSays, Stops, TakesFrontPacket}
use Rattle.pcapfile_c.specs.RoomCalls.{under_status}
use Rattle.pcapfile_c.specs.ReadBlocks.{ShowsThere, read_format}
use Rattle.pcapfile_c.specs.Readers.{packet_reader}
use Rattle.pcapfile_c.proofs.PacketsCome.{PacketsCome, behind, come_all, front_comes, packets_among, state_all, stops_give_none}
use Rattle.pcapfile_c.proofs.Pushed.{Found, held_says, with_rest}
use Rattle.pcapfile_c.proofs.Refused.{refusal_not_0}

last_all : (items more : List Item) → PacketIsLast items → PacketIsLast more → PacketIsLast (items ++ more)
last_all [] more x y = y
last_all (a ∷ []) [] x y = x
last_all (a ∷ []) (b ∷ more) x y = y
last_all (a ∷ b ∷ items) more x y = last_all (b ∷ items) more x y

stops_not_0 : (q : State) (section : PcapfileSection) (places : List PcapfileInterface) (s : List ℕ) (error told : PcapfileError) (z : ℤ) → Stops q section places s error told z → of_z w32 z ≡ 0 → ⊥
stops_not_0 q section places s error told z (inl x) e = omega (arith, sym (ap (of_z w32) x.0) ∙ e)
stops_not_0 q section places s error told z (inr (inl x)) e = refusal_not_0 (ReadSays q s) told z x e
stops_not_0 q section places s error told z (inr (inr x)) e = omega (arith, sym (ap (of_z w32) x.0) ∙ e)

-- A search for the next packet ended, after packets that fill the first places.
module _ (q : State) (s mid rest : List ℕ) (section next : PcapfileSection) (places now : List PcapfileInterface) (packets : List PcapfileAnyPacket) (k : ℕ) (old packet : PcapfileAnyPacket) (error told : PcapfileError) (z : ℤ)
    (x : PacketsCome q s section places mid (take k packets)) (t : TakesFrontPacket (behind q x.0) (packet_reader section places mid old error) (packet_reader next now rest packet told) z) where
  -- The search found a packet.
  pub packet_fills : k < length packets → PacketIsLast x.0 → of_z w32 z ≡ 0 → (y : PacketsCome q s next now rest (take (k + 1) (slice_set packets k packet))) × PacketIsLast y.0 × (told ≡ error)
  packet_fills few last ok =
      let p = behind q x.0 in
      let f = front_comes p section next places now mid rest old packet error told z t in
      let all = come_all q s mid rest section next places now (take k packets) (under_status z (packet ∷ [])) x f.0 in
      elim f.1 [
        | inl e ↦
            let some : under_status z (packet ∷ []) ≡ packet ∷ [] = ap (λ (n : ℤ). under_status n (packet ∷ [])) e.0 in
            let filled : take (k + 1) (slice_set packets k packet) ≡ take k packets ++ under_status z (packet ∷ []) = rw some (take-set_at packets k (k + 1) packet refl few) in
            let is_last : PacketIsLast all.0.0 = subst PacketIsLast (sym all.1) (last_all x.0 f.0.0 last e.2) in
            subst (λ (given : List PcapfileAnyPacket). (y : PacketsCome q s next now rest given) × PacketIsLast y.0 × (told ≡ error)) (sym filled) (all.0, is_last, e.1)
        | inr e ↦ absurd (stops_not_0 (behind p f.0.0) next now rest error told z e.1 ok)
      ]

  none_filled : (first : PcapfileSection) (begun : List PcapfileInterface) (before after : List PcapfileAnyPacket) → k < length packets → after ≡ packets → drop k packets ≡ drop k before → (y : PacketsCome (behind q x.0) mid next now rest (under_status z (packet ∷ [])))
      → Stops (behind (behind q x.0) y.0) next now rest error told z → TakesFrontNgPackets q (packet_reader first begun s before error) (packet_reader next now rest after told) k z
  none_filled first begun before after few same others y stops =
      let p = behind q x.0 in
      let none = stops_give_none (behind p y.0) next now rest error told z (packet ∷ []) stops in
      let all = come_all q s mid rest section next places now (take k packets) (under_status z (packet ∷ [])) x y in
      let items = all.0.0 in
      let given : take k packets ++ under_status z (packet ∷ []) ≡ take k packets = ap (λ (l : List PcapfileAnyPacket). take k packets ++ l) none ∙ append-nil (take k packets) in
      let is : behind p y.0 ≡ behind q items = sym (state_all q x.0 y.0) ∙ ap (behind q) (sym all.1) in
      let shows : AllZip ShowsThere (packets_among q items) (take k packets) = subst (λ (l : List PcapfileAnyPacket). AllZip ShowsThere (packets_among q items) l) given all.0.3 in
      let here : TakesFrontNgPackets q (packet_reader first begun s before error) (packet_reader next now rest packets told) k z =
      record {
        items = items;
        texts = all.0.1;
        in_force = all.0.2;
        within = omega (arith, few);
        shows = shows;
        others = others;
        ends = inr (few, subst (λ (a : State). Stops a next now rest error told z) is stops);
      } in
      subst (λ (l : List PcapfileAnyPacket). TakesFrontNgPackets q (packet_reader first begun s before error) (packet_reader next now rest l told) k z) (sym same) here

  -- The search found no packet.
  pub none_fills : (first : PcapfileSection) (begun : List PcapfileInterface) (before after : List PcapfileAnyPacket) (start : PcapfileError) → (of_z w32 z ≡ 0 → ⊥) → k < length packets → (packet ≡ old → after ≡ packets) → drop k packets ≡ drop k before → error ≡ start
      → TakesFrontNgPackets q (packet_reader first begun s before start) (packet_reader next now rest after told) k z
  none_fills first begun before after start refused few kept others is =
      let f = front_comes (behind q x.0) section next places now mid rest old packet error told z t in
      elim f.1 [
        | inl e ↦ absurd (refused (ap (of_z w32) e.0))
        | inr e ↦ subst (λ (a : PcapfileError). TakesFrontNgPackets q (packet_reader first begun s before a) (packet_reader next now rest after told) k z) is (none_filled first begun before after few (kept e.0) others f.0 e.1)
      ]

-- ---- what is read from the held bytes

pub read_blocks : (q : State) (items : List Item) (s rest : List ℕ) → Texts read_format q items s rest → Texts block_format q items s rest
unfolding read_format block_format
read_blocks q [] s rest texts = texts
read_blocks q (item ∷ items) s rest texts = (texts.0, texts.1.text, read_blocks item.after items texts.0 rest texts.2)

-- Packets are read from the held bytes.
pub ng_packets_take : (before : PcapfilePush) (q : State) (section next : PcapfileSection) (places now : List PcapfileInterface) (room s rest : List ℕ) (old packets : List PcapfileAnyPacket) (taken : ℕ) (error told : PcapfileError) (z : ℤ)
    → Found before room s → TakesFrontNgPackets q (packet_reader section places s old error) (packet_reader next now rest packets told) taken z
    → TakesNextNgPackets q room (packet_reader section places before old error) (packet_reader next now (with_rest before before.header rest) packets told) taken z
ng_packets_take before q section next places now room s rest old packets taken error told z found x =
    let o = texts_own block_format blocks_lawful q x.items s rest (read_blocks q x.items s rest x.texts) in
    let held = held_says (λ s rest. TakesFrontNgPackets q (packet_reader section places s old error) (packet_reader next now rest packets told) taken z) before before.header room s rest found (o.0, o.1) x in
    inl ((held.0, held.1, refl, refl), held.2)
