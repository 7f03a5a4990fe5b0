-- Blocks of a PcapNg capture that were read, and the structs that show their packets.
use Rattle.std.proofs.Common.{◌≡◌, ◌≢◌, ◌⊎◌, if◌then◌else◌, ℕ, ℤ, pos, List, [], ◌∷◌, ◌++◌, Bool, true, false, refl, sym, ap, subst, ◌∙◌, inl, inr}
use Rattle.std.specs.Prelude.{filter}
use Rattle.std.specs.List.{AllZip}
use Rattle.std.proofs.lemmas.List.Elements.{filter-append}
use Rattle.pcap_core.specs.Answer.{number_in, whole, faulty}
use Rattle.pcap_core.specs.Faults.{Fault, Invalid, Io, Utf8}
use Rattle.pcap_items.specs.Format.{Front, Texts, state_after}
use Rattle.pcap_items.proofs.Formats.{fault_no_text, lacks_no_text, text_same, texts_all, texts_push, state_push}
use Rattle.pcap_blocks.specs.ParsedBlock.{Body, BodySays}
use Rattle.pcap_blocks.proofs.OneBody.{body_one}
use Rattle.pcap_ng.specs.Blocks.{Item, BlockText, block_format}
use Rattle.pcap_ng.specs.Frames.{Framed, frame_format}
use Rattle.pcap_ng.specs.State.{State, order_at}
use Rattle.pcap_ng.proofs.BlockFormat.{blocks_lawful}
use Rattle.pcap_ng.proofs.HeadedFrames.{frames_lawful}
use Rattle.pcapfile_values.specs.declared.any_packets.PcapfileAnyPacket.{PcapfileAnyPacket}
use Rattle.pcapfile_values.specs.declared.blocks.PcapfileSection.{PcapfileSection}
use Rattle.pcapfile_values.specs.declared.bodies.PcapfileInterface.{PcapfileInterface}
use Rattle.pcapfile_values.specs.declared.errors.PcapfileError.{PcapfileError}
use Rattle.pcapfile_values.specs.Refusals.{TellsRefusal}
use Rattle.pcapfile_c.specs.Batches.{is_packet}
use Rattle.pcapfile_c.specs.PushNgBatches.{PacketIsLast}
use Rattle.pcapfile_c.specs.PushPackets.{EndsWalk, GivesPacket, ReadMayGrow, ReadSays, ReadText, ShowsInForce, Stops, TakesFrontPacket, is_packet_block}
use Rattle.pcapfile_c.specs.RoomCalls.{under_status}
use Rattle.pcapfile_c.specs.ReadBlocks.{ShowsThere, each_under, is_packet_there, read_format}
use Rattle.pcapfile_c.specs.Readers.{packet_reader}
use Rattle.pcapfile_c.proofs.Pushes.{not_both}
use Rattle.pcapfile_c.proofs.RoomLaws.{none_refused_where, not_for_memory}

-- ---- blocks in which the body of each packet is good

-- The blocks stay the same if more bytes follow them.
pub read_more : (q : State) (items : List Item) (s rest more : List ℕ) → Texts read_format q items s rest → Texts read_format q items (s ++ more) (rest ++ more)
unfolding read_format block_format
read_more q [] s rest more texts = ap (λ (t : List ℕ). t ++ more) texts
read_more q (item ∷ items) s rest more texts =
    let text = (blocks_lawful.stable q).text s more texts.0 item texts.1.text in
    (texts.0 ++ more, record { text = text; body = texts.1.body }, read_more item.after items texts.0 rest more texts.2)

-- A block that is no packet is one of these.
plain_read : (q : State) (item : Item) (s rest : List ℕ) → BlockText q item s rest → is_packet_block item ≡ false → ReadText q item s rest
plain_read q item s rest text none = record { text = text; body = λ is. absurd (not_both (is_packet_block item) is none) }

kept_out : (b : Bool) (item : Item) (l : List Item) → (if b then item ∷ l else l) ≡ [] → (b ≡ false) × (l ≡ [])
kept_out true item l e = absurd cc
kept_out false item l e = (refl, e)

passed_read : (q : State) (passed : List Item) (s rest : List ℕ) → Texts block_format q passed s rest → filter is_packet_block passed ≡ [] → Texts read_format q passed s rest
unfolding read_format block_format
passed_read q [] s rest texts none = texts
passed_read q (item ∷ passed) s rest texts none =
    let out = kept_out (is_packet_block item) item (filter is_packet_block passed) none in
    (texts.0, plain_read q item s texts.0 texts.1 out.0, passed_read item.after passed texts.0 rest texts.2 out.1)

pub state_same : (q : State) (items : List Item) → state_after block_format q items ≡ state_after read_format q items
unfolding read_format block_format
state_same q [] = refl
state_same q (item ∷ items) = state_same item.after items

pub state_all : (q : State) (items more : List Item) → state_after read_format q (items ++ more) ≡ state_after read_format (state_after read_format q items) more
unfolding read_format
state_all q [] more = refl
state_all q (item ∷ items) more = state_all item.after items more

under_all : (q : State) (items more : List Item) → each_under q (items ++ more) ≡ each_under q items ++ each_under (state_after read_format q items) more
unfolding read_format
under_all q [] more = refl
under_all q (item ∷ items) more = ap (λ (l : List (State × Item)). (q, item) ∷ l) (under_all item.after items more)

none_under : (q : State) (passed : List Item) → filter is_packet_block passed ≡ [] → filter is_packet_there (each_under q passed) ≡ []
none_under q [] none = refl
none_under q (item ∷ passed) none =
    let out = kept_out (is_packet_block item) item (filter is_packet_block passed) none in
    rw out.0 (none_under item.after passed out.1)

body_no_fault : (q : State) (b : Framed) (body : Body) (after : List ℕ) (fault : Fault) → BodySays (number_in (order_at q)) b.type_ b.body (whole body after) → BodySays (number_in (order_at q)) b.type_ b.body (faulty fault) → ⊥
body_no_fault q b body after fault x y =
    let o = body_one (number_in (order_at q)) b.type_ b.body in
    let e : whole body after ≡ faulty fault = o.only (whole body after) x ∙ sym (o.only (faulty fault) y) in
    absurd cc

module _ (q : State) (s : List ℕ) (item : Item) (after : List ℕ) (text : ReadText q item s after) where
  fault_no_read : (fault : Fault) → ReadSays q s (faulty fault) → ⊥
  unfolding block_format frame_format
  fault_no_read fault (inl x) = fault_no_text block_format blocks_lawful q fault s x item after text.text
  fault_no_read fault (inr x) =
      let same = text_same frame_format frames_lawful (order_at q) x.block item.block s x.rest after x.frame text.text.frame in
      let is : is_packet_block item ≡ true = subst (λ (b : Framed). is_packet b.type_ ≡ true) same.0 x.is in
      let good = text.body is in
      let bad : BodySays (number_in (order_at q)) item.block.type_ item.block.body (faulty fault) = subst (λ (b : Framed). BodySays (number_in (order_at q)) b.type_ b.body (faulty fault)) same.0 x.says in
      body_no_fault q item.block good.0 good.1 fault good.2 bad

  -- Bytes that are refused begin with none of these.
  pub refused_no_read : (told : PcapfileError) (z : ℤ) → TellsRefusal (ReadSays q s) told z → ⊥
  unfolding block_format
  refused_no_read told z (inl x) = lacks_no_text block_format blocks_lawful q told.missing s x.2 item after text.text
  refused_no_read told z (inr (inl x)) = fault_no_read (Invalid x.1) x.3
  refused_no_read told z (inr (inr (inl x))) = fault_no_read Io x.2
  refused_no_read told z (inr (inr (inr x))) = fault_no_read Utf8 x.2

-- ---- what was read

-- The state after these blocks.
abbrev pub behind : State → List Item → State
behind q items = state_after read_format q items

-- The packets among these blocks.
abbrev pub packets_among : State → List Item → List (State × Item)
packets_among q items = filter is_packet_there (each_under q items)

-- Under this state, the bytes `s` are the texts of these blocks and `rest`. The structs show the state after them, and their packets.
abbrev pub PacketsCome : State → List ℕ → PcapfileSection → List PcapfileInterface → List ℕ → List PcapfileAnyPacket → Type 0
PacketsCome q s section places rest given =
    (items : List Item) × Texts read_format q items s rest × ShowsInForce section places (behind q items) × AllZip ShowsThere (packets_among q items) given

zip_all : {X Y : Type 0} (R : X → Y → Type 0) (xs us : List X) (ys vs : List Y) → AllZip R xs ys → AllZip R us vs → AllZip R (xs ++ us) (ys ++ vs)
zip_all R [] us [] vs x y = y
zip_all R [] us (b ∷ ys) vs x y = absurd x
zip_all R (a ∷ xs) us [] vs x y = absurd x
zip_all R (a ∷ xs) us (b ∷ ys) vs x y = (x.0, zip_all R xs us ys vs x.1 y)

among_all : (q : State) (items more : List Item) → packets_among q (items ++ more) ≡ packets_among q items ++ packets_among (behind q items) more
among_all q items more = ap (filter is_packet_there) (under_all q items more) ∙ filter-append is_packet_there (each_under q items) (each_under (behind q items) more)

-- More blocks were read.
pub come_all : (q : State) (s mid rest : List ℕ) (section next : PcapfileSection) (places now : List PcapfileInterface) (given more : List PcapfileAnyPacket)
    → (x : PacketsCome q s section places mid given) → (y : PacketsCome (behind q x.0) mid next now rest more) → (z : PacketsCome q s next now rest (given ++ more)) × (z.0 ≡ x.0 ++ y.0)
come_all q s mid rest section next places now given more x y =
    let shows : ShowsInForce next now (behind q (x.0 ++ y.0)) = subst (λ (p : State). ShowsInForce next now p) (sym (state_all q x.0 y.0)) y.2 in
    let zip = zip_all ShowsThere (packets_among q x.0) (packets_among (behind q x.0) y.0) given more x.3 y.3 in
    let all : AllZip ShowsThere (packets_among q (x.0 ++ y.0)) (given ++ more) = subst (λ (l : List (State × Item)). AllZip ShowsThere l (given ++ more)) (sym (among_all q x.0 y.0)) zip in
    ((x.0 ++ y.0, texts_all read_format q x.0 y.0 s mid rest x.1 y.1, shows, all), refl)

behind_push : (q : State) (items : List Item) (item : Item) → behind q (items ++ item ∷ []) ≡ item.after
unfolding read_format
behind_push q items item = state_push read_format q items item

read_said : (q : State) (item : Item) (s rest : List ℕ) → ReadText q item s rest → read_format.says q s (whole item rest)
unfolding read_format
read_said q item s rest text = text

-- The last block is a packet.
pub last_is : (items : List Item) (item : Item) → is_packet_block item ≡ true → PacketIsLast (items ++ item ∷ [])
last_is [] item is = is
last_is (x ∷ []) item is = is
last_is (x ∷ y ∷ items) item is = last_is (y ∷ items) item is

pub stops_give_none : {A : Type 0} (q : State) (section : PcapfileSection) (places : List PcapfileInterface) (s : List ℕ) (error told : PcapfileError) (z : ℤ) (all : List A)
    → Stops q section places s error told z → under_status z all ≡ []
stops_give_none q section places s error told z all (inl x) = ap (λ (k : ℤ). under_status k all) x.0
stops_give_none q section places s error told z all (inr x) = none_refused_where (ReadMayGrow q s) (ReadSays q s) told z all x

-- What is left gives no packet, so the blocks before it are those of the front.
pub stops_front : (q : State) (section : PcapfileSection) (places : List PcapfileInterface) (items : List Item) (s rest : List ℕ) (error told : PcapfileError) (z : ℤ) → z ≢ pos 6 → z ≢ pos 11 → Texts read_format q items s rest
    → Stops (behind q items) section places rest error told z → Front read_format q items s rest × TellsRefusal (ReadSays (behind q items) rest) told z
unfolding read_format
stops_front q section places items s rest error told z memory room texts (inl full) = absurd (room full.0)
stops_front q section places items s rest error told z memory room texts (inr said) =
    let p = behind q items in
    let refused = not_for_memory (ReadMayGrow p rest) (ReadSays p rest) told z memory said in
    (record { texts = texts; longest = λ item after text. refused_no_read p rest item after text told z refused }, refused)

-- How a search for a packet ends after these blocks: the packet was read, or what is left gives none.
abbrev pub HasCome : State → List Item → PcapfileSection → List PcapfileInterface → List ℕ → PcapfileAnyPacket → PcapfileAnyPacket → PcapfileError → PcapfileError → ℤ → Type 0
HasCome q items next now rest old packet error told z =
    ((z ≡ pos 0) × (told ≡ error) × PacketIsLast items) ⊎ ((packet ≡ old) × Stops (behind q items) next now rest error told z)

-- A search for a packet.
module _ (q : State) (section next : PcapfileSection) (places now : List PcapfileInterface) (s rest : List ℕ) (old packet : PcapfileAnyPacket) (error told : PcapfileError) (z : ℤ)
    (t : TakesFrontPacket q (packet_reader section places s old error) (packet_reader next now rest packet told) z) where
  -- What the search returns.
  Comes : Type 0
  Comes = (x : PacketsCome q s next now rest (under_status z (packet ∷ []))) × HasCome q x.0 next now rest old packet error told z

  passed_shown : ShowsInForce next now (behind q t.passed)
  passed_shown = subst (λ (p : State). ShowsInForce next now p) (state_same q t.passed) t.in_force

  packet_comes : z ≡ pos 0 → told ≡ error → GivesPacket (behind q t.passed) t.mid rest packet → Comes
  unfolding Comes
  packet_comes is same g =
      let p = behind q t.passed in
      let items = t.passed ++ g.item ∷ [] in
      let read : ReadText p g.item t.mid rest = record { text = g.text; body = λ is. (g.shows.body, g.shows.after, g.shows.says) } in
      let texts = texts_push read_format q t.passed g.item s t.mid rest (passed_read q t.passed s t.mid t.texts t.none) (read_said p g.item t.mid rest read) in
      let shows : ShowsInForce next now (behind q items) = subst (λ (a : State). ShowsInForce next now a) (sym (behind_push q t.passed g.item ∙ g.stays)) passed_shown in
      let one : packets_among p (g.item ∷ []) ≡ (p, g.item) ∷ [] = rw g.is refl in
      let among : packets_among q items ≡ (p, g.item) ∷ [] = among_all q t.passed (g.item ∷ []) ∙ ap (λ (l : List (State × Item)). l ++ packets_among p (g.item ∷ [])) (none_under q t.passed t.none) ∙ one in
      let some : under_status z (packet ∷ []) ≡ packet ∷ [] = ap (λ (k : ℤ). under_status k (packet ∷ [])) is in
      ((items, texts, shows, rw (among, some) (g.shows, tt)), inl (is, same, last_is t.passed g.item g.is))

  none_comes : packet ≡ old → rest ≡ t.mid → Stops (behind q t.passed) next now t.mid error told z → Comes
  unfolding Comes
  none_comes same is stops =
      let none : under_status z (packet ∷ []) ≡ [] = stops_give_none (behind q t.passed) next now t.mid error told z (packet ∷ []) stops in
      let texts : Texts read_format q t.passed s rest = subst (λ (l : List ℕ). Texts read_format q t.passed s l) (sym is) (passed_read q t.passed s t.mid t.texts t.none) in
      let stopped : Stops (behind q t.passed) next now rest error told z = subst (λ (l : List ℕ). Stops (behind q t.passed) next now l error told z) (sym is) stops in
      ((t.passed, texts, passed_shown, rw (none_under q t.passed t.none, none) tt), inr (same, stopped))

  walk_comes : EndsWalk (behind q t.passed) next now t.mid rest old packet error told z → Comes
  walk_comes (inl e) = packet_comes e.0 e.1 e.2
  walk_comes (inr e) = none_comes e.0 e.1 e.2

  pub front_comes : (x : PacketsCome q s next now rest (under_status z (packet ∷ []))) × HasCome q x.0 next now rest old packet error told z
  unfolding Comes
  front_comes = walk_comes (subst (λ (p : State). EndsWalk p next now t.mid rest old packet error told z) (state_same q t.passed) t.ends)
