-- The blocks before a packet, and the structs that show the state after them.
use Rattle.std.proofs.Common.{◌≡◌, ◌<◌, ◌≤◌, ◌+◌, ◌-◌, ◌^◌, ◌⊎◌, ℕ, ℤ, zero, suc, List, [], ◌∷◌, ◌++◌, length, min, take, Bool, if◌then◌else◌, true, false, Ok, Err, Option, Some, None, refl, sym, ap, subst, ◌∙◌, inl, inr, arith, w32, to_z, of_z, append_assoc}
use Rattle.std.specs.Prelude.{IsSome, slice_set, filter}
use Rattle.std.specs.List.{All, AllZip, slice_get}
use Rattle.std.proofs.lemmas.Bool.{cases_lt, ne_eqb}
use Rattle.std.proofs.lemmas.Bool.Decides.{eqb_tells}
use Rattle.std.proofs.lemmas.Grind.{take-set_at}
use Rattle.std.proofs.lemmas.List.{drop_at, get_or-set_other, length-append, length-set, length-take-le, take_at}
use Rattle.std.proofs.lemmas.List.Elements.{All-drop, All-nil, All-pop, All-push, All-take, filter-append}
use Rattle.std.proofs.lemmas.Option.{same_Some, slice_get-get_or, slice_get_past}
use Rattle.std.proofs.lemmas.Slice.Zip.{AllZip-long}
use Rattle.pcap_core.specs.declared.common.Endianness.{Endianness}
use Rattle.pcap_core.specs.declared.common.Endianness.TheVariants.{Big}
use Rattle.pcap_core.specs.declared.errors.PcapError.{PcapError}
use Rattle.pcap_core.specs.Answer.{Order, Verdict, number_in, whole, lacks, faulty, Refuses}
use Rattle.pcap_core.specs.Faults.{Fault, Invalid, Io, Utf8}
use Rattle.pcap_items.specs.Format.{Texts, state_after}
use Rattle.pcap_items.specs.Headed.{good}
use Rattle.pcap_items.proofs.Formats.{texts_all, texts_own, texts_push}
use Rattle.pcap_core.proofs.Kept.{zip_push}
use Rattle.pcap_blocks.specs.declared.block_type.BlockType.{BlockType}
use Rattle.pcap_blocks.specs.declared.block_type.BlockType.TheVariants as types
use Rattle.pcap_blocks.specs.BlockType.{block_type}
use Rattle.pcap_blocks.specs.InterfaceDescription.{Interface}
use Rattle.pcap_blocks.specs.ParsedBlock.{Body, InterfaceBody, SectionBody, BodySays}
use Rattle.pcap_blocks.specs.SectionHeader.{Section, magic_order}
use Rattle.pcap_ng.specs.Blocks.{Item, BlockSays, BlockText, MayGrow, block_format}
use Rattle.pcap_ng.specs.Bodies.{GrowsInBody, SaysOfBody}
use Rattle.pcap_ng.specs.Frames.{Framed, FrameText, own_order}
use Rattle.pcap_ng.specs.State.{State, opening, within, interfaces_at, or_big, order_at, is_kept, leads, Means, MeansIf}
use Rattle.pcap_ng.proofs.BlockFormat.{block_said, blocks_lawful, good_in}
use Rattle.pcap_ng.proofs.KeptBodies.{read_means}
use Rattle.pcap_ng.proofs.Refusing.{body_refuses}
use Rattle.pcap_ng.proofs.Sections.{bad_no_good}
use Rattle.pcapfile_values.specs.declared.any_packets.PcapfileAnyPacket.{PcapfileAnyPacket}
use Rattle.pcapfile_values.specs.declared.blocks.PcapfileSection.{PcapfileSection}
use Rattle.pcapfile_values.specs.declared.bodies.PcapfileInterface.{PcapfileInterface}
use Rattle.pcapfile_values.specs.declared.bodies.PcapfileNgPacket.{PcapfileNgPacket}
use Rattle.pcapfile_values.specs.declared.errors.PcapfileError.{PcapfileError}
use Rattle.pcapfile_values.specs.AnyPackets.{ShowsAny}
use Rattle.pcapfile_values.specs.Blocks.{ShowsState, TellsSection, order_shown}
use Rattle.pcapfile_values.specs.Bodies.{BodyTells, HasBase, ShowsInterface, IsTakenFor, IsInterface}
use Rattle.pcapfile_values.specs.Refusals.{ShowsError, TellsRefusalWhere}
use Rattle.pcapfile_values.proofs.Leading.{body_faults, change_refuses, not_named, none_some, section_puts, section_refuses}
use Rattle.pcapfile_c.specs.declared.push.PcapfilePush.{PcapfilePush}
use Rattle.pcapfile_c.specs.Push.{held_in}
use Rattle.pcapfile_c.specs.Batches.{LeadingText, OtherText, PacketText, PacketFault, PacketMayGrow, PassageSays, is_packet}
use Rattle.pcapfile_c.specs.PushPackets.{HaveBases, ShowsInForce, ShowsFound, GivesPacket, PutsBlock, PutsTells, StepTells, EndsWalk, TakesFrontPacket, TakesNextPacket, LeavesOthers, OthersStay, is_packet_block, ReadSays, ReadMayGrow, LacksPlace, Stops}
use Rattle.pcapfile_c.specs.Readers.{packet_reader}
use Rattle.pcapfile_c.proofs.BlockLaws.{behind_push}
use Rattle.pcapfile_c.proofs.Pushed.{Found, held_says, with_rest}
use Rattle.pcapfile_c.proofs.PushedBlocks.{block_ends}
use Rattle.pcapfile_c.proofs.Refused.{tells_refusal_where}

-- A place after the filled one is unchanged.
pub place_other : (xs : List PcapfileInterface) (n i : ℕ) (x : PcapfileInterface) → n < i → slice_get (slice_set xs n x) i ≡ slice_get xs i
place_other xs n i x lt =
    elim (cases_lt i (length xs)) [
      | inl here ↦
          let there : i < length (slice_set xs n x) = omega (arith, here, length-set xs n x) in
          slice_get-get_or (slice_set xs n x) i x there ∙ ap (λ (y : PcapfileInterface). Some y) (get_or-set_other xs n i x x (λ is. omega (arith, lt, is))) ∙ sym (slice_get-get_or xs i x here)
      | inr past ↦ slice_get_past (slice_set xs n x) i (omega (arith, past, length-set xs n x)) ∙ sym (slice_get_past xs i past)
    ]

-- A block that is no section header has the byte order of the state.
frame_order : (e : Endianness) (b : Framed) (s rest : List ℕ) → FrameText e b s rest → (b.type_ ≡ types.SectionHeader → ⊥) → b.endianness ≡ e
unfolding own_order
frame_order e b s rest x other =
    let no : x.number ≡ 0x0A0D0D0A → ⊥ = λ is. other (x.type_is ∙ ap block_type is) in
    let own : Some e ≡ Some b.endianness = sym (ap (λ (t : Bool). if t then magic_order x.head.magic else Some e) (ne_eqb x.number 0x0A0D0D0A no)) ∙ x.head.own_is in
    sym (same_Some e b.endianness own)

-- A refusal of one verdict is a refusal of any verdict that follows from it.
wider : {V W : Type 0} (M N : Type 0) (P : Verdict V → Type 0) (Q : Verdict W → Type 0) → (M → N) → ((n : ℕ) → P (lacks n) → Q (lacks n)) → ((f : Fault) → P (faulty f) → Q (faulty f))
    → (told : PcapfileError) (z : ℤ) → TellsRefusalWhere M P told z → TellsRefusalWhere N Q told z
wider M N P Q grow lack fault told z (inl (inl x)) = inl (inl (x.0, x.1, lack told.missing x.2))
wider M N P Q grow lack fault told z (inl (inr (inl x))) = inl (inr (inl (x.0, x.1, x.2, fault (Invalid x.1) x.3)))
wider M N P Q grow lack fault told z (inl (inr (inr (inl x)))) = inl (inr (inr (inl (x.0, x.1, fault Io x.2))))
wider M N P Q grow lack fault told z (inl (inr (inr (inr x)))) = inl (inr (inr (inr (x.0, x.1, fault Utf8 x.2))))
wider M N P Q grow lack fault told z (inr x) = inr (x.0, x.1, grow x.2)

-- A refused block gives no packet.
pub block_stops : (q : State) (section : PcapfileSection) (places : List PcapfileInterface) (s : List ℕ) (error told : PcapfileError) (z : ℤ)
    → TellsRefusalWhere (MayGrow q s) (BlockSays q s) told z → Stops q section places s error told z
block_stops q section places s error told z x =
    inr (wider (MayGrow q s) (ReadMayGrow q s) (BlockSays q s) (ReadSays q s) (λ grows. inl grows) (λ n lack. lack) (λ fault said. inl said) told z x)

passage_fault : (q : State) (s : List ℕ) (fault : Fault) → PassageSays (order_at q) s (faulty fault) → BlockSays q s (faulty fault) ⊎ PacketFault (order_at q) s fault
passage_fault q s fault (inl x) = inl (inl x)
passage_fault q s fault (inr x) = inr x

-- A refused frame gives no packet, nor does a refused body of a packet.
passage_stops : (q : State) (section : PcapfileSection) (places : List PcapfileInterface) (e : Endianness) (s : List ℕ) (error told : PcapfileError) (z : ℤ) → order_at q ≡ e
    → TellsRefusalWhere (PacketMayGrow e s) (PassageSays e s) told z → Stops q section places s error told z
passage_stops q section places e s error told z holds x =
    let here : TellsRefusalWhere (PacketMayGrow (order_at q) s) (PassageSays (order_at q) s) told z = subst (λ (o : Endianness). TellsRefusalWhere (PacketMayGrow o s) (PassageSays o s) told z) (sym holds) x in
    inr (wider (PacketMayGrow (order_at q) s) (ReadMayGrow q s) (PassageSays (order_at q) s) (ReadSays q s) (λ grows. inr grows) (λ n lack. lack) (λ fault said. passage_fault q s fault said) told z here)

-- A magic number that names a byte order is not 0.
named_some : (magic : ℕ) (e : Endianness) → magic_order magic ≡ Some e → magic ≡ 0 → ⊥
named_some magic e is zero_is = not_named magic zero_is (subst IsSome (sym is) refl)

-- The byte order that the section names is that of the state.
pub holding : (section : PcapfileSection) (places : List PcapfileInterface) (q : State) (e : Endianness) → ShowsInForce section places q → magic_order section.magic_number ≡ Some e → order_at q ≡ e
unfolding order_at
holding section places opening e shows is = absurd (named_some section.magic_number e is shows)
holding section places (within d interfaces) e shows is = ap or_big (ap magic_order (sym shows.0.0.magic) ∙ is)

-- A refused packet or skipped block gives no packet in a section.
pub front_stops : (q : State) (section : PcapfileSection) (places : List PcapfileInterface) (e : Endianness) (s : List ℕ) (error told : PcapfileError) (z : ℤ)
    → ShowsInForce section places q → magic_order section.magic_number ≡ Some e → TellsRefusalWhere (PacketMayGrow e s) (PassageSays e s) told z → Stops q section places s error told z
front_stops q section places e s error told z shows is x = passage_stops q section places e s error told z (holding section places q e shows is) x

-- A skipped block.
pub other_puts : (q : State) (section : PcapfileSection) (places : List PcapfileInterface) (e : Endianness) (s rest : List ℕ) → ShowsInForce section places q → magic_order section.magic_number ≡ Some e
    → OtherText e s rest → PutsBlock q section places s rest
other_puts opening section places e s rest shows is x = absurd (named_some section.magic_number e is shows)
other_puts (within d interfaces) section places e s rest shows is x =
    let q = within d interfaces in
    let holds = holding section places q e shows is in
    let frame : FrameText (order_at q) x.block s rest = subst (λ (o : Endianness). FrameText o x.block s rest) (sym holds) x.frame in
    let means : Means q x.block (good q) = subst (λ (t : Bool). MeansIf t q x.block (good q)) (sym x.unkept) refl in
    (record { block = x.block; after = q }, x.other, record { frame = frame; means = means }, shows)

zip_found : (interfaces : List Interface) (shown : List PcapfileInterface) (k : ℕ) → AllZip IsTakenFor interfaces shown → ShowsFound (slice_get interfaces k) (slice_get shown k)
zip_found [] [] k x = tt
zip_found [] (y ∷ ys) k x = absurd x
zip_found (i ∷ is) [] k x = absurd x
zip_found (i ∷ is) (y ∷ ys) zero x = x.0
zip_found (i ∷ is) (y ∷ ys) (suc k) x = zip_found is ys k x.1

packet_unkept : (t : BlockType) → is_packet t ≡ true → is_kept t ≡ false
packet_unkept types.SectionHeader is = absurd cc
packet_unkept types.InterfaceDescription is = absurd cc
packet_unkept _ is = refl

-- A packet.
pub packet_gives : (q : State) (section : PcapfileSection) (places : List PcapfileInterface) (e : Endianness) (s rest : List ℕ) (packet : PcapfileNgPacket) (shown : PcapfileAnyPacket)
    → ShowsInForce section places q → magic_order section.magic_number ≡ Some e → PacketText e packet s rest
    → ShowsAny (slice_get (take section.interfaces places) packet.interface_id) packet shown → GivesPacket q s rest shown
packet_gives opening section places e s rest packet shown shows is text any = absurd (named_some section.magic_number e is shows)
packet_gives (within d interfaces) section places e s rest packet shown shows is text any =
    let q = within d interfaces in
    let holds = holding section places q e shows is in
    let here : PacketText (order_at q) packet s rest = subst (λ (o : Endianness). PacketText o packet s rest) (sym holds) text in
    let means : Means q here.block (good q) = subst (λ (t : Bool). MeansIf t q here.block (good q)) (sym (packet_unkept here.block.type_ here.is)) refl in
    record {
      item = record { block = here.block; after = q };
      text = record { frame = here.frame; means = means };
      is = here.is;
      stays = refl;
      shows = record {
        body = here.body;
        after = here.after;
        says = here.says;
        packet = packet;
        reads = here.shows;
        interface = slice_get (take section.interfaces places) packet.interface_id;
        found = zip_found interfaces (take section.interfaces places) packet.interface_id shows.1;
        shows = any;
      };
    }

-- A new section has no interface.
fresh_section : (next : PcapfileSection) (places : List PcapfileInterface) (d : Section) → ShowsState next (within d []) → ShowsInForce next places (within d [])
fresh_section next places d x =
    let none : next.interfaces ≡ 0 = omega (arith, x.1) in
    (x, subst (λ (n : ℕ). AllZip IsTakenFor [] (take n places)) (sym none) tt)

-- A first block that leads to a state is a section header.
first_leads : (order : Order) (t : BlockType) (s rest : List ℕ) (body : Body) (after : State) → BodySays order t s (whole body rest) → leads opening body ≡ good after
    → (t ≡ types.SectionHeader) × (d : Section) × (after ≡ within d [])
first_leads order types.SectionHeader s rest body after x e = (refl, x.0, good_in after (within x.0 []) (sym e ∙ ap (leads opening) x.1))
first_leads order _ s rest body after x e = absurd (bad_no_good _ after (sym (ap (leads opening) x.1) ∙ e))

-- The first block.
pub first_puts : (q : State) (section next : PcapfileSection) (places : List PcapfileInterface) (s rest : List ℕ) (item : Item) → ShowsInForce section places q → magic_order section.magic_number ≡ None
    → BlockSays q s (whole item rest) → ShowsState next item.after → PutsBlock q next places s rest
first_puts opening section next places s rest item shows none says after =
    let b = item.block in
    let m = says.means in
    let led = first_leads (number_in b.endianness) b.type_ b.body m.1 m.0 item.after m.2 m.3 in
    let here : ShowsState next (within led.1 []) = subst (λ (a : State). ShowsState next a) led.2 after in
    let there = subst (λ (a : State). ShowsInForce next places a) (sym led.2) (fresh_section next places led.1 here) in
    (item, ap is_packet led.0, says, there)
first_puts (within d interfaces) section next places s rest item shows none says after =
    absurd (none_some (magic_order d.magic) (ap magic_order (sym shows.0.0.magic) ∙ none) shows.0.0.named)

-- If a section has no interface, no place has a wrong base.
pub no_bases : (next : PcapfileSection) (places : List PcapfileInterface) → next.interfaces ≡ 0 → HaveBases next places
no_bases next places none = subst (λ (n : ℕ). All HasBase (take n places)) (sym none) (All-nil HasBase)

none_behind_first : (next : PcapfileSection) (s rest : List ℕ) (item : Item) → BlockSays opening s (whole item rest) → ShowsState next item.after → next.interfaces ≡ 0
none_behind_first next s rest item says after =
    let b = item.block in
    let m = says.means in
    let led = first_leads (number_in b.endianness) b.type_ b.body m.1 m.0 item.after m.2 m.3 in
    let here : ShowsState next (within led.1 []) = subst (λ (a : State). ShowsState next a) led.2 after in
    omega (arith, here.1)

-- After the first block of a capture, no place has a wrong base.
pub first_bases : (section next : PcapfileSection) (places : List PcapfileInterface) (s rest : List ℕ) → magic_order section.magic_number ≡ None → (order_shown section.magic_number ≡ None → ⊥)
    → (section.magic_number ≡ 0 → (item : Item) × ShowsState next item.after × BlockSays opening s (whole item rest)) → HaveBases next places
first_bases section next places s rest none not says = elim (eqb_tells section.magic_number 0) [
  | inl naught ↦ let x = says naught.1 in no_bases next places (none_behind_first next s rest x.0 x.2 x.1)
  | inr some ↦ absurd (not (ap (λ (t : Bool). if t then Some Big else magic_order section.magic_number) some.0 ∙ none))
]

-- A section header.
pub section_puts_block : (q : State) (next : PcapfileSection) (places : List PcapfileInterface) (body s rest : List ℕ) → LeadingText (order_at q) types.SectionHeader body s rest → TellsSection body (Ok next)
    → PutsBlock q next places s rest
section_puts_block q next places body s rest text told =
    let b = text.block in
    let means = section_puts b body text.type_is text.body_is q next told in
    (record { block = b; after = within told.0 [] }, ap is_packet text.type_is, record { frame = text.frame; means = means }, fresh_section next places told.0 (told.3, told.4))

-- A refused section header.
pub section_stops : (q : State) (section : PcapfileSection) (places : List PcapfileInterface) (body s rest : List ℕ) (e : PcapError) (error told : PcapfileError) (z : ℤ)
    → LeadingText (order_at q) types.SectionHeader body s rest → TellsSection body (Err e) → ShowsError e told z → Stops q section places s error told (to_z w32 (of_z w32 z))
section_stops q section places body s rest e error told z text refused shows =
    let b = text.block in
    let led = section_refuses b body text.type_is text.body_is q e refused in
    block_stops q section places s error told (to_z w32 (of_z w32 z)) (tells_refusal_where (MayGrow q s) (BlockSays q s) e told z (body_refuses q s b rest text.frame e led) shows)

interface_no_section : types.InterfaceDescription ≡ types.SectionHeader → ⊥
interface_no_section e = absurd cc

-- An interface, after a section and its interfaces so far.
module _ (d : Section) (interfaces : List Interface) (section : PcapfileSection) (places : List PcapfileInterface) (e : Endianness) (body s rest : List ℕ)
    (shows : ShowsInForce section places (within d interfaces)) (is : magic_order section.magic_number ≡ Some e) (text : LeadingText (order_at (within d interfaces)) types.InterfaceDescription body s rest) where
  interface_order : text.block.endianness ≡ e
  interface_order =
      frame_order (order_at (within d interfaces)) text.block s rest text.frame (λ other. interface_no_section (sym text.type_is ∙ other)) ∙ holding section places (within d interfaces) e shows is

  -- The bytes begin with an interface that leads to the next state.
  abbrev InterfaceText : PcapfileInterface → Type 0
  InterfaceText found = (i : Interface) × IsTakenFor i found × BlockText (within d interfaces) (record { block = text.block; after = within d (interfaces ++ i ∷ []) }) s rest

  interface_text : (found : PcapfileInterface) → BodyTells ShowsInterface IsInterface e types.InterfaceDescription body (Ok (Some found)) → InterfaceText found
  interface_text found told =
      let b = text.block in
      let i = told.3.0 in
      let said : BodySays (number_in e) types.InterfaceDescription body (whole (InterfaceBody i) told.1) = (i, refl, told.3.2) in
      let there : BodySays (number_in b.endianness) b.type_ b.body (whole (InterfaceBody i) told.1) = rw (interface_order, text.type_is, sym text.body_is) said in
      let means = read_means (within d interfaces) b (good (within d (interfaces ++ i ∷ []))) (ap is_kept text.type_is) (InterfaceBody i, told.1, there, refl) in
      (i, (subst (λ (v : Body). ShowsInterface v found) told.3.1 told.2).taken, record { frame = text.frame; means = means })

  interface_counted : (i : Interface) → section.interfaces < length places → section.interfaces < 2 ^ 32 - 1 → section.interfaces + 1 ≡ min (length (interfaces ++ i ∷ [])) (2 ^ 32 - 1)
  interface_counted i within_places few =
      let long : length interfaces ≡ length (take section.interfaces places) = sym (AllZip-long IsTakenFor interfaces (take section.interfaces places) shows.1) in
      let count : length (take section.interfaces places) ≡ section.interfaces = length-take-le section.interfaces places (omega (arith, within_places)) in
      omega (arith, long, count, few, length-append interfaces (i ∷ []))

-- An interface for which there is a place.
pub found_puts : (q : State) (section next : PcapfileSection) (places : List PcapfileInterface) (e : Endianness) (body s rest : List ℕ) (found : PcapfileInterface) → ShowsInForce section places q
    → magic_order section.magic_number ≡ Some e → LeadingText (order_at q) types.InterfaceDescription body s rest → BodyTells ShowsInterface IsInterface e types.InterfaceDescription body (Ok (Some found))
    → section.interfaces < length places → section.interfaces < 2 ^ 32 - 1 → next.interfaces ≡ section.interfaces + 1 → next.magic_number ≡ section.magic_number
    → next.version_major ≡ section.version_major → next.version_minor ≡ section.version_minor → PutsBlock q next (slice_set places section.interfaces found) s rest
found_puts opening section next places e body s rest found shows is text told within_places few count magic major minor = absurd (named_some section.magic_number e is shows)
found_puts (within d interfaces) section next places e body s rest found shows is text told within_places few count magic major minor =
    let t = interface_text d interfaces section places e body s rest shows is text found told in
    let all = interfaces ++ t.0 ∷ [] in
    let counts = count ∙ interface_counted d interfaces section places e body s rest shows is text t.0 within_places few in
    let state : ShowsState next (within d all) = (record { magic = magic ∙ shows.0.0.magic; named = shows.0.0.named; major = major ∙ shows.0.0.major; minor = minor ∙ shows.0.0.minor }, counts) in
    let taken : take next.interfaces (slice_set places section.interfaces found) ≡ take section.interfaces places ++ found ∷ [] = take-set_at places section.interfaces next.interfaces found count within_places in
    let zip : AllZip IsTakenFor all (take next.interfaces (slice_set places section.interfaces found)) = rw taken (zip_push IsTakenFor interfaces (take section.interfaces places) t.0 found shows.1 t.1) in
    (record { block = text.block; after = within d all }, ap is_packet text.type_is, t.2, (state, zip))

shown_base : (body : Body) (found : PcapfileInterface) → ShowsInterface body found → HasBase found
shown_base (InterfaceBody i) found shows = shows.base
shown_base _ found shows = absurd shows

-- The struct of the interface has the base of its unit.
pub found_bases : (section : PcapfileSection) (n : ℕ) (places : List PcapfileInterface) (e : Endianness) (body : List ℕ) (found : PcapfileInterface)
    → BodyTells ShowsInterface IsInterface e types.InterfaceDescription body (Ok (Some found)) → section.interfaces < length places → n ≡ section.interfaces + 1
    → HaveBases section places → All HasBase (take n (slice_set places section.interfaces found))
found_bases section n places e body found told within_places count had =
    let taken : take n (slice_set places section.interfaces found) ≡ take section.interfaces places ++ found ∷ [] = take-set_at places section.interfaces n found count within_places in
    rw taken (All-push HasBase (take section.interfaces places) found had (shown_base told.0 found told.2))

pub found_lacks : (q : State) (section : PcapfileSection) (places : List PcapfileInterface) (e : Endianness) (body s rest : List ℕ) (found : PcapfileInterface) → ShowsInForce section places q
    → magic_order section.magic_number ≡ Some e → LeadingText (order_at q) types.InterfaceDescription body s rest → BodyTells ShowsInterface IsInterface e types.InterfaceDescription body (Ok (Some found))
    → (length places ≤ section.interfaces) ⊎ (section.interfaces ≡ 2 ^ 32 - 1) → LacksPlace q section places s
found_lacks opening section places e body s rest found shows is text told full = absurd (named_some section.magic_number e is shows)
found_lacks (within d interfaces) section places e body s rest found shows is text told full =
    let t = interface_text d interfaces section places e body s rest shows is text found told in
    (record { block = text.block; after = within d (interfaces ++ t.0 ∷ []) }, rest, text.type_is, t.2, full)

pub found_stops : (q : State) (section : PcapfileSection) (places : List PcapfileInterface) (e : Endianness) (body s rest : List ℕ) (error : PcapError) (error_before told : PcapfileError) (z : ℤ)
    → ShowsInForce section places q → magic_order section.magic_number ≡ Some e → LeadingText (order_at q) types.InterfaceDescription body s rest
    → BodyTells ShowsInterface IsInterface e types.InterfaceDescription body (Err error) → ShowsError error told z → Stops q section places s error_before told (to_z w32 (of_z w32 z))
found_stops opening section places e body s rest error error_before told z shows is text refused shown = absurd (named_some section.magic_number e is shows)
found_stops (within d interfaces) section places e body s rest error error_before told z shows is text refused shown =
    let b = text.block in
    let q = within d interfaces in
    let there : Refuses (GrowsInBody b) (λ n. SaysOfBody b (lacks n)) (λ fault. SaysOfBody b (faulty fault)) error = rw (interface_order d interfaces section places e body s rest shows is text, text.type_is, sym text.body_is) refused in
    let faults = body_faults b (GrowsInBody b) (λ fault. SaysOfBody b (faulty fault)) error there in
    let led = change_refuses section q b error shows.0 (named_some section.magic_number e is) (ap is_kept text.type_is) faults in
    block_stops q section places s error_before told (to_z w32 (of_z w32 z)) (tells_refusal_where (MayGrow q s) (BlockSays q s) error told z (body_refuses q s b rest text.frame error led) shown)

-- Blocks one after the other, none of them a packet, and structs that show the state after them.
abbrev pub PutsBlocks : State → PcapfileSection → List PcapfileInterface → List ℕ → List ℕ → Type 0
PutsBlocks q next now s mid =
    (passed : List Item) × Texts block_format q passed s mid × (filter is_packet_block passed ≡ []) × ShowsInForce next now (state_after block_format q passed)

-- One more block was read.
pub puts_more : (q : State) (section next : PcapfileSection) (places now : List PcapfileInterface) (s mid rest : List ℕ) → (x : PutsBlocks q section places s mid)
    → PutsBlock (state_after block_format q x.0) next now mid rest → PutsBlocks q next now s rest
puts_more q section next places now s mid rest x y =
    let says = block_said (state_after block_format q x.0) y.0 mid rest y.2 in
    let one : filter is_packet_block (y.0 ∷ []) ≡ [] = rw y.1 refl in
    let none : filter is_packet_block (x.0 ++ y.0 ∷ []) ≡ [] = filter-append is_packet_block x.0 (y.0 ∷ []) ∙ ap (λ (l : List Item). l ++ filter is_packet_block (y.0 ∷ [])) x.2 ∙ one in
    (x.0 ++ y.0 ∷ [], texts_push block_format q x.0 y.0 s mid rest x.1 says, none, subst (λ (a : State). ShowsInForce next now a) (sym (behind_push q x.0 y.0)) y.3)

-- A block that is no packet, as a step of a search for any block.
pub puts_step : (q : State) (section next : PcapfileSection) (places now : List PcapfileInterface) (s rest : List ℕ) (packet : PcapfileAnyPacket) (error told : PcapfileError) (r : Option ℤ)
    → PutsTells q (packet_reader section places s tt error) (packet_reader next now rest tt told) r → StepTells q (packet_reader section places s packet error) (packet_reader next now rest packet told) r
puts_step q section next places now s rest packet error told None x = (x.0, refl, x.1)
puts_step q section next places now s rest packet error told (Some z) x = (x.0, x.1, inr (refl, x.2, x.3))

-- ---- what is read from the held bytes

walk_ends : (q : State) (section : PcapfileSection) (places : List PcapfileInterface) (s rest : List ℕ) (old packet : PcapfileAnyPacket) (error told : PcapfileError) (z : ℤ)
    → EndsWalk q section places s rest old packet error told z → (t : List ℕ) × (s ≡ t ++ rest)
walk_ends q section places s rest old packet error told z (inl e) = block_ends q s rest e.2.item e.2.text
walk_ends q section places s rest old packet error told z (inr e) = ([], sym e.1)

front_ends : (q : State) (section next : PcapfileSection) (places now : List PcapfileInterface) (s rest : List ℕ) (old packet : PcapfileAnyPacket) (error told : PcapfileError) (z : ℤ)
    → TakesFrontPacket q (packet_reader section places s old error) (packet_reader next now rest packet told) z → (t : List ℕ) × (s ≡ t ++ rest)
front_ends q section next places now s rest old packet error told z x =
    let o = texts_own block_format blocks_lawful q x.passed s x.mid x.texts in
    let m = walk_ends (state_after block_format q x.passed) next now x.mid rest old packet error told z x.ends in
    (o.0 ++ m.0, o.1 ∙ ap (λ (l : List ℕ). o.0 ++ l) m.1 ∙ sym (append_assoc o.0 m.0 rest))

-- A packet is read from the held bytes.
pub packet_takes : (before : PcapfilePush) (q : State) (section next : PcapfileSection) (places now : List PcapfileInterface) (room s rest : List ℕ) (old packet : PcapfileAnyPacket) (error told : PcapfileError) (z : ℤ)
    → Found before room s → TakesFrontPacket q (packet_reader section places s old error) (packet_reader next now rest packet told) z
    → TakesNextPacket q room (packet_reader section places before old error) (packet_reader next now (with_rest before before.header rest) packet told) z
packet_takes before q section next places now room s rest old packet error told z found x =
    let ends = front_ends q section next places now s rest old packet error told z x in
    let held = held_says (λ s rest. TakesFrontPacket q (packet_reader section places s old error) (packet_reader next now rest packet told) z) before before.header room s rest found ends x in
    inl ((held.0, held.1, refl, refl), held.2)

pub shows_state : (q : State) (section : PcapfileSection) (places : List PcapfileInterface) → ShowsInForce section places q → ShowsState section q
shows_state opening section places shows = shows
shows_state (within d interfaces) section places shows = shows.0

-- The body of a block never leads back to the opening state.
led_within : (q : State) (body : Body) → leads q body ≡ good opening → ⊥
led_within q (SectionBody section) e = absurd cc
led_within opening (InterfaceBody b) e = absurd cc
led_within (within s is) (InterfaceBody b) e = absurd cc
led_within opening _ e = absurd cc
led_within (within s is) _ e = absurd cc

means_if : (k : Bool) (q : State) (b : Framed) → (k ≡ false → q ≡ opening → ⊥) → MeansIf k q b (good opening) → ⊥
means_if true q b other (body, rest, says, e) = led_within q body e
means_if false q b other e = other refl (sym e)

means_within : (q : State) (b : Framed) → Means q b (good opening) → ⊥
means_within opening b (body, rest, says, e) = led_within opening body e
means_within (within s is) b means = means_if (is_kept b.type_) (within s is) b (λ k e. absurd cc) means

-- The state has at least as many interfaces as the struct counts.
counts : (section : PcapfileSection) (places : List PcapfileInterface) (a : State) → (a ≡ opening → ⊥) → ShowsInForce section places a → section.interfaces ≤ length (interfaces_at a)
counts section places opening none shows = absurd (none refl)
counts section places (within s is) none shows = omega (arith, shows.0.1)

counts_behind : (q : State) (b : Framed) (after : State) (section : PcapfileSection) (places : List PcapfileInterface) → Means q b (good after) → ShowsInForce section places after → section.interfaces ≤ length (interfaces_at after)
counts_behind q b after section places means shows = counts section places after (λ is. means_within q b (subst (λ (a : State). Means q b (good a)) is means)) shows

-- After one more block, all other places are unchanged.
others_more : (q : State) (passed : List Item) (item : Item) (places mid now : List PcapfileInterface) (section : PcapfileSection) (s rest : List ℕ)
    → BlockSays q s (whole item rest) → ShowsInForce section now item.after → OthersStay passed places mid
    → ((i : ℕ) → section.interfaces ≤ i → slice_get now i ≡ slice_get mid i) → OthersStay (passed ++ item ∷ []) places now
others_more q passed item places mid now section s rest says shows before step i all =
    let parts = All-pop (λ (x : Item). length (interfaces_at x.after) ≤ i) (passed ++ item ∷ []) passed (Some item) refl all in
    let count = counts_behind q item.block item.after section now says.means shows in
    step i (omega (arith, count, parts.1)) ∙ before i parts.0

-- One more block was read, and all other places are unchanged.
pub puts_and_leaves : (q : State) (section next : PcapfileSection) (start places now : List PcapfileInterface) (s mid rest : List ℕ) → (x : PutsBlocks q section places s mid)
    → PutsBlock (state_after block_format q x.0) next now mid rest → OthersStay x.0 start places → ((i : ℕ) → next.interfaces ≤ i → slice_get now i ≡ slice_get places i)
    → (y : PutsBlocks q next now s rest) × OthersStay y.0 start now
unfolding puts_more
puts_and_leaves q section next start places now s mid rest x y before step = (
  puts_more q section next places now s mid rest x y,
  others_more (state_after block_format q x.0) x.0 y.0 start places now next mid rest y.2 y.3 before step,
)

-- At the end of a search, with a packet or without, all other places are unchanged.
pub others_done : (q : State) (section : PcapfileSection) (places start now : List PcapfileInterface) (next : PcapfileSection) (s mid rest : List ℕ) (old packet : PcapfileAnyPacket) (error told : PcapfileError) (z : ℤ)
    → (x : PutsBlocks q section places s mid) → next ≡ section → now ≡ places → EndsWalk (state_after block_format q x.0) section places mid rest old packet error told z → OthersStay x.0 start places
    → LeavesOthers q next start now s rest
others_done q section places start now next s mid rest old packet error told z x same_section same (inl (status, kept, gives)) others =
    let here = state_after block_format q x.0 in
    let item = gives.item in
    let behind : state_after block_format q (x.0 ++ item ∷ []) ≡ here = behind_push q x.0 item ∙ gives.stays in
    rw (same_section, same) (record {
      passed = x.0 ++ item ∷ [];
      texts = texts_push block_format q x.0 item s mid rest x.1 (block_said here item mid rest gives.text);
      in_force = subst (λ (a : State). ShowsInForce section places a) (sym behind) x.3;
      others = λ i all. others i (All-pop (λ (x : Item). length (interfaces_at x.after) ≤ i) (x.0 ++ item ∷ []) x.0 (Some item) refl all).0;
    })
others_done q section places start now next s mid rest old packet error told z x same_section same (inr (kept, is, stops)) others =
    rw (same_section, same, is) (record { passed = x.0; texts = x.1; in_force = x.3; others = others })

-- If nothing is read, all places are unchanged.
pub others_none : (q : State) (section : PcapfileSection) (places : List PcapfileInterface) (s : List ℕ) → ShowsInForce section places q → LeavesOthers q section places places s s
others_none q section places s shows = record { passed = []; texts = refl; in_force = shows; others = λ i below. refl }

behind_all : (q : State) (items more : List Item) → state_after block_format q (items ++ more) ≡ state_after block_format (state_after block_format q items) more
unfolding block_format
behind_all q [] more = refl
behind_all q (item ∷ items) more = behind_all item.after items more

-- After two calls, all other places are unchanged.
pub others_joined : (q : State) (section next : PcapfileSection) (places between now : List PcapfileInterface) (s mid rest : List ℕ) → (x : LeavesOthers q section places between s mid)
    → LeavesOthers (state_after block_format q x.passed) next between now mid rest → LeavesOthers q next places now s rest
others_joined q section next places between now s mid rest x y =
    let all = x.passed ++ y.passed in
    record {
      passed = all;
      texts = texts_all block_format q x.passed y.passed s mid rest x.texts y.texts;
      in_force = subst (λ (a : State). ShowsInForce next now a) (sym (behind_all q x.passed y.passed)) y.in_force;
      others = λ i below.
          let n = length x.passed in
          let front = subst (All (λ (x : Item). length (interfaces_at x.after) ≤ i)) (take_at x.passed y.passed n refl) (All-take (λ (x : Item). length (interfaces_at x.after) ≤ i) n all below) in
          let back = subst (All (λ (x : Item). length (interfaces_at x.after) ≤ i)) (drop_at x.passed y.passed n refl) (All-drop (λ (x : Item). length (interfaces_at x.after) ≤ i) n all below) in
          y.others i back ∙ x.others i front;
    }

-- All other places are unchanged by a call that reads from the held bytes.
pub others_held : (before : PcapfilePush) (q : State) (next : PcapfileSection) (places now : List PcapfileInterface) (room s rest : List ℕ) → Found before room s → LeavesOthers q next places now s rest
    → LeavesOthers q next places now (held_in before room) (held_in (with_rest before before.header rest) room)
others_held before q next places now room s rest found x =
    let o = texts_own block_format blocks_lawful q x.passed s rest x.texts in
    (held_says (λ s rest. LeavesOthers q next places now s rest) before before.header room s rest found (o.0, o.1) x).2

-- A search ends after blocks that are no packets.
pub walk_done : (q : State) (first section next : PcapfileSection) (begun places now : List PcapfileInterface) (s mid rest : List ℕ) (old before packet : PcapfileAnyPacket) (error known told : PcapfileError) (z : ℤ)
    → before ≡ old → known ≡ error → (x : PutsBlocks q section places s mid) → StepTells (state_after block_format q x.0) (packet_reader section places mid before known) (packet_reader next now rest packet told) (Some z)
    → TakesFrontPacket q (packet_reader first begun s old error) (packet_reader next now rest packet told) z
walk_done q first section next begun places now s mid rest old before packet error known told z same is x y =
    let here : TakesFrontPacket q (packet_reader first begun s before known) (packet_reader section places rest packet told) z = record { passed = x.0; mid = mid; texts = x.1; none = x.2; in_force = x.3; ends = y.2 } in
    rw (y.0, y.1, sym same, sym is) here
