-- A parser that is fed with the blocks in force has the same state.
use Rattle.std.proofs.Common.{◌≡◌, ℕ, List, [], ◌∷◌, ◌++◌, map, refl, sym, ap, subst, ◌∙◌, Bool, true, false}
use Rattle.std.specs.Prelude.{All, filter}
use Rattle.std.specs.List.{AllZip}
use Rattle.std.proofs.lemmas.List.Elements.{All-filter, All-head, All-tail}
use Rattle.pcap_core.specs.Answer.{whole}
use Rattle.pcap_items.specs.Format.{Format, Texts, state_after, IsLawful}
use Rattle.pcap_items.proofs.Formats.{state_push, cons_same}
use Rattle.pcap_blocks.specs.SectionHeader.{Section}
use Rattle.pcap_blocks.specs.InterfaceDescription.{Interface}
use Rattle.pcap_blocks.specs.ParsedBlock.{SectionBody, InterfaceBody}
use Rattle.pcap_ng.specs.Bodies.{SaysOfBody}
use Rattle.pcap_ng.specs.Blocks.{Item, BlockSays, block_format}
use Rattle.pcap_ng.specs.Frames.{Framed}
use Rattle.pcap_ng.specs.Sections.{is_section, is_interface, IsInterfaceIn, LeavesInForce, Leaves}
use Rattle.pcap_ng.specs.State.{State, opening, within}
use Rattle.pcap_ng.specs.Opening.{OpeningSays}
use Rattle.pcap_ng.proofs.BlockFormat.{blocks_lawful, goes_after}
use Rattle.pcap_ng.proofs.Sections.{texts_leave}
use Rattle.pcap_ng.proofs.Bodies.{bodies_same}
use Rattle.pcap_parts.specs.Resume.{Fed, IsFed, blocks_in_force}

abbrev NoSection : Framed → Type 0
NoSection b = is_section b.type_ ≡ false

abbrev interfaces_of : List Framed → List Framed
interfaces_of bs = filter (λ (x : Framed). is_interface x.type_) bs

mid_of : {X : Type 0} (P : X → Type 0) (bs : List X) (h : X) (xs : List X) → All P (bs ++ h ∷ xs) → P h
mid_of P [] h xs a = All-head P h xs a
mid_of P (b ∷ bs) h xs a = mid_of P bs h xs (All-tail P b (bs ++ h ∷ xs) a)

both : (b : Framed) → is_section b.type_ ≡ true → NoSection b → ⊥
both b is isnt = let e : true ≡ false = sym is ∙ isnt in absurd cc

-- A list of blocks has only one last section header.
last_same : (us ws : List Framed) (h k : Framed) (xs ys : List Framed) → us ++ h ∷ xs ≡ ws ++ k ∷ ys → is_section h.type_ ≡ true → is_section k.type_ ≡ true
    → All NoSection xs → All NoSection ys → (h ≡ k) × (xs ≡ ys)
last_same [] [] h k xs ys e hs ks nx ny = (cc, cc)
last_same [] (c ∷ cs) h k xs ys e hs ks nx ny =
    let tails : xs ≡ cs ++ k ∷ ys = cc in
    absurd (both k ks (mid_of NoSection cs k ys (subst (λ (l : List Framed). All NoSection l) tails nx)))
last_same (c ∷ cs) [] h k xs ys e hs ks nx ny =
    let tails : ys ≡ cs ++ h ∷ xs = cc in
    absurd (both h hs (mid_of NoSection cs h xs (subst (λ (l : List Framed). All NoSection l) tails ny)))
last_same (c ∷ cs) (d ∷ ds) h k xs ys e hs ks nx ny =
    let tails : cs ++ h ∷ xs ≡ ds ++ k ∷ ys = cc in
    last_same cs ds h k xs ys tails hs ks nx ny

sections_same : (x y : Section) → SectionBody x ≡ SectionBody y → x ≡ y
sections_same x y e = cc

interface_same : (x y : Interface) → InterfaceBody x ≡ InterfaceBody y → x ≡ y
interface_same x y e = cc

interfaces_same : (bs : List Framed) (is js : List Interface) → AllZip IsInterfaceIn bs is → AllZip IsInterfaceIn bs js → is ≡ js
interfaces_same [] [] [] x y = refl
interfaces_same (b ∷ bs) (i ∷ is) (j ∷ js) x y =
    cons_same i j is js (interface_same i j (bodies_same b (InterfaceBody i) (InterfaceBody j) x.0.0 y.0.0 x.0.1 y.0.1)) (interfaces_same bs is js x.1 y.1)
interfaces_same [] (i ∷ is) js x y = absurd x
interfaces_same (b ∷ bs) [] js x y = absurd x
interfaces_same _ _ _ x y = absurd y

-- Blocks with the same last section header, and the same interfaces after it, leave the same state in force.
pub force_same : (bs cs : List Framed) (s t : Section) (is js : List Interface) (x : LeavesInForce bs s is) (y : LeavesInForce cs t js) → x.header ≡ y.header
    → interfaces_of x.after ≡ interfaces_of y.after → within s is ≡ within t js
force_same bs cs s t is js x y h i =
    let there : SaysOfBody y.header (whole (SectionBody s) x.rest) = subst (λ (b : Framed). SaysOfBody b (whole (SectionBody s) x.rest)) h x.section_is in
    let section : s ≡ t = sections_same s t (bodies_same y.header (SectionBody s) (SectionBody t) x.rest y.rest there y.section_is) in
    let mine : AllZip IsInterfaceIn (interfaces_of y.after) is = subst (λ (l : List Framed). AllZip IsInterfaceIn l is) i x.interfaces_are in
    let interfaces : is ≡ js = interfaces_same (interfaces_of y.after) is js mine y.interfaces_are in
    rw (section, interfaces) refl

filter_step : {X : Type 0} (p : X → Bool) (x : X) (xs : List X) (b : Bool) → p x ≡ b → filter p (filter p xs) ≡ filter p xs → filter p (filter p (x ∷ xs)) ≡ filter p (x ∷ xs)
filter_step p x xs true e ih = rw (e, e) (ap (λ l. x ∷ l) ih)
filter_step p x xs false e ih = rw e ih

filter_twice : {X : Type 0} (p : X → Bool) (xs : List X) → filter p (filter p xs) ≡ filter p xs
filter_twice p [] = refl
filter_twice p (x ∷ xs) = filter_step p x xs (p x) refl (filter_twice p xs)

-- The blocks in force, by themselves, leave the same state in force.
pub force_alone : (bs : List Framed) (s : Section) (is : List Interface) (x : LeavesInForce bs s is) → LeavesInForce (blocks_in_force bs s is x) s is
force_alone bs s is x = record {
  before = [];
  header = x.header;
  after = interfaces_of x.after;
  rest = x.rest;
  split = refl;
  is_header = x.is_header;
  section_is = x.section_is;
  is_last = All-filter (λ (b : Framed). is_interface b.type_) NoSection x.after x.is_last;
  interfaces_are = subst (λ (l : List Framed). AllZip IsInterfaceIn l is) (sym (filter_twice (λ (b : Framed). is_interface b.type_) x.after)) x.interfaces_are;
}

-- Blocks leave only one state in force.
pub leaves_one : (bs : List Framed) (p q : State) → Leaves bs p → Leaves bs q → p ≡ q
leaves_one bs opening q x y = absurd x
leaves_one bs (within s is) opening x y = absurd y
leaves_one bs (within s is) (within t js) x y =
    let same = last_same x.before y.before x.header y.header x.after y.after (sym x.split ∙ y.split) x.is_header y.is_header x.is_last y.is_last in
    force_same bs bs s t is js x y same.0 (ap interfaces_of same.1)

-- Items that are fed to a parser slice by slice are the items of one text.
pub fed_texts : {S V : Type 0} (f : Format S V) → IsLawful f → (q : S) (vs : List V) (ss : List (List ℕ)) → Fed f q vs ss → (t : List ℕ) × Texts f q vs t []
fed_texts f laws q [] [] fed = ([], refl)
fed_texts f laws q (v ∷ vs) (s ∷ ss) fed =
    let one = laws.own q s fed.0 v fed.1 in
    let more = fed_texts f laws (f.goes q v) vs ss fed.2 in
    (one.0 ++ more.0, (more.0, (laws.stable q).text one.0 more.0 [] v one.2, more.1))
fed_texts f laws q _ _ fed = absurd fed

-- A parser that is fed with the blocks in force at a boundary has the state to which the blocks before the boundary lead.
pub resumed : (first : Item) (items : List Item) (s rest : List ℕ) → Texts block_format opening (first ∷ items) s rest
    → (section : Section) (interfaces : List Interface) (x : LeavesInForce (map (λ (item : Item). item.block) (first ∷ items)) section interfaces)
    → (header : Item) (others : List Item) (slices : List (List ℕ)) → Fed block_format opening (header ∷ others) slices
    → map (λ (item : Item). item.block) (header ∷ others) ≡ blocks_in_force (map (λ (item : Item). item.block) (first ∷ items)) section interfaces x
    → state_after block_format opening (header ∷ others) ≡ state_after block_format opening (first ∷ items)
resumed first items s rest texts section interfaces x header others slices fed same =
    let blocks = map (λ (item : Item). item.block) (first ∷ items) in
    let p = state_after block_format opening (header ∷ others) in
    let q = state_after block_format opening (first ∷ items) in
    let alone = fed_texts block_format blocks_lawful opening (header ∷ others) slices fed in
    let fresh : Leaves (map (λ (item : Item). item.block) (header ∷ others)) p = texts_leave header others alone.0 [] alone.1 in
    let there : Leaves (blocks_in_force blocks section interfaces x) p = subst (λ (l : List Framed). Leaves l p) same fresh in
    let here : Leaves (blocks_in_force blocks section interfaces x) (within section interfaces) = force_alone blocks section interfaces x in
    let whole_run : Leaves blocks q = texts_leave first items s rest texts in
    leaves_one (blocks_in_force blocks section interfaces x) p (within section interfaces) there here ∙ leaves_one blocks (within section interfaces) q x whole_run

fed_push : {S V : Type 0} (f : Format S V) (q : S) (vs : List V) (ss : List (List ℕ)) (v : V) (s rest : List ℕ) → Fed f q vs ss → f.says (state_after f q vs) s (whole v rest) → Fed f q (vs ++ v ∷ []) (ss ++ s ∷ [])
fed_push f q [] [] v s rest fed x = (rest, x, tt)
fed_push f q (w ∷ vs) (t ∷ ss) v s rest fed x = (fed.0, fed.1, fed_push f (f.goes q w) vs ss v s rest fed.2 x)
fed_push f q _ _ v s rest fed x = absurd fed

pub fed_first : (s rest : List ℕ) (q : State) → OpeningSays s (whole q rest) → IsFed s [] q
unfolding block_format
fed_first s rest q x = record { header = record { block = x.0; after = q }; others = []; fed = (rest, x.1, tt); state_is = refl }

block_says : (p : State) (t rest : List ℕ) (item : Item) → BlockSays p t (whole item rest) → block_format.says p t (whole item rest)
unfolding block_format
block_says p t rest item x = x

pub fed_more : (s t rest : List ℕ) (slices : List (List ℕ)) (p : State) (item : Item) → IsFed s slices p → BlockSays p t (whole item rest) → IsFed s (slices ++ t ∷ []) item.after
fed_more s t rest slices p item x text =
    let says : block_format.says p t (whole item rest) = block_says p t rest item text in
    let there : block_format.says (state_after block_format opening (x.header ∷ x.others)) t (whole item rest) = subst (λ (z : State). block_format.says z t (whole item rest)) (sym x.state_is) says in
    record {
      header = x.header;
      others = x.others ++ item ∷ [];
      fed = fed_push block_format opening (x.header ∷ x.others) (s ∷ slices) item t rest x.fed there;
      state_is = state_push block_format opening (x.header ∷ x.others) item ∙ goes_after (state_after block_format opening (x.header ∷ x.others)) item;
    }
