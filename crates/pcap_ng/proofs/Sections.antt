-- The state to which blocks lead is what their bodies leave in force.
use Rattle.std.proofs.Common.{◌≡◌, ℕ, List, [], ◌∷◌, ◌++◌, map, refl, sym, ap, subst, ◌∙◌, true, false, append_assoc, append-nil}
use Rattle.std.specs.Prelude.{All, filter}
use Rattle.std.specs.List.{AllZip}
use Rattle.std.proofs.lemmas.List.Elements.{All-push, All-nil, filter-append}
use Rattle.pcap_core.specs.Answer.{whole, number_in}
use Rattle.pcap_core.specs.Faults.{Fault}
use Rattle.pcap_items.specs.Format.{Texts, state_after}
use Rattle.pcap_items.specs.Headed.{good, bad}
use Rattle.pcap_blocks.specs.declared.block_type.BlockType.{BlockType}
use Rattle.pcap_blocks.specs.declared.block_type.BlockType.TheVariants as types
use Rattle.pcap_blocks.specs.SectionHeader.{Section}
use Rattle.pcap_blocks.specs.InterfaceDescription.{Interface}
use Rattle.pcap_blocks.specs.ParsedBlock.{Body, SectionBody, InterfaceBody, BodySays}
use Rattle.pcap_ng.specs.Bodies.{SaysOfBody}
use Rattle.pcap_ng.specs.Blocks.{Item, block_format}
use Rattle.pcap_ng.specs.Frames.{Framed}
use Rattle.pcap_ng.specs.Sections.{is_section, is_interface, IsInterfaceIn, LeavesInForce, Leaves}
use Rattle.pcap_ng.specs.State.{State, opening, within, is_kept, leads, MeansIf, Means}
use Rattle.pcap_ng.proofs.BlockFormat.{good_in}

pub bad_no_good : (f : Fault) (a : State) → bad f ≡ good a → ⊥
bad_no_good f a e = absurd cc

-- The body of a block of this type is read by this type.
body_as : (b : Framed) (type : BlockType) (body : Body) (rest : List ℕ) → b.type_ ≡ type → SaysOfBody b (whole body rest) → BodySays (number_in b.endianness) type b.body (whole body rest)
body_as b type body rest is says = subst (λ (t : BlockType). BodySays (number_in b.endianness) t b.body (whole body rest)) is says

-- Equal bodies lead to the same state.
leads_as : (q next : State) (body other : Body) → body ≡ other → leads q body ≡ good next → leads q other ≡ good next
leads_as q next body other is e = subst (λ (x : Body). leads q x ≡ good next) is e

-- A section header leaves its section in force, with no interface.
section_leaves : (blocks : List Framed) (q next : State) (b : Framed) (section : Section) (rest : List ℕ) → b.type_ ≡ types.SectionHeader → SaysOfBody b (whole (SectionBody section) rest)
    → leads q (SectionBody section) ≡ good next → Leaves (blocks ++ b ∷ []) next
section_leaves blocks q next b section rest is says e =
    let there : within section [] ≡ next = good_in (within section []) next e in
    let left : LeavesInForce (blocks ++ b ∷ []) section [] = record {
      before = blocks;
      header = b;
      after = [];
      rest = rest;
      split = refl;
      is_header = ap is_section is;
      section_is = says;
      is_last = All-nil (λ (c : Framed). is_section c.type_ ≡ false);
      interfaces_are = tt;
    } in
    subst (λ (p : State). Leaves (blocks ++ b ∷ []) p) there left

-- The first block leaves a section in force.
section_opens : (b : Framed) (type : BlockType) (next : State) (body : Body) (rest : List ℕ) → b.type_ ≡ type → SaysOfBody b (whole body rest) → leads opening body ≡ good next → Leaves (b ∷ []) next
section_opens b types.SectionHeader next body rest is says e =
    let x = body_as b types.SectionHeader body rest is says in
    let there : SaysOfBody b (whole (SectionBody x.0) rest) = subst (λ (y : Body). SaysOfBody b (whole y rest)) x.1 says in
    section_leaves [] opening next b x.0 rest is there (leads_as opening next body (SectionBody x.0) x.1 e)
section_opens b types.InterfaceDescription next body rest is says e = let x = body_as b types.InterfaceDescription body rest is says in absurd (bad_no_good _ next (leads_as opening next body _ x.1 e))
section_opens b types.Packet next body rest is says e = let x = body_as b types.Packet body rest is says in absurd (bad_no_good _ next (leads_as opening next body _ x.1 e))
section_opens b types.SimplePacket next body rest is says e = let x = body_as b types.SimplePacket body rest is says in absurd (bad_no_good _ next (leads_as opening next body _ x.1 e))
section_opens b types.NameResolution next body rest is says e = let x = body_as b types.NameResolution body rest is says in absurd (bad_no_good _ next (leads_as opening next body _ x.1 e))
section_opens b types.InterfaceStatistics next body rest is says e = let x = body_as b types.InterfaceStatistics body rest is says in absurd (bad_no_good _ next (leads_as opening next body _ x.1 e))
section_opens b types.EnhancedPacket next body rest is says e = let x = body_as b types.EnhancedPacket body rest is says in absurd (bad_no_good _ next (leads_as opening next body _ x.1 e))
section_opens b types.SystemdJournalExport next body rest is says e = let x = body_as b types.SystemdJournalExport body rest is says in absurd (bad_no_good _ next (leads_as opening next body _ x.1 e))
section_opens b (types.Unknown n) next body rest is says e = let x = body_as b (types.Unknown n) body rest is says in absurd (bad_no_good _ next (leads_as opening next body _ x.1 e))

abbrev interfaces_of : List Framed → List Framed
interfaces_of bs = filter (λ (x : Framed). is_interface x.type_) bs

-- A block that is not an interface description adds no interface.
no_interface : (b : Framed) → is_interface b.type_ ≡ false → interfaces_of (b ∷ []) ≡ []
no_interface b is = rw is refl

one_interface : (b : Framed) → is_interface b.type_ ≡ true → interfaces_of (b ∷ []) ≡ b ∷ []
one_interface b is = rw is refl

interfaces_push : (bs : List Framed) (interfaces : List Interface) (b : Framed) (interface : Interface) → AllZip IsInterfaceIn bs interfaces → IsInterfaceIn b interface
    → AllZip IsInterfaceIn (bs ++ b ∷ []) (interfaces ++ interface ∷ [])
interfaces_push [] [] b interface all one = (one, tt)
interfaces_push (c ∷ bs) (i ∷ interfaces) b interface all one = (all.0, interfaces_push bs interfaces b interface all.1 one)
interfaces_push [] (i ∷ interfaces) b interface all one = absurd all
interfaces_push (c ∷ bs) [] b interface all one = absurd all

module _ (blocks : List Framed) (section : Section) (interfaces : List Interface) (x : LeavesInForce blocks section interfaces) (b : Framed) where
  split_push : blocks ++ b ∷ [] ≡ x.before ++ x.header ∷ (x.after ++ b ∷ [])
  split_push = ap (λ (l : List Framed). l ++ b ∷ []) x.split ∙ append_assoc x.before (x.header ∷ x.after) (b ∷ [])

  last_push : is_section b.type_ ≡ false → All (λ (c : Framed). is_section c.type_ ≡ false) (x.after ++ b ∷ [])
  last_push none = All-push (λ (c : Framed). is_section c.type_ ≡ false) x.after b x.is_last none

  -- Any other block leaves what is in force unchanged.
  other_leaves : (next : State) → is_section b.type_ ≡ false → is_interface b.type_ ≡ false → next ≡ within section interfaces → Leaves (blocks ++ b ∷ []) next
  other_leaves next none is e =
      let same : interfaces_of (x.after ++ b ∷ []) ≡ interfaces_of x.after = filter-append (λ (c : Framed). is_interface c.type_) x.after (b ∷ []) ∙ ap (λ (l : List Framed). interfaces_of x.after ++ l) (no_interface b is) ∙ append-nil (interfaces_of x.after) in
      let left : LeavesInForce (blocks ++ b ∷ []) section interfaces = record {
        before = x.before;
        header = x.header;
        after = x.after ++ b ∷ [];
        rest = x.rest;
        split = split_push;
        is_header = x.is_header;
        section_is = x.section_is;
        is_last = last_push none;
        interfaces_are = subst (λ (l : List Framed). AllZip IsInterfaceIn l interfaces) (sym same) x.interfaces_are;
      } in
      subst (λ (p : State). Leaves (blocks ++ b ∷ []) p) (sym e) left

  -- An interface description adds one interface.
  interface_leaves : (next : State) (interface : Interface) (rest : List ℕ) → b.type_ ≡ types.InterfaceDescription → SaysOfBody b (whole (InterfaceBody interface) rest)
      → leads (within section interfaces) (InterfaceBody interface) ≡ good next → Leaves (blocks ++ b ∷ []) next
  interface_leaves next interface rest is says e =
      let there : within section (interfaces ++ interface ∷ []) ≡ next = good_in (within section (interfaces ++ interface ∷ [])) next e in
      let more : interfaces_of (x.after ++ b ∷ []) ≡ interfaces_of x.after ++ b ∷ [] = filter-append (λ (c : Framed). is_interface c.type_) x.after (b ∷ []) ∙ ap (λ (l : List Framed). interfaces_of x.after ++ l) (one_interface b (ap is_interface is)) in
      let left : LeavesInForce (blocks ++ b ∷ []) section (interfaces ++ interface ∷ []) = record {
        before = x.before;
        header = x.header;
        after = x.after ++ b ∷ [];
        rest = x.rest;
        split = split_push;
        is_header = x.is_header;
        section_is = x.section_is;
        is_last = last_push (ap is_section is);
        interfaces_are = subst (λ (l : List Framed). AllZip IsInterfaceIn l (interfaces ++ interface ∷ [])) (sym more) (interfaces_push (interfaces_of x.after) interfaces b interface x.interfaces_are (rest, says));
      } in
      subst (λ (p : State). Leaves (blocks ++ b ∷ []) p) there left

  -- A block of any type leaves in force the state to which it leads.
  block_leaves : (type : BlockType) (next : State) → b.type_ ≡ type → MeansIf (is_kept type) (within section interfaces) b (good next) → Leaves (blocks ++ b ∷ []) next
  block_leaves types.SectionHeader next is m =
      let y = body_as b types.SectionHeader m.0 m.1 is m.2 in
      let there : SaysOfBody b (whole (SectionBody y.0) m.1) = subst (λ (z : Body). SaysOfBody b (whole z m.1)) y.1 m.2 in
      section_leaves blocks (within section interfaces) next b y.0 m.1 is there (leads_as (within section interfaces) next m.0 (SectionBody y.0) y.1 m.3)
  block_leaves types.InterfaceDescription next is m =
      let y = body_as b types.InterfaceDescription m.0 m.1 is m.2 in
      let there : SaysOfBody b (whole (InterfaceBody y.0) m.1) = subst (λ (z : Body). SaysOfBody b (whole z m.1)) y.1 m.2 in
      interface_leaves next y.0 m.1 is there (leads_as (within section interfaces) next m.0 (InterfaceBody y.0) y.1 m.3)
  block_leaves types.Packet next is m = other_leaves next (ap is_section is) (ap is_interface is) m
  block_leaves _ next is m = other_leaves next (ap is_section is) (ap is_interface is) m

-- If blocks leave a state in force, one more block leaves the state after it in force.
leaves_more : (blocks : List Framed) (q : State) (item : Item) → Leaves blocks q → Means q item.block (good item.after) → Leaves (blocks ++ item.block ∷ []) item.after
leaves_more blocks opening item x m = absurd x
leaves_more blocks (within section interfaces) item x m = block_leaves blocks section interfaces x item.block item.block.type_ item.after refl m

texts_more : (blocks : List Framed) (q : State) (items : List Item) (s rest : List ℕ) → Leaves blocks q → Texts block_format q items s rest → Leaves (blocks ++ map (λ (item : Item). item.block) items) (state_after block_format q items)
unfolding block_format
texts_more blocks q [] s rest x texts = subst (λ (l : List Framed). Leaves l q) (sym (append-nil blocks)) x
texts_more blocks q (item ∷ items) s rest x texts =
    let next = leaves_more blocks q item x (texts.1).means in
    let all = texts_more (blocks ++ item.block ∷ []) item.after items texts.0 rest next texts.2 in
    subst (λ (l : List Framed). Leaves l (state_after block_format item.after items)) (append_assoc blocks (item.block ∷ []) (map (λ (i : Item). i.block) items)) all

pub texts_leave : (first : Item) (items : List Item) (s rest : List ℕ) → Texts block_format opening (first ∷ items) s rest
    → Leaves (map (λ (item : Item). item.block) (first ∷ items)) (state_after block_format opening (first ∷ items))
unfolding block_format
texts_leave first items s rest texts =
    let m = (texts.1).means in
    let opened = section_opens first.block first.block.type_ first.after m.0 m.1 refl m.2 m.3 in
    texts_more (first.block ∷ []) first.after items texts.0 rest opened texts.2
