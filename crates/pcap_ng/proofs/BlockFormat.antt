-- Blocks are a lawful format, because of their frames and the meanings of their bodies.
use Rattle.std.proofs.Common.{◌≡◌, ℕ, List, ◌++◌, true, false, Bool, refl, sym, ap, subst, ◌∙◌, arith, inl, inr}
use Rattle.pcap_core.specs.Answer.{number_in, Verdict, whole, lacks, faulty}
use Rattle.pcap_core.specs.Faults.{Fault}
use Rattle.pcap_items.specs.Headed.{HeadReading, good, bad}
use Rattle.pcap_core.specs.Laws.{ExactlyOne}
use Rattle.pcap_items.specs.Format.{IsLawful}
use Rattle.pcap_items.proofs.Formats.{text_same, lacks_no_text, fault_no_text, only}
use Rattle.pcap_blocks.specs.declared.block_type.BlockType.{BlockType}
use Rattle.pcap_blocks.specs.declared.block_type.BlockType.TheVariants as types
use Rattle.pcap_blocks.specs.ParsedBlock.{Body, BodySays}
use Rattle.pcap_blocks.proofs.OneBody.{body_one}
use Rattle.pcap_ng.specs.Frames.{Framed, FrameText, FrameSays, frame_format}
use Rattle.pcap_ng.specs.State.{State, order_at, is_read, leads, MeansIf, Means}
use Rattle.pcap_ng.specs.Blocks.{Item, BlockText, BlockSays, block_format}
use Rattle.pcap_ng.proofs.HeadedFrames.{frames_lawful}

-- A body never lacks bytes.
body_no_lack : (order : ℕ → List ℕ → ℕ) (type : BlockType) (s : List ℕ) (n : ℕ) → BodySays order type s (lacks n) → ⊥
body_no_lack order types.SectionHeader s n x = x
body_no_lack order _ s n x = x

-- An item leads to the state after it.
pub goes_after : (q : State) (item : Item) → block_format.goes q item ≡ item.after
unfolding block_format
goes_after q item = refl

pub good_in : (a c : State) → good a ≡ good c → a ≡ c
good_in a c e = cc

module _ (q : State) (b : Framed) where
  said : Verdict Body → Type 0
  said = BodySays (number_in b.endianness) b.type_ b.body

  read_there : (v : Verdict Body) → said v → (r : HeadReading State) × MeansIf true q b r
  unfolding said
  read_there (whole body rest) h = led (leads q body) refl
    where
      led : (r : HeadReading State) → leads q body ≡ r → (r : HeadReading State) × MeansIf true q b r
      led (good next) e = (good next, (body, rest, h, e))
      led (bad fault) e = (bad fault, inr (body, rest, h, e))
  read_there (lacks n) h = absurd (body_no_lack _ b.type_ b.body n h)
  read_there (faulty fault) h = (bad fault, inl h)

  same_body : (body other : Body) (rest more : List ℕ) → said (whole body rest) → said (whole other more) → body ≡ other
  unfolding said
  same_body body other rest more h k =
      let o = body_one (number_in b.endianness) b.type_ b.body in
      let e : whole body rest ≡ whole other more = o.only (whole body rest) h ∙ sym (o.only (whole other more) k) in
      cc

  body_no_fault : (body : Body) (rest : List ℕ) (fault : Fault) → said (whole body rest) → said (faulty fault) → ⊥
  unfolding said
  body_no_fault body rest fault h k =
      let o = body_one (number_in b.endianness) b.type_ b.body in
      let e : whole body rest ≡ faulty fault = o.only (whole body rest) h ∙ sym (o.only (faulty fault) k) in
      absurd cc

  same_fault : (f g : Fault) → said (faulty f) → said (faulty g) → f ≡ g
  unfolding said
  same_fault f g h k =
      let o = body_one (number_in b.endianness) b.type_ b.body in
      let e : ◌≡◌ {A = Verdict Body} (faulty f) (faulty g) = o.only (faulty f) h ∙ sym (o.only (faulty g) k) in
      cc

  led_same : (body other : Body) (rest more : List ℕ) (r t : HeadReading State) → said (whole body rest) → said (whole other more) → leads q body ≡ r → leads q other ≡ t → r ≡ t
  led_same body other rest more r t h k x y = sym x ∙ ap (leads q) (same_body body other rest more h k) ∙ y

  read_only : (r t : HeadReading State) → MeansIf true q b r → MeansIf true q b t → r ≡ t
  unfolding said
  read_only (good a) (good c) h k = led_same h.0 k.0 h.1 k.1 (good a) (good c) h.2 k.2 h.3 k.3
  read_only (good a) (bad f) h (inl k) = absurd (body_no_fault h.0 h.1 f h.2 k)
  read_only (good a) (bad f) h (inr k) = led_same h.0 k.0 h.1 k.1 (good a) (bad f) h.2 k.2 h.3 k.3
  read_only (bad f) (good a) (inl h) k = absurd (body_no_fault k.0 k.1 f k.2 h)
  read_only (bad f) (good a) (inr h) k = led_same h.0 k.0 h.1 k.1 (bad f) (good a) h.2 k.2 h.3 k.3
  read_only (bad f) (bad g) (inl h) (inl k) = rw (same_fault f g h k) refl
  read_only (bad f) (bad g) (inl h) (inr k) = absurd (body_no_fault k.0 k.1 f k.2 h)
  read_only (bad f) (bad g) (inr h) (inl k) = absurd (body_no_fault h.0 h.1 g h.2 k)
  read_only (bad f) (bad g) (inr h) (inr k) = led_same h.0 k.0 h.1 k.1 (bad f) (bad g) h.2 k.2 h.3 k.3

  unread_only : (r t : HeadReading State) → MeansIf false q b r → MeansIf false q b t → r ≡ t
  unread_only (good a) (good c) h k = let e : a ≡ c = h ∙ sym k in rw e refl
  unread_only (good a) (bad f) h k = absurd k
  unread_only (bad f) t h k = absurd h

  meant_one : (read : Bool) → ExactlyOne (MeansIf read q b)
  unfolding said
  meant_one true =
      let o = body_one (number_in b.endianness) b.type_ b.body in
      let there = read_there o.value o.holds in
      record { value = there.0; holds = there.1; only = λ w k. read_only w there.0 k there.1 }
  meant_one false = record { value = good q; holds = refl; only = λ w k. unread_only w (good q) k refl }

  pub means_one : ExactlyOne (Means q b)
  means_one = meant_one (is_read q b.type_)

make_item : Framed → State → Item
make_item block after = record { block = block; after = after }

item_is : (i j : Item) → i.block ≡ j.block → i.after ≡ j.after → i ≡ j
unfolding make_item
item_is i j x y = let e : make_item i.block i.after ≡ make_item j.block j.after = rw (x, y) refl in e

module _ (q : State) (s : List ℕ) where
  same_frame : (b c : Framed) (a d : List ℕ) → FrameText (order_at q) b s a → FrameText (order_at q) c s d → (b ≡ c) × (a ≡ d)
  unfolding frame_format
  same_frame b c a d x y = text_same frame_format frames_lawful (order_at q) b c s a d x y

  same_means : (b c : Framed) (r t : HeadReading State) → b ≡ c → Means q b r → Means q c t → r ≡ t
  same_means b c r t e x y =
      let o = means_one q c in
      let here : Means q c r = subst (λ (k : Framed). Means q k r) e x in
      o.only r here ∙ sym (o.only t y)

  frame_lack : (b : Framed) (rest : List ℕ) (n : ℕ) → FrameText (order_at q) b s rest → FrameSays (order_at q) s (lacks n) → ⊥
  unfolding frame_format
  frame_lack b rest n t l = lacks_no_text frame_format frames_lawful (order_at q) n s l b rest t

  frame_fault : (b : Framed) (rest : List ℕ) (f : Fault) → FrameText (order_at q) b s rest → FrameSays (order_at q) s (faulty f) → ⊥
  unfolding frame_format
  frame_fault b rest f t l = fault_no_text frame_format frames_lawful (order_at q) f s l b rest t

  same_lack : (n m : ℕ) → FrameSays (order_at q) s (lacks n) → FrameSays (order_at q) s (lacks m) → n ≡ m
  unfolding frame_format
  same_lack n m x y = let e : ◌≡◌ {A = Verdict Framed} (lacks n) (lacks m) = only frame_format frames_lawful (order_at q) s (lacks n) (lacks m) x y in cc

  lack_no_fault : (n : ℕ) (f : Fault) → FrameSays (order_at q) s (lacks n) → FrameSays (order_at q) s (faulty f) → ⊥
  unfolding frame_format
  lack_no_fault n f x y = let e : ◌≡◌ {A = Verdict Framed} (lacks n) (faulty f) = only frame_format frames_lawful (order_at q) s (lacks n) (faulty f) x y in absurd cc

  frame_faults : (f g : Fault) → FrameSays (order_at q) s (faulty f) → FrameSays (order_at q) s (faulty g) → f ≡ g
  unfolding frame_format
  frame_faults f g x y = let e : ◌≡◌ {A = Verdict Framed} (faulty f) (faulty g) = only frame_format frames_lawful (order_at q) s (faulty f) (faulty g) x y in cc

  bad_in : (f g : Fault) → ◌≡◌ {A = HeadReading State} (bad f) (bad g) → f ≡ g
  bad_in f g e = cc

  good_no_bad : (a : State) (f : Fault) → good a ≡ bad f → ⊥
  good_no_bad a f e = absurd cc

  block_only : (v w : Verdict Item) → BlockSays q s v → BlockSays q s w → v ≡ w
  block_only (whole i a) (whole j c) x y =
      let e = same_frame i.block j.block a c x.frame y.frame in
      let next : i.after ≡ j.after = good_in i.after j.after (same_means i.block j.block (good i.after) (good j.after) e.0 x.means y.means) in
      rw (item_is i j e.0 next, e.1) refl
  block_only (whole i a) (lacks m) x y = absurd (frame_lack i.block a m x.frame y)
  block_only (whole i a) (faulty g) x (inl y) = absurd (frame_fault i.block a g x.frame y)
  block_only (whole i a) (faulty g) x (inr y) =
      let e = same_frame i.block y.block a y.rest x.frame y.frame in
      absurd (good_no_bad i.after g (same_means i.block y.block (good i.after) (bad g) e.0 x.means y.means))
  block_only (lacks n) (whole j c) x y = absurd (frame_lack j.block c n y.frame x)
  block_only (lacks n) (lacks m) x y = rw (same_lack n m x y) refl
  block_only (lacks n) (faulty g) x (inl y) = absurd (lack_no_fault n g x y)
  block_only (lacks n) (faulty g) x (inr y) = absurd (frame_lack y.block y.rest n y.frame x)
  block_only (faulty f) (whole j c) (inl x) y = absurd (frame_fault j.block c f y.frame x)
  block_only (faulty f) (whole j c) (inr x) y =
      let e = same_frame j.block x.block c x.rest y.frame x.frame in
      absurd (good_no_bad j.after f (same_means j.block x.block (good j.after) (bad f) e.0 y.means x.means))
  block_only (faulty f) (lacks m) (inl x) y = absurd (lack_no_fault m f y x)
  block_only (faulty f) (lacks m) (inr x) y = absurd (frame_lack x.block x.rest m x.frame y)
  block_only (faulty f) (faulty g) (inl x) (inl y) = rw (frame_faults f g x y) refl
  block_only (faulty f) (faulty g) (inl x) (inr y) = absurd (frame_fault y.block y.rest f y.frame x)
  block_only (faulty f) (faulty g) (inr x) (inl y) = absurd (frame_fault x.block x.rest g x.frame y)
  block_only (faulty f) (faulty g) (inr x) (inr y) =
      let e = same_frame x.block y.block x.rest y.rest x.frame y.frame in
      rw (bad_in f g (same_means x.block y.block (bad f) (bad g) e.0 x.means y.means)) refl

  meant_there : (b : Framed) (rest : List ℕ) → FrameText (order_at q) b s rest → (r : HeadReading State) → Means q b r → (v : Verdict Item) × BlockSays q s v
  meant_there b rest t (good next) m = (whole (record { block = b; after = next }) rest, record { frame = t; means = m })
  meant_there b rest t (bad f) m = (faulty f, inr (record { block = b; rest = rest; frame = t; means = m }))

  frame_there : (v : Verdict Framed) → FrameSays (order_at q) s v → (v : Verdict Item) × BlockSays q s v
  frame_there (whole b rest) t = let o = means_one q b in meant_there b rest t o.value o.holds
  frame_there (lacks n) t = (lacks n, t)
  frame_there (faulty f) t = (faulty f, inl t)

  pub block_one : ExactlyOne (BlockSays q s)
  unfolding frame_format
  block_one =
      let o = frames_lawful.one (order_at q) s in
      let there = frame_there o.value o.holds in
      record { value = there.0; holds = there.1; only = λ w k. block_only w there.0 k there.1 }

fault_more : (q : State) (s more : List ℕ) (f : Fault) → BlockSays q s (faulty f) → BlockSays q (s ++ more) (faulty f)
unfolding frame_format
fault_more q s more f (inl x) = inl ((frames_lawful.stable (order_at q)).fault s more f x)
fault_more q s more f (inr x) = inr (record { block = x.block; rest = x.rest ++ more; frame = (frames_lawful.stable (order_at q)).text s more x.rest x.block x.frame; means = x.means })

pub blocks_lawful : IsLawful block_format
unfolding block_format frame_format
blocks_lawful = record {
  one = λ q s. block_one q s;
  stable = λ q. record {
    text = λ s more rest item x. record { frame = (frames_lawful.stable (order_at q)).text s more rest item.block x.frame; means = x.means };
    fault = λ s more f x. fault_more q s more f x;
    request = λ s more n fewer x. (frames_lawful.stable (order_at q)).request s more n fewer x;
  };
  own = λ q s rest item x. let o = frames_lawful.own (order_at q) s rest item.block x.frame in (o.0, o.1, record { frame = o.2; means = x.means });
  some = λ q. omega arith;
  asks = λ q s n x. frames_lawful.asks (order_at q) s n x;
  short = λ q s n sum some. frames_lawful.short (order_at q) s n sum some;
  last = λ q s more n m long x count y. frames_lawful.last (order_at q) s more n m long x count y;
}

-- The text of a block, by the format.
pub block_said : (q : State) (item : Item) (s rest : List ℕ) → BlockText q item s rest → block_format.says q s (whole item rest)
unfolding block_format
block_said q item s rest text = text
