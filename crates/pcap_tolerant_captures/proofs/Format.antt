-- The format of blocks read leniently is lawful, by the laws of their frames and of their bodies.
use Rattle.std.proofs.Common.{◌≡◌, ℕ, List, [], ◌∷◌, ◌++◌, Option, refl, sym, ap, subst, ◌∙◌, arith, inl, inr}
use Rattle.pcap_core.specs.declared.rules.Rule.TheVariants.{SectionMissing}
use Rattle.pcap_core.specs.Answer.{number_in, Verdict, whole, lacks, faulty}
use Rattle.pcap_core.specs.Faults.{Fault, Invalid}
use Rattle.pcap_items.specs.Headed.{HeadReading, good, bad}
use Rattle.pcap_core.specs.Laws.{ExactlyOne, IsStable}
use Rattle.pcap_items.specs.Format.{IsLawful}
use Rattle.pcap_core.proofs.Verdicts.{one_moved, Then, one_then}
use Rattle.pcap_blocks.specs.InterfaceDescription.{Interface}
use Rattle.pcap_blocks.specs.SectionHeader.{Section}
use Rattle.pcap_ng.specs.Frames.{Framed, FrameText, FrameSays, frame_format}
use Rattle.pcap_ng.proofs.HeadedFrames.{frames_lawful, frame_one}
use Rattle.pcap_tolerant_blocks.specs.Flaws.{Said, Flawed}
use Rattle.pcap_tolerant_blocks.specs.InterfaceAsIs.{InterfaceAsIsSays}
use Rattle.pcap_tolerant_blocks.specs.SectionAsIs.{SectionAsIsSays}
use Rattle.pcap_tolerant_blocks.proofs.OneAsIs.{one_image, interface_one, section_one}
use Rattle.pcap_tolerant_captures.specs.State.{State, opening, within, order_at, Role, begins_section, adds_interface, leaves_all, role_of, Led, MeansFor, Means}
use Rattle.pcap_tolerant_captures.specs.Blocks.{Item, AsIsSays, as_is_format}

-- ---- a block in its frame has exactly one answer

led_with : List Said → State → HeadReading Led
led_with flaws after = good (record { flaws = flaws; after = after })

module _ (q : State) (b : Framed) where
  begun : Verdict (Flawed Section) → HeadReading Led
  begun (whole x rest) = led_with x.flaws (within x.value [])
  begun (lacks n) = bad (Invalid SectionMissing)
  begun (faulty f) = bad f

  begun_to : (v : Verdict (Flawed Section)) → SectionAsIsSays b.body v → MeansFor begins_section q b (begun v)
  unfolding begun led_with
  begun_to (whole x rest) h = (x.value, rest, h, refl)
  begun_to (lacks n) h = absurd h
  begun_to (faulty f) h = h

  begun_from : (r : HeadReading Led) → MeansFor begins_section q b r → (v : Verdict (Flawed Section)) × SectionAsIsSays b.body v × (r ≡ begun v)
  unfolding begun led_with
  begun_from (good led) h = (whole (record { value = h.0; flaws = led.flaws }) h.1, h.2, ap (led_with led.flaws) h.3)
  begun_from (bad f) h = (faulty f, h, refl)

  section_means : ExactlyOne (MeansFor begins_section q b)
  section_means = one_image (SectionAsIsSays b.body) (MeansFor begins_section q b) begun begun_to begun_from (section_one b.body)

module _ (section : Section) (interfaces : List (Option Interface)) (b : Framed) where
  q : State
  q = within section interfaces

  added : Verdict (Flawed (Option Interface)) → HeadReading Led
  added (whole x rest) = led_with x.flaws (within section (interfaces ++ x.value ∷ []))
  added (lacks n) = bad (Invalid SectionMissing)
  added (faulty f) = bad f

  added_to : (v : Verdict (Flawed (Option Interface))) → InterfaceAsIsSays (number_in b.endianness) b.body v → MeansFor adds_interface q b (added v)
  unfolding q added led_with
  added_to (whole x rest) h = (interfaces ++ x.value ∷ [], record { interface = x.value; rest = rest; text = h; one_more = refl }, refl)
  added_to _ h = absurd h

  added_from : (r : HeadReading Led) → MeansFor adds_interface q b r → (v : Verdict (Flawed (Option Interface))) × InterfaceAsIsSays (number_in b.endianness) b.body v × (r ≡ added v)
  unfolding q added led_with
  added_from (good led) h =
      (whole (record { value = h.1.interface; flaws = led.flaws }) h.1.rest, h.1.text, ap (led_with led.flaws) (h.2 ∙ ap (within section) h.1.one_more))
  added_from (bad f) h = absurd h

  interface_means : ExactlyOne (MeansFor adds_interface q b)
  interface_means =
      one_image (InterfaceAsIsSays (number_in b.endianness) b.body) (MeansFor adds_interface q b) added added_to added_from (interface_one (number_in b.endianness) b.body)

  left_only : (r : HeadReading Led) → MeansFor leaves_all q b r → r ≡ led_with [] q
  unfolding q led_with
  left_only (good led) h = let e : led_with led.flaws led.after ≡ led_with [] q = rw (h.0, h.1) refl in e
  left_only (bad f) h = absurd h

  left_means : ExactlyOne (MeansFor leaves_all q b)
  unfolding q led_with
  left_means = record { value = led_with [] q; holds = (refl, refl); only = left_only }

missing : HeadReading Led
missing = bad (Invalid SectionMissing)

first_only : (b : Framed) (r : HeadReading Led) → MeansFor adds_interface opening b r → r ≡ missing
unfolding missing
first_only b (good led) h = absurd h
first_only b (bad f) h = ap bad h

other_only : (b : Framed) (r : HeadReading Led) → MeansFor leaves_all opening b r → r ≡ missing
unfolding missing
other_only b (good led) h = absurd h
other_only b (bad f) h = ap bad h

meant_one : (q : State) (b : Framed) (role : Role) → ExactlyOne (MeansFor role q b)
unfolding missing q
meant_one q b begins_section = section_means q b
meant_one opening b adds_interface = record { value = missing; holds = refl; only = first_only b }
meant_one opening b leaves_all = record { value = missing; holds = refl; only = other_only b }
meant_one (within section interfaces) b adds_interface = interface_means section interfaces b
meant_one (within section interfaces) b leaves_all = left_means section interfaces b

pub means_one : (q : State) (b : Framed) → ExactlyOne (Means q b)
means_one q b = meant_one q b (role_of b.type_)

-- ---- first the frame, and then its meaning

module _ (q : State) where
  Next : Framed → List ℕ → Verdict Item → Type 0
  Next b after (whole item rest) = (item.block ≡ b) × (rest ≡ after) × Means q b (good item.led)
  Next b after (lacks n) = ⊥
  Next b after (faulty f) = Means q b (bad f)

  item_with : Framed → Led → List ℕ → Verdict Item
  item_with b led after = whole (record { block = b; led = led }) after

  next_of : Framed → List ℕ → HeadReading Led → Verdict Item
  next_of b after (good led) = item_with b led after
  next_of b after (bad f) = faulty f

  next_to : (b : Framed) (after : List ℕ) (r : HeadReading Led) → Means q b r → Next b after (next_of b after r)
  unfolding Next next_of item_with
  next_to b after (good led) h = (refl, refl, h)
  next_to b after (bad f) h = h

  next_from : (b : Framed) (after : List ℕ) (v : Verdict Item) → Next b after v → (r : HeadReading Led) × Means q b r × (v ≡ next_of b after r)
  unfolding Next next_of item_with
  next_from b after (whole item rest) h =
      let e : item_with item.block item.led rest ≡ item_with b item.led after = rw (h.0, h.1) refl in
      (good item.led, h.2, e)
  next_from b after (lacks n) h = absurd h
  next_from b after (faulty f) h = (bad f, h, refl)

  next_one : (b : Framed) (after : List ℕ) → ExactlyOne (Next b after)
  next_one b after = one_image (Means q b) (Next b after) (next_of b after) (next_to b after) (next_from b after) (means_one q b)

  BlockThen : List ℕ → Verdict Item → Type 0
  BlockThen s = Then (FrameSays (order_at q) s) Next

  then_to : (s : List ℕ) (v : Verdict Item) → AsIsSays q s v → BlockThen s v
  unfolding BlockThen Next
  then_to s (whole item rest) h = (item.block, rest, h.frame, (refl, refl, h.means))
  then_to s (lacks n) h = inl h
  then_to s (faulty f) (inl h) = inl h
  then_to s (faulty f) (inr h) = inr (h.block, h.rest, h.frame, h.means)

  then_from : (s : List ℕ) (v : Verdict Item) → BlockThen s v → AsIsSays q s v
  unfolding BlockThen Next
  then_from s (whole item rest) t =
      let frame : FrameText (order_at q) item.block s rest = rw (t.3.0, t.3.1) t.2 in
      let means : Means q item.block (good item.led) = subst (λ (b : Framed). Means q b (good item.led)) (sym t.3.0) t.3.2 in
      record { frame = frame; means = means }
  then_from s (lacks n) (inl h) = h
  then_from s (lacks n) (inr t) = absurd t.3
  then_from s (faulty f) (inl h) = inl h
  then_from s (faulty f) (inr t) = inr (record { block = t.0; rest = t.1; frame = t.2; means = t.3 })

  pub as_is_one : (s : List ℕ) → ExactlyOne (AsIsSays q s)
  unfolding BlockThen
  as_is_one s = one_moved (AsIsSays q s) (BlockThen s) (then_to s) (then_from s) (one_then (FrameSays (order_at q) s) Next (frame_one (order_at q) s) (λ b after h. next_one b after))

  fault_more : (s more : List ℕ) (f : Fault) → AsIsSays q s (faulty f) → AsIsSays q (s ++ more) (faulty f)
  unfolding frame_format
  fault_more s more f (inl x) = inl ((frames_lawful.stable (order_at q)).fault s more f x)
  fault_more s more f (inr x) = inr (record { block = x.block; rest = x.rest ++ more; frame = (frames_lawful.stable (order_at q)).text s more x.rest x.block x.frame; means = x.means })

  pub as_is_stable : IsStable (AsIsSays q)
  unfolding frame_format
  as_is_stable = record {
    text = λ s more rest item x. record { frame = (frames_lawful.stable (order_at q)).text s more rest item.block x.frame; means = x.means };
    fault = fault_more;
    request = λ s more n fewer x. (frames_lawful.stable (order_at q)).request s more n fewer x;
  }

pub as_is_lawful : IsLawful as_is_format
unfolding as_is_format frame_format
as_is_lawful = record {
  one = λ q s. as_is_one q s;
  stable = λ q. as_is_stable q;
  own = λ q s rest item x. let o = frames_lawful.own (order_at q) s rest item.block x.frame in (o.0, o.1, record { frame = o.2; means = x.means });
  some = λ q. omega arith;
  asks = λ q s n x. frames_lawful.asks (order_at q) s n x;
  short = λ q s n sum some. frames_lawful.short (order_at q) s n sum some;
  last = λ q s more n m long x count y. frames_lawful.last (order_at q) s more n m long x count y;
}

-- A block's text, by the format.
pub as_is_said : (q : State) (s : List ℕ) (v : Verdict Item) → AsIsSays q s v → as_is_format.says q s v
unfolding as_is_format
as_is_said q s v x = x
