-- Blocks with well-formed bodies are a lawful format.
use Rattle.std.proofs.Common.{◌≡◌, ℕ, List, [], ◌++◌, Bool, false, Option, Some, None, Ok, Err, refl, sym, ap, ◌∙◌, subst, inl, inr, ◌⊎◌}
use Rattle.std.specs.Io.KnownBytes.{Consumes}
use Rattle.pcap_core.specs.declared.errors.PcapError.{PcapError}
use Rattle.pcap_core.specs.declared.errors.PcapError.TheVariants as errors
use Rattle.pcap_core.specs.Answer.{number_in, Verdict, whole, lacks, faulty, Refuses}
use Rattle.pcap_core.specs.Errors.{IsMemory}
use Rattle.pcap_core.specs.Faults.{Fault, Shows}
use Rattle.pcap_core.specs.Laws.{ExactlyOne}
use Rattle.pcap_core.proofs.Refusals.{shows_more}
use Rattle.pcap_items.specs.Format.{IsLawful}
use Rattle.pcap_items.specs.Reading.{HasCause, no_memory, IsShort, TakesAsked}
use Rattle.pcap_items.proofs.Asked.{asked_text}
use Rattle.pcap_items.proofs.Formats.{text_same, lacks_no_text, fault_no_text, fault_some, only}
use Rattle.pcap_items.proofs.Fronts.{said_not_refused}
use Rattle.pcap_items.proofs.Pulling.{asked_cause}
use Rattle.pcap_blocks.specs.declared.block_type.BlockType.{BlockType}
use Rattle.pcap_blocks.specs.declared.block_type.BlockType.TheVariants as types
use Rattle.pcap_blocks.specs.ParsedBlock.{Body, BodySays, body_of}
use Rattle.pcap_blocks.specs.declared.parsed_block.ParsedBlock.{ParsedBlock}
use Rattle.pcap_blocks.proofs.OneBody.{body_one}
use Rattle.pcap_ng.specs.Blocks.{Item, block_format}
use Rattle.pcap_core.specs.declared.common.Endianness.{Endianness}
use Rattle.pcap_ng.specs.Bodies.{GrowsInBody, ParsesWhere, SaysOfBody}
use Rattle.pcap_ng.specs.Frames.{Framed, FrameSays, frame_format}
use Rattle.pcap_ng.specs.State.{State, order_at}
use Rattle.pcap_ng.proofs.HeadedFrames.{frames_lawful}
use Rattle.pcap_ng.proofs.BlockFormat.{blocks_lawful}
use Rattle.pcapfile_run.specs.SoundBlocks.{HasBody, MalformedBody, SoundSays, TellsBody, sound_blocks}
use Rattle.pcapfile_run.specs.WiderCauses.{cause_wider, asked_wider}

-- A body never lacks bytes.
body_no_lack : (order : ℕ → List ℕ → ℕ) (type : BlockType) (s : List ℕ) (n : ℕ) → BodySays order type s (lacks n) → ⊥
body_no_lack order types.SectionHeader s n x = x
body_no_lack order _ s n x = x

module _ (b : Framed) where
  body_only : (v w : Verdict Body) → SaysOfBody b v → SaysOfBody b w → v ≡ w
  body_only v w x y = let o = body_one (number_in b.endianness) b.type_ b.body in o.only v x ∙ sym (o.only w y)

  sound_no_fault : HasBody b → (fault : Fault) → SaysOfBody b (faulty fault) → ⊥
  sound_no_fault has fault x = let e : whole has.0 has.1 ≡ faulty fault = body_only (whole has.0 has.1) (faulty fault) has.2 x in absurd cc

  fault_same : (fault other : Fault) → SaysOfBody b (faulty fault) → SaysOfBody b (faulty other) → fault ≡ other
  fault_same fault other x y = let e : ◌≡◌ {A = Verdict Body} (faulty fault) (faulty other) = body_only (faulty fault) (faulty other) x y in cc

module _ (q : State) (s : List ℕ) where
  -- A block whose body has a fault has no other verdict.
  no_sound : (item : Item) (rest : List ℕ) → block_format.says q s (whole item rest) → HasBody item.block → (fault : Fault) → MalformedBody q s fault → ⊥
  no_sound item rest text has fault bad =
      let same = text_same block_format blocks_lawful q item bad.item s rest bad.rest text bad.text in
      sound_no_fault bad.item.block (subst (λ (i : Item). HasBody i.block) same.0 has) fault bad.body

  sound_only : (v w : Verdict Item) → SoundSays q s v → SoundSays q s w → v ≡ w
  sound_only (whole item rest) (whole other after) x y = only block_format blocks_lawful q s (whole item rest) (whole other after) x.0 y.0
  sound_only (whole item rest) (lacks m) x y = absurd (lacks_no_text block_format blocks_lawful q m s y item rest x.0)
  sound_only (whole item rest) (faulty g) x (inl y) = absurd (fault_no_text block_format blocks_lawful q g s y item rest x.0)
  sound_only (whole item rest) (faulty g) x (inr y) = absurd (no_sound item rest x.0 x.1 g y)
  sound_only (lacks n) (whole other after) x y = absurd (lacks_no_text block_format blocks_lawful q n s x other after y.0)
  sound_only (lacks n) (lacks m) x y = only block_format blocks_lawful q s (lacks n) (lacks m) x y
  sound_only (lacks n) (faulty g) x (inl y) = only block_format blocks_lawful q s (lacks n) (faulty g) x y
  sound_only (lacks n) (faulty g) x (inr y) = absurd (lacks_no_text block_format blocks_lawful q n s x y.item y.rest y.text)
  sound_only (faulty f) (whole other after) (inl x) y = absurd (fault_no_text block_format blocks_lawful q f s x other after y.0)
  sound_only (faulty f) (whole other after) (inr x) y = absurd (no_sound other after y.0 y.1 f x)
  sound_only (faulty f) (lacks m) (inl x) y = only block_format blocks_lawful q s (faulty f) (lacks m) x y
  sound_only (faulty f) (lacks m) (inr x) y = absurd (lacks_no_text block_format blocks_lawful q m s y x.item x.rest x.text)
  sound_only (faulty f) (faulty g) (inl x) (inl y) = only block_format blocks_lawful q s (faulty f) (faulty g) x y
  sound_only (faulty f) (faulty g) (inl x) (inr y) = absurd (fault_no_text block_format blocks_lawful q f s x y.item y.rest y.text)
  sound_only (faulty f) (faulty g) (inr x) (inl y) = absurd (fault_no_text block_format blocks_lawful q g s y x.item x.rest x.text)
  sound_only (faulty f) (faulty g) (inr x) (inr y) =
      let same = text_same block_format blocks_lawful q x.item y.item s x.rest y.rest x.text y.text in
      let there : SaysOfBody y.item.block (faulty f) = subst (λ (i : Item). SaysOfBody i.block (faulty f)) same.0 x.body in
      ap (λ (fault : Fault). faulty fault) (fault_same y.item.block f g there y.body)

  body_there : (item : Item) (rest : List ℕ) → block_format.says q s (whole item rest) → (v : Verdict Body) → SaysOfBody item.block v → (w : Verdict Item) × SoundSays q s w
  body_there item rest text (whole body more) says = (whole item rest, (text, (body, more, says)))
  body_there item rest text (lacks n) says = absurd (body_no_lack _ item.block.type_ item.block.body n says)
  body_there item rest text (faulty fault) says = (faulty fault, inr (record { item = item; rest = rest; text = text; body = says }))

  sound_there : (v : Verdict Item) → block_format.says q s v → (w : Verdict Item) × SoundSays q s w
  sound_there (whole item rest) text =
      let o = body_one (number_in item.block.endianness) item.block.type_ item.block.body in
      body_there item rest text o.value o.holds
  sound_there (lacks n) lack = (lacks n, lack)
  sound_there (faulty fault) stands = (faulty fault, inl stands)

  sound_one : ExactlyOne (SoundSays q s)
  sound_one =
      let o = blocks_lawful.one q s in
      let there = sound_there o.value o.holds in
      record { value = there.0; holds = there.1; only = λ w x. sound_only w there.0 x there.1 }

fault_more : (q : State) (s more : List ℕ) (fault : Fault) → SoundSays q s (faulty fault) → SoundSays q (s ++ more) (faulty fault)
fault_more q s more fault (inl x) = inl ((blocks_lawful.stable q).fault s more fault x)
fault_more q s more fault (inr x) = inr (record { item = x.item; rest = x.rest ++ more; text = (blocks_lawful.stable q).text s more x.rest x.item x.text; body = x.body })

pub sound_lawful : IsLawful sound_blocks
sound_lawful = record {
  one = λ q s. sound_one q s;
  stable = λ q. record {
    text = λ s more rest item x. ((blocks_lawful.stable q).text s more rest item x.0, x.1);
    fault = λ s more fault x. fault_more q s more fault x;
    request = λ s more n fewer x. (blocks_lawful.stable q).request s more n fewer x;
  };
  own = λ q s rest item x. let o = blocks_lawful.own q s rest item x.0 in (o.0, o.1, (o.2, x.1));
  some = λ q. blocks_lawful.some q;
  asks = λ q s n x. blocks_lawful.asks q s n x;
  short = λ q s n sum some. blocks_lawful.short q s n sum some;
  last = λ q s more n m long x count y. blocks_lawful.last q s more n m long x count y;
}

-- The frame of a whole block is not refused.
pub frame_stands : (order : Endianness) (text : List ℕ) (block : Framed) → FrameSays order text (whole block [])
    → (e : PcapError) → Refuses ⊥ (λ n. FrameSays order text (lacks n)) (λ fault. FrameSays order text (faulty fault)) e → ⊥
unfolding frame_format
frame_stands order text block said e refuses = said_not_refused (FrameSays order text) (frames_lawful.one order text) block [] said e refuses

-- Bytes begin with one block.
pub same_block : (order : Endianness) (text rest : List ℕ) (block other : Framed) → FrameSays order text (whole block []) → FrameSays order text (whole other rest) → other ≡ block
unfolding frame_format
same_block order text rest block other x y = (text_same frame_format frames_lawful order other block text rest [] y x).0

-- The frame of an item.
pub frame_in : (q : State) (item : Item) (text : List ℕ) → block_format.says q text (whole item []) → FrameSays (order_at q) text (whole item.block [])
unfolding block_format
frame_in q item text said = said.frame

-- A body that is not parsed has a fault, or there is no memory for it.
pub body_told : (block : Framed) (e : PcapError) → ParsesWhere {X = ParsedBlock} (GrowsInBody block) (SaysOfBody block) body_of (Err e) → TellsBody block (Err e)
body_told block (errors.IncompleteBuffer n) x = absurd (body_no_lack _ block.type_ block.body n x)
body_told block (errors.OutOfMemory a) x = x
body_told block _ x = x

-- What refuses a block refuses it under the format of blocks with well-formed bodies.
pub pulls_wider : (q : State) (before after : Option (List ℕ)) (failed : Bool) (e : PcapError) → HasCause (block_format.says q) before failed e × TakesAsked (block_format.says q) before after
    → HasCause (SoundSays q) before failed e × TakesAsked (SoundSays q) before after
pulls_wider q before after failed e x = (
  cause_wider (block_format.says q) (SoundSays q) (λ s n lack. lack) (λ s fault stands. inl stands) before failed e x.0,
  asked_wider (block_format.says q) (SoundSays q) (λ s n lack. lack) (λ s fault stands. inl stands) before after x.1,
)

module _ (q : State) (item : Item) (held : List ℕ) (said : block_format.says q held (whole item [])) (before after : Option (List ℕ)) (failed : Bool) (unfailed : failed ≡ false) (came : Consumes before after held) where
  body_cause : (e : PcapError) → TellsBody item.block (Err e) → HasCause (SoundSays q) before failed e
  body_cause (errors.IncompleteBuffer n) x = absurd x
  body_cause (errors.OutOfMemory a) x = no_memory tt unfailed
  body_cause e x = body_shown e x
    where
      body_shown : (e : PcapError) → Shows (λ fault. SaysOfBody item.block (faulty fault)) e → HasCause (SoundSays q) before failed e
      body_shown e shown =
          let bad : Shows (λ fault. SoundSays q held (faulty fault)) e = shows_more {P = λ fault. SaysOfBody item.block (faulty fault)} {Q = λ fault. SoundSays q held (faulty fault)} (λ fault body. inr (record { item = item; rest = []; text = said; body = body })) e shown in
          asked_cause (SoundSays q) (sound_lawful.stable q) e held (λ fault stands. fault_some sound_blocks sound_lawful q held fault stands) bad before after failed unfailed came

  -- The block that is held has a malformed body.
  pub body_pulled : (e : PcapError) → TellsBody item.block (Err e) → HasCause (SoundSays q) before failed e × TakesAsked (SoundSays q) before after
  body_pulled e x = (
    body_cause e x,
    record { taken = held; from_stream = came; asked = λ n less. let short = asked_text block_format blocks_lawful q item held said n less in record { n = short.n; lack = short.lack } },
  )
