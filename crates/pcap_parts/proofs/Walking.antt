-- Proofs about a walk over blocks that keeps the places of what is in force.
use Rattle.std.proofs.Common.{◌≡◌, ◌≤◌, ◌+◌, ◌-◌, ℕ, List, [], ◌∷◌, ◌++◌, length, take, drop, ◌<◌, refl, sym, ap, subst, ◌∙◌, arith, length-append, append-nil, append_assoc, length-drop, get_or, Bool, false}
use Rattle.std.specs.Prelude.{Option, None, Some, IfNone}
use Rattle.std.specs.List.{AllByRecursion}
use Rattle.std.proofs.lemmas.List.{drop-append-le, map-append, take-append-le, take_all}
use Rattle.std.proofs.lemmas.List.Elements.{All-from_get_or}
use Rattle.pcap_items.specs.declared.rest.Rest.{Rest}
use Rattle.pcap_core.specs.Answer.{whole}
use Rattle.pcap_core.specs.Bytes.{IsBytes}
use Rattle.pcap_items.specs.Format.{Texts, state_after}
use Rattle.pcap_items.specs.Headed.{good}
use Rattle.pcap_items.proofs.Formats.{state_push, texts_all, texts_own, texts_push}
use Rattle.pcap_core.proofs.Texts.{rest_of}
use Rattle.pcap_items.proofs.Copying.{state_all}
use Rattle.pcap_blocks.specs.declared.block_type.BlockType.{BlockType}
use Rattle.pcap_blocks.specs.declared.block_type.BlockType.TheVariants as types
use Rattle.pcap_blocks.specs.SectionHeader.{Section}
use Rattle.pcap_blocks.specs.InterfaceDescription.{Interface}
use Rattle.pcap_ng.specs.Blocks.{Item, BlockSays, block_format}
use Rattle.pcap_ng.specs.Opening.{OpeningSays}
use Rattle.pcap_ng.specs.State.{State, opening, within, MeansIf, is_kept}
use Rattle.pcap_ng.proofs.BlockFormat.{blocks_lawful}
use Rattle.pcap_parts.specs.declared.cut_ng.NgCut.{NgCut}
use Rattle.pcap_parts.specs.NgParts.{GoesOn, IsWalked, ResumesAt, places_at}
use Rattle.pcap_parts.specs.Parts.{Passes}
use Rattle.pcap_parts.specs.Resume.{IsFed, from_places}
use Rattle.pcap_parts.proofs.Anywhere.{header_anywhere}
use Rattle.pcap_parts.proofs.InParts.{texts_one}
use Rattle.pcap_parts.proofs.Resumed.{fed_first, fed_more}

-- The place behind whole blocks is the place where the rest of the bytes begins.
pub place_of : (bytes left : List ℕ) (items : List Item) → Texts block_format opening items bytes left → (drop (length bytes - length left) bytes ≡ left) × (length left ≤ length bytes)
place_of bytes left items texts =
    let own = texts_own block_format blocks_lawful opening items bytes left texts in
    let long : length bytes ≡ length own.0 + length left = ap length {x = bytes} {y = own.0 ++ left} own.1 ∙ length-append own.0 left in
    (rest_of bytes own.0 left (length bytes - length left) own.1 (omega (arith, long)), omega (arith, long))

module _ (bytes left after : List ℕ) (q : State) (header : ℕ) (places : List ℕ) (item : Item) (walked : IsWalked bytes left q header places) (text : BlockSays q left (whole item after)) where
  -- One more block is walked over, if a parser that is fed at these places has the state behind it.
  walked_to : (here : ℕ) (now : List ℕ) → IsFed (drop here bytes) (from_places bytes now) item.after → IsWalked bytes after item.after here now
  unfolding block_format
  walked_to here now fed = record {
    items = walked.items ++ item ∷ [];
    texts = texts_push block_format opening walked.items item bytes left after walked.texts (subst (λ (p : State). block_format.says p left (whole item after)) (sym walked.leads) text);
    leads = state_push block_format opening walked.items item;
    fed = fed;
  }

  -- A section header opens a capture at its place.
  pub walked_section : IsBytes left → item.block.type_ ≡ types.SectionHeader → IsWalked bytes after item.after (length bytes - length left) []
  walked_section fits is =
      let place = place_of bytes left walked.items walked.texts in
      let fed : IsFed left [] item.after = fed_first left after item.after (item.block, header_anywhere q item left after fits is text) in
      walked_to (length bytes - length left) [] (subst (λ (s : List ℕ). IsFed s [] item.after) (sym place.0) fed)

  -- An interface description is fed at its place.
  pub walked_interface : IsWalked bytes after item.after header (places ++ (length bytes - length left) ∷ [])
  walked_interface =
      let place = place_of bytes left walked.items walked.texts in
      let fed : IsFed (drop header bytes) (from_places bytes places ++ left ∷ []) item.after = fed_more (drop header bytes) left after (from_places bytes places) q item walked.fed text in
      let here : IsFed (drop header bytes) (from_places bytes places ++ drop (length bytes - length left) bytes ∷ []) item.after =
      subst (λ (s : List ℕ). IsFed (drop header bytes) (from_places bytes places ++ s ∷ []) item.after) (sym place.0) fed in
      walked_to header (places ++ (length bytes - length left) ∷ [])
      (subst (λ (l : List (List ℕ)). IsFed (drop header bytes) l item.after) (sym (map-append (λ (k : ℕ). drop k bytes) places ((length bytes - length left) ∷ []))) here)

  -- Any other block leaves the state unchanged.
  pub walked_other : item.after ≡ q → IsWalked bytes after item.after header places
  walked_other same = walked_to header places (subst (λ (p : State). IsFed (drop header bytes) (from_places bytes places) p) (sym same) walked.fed)

-- A block whose body is not kept leaves the state unchanged.
pub other_stays : (section : Section) (interfaces : List Interface) (item : Item) (s rest : List ℕ) → is_kept item.block.type_ ≡ false → BlockSays (within section interfaces) s (whole item rest)
    → item.after ≡ within section interfaces
other_stays section interfaces item s rest is text =
    let m : MeansIf false (within section interfaces) item.block (good item.after) = subst (λ (kept : Bool). MeansIf kept (within section interfaces) item.block (good item.after)) is text.means in
    m

-- A block that is neither a section header nor an interface description is not kept.
pub not_kept : (type : BlockType) → (type ≡ types.SectionHeader → ⊥) → (type ≡ types.InterfaceDescription → ⊥) → is_kept type ≡ false
not_kept types.SectionHeader no_section no_interface = absurd (no_section refl)
not_kept types.InterfaceDescription no_section no_interface = absurd (no_interface refl)
not_kept _ no_section no_interface = refl

-- The elements of a slice are bytes.
pub slice_bytes : (s : List ℕ) → ((i : ℕ) → get_or s i 0 < 256) → IsBytes s
slice_bytes s fits = All-from_get_or (λ (byte : ℕ). byte < 256) s 0 (λ i lt. fits i)

pub goes_nowhere : (xs : List ℕ) → GoesOn xs xs
goes_nowhere xs = ([], sym (append-nil xs))

pub goes_further : (xs ys zs : List ℕ) → GoesOn xs ys → GoesOn ys zs → GoesOn xs zs
goes_further xs ys zs x y = (x.0 ++ y.0, y.1 ∙ ap (λ (l : List ℕ). l ++ y.0) x.1 ∙ append_assoc xs x.0 y.0)

pub on_none : {X : Type 0} (P : Type 0) → P → (r : Option X) → IfNone r P
on_none P p None = p
on_none P p (Some x) = tt

-- Behind the first section header, a walk has only its place.
pub walked_first : (bytes after : List ℕ) (q : State) → OpeningSays bytes (whole q after) → IsWalked bytes after q 0 []
unfolding block_format
walked_first bytes after q x = record { items = record { block = x.0; after = q } ∷ []; texts = (after, x.1, refl); leads = refl; fed = fed_first bytes after q x }

-- The state to which blocks lead is the state that a walk over them has.
pub walked_state : (bytes s left : List ℕ) (q p : State) (first header : ℕ) (before places : List ℕ) (items : List Item) → IsWalked bytes s q first before → Texts block_format q items s left
    → IsWalked bytes left p header places → state_after block_format q items ≡ p
walked_state bytes s left q p first header before places items x texts y =
    let from : Texts block_format (state_after block_format opening x.items) items s left = subst (λ (z : State). Texts block_format z items s left) (sym x.leads) texts in
    let all = texts_all block_format opening x.items items bytes s left x.texts from in
    let one : y.items ≡ x.items ++ items = texts_one block_format blocks_lawful opening (x.items ++ items) y.items bytes left all y.texts in
    let here : state_after block_format q items ≡ state_after block_format (state_after block_format opening x.items) items = ap (λ (z : State). state_after block_format z items) (sym x.leads) in
    here ∙ sym (state_all block_format opening x.items items) ∙ ap (λ (l : List Item). state_after block_format opening l) (sym one) ∙ y.leads

-- A walk skips blocks that follow those that it walked over.
pub passes_behind : (bytes s left after : List ℕ) (q p : State) (first header : ℕ) (before places : List ℕ) (items : List Item) (n count : ℕ) (said : Option Rest) → IsWalked bytes s q first before
    → Texts block_format q items s left → IsWalked bytes left p header places → Passes block_format p left after n count said → Passes block_format (state_after block_format q items) left after n count said
passes_behind bytes s left after q p first header before places items n count said x texts y passes =
    subst (λ (z : State). Passes block_format z left after n count said) (sym (walked_state bytes s left q p first header before places items x texts y)) passes

module _ (bytes : List ℕ) (q : State) (s : List ℕ) where
  -- A parser can be made again at a cut that is at the position of a walk.
  pub resumes_here : (left : List ℕ) (p : State) (places : List ℕ) (blocks : List Item) (first : ℕ) (before : List ℕ) (cut : NgCut) → IsWalked bytes s q first before
      → IsWalked bytes left p cut.header (drop cut.first places) → Texts block_format q blocks s left → length blocks ≡ cut.at.before → cut.at.offset + length left ≡ length bytes
      → cut.first ≤ length places → cut.interfaces ≡ length places - cut.first → ResumesAt bytes places q s cut
  resumes_here left p places blocks first before cut begins walked texts count place inside all =
      let state = walked_state bytes s left q p first cut.header before (drop cut.first places) blocks begins texts walked in
      let these : places_at places cut ≡ drop cut.first places = take_all cut.interfaces (drop cut.first places) (omega (arith, all, length-drop cut.first places)) in
      let fed : IsFed (drop cut.header bytes) (from_places bytes (places_at places cut)) p = subst (λ (l : List ℕ). IsFed (drop cut.header bytes) (from_places bytes l) p) (sym these) walked.fed in
      record {
        bound = record { items = blocks; rest = left; texts = texts; count = count; place = place };
        within = omega (arith, inside, all);
        fed = subst (λ (z : State). IsFed (drop cut.header bytes) (from_places bytes (places_at places cut)) z) (sym state) fed;
      }

  resumes_further : (places now : List ℕ) (cut : NgCut) → GoesOn places now → ResumesAt bytes places q s cut → ResumesAt bytes now q s cut
  resumes_further places now cut on x =
      let behind : drop cut.first now ≡ drop cut.first places ++ on.0 = ap (λ (l : List ℕ). drop cut.first l) on.1 ∙ drop-append-le cut.first places on.0 (omega (arith, x.within)) in
      let these : places_at now cut ≡ places_at places cut = ap (λ (l : List ℕ). take cut.interfaces l) behind ∙ take-append-le cut.interfaces (drop cut.first places) on.0 (omega (arith, x.within, length-drop cut.first places)) in
      record {
        bound = x.bound;
        within = omega (arith, x.within, ap length {x = now} {y = places ++ on.0} on.1, length-append places on.0);
        fed = subst (λ (l : List ℕ). IsFed (drop cut.header bytes) (from_places bytes l) (state_after block_format q x.bound.items)) (sym these) x.fed;
      }

  pub all_resume_further : (places now : List ℕ) (cuts : List NgCut) → GoesOn places now → AllByRecursion (ResumesAt bytes places q s) cuts → AllByRecursion (ResumesAt bytes now q s) cuts
  all_resume_further places now [] on all = tt
  all_resume_further places now (c ∷ cs) on all = (resumes_further places now c on all.0, all_resume_further places now cs on all.1)
