-- Sequences of calls on a capture that comes in pieces.
use Rattle.std.proofs.Common.{◌≡◌, ◌≢◌, ℕ, ℤ, pos, List, [], ◌∷◌, ◌++◌, take, drop, refl, ap, ◌∙◌, append_assoc, append-nil, inl, inr}
use Rattle.std.proofs.lemmas.List.Concat.{flat_map-append}
use Rattle.pcap_core.specs.Answer.{Verdict, whole}
use Rattle.pcap_core.specs.Faults.{Invalid, Io, Utf8}
use Rattle.pcap_items.specs.Format.{Format, IsLawful}
use Rattle.pcap_items.proofs.Formats.{lacks_no_text, fault_no_text}
use Rattle.pcapfile_values.specs.declared.errors.PcapfileError.{PcapfileError}
use Rattle.pcapfile_values.specs.declared.shown.PcapfileHeader.{PcapfileHeader}
use Rattle.pcapfile_values.specs.Refusals.{TellsRefusal, TellsRefusalWhere}
use Rattle.pcapfile_c.specs.declared.push.PcapfilePush.{PcapfilePush}
use Rattle.pcapfile_c.specs.Push.{MakesSpace, held_in}
use Rattle.pcapfile_c.specs.RoomCalls.{Ended, RoomCall, RoomCalls, all_given, all_put, under_status}
use Rattle.pcapfile_c.specs.RoomCalls.RoomCall.{space, put, gives, between}
use Rattle.pcapfile_c.specs.Readers.{reader}

-- A refusal returns nothing.
pub none_refused : {V A : Type 0} (IsSaid : Verdict V → Type 0) (told : PcapfileError) (z : ℤ) (all : List A) → TellsRefusal IsSaid told z → under_status z all ≡ []
none_refused IsSaid told z all (inl x) = ap (λ (k : ℤ). under_status k all) x.0
none_refused IsSaid told z all (inr (inl x)) = ap (λ (k : ℤ). under_status k all) x.0
none_refused IsSaid told z all (inr (inr (inl x))) = ap (λ (k : ℤ). under_status k all) x.0
none_refused IsSaid told z all (inr (inr (inr x))) = ap (λ (k : ℤ). under_status k all) x.0

pub none_refused_where : {V A : Type 0} (M : Type 0) (IsSaid : Verdict V → Type 0) (told : PcapfileError) (z : ℤ) (all : List A) → TellsRefusalWhere M IsSaid told z → under_status z all ≡ []
none_refused_where M IsSaid told z all (inl x) = none_refused IsSaid told z all x
none_refused_where M IsSaid told z all (inr x) = ap (λ (k : ℤ). under_status k all) x.0

-- A refusal that isn't for lack of memory.
pub not_for_memory : {V : Type 0} (M : Type 0) (IsSaid : Verdict V → Type 0) (told : PcapfileError) (z : ℤ) → z ≢ pos 6 → TellsRefusalWhere M IsSaid told z → TellsRefusal IsSaid told z
not_for_memory M IsSaid told z had (inl x) = x
not_for_memory M IsSaid told z had (inr x) = absurd (had x.0)

-- Bytes that are refused begin with no text.
pub refused_no_text : {S V : Type 0} (f : Format S V) → IsLawful f → (q : S) (s : List ℕ) (told : PcapfileError) (z : ℤ) → TellsRefusal (f.says q s) told z
    → (v : V) (after : List ℕ) → f.says q s (whole v after) → ⊥
refused_no_text f laws q s told z (inl x) v after text = lacks_no_text f laws q told.missing s x.2 v after text
refused_no_text f laws q s told z (inr (inl x)) v after text = fault_no_text f laws q (Invalid x.1) s x.3 v after text
refused_no_text f laws q s told z (inr (inr (inl x))) v after text = fault_no_text f laws q Io s x.2 v after text
refused_no_text f laws q s told z (inr (inr (inr x))) v after text = fault_no_text f laws q Utf8 s x.2 v after text

-- Making room leaves the held bytes the same.
space_keeps : (before push : PcapfilePush) (room now : List ℕ) (wanted : ℕ) (error told : PcapfileError) (z : ℤ) → MakesSpace wanted (reader before room error) (reader push now told) z
    → (push.header ≡ before.header) × (held_in push now ≡ held_in before room)
space_keeps before push room now wanted error told z (inl x) = rw (x.2, x.3) (refl, refl)
space_keeps before push room now wanted error told z (inr (inl x)) = rw (x.2, x.3) (refl, refl)
space_keeps before push room now wanted error told z (inr (inr x)) = (x.2.header, x.2.held)

-- Come: what is known of the bytes that were put, the header, what is kept, the held bytes and what was returned.
module _ {T G : Type 0} (Come : List ℕ → PcapfileHeader → T → List ℕ → List G → Type 0) where
  -- Nothing was put, read or returned.
  unmoved : (s t held left : List ℕ) (header now : PcapfileHeader) (kept next : T) (given more : List G) → now ≡ header → next ≡ kept → left ≡ held → t ≡ [] → more ≡ [] → Come s header kept held given
      → Come (s ++ t) now next left (given ++ more)
  unmoved s t held left header now kept next given more same_header same is none empty come =
      let bytes : s ++ t ≡ s = ap (λ (l : List ℕ). s ++ l) none ∙ append-nil s in
      let all : given ++ more ≡ given = ap (λ (l : List G). given ++ l) empty ∙ append-nil given in
      rw (bytes, all, is, same_header, same) come

  -- Nothing was read or returned.
  pub stays : (s held left : List ℕ) (header now : PcapfileHeader) (kept next : T) (given more : List G) → now ≡ header → next ≡ kept → left ≡ held → more ≡ [] → Come s header kept held given
      → Come s now next left (given ++ more)
  stays s held left header now kept next given more same_header same is empty come = rw (← append-nil s) (unmoved s [] held left header now kept next given more same_header same is refl empty come)

-- What each call preserves, a sequence of calls preserves.
module _ {T G : Type 0} (Gives : ℤ → PcapfilePush → T → List ℕ → PcapfilePush → T → List G → Type 0) (Keeps : T → T → Type 0) (Come : List ℕ → PcapfileHeader → T → List ℕ → List G → Type 0)
    (puts : (s t held : List ℕ) (header : PcapfileHeader) (kept : T) (given : List G) → Come s header kept held given → Come (s ++ t) header kept (held ++ t) given)
    (goes : (z : ℤ) (before push : PcapfilePush) (kept next : T) (room s : List ℕ) (given more : List G) → Gives z before kept room push next more
    → Come s before.header kept (held_in before room) given → Come s push.header next (held_in push room) (given ++ more))
    (keeps : (s held : List ℕ) (header : PcapfileHeader) (kept next : T) (given : List G) → Keeps kept next → Come s header kept held given → Come s header next held given) where
  call_comes : (before push : PcapfilePush) (kept next : T) (room now s t : List ℕ) (given more : List G) → RoomCall Gives Keeps before kept room push next now t more
      → Come s before.header kept (held_in before room) given → Come (s ++ t) push.header next (held_in push now) (given ++ more)
  call_comes before push kept next room now s t given more (space wanted error told z same makes) come =
      let k = space_keeps before push room now wanted error told z makes in
      unmoved Come s [] (held_in before room) (held_in push now) before.header push.header kept next given [] k.0 same k.1 refl refl come
  call_comes before push kept next room now s t given more (put count z same is (inl x)) come =
      let bytes = take count (drop before.end room) in
      let some : under_status z bytes ≡ bytes = ap (λ (k : ℤ). under_status k bytes) x.0 in
      let here : Come (s ++ bytes) before.header kept (held_in before room ++ bytes) given = puts s bytes (held_in before room) before.header kept given come in
      let held : held_in push now ≡ held_in before room ++ bytes = ap (held_in push) is ∙ x.5 in
      rw (some, append-nil given, same, x.1, held) here
  call_comes before push kept next room now s t given more (put count z same is (inr x)) come =
      let bytes = take count (drop before.end room) in
      let none : under_status z bytes ≡ [] = ap (λ (k : ℤ). under_status k bytes) x.0 in
      unmoved Come s (under_status z bytes) (held_in before room) (held_in push now) before.header push.header kept next given [] (ap (λ (p : PcapfilePush). p.header) x.1) same (rw (x.1, is) refl) none refl come
  call_comes before push kept next room now s t given more (gives z found is g) come =
      rw (append-nil s, is) (goes z before push kept next room s given more g come)
  call_comes before push kept next room now s t given more (between same k front) come =
      let held : held_in push now ≡ held_in before room = ap (λ (p : PcapfilePush). held_in p now) same ∙ front in
      unmoved Come s [] (held_in before room) (held_in push now) before.header push.header next next given [] (ap (λ (p : PcapfilePush). p.header) same) refl held refl refl
      (keeps s (held_in before room) before.header kept next given k come)

  -- Calls: what they returned and the held bytes are all bytes that were put.
  calls_come : (calls : List (List ℕ × List G)) (before push : PcapfilePush) (kept next : T) (room now s : List ℕ) (given : List G)
      → RoomCalls Gives Keeps before kept room calls push next now → Come s before.header kept (held_in before room) given → Come (s ++ all_put calls) push.header next (held_in push now) (given ++ all_given calls)
  calls_come [] before push kept next room now s given x come =
      unmoved Come s [] (held_in before room) (held_in push now) before.header push.header kept next given [] (ap (λ (p : PcapfilePush). p.header) x.0) x.1 (rw (x.0, x.2) refl) refl refl come
  calls_come (call ∷ calls) before push kept next room now s given x come =
      let here = call_comes before x.0 kept x.1 room x.2 s call.0 given call.1 x.3 come in
      let there = calls_come calls x.0 push x.1 next x.2 now (s ++ call.0) (given ++ call.1) x.4 here in
      rw (← append_assoc s call.0 (all_put calls), ← append_assoc given call.1 (all_given calls)) there

  -- The last call ended the sequence.
  module _ (IsFresh : PcapfilePush → T → Type 0) (Ends : ℤ → PcapfilePush → Type 0) (calls : List (List ℕ × List G)) (push : PcapfilePush) (next : T) (room : List ℕ) (e : Ended Gives Keeps IsFresh Ends calls push next room) where
    -- What is known before the last call.
    pub come_before : Come [] e.start.header e.start_kept [] [] → Come (all_put e.earlier) e.last.header e.last_kept (held_in e.last room) (all_given e.earlier)
    come_before fresh = calls_come e.earlier e.start e.last e.start_kept e.last_kept e.start_room room [] [] e.made (rw e.empty fresh)

    pub put_all : all_put calls ≡ all_put e.earlier
    put_all = ap all_put e.all ∙ flat_map-append (λ call. call.0) e.earlier (([], e.given) ∷ []) ∙ append-nil (all_put e.earlier)

    pub given_all : all_given calls ≡ all_given e.earlier ++ e.given
    given_all = ap all_given e.all ∙ flat_map-append (λ call. call.1) e.earlier (([], e.given) ∷ []) ∙ ap (λ (l : List G). all_given e.earlier ++ l) (append-nil e.given)
