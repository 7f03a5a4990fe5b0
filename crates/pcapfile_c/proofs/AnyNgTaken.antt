-- The packets that calls read from a PcapNg capture in memory, one after the other.
use Rattle.std.proofs.Common.{◌≡◌, ◌≢◌, ℕ, ℤ, pos, List, [], ◌∷◌, ◌++◌, map, refl, sym, ap, subst, ◌∙◌, append-nil, inl, inr}
use Rattle.std.specs.Prelude.{◌⊎◌}
use Rattle.std.specs.List.{AllZip}
use Rattle.std.proofs.lemmas.Bool.{cases_eq}
use Rattle.pcap_items.specs.Format.{Texts}
use Rattle.pcap_ng.specs.Blocks.{Item}
use Rattle.pcap_ng.specs.Sections.{Leaves}
use Rattle.pcap_ng.specs.State.{State, opening, within}
use Rattle.pcap_ng.proofs.Sections.{texts_leave}
use Rattle.pcapfile_values.specs.declared.any_packets.PcapfileAnyPacket.{PcapfileAnyPacket}
use Rattle.pcapfile_values.specs.declared.blocks.PcapfileSection.{PcapfileSection}
use Rattle.pcapfile_values.specs.declared.bodies.PcapfileInterface.{PcapfileInterface}
use Rattle.pcapfile_values.specs.declared.errors.PcapfileError.{PcapfileError}
use Rattle.pcapfile_values.proofs.Leading.{zero_opens}
use Rattle.pcapfile_c.specs.declared.any.PcapfileCapture.{PcapfileCapture}
use Rattle.pcapfile_c.specs.AnyCalls.{AnyCall, AnyCalls, CameToEnd, IsFresh, Kept, NgFrontTaken, NgPacketsTaken}
use Rattle.pcapfile_c.specs.AnyCalls.AnyCalls.{none, call, between}
use Rattle.pcapfile_c.specs.AnyCaptures.{HasEnded, IsNg, TakesAnyNgPacket, TakesWithPlaces}
use Rattle.pcapfile_c.specs.PushPackets.{ReadSays, ShowsInForce, Stops}
use Rattle.pcapfile_c.specs.RoomCalls.{under_status}
use Rattle.pcapfile_c.specs.ReadBlocks.{ShowsThere, read_format}
use Rattle.pcapfile_c.specs.Readers.{any_reader, packet_reader}
use Rattle.pcapfile_c.proofs.AnyTaken.{StartsNg}
use Rattle.pcapfile_c.proofs.PacketLaws.{in_force_keeps}
use Rattle.pcapfile_c.proofs.PacketsCome.{PacketsCome, behind, come_all, front_comes, packets_among, state_all, state_same, stops_front}
use Rattle.pcapfile_c.proofs.PushedNgPackets.{read_blocks}
use Rattle.pcapfile_c.proofs.RoomLaws.{none_refused}

-- If the section's magic number is 0, the state is the opening one.
nothing_opens : (section : PcapfileSection) (places : List PcapfileInterface) (q : State) → ShowsInForce section places q → section.magic_number ≡ 0 → q ≡ opening
nothing_opens section places opening shows zero = refl
nothing_opens section places (within s interfaces) shows zero = absurd (zero_opens section s shows.0.0 zero)

-- The first block ends the opening state.
first_opens : (items : List Item) (s rest : List ℕ) → Texts read_format opening items s rest → behind opening items ≡ opening → s ≡ rest
first_opens [] s rest texts is = texts
first_opens (item ∷ items) s rest texts is =
    let blocks = read_blocks opening (item ∷ items) s rest texts in
    let leaves = texts_leave item items s rest blocks in
    absurd (subst (λ (q : State). Leaves (map (λ (item : Item). item.block) (item ∷ items)) q) (state_same opening (item ∷ items) ∙ is) leaves)

-- After calls on a PcapNg capture that began without a section, there is no header, and these packets were returned.
abbrev Taken : PcapfileCapture → List ℕ → Kept → List ℕ → List PcapfileAnyPacket → Type 0
Taken start s kept rest given = (kept.0.header ≡ start.header) × PacketsCome opening s kept.0.section kept.1 rest given

-- How a call ended that returned no packet.
abbrev Ended : Kept → List ℕ → List Item → PcapfileError → PcapfileError → ℤ → Type 0
Ended kept rest items error told z = z ≢ pos 0 → z ≢ pos 10 → Stops (behind opening items) kept.0.section kept.1 rest error told z

-- What was returned including the packet of a call, and how that call ended.
abbrev Comes : Kept → List ℕ → List ℕ → List PcapfileAnyPacket → PcapfileError → PcapfileError → ℤ → Type 0
Comes kept s rest given error told z = (x : PacketsCome opening s kept.0.section kept.1 rest given) × Ended kept rest x.0 error told z

module _ (kept next : Kept) (s left rest : List ℕ) (given : List PcapfileAnyPacket) (old shown : PcapfileAnyPacket) (error told : PcapfileError) (z : ℤ) (x : PacketsCome opening s kept.0.section kept.1 left given) where
  with_places : TakesWithPlaces (behind opening x.0) (packet_reader kept.0.section kept.1 left old error) (packet_reader next.0.section next.1 rest shown told) z
      → Comes next s rest (given ++ under_status z (shown ∷ [])) error told z
  with_places (inl t) =
      let q = behind opening x.0 in
      let more = under_status z (shown ∷ []) in
      let f = front_comes q kept.0.section next.0.section kept.1 next.1 left rest old shown error told z t in
      let all = come_all opening s left rest kept.0.section next.0.section kept.1 next.1 given more x f.0 in
      let is : behind q f.0.0 ≡ behind opening all.0.0 = sym (state_all opening x.0 f.0.0) ∙ ap (behind opening) (sym all.1) in (
        all.0,
        λ some known. elim f.1 [
          | inl e ↦ absurd (some e.0)
          | inr e ↦ subst (λ (p : State). Stops p next.0.section next.1 rest error told z) is e.1
        ],
      )
  with_places (inr l) =
      let empty : under_status z (shown ∷ []) ≡ [] = ap (λ (k : ℤ). under_status k (shown ∷ [])) l.status_is in
      let there : PacketsCome opening s next.0.section next.1 rest (given ++ under_status z (shown ∷ [])) = rw (empty, append-nil given, l.section_is, l.places_are, l.rest_is) x in
      (there, λ some known. absurd (known l.status_is))

module _ (start : PcapfileCapture) (s : List ℕ) (fresh : IsFresh start) (is : IsNg start s) where
  -- The capture still counts as PcapNg: by its bytes before the first block, and later by its section.
  still_ng : (kept : Kept) (rest : List ℕ) (given : List PcapfileAnyPacket) → Taken start s kept rest given → IsNg kept.0 rest
  still_ng kept rest given come = by_magic (cases_eq kept.0.section.magic_number 0)
    where
      by_bytes : s ≡ rest → IsNg start s → IsNg kept.0 rest
      by_bytes same (inl some) = absurd (some fresh.0)
      by_bytes same (inr n) = rw (come.0, ← same) (inr n)

      by_magic : (kept.0.section.magic_number ≡ 0) ⊎ (kept.0.section.magic_number ≡ 0 → ⊥) → IsNg kept.0 rest
      by_magic (inr some) = inl some
      by_magic (inl zero) = by_bytes (first_opens come.1.0 s rest come.1.1 (nothing_opens kept.0.section kept.1 (behind opening come.1.0) come.1.2 zero)) is

  -- One call.
  call_takes : (kept next : Kept) (left rest : List ℕ) (given : List PcapfileAnyPacket) (old shown : PcapfileAnyPacket) (error told : PcapfileError) (z : ℤ) (come : Taken start s kept left given)
      → TakesAnyNgPacket (behind opening come.1.0) (any_reader kept.0 kept.1 left old error) (any_reader next.0 next.1 rest shown told) z → Taken start s next rest (given ++ under_status z (shown ∷ []))
  call_takes kept next left rest given old shown error told z come (inl x) =
      let empty : under_status z (shown ∷ []) ≡ [] = ap (λ (k : ℤ). under_status k (shown ∷ [])) x.0 in
      rw empty (x.4.0 ∙ come.0, (with_places kept next s left rest given old shown error x.3 (pos 1) come.1 x.4.1).0)
  call_takes kept next left rest given old shown error told z come (inr x) = (x.1.0 ∙ come.0, (with_places kept next s left rest given old shown error told z come.1 x.1.1).0)

  calls_take : (places : List PcapfileInterface) (kept : Kept) (rest : List ℕ) (given : List PcapfileAnyPacket) → AnyCalls (start, places) s kept rest given → Taken start s kept rest given
  calls_take places k r g none = (refl, ([], refl, fresh.0, tt))
  calls_take places k r g (call kept next left rest given shown told z calls x) =
      let come = calls_take places kept left given calls in
      call_takes kept next left rest given x.old shown x.error told z come (x.blocks (behind opening come.1.0) (still_ng kept left given come) come.1.2)
  calls_take places k r g (between kept next rest given calls keeps) =
      let come = calls_take places kept rest given calls in
      let section : next.0.section ≡ kept.0.section = ap (λ (c : PcapfileCapture). c.section) keeps.0 in
      let shows = in_force_keeps (behind opening come.1.0) (kept.0.section, kept.1) (next.0.section, next.1) (section, keeps.1) come.1.2 in
      (ap (λ (c : PcapfileCapture). c.header) keeps.0 ∙ come.0, (come.1.0, come.1.1, shows, come.1.3))

  pub ng_in_order : (places : List PcapfileInterface) (next : Kept) (rest : List ℕ) (given : List PcapfileAnyPacket) → AnyCalls (start, places) s next rest given → NgPacketsTaken next s rest given
  ng_in_order places next rest given calls =
      let come = (calls_take places next rest given calls).1 in
      record { items = come.0; texts = come.1; in_force = come.2; shows = come.3 }

  -- If nothing is left, the capture has begun and has ended.
  begun : (kept : Kept) (rest : List ℕ) (given : List PcapfileAnyPacket) → Taken start s kept rest given → rest ≡ [] → HasEnded kept.0 rest
  begun kept rest given come empty = (empty, inl (λ zero. no_section zero))
    where
      no_section : kept.0.section.magic_number ≡ 0 → ⊥
      no_section zero = by_ng (still_ng kept rest given come)
        where
          by_ng : IsNg kept.0 rest → ⊥
          by_ng (inl some) = some zero
          by_ng (inr n) = let bad : StartsNg [] = subst StartsNg empty n.1 in absurd cc

  last_takes : (kept next : Kept) (left rest : List ℕ) (given : List PcapfileAnyPacket) (old shown : PcapfileAnyPacket) (error told : PcapfileError) (z : ℤ) (come : Taken start s kept left given) → CameToEnd z
      → TakesAnyNgPacket (behind opening come.1.0) (any_reader kept.0 kept.1 left old error) (any_reader next.0 next.1 rest shown told) z → NgFrontTaken s rest given told z
  last_takes kept next left rest given old shown error told z come end (inl x) =
      let f = with_places kept next s left rest given old shown error x.3 (pos 1) come.1 x.4.1 in
      let front = stops_front opening next.0.section next.1 f.0.0 s rest error x.3 (pos 1) (λ e. absurd cc) (λ e. absurd cc) f.0.1 (f.1 (λ e. absurd cc) (λ e. absurd cc)) in
      let shows : AllZip ShowsThere (packets_among opening f.0.0) given = subst (λ (l : List PcapfileAnyPacket). AllZip ShowsThere (packets_among opening f.0.0) l) (append-nil given) f.0.3 in
      record { items = f.0.0; front = front.0; shows = shows; ends = inl (x.0, x.2.0) }
  last_takes kept next left rest given old shown error told z come end (inr x) =
      let f = with_places kept next s left rest given old shown error told z come.1 x.1.1 in
      let front = stops_front opening next.0.section next.1 f.0.0 s rest error told z end.1 end.3 f.0.1 (f.1 end.0 end.2) in
      let empty : under_status z (shown ∷ []) ≡ [] = none_refused (ReadSays (behind opening f.0.0) rest) told z (shown ∷ []) front.1 in
      let same : given ++ under_status z (shown ∷ []) ≡ given = ap (λ (l : List PcapfileAnyPacket). given ++ l) empty ∙ append-nil given in
      let shows : AllZip ShowsThere (packets_among opening f.0.0) given = subst (λ (l : List PcapfileAnyPacket). AllZip ShowsThere (packets_among opening f.0.0) l) same f.0.3 in
      let there : Taken start s next rest (given ++ under_status z (shown ∷ [])) = (x.1.0 ∙ come.0, f.0) in
      record {
        items = f.0.0;
        front = front.0;
        shows = shows;
        ends = inr (λ one nothing. x.0 one (begun next rest (given ++ under_status z (shown ∷ [])) there nothing), front.1);
      }

  pub ng_front : (places : List PcapfileInterface) (kept next : Kept) (left rest : List ℕ) (given : List PcapfileAnyPacket) (shown : PcapfileAnyPacket) (told : PcapfileError) (z : ℤ)
      → AnyCalls (start, places) s kept left given → AnyCall kept next left rest shown told z → CameToEnd z → NgFrontTaken s rest given told z
  ng_front places kept next left rest given shown told z calls x end =
      let come = calls_take places kept left given calls in
      last_takes kept next left rest given x.old shown x.error told z come end (x.blocks (behind opening come.1.0) (still_ng kept left given come) come.1.2)
