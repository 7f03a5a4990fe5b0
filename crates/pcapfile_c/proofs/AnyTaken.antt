-- The packets that calls read from a classic capture in memory, one after the other.
use Rattle.std.proofs.Common.{◌≡◌, ◌≢◌, ℕ, ℤ, pos, List, [], ◌∷◌, ◌++◌, false, refl, sym, ap, subst, ◌∙◌, append-nil, inl, inr}
use Rattle.std.specs.Prelude.{IsTrue, ◌⊎◌, ◌==◌}
use Rattle.std.specs.List.{AllZip, starts_with}
use Rattle.pcap_items.specs.Format.{Front}
use Rattle.pcap_core.proofs.Kept.{zip_push}
use Rattle.pcap_classic.specs.declared.pcap.header.PcapHeader.{PcapHeader}
use Rattle.pcap_core.specs.Link.{link_number}
use Rattle.pcap_classic.specs.Front.{CaptureFront}
use Rattle.pcap_classic.specs.HeaderText.{HeaderSays}
use Rattle.pcap_classic.specs.Magic.{is_magic}
use Rattle.pcap_classic.specs.Packets.{format_under}
use Rattle.pcap_classic.specs.PacketText.{Captured, packet_limit}
use Rattle.pcapfile_values.specs.declared.any_packets.PcapfileAnyPacket.{PcapfileAnyPacket}
use Rattle.pcapfile_values.specs.declared.bodies.PcapfileInterface.{PcapfileInterface}
use Rattle.pcapfile_values.specs.declared.blocks.PcapfileSection.{PcapfileSection}
use Rattle.pcapfile_values.specs.declared.errors.PcapfileError.{PcapfileError}
use Rattle.pcapfile_values.specs.declared.shown.PcapfileHeader.{PcapfileHeader}
use Rattle.pcapfile_values.specs.AnyPackets.{ShowsCaptured}
use Rattle.pcapfile_values.specs.Refusals.{TellsRefusal}
use Rattle.pcapfile_values.specs.Shown.{shown_header}
use Rattle.pcapfile_c.specs.declared.any.PcapfileCapture.{PcapfileCapture}
use Rattle.pcapfile_c.specs.AnyCalls.{AnyCall, AnyCalls, CameToEnd, FrontTaken, IsFresh, Kept, NoHeader, NothingTaken, PacketsTaken, ShowAll}
use Rattle.pcapfile_c.specs.AnyCalls.AnyCalls.{none, call, between}
use Rattle.pcapfile_c.specs.AnyCaptures.{HasEnded, IsNg, TakesAnyPacket, TakesCaptured}
use Rattle.pcapfile_c.specs.Calls.{PacketsSaid}
use Rattle.pcapfile_c.specs.Push.{Opened}
use Rattle.pcapfile_c.specs.RoomCalls.{under_status}
use Rattle.pcapfile_c.specs.Readers.{any_reader, header_reader}
use Rattle.pcapfile_c.proofs.Pushes.{HaveCome, no_packet, not_both, opened_comes, packet_comes}
use Rattle.pcapfile_c.proofs.RoomLaws.{none_refused}

-- The packets so far, and structs that show them.
abbrev Come : List ℕ → PcapfileHeader → List ℕ → List PcapfileAnyPacket → Type 0
Come s header rest given = (packets : List Captured) × HaveCome s header rest packets × ShowAll header.link packets given

-- If there was no packet, no struct shows one.
shown_none : (link : ℕ) (given : List PcapfileAnyPacket) → AllZip (ShowsCaptured link) [] given → given ≡ []
shown_none link [] x = refl
shown_none link (g ∷ gs) x = absurd x

-- The link type stays the same, since a header is read only before the first packet.
links_stay : (before now : PcapfileHeader) (held mid s : List ℕ) (packets : List Captured) (given : List PcapfileAnyPacket) → Opened before now held mid → HaveCome s before held packets
    → ShowAll before.link packets given → ShowAll now.link packets given
links_stay before now held mid s packets given (inl o) come shows = subst (λ (h : PcapfileHeader). ShowAll h.link packets given) (sym o.1) shows
links_stay before now held mid s packets given (inr o) (inr x) shows =
    let invalid : is_magic x.0.magic_number ≡ false = subst (λ (h : PcapfileHeader). is_magic h.magic_number ≡ false) x.2 o.0 in
    absurd (not_both (is_magic x.0.magic_number) x.3.valid invalid)
links_stay before now held mid s packets given (inr o) (inl x) shows =
    let empty : AllZip (ShowsCaptured before.link) [] given = subst (λ (ps : List Captured). AllZip (ShowsCaptured before.link) ps given) x.2 shows in
    rw (x.2, shown_none before.link given empty) tt

-- A packet was read, or none.
captured_comes : (before now : PcapfileHeader) (left rest s : List ℕ) (given : List PcapfileAnyPacket) (old shown : PcapfileAnyPacket) (error told : PcapfileError) (z : ℤ)
    → TakesCaptured (header_reader before left old error) (header_reader now rest shown told) z → Come s before left given → Come s now rest (given ++ under_status z (shown ∷ []))
captured_comes before now left rest s given old shown error told z (inl x) come =
    let packet = x.2 in
    let there = packet_comes before now left rest s come.0 packet x.3 come.1 in
    let shows = links_stay before now left x.3.0 s come.0 given x.3.1 come.1 come.2 in
    let some : under_status z (shown ∷ []) ≡ shown ∷ [] = ap (λ (k : ℤ). under_status k (shown ∷ [])) x.0 in
    rw some (come.0 ++ packet ∷ [], there, zip_push (ShowsCaptured now.link) come.0 given packet shown shows x.4)
captured_comes before now left rest s given old shown error told z (inr (inl x)) come =
    let empty : under_status z (shown ∷ []) ≡ [] = none_refused (PacketsSaid now.magic_number rest) told z (shown ∷ []) x.2 in
    rw (empty, append-nil given) (come.0, inr (opened_comes before now left rest s come.0 x.1 come.1), links_stay before now left rest s come.0 given x.1 come.1 come.2)
captured_comes before now left rest s given old shown error told z (inr (inr x)) come =
    let empty : under_status z (shown ∷ []) ≡ [] = none_refused (HeaderSays left) told z (shown ∷ []) x.4 in
    rw (empty, append-nil given, x.2, x.3) come

abbrev pub StartsNg : List ℕ → Type 0
StartsNg s = IsTrue (starts_with (λ a b. a == b) s (0x0A ∷ 0x0D ∷ 0x0D ∷ 0x0A ∷ []))

-- After calls on a classic capture that began without a header, there is no section, and these packets were returned.
abbrev Taken : PcapfileCapture → List ℕ → Kept → List ℕ → List PcapfileAnyPacket → Type 0
Taken start s kept rest given = (kept.0.section ≡ start.section) × Come s kept.0.header rest given

module _ (start : PcapfileCapture) (s : List ℕ) (fresh : IsFresh start) (not : IsNg start s → ⊥) where
  -- What is left does not count as PcapNg.
  still_packets : (kept : PcapfileCapture) (rest : List ℕ) (packets : List Captured) → kept.section ≡ start.section → HaveCome s kept.header rest packets → IsNg kept rest → ⊥
  still_packets kept rest packets same come (inl ng) = ng (ap (λ (t : PcapfileSection). t.magic_number) same ∙ fresh.0)
  still_packets kept rest packets same (inl x) (inr ng) = not (inr (λ is. not_both (is_magic start.header.magic_number) is fresh.1, subst StartsNg x.1 ng.1))
  still_packets kept rest packets same (inr x) (inr ng) = ng.0 (subst (λ (h : PcapfileHeader). IsTrue (is_magic h.magic_number)) (sym x.2) x.3.valid)

  -- One call.
  call_takes : (kept next : Kept) (left rest : List ℕ) (given : List PcapfileAnyPacket) (old shown : PcapfileAnyPacket) (error told : PcapfileError) (z : ℤ) → Taken start s kept left given
      → TakesAnyPacket (any_reader kept.0 kept.1 left old error) (any_reader next.0 next.1 rest shown told) z → Taken start s next rest (given ++ under_status z (shown ∷ []))
  call_takes kept next left rest given old shown error told z come (inl x) =
      let empty : under_status z (shown ∷ []) ≡ [] = ap (λ (k : ℤ). under_status k (shown ∷ [])) x.0 in
      let there = captured_comes kept.0.header next.0.header left rest s given old shown error x.3 (pos 1) x.4.2 come.1 in
      rw empty (x.4.0 ∙ come.0, there)
  call_takes kept next left rest given old shown error told z come (inr x) = (x.1.0 ∙ come.0, captured_comes kept.0.header next.0.header left rest s given old shown error told z x.1.2 come.1)

  calls_take : (places : List PcapfileInterface) (kept : Kept) (rest : List ℕ) (given : List PcapfileAnyPacket) → AnyCalls (start, places) s kept rest given → Taken start s kept rest given
  calls_take places k r g none = (refl, ([], inl (fresh.1, refl, refl), tt))
  calls_take places k r g (call kept next left rest given shown told z calls x) =
      let come = calls_take places kept left given calls in
      call_takes kept next left rest given x.old shown x.error told z come (x.packets (still_packets kept.0 left come.1.0 come.0 come.1.1))
  calls_take places k r g (between kept next rest given calls keeps) =
      let come = calls_take places kept rest given calls in
      rw keeps.0 come

-- The header and the packets were read, or nothing.
taken_said : (header : PcapfileHeader) (s rest : List ℕ) (given : List PcapfileAnyPacket) → Come s header rest given → PacketsTaken header s rest given ⊎ NothingTaken header s rest given
taken_said header s rest given (packets, inl x, shows) = inr (x.0, x.1, shown_none header.link given (subst (λ (ps : List Captured). ShowAll header.link ps given) x.2 shows))
taken_said header s rest given (packets, inr x, shows) = inl (record {
  found = x.0;
  in_force = x.2;
  packets = packets;
  after = x.1;
  header_text = x.3;
  texts = x.4;
  shows = subst (λ (h : PcapfileHeader). ShowAll h.link packets given) x.2 shows;
})

-- If a call returns no packet after these, they are the front.
Ends : PcapfileHeader → List ℕ → List ℕ → List PcapfileAnyPacket → PcapfileError → ℤ → Type 0
Ends now s rest given told z =
    ((header : PcapHeader) × (packets : List Captured) × (now ≡ shown_header header) × CaptureFront packet_limit header packets s rest × ShowAll (link_number header.datalink) packets given
    × TellsRefusal (PacketsSaid header.magic_number rest) told z)
    ⊎ ((is_magic now.magic_number ≡ false) × NoHeader s rest given told z)

front_ends : (before now : PcapfileHeader) (left rest s : List ℕ) (given : List PcapfileAnyPacket) (old shown : PcapfileAnyPacket) (error told : PcapfileError) (z : ℤ) → z ≢ pos 0
    → TakesCaptured (header_reader before left old error) (header_reader now rest shown told) z → Come s before left given → Ends now s rest given told z
unfolding Ends
front_ends before now left rest s given old shown error told z some (inl x) come = absurd (some x.0)
front_ends before now left rest s given old shown error told z some (inr (inl x)) (packets, come, shows) =
    let o = opened_comes before now left rest s packets x.1 come in
    let here : TellsRefusal (PacketsSaid o.0.magic_number rest) told z = subst (λ (h : PcapfileHeader). TellsRefusal (PacketsSaid h.magic_number rest) told z) o.2 x.2 in
    let front : Front (format_under packet_limit o.0) tt packets o.1 rest = record { texts = o.4; longest = λ v after text. no_packet o.0.magic_number rest told z here v after text } in
    let linked : ShowAll now.link packets given = links_stay before now left rest s packets given x.1 come shows in
    inl (o.0, packets, o.2, record { after = o.1; header_text = o.3; front = front }, subst (λ (h : PcapfileHeader). ShowAll h.link packets given) o.2 linked, here)
front_ends before now left rest s given old shown error told z some (inr (inr x)) (packets, inl y, shows) =
    let empty = shown_none before.link given (subst (λ (ps : List Captured). ShowAll before.link ps given) y.2 shows) in
    let invalid : is_magic now.magic_number ≡ false = subst (λ (h : PcapfileHeader). is_magic h.magic_number ≡ false) (sym x.2) x.1 in
    inr (invalid, (x.3 ∙ y.1, empty, subst (λ (l : List ℕ). TellsRefusal (HeaderSays l) told z) y.1 x.4))
front_ends before now left rest s given old shown error told z some (inr (inr x)) (packets, inr y, shows) =
    let invalid : is_magic y.0.magic_number ≡ false = subst (λ (h : PcapfileHeader). is_magic h.magic_number ≡ false) y.2 x.1 in
    absurd (not_both (is_magic y.0.magic_number) y.3.valid invalid)

-- The header was read.
in_force : (now : PcapfileHeader) (header : PcapHeader) (packets : List Captured) (s rest : List ℕ) → now ≡ shown_header header → CaptureFront packet_limit header packets s rest → IsTrue (is_magic now.magic_number)
in_force now header packets s rest is front = subst (λ (h : PcapfileHeader). IsTrue (is_magic h.magic_number)) (sym is) front.header_text.valid

module _ (capture : PcapfileCapture) (s rest : List ℕ) (given : List PcapfileAnyPacket) where
  -- Nothing is left.
  ended_there : (request told : PcapfileError) (z : ℤ) → z ≡ pos 8 → capture.section.magic_number ≡ 0 → HasEnded capture rest → Ends capture.header s rest given request (pos 1)
      → FrontTaken s rest given told z ⊎ NoHeader s rest given told z
  unfolding Ends
  ended_there request told z is zero ended (inl x) = inl (record { header = x.0; packets = x.1; front = x.3; shows = x.4; ends = inl (is, ended.0) })
  ended_there request told z is zero (nothing, inl section) (inr x) = absurd (section zero)
  ended_there request told z is zero (nothing, inr header) (inr x) = absurd (not_both (is_magic capture.header.magic_number) header x.0)

  -- What is left is refused.
  refused_there : (told : PcapfileError) (z : ℤ) → (z ≡ pos 1 → HasEnded capture rest → ⊥) → Ends capture.header s rest given told z → FrontTaken s rest given told z ⊎ NoHeader s rest given told z
  unfolding Ends
  refused_there told z goes_on (inl x) =
      inl (record { header = x.0; packets = x.1; front = x.3; shows = x.4; ends = inr (λ one nothing. goes_on one (nothing, inr (in_force capture.header x.0 x.1 s rest x.2 x.3)), x.5) })
  refused_there told z goes_on (inr x) = inr x.1

module _ (start : PcapfileCapture) (places : List PcapfileInterface) (s : List ℕ) (fresh : IsFresh start) (not : IsNg start s → ⊥) where
  pub in_order : (next : Kept) (rest : List ℕ) (given : List PcapfileAnyPacket) → AnyCalls (start, places) s next rest given
      → PacketsTaken next.0.header s rest given ⊎ NothingTaken next.0.header s rest given
  in_order next rest given calls = taken_said next.0.header s rest given (calls_take start s fresh not places next rest given calls).1

  last_takes : (kept next : Kept) (left rest : List ℕ) (given : List PcapfileAnyPacket) (old shown : PcapfileAnyPacket) (error told : PcapfileError) (z : ℤ) → z ≢ pos 0 → Taken start s kept left given
      → TakesAnyPacket (any_reader kept.0 kept.1 left old error) (any_reader next.0 next.1 rest shown told) z → FrontTaken s rest given told z ⊎ NoHeader s rest given told z
  last_takes kept next left rest given old shown error told z some come (inl x) =
      let zero : next.0.section.magic_number ≡ 0 = ap (λ (t : PcapfileSection). t.magic_number) (x.4.0 ∙ come.0) ∙ fresh.0 in
      ended_there next.0 s rest given x.3 told z x.0 zero x.2 (front_ends kept.0.header next.0.header left rest s given old shown error x.3 (pos 1) one_some x.4.2 come.1)
    where
      one_some : pos 1 ≢ pos 0
      one_some e = absurd cc
  last_takes kept next left rest given old shown error told z some come (inr x) =
      refused_there next.0 s rest given told z x.0 (front_ends kept.0.header next.0.header left rest s given old shown error told z some x.1.2 come.1)

  pub the_front : (kept next : Kept) (left rest : List ℕ) (given : List PcapfileAnyPacket) (shown : PcapfileAnyPacket) (told : PcapfileError) (z : ℤ) → AnyCalls (start, places) s kept left given
      → AnyCall kept next left rest shown told z → CameToEnd z → FrontTaken s rest given told z ⊎ NoHeader s rest given told z
  the_front kept next left rest given shown told z calls x end =
      let come = calls_take start s fresh not places kept left given calls in
      last_takes kept next left rest given x.old shown x.error told z end.0 come (x.packets (still_packets start s fresh not kept.0 left come.1.0 come.0 come.1.1))
