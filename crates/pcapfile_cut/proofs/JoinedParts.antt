-- Lemmas on parts that are cut and joined.
use Rattle.std.proofs.Common.{◌≡◌, ◌≤◌, ℕ, List, [], ◌∷◌, ◌++◌, length, drop, Option, Some, None, refl, sym, ap, ◌∙◌, subst, arith, append_assoc, append-nil, length-append, inl, inr}
use Rattle.std.specs.Prelude.{All as Each}
use Rattle.std.specs.List.{flat_map}
use Rattle.std.specs.Option.{IsSomeAnd}
use Rattle.std.specs.Io.KnownBytes.{Appends, Consumes, IsAtEnd}
use Rattle.std.proofs.KnownBytes.{Appends-kept, Appends-trans, Consumes-kept}
use Rattle.std.proofs.lemmas.List.{take_all}
use Rattle.std.proofs.Math.Seq.{drop-append_seam}
use Rattle.pcap_core.specs.Errors.{IsIo}
use Rattle.pcap_items.specs.Format.{Texts}
use Rattle.pcap_items.specs.Reading.{HasCause}
use Rattle.pcap_items.proofs.Formats.{texts_all}
use Rattle.pcap_classic.specs.PacketText.{Captured}
use Rattle.pcap_core.specs.declared.errors.PcapError.{PcapError}
use Rattle.pcap_classic.specs.declared.pcap.header.PcapHeader.{PcapHeader}
use Rattle.pcapfile_cut.specs.declared.cutting.Outcome.{Outcome}
use Rattle.pcapfile_cut.specs.declared.joining.Joined.{Joined}
use Rattle.pcapfile_cut.specs.declared.joining.Joined.TheVariants.{Unopened, OtherHeader, Packets}
use Rattle.pcapfile_cut.specs.declared.opening.Opening.{Opening}
use Rattle.pcapfile_cut.specs.declared.wanted.Wanted.{Wanted}
use Rattle.pcapfile_cut.specs.declared.wanted.Wanted.TheVariants.{All, Numbers, Bytes, Selected}
use Rattle.pcapfile_cut.specs.Changes.{opening_for, written}
use Rattle.pcapfile_cut.specs.Choice.{Stored, WantsMore, chosen, text_of}
use Rattle.pcapfile_cut.specs.Cuts.{CutsBehind, Ends, EndsWhole, IsStored, LastIsWanted, OpensPart, PacketIsSaid, packets_under}
use Rattle.pcapfile_cut.specs.Fronts.{CutsInto, HoldsPackets, IsJoined, JoinsOthers, TakesAll, packets_of}
use Rattle.pcapfile_cut.specs.Joins.{JoinsPart}
use Rattle.pcapfile_cut.specs.Openings.{bytes_of, header_of}
use Rattle.pcapfile_cut.proofs.FrontCuts.{stored_texts}

-- If every packet that is read is wanted, all are chosen.
chosen_all : (wanted : Wanted) (packets : List Stored) → TakesAll wanted → LastIsWanted wanted packets → chosen wanted packets ≡ packets
chosen_all All packets is needed = refl
chosen_all (Numbers first last) packets is needed =
    let within : length packets ≤ last = elim needed [
      | inl none ↦ omega (arith, ap length none)
      | inr some ↦ omega (arith, ap length some.2, length-append some.0 (some.1 ∷ []), some.3)
    ] in
    rw (is, take_all last packets within) refl
chosen_all (Bytes most) packets is needed = refl
chosen_all (Selected selection) packets is needed = absurd is

-- Such a cut writes each packet with its bytes.
written_all : (header : PcapHeader) (wanted : Wanted) (packets : List Stored) → TakesAll wanted → written header wanted packets ≡ text_of packets
written_all header All packets is = refl
written_all header (Numbers first last) packets is = refl
written_all header (Bytes most) packets is = refl
written_all header (Selected selection) packets is = absurd is

-- Such a cut writes the opening with its bytes.
opening_all : (wanted : Wanted) (opening : Opening) → TakesAll wanted → opening_for wanted opening ≡ bytes_of opening
opening_all All opening is = refl
opening_all (Numbers first last) opening is = refl
opening_all (Bytes most) opening is = refl
opening_all (Selected selection) opening is = absurd is

none_fails : (P : PcapError → Type 0) (fault : Option PcapError) → fault ≡ None → IsSomeAnd fault P → ⊥
none_fails P None fine is = is
none_fails P (Some e) fine is = absurd cc

-- A cut without an error ended at the end of the stream or of the wanted packets.
ended : (header : PcapHeader) (wanted : Wanted) (packets : List Stored) (left now mid out_now : Option (List ℕ)) (outcome : Outcome) → outcome.fault ≡ None
    → Ends header wanted packets left now mid out_now outcome → EndsWhole wanted left now mid out_now outcome
ended header wanted packets left now mid out_now outcome fine ends =
    elim ends [
      | inl all ↦ all
      | inr fault ↦ elim fault.1 [ inl tear ↦ absurd (none_fails IsIo outcome.fault fine tear.refused) | inr refuses ↦ absurd (none_fails (HasCause (PacketIsSaid header) left outcome.read_failed) outcome.fault fine refuses.refused) ]
    ]

-- A part is the opening and the bytes that the cut read.
cut_part_is : (opening : Opening) (wanted : Wanted) (s behind part : List ℕ) (outcome : Outcome) → TakesAll wanted → OpensPart opening wanted (Some s) (Some behind) (Some []) (Some part) outcome → outcome.fault ≡ None
    → (xs : List Stored) × (part ≡ bytes_of opening ++ text_of xs) × (s ≡ text_of xs ++ behind) × Each (IsStored (header_of opening)) xs
cut_part_is opening wanted s behind part outcome all opens fine =
    let cuts = opens.cuts in
    let passes = cuts.passes in
    let end = ended (header_of opening) wanted cuts.packets cuts.left (Some behind) cuts.mid (Some part) outcome fine cuts.ends in
    let took : Consumes (Some s) (Some behind) (text_of cuts.packets) = Consumes-kept (Some s) cuts.left (Some behind) (text_of cuts.packets) passes.took end.taken in
    let header = header_of opening in
    let text = written header wanted (chosen wanted cuts.packets) in
    let picked : text ≡ text_of cuts.packets = written_all header wanted (chosen wanted cuts.packets) all ∙ ap text_of (chosen_all wanted cuts.packets all passes.needed) in
    let opened : Appends (Some []) opens.behind (bytes_of opening) = subst (λ (t : List ℕ). Appends (Some []) opens.behind t) (opening_all wanted opening all) opens.opened in
    let went : Appends (Some []) cuts.mid (bytes_of opening ++ text) = Appends-trans (Some []) opens.behind cuts.mid (bytes_of opening) text opened passes.went in
    let out : part ≡ bytes_of opening ++ text = Appends-kept (Some []) cuts.mid (Some part) (bytes_of opening ++ text) went end.went in
    (cuts.packets, out ∙ ap (λ (t : List ℕ). bytes_of opening ++ t) picked, took, passes.each)

at_end : (t text : List ℕ) (left : Option (List ℕ)) → Consumes (Some t) left text → IsAtEnd left → t ≡ text
at_end t text None took end = absurd took
at_end t text (Some rest) took end = took ∙ ap (λ (l : List ℕ). text ++ l) end ∙ append-nil text

-- All packets of a part are written.
all_goes : (header : PcapHeader) (t out mid : List ℕ) (now : Option (List ℕ)) (outcome : Outcome) → CutsBehind header All (Some t) now (Some out) (Some mid) outcome
    → outcome.fault ≡ None → WantsMore All outcome.packets outcome.bytes → mid ≡ out ++ t
all_goes header t out mid now outcome cuts fine more =
    let end = ended header All cuts.packets cuts.left now cuts.mid (Some mid) outcome fine cuts.ends in
    let ends : IsAtEnd cuts.left = elim end.why [ inl here ↦ here | inr enough ↦ absurd (enough more) ] in
    let went : mid ≡ out ++ text_of cuts.packets = Appends-kept (Some out) cuts.mid (Some mid) (text_of cuts.packets) cuts.passes.went end.went in
    went ∙ ap (λ (l : List ℕ). out ++ l) (sym (at_end t (text_of cuts.packets) cuts.left cuts.passes.took ends))

behind_opening : (front t part : List ℕ) (behind : Option (List ℕ)) → part ≡ front ++ t → Consumes (Some part) behind front → behind ≡ Some t
behind_opening front t part None is took = absurd took
behind_opening front t part (Some b) is took =
    let same : b ≡ t = sym (drop-append_seam front b) ∙ ap (drop (length front)) (sym took ∙ is) ∙ drop-append_seam front t in
    ap Some same

join_part_is : (opening : Opening) (t part out mid : List ℕ) (now : Option (List ℕ)) (joined : Joined) → part ≡ bytes_of opening ++ t → JoinsPart opening (Some part) now (Some out) (Some mid) joined
    → IsJoined joined → mid ≡ out ++ t
join_part_is opening t part out mid now (Unopened e) is joins ok = absurd ok
join_part_is opening t part out mid now OtherHeader is joins ok = absurd ok
join_part_is opening t part out mid now (Packets outcome) is joins ok =
    let behind = behind_opening (bytes_of opening) t part joins.0 is joins.1 in
    let cuts : CutsBehind (header_of opening) All (Some t) now (Some out) (Some mid) outcome = subst (λ (b : Option (List ℕ)). CutsBehind (header_of opening) All b now (Some out) (Some mid) outcome) behind joins.2 in
    all_goes (header_of opening) t out mid now outcome cuts ok.0 ok.1

others_join : (opening : Opening) (wants : List Wanted) (parts : List (List ℕ)) (s left out out_now : List ℕ) → CutsInto opening wants parts s left → JoinsOthers opening parts out out_now → out_now ++ left ≡ out ++ s
others_join opening [] [] s left out out_now cuts joins = ap (λ (l : List ℕ). l ++ left) joins ∙ ap (λ (l : List ℕ). out ++ l) (sym cuts)
others_join opening (w ∷ ws) [] s left out out_now cuts joins = absurd cuts
others_join opening [] (part ∷ parts) s left out out_now cuts joins = absurd cuts
others_join opening (w ∷ ws) (part ∷ parts) s left out out_now cuts joins =
    let this = cuts.1 in
    let cut = cut_part_is opening w s this.0 part this.1 cuts.0 this.2 this.3 in
    let mid = joins.1 in
    let joined : mid ≡ out ++ text_of cut.0 = join_part_is opening (text_of cut.0) part out mid joins.0 joins.2 cut.1 joins.3 joins.4 in
    others_join opening ws parts this.0 left mid out_now this.4 joins.5
    ∙ ap (λ (l : List ℕ). l ++ this.0) joined ∙ append_assoc out (text_of cut.0) this.0 ∙ ap (λ (l : List ℕ). out ++ l) (sym cut.2)

opened_known : (front : List ℕ) (behind : Option (List ℕ)) → Appends (Some []) behind front → behind ≡ Some front
opened_known front None opened = absurd opened
opened_known front (Some b) opened = ap Some opened

-- The first part is written unchanged.
first_is : (opening : Opening) (behind first_out : List ℕ) (now : Option (List ℕ)) (outcome : Outcome) → OpensPart opening All (Some behind) now (Some []) (Some first_out) outcome → outcome.fault ≡ None
    → WantsMore All outcome.packets outcome.bytes → first_out ≡ bytes_of opening ++ behind
first_is opening behind first_out now outcome opens fine more =
    let cuts : CutsBehind (header_of opening) All (Some behind) now (Some (bytes_of opening)) (Some first_out) outcome =
    subst (λ (b : Option (List ℕ)). CutsBehind (header_of opening) All (Some behind) now b (Some first_out) outcome) (opened_known (bytes_of opening) opens.behind opens.opened) opens.cuts in
    all_goes (header_of opening) behind (bytes_of opening) first_out now outcome cuts fine more

-- The parts of a cut, joined, are the opening and the bytes that were cut.
pub parts_join : (opening : Opening) (wanted : Wanted) (wants : List Wanted) (part behind : List ℕ) (parts : List (List ℕ)) (s left first_out out : List ℕ) (now : Option (List ℕ)) (outcome : Outcome)
    → CutsInto opening (wanted ∷ wants) (part ∷ parts) s left → part ≡ bytes_of opening ++ behind → OpensPart opening All (Some behind) now (Some []) (Some first_out) outcome
    → outcome.fault ≡ None → WantsMore All outcome.packets outcome.bytes → JoinsOthers opening parts first_out out → out ++ left ≡ bytes_of opening ++ s
parts_join opening wanted wants part behind parts s left first_out out now outcome cuts is opens fine more joins =
    let this = cuts.1 in
    let cut = cut_part_is opening wanted s this.0 part this.1 cuts.0 this.2 this.3 in
    let first = first_is opening behind first_out now outcome opens fine more in
    let same : behind ≡ text_of cut.0 = sym (drop-append_seam (bytes_of opening) behind) ∙ ap (drop (length (bytes_of opening))) (sym is ∙ cut.1) ∙ drop-append_seam (bytes_of opening) (text_of cut.0) in
    others_join opening wants parts this.0 left first_out out this.4 joins
    ∙ ap (λ (l : List ℕ). l ++ this.0) (first ∙ ap (λ (l : List ℕ). bytes_of opening ++ l) same) ∙ append_assoc (bytes_of opening) (text_of cut.0) this.0
    ∙ ap (λ (l : List ℕ). bytes_of opening ++ l) (sym cut.2)

-- Parts that are cut one after another have all packets in between.
pub parts_hold : (opening : Opening) (wants : List Wanted) (parts : List (List ℕ)) (s left : List ℕ) → CutsInto opening wants parts s left → HoldsPackets opening parts s left
parts_hold opening [] [] s left cuts = record { packets = []; each = tt; all = cuts }
parts_hold opening (w ∷ ws) [] s left cuts = absurd cuts
parts_hold opening [] (part ∷ parts) s left cuts = absurd cuts
parts_hold opening (w ∷ ws) (part ∷ parts) s left cuts =
    let this = cuts.1 in
    let cut = cut_part_is opening w s this.0 part this.1 cuts.0 this.2 this.3 in
    let header = header_of opening in
    let f = packets_under header in
    let xs = cut.0 in
    let here : Texts f tt (packets_of xs) s this.0 = subst (λ (t : List ℕ). Texts f tt (packets_of xs) t this.0) (sym cut.2) (stored_texts header xs this.0 cut.3) in
    let own : Texts f tt (packets_of xs) (text_of xs) [] = subst (λ (t : List ℕ). Texts f tt (packets_of xs) t []) (append-nil (text_of xs)) (stored_texts header xs [] cut.3) in
    let more = parts_hold opening ws parts this.0 left this.4 in
    record {
      packets = packets_of xs ∷ more.packets;
      each = ((text_of xs, cut.1, own), more.each);
      all = texts_all f tt (packets_of xs) (flat_map (λ (ps : List Captured). ps) more.packets) s this.0 left here more.all;
    }
