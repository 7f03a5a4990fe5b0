-- Lemmas on parts of a PcapNg capture that are cut one after another.
use Rattle.std.proofs.Common.{◌≡◌, ◌++◌, ℕ, List, [], ◌∷◌, true, false, Option, None, Some, Ok, Err, length, map, refl, sym, ap, ◌∙◌, subst, arith, append-nil, inl, inr}
use Rattle.std.specs.Prelude.{Result}
use Rattle.std.specs.Result.{result_err}
use Rattle.std.specs.List.{flat_map}
use Rattle.std.specs.Io.KnownBytes.{Appends}
use Rattle.std.proofs.KnownBytes.{Appends-kept, Appends-trans, Consumes-kept, Consumes-nil}
use Rattle.std.proofs.lemmas.Bool.{true≢false}
use Rattle.std.proofs.lemmas.List.{map-append}
use Rattle.pcap_core.specs.declared.errors.PcapError.{PcapError}
use Rattle.pcap_blocks.specs.declared.block_type.BlockType.{BlockType}
use Rattle.pcap_blocks.specs.declared.block_type.BlockType.TheVariants as types
use Rattle.pcap_file.specs.Placed.{is_packet}
use Rattle.pcapfile_cut.specs.declared.cutting.Outcome.{Outcome}
use Rattle.pcapfile_cut.specs.declared.wanted.Wanted.{Wanted}
use Rattle.pcapfile_cut.specs.declared.wanted.Wanted.TheVariants as wants
use Rattle.pcapfile_cut.specs.BlockCuts.{Between, CutsBlockPart, EndsBlocks, EndsFine, IsDone, Lent, Place, PutsBlocks, Skips, bytes_in, has_packet, typed}
use Rattle.pcapfile_cut.specs.BlockParts.{ArePartsOf, BeginsNext, CutsEach, HasPacketNext, HoldsBlocks}
use Rattle.pcapfile_cut.specs.Repeating.{is_about_packets, is_header, opening_after, opening_behind}
use Rattle.pcapfile_cut.proofs.BlockCuts.{between_more, between_none}
use Rattle.pcapfile_cut.proofs.Repeating.{behind_more}

-- A packet is not repeated.
packet_not_repeated : (type : BlockType) → is_packet type ≡ true → (is_header type ≡ false) × (is_about_packets type ≡ false)
packet_not_repeated types.SectionHeader is = absurd cc
packet_not_repeated types.InterfaceDescription is = absurd cc
packet_not_repeated types.Packet is = (refl, refl)
packet_not_repeated types.SimplePacket is = (refl, refl)
packet_not_repeated types.NameResolution is = absurd cc
packet_not_repeated types.InterfaceStatistics is = absurd cc
packet_not_repeated types.EnhancedPacket is = (refl, refl)
packet_not_repeated types.SystemdJournalExport is = absurd cc
packet_not_repeated (types.Unknown n) is = absurd cc

packet_keeps : (opening : List ℕ) (block : Lent) → has_packet block ≡ true → opening_after opening (typed block) ≡ opening
packet_keeps opening block is =
    let none = packet_not_repeated block.item.block.type_ is in
    rw (none.0, none.1) refl

-- A pending packet doesn't change the opening.
pending_keeps : (opening : List ℕ) (place : Place) → HasPacketNext place → opening_behind opening (map typed place.pending) ≡ opening
pending_keeps opening place next =
    elim next [
      | inl none ↦ ap (λ (l : List Lent). opening_behind opening (map typed l)) none
      | inr some ↦ ap (λ (l : List Lent). opening_behind opening (map typed l)) some.1 ∙ packet_keeps opening some.0 some.2
    ]

more_typed : (opening : List ℕ) (xs ys : List Lent) → opening_behind opening (map typed (xs ++ ys)) ≡ opening_behind (opening_behind opening (map typed xs)) (map typed ys)
more_typed opening xs ys = ap (opening_behind opening) (map-append typed xs ys) ∙ behind_more opening (map typed xs) (map typed ys)

-- The opening after a share of the blocks, whatever was read ahead.
pub opening_is : (a b : Place) (share : List Lent) → Between a b share → HasPacketNext a → HasPacketNext b → b.opening ≡ opening_behind a.opening (map typed share)
opening_is a b share between first last =
    let o = a.opening in
    between.reads.opening
    ∙ ap (λ (l : List ℕ). opening_behind l (map typed between.read)) (sym (pending_keeps o a first))
    ∙ sym (more_typed o a.pending between.read)
    ∙ ap (λ (l : List Lent). opening_behind o (map typed l)) between.all
    ∙ more_typed o share b.pending
    ∙ pending_keeps (opening_behind o (map typed share)) b last

no_error : (result : Result (Unit {0}) PcapError) → result_err result ≡ None → result ≡ Ok tt
no_error (Ok u) none = refl
no_error (Err e) none = absurd cc

not_failed : (result : Result (Unit {0}) PcapError) (e : PcapError) → result ≡ Ok tt → result ≡ Err e → ⊥
not_failed (Ok u) e fine failed = absurd cc
not_failed (Err x) e fine failed = absurd cc

skips_none : (wanted : Wanted) (a b : Place) (old new : Outcome) → BeginsNext wanted → Skips wanted a b old new (Ok tt) → (b ≡ a) × (new ≡ old)
skips_none wants.All a b old new begins skips = (skips.0, skips.1)
skips_none (wants.Numbers first last) a b old new begins skips = elim skips [ inl none ↦ (none.1.0, none.1.1) | inr some ↦ absurd (omega (arith, begins, some.0)) ]
skips_none (wants.Bytes most) a b old new begins skips = (skips.0, skips.1)
skips_none (wants.Selected selection) a b old new begins skips = (skips.0, skips.1)

done_between : (b now : Place) → IsDone b now → Between b now []
done_between b now done = record {
  read = [];
  reads = record { follow = done.none.state; took = Consumes-kept b.source.left b.source.left now.source.left [] (Consumes-nil b.source.left) done.none.taken; opening = done.opening; goes_on = done.done };
  all = append-nil b.pending ∙ done.nothing.0 ∙ sym done.nothing.1;
}

-- A part that ended without an error ended before a packet, or at the end of the capture.
ended : (wanted : Wanted) (a b now : Place) (out mid : Option (List ℕ)) (old new : Outcome) (share : List Lent) → HasPacketNext a → PutsBlocks wanted a b out mid old new share
    → EndsFine wanted true b now new (length share) → Between b now [] × HasPacketNext now
ended wanted a b now out mid old new share first puts ends =
    elim ends [
      | inl done ↦ (done_between b now done, inl done.nothing.1)
      | inr others ↦ elim others [
        | inl enough ↦ (enough.between, inr (enough.block, enough.pending, enough.packet))
        | inr rest ↦ elim rest [
          | inl alone ↦ absurd (true≢false alone.1)
          | inr full ↦ (
            subst (λ (p : Place). Between b p []) (sym full.0) (between_none b),
            subst HasPacketNext (sym full.0) (elim puts.pending [
              | inl none ↦ subst HasPacketNext (sym none.1) first
              | inr nothing ↦ inl nothing
            ]),
          )
        ]
      ]
    ]

-- A part is the opening at its beginning and its share of the blocks.
part_is : (wanted : Wanted) (a now : Place) (part : List ℕ) (outcome : Outcome) → BeginsNext wanted → HasPacketNext a → CutsBlockPart wanted true a now (Some []) (Some part) outcome → outcome.fault ≡ None
    → (share : List Lent) × (part ≡ a.opening ++ bytes_in share) × Between a now share × HasPacketNext now
part_is wanted a now part outcome begins first cut fine =
    let is_ok : cut.result ≡ Ok tt = no_error cut.result (ap (λ (o : Outcome). o.fault) (sym cut.told) ∙ fine) in
    elim cut.cuts [
      | inl failed ↦ absurd (not_failed cut.result failed.0 is_ok failed.1)
      | inr behind ↦
          let same = skips_none wanted a behind.0 cut.old behind.1 begins behind.2 in
          elim behind.3 [
            | inr torn ↦ absurd (not_failed cut.result torn.0 is_ok torn.1)
            | inl opens ↦
                let cuts = opens.cuts in
                let share = cuts.blocks in
                let puts : PutsBlocks wanted a cuts.b opens.behind cuts.mid behind.1 cut.new share = subst (λ (p : Place). PutsBlocks wanted p cuts.b opens.behind cuts.mid behind.1 cut.new share) same.0 cuts.puts in
                let ends : EndsBlocks wanted true cuts.b now cuts.mid (Some part) cut.new (length share) (Ok tt) =
                subst (λ (r : Result (Unit {0}) PcapError). EndsBlocks wanted true cuts.b now cuts.mid (Some part) cut.new (length share) r) is_ok cuts.ends in
                let last = ended wanted a cuts.b now opens.behind cuts.mid behind.1 cut.new share first puts ends.0 in
                let opened : Appends (Some []) opens.behind a.opening = subst (λ (p : Place). Appends (Some []) opens.behind p.opening) same.0 opens.opened in
                let went : Appends (Some []) cuts.mid (a.opening ++ bytes_in share) = Appends-trans (Some []) opens.behind cuts.mid a.opening (bytes_in share) opened puts.went in (
                  share,
                  Appends-kept (Some []) cuts.mid (Some part) (a.opening ++ bytes_in share) went ends.1,
                  subst (λ (l : List Lent). Between a now l) (append-nil share) (between_more a cuts.b now share [] puts.between last.0),
                  last.1,
                )
          ]
    ]

-- The parts have all blocks between two positions, each in one of them.
pub holds_blocks : (wants : List Wanted) (parts : List (List ℕ)) (a now : Place) → HasPacketNext a → CutsEach wants parts a now → HoldsBlocks parts a now
holds_blocks [] [] a now first cuts = record { shares = []; each = tt; all = subst (λ (p : Place). Between a p []) (sym cuts) (between_none a) }
holds_blocks [] (part ∷ parts) a now first cuts = absurd cuts
holds_blocks (wanted ∷ wants) [] a now first cuts = absurd cuts
holds_blocks (wanted ∷ wants) (part ∷ parts) a now first cuts =
    let b = cuts.0 in
    let one = part_is wanted a b part cuts.1 cuts.2 first cuts.3 cuts.4 in
    let rest = holds_blocks wants parts b now one.3 cuts.5 in
    let opening = opening_is a b one.0 one.2 first one.3 in
    record {
      shares = one.0 ∷ rest.shares;
      each = (one.1, subst (λ (o : List ℕ). ArePartsOf o rest.shares parts) opening rest.each);
      all = between_more a b now one.0 (flat_map (λ (share : List Lent). share) rest.shares) one.2 rest.all;
    }
