-- The runs over the parts of a classic capture join to the run over the whole.
use Rattle.std.proofs.Common.{◌≡◌, ℕ, List, [], ◌∷◌, ◌++◌, length, map, refl, sym, ap, subst, ◌∙◌}
use Rattle.std.specs.List.{AllByRecursion, AllZip}
use Rattle.pcap_items.specs.declared.rest.Rest.{Rest}
use Rattle.pcap_items.specs.Run.{IsRest}
use Rattle.pcap_classic.specs.declared.pcap.header.PcapHeader.{PcapHeader}
use Rattle.pcap_classic.specs.declared.run.PcapRun.{PcapRun}
use Rattle.pcap_classic.specs.PacketText.{Captured, packet_limit}
use Rattle.pcap_classic.specs.Packets.{format_under}
use Rattle.pcap_classic.specs.Run.{IsRun}
use Rattle.pcap_classic.proofs.CaptureFormat.{under_lawful}
use Rattle.pcap_parts.specs.declared.cut.Cut.{Cut}
use Rattle.pcap_parts.specs.Captures.{IsCut}
use Rattle.pcap_parts.specs.PartRuns.{IsPartRun, PartRunsJoin, TakeParts, packets_of}
use Rattle.pcap_parts.specs.Parts.{Bound, joined, part_bytes}
use Rattle.pcap_parts.proofs.Captures.{cut_run}
use Rattle.pcap_parts.proofs.Joining.{AreRuns, EndsAs, last_is, runs_join}
use Rattle.pcap_items.proofs.Formats.{cons_same}

HasPackets : Unit {0} → PcapRun → List Captured → Type 0
HasPackets q run packets = packets ≡ packets_of run

abbrev used : PcapRun → ℕ
used run = run.used

abbrev said : PcapRun → Rest
said run = run.rest

packets_are : (found : List (List Captured)) (runs : List PcapRun) → AllZip (λ packets run. (p : Unit {0}) × HasPackets p run packets) found runs → found ≡ map packets_of runs
unfolding HasPackets
packets_are [] [] have = refl
packets_are (ps ∷ pss) (r ∷ rs) have = cons_same ps (packets_of r) pss (map packets_of rs) have.0.1 (packets_are pss rs have.1)
packets_are _ _ have = absurd have

module _ (header : PcapHeader) (h s : List ℕ) where
  are_runs : (cuts : List Cut) (bounds : AllByRecursion (Bound (format_under packet_limit header) tt s (length (h ++ s))) cuts) (bytes : List ℕ) (runs : List PcapRun) → AllZip (IsPartRun header) (part_bytes bytes cuts) runs
      → AreRuns (format_under packet_limit header) (under_lawful packet_limit header) used said HasPackets tt h s cuts bounds (part_bytes bytes cuts) runs
  unfolding HasPackets
  are_runs [] bounds bytes [] all = tt
  are_runs (c ∷ []) bounds bytes (r ∷ []) all = (record { items = packets_of r; over = all.0.runs; has = refl }, tt)
  are_runs (c ∷ []) bounds bytes (r ∷ k ∷ rs) all = absurd all.1
  are_runs (c ∷ d ∷ cs) bounds bytes (r ∷ rs) all = (record { items = packets_of r; over = all.0.runs; has = refl }, are_runs (d ∷ cs) bounds.1 bytes rs all.1)
  are_runs _ bounds bytes _ all = absurd all

pub part_runs : (run : PcapRun) (header : PcapHeader) (cuts : List Cut) (bytes : List ℕ) (runs : List PcapRun) → IsRun run bytes → IsCut header cuts bytes
    → AllZip (IsPartRun header) (part_bytes bytes cuts) runs → PartRunsJoin run (part_bytes bytes cuts) runs
part_runs run header cuts bytes runs x y all =
    let r = cut_run run header cuts bytes x y in
    let f = format_under packet_limit header in
    let laws = under_lawful packet_limit header in
    let whole_bytes = r.opening ++ r.after in
    let here : AllZip (IsPartRun header) (part_bytes whole_bytes cuts) runs = subst (λ (t : List ℕ). AllZip (IsPartRun header) (part_bytes t cuts) runs) r.split all in
    let are = are_runs header r.opening r.after cuts r.cuts_are.bounds whole_bytes runs here in
    let join = runs_join f laws used said HasPackets tt r.opening r.after cuts r.cuts_are (packets_of run) r.left r.front r.cuts_are.bounds runs are in
    let Last : PcapRun → Type 0 = λ last. IsRest ((format_under packet_limit run.header).says tt) r.left last.rest in
    let ends : TakeParts used said Last (part_bytes whole_bytes cuts) runs =
    last_is used said (EndsAs f laws used said HasPackets tt r.left) Last (part_bytes whole_bytes cuts) runs join.ends
    (λ last e. subst (λ (k : PcapHeader). IsRest ((format_under packet_limit k).says tt) r.left last.rest) (sym r.same) e.said) in
    record {
      packets = join.all_are ∙ ap (λ (l : List (List Captured)). joined l) (packets_are join.found runs join.have);
      left = r.left;
      rest = subst (λ (k : PcapHeader). IsRest ((format_under packet_limit k).says tt) r.left run.rest) (sym r.same) r.rest;
      ends = subst (λ (t : List ℕ). TakeParts used said Last (part_bytes t cuts) runs) (sym r.split) ends;
    }
