-- This file proves that a walk whose sink writes a line for each item lists the items.
use Rattle.std.proofs.Common.{◌≡◌, ◌<◌, ◌≤◌, ◌+◌, ℕ, suc, List, [], ◌∷◌, ◌++◌, length, Bool, true, true≢false, Option, Result, Ok, Err, inl, inr, refl, sym, ◌∙◌, subst, arith, IfSome}
use Rattle.std.specs.Prelude.{⊤}
use Rattle.std.specs.Io.KnownBytes.{Appends, Keeps}
use Rattle.std.proofs.KnownBytes.{Appends-kept, Appends-nil, Appends-trans, Keeps-refl}
use Rattle.pcap_core.specs.declared.errors.PcapError.TheVariants as errors
use Rattle.pcap_core.specs.Answer.{Verdict, number_in, whole}
use Rattle.pcap_items.specs.Format.{Format}
use Rattle.pcap_items.specs.Reading.{Takes}
use Rattle.pcap_classic.specs.declared.pcap.header.PcapHeader.{PcapHeader}
use Rattle.pcap_classic.specs.declared.pcap.packet.PacketHeader.{PacketHeader}
use Rattle.pcap_classic.specs.HeaderText.{HeaderSays}
use Rattle.pcap_classic.specs.Magic.{order_of, resolution_of}
use Rattle.pcap_classic.specs.Packets.{packet_format, reader_format}
use Rattle.pcap_classic.specs.PacketText.{packet_limit, Captured, PacketText}
use Rattle.pcap_classic.proofs.Captures.{under_valid}
use Rattle.pcap_classic.proofs.Packets.{reader_whole}
use Rattle.pcap_classic.proofs.Texts.{packet_length}
use Rattle.pcap_walk.specs.declared.walking.Ended.{Ended}
use Rattle.pcap_walk.specs.declared.walking.Ended.TheVariants.{AtEnd, AtMost, Refused, Stopped}
use Rattle.pcap_walk.specs.MetPackets.{met_packet}
use Rattle.pcap_walk.specs.Walks.{Does, does_of, EndsWalk, Folds, Walks}
use Rattle.pcap_program.specs.declared.exit.Exit.{Exit}
use Rattle.pcap_program.specs.declared.exit.Exit.TheVariants as exits
use Rattle.pcap_program.specs.Lines.{WritesLine}
use Rattle.capcopy_run.specs.Lines.{AreLines}
use Rattle.pcap_program.specs.Exits.{exit_of}
use Rattle.capcopy_run.specs.Listing.{InputEnd, LinesEnd, Listing, ListsItems, ListsUntil, streams}
use Rattle.capcopy_run.proofs.Listing.{any_torn, asked_refused, ends_refused, ends_torn}
use Rattle.capcopy_run.proofs.PacketLists.{packets_known}
use Rattle.pcapfile_lines.specs.declared.form.Form.{Form}
use Rattle.pcapfile_list.specs.FormedLines.{IsPacketIn, packets_as}
use Rattle.pcapfile_list.specs.WalkedLists.{IsFailedWrite, IsResultOf}

-- A packet record has a header.
pub record_long : (header : PcapHeader) (text : List ℕ) (packet : Captured) → (reader_format packet_limit header).says tt text (whole packet []) → 16 ≤ length text
unfolding packet_format
record_long header text packet said =
    let order = number_in (order_of header.magic_number) in
    let r = resolution_of header.magic_number in
    let record_text : PacketText packet_limit order r packet text [] = (reader_whole packet_limit header text [] packet said).1 in
    omega (arith, packet_length order packet_limit r packet text [] record_text, record_text.whole)

-- A failed write before an item ends the lines.
unready_ends : {V : Type 0} (IsLine : ℕ → V → List ℕ → Type 0) (IsSaid : List ℕ → Verdict V → Type 0) (left now mid out_now : Option (List ℕ)) (n most : ℕ) (exit : Exit) → IsFailedWrite exit → n < most → Keeps mid out_now
    → LinesEnd IsLine IsSaid left mid out_now n most (Err exit) × InputEnd IsSaid left now (Err exit)
unready_ends IsLine IsSaid left now mid out_now n most (exits.Io (errors.IoError e)) failed fewer still = ((fewer, inl still), tt)
unready_ends IsLine IsSaid left now mid out_now n most _ failed fewer still = absurd failed

-- Output that was kept, and then grew.
grown : (a b c : Option (List ℕ)) (line : List ℕ) → Keeps a b → Appends b c line → Appends a c line
grown a b c line kept grew = Appends-trans a b c [] line (Appends-kept a a b [] (Appends-nil a) kept) grew

module _ {S V K : Type 0} (IsLine : ℕ → V → List ℕ → Type 0) (f : Format S V) (does : Does V K Exit) (wants : ℕ → K → Bool) (always : (n : ℕ) (k : K) → wants n k ≡ true) (start : K)
    (writes : (n : ℕ) (v : V) (text : List ℕ) (old : K) (out : Option (List ℕ)) (new : K) (out_now : Option (List ℕ)) (r : Result (Unit {0}) Exit) → old ≡ start → does n v text old out new out_now r
    → (new ≡ start) × WritesLine (IsLine n v) out out_now r) where
  -- The lines of items that follow n others were written, and the sink kept its value.
  record Lines (n : ℕ) (items : List V) (new : K) (out out_now : Option (List ℕ)) : Type 0 where
    same : new ≡ start
    lines : List ℕ
    are : AreLines IsLine (suc n) items lines
    went : Appends out out_now lines

  lines_of : (n : ℕ) (items : List V) (bytes : List ℕ) (old new : K) (out out_now : Option (List ℕ)) → old ≡ start → Folds does n items bytes old out new out_now → Lines n items new out out_now
  lines_of n [] bytes old new out out_now same folds = record { same = folds.1 ∙ same; lines = []; are = refl; went = Appends-kept out out out_now [] (Appends-nil out) folds.2 }
  lines_of n (v ∷ vs) bytes old new out out_now same folds =
      let kept : K = folds.2 in
      let one = writes (n + 1) v folds.0 old folds.3 kept folds.4 (Ok tt) same folds.7 in
      let line : List ℕ = one.1.0 in
      let more = lines_of (n + 1) vs folds.1 kept new folds.4 out_now one.0 folds.8 in
      let next : n + 1 ≡ suc n = omega arith in
      record {
        same = more.same;
        lines = line ++ more.lines;
        are = (line, more.lines, subst (λ (k : ℕ). IsLine k v line) next one.1.1, subst (λ (k : ℕ). AreLines IsLine (suc k) vs more.lines) next more.are, refl);
        went = Appends-trans out folds.4 out_now line more.lines (grown out folds.3 folds.4 line folds.6 one.1.2) more.went;
      }

  module _ (q : S) (before : Option (List ℕ)) (m : ℕ) (old : K) (same : old ≡ start) (out : Option (List ℕ)) where
    -- A walk over items is a list of them, also after buffered output was written.
    listing : (here : S) (left : Option (List ℕ)) (kept : K) (mid out_now : Option (List ℕ)) → Walks f does q here before left 0 m old kept out mid → Keeps mid out_now → Listing IsLine f q here before left out out_now m
    listing here left kept mid out_now walks still =
        let lines = lines_of 0 walks.items walks.took.bytes old kept out mid same walks.kept in
        record {
          items = walks.items;
          count = omega (arith, walks.count);
          leads = walks.leads;
          took = walks.took;
          lines = lines.lines;
          are_lines = lines.are;
          out = Appends-kept out mid out_now lines.lines lines.went still;
        }

    -- A list ends as its walk does.
    pub walk_lists : (now : Option (List ℕ)) (failed : Bool) (most : ℕ) (new : K) (out_now : Option (List ℕ)) (ended : Ended Exit) (result : Result (Unit {0}) Exit)
        → EndsWalk f does IsFailedWrite wants q before now failed most 0 m old new out out_now ended → IsResultOf ended result → ListsItems IsLine f q (streams before out) (streams now out_now) most result
    walk_lists now failed most new out_now AtEnd result walk is =
        let ends = walk.ends in
        let so_far = listing walk.here walk.left walk.kept walk.mid out_now walk.so_far ends.5 in
        rw is (record { n = m; here = walk.here; left = walk.left; mid = out_now; so_far = so_far; ends = (ends.0, ends.2, Keeps-refl out_now); input = ends.3 })
    walk_lists now failed most new out_now AtMost result walk is =
        let ends = walk.ends in
        let full : m ≡ most = elim ends.0 [ inl all ↦ all | inr unwanted ↦ absurd (true≢false (sym (always (m + 1) walk.kept) ∙ unwanted)) ] in
        let so_far = listing walk.here walk.left walk.kept walk.mid out_now walk.so_far ends.4 in
        rw is (record { n = m; here = walk.here; left = walk.left; mid = out_now; so_far = so_far; ends = (full, Keeps-refl out_now); input = ends.2 })
    walk_lists now failed most new out_now (Refused e) result walk is =
        let ends = walk.ends in
        let said = f.says walk.here in
        let so_far = listing walk.here walk.left walk.kept walk.mid out_now walk.so_far ends.4 in
        rw is.1 (record {
          n = m;
          here = walk.here;
          left = walk.left;
          mid = out_now;
          so_far = so_far;
          ends = ends_refused IsLine said walk.left out_now m most ends.0 failed e is.0 ends.1 is.2;
          input = asked_refused IsLine said walk.left out_now m most ends.0 now e is.0 ends.2 is.2;
        })
    walk_lists now failed most new out_now (Stopped exit) result walk is =
        let ends = walk.ends in
        let said = f.says walk.here in
        let kept : walk.kept ≡ start = (lines_of 0 walk.so_far.items walk.so_far.took.bytes old walk.kept out walk.mid same walk.so_far.kept).same in
        let so_far = listing walk.here walk.left walk.kept walk.mid walk.mid walk.so_far (Keeps-refl walk.mid) in
        elim ends.2 [
          | inl at ↦
              let part = (writes (m + 1) at.item at.text walk.kept walk.mid new out_now (Err exit) kept at.stops).1 in
              rw is (record {
                n = m;
                here = walk.here;
                left = walk.left;
                mid = walk.mid;
                so_far = so_far;
                ends = ends_torn IsLine said walk.left walk.mid m most ends.0 now out_now at.item exit (at.text, at.is_text, at.took) part;
                input = any_torn IsLine said walk.left walk.mid m most ends.0 now out_now at.item exit part;
              })
          | inr unready ↦
              let both = unready_ends IsLine said walk.left now walk.mid out_now m most exit unready.0 ends.0 unready.3 in
              rw is (record { n = m; here = walk.here; left = walk.left; mid = walk.mid; so_far = so_far; ends = both.0; input = both.1 })
        ]

-- A writer of packets in a form, whose value has the form.
module _ (F K : Type 0) (form_of : K → Form) where
  -- What the writer does at each packet.
  abbrev pub formed : Does Captured K Exit
  formed =
      does_of {F = F} {H = PacketHeader} {V = Captured} {K = K} {E = Exit} (λ walker head text. met_packet head text) (λ index packets. true)
      (λ index walker head text old out new out_now result. (new ≡ old) × WritesLine (IsPacketIn (form_of old) index (met_packet head text)) out out_now result)

  formed_writes : (start : K) (n : ℕ) (packet : Captured) (text : List ℕ) (old : K) (out : Option (List ℕ)) (new : K) (out_now : Option (List ℕ)) (r : Result (Unit {0}) Exit) → old ≡ start → formed n packet text old out new out_now r
      → (new ≡ start) × WritesLine (IsPacketIn (form_of start) n packet) out out_now r
  formed_writes start n packet text old out new out_now r same given =
      let line = subst (λ (p : Captured). WritesLine (IsPacketIn (form_of old) n p) out out_now r) given.2 given.4.1 in
      (given.4.0 ∙ same, subst (λ (k : K). WritesLine (IsPacketIn (form_of k) n packet) out out_now r) same line)

  -- A capture whose header was read, and whose packets were then listed by a walk.
  pub packets_walked : (header under : PcapHeader) → under ≡ header → (known before now : Option (List ℕ)) (failed : Bool) (most m : ℕ) (old new : K) (out out_now : Option (List ℕ)) (ended : Ended Exit) (result : Result (Unit {0}) Exit)
      → (took : Takes HeaderSays known before header) → EndsWalk (reader_format packet_limit under) formed IsFailedWrite (λ index packets. true) tt before now failed most 0 m old new out out_now ended → IsResultOf ended result
      → IfSome known (λ s. ListsUntil (packets_as (form_of old)) most s now out out_now (exit_of result))
  packets_walked header under same known before now failed most m old new out out_now ended result took walk is =
      let walks : Format (Unit {0}) Captured → Type 0 = λ f. EndsWalk f formed IsFailedWrite (λ index packets. true) tt before now failed most 0 m old new out out_now ended in
      let there = under_valid packet_limit header took.1.valid walks (subst (λ (h : PcapHeader). walks (reader_format packet_limit h)) same walk) in
      let lists = walk_lists (IsPacketIn (form_of old)) _ formed (λ index packets. true) (λ n k. refl) old (formed_writes old) tt before m old refl out now failed most new out_now ended result there is in
      packets_known ⊤ (IsPacketIn (form_of old)) header (order_of header.magic_number) (resolution_of header.magic_number) known before now out refl refl took most out_now result lists
