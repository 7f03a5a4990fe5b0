-- Lemmas on the information on whole captures.
use Rattle.std.proofs.Common.{◌≡◌, ◌<◌, ◌≤◌, ◌+◌, ◌^◌, ℕ, List, [], ◌++◌, length, Bool, true, Option, Some, None, Err, ◌⊎◌, inl, inr, refl, sym, ap, ◌∙◌, subst, arith, length-append, append_assoc}
use Rattle.std.specs.Prelude.{⊤, IfSome, String}
use Rattle.std.specs.Global.{Global}
use Rattle.pcap_core.specs.declared.errors.PcapError.{PcapError}
use Rattle.pcap_core.specs.Answer.{number_in, whole}
use Rattle.pcap_items.specs.Format.{Format, Texts, IsLawful, state_after}
use Rattle.pcap_items.specs.Reading.{Takes, ReadsTold}
use Rattle.pcap_items.specs.Takes.{TakesTexts, TakesItems, Stops}
use Rattle.pcap_items.proofs.Formats.{texts_more}
use Rattle.pcap_items.proofs.Taking.{run_reads}
use Rattle.pcap_classic.specs.declared.pcap.header.PcapHeader.{PcapHeader}
use Rattle.pcap_classic.specs.HeaderText.{HeaderText, HeaderSays}
use Rattle.pcap_classic.specs.Magic.{order_of, resolution_of}
use Rattle.pcap_classic.specs.Packets.{format_under}
use Rattle.pcap_classic.specs.PacketText.{packet_limit}
use Rattle.pcap_classic.proofs.HeadedPackets.{packets_lawful}
use Rattle.pcap_classic.proofs.Stable.{header_stable}
use Rattle.pcap_classic.proofs.Texts.{header_length}
use Rattle.pcap_ng.specs.Blocks.{Item, block_format}
use Rattle.pcap_items.specs.Lent.{TakesText}
use Rattle.pcap_ng.specs.Opening.{OpeningSays, RefusesOpening}
use Rattle.pcap_ng.specs.State.{State}
use Rattle.pcap_ng.proofs.BlockFormat.{blocks_lawful}
use Rattle.pcap_ng.proofs.ReadBlocks.{opened_more}
use Rattle.pcapfile_run.specs.declared.checked.Checked.{Checked}
use Rattle.pcapfile_run.specs.declared.checked.End.{End}
use Rattle.pcapfile_run.specs.declared.format.Format.{Format as CaptureFormat}
use Rattle.pcapfile_run.specs.declared.format.Format.TheVariants.{Pcap, PcapNg}
use Rattle.pcapfile_run.specs.Checks.{FaultIs, EndIs, most_passed}
use Rattle.pcapfile_run.specs.Passing.{counted}
use Rattle.pcapfile_run.proofs.Ends.{fails_at, stops_at}
use Rattle.pcapfile_run.proofs.Passing.{counted_behind}
use Rattle.pcapfile_info.specs.declared.described.Described.{Described}
use Rattle.pcapfile_info.specs.declared.described.Machine.{Machine}
use Rattle.pcapfile_info.specs.declared.described.Opened.{Opened}
use Rattle.pcapfile_info.specs.declared.progress.Progress.{Progress}
use Rattle.pcapfile_info.specs.declared.seen.Sight.{Sight}
use Rattle.pcapfile_info.specs.declared.totals.Totals.{Totals}
use Rattle.pcapfile_info.specs.Describing.{DescribesBlocks, DescribesFront, SaysMachine, machine_at, machine_told, no_machine, opened_at, section_comments}
use Rattle.pcapfile_info.specs.Information.{InformsItems, InformsPackets, InformsBlocks, OpensWithTexts, TellsMachine}
use Rattle.pcapfile_info.specs.KeptBlocks.{EndsBlocks}
use Rattle.pcapfile_info.specs.Sights.{IsPacketSight, IsBlockSight}
use Rattle.pcapfile_info.specs.Telling.{AreSights, KeepsTotals, TellsItems}
use Rattle.pcapfile_info.specs.Totals.{TotalsAre}
use Rattle.pcapfile_info.proofs.Describing.{described_to_end}
use Rattle.pcapfile_info.proofs.Telling.{tells_as}

-- The result of a check with these counts and this end.
abbrev pub checked_of : CaptureFormat → ℕ → ℕ → End → Checked
checked_of format items bytes end = record { format = format; items = items; bytes = bytes; end = end }

-- The information on items that follow the opening.
module _ {S V : Type 0} (f : Format S V) (laws : IsLawful f) (q : S) (IsSight : ℕ → V → Sight → Type 0) (first : ℕ) (s opening after : List ℕ) (joined : s ≡ opening ++ after) (now : Option (List ℕ)) (failed : Bool) (old new : Progress) (fault : Option PcapError) (checked : Checked) (n : ℕ) where
  informed_left : (vs : List V) (left : Option (List ℕ)) (took : TakesTexts f q vs (Some after) left) → length vs ≤ most_passed → Stops (f.says (state_after f q vs)) left now failed (length vs) most_passed fault
      → (sights : List Sight) → AreSights IsSight first vs sights → TotalsAre first sights new.totals
      → old.bytes ≡ counted (length opening) → checked.items ≡ n + length vs → checked.bytes ≡ counted (old.bytes + length took.bytes) → EndIs fault failed checked.items (n + most_passed) checked.end
      → (informs : InformsItems f q IsSight first s after n checked new.totals) × (informs.checks.items ≡ vs)
  informed_left vs None took within stops sights are totals before items bytes end = absurd took.took
  informed_left vs (Some left) took within stops sights are totals before items bytes end =
      let run : TakesItems f q (Some after) now failed most_passed vs fault = record { left = Some left; took = took; within = within; stops = stops } in
      let reads = run_reads f laws q after now failed most_passed vs fault run in
      let all : Texts f q vs (took.bytes ++ left) left = texts_more f laws q vs took.bytes [] left took.texts in
      let informs : InformsItems f q IsSight first s after n checked new.totals = record {
        checks = record {
          items = vs;
          more = reads.more;
          front_bytes = opening ++ took.bytes;
          left = left;
          rest = reads.rest;
          front = reads.front;
          texts = subst (λ (l : List ℕ). Texts f q vs l left) (sym took.took) all;
          place = joined ∙ ap (λ (l : List ℕ). opening ++ l) took.took ∙ sym (append_assoc opening took.bytes left);
          bytes = counted_behind old.bytes checked.bytes (length opening) (length took.bytes) before bytes ∙ ap counted (sym (length-append opening took.bytes));
          count = items;
          stops = stops_at (f.says (state_after f q vs)) reads.rest reads.more checked.items (length vs) n most_passed items within fault failed checked.end reads.ends end;
        };
        sights = sights;
        are_sights = are;
        totals_are = totals;
      } in
      (informs, refl)

  pub items_informed : (tells : TellsItems f q IsSight first (KeepsTotals (TotalsAre first)) (Some after) now failed most_passed old new fault) → old.items ≡ 0 → old.bytes ≡ counted (length opening) → checked.items ≡ n + new.items
      → checked.bytes ≡ new.bytes → EndIs fault failed checked.items (n + most_passed) checked.end → (informs : InformsItems f q IsSight first s after n checked new.totals) × (informs.checks.items ≡ tells.items)
  items_informed tells none before items bytes end =
      informed_left tells.items tells.run.left tells.run.took tells.run.within tells.run.stops tells.sights tells.are_sights tells.kept before (omega (arith, items, tells.number, none)) (bytes ∙ tells.bytes) end

-- The header is malformed or can't be read.
pub packets_refused : (known now : Option (List ℕ)) (failed : Bool) (e : PcapError) (end : End) (totals : Totals) → TotalsAre 1 [] totals → ReadsTold HeaderSays (λ (header : PcapHeader). header) known now failed (Err e) → FaultIs e failed end
    → IfSome known (λ s. InformsPackets s (checked_of Pcap 0 0 end) None totals)
packets_refused None now failed e end totals nothing reads is = tt
packets_refused (Some s) now failed e end totals nothing reads is = (
  refl,
  inl (
    record {
      items = refl;
      bytes = refl;
      fails = fails_at ⊥ HeaderSays s e failed end (elim reads.1 [ inl io ↦ inl io | inr (inl short) ↦ inr (inl short) | inr (inr stands) ↦ inr (inr (inr stands.0)) ]) is;
    },
    refl,
    nothing,
  ),
)

-- The header is read, and then packets under it.
pub packets_informed : (header : PcapHeader) (known after now : Option (List ℕ)) (failed : Bool) (old new : Progress) (fault : Option PcapError) (end : End) → old.items ≡ 0 → old.bytes ≡ 24
    → Takes HeaderSays known after header → TellsItems (format_under packet_limit header) tt IsPacketSight 1 (KeepsTotals (TotalsAre 1)) after now failed most_passed old new fault → EndIs fault failed new.items most_passed end
    → IfSome known (λ s. InformsPackets s (checked_of Pcap new.items new.bytes end) (Some header) new.totals)
packets_informed header None after now failed old new fault end items bytes took tells is = tt
packets_informed header (Some s) None now failed old new fault end items bytes took tells is = absurd took.2
packets_informed header (Some s) (Some after) now failed old new fault end items bytes took tells is =
    let text : HeaderText header s after = subst (λ (l : List ℕ). HeaderText header l after) (sym took.2) (header_stable.text took.0 after [] header took.1) in
    let long : old.bytes ≡ counted (length took.0) = omega (arith, bytes, header_length header took.0 [] took.1) in
    let checked : Checked = record { format = Pcap; items = new.items; bytes = new.bytes; end = end } in
    let informs = items_informed (format_under packet_limit header) (packets_lawful packet_limit (number_in (order_of header.magic_number)) (resolution_of header.magic_number)) tt IsPacketSight 1 s took.0 after took.2 now failed old new fault checked 0 tells items long (omega arith) refl is in
    (refl, inr (header, after, text, refl, informs.0))

-- The first block is malformed or can't be read.
pub blocks_refused : (described : List Described) (comments : List (String Global)) → described ≡ [] → comments ≡ [] → (known : Option (List ℕ)) (e : PcapError) (end : End) (totals : Totals) → TotalsAre 0 [] totals
    → RefusesOpening known e → FaultIs e true end → IfSome known (λ s. InformsBlocks s (checked_of PcapNg 0 0 end) None totals None described comments)
blocks_refused described comments no_described no_comments None e end totals nothing why is = tt
blocks_refused described comments no_described no_comments (Some s) e end totals nothing why is = (
  refl,
  refl,
  inl (
    record {
      items = refl;
      bytes = refl;
      fails = fails_at ⊤ OpeningSays s e true end (elim why [ inl io ↦ inl (io, refl) | inr (inl memory) ↦ inr (inr (inl (tt, memory))) | inr (inr stands) ↦ inr (inr (inr stands)) ]) is;
    },
    nothing,
    refl,
    no_described,
    no_comments,
  ),
)

-- The first block is read, and then the blocks after it.
pub blocks_informed : (told : Option Opened) (known after now : Option (List ℕ)) (text : List ℕ) (first : State) (n : ℕ) → n ≡ length text → n < 2 ^ 64 → (failed : Bool) (old new : Progress) (fault : Option PcapError) (end : End) → old.items ≡ 0 → old.bytes ≡ n
    → TakesText OpeningSays known after text first → TellsItems block_format first IsBlockSight 0 (EndsBlocks fault) after now failed most_passed old new fault → EndIs fault failed (new.items + 1) 18446744073709551615 end → told ≡ opened_at first
    → IfSome known (λ s. InformsBlocks s (checked_of PcapNg (new.items + 1) new.bytes end) None new.totals told new.described.items new.comments.items)
blocks_informed told None after now text first n long room failed old new fault end items bytes took tells is opens_as = tt
blocks_informed told (Some s) None now text first n long room failed old new fault end items bytes took tells is opens_as = absurd took.1
blocks_informed told (Some s) (Some after) now text first n long room failed old new fault end items bytes took tells is opens_as =
    let opens = subst (λ (l : List ℕ). OpeningSays l (whole first after)) (sym took.1) (opened_more text after first took.0) in
    let start : old.bytes ≡ counted (length text) = omega (arith, bytes, long, room) in
    let checked : Checked = record { format = PcapNg; items = new.items + 1; bytes = new.bytes; end = end } in
    let counts = tells_as block_format first IsBlockSight 0 (EndsBlocks fault) (KeepsTotals (TotalsAre 0)) (Some after) now failed most_passed old new fault tells (λ kept. kept.totals) in
    let informs = items_informed block_format blocks_lawful first IsBlockSight 0 s text after took.1 now failed old new fault checked 1 counts items start (omega arith) refl is in
    let same : DescribesBlocks first tells.items new.described.items new.comments.items → DescribesBlocks first informs.0.checks.items new.described.items new.comments.items =
    λ d. subst (λ (items : List Item). DescribesBlocks first items new.described.items new.comments.items) (sym informs.1) d in
    let begun : DescribesFront first tells.items new.described.items new.comments.items → DescribesFront first informs.0.checks.items new.described.items new.comments.items =
    λ d. subst (λ (items : List Item). DescribesFront first items new.described.items new.comments.items) (sym informs.1) d in
    let ended = described_to_end fault failed (new.items + 1) 18446744073709551615 end (DescribesFront first tells.items new.described.items new.comments.items)
    (DescribesBlocks first tells.items new.described.items new.comments.items) tells.kept.described is in
    (refl, refl, inr (first, after, opens, opens_as, informs.0, elim ended [ inl memory ↦ inl (memory.0, begun memory.1) | inr d ↦ inr (same d) ]))

-- The first block is read, and has texts.
pub opens_with_texts : (known after : Option (List ℕ)) (text : List ℕ) (first : State) → TakesText OpeningSays known after text first
    → (0 < length (section_comments first)) ⊎ SaysMachine first → IfSome known OpensWithTexts
opens_with_texts None after text first took some = tt
opens_with_texts (Some s) None text first took some = absurd took.1
opens_with_texts (Some s) (Some after) text first took some =
    (first, after, subst (λ (l : List ℕ). OpeningSays l (whole first after)) (sym took.1) (opened_more text after first took.0), some)

-- The first block is read, and says this of how it was made.
pub machine_opened : (told : Option Opened) (machine : Machine) (known after : Option (List ℕ)) (text : List ℕ) (first : State) → TakesText OpeningSays known after text first
    → machine_told machine ≡ machine_at first → IfSome known (λ s. TellsMachine s told machine)
machine_opened told machine None after text first took is = tt
machine_opened told machine (Some s) None text first took is = absurd took.1
machine_opened told machine (Some s) (Some after) text first took is =
    inr (first, after, subst (λ (l : List ℕ). OpeningSays l (whole first after)) (sym took.1) (opened_more text after first took.0), is)

-- The first block is refused, and nothing is told.
pub machine_unknown : (machine : Machine) (known : Option (List ℕ)) → machine_told machine ≡ no_machine → IfSome known (λ s. TellsMachine s None machine)
machine_unknown machine None is = tt
machine_unknown machine (Some s) is = inl (refl, is)
