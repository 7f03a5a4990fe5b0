-- One more packet of a PcapNg capture.
use Rattle.std.proofs.Common.{◌≡◌, ◌≤◌, ℕ, arith, List, [], ◌∷◌, ◌++◌, length, length-append, append-nil, Option, None, Some, refl, sym, ap, ◌∙◌, subst, inl, inr}
use Rattle.std.specs.Prelude.{filter_map}
use Rattle.std.specs.List.{AllByRecursion}
use Rattle.std.proofs.lemmas.List.Elements.{filter_map-append}
use Rattle.pcap_core.specs.declared.errors.PcapError.{PcapError}
use Rattle.pcap_core.specs.Errors.{IsMemory}
use Rattle.pcap_items.specs.Format.{state_after}
use Rattle.pcap_items.specs.Reading.{Takes}
use Rattle.pcap_items.specs.Takes.{TakesTexts}
use Rattle.pcap_items.proofs.Copying.{state_all}
use Rattle.pcap_items.proofs.Formats.{state_push}
use Rattle.pcap_items.proofs.Taking.{takes_all, takes_more}
use Rattle.pcap_blocks.specs.declared.block_type.BlockType.{BlockType}
use Rattle.pcap_blocks.specs.declared.block_type.BlockType.TheVariants as types
use Rattle.pcap_ng.specs.Blocks.{Item, block_format}
use Rattle.pcap_ng.specs.Frames.{Framed}
use Rattle.pcap_ng.specs.State.{State, interfaces_at}
use Rattle.pcap_blocks.specs.InterfaceDescription.{Interface}
use Rattle.pcap_ng.proofs.BlockFormat.{blocks_lawful, goes_after}
use Rattle.pcapfile_merge.specs.declared.kept.Kept.{Kept}
use Rattle.pcapfile_merge.specs.declared.packet.Pending.{Pending}
use Rattle.pcapfile_merge.specs.Keeping.{CarriedBy, Progress, of_section, with_item, with_items}
use Rattle.pcapfile_merge.specs.Packets.{Packet}
use Rattle.pcapfile_merge.specs.Sources.{BlocksGave, StandsBehind}
use Rattle.pcapfile_merge.specs.Taking.{packet_in}
use Rattle.pcapfile_merge.specs.TakingBlocks.{AllGive, EndsAt, EndsWell, GivesIn, GivesOf, MayPass, Passes, TakesItem, TakesStored}
use Rattle.pcapfile_merge.proofs.Keeping.{Grows, grown}
use Rattle.pcapfile_merge.proofs.Turning.{with_both, with_more}

-- A kept block stays the same as more interfaces get numbers.
carried_grown : (type : BlockType) (xs ys : List ℕ) (block : Framed) (p : Packet) → Grows xs ys → CarriedBy type xs block p → CarriedBy type ys block p
carried_grown types.InterfaceStatistics xs ys block p grows by = (by.0, by.1, by.2, (grows by.0 by.2 by.3.0, by.3.1), by.4)
carried_grown types.SectionHeader xs ys block p grows by = by
carried_grown types.InterfaceDescription xs ys block p grows by = by
carried_grown types.Packet xs ys block p grows by = by
carried_grown types.SimplePacket xs ys block p grows by = by
carried_grown types.NameResolution xs ys block p grows by = by
carried_grown types.EnhancedPacket xs ys block p grows by = by
carried_grown types.SystemdJournalExport xs ys block p grows by = by
carried_grown (types.Unknown n) xs ys block p grows by = by

gives_grown : (xs ys : List ℕ) (interfaces : List Interface) (block : Framed) (packet : Option Packet) → Grows xs ys → GivesOf xs interfaces block packet → GivesOf ys interfaces block packet
gives_grown xs ys interfaces block None grows nothing = nothing
gives_grown xs ys interfaces block (Some p) grows (inl holds) =
    let merged = holds.3 in
    inl (
      holds.0,
      holds.1,
      holds.2,
      record {
        by = merged.by;
        described = merged.described;
        number = merged.number;
        is_numbered = (grows holds.1.interface merged.number merged.is_numbered.0, merged.is_numbered.1);
        units = merged.units;
        time = merged.time;
        text = merged.text;
        no_interface = merged.no_interface;
        left_out = merged.left_out;
      },
    )
gives_grown xs ys interfaces block (Some p) grows (inr (inl describes)) = inr (inl describes)
gives_grown xs ys interfaces block (Some p) grows (inr (inr kept)) = inr (inr (kept.0, carried_grown block.type_ xs ys block p grows kept.1))

all_grown : (numbers more : List ℕ) (kept : Kept) (items : List Item) (packets : List (Option Packet)) → AllGive numbers kept items packets → AllGive (numbers ++ more) kept items packets
all_grown numbers more kept [] [] all = tt
all_grown numbers more kept [] (p ∷ packets) all = absurd all
all_grown numbers more kept (i ∷ items) [] all = absurd all
all_grown numbers more kept (i ∷ items) (p ∷ packets) all =
    let after = with_item i kept in
    (gives_grown (of_section after numbers) (of_section after (numbers ++ more)) (interfaces_at i.after) i.block p (grown after.before numbers more) all.0, all_grown numbers more after items packets all.1)

all_joined : (numbers : List ℕ) (kept : Kept) (items others : List Item) (packets more : List (Option Packet)) → AllGive numbers kept items packets → AllGive numbers (with_items items kept) others more
    → AllGive numbers kept (items ++ others) (packets ++ more)
all_joined numbers kept [] others [] more all rest = rest
all_joined numbers kept [] others (p ∷ packets) more all rest = absurd all
all_joined numbers kept (i ∷ items) others [] more all rest = absurd all
all_joined numbers kept (i ∷ items) others (p ∷ packets) more all rest = (all.0, all_joined numbers (with_item i kept) items others packets more all.1 rest)

-- Nothing for each of these blocks.
nothings : List Item → List (Option Packet)
nothings [] = []
nothings (i ∷ items) = None ∷ nothings items

nothing_given : (items : List Item) → filter_map (λ (packet : Option Packet). packet) (nothings items) ≡ []
unfolding nothings
nothing_given [] = refl
nothing_given (i ∷ items) = nothing_given items

-- Skipped blocks give nothing.
all_nothing : (numbers : List ℕ) (kept : Kept) (items : List Item) → AllByRecursion MayPass items → AllGive numbers kept items (nothings items)
unfolding nothings
all_nothing numbers kept [] all = tt
all_nothing numbers kept (i ∷ items) all = (all.0, all_nothing numbers (with_item i kept) items all.1)

-- The packet that was taken, if there is one.
abbrev pub taken_one : (Pending → List ℕ) → Option Pending → List Packet
taken_one bytes None = []
taken_one bytes (Some pending) = packet_in (bytes pending) pending ∷ []

far : (c d : Progress) (n m : ℕ) → n ≤ m → EndsWell c d n → EndsWell c d m
far c d n m le (inl none) = inl none
far c d n m le (inr most) = inr (most.0, omega (arith, most.1, le))

module _ (a : Progress) where
  -- What was given is the same as more interfaces get numbers.
  gave_grown : (numbers more : List ℕ) (b : Progress) (given : List Packet) → BlocksGave numbers a b given → BlocksGave (numbers ++ more) a b given
  gave_grown numbers more b given gave = record {
    items = gave.items;
    packets = gave.packets;
    took = gave.took;
    in_force = gave.in_force;
    goes_on = gave.goes_on;
    gives = all_grown numbers more a.kept gave.items gave.packets gave.gives;
    given_are = gave.given_are;
    counts = gave.counts;
  }

  module _ (numbers : List ℕ) where
    -- Some blocks were skipped before the first packet.
    passes_first : (mid : Progress) → Passes a mid → BlocksGave numbers a mid []
    passes_first mid passed = record {
      items = passed.items;
      packets = nothings passed.items;
      took = passed.took;
      in_force = passed.in_force;
      goes_on = passed.goes_on;
      gives = all_nothing numbers a.kept passed.items passed.may_pass;
      given_are = sym (nothing_given passed.items);
      counts = passed.counts;
    }

    -- Some blocks were skipped.
    passes_on : (mid b : Progress) (given : List Packet) → BlocksGave numbers a mid given → Passes mid b → BlocksGave numbers a b given
    passes_on mid b given so_far passed =
        let took : TakesTexts block_format (state_after block_format a.source.state so_far.items) passed.items mid.source.left b.source.left =
        subst (λ (q : State). TakesTexts block_format q passed.items mid.source.left b.source.left) (sym so_far.in_force) passed.took in
        record {
          items = so_far.items ++ passed.items;
          packets = so_far.packets ++ nothings passed.items;
          took = takes_all block_format blocks_lawful a.source.state so_far.items passed.items a.source.left mid.source.left b.source.left so_far.took took;
          in_force = state_all block_format a.source.state so_far.items passed.items ∙ ap (λ (q : State). state_after block_format q passed.items) so_far.in_force ∙ passed.in_force;
          goes_on = passed.goes_on;
          gives = all_joined numbers a.kept so_far.items passed.items so_far.packets (nothings passed.items) so_far.gives (all_nothing numbers (with_items so_far.items a.kept) passed.items passed.may_pass);
          given_are = so_far.given_are ∙ sym (append-nil (filter_map (λ (packet : Option Packet). packet) so_far.packets))
              ∙ ap (λ (l : List Packet). filter_map (λ (packet : Option Packet). packet) so_far.packets ++ l) (sym (nothing_given passed.items))
              ∙ sym (filter_map-append (λ (packet : Option Packet). packet) so_far.packets (nothings passed.items));
          counts = passed.counts ∙ ap (with_items passed.items) so_far.counts ∙ sym (with_both so_far.items passed.items a.kept);
        }

    -- A block gave something.
    gives_more : (mid b : Progress) (given : List Packet) (item : Item) (p : Packet) → BlocksGave numbers a mid given → TakesItem mid b item → GivesIn (of_section b.kept numbers) item (Some p)
        → BlocksGave numbers a b (given ++ p ∷ [])
    gives_more mid b given item p so_far takes gives =
        let next = takes.0 in
        let here : Takes (block_format.says (state_after block_format a.source.state so_far.items)) mid.source.left b.source.left item =
        subst (λ (q : State). Takes (block_format.says q) mid.source.left b.source.left item) (sym so_far.in_force) next.took in
        let counts : b.kept ≡ with_item item (with_items so_far.items a.kept) = takes.1 ∙ ap (with_item item) so_far.counts in
        record {
          items = so_far.items ++ item ∷ [];
          packets = so_far.packets ++ Some p ∷ [];
          took = takes_more block_format blocks_lawful a.source.state so_far.items item a.source.left mid.source.left b.source.left so_far.took here;
          in_force = state_push block_format a.source.state so_far.items item ∙ goes_after (state_after block_format a.source.state so_far.items) item ∙ next.leads;
          goes_on = (next.goes_on, next.no_read_failed);
          gives = all_joined numbers a.kept so_far.items (item ∷ []) so_far.packets (Some p ∷ []) so_far.gives (subst (λ (k : Kept). GivesIn (of_section k numbers) item (Some p)) counts gives, tt);
          given_are = ap (λ (l : List Packet). l ++ p ∷ []) so_far.given_are ∙ sym (filter_map-append (λ (packet : Option Packet). packet) so_far.packets (Some p ∷ []));
          counts = counts ∙ sym (with_more so_far.items item a.kept);
        }

    -- What a reader gave up to here, and where it is now.
    abbrev pub GaveUpTo : Progress → List Packet → Option Pending → Option PcapError → Type 0
    GaveUpTo b given next fault = (mid : Progress) × (gave : BlocksGave numbers a mid given) × StandsBehind numbers (length gave.items) mid b next fault

    as_much : (c : Progress) (xs ys : List Packet) → xs ≡ ys → BlocksGave numbers a c xs → BlocksGave numbers a c ys
    as_much c xs ys e gave = record {
      items = gave.items;
      packets = gave.packets;
      took = gave.took;
      in_force = gave.in_force;
      goes_on = gave.goes_on;
      gives = gave.gives;
      given_are = sym e ∙ gave.given_are;
      counts = gave.counts;
    }

    ends_far : (c b : Progress) (xs ys : List Packet) (e : xs ≡ ys) (gave : BlocksGave numbers a c xs) (n : ℕ) → n ≤ length gave.items → EndsWell c b n → EndsWell c b (length (as_much c xs ys e gave).items)
    unfolding as_much
    ends_far c b xs ys e gave n le ends = far c b n (length gave.items) le ends

    -- What was taken behind the blocks that were skipped, or nothing for the stated reason.
    TakesLast : Progress → Progress → ℕ → (Pending → List ℕ) → Option Pending → Option PcapError → Type 0
    TakesLast mid b n bytes (Some pending) None = (item : Item) × TakesItem mid b item × GivesIn (of_section b.kept numbers) item (Some (packet_in (bytes pending) pending))
    TakesLast mid b n bytes None None = EndsWell mid b n
    TakesLast mid b n bytes None (Some e) = EndsAt numbers mid b e
    TakesLast mid b n bytes (Some pending) (Some e) = ⊥

    taken_last : (from b : Progress) (bytes : Pending → List ℕ) (next : Option Pending) (fault : Option PcapError) → TakesStored numbers from b bytes next fault
        → (mid : Progress) × (passed : Passes from mid) × TakesLast mid b (length passed.items) bytes next fault
    unfolding TakesLast
    taken_last from b bytes (Some pending) None takes = (takes.0, takes.1, (takes.2, takes.3, takes.4))
    taken_last from b bytes None None takes = (takes.0, takes.1, takes.2)
    taken_last from b bytes None (Some e) takes = (takes.0, takes.1, takes.2)
    taken_last from b bytes (Some pending) (Some e) takes = absurd takes

    -- A reader takes at most one more packet or block.
    takes_one : (mid b : Progress) (given : List Packet) (gave : BlocksGave numbers a mid given) (n : ℕ) → n ≤ length gave.items → (bytes : Pending → List ℕ) (next : Option Pending) (fault : Option PcapError)
        → TakesLast mid b n bytes next fault → GaveUpTo b (given ++ taken_one bytes next) next fault
    unfolding TakesLast
    takes_one mid b given gave n le bytes (Some pending) None takes = (b, gives_more mid b given takes.0 (packet_in (bytes pending) pending) gave takes.1 takes.2, (refl, refl))
    takes_one mid b given gave n le bytes None None takes =
        let same : given ≡ given ++ [] = sym (append-nil given) in
        (mid, as_much mid given (given ++ []) same gave, ends_far mid b given (given ++ []) same gave n le takes)
    takes_one mid b given gave n le bytes None (Some e) takes = (mid, as_much mid given (given ++ []) (sym (append-nil given)) gave, inl takes)
    takes_one mid b given gave n le bytes (Some pending) (Some e) takes = absurd takes

    first_count : (mid : Progress) (passed : Passes a mid) → length passed.items ≤ length (passes_first mid passed).items
    unfolding passes_first
    first_count mid passed = omega arith

    -- A reader takes the first packet or block.
    pub takes_first : (b : Progress) (bytes : Pending → List ℕ) (next : Option Pending) (fault : Option PcapError) → TakesStored numbers a b bytes next fault → GaveUpTo b (taken_one bytes next) next fault
    takes_first b bytes next fault takes =
        let last = taken_last a b bytes next fault takes in
        takes_one last.0 b [] (passes_first last.0 last.1) (length last.1.items) (first_count last.0 last.1) bytes next fault last.2

    further_count : (mid b : Progress) (given : List Packet) (gave : BlocksGave numbers a mid given) (passed : Passes mid b) → length passed.items ≤ length (passes_on mid b given gave passed).items
    unfolding passes_on
    further_count mid b given gave passed = omega (arith, length-append gave.items passed.items)

  stood : (numbers : List ℕ) (mid b : Progress) (n : ℕ) (next : Option Pending) (fault : Option PcapError) (pending : Pending) → next ≡ Some pending → StandsBehind numbers n mid b next fault → b ≡ mid
  stood numbers mid b n None fault pending is stands = absurd (let no : ⊥ = cc in no)
  stood numbers mid b n (Some p) fault pending is stands = stands.1

  -- A reader takes a further packet or block, after the one that it held. Meanwhile, more interfaces got numbers.
  pub takes_further : (numbers more : List ℕ) (now b : Progress) (given : List Packet) (held : Option Pending) (fault : Option PcapError) (pending : Pending) → held ≡ Some pending → GaveUpTo numbers now given held fault
      → (bytes : Pending → List ℕ) (next : Option Pending) (error : Option PcapError) → TakesStored (numbers ++ more) now b bytes next error → GaveUpTo (numbers ++ more) b (given ++ taken_one bytes next) next error
  takes_further numbers more now b given held fault pending is gave bytes next error takes =
      let mid = gave.0 in
      let all = numbers ++ more in
      let there : now ≡ mid = stood numbers mid now (length gave.1.items) held fault pending is gave.2 in
      let last = taken_last all mid b bytes next error (subst (λ (s : Progress). TakesStored all s b bytes next error) there takes) in
      let so_far = gave_grown numbers more mid given gave.1 in
      takes_one all last.0 b given (passes_on all mid last.0 given so_far last.1) (length last.1.items) (further_count all mid last.0 given so_far last.1) bytes next error last.2

  -- There is no memory for the number of the interface that was given last.
  pub ends_unnumbered : (numbers : List ℕ) (now : Progress) (given : List Packet) (held : Option Pending) (fault : Option PcapError) (pending : Pending) → held ≡ Some pending → GaveUpTo numbers now given held fault
      → (e : PcapError) → IsMemory e → GaveUpTo numbers now given None (Some e)
  ends_unnumbered numbers now given held fault pending is gave e memory =
      (gave.0, gave.1, inr (stood numbers gave.0 now (length gave.1.items) held fault pending is gave.2, memory))
