-- This file proves how items that are read leniently are written, one after another.
use Rattle.std.proofs.Common.{◌≡◌, ◌<◌, ◌≤◌, ◌+◌, ◌^◌, ℕ, List, [], ◌∷◌, ◌++◌, length, map, cond, Bool, Option, Ok, Err, refl, sym, ap, ◌∙◌, subst, arith, length-append}
use Rattle.std.specs.Prelude.{count_by, sum_by, Result}
use Rattle.std.specs.List.{flat_map}
use Rattle.std.proofs.KnownBytes.{Appends-nil, Appends-trans, Consumes-nil, Consumes-trans}
use Rattle.std.proofs.lemmas.List.{map-append, length-map, flat_map_more}
use Rattle.std.proofs.lemmas.List.Sums.{sum_by_push, sum_by-cons}
use Rattle.std.specs.Io.KnownBytes.{Appends}
use Rattle.pcap_core.specs.declared.errors.PcapError.{PcapError}
use Rattle.pcap_core.specs.declared.errors.PcapError.TheVariants.{IoError}
use Rattle.pcap_core.specs.Answer.{number_in, whole}
use Rattle.pcap_items.specs.Format.{Format, IsLawful, Texts, state_after}
use Rattle.pcap_items.specs.Reading.{Takes}
use Rattle.pcap_items.specs.Takes.{Stops}
use Rattle.pcap_items.proofs.Formats.{texts_more, texts_push, state_push}
use Rattle.pcap_classic.specs.declared.common.TsResolution.{TsResolution}
use Rattle.pcap_classic.specs.declared.pcap.header.PcapHeader.{PcapHeader}
use Rattle.pcap_classic.specs.Magic.{order_of}
use Rattle.pcap_classic.proofs.FieldNumbers.{head_length}
use Rattle.pcap_tolerant.specs.AsIs.{AsIs, as_is_format}
use Rattle.pcap_tolerant.specs.Run.{as_is_under}
use Rattle.pcap_tolerant_captures.specs.Blocks as blocks
use Rattle.pcap_tolerant_captures.specs.State.{State, order_at}
use Rattle.pcap_tolerant_captures.proofs.FirstFlaw.{frame_size}
use Rattle.pcap_program.specs.declared.exit.Exit.{Exit}
use Rattle.pcap_program.specs.declared.exit.Exit.TheVariants.{Io, Memory}
use Rattle.pcap_program.specs.Lines.{WritesLine}
use Rattle.pcapfile_as_is.specs.declared.counted.Counted.{Counted}
use Rattle.pcapfile_as_is.specs.Counts.{counted, one_if, block_size}
use Rattle.pcapfile_as_is.specs.declared.counted.Told.{Told}
use Rattle.pcapfile_as_is.specs.Texts.{Row, AreTold, Telling, TellsBy, TellsItems, TellsTorn, WritesTold, numbered, item_in, text_in, has_number, has_flaw, progress, size_in, told_by}

-- A packet that was read is a header of 16 bytes and its data.
pub as_is_long : (limit : ℕ) (header : PcapHeader) (s : List ℕ) (packet : AsIs) → (as_is_under limit header).says tt s (whole packet []) → length s ≡ 16 + packet.head.included
unfolding as_is_format
as_is_long limit header s packet text =
    omega (arith, head_length (number_in (order_of header.magic_number)) packet.head s text.after text.text, ap length text.data_is, length-append packet.bytes [], text.whole)

-- A block that was read has the length that it states.
pub block_long : (q : State) (s : List ℕ) (item : blocks.Item) → blocks.as_is_format.says q s (whole item []) → length s ≡ block_size item
unfolding blocks.as_is_format
block_long q s item text = omega (arith, frame_size (order_at q) item.block s [] text.frame)

-- ---- one more item

module _ {V : Type 0} (size : V → ℕ) (IsTold : ℕ → ℕ → V → Told → List ℕ → Type 0) where
  told_at : (n m p q : ℕ) (row : Row V) → n ≡ m → p ≡ q → IsTold n p row.item row.told row.text → IsTold m q row.item row.told row.text
  told_at n m p q row numbers places told =
      subst (λ (k : ℕ). IsTold m k row.item row.told row.text) places (subst (λ (k : ℕ). IsTold k p row.item row.told row.text) numbers told)

  told_push : (n p : ℕ) (rows : List (Row V)) (row : Row V) → AreTold size IsTold n p rows → IsTold (counted (n + count_by has_number rows)) (counted (p + sum_by (size_in size) rows)) row.item row.told row.text
      → AreTold size IsTold n p (rows ++ row ∷ [])
  told_push n p [] row told next = (told_at (counted (n + 0)) (counted n) (counted (p + 0)) (counted p) row (omega arith) (omega arith) next, tt)
  told_push n p (first ∷ rows) row told next =
      let step : count_by has_number (first ∷ rows) ≡ one_if first.told.has_number + count_by has_number rows = sum_by-cons (λ (r : Row V). cond (has_number r) 1 0) first rows in
      let more : sum_by (size_in size) (first ∷ rows) ≡ size first.item + sum_by (size_in size) rows = sum_by-cons (size_in size) first rows in
      let there = told_at (counted (n + count_by has_number (first ∷ rows))) (counted (n + one_if first.told.has_number + count_by has_number rows)) (counted (p + sum_by (size_in size) (first ∷ rows))) (counted (p + size first.item + sum_by (size_in size) rows)) row
      (omega (arith, step)) (omega (arith, more)) next in
      (told.0, told_push (n + one_if first.told.has_number) (p + size first.item) rows row told.1 there)

one_more : {V : Type 0} (p : Row V → Bool) (rows : List (Row V)) (row : Row V) → count_by p (rows ++ row ∷ []) ≡ count_by p rows + one_if (p row)
one_more {V} p rows row = sum_by_push (λ (r : Row V). cond (p r) 1 0) rows row

items_push : {V : Type 0} (rows : List (Row V)) (row : Row V) → map item_in (rows ++ row ∷ []) ≡ map item_in rows ++ row.item ∷ []
items_push rows row = map-append item_in rows (row ∷ [])

texts_push_row : {V : Type 0} (rows : List (Row V)) (row : Row V) → flat_map text_in rows ++ row.text ≡ flat_map text_in (rows ++ row ∷ [])
texts_push_row rows row = flat_map_more text_in [] rows row

-- A line that was written as one thing was written as another.
pub writes_as : (IsLine IsOther : List ℕ → Type 0) → ((line : List ℕ) → IsLine line → IsOther line) → (before after : Option (List ℕ)) (result : Result (Unit {0}) Exit) → WritesLine IsLine before after result → WritesLine IsOther before after result
writes_as IsLine IsOther becomes before after (Ok done) wrote = (wrote.0, becomes wrote.0 wrote.1, wrote.2)
writes_as IsLine IsOther becomes before after (Err (Io (IoError e))) wrote = (wrote.0, becomes wrote.0 wrote.1, wrote.2)
writes_as IsLine IsOther becomes before after (Err Memory) wrote = wrote
writes_as IsLine IsOther becomes before after (Err _) wrote = absurd wrote

-- A text that was written for one thing was written for another.
pub told_as : (IsTold IsOther : Told → List ℕ → Type 0) → ((told : Told) (line : List ℕ) → IsTold told line → IsOther told line) → (before after : Option (List ℕ)) (result : Result Told Exit) → WritesTold IsTold before after result → WritesTold IsOther before after result
told_as IsTold IsOther becomes before after (Ok told) wrote = writes_as (IsTold told) (IsOther told) (becomes told) before after (Ok tt) wrote
told_as IsTold IsOther becomes before after (Err exit) wrote = (wrote.0, writes_as (IsTold wrote.0) (IsOther wrote.0) (becomes wrote.0) before after (Err exit) wrote.1)

-- A text that was written belongs to an item with a number.
pub tells_by : {V : Type 0} (flawed : V → Bool) (text : ℕ → ℕ → V → List ℕ) (number place : ℕ) (item : V) (told : Told) (before after : Option (List ℕ)) (result : Result (Unit {0}) Exit) → told ≡ numbered (flawed item)
    → WritesLine (λ line. line ≡ text number place item) before after result → WritesLine (TellsBy flawed text number place item told) before after result
tells_by flawed text number place item told before after result is wrote = writes_as (λ line. line ≡ text number place item) (TellsBy flawed text number place item told) (λ line same. (is, same)) before after result wrote

-- The text written is that of this packet.
pub put_as : {S : Type 0} (text : S → TsResolution → ℕ → ℕ → AsIs → List ℕ) (s t : S) (r u : TsResolution) (n p : ℕ) (x y : AsIs) (mid out : Option (List ℕ)) (result : Result (Unit {0}) Exit) → s ≡ t → r ≡ u → x ≡ y
    → WritesLine (λ line. line ≡ text s r n p x) mid out result → WritesLine (λ line. line ≡ text t u n p y) mid out result
put_as {S} text s t r u n p x y mid out result settings resolutions packets wrote =
    let here = subst (λ (z : AsIs). WritesLine (λ line. line ≡ text s r n p z) mid out result) packets wrote in
    let under = subst (λ (z : TsResolution). WritesLine (λ line. line ≡ text s z n p y) mid out result) resolutions here in
    subst (λ (z : S). WritesLine (λ line. line ≡ text z u n p y) mid out result) settings under

module _ {S V : Type 0} (f : Format S V) (q : S) (size : V → ℕ) (IsTold : ℕ → ℕ → V → Told → List ℕ → Type 0) where
  pub telling_none : (before out : Option (List ℕ)) (old : Counted) → old.items < 2 ^ 64 → old.flawed < 2 ^ 64 → old.bytes < 2 ^ 64 → Telling f q size IsTold q before before out out old old 0
  telling_none before out old items flaws bytes = record {
    rows = [];
    count = refl;
    leads = refl;
    took = record { bytes = []; texts = refl; took = Consumes-nil before };
    long = refl;
    told = tt;
    counts = record { items_are = omega (arith, items); flawed_are = omega (arith, flaws); bytes_are = omega (arith, bytes) };
    out = Appends-nil out;
  }

  -- One more item, whose text was written.
  pub telling_more : IsLawful f → (p next : S) (before left now out_before mid out_now : Option (List ℕ)) (old here new : Counted) (n number : ℕ) (item : V) (told : Told) → Telling f q size IsTold p before left out_before mid old here n
      → f.goes p item ≡ next → (took : Takes (f.says p) left now item) → length took.0 ≡ size item → number ≡ counted (here.items + 1)
      → new.items ≡ counted (here.items + one_if told.has_number) → new.flawed ≡ counted (here.flawed + one_if told.has_flaw) → new.bytes ≡ counted (here.bytes + size item)
      → WritesLine (IsTold number here.bytes item told) mid out_now (Ok tt) → Telling f q size IsTold next before now out_before out_now old new (n + 1)
  telling_more laws p next before left now out_before mid out_now old here new n number item told so_far goes took long number_is items flaws bytes wrote =
      let rows = so_far.rows in
      let row : Row V = record { item = item; told = told; text = wrote.0 } in
      let all = map item_in rows in
      let says = subst (λ (u : S). f.says u took.0 (whole item [])) (sym so_far.leads) took.1 in
      let texts = texts_push f q all item (so_far.took.bytes ++ took.0) took.0 [] (texts_more f laws q all so_far.took.bytes [] took.0 so_far.took.texts) says in
      let behind : state_after f q (all ++ item ∷ []) ≡ next = state_push f q all item ∙ ap (λ (u : S). f.goes u item) so_far.leads ∙ goes in
      let this = told_at size IsTold number (counted (old.items + 1 + count_by has_number rows)) here.bytes (counted (old.bytes + sum_by (size_in size) rows)) row (omega (arith, so_far.counts.items_are, number_is)) so_far.counts.bytes_are wrote.1 in
      record {
        rows = rows ++ row ∷ [];
        count = omega (arith, length-append rows (row ∷ []), so_far.count);
        leads = subst (λ (l : List V). state_after f q l ≡ next) (sym (items_push rows row)) behind;
        took = record {
          bytes = so_far.took.bytes ++ took.0;
          texts = subst (λ (l : List V). Texts f q l (so_far.took.bytes ++ took.0) []) (sym (items_push rows row)) texts;
          took = Consumes-trans before left now so_far.took.bytes took.0 so_far.took.took took.2;
        };
        long = omega (arith, length-append so_far.took.bytes took.0, so_far.long, long, sum_by_push (size_in size) rows row);
        told = told_push size IsTold (old.items + 1) old.bytes rows row so_far.told this;
        counts = record {
          items_are = omega (arith, one_more has_number rows row, so_far.counts.items_are, items);
          flawed_are = omega (arith, one_more has_flaw rows row, so_far.counts.flawed_are, flaws);
          bytes_are = omega (arith, sum_by_push (size_in size) rows row, so_far.counts.bytes_are, bytes);
        };
        out = subst (λ (l : List ℕ). Appends out_before out_now l) (texts_push_row rows row) (Appends-trans out_before mid out_now (flat_map text_in rows) wrote.0 so_far.out wrote.2);
      }

  -- The run stops.
  pub telling_stops : (p reached : S) (before left now out_before out : Option (List ℕ)) (failed : Bool) (most : ℕ) (old here : Counted) (n : ℕ) (fault : Option PcapError) → Telling f q size IsTold p before left out_before out old here n
      → reached ≡ p → n ≤ most → Stops (f.says p) left now failed n most fault → TellsItems (told_by f size IsTold) (progress q before out_before old) (progress reached now out here) failed most fault
  telling_stops p reached before left now out_before out failed most old here n fault so_far stays within stops =
      let many : length (map item_in so_far.rows) ≡ n = length-map so_far.rows item_in ∙ so_far.count in
      record {
        rows = so_far.rows;
        run = record {
          left = left;
          took = so_far.took;
          within = omega (arith, many, within);
          stops = subst (λ (u : S). Stops (f.says u) left now failed (length (map item_in so_far.rows)) most fault) (sym so_far.leads)
              (subst (λ (k : ℕ). Stops (f.says p) left now failed k most fault) (sym many) stops);
        };
        leads = so_far.leads ∙ sym stays;
        long = so_far.long;
        told = so_far.told;
        counts = so_far.counts;
        out = so_far.out;
      }

  -- A write failed within the text of the next item, or there was no memory to make it.
  pub telling_torn : (p reached : S) (before left now out_before mid out_now : Option (List ℕ)) (old here : Counted) (n number : ℕ) (item : V) (exit : Exit) → Telling f q size IsTold p before left out_before mid old here n
      → f.goes p item ≡ reached → Takes (f.says p) left now item → number ≡ counted (here.items + 1) → WritesTold (IsTold number here.bytes item) mid out_now (Err exit)
      → TellsTorn (told_by f size IsTold) (progress q before out_before old) (progress reached now out_now here) exit
  telling_torn p reached before left now out_before mid out_now old here n number item exit so_far goes took number_is torn =
      let rows = so_far.rows in
      let there : number ≡ counted (old.items + 1 + count_by has_number rows) = omega (arith, so_far.counts.items_are, number_is) in
      let line = subst (λ (k : ℕ). WritesLine (IsTold k here.bytes item torn.0) mid out_now (Err exit)) there torn.1 in
      record {
        rows = rows;
        next = item;
        told_next = torn.0;
        left = left;
        took = so_far.took;
        took_next = subst (λ (u : S). Takes (f.says u) left now item) (sym so_far.leads) took;
        leads = ap (λ (u : S). f.goes u item) so_far.leads ∙ goes;
        told = so_far.told;
        counts = so_far.counts;
        mid = mid;
        out = so_far.out;
        torn = subst (λ (k : ℕ). WritesLine (IsTold (counted (old.items + 1 + count_by has_number rows)) k item torn.0) mid out_now (Err exit)) so_far.counts.bytes_are line;
      }
