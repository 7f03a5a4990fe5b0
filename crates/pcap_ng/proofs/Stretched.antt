-- Consecutive blocks in a buffer, which are written from there.
use Rattle.std.proofs.Common.{◌≡◌, ◌≤◌, ◌<◌, ℕ, ◌+◌, ◌-◌, List, [], ◌∷◌, ◌++◌, length, take, drop, refl, ap, sym, ◌∙◌, subst, arith, append_assoc, length-append, take-append-drop, Bool, Some, None}
use Rattle.std.specs.Prelude.{Option, All}
use Rattle.std.proofs.lemmas.List.{length-take, take-take}
use Rattle.std.proofs.lemmas.List.Elements.{All-head, All-nil, All-push, All-tail}
use Rattle.std.specs.Io.KnownBytes.{Appends}
use Rattle.pcap_core.specs.declared.errors.PcapError.{PcapError}
use Rattle.pcap_core.specs.declared.common.Endianness.{Endianness}
use Rattle.pcap_items.specs.Copying as core
use Rattle.pcap_items.specs.Format.{Texts, state_after}
use Rattle.pcap_items.specs.Headed.{good}
use Rattle.pcap_items.proofs.Copying.{appends_apart}
use Rattle.pcap_items.proofs.Formats.{beginning, nothing_no_text, shorter, text_same, texts_more, texts_push}
use Rattle.pcap_core.proofs.Texts.{front_of}
use Rattle.pcap_blocks.specs.InterfaceDescription.{Interface}
use Rattle.pcap_blocks.specs.SectionHeader.{Section}
use Rattle.pcap_ng.specs.Blocks.{Item, BlockText, block_format}
use Rattle.pcap_items.specs.AsTheyCame.{as_they_came}
use Rattle.pcap_ng.specs.Frames.{Framed, FrameText, frame_format}
use Rattle.pcap_ng.specs.State.{within, order_at, Means, MeansIf}
use Rattle.pcap_ng.specs.Stretches.{LeavesInForce, IsStretch, Passes, TearsBlock, SendsWhole, SendsTorn, Sends}
use Rattle.pcap_ng.proofs.HeadedFrames.{frames_lawful}

-- The byte order stays unchanged after frames.
order_stays : (e : Endianness) (blocks : List Framed) → state_after frame_format e blocks ≡ e
unfolding frame_format
order_stays e [] = refl
order_stays e (b ∷ blocks) = order_stays e blocks

-- The text of a block is a block by itself.
pub own_text : (e : Endianness) (b : Framed) (s rest : List ℕ) → FrameText e b s rest → (t : List ℕ) × (s ≡ t ++ rest) × FrameText e b t []
unfolding frame_format
own_text e b s rest text = frames_lawful.own e s rest b text

pub no_blocks : (e : Endianness) → IsStretch e [] 0
no_blocks e = record { blocks = []; count = refl; texts = refl; leave = All-nil LeavesInForce }

-- A stretch and one more block are a stretch.
pub one_more : (e : Endianness) (s t : List ℕ) (n : ℕ) (b : Framed) → IsStretch e s n → FrameText e b t [] → LeavesInForce b → IsStretch e (s ++ t) (n + 1)
unfolding frame_format
one_more e s t n b so_far text leaves =
    let there : FrameText (state_after frame_format e so_far.blocks) b t [] = subst (λ (o : Endianness). FrameText o b t []) (sym (order_stays e so_far.blocks)) text in
    record {
      blocks = so_far.blocks ++ b ∷ [];
      count = length-append so_far.blocks (b ∷ []) ∙ omega (arith, so_far.count);
      texts = texts_push frame_format e so_far.blocks b (s ++ t) t [] (texts_more frame_format frames_lawful e so_far.blocks s [] t so_far.texts) there;
      leave = All-push LeavesInForce so_far.blocks b so_far.leave leaves;
    }

pub more_taken : (e : Endianness) (bytes rest after : List ℕ) (n : ℕ) (b : Framed) → Passes e bytes rest n → FrameText e b rest after → LeavesInForce b → Passes e bytes after (n + 1)
more_taken e bytes rest after n b so_far text leaves =
    let own = own_text e b rest after text in
    record {
      front = so_far.front ++ own.0;
      split = so_far.split ∙ ap (λ (l : List ℕ). so_far.front ++ l) own.1 ∙ sym (append_assoc so_far.front own.0 after);
      stretch = one_more e so_far.front own.0 n b so_far.stretch own.2 leaves;
    }

-- The bytes after a block are shorter than the bytes that begin with the block.
pub text_within : (e : Endianness) (b : Framed) (s rest : List ℕ) → FrameText e b s rest → length rest < length s
unfolding frame_format
text_within e b s rest text = shorter frame_format frames_lawful e b s rest text

-- There are at most as many blocks as bytes.
pub fewer_blocks : (e : Endianness) (blocks : List Framed) (s : List ℕ) → Texts frame_format e blocks s [] → length blocks ≤ length s
unfolding frame_format
fewer_blocks e [] s texts = omega arith
fewer_blocks e (b ∷ blocks) s (after, one, others) = omega (arith, text_within e b s after one, fewer_blocks e blocks after others)

pub rest_within : (e : Endianness) (bytes rest : List ℕ) (n : ℕ) → Passes e bytes rest n → length rest ≤ length bytes
rest_within e bytes rest n so_far = omega (arith, ap length so_far.split, length-append so_far.front rest)

-- Tearing e stretch rest gone n: of a stretch in which a write failed, n blocks were written whole, and `rest` is the blocks
-- after them.
pub record Tearing (e : Endianness) (stretch rest : List ℕ) (gone n : ℕ) : Type 0 where
  pub taken : Passes e stretch rest n
  pub begun : length taken.front ≤ gone
  pub more : ℕ
  pub left : IsStretch e rest more

pub tearing_none : (e : Endianness) (stretch : List ℕ) (gone more : ℕ) → IsStretch e stretch more → Tearing e stretch stretch gone 0
tearing_none e stretch gone more left = record { taken = record { front = []; split = refl; stretch = no_blocks e }; begun = omega arith; more = more; left = left }

-- The blocks after the first of a stretch are a stretch.
behind_first : (e : Endianness) (rest after : List ℕ) (b : Framed) (blocks : List Framed) → Texts frame_format e blocks rest [] → All LeavesInForce blocks → FrameText e b rest after
    → (k : ℕ) × IsStretch e after k
unfolding frame_format
behind_first e rest after b [] texts leave text = absurd (nothing_no_text frame_format frames_lawful e b after (subst (λ (s : List ℕ). FrameText e b s after) texts text))
behind_first e rest after b (p ∷ blocks) (next, one, others) leave text =
    let same = text_same frame_format frames_lawful e p b rest next after one text in
    (length blocks, record { blocks = blocks; count = refl; texts = subst (λ (s : List ℕ). Texts frame_format e blocks s []) same.1 others; leave = All-tail LeavesInForce p blocks leave })

-- A stretch that is not empty has a first block.
first_there : (e : Endianness) (rest : List ℕ) (blocks : List Framed) → Texts frame_format e blocks rest [] → All LeavesInForce blocks → 0 < length rest
    → (b : Framed) × (after : List ℕ) × FrameText e b rest after × LeavesInForce b
unfolding frame_format
first_there e rest [] texts leave some = absurd (omega (arith, some, ap length texts))
first_there e rest (b ∷ blocks) (after, one, others) leave some = (b, after, one, All-head LeavesInForce b blocks leave)

-- At most as many blocks are counted as bytes of the stretch come before the rest.
pub tearing_count : (e : Endianness) (stretch rest : List ℕ) (gone n : ℕ) → Tearing e stretch rest gone n → n + length rest ≤ length stretch
tearing_count e stretch rest gone n so_far =
    let row = so_far.taken.stretch in
    omega (arith, fewer_blocks e row.blocks so_far.taken.front row.texts, row.count, ap length so_far.taken.split, length-append so_far.taken.front rest)

-- A block follows in a stretch of which not all bytes were written.
pub tearing_goes_on : (e : Endianness) (stretch rest : List ℕ) (gone n : ℕ) → Tearing e stretch rest gone n → gone < length stretch
    → (b : Framed) × (after : List ℕ) × FrameText e b rest after × LeavesInForce b
tearing_goes_on e stretch rest gone n so_far less =
    let taken = so_far.taken in
    first_there e rest so_far.left.blocks so_far.left.texts so_far.left.leave (omega (arith, less, so_far.begun, ap length taken.split, length-append taken.front rest))

-- The lengths of the parts of a stretch in which a block follows others.
lengths : (stretch front rest t after : List ℕ) → stretch ≡ front ++ rest → rest ≡ t ++ after → length stretch ≡ length front + length t + length after
lengths stretch front rest t after split own = omega (arith, ap length split, length-append front rest, ap length own, length-append t after)

-- The block that follows was written whole, so one more block was.
pub tearing_more : (e : Endianness) (stretch rest after : List ℕ) (gone n : ℕ) (b : Framed) → Tearing e stretch rest gone n → FrameText e b rest after → LeavesInForce b
    → length stretch - length after ≤ gone → Tearing e stretch after gone (n + 1)
tearing_more e stretch rest after gone n b so_far text leaves less =
    let taken = so_far.taken in
    let own = own_text e b rest after text in
    let next = behind_first e rest after b so_far.left.blocks so_far.left.texts so_far.left.leave text in
    record {
      taken = record {
        front = taken.front ++ own.0;
        split = taken.split ∙ ap (λ (l : List ℕ). taken.front ++ l) own.1 ∙ sym (append_assoc taken.front own.0 after);
        stretch = one_more e taken.front own.0 n b taken.stretch own.2 leaves;
      };
      begun = omega (arith, less, lengths stretch taken.front rest own.0 after taken.split own.1, length-append taken.front own.0);
      more = next.0;
      left = next.1;
    }

-- The block that follows was not written whole.
pub tearing_ends : (e : Endianness) (stretch rest after : List ℕ) (gone n : ℕ) (b : Framed) → Tearing e stretch rest gone n → FrameText e b rest after → LeavesInForce b
    → gone < length stretch - length after → TearsBlock e stretch gone (length stretch - length after) n
tearing_ends e stretch rest after gone n b so_far text leaves less =
    let taken = so_far.taken in
    let own = own_text e b rest after text in
    record {
      front = taken.front;
      text = own.0;
      back = after;
      split = taken.split ∙ ap (λ (l : List ℕ). taken.front ++ l) own.1 ∙ sym (append_assoc taken.front own.0 after);
      whole_ones = taken.stretch;
      block = b;
      next = own.2;
      leaves = leaves;
      used_is = omega (arith, lengths stretch taken.front rest own.0 after taken.split own.1);
      begun = so_far.begun;
      torn = less;
    }

-- At most as many blocks are counted as bytes were written.
pub tearing_fewer : (e : Endianness) (stretch rest : List ℕ) (gone n : ℕ) → Tearing e stretch rest gone n → n ≤ gone
tearing_fewer e stretch rest gone n so_far =
    let row = so_far.taken.stretch in
    omega (arith, fewer_blocks e row.blocks so_far.taken.front row.texts, row.count, so_far.begun)

-- Of two rows of blocks at the front of the same bytes, the one that takes all bytes is longer.
longer_row : (e : Endianness) (ks ps : List Framed) (s mid : List ℕ) → Texts frame_format e ks s mid → Texts frame_format e ps s [] → 0 < length mid → length ks < length ps
unfolding frame_format
longer_row e [] [] s mid x y some = absurd (omega (arith, some, ap length x, ap length y))
longer_row e [] (p ∷ ps) s mid x y some = omega arith
longer_row e (k ∷ ks) [] s mid x y some = absurd (nothing_no_text frame_format frames_lawful e k x.0 (subst (λ (t : List ℕ). FrameText e k t x.0) y x.1))
longer_row e (k ∷ ks) (p ∷ ps) s mid x y some =
    let same = text_same frame_format frames_lawful e p k s y.0 x.0 y.1 x.1 in
    let more = longer_row e ks ps x.0 mid x.2 (subst (λ (t : List ℕ). Texts frame_format e ps t []) same.1 y.2) some in
    omega (arith, more)

-- Fewer blocks were written whole than the stretch has.
pub torn_fewer : (e : Endianness) (stretch : List ℕ) (gone used k n : ℕ) → TearsBlock e stretch gone used k → IsStretch e stretch n → k < n
torn_fewer e stretch gone used k n torn row =
    let behind = torn.text ++ torn.back in
    let ones = torn.whole_ones in
    let texts = texts_more frame_format frames_lawful e ones.blocks torn.front [] behind ones.texts in
    let there : Texts frame_format e ones.blocks stretch behind = subst (λ (s : List ℕ). Texts frame_format e ones.blocks s behind) (sym (torn.split ∙ append_assoc torn.front torn.text torn.back)) texts in
    let longer = longer_row e ones.blocks row.blocks stretch behind there row.texts (omega (arith, length-append torn.text torn.back, torn.used_is, torn.begun, torn.torn)) in
    omega (arith, longer, ones.count, row.count)

-- The blocks at the front of a buffer are a stretch.
pub row_of : (e : Endianness) (shown rest : List ℕ) (n : ℕ) → Passes e shown rest n → IsStretch e (take (length shown - length rest) shown) n
row_of e shown rest n taken =
    let is = front_of shown taken.front rest (length shown - length rest) taken.split (omega (arith, rest_within e shown rest n taken)) in
    subst (λ (l : List ℕ). IsStretch e l n) (sym is) taken.stretch

-- A stretch in which a write failed was sent as whole blocks and a part of the next.
pub torn_sent : (e : Endianness) (stretch : List ℕ) (a b : Option (List ℕ)) (gone used n : ℕ) → TearsBlock e stretch gone used n → gone < length stretch → Appends a b (take gone stretch)
    → SendsTorn e (take used stretch) a b n
torn_sent e stretch a b gone used n torn less out =
    let both = torn.front ++ torn.text in
    let count : used + length torn.back ≡ length stretch = omega (arith, ap length torn.split, length-append both torn.back, length-append torn.front torn.text, torn.used_is) in
    let bytes : take used stretch ≡ both = front_of stretch both torn.back used torn.split count in
    let parts : take gone stretch ++ drop gone stretch ≡ torn.front ++ (torn.text ++ torn.back) = take-append-drop gone stretch ∙ torn.split ∙ append_assoc torn.front torn.text torn.back in
    let gone_length : length (take gone stretch) ≡ gone = omega (arith, less, length-take gone stretch) in
    let begun = beginning torn.front (torn.text ++ torn.back) (take gone stretch) (drop gone stretch) (sym parts) (omega (arith, gone_length, torn.begun)) in
    let begun_length : length torn.front + length begun.0 ≡ gone = omega (arith, ap length begun.1, length-append torn.front begun.0, gone_length) in
    let rest = beginning begun.0 (drop gone stretch) torn.text torn.back (sym begun.2) (omega (arith, begun_length, torn.torn, torn.used_is)) in
    let apart = appends_apart a b torn.front begun.0 (subst (λ (l : List ℕ). Appends a b l) begun.1 out) in
    record {
      front = torn.front;
      text = torn.text;
      split = bytes;
      mid = apart.0;
      whole_ones = record { stretch = torn.whole_ones; out = apart.1 };
      block = torn.block;
      next = torn.next;
      leaves = torn.leaves;
      out = (rest.0, omega (arith, ap length rest.1, length-append begun.0 rest.0, begun_length, torn.torn, torn.used_is), record { gone = begun.0; split = rest.1; out = apart.2 });
    }

-- A block that leaves what is in force unchanged, as an item.
abbrev item_left : Section → List Interface → Framed → Item
item_left s is b = record { block = b; after = within s is }

left_text : (s : Section) (is : List Interface) (b : Framed) (bytes rest : List ℕ) → FrameText (order_at (within s is)) b bytes rest → LeavesInForce b
    → BlockText (within s is) (item_left s is b) bytes rest
left_text s is b bytes rest text leaves =
    let means : Means (within s is) b (good (within s is)) = subst (λ (kept : Bool). MeansIf kept (within s is) b (good (within s is))) (sym leaves) refl in
    record { frame = text; means = means }

-- A part of the stretch in a buffer was written.
pub torn_shown : (e : Endianness) (shown rest : List ℕ) (a b : Option (List ℕ)) (gone used k n : ℕ) → Passes e shown rest n → TearsBlock e (take (length shown - length rest) shown) gone used k
    → gone < length (take (length shown - length rest) shown) → Appends a b (take gone (take (length shown - length rest) shown)) → SendsTorn e (take used shown) a b k × (k < n) × (used ≤ length shown)
torn_shown e shown rest a b gone used k n taken torn less out =
    let all = length shown - length rest in
    let stretch = take all shown in
    let within : used ≤ all = omega (arith, ap length torn.split, length-append (torn.front ++ torn.text) torn.back, length-append torn.front torn.text, torn.used_is, length-take all shown) in
    let sent = torn_sent e stretch a b gone used k torn less out in
    (subst (λ (l : List ℕ). SendsTorn e l a b k) (take-take used all shown within) sent, torn_fewer e stretch gone used k n torn (row_of e shown rest n taken), omega (arith, within))

-- Blocks that leave what is in force unchanged are items in that state.
pub leaving : (s : Section) (is : List Interface) (blocks : List Framed) (bytes : List ℕ) → Texts frame_format (order_at (within s is)) blocks bytes [] → All LeavesInForce blocks
    → (items : List Item) × Texts block_format (within s is) items bytes [] × (state_after block_format (within s is) items ≡ within s is) × (length items ≡ length blocks)
unfolding frame_format block_format
leaving s is [] bytes texts leave = ([], texts, refl, refl)
leaving s is (b ∷ blocks) bytes (after, one, others) leave =
    let more = leaving s is blocks after others (All-tail LeavesInForce b blocks leave) in
    (item_left s is b ∷ more.0, (after, left_text s is b bytes after one (All-head LeavesInForce b blocks leave), more.1), more.2, omega (arith, more.3))

module _ (s : Section) (is : List Interface) (order : Endianness) (same : order ≡ order_at (within s is)) where
  -- Blocks that were written whole, as items.
  whole_left : (bytes : List ℕ) (a b : Option (List ℕ)) (n : ℕ) → SendsWhole order bytes a b n → core.SendsWhole block_format as_they_came (within s is) bytes a b n
  whole_left bytes a b n sent =
      let items = leaving s is sent.stretch.blocks bytes (subst (λ (o : Endianness). Texts frame_format o sent.stretch.blocks bytes []) same sent.stretch.texts) sent.stretch.leave in
      record { items = items.0; count = items.3 ∙ sent.stretch.count; texts = items.1; leave = items.2; out = sent.out }

  -- The part of a buffer that was written, as items.
  pub sends_left : (bytes : List ℕ) (a b : Option (List ℕ)) (most n : ℕ) (old new : Bool) (fault : Option PcapError) → Sends order bytes a b most n old new fault
      → core.Sends block_format as_they_came (within s is) bytes a b most n old new fault
  unfolding block_format
  sends_left bytes a b most n old new None sends = (whole_left bytes a b n sends.0, sends.1, sends.2)
  sends_left bytes a b most n old new (Some e) sends =
      let torn = sends.0 in (
        record {
          front = torn.front;
          text = torn.text;
          split = torn.split;
          mid = torn.mid;
          whole_ones = whole_left torn.front a torn.mid n torn.whole_ones;
          item = item_left s is torn.block;
          is_text = left_text s is torn.block torn.text [] (subst (λ (o : Endianness). FrameText o torn.block torn.text []) same torn.next) torn.leaves;
          out = torn.out;
        },
        sends.1,
        sends.2,
        sends.3,
      )
