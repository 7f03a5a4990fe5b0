-- The blocks of a capture that comes in pieces.
use Rattle.std.proofs.Common.{◌≡◌, ℕ, ℤ, List, [], ◌∷◌, ◌++◌, refl, sym, ap, subst, ◌∙◌, append-nil, inl, inr}
use Rattle.std.specs.List.{AllZip}
use Rattle.pcap_items.specs.Format.{Front, Texts, state_after}
use Rattle.pcap_items.proofs.Formats.{state_push, texts_more, texts_push}
use Rattle.pcap_core.proofs.Kept.{zip_push}
use Rattle.pcap_ng.specs.Blocks.{Item, BlockSays, MayGrow, block_format}
use Rattle.pcap_ng.specs.State.{State, opening}
use Rattle.pcap_ng.proofs.BlockFormat.{blocks_lawful, block_said}
use Rattle.pcapfile_values.specs.declared.blocks.PcapfileBlock.{PcapfileBlock}
use Rattle.pcapfile_values.specs.declared.blocks.PcapfileSection.{PcapfileSection}
use Rattle.pcapfile_values.specs.declared.errors.PcapfileError.{PcapfileError}
use Rattle.pcapfile_values.specs.declared.shown.PcapfileHeader.{PcapfileHeader}
use Rattle.pcapfile_values.specs.Blocks.{ShowsState, ShowsBlock}
use Rattle.pcapfile_c.specs.declared.push.PcapfilePush.{PcapfilePush}
use Rattle.pcapfile_c.specs.BlockPushes.{BlocksHaveEnded, GivesBlock, KeepsSection}
use Rattle.pcapfile_c.specs.Push.{held_in}
use Rattle.pcapfile_c.specs.PushBlocks.{TakesNextBlock}
use Rattle.pcapfile_c.specs.RoomCalls.{all_given, all_put, under_status}
use Rattle.pcapfile_c.specs.Readers.{block_reader}
use Rattle.pcapfile_c.proofs.RoomLaws.{come_before, given_all, none_refused, none_refused_where, not_for_memory, put_all, refused_no_text, stays}

abbrev Shows : Item → PcapfileBlock → Type 0
Shows item block = ShowsBlock item.block block

-- The state after these blocks.
abbrev behind : List Item → State
behind items = state_after block_format opening items

-- The bytes `s` are the texts of these blocks, which were returned, and the held bytes; and the struct shows the state after the blocks.
abbrev BlocksCome : List ℕ → PcapfileSection → List ℕ → List PcapfileBlock → Type 0
BlocksCome s section held given = (items : List Item) × Texts block_format opening items s held × ShowsState section (behind items) × AllZip Shows items given

-- The same for any header.
abbrev Known : List ℕ → PcapfileHeader → PcapfileSection → List ℕ → List PcapfileBlock → Type 0
Known s header section held given = BlocksCome s section held given

block_puts : (s t held : List ℕ) (header : PcapfileHeader) (section : PcapfileSection) (given : List PcapfileBlock) → BlocksCome s section held given → BlocksCome (s ++ t) section (held ++ t) given
block_puts s t held header section given x = (x.0, texts_more block_format blocks_lawful opening x.0 s held t x.1, x.2, x.3)

block_keeps : (s held : List ℕ) (header : PcapfileHeader) (section next : PcapfileSection) (given : List PcapfileBlock) → KeepsSection section next → BlocksCome s section held given → BlocksCome s next held given
block_keeps s held header section next given same x = (x.0, x.1, subst (λ (t : PcapfileSection). ShowsState t (behind x.0)) (sym same) x.2, x.3)

pub behind_push : (q : State) (items : List Item) (item : Item) → state_after block_format q (items ++ item ∷ []) ≡ item.after
unfolding block_format
behind_push q items item = state_push block_format q items item

block_taken : (before push : PcapfilePush) (section next : PcapfileSection) (room s : List ℕ) (given : List PcapfileBlock) (old block : PcapfileBlock) (error told : PcapfileError) (z : ℤ)
    → (x : BlocksCome s section (held_in before room) given) → TakesNextBlock (behind x.0) room (block_reader section before old error) (block_reader next push block told) z
    → BlocksCome s next (held_in push room) (given ++ under_status z (block ∷ []))
block_taken before push section next room s given old block error told z x (inl (rest, inl t)) =
    let says = block_said (behind x.0) t.2 (held_in before room) (held_in push room) t.5 in
    let some : under_status z (block ∷ []) ≡ block ∷ [] = ap (λ (k : ℤ). under_status k (block ∷ [])) t.0 in
    let shows : ShowsState next (behind (x.0 ++ t.2 ∷ [])) = subst (λ (q : State). ShowsState next q) (sym (behind_push opening x.0 t.2)) t.4 in
    rw some (x.0 ++ t.2 ∷ [], texts_push block_format opening x.0 t.2 s (held_in before room) (held_in push room) x.1 says, shows, zip_push Shows x.0 given t.2 block x.3 t.3)
block_taken before push section next room s given old block error told z x (inl (rest, inr t)) =
    let q = behind x.0 in
    let none = none_refused_where (MayGrow q (held_in before room)) (BlockSays q (held_in before room)) told z (block ∷ []) t.3 in
    stays Known s (held_in before room) (held_in push room) push.header push.header section next given (under_status z (block ∷ [])) refl t.0 t.1 none x
block_taken before push section next room s given old block error told z x (inr l) =
    let none : under_status z (block ∷ []) ≡ [] = ap (λ (k : ℤ). under_status k (block ∷ [])) l.0 in
    stays Known s (held_in before room) (held_in push room) push.header push.header section next given (under_status z (block ∷ [])) refl l.3 (ap (λ (p : PcapfilePush). held_in p room) l.2) none x

block_goes : (z : ℤ) (before push : PcapfilePush) (section next : PcapfileSection) (room s : List ℕ) (given more : List PcapfileBlock) → GivesBlock z before section room push next more
    → BlocksCome s section (held_in before room) given → BlocksCome s next (held_in push room) (given ++ more)
block_goes z before push section next room s given more g x =
    rw g.3 (block_taken before push section next room s given g.2.old g.0 g.2.error g.1 z x (g.2.takes (behind x.0) x.2))

module _ (calls : List (List ℕ × List PcapfileBlock)) (push : PcapfilePush) (section : PcapfileSection) (room : List ℕ) (e : BlocksHaveEnded calls push section room) where
  AreFront : Type 0
  AreFront = (items : List Item) × Front block_format opening items (all_put e.earlier) (held_in push room) × ShowsState section (behind items) × AllZip Shows items (all_given e.earlier ++ e.given)

  last_come : (x : BlocksCome (all_put e.earlier) e.last_kept (held_in e.last room) (all_given e.earlier)) → (old block : PcapfileBlock) (error told : PcapfileError) → e.given ≡ under_status e.status (block ∷ [])
      → TakesNextBlock (behind x.0) room (block_reader e.last_kept e.last old error) (block_reader section push block told) e.status → AreFront
  unfolding AreFront block_format
  last_come x old block error told given (inl (rest, inl t)) = absurd (e.refused t.0)
  last_come x old block error told given (inl (rest, inr t)) =
      let q = behind x.0 in
      let s = held_in e.last room in
      let refused = not_for_memory (MayGrow q s) (BlockSays q s) told e.status e.ends.0 t.3 in
      let none = given ∙ none_refused (BlockSays q s) told e.status (block ∷ []) refused in
      let front : Front block_format opening x.0 (all_put e.earlier) s = record { texts = x.1; longest = λ item after text. refused_no_text block_format blocks_lawful q s told e.status refused item after text } in
      rw (none, append-nil (all_given e.earlier)) (x.0, rw t.1 front, rw t.0 x.2, x.3)
  last_come x old block error told given (inr l) = absurd (e.ends.1 l.0)

  -- The law: for any pieces of the bytes and any calls, the returned blocks are those of the front of all bytes.
  pub pushed_blocks : (items : List Item) × Front block_format opening items (all_put calls) (held_in push room) × ShowsState section (behind items) × AllZip Shows items (all_given calls)
  unfolding AreFront
  pushed_blocks =
      let come = come_before GivesBlock KeepsSection Known block_puts block_goes block_keeps _ _ calls push section room e ([], refl, e.fresh, tt) in
      let last = e.tells in
      let front = last_come come last.2.old last.0 last.2.error last.1 last.3 (last.2.takes (behind come.0) come.2) in
      let put = put_all GivesBlock KeepsSection Known block_puts block_goes block_keeps _ _ calls push section room e in
      let given = given_all GivesBlock KeepsSection Known block_puts block_goes block_keeps _ _ calls push section room e in
      rw (put, given) front
