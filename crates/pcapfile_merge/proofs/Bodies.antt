-- Where the bytes of a packet are in the body of its block.
use Rattle.std.proofs.Common.{◌≡◌, ℕ, List, ◌++◌, take, drop, length, Bool, true, false, Option, None, Some, Ok, Err, refl, sym, ap, ◌∙◌, subst, append_assoc, inl, inr}
use Rattle.std.specs.Prelude.{◌||◌, Result, if◌then◌else◌, unwrap_or}
use Rattle.std.specs.List.{slice_get}
use Rattle.std.proofs.Math.Seq.{drop-append_seam, take-append_seam, take-length}
use Rattle.std.proofs.lemmas.Bool.{true≢false}
use Rattle.std.proofs.lemmas.List.{length-take, take_min}
use Rattle.pcap_times.specs.declared.clock.Timestamp.{Timestamp}
use Rattle.pcap_core.specs.declared.common.Endianness.{Endianness}
use Rattle.pcap_core.specs.declared.errors.PcapError.{PcapError}
use Rattle.pcap_core.specs.Answer.{Order, number_in, whole}
use Rattle.pcap_core.specs.Padded.{Behind}
use Rattle.pcap_core.proofs.Padded.{behind_both, behind_number}
use Rattle.pcap_blocks.specs.declared.block_type.BlockType.{BlockType}
use Rattle.pcap_blocks.specs.declared.block_type.BlockType.TheVariants as types
use Rattle.pcap_blocks.specs.EnhancedPacket.{Enhanced}
use Rattle.pcap_blocks.specs.InterfaceDescription.{Interface}
use Rattle.pcap_blocks.specs.ParsedBlock.{Body, BodySays, EnhancedBody, OldPacketBody}
use Rattle.pcap_blocks.specs.StoredBytes.{stored_len}
use Rattle.pcap_blocks.specs.StoredPacket.{Stored, StoredText}
use Rattle.pcap_options.specs.Values.{Kind}
use Rattle.pcap_ng.specs.Bodies.{SaysOfBody}
use Rattle.pcap_ng.specs.Frames.{Framed}
use Rattle.pcap_written.specs.Plain.{plain_packet}
use Rattle.pcap_file.specs.Converted.{little_text}
use Rattle.pcap_file.specs.Placed.{is_packet}
use Rattle.pcapfile_run.specs.BlockPackets.{HoldsPacket, InBlock, packet_in as packet_in_body, snaplen_of}
use Rattle.pcapfile_merge.specs.declared.made.Made.{Made}
use Rattle.pcapfile_merge.specs.declared.packet.Pending.{Pending}
use Rattle.pcapfile_merge.specs.BufferedBlocks.{lent_by}
use Rattle.pcapfile_merge.specs.Keeping.{CarriedBy, IsNumbered, carried_with, first_number, gives, is_carried, is_interface, is_statistics, little_of, with_number}
use Rattle.pcapfile_merge.specs.Making.{DescribesText, IsMade, KeepsText, MakesText, PutsNumbered, PutsText, PutsWhole, made_as}
use Rattle.pcapfile_merge.specs.Packets.{Packet, plain_text}
use Rattle.pcapfile_merge.specs.Passing.{IsSaid, TellsBody, TellsIfPacket, TellsPending, TellsStored, bytes_within, start_of}
use Rattle.pcapfile_merge.specs.Renewing.{options_left_out, renewed}
use Rattle.pcapfile_merge.specs.Taking.{packet_in, text_by}
use Rattle.pcapfile_merge.specs.TakingBlocks.{EndsBlock, GivesOf, IsUnmade, block_under, block_unkept, described_as, enhanced_in, interface_unmade, packet_unmade}

dropped : (n : ℕ) (s rest : List ℕ) → Behind n s rest → drop n s ≡ rest
dropped n s rest behind = ap (drop n) behind.text ∙ ap (λ (k : ℕ). drop k (behind.bytes ++ rest)) (sym behind.length_is) ∙ drop-append_seam behind.bytes rest

-- The bytes of a stored packet come after the 4 bytes before its head and the head of 16 bytes.
stored_bytes : (order : Order) (kind : Kind) (packet : Stored) (s mid rest : List ℕ) → Behind 4 s mid → StoredText order kind packet mid rest → take (length packet.bytes) (drop 20 s) ≡ packet.bytes
stored_bytes order kind packet s mid rest before text =
    let head = text.head in
    let time = head.time_is in
    let all : Behind 20 s text.after_head =
    behind_both before (behind_both (behind_number time.high_is) (behind_both (behind_number time.low_is) (behind_both (behind_number head.captured_is) (behind_number head.original_is)))) in
    let padding = text.padded.padding in
    ap (take (length packet.bytes)) (dropped 20 s text.after_head all ∙ text.padded.text ∙ append_assoc packet.bytes padding text.after_bytes) ∙ take-append_seam packet.bytes (padding ++ text.after_bytes)

taken_taken : {X : Type 0} (n : ℕ) (xs : List X) → take (length (take n xs)) xs ≡ take n xs
taken_taken n xs = ap (λ (k : ℕ). take k xs) (length-take n xs) ∙ take_min n xs

AreThere : List ℕ → InBlock → Type 0
AreThere s packet = take (length packet.bytes) (drop (start_of packet) s) ≡ packet.bytes

none_some : {X : Type 0} (o : Option X) (x : X) → o ≡ None → o ≡ Some x → ⊥
none_some o x none some = let no : ⊥ = cc in no

-- The bytes of a packet are in the body after its start.
body_bytes : (order : Order) (type : BlockType) (interfaces : List Interface) (s rest : List ℕ) (body : Body) (packet : InBlock) → BodySays order type s (whole body rest) → packet_in_body interfaces body ≡ Some packet → AreThere s packet
unfolding AreThere
body_bytes order types.SectionHeader interfaces s rest body packet says is = absurd (none_some (packet_in_body interfaces body) packet (ap (packet_in_body interfaces) says.1) is)
body_bytes order types.InterfaceDescription interfaces s rest body packet says is = absurd (none_some (packet_in_body interfaces body) packet (ap (packet_in_body interfaces) says.1) is)
body_bytes order types.Packet interfaces s rest body packet says is =
    let there = ap (λ (o : Option InBlock). unwrap_or o packet) (sym (ap (packet_in_body interfaces) says.1) ∙ is) in
    let text = says.2 in
    let before : Behind 4 s text.after_drops = behind_both (behind_number text.interface_is) (behind_number text.drops_are) in
    subst (AreThere s) there (stored_bytes order _ says.0.packet s text.after_drops rest before text.packet_is)
body_bytes order types.SimplePacket interfaces s rest body packet says is =
    let there = ap (λ (o : Option InBlock). unwrap_or o packet) (sym (ap (packet_in_body interfaces) says.1) ∙ is) in
    let n = stored_len says.0.original_len (snaplen_of (slice_get interfaces 0)) in
    let bytes = says.0.bytes in
    subst (AreThere s) there (ap (take (length (take n bytes))) (dropped 4 s bytes (behind_number says.2.original_is)) ∙ taken_taken n bytes)
body_bytes order types.NameResolution interfaces s rest body packet says is = absurd (none_some (packet_in_body interfaces body) packet (ap (packet_in_body interfaces) says.1) is)
body_bytes order types.InterfaceStatistics interfaces s rest body packet says is = absurd (none_some (packet_in_body interfaces body) packet (ap (packet_in_body interfaces) says.1) is)
body_bytes order types.EnhancedPacket interfaces s rest body packet says is =
    let there = ap (λ (o : Option InBlock). unwrap_or o packet) (sym (ap (packet_in_body interfaces) says.1) ∙ is) in
    let text = says.2 in
    subst (AreThere s) there (stored_bytes order _ says.0.packet s text.after_interface rest (behind_number text.interface_is) text.packet_is)
body_bytes order types.SystemdJournalExport interfaces s rest body packet says is = absurd (none_some (packet_in_body interfaces body) packet (ap (packet_in_body interfaces) says.1) is)
body_bytes order (types.Unknown n) interfaces s rest body packet says is = absurd (none_some (packet_in_body interfaces body) packet (ap (packet_in_body interfaces) says.1) is)

-- The body of a block of a packet type is that of a packet.
pub packet_there : (order : Order) (type : BlockType) (interfaces : List Interface) (s rest : List ℕ) (body : Body) → is_packet type ≡ true → BodySays order type s (whole body rest) → (packet : InBlock) × (packet_in_body interfaces body ≡ Some packet)
packet_there order types.Packet interfaces s rest body is says =
    let found = says.0 in
    (record { interface = found.interface_id; units = Some found.packet.timestamp; original_len = found.packet.original_len; bytes = found.packet.bytes }, ap (packet_in_body interfaces) says.1)
packet_there order types.SimplePacket interfaces s rest body is says =
    let found = says.0 in (
      record { interface = 0; units = None; original_len = found.original_len; bytes = take (stored_len found.original_len (snaplen_of (slice_get interfaces 0))) found.bytes },
      ap (packet_in_body interfaces) says.1,
    )
packet_there order types.EnhancedPacket interfaces s rest body is says =
    let found = says.0 in
    (record { interface = found.interface_id; units = Some found.packet.timestamp; original_len = found.packet.original_len; bytes = found.packet.bytes }, ap (packet_in_body interfaces) says.1)
packet_there order types.SectionHeader interfaces s rest body is says = absurd (true≢false (sym is))
packet_there order types.InterfaceDescription interfaces s rest body is says = absurd (true≢false (sym is))
packet_there order types.NameResolution interfaces s rest body is says = absurd (true≢false (sym is))
packet_there order types.InterfaceStatistics interfaces s rest body is says = absurd (true≢false (sym is))
packet_there order types.SystemdJournalExport interfaces s rest body is says = absurd (true≢false (sym is))
packet_there order (types.Unknown n) interfaces s rest body is says = absurd (true≢false (sym is))

-- An obsolete packet and the enhanced packet that it becomes hold the same packet.
same_packet : (interfaces : List Interface) (body : Body) → packet_in_body interfaces (renewed body) ≡ packet_in_body interfaces body
same_packet interfaces (OldPacketBody old) = refl
same_packet interfaces body = refl

-- What is said about a renewed body is said about the packet that its block holds.
pub renewed_said : (numbers : List ℕ) (interfaces : List Interface) (body made : Body) (options : ℕ) (packet : InBlock) (result : Result Pending PcapError) → made ≡ renewed body → options ≡ options_left_out body
    → packet_in_body interfaces body ≡ Some packet → TellsBody numbers interfaces made options result → TellsStored numbers interfaces packet (options_left_out body) result
renewed_said numbers interfaces body made options packet result is many holds tells =
    let there : packet_in_body interfaces made ≡ Some packet = ap (packet_in_body interfaces) is ∙ same_packet interfaces body ∙ holds in
    subst (λ (n : ℕ). TellsStored numbers interfaces packet n result) many (subst (λ (o : Option InBlock). TellsIfPacket numbers interfaces o options result) there tells)

-- If no made block is lent, the body is lent.
pub nothing_made : (made : Made) (body : List ℕ) → made.is_lent ≡ false → lent_by made body ≡ body
nothing_made made body none = ap (λ (b : Bool). if b then made.text.items else body) none

-- If a made block is lent, its text is lent.
pub made_lent : (made : Made) (body : List ℕ) → made.is_lent ≡ true → lent_by made body ≡ made.text.items
made_lent made body is = ap (λ (b : Bool). if b then made.text.items else body) is

-- A block that was made is what is held.
made_packet : (p : Packet) (made : Made) (pending : Pending) (body : List ℕ) → IsMade p made pending → packet_in (bytes_within (lent_by made body) pending) pending ≡ p
made_packet p made pending body makes =
    let items = made.text.items in
    let lent = bytes_within (lent_by made body) pending in
    let all : lent ≡ items =
    ap (λ (l : List ℕ). bytes_within l pending) (made_lent made body makes.is_lent) ∙ ap (λ (n : ℕ). take n (drop pending.start items)) makes.len ∙ ap (λ (n : ℕ). take (length items) (drop n items)) makes.start ∙ take-length items in
    let text : text_by pending.is_made pending lent ≡ p.text = ap (λ (b : Bool). text_by b pending lent) makes.is_made ∙ all ∙ makes.text in
    ap (λ (t : Option Timestamp). record { time = t; text = text_by pending.is_made pending lent; is_interface = pending.is_interface; left_out = pending.left_out }) makes.time
    ∙ ap (λ (l : List ℕ). record { time = p.time; text = l; is_interface = pending.is_interface; left_out = pending.left_out }) text
    ∙ ap (λ (b : Bool). record { time = p.time; text = p.text; is_interface = b; left_out = pending.left_out }) makes.is_interface
    ∙ ap (λ (n : ℕ). record { time = p.time; text = p.text; is_interface = p.is_interface; left_out = n }) makes.left_out

module _ (numbers : List ℕ) (interfaces : List Interface) (block : Framed) (packet : InBlock) (is : is_packet block.type_ ≡ true) (holds : HoldsPacket interfaces block packet) where
  -- The case of a packet whose block is made from its bytes.
  pub plain_given : (pending : Pending) (body : List ℕ) → body ≡ block.body → IsSaid numbers interfaces packet (options_left_out holds.body) pending
      → block_under block.endianness pending.number pending.units packet (enhanced_in (renewed holds.body)) ≡ EnhancedBody (plain_packet pending.number pending.units packet.original_len packet.bytes)
      → GivesOf numbers interfaces block (Some (packet_in (bytes_within body pending) pending))
  unfolding AreThere
  plain_given pending body same said plain =
      let there = body_bytes (number_in block.endianness) block.type_ interfaces block.body holds.rest holds.body packet holds.says holds.packet_is in
      let number = pending.number in
      let bytes : bytes_within body pending ≡ packet.bytes =
      ap (λ (l : List ℕ). bytes_within l pending) same ∙ ap (λ (n : ℕ). take n (drop pending.start block.body)) said.len ∙ ap (λ (n : ℕ). take (length packet.bytes) (drop n block.body)) said.start ∙ there in
      let text : text_by pending.is_made pending (bytes_within body pending) ≡ little_text (block_under block.endianness number pending.units packet (enhanced_in (renewed holds.body))) =
      ap (λ (b : Bool). text_by b pending (bytes_within body pending)) said.unmade
      ∙ ap (λ (l : List ℕ). plain_text pending.number pending.units pending.original_len l) bytes
      ∙ ap (λ (n : ℕ). plain_text number pending.units n packet.bytes) said.original_len
      ∙ ap little_text (sym plain) in
      inl (is, packet, holds, record { by = said.by; described = said.described; number = number; is_numbered = said.number; units = pending.units; time = said.time; text = text; no_interface = said.no_interface; left_out = said.left_out })

  -- The case of a packet whose own block was made.
  made_given : (said pending : Pending) (made : Made) (enhanced : Enhanced) → IsSaid numbers interfaces packet (options_left_out holds.body) said → enhanced_in (renewed holds.body) ≡ Some enhanced → IsMade (made_as block.endianness said enhanced) made pending
      → GivesOf numbers interfaces block (Some (packet_in (bytes_within (lent_by made block.body) pending) pending))
  made_given said pending made enhanced tells is_one makes =
      let p = made_as block.endianness said enhanced in
      let gives : GivesOf numbers interfaces block (Some p) = inl (
        is,
        packet,
        holds,
        record {
          by = tells.by;
          described = tells.described;
          number = said.number;
          is_numbered = tells.number;
          units = said.units;
          time = tells.time;
          text = ap (λ (o : Option Enhanced). little_text (block_under block.endianness said.number said.units packet o)) (sym is_one);
          no_interface = refl;
          left_out = tells.left_out;
        },
      ) in
      subst (λ (q : Packet). GivesOf numbers interfaces block (Some q)) (sym (made_packet p made pending block.body makes)) gives

  -- The case of a packet whose own block was not made.
  unmade_ends : (said : Pending) (enhanced : Enhanced) (e : PcapError) → IsSaid numbers interfaces packet (options_left_out holds.body) said → enhanced_in (renewed holds.body) ≡ Some enhanced → IsUnmade block.endianness said.number enhanced e → EndsBlock numbers interfaces block e
  unmade_ends said enhanced e tells is_one unmade = packet_unmade packet holds enhanced is_one said.number tells.number unmade

  made_or_ends_there : (said : Pending) (made : Made) (enhanced : Enhanced) (result : Result Pending PcapError) → IsSaid numbers interfaces packet (options_left_out holds.body) said → enhanced_in (renewed holds.body) ≡ Some enhanced → MakesText block.endianness said enhanced made result
      → TellsPending numbers interfaces block made result
  made_or_ends_there said made enhanced (Ok pending) tells is_one makes = made_given said pending made enhanced tells is_one makes
  made_or_ends_there said made enhanced (Err e) tells is_one makes = unmade_ends said enhanced e tells is_one makes

  -- The block of an enhanced packet was made, or it ended the capture.
  pub made_or_ends : (order : Endianness) (said : Pending) (made : Made) (enhanced : Enhanced) (result : Result Pending PcapError) → order ≡ block.endianness → IsSaid numbers interfaces packet (options_left_out holds.body) said
      → enhanced_in (renewed holds.body) ≡ Some enhanced → MakesText order said enhanced made result → TellsPending numbers interfaces block made result
  made_or_ends order said made enhanced result same tells is_one makes =
      made_or_ends_there said made enhanced result tells is_one (subst (λ (e : Endianness). MakesText e said enhanced made result) same makes)

-- The block of an interface was made, or it ended the capture.
pub described_or_ends : (numbers : List ℕ) (interfaces : List Interface) (block : Framed) (body : Body) (rest : List ℕ) (made : Made) (result : Result Pending PcapError) → is_interface block.type_ ≡ true → SaysOfBody block (whole body rest)
    → DescribesText body made result → TellsPending numbers interfaces block made result
described_or_ends numbers interfaces block body rest made (Err e) is says why = interface_unmade is body rest says why
described_or_ends numbers interfaces block body rest made (Ok pending) is says makes = inr (inl (is, body, rest, says, made_packet (described_as body) made pending block.body makes))

-- A block that is kept was made, or it ended the capture.
pub kept_or_ends : (numbers : List ℕ) (interfaces : List Interface) (block : Framed) (made : Made) (result : Result Pending PcapError) → is_carried interfaces block ≡ true → KeepsText numbers block made result
    → TellsPending numbers interfaces block made result
kept_or_ends numbers interfaces block made (Err e) is why = block_unkept is why
kept_or_ends numbers interfaces block made (Ok pending) is keeps = inr (inr (is, subst (λ (q : Packet). CarriedBy block.type_ numbers block q) (sym (made_packet keeps.0 made pending block.body keeps.2)) keeps.1))

whole_kept : (type : BlockType) (numbers : List ℕ) (block : Framed) → is_statistics type ≡ false → CarriedBy type numbers block (carried_with (little_of block) block)
whole_kept types.InterfaceStatistics numbers block is = absurd (true≢false is)
whole_kept types.SectionHeader numbers block is = refl
whole_kept types.InterfaceDescription numbers block is = refl
whole_kept types.Packet numbers block is = refl
whole_kept types.SimplePacket numbers block is = refl
whole_kept types.NameResolution numbers block is = refl
whole_kept types.EnhancedPacket numbers block is = refl
whole_kept types.SystemdJournalExport numbers block is = refl
whole_kept (types.Unknown n) numbers block is = refl

numbered_kept : (type : BlockType) (numbers : List ℕ) (block : Framed) (own number : ℕ) → is_statistics type ≡ true → first_number block.body ≡ Some own → IsNumbered numbers own number
    → CarriedBy type numbers block (carried_with (with_number number block.body) block)
numbered_kept types.InterfaceStatistics numbers block own number is first numbered = (own, first, number, numbered, refl)
numbered_kept types.SectionHeader numbers block own number is first numbered = absurd (true≢false (sym is))
numbered_kept types.InterfaceDescription numbers block own number is first numbered = absurd (true≢false (sym is))
numbered_kept types.Packet numbers block own number is first numbered = absurd (true≢false (sym is))
numbered_kept types.SimplePacket numbers block own number is first numbered = absurd (true≢false (sym is))
numbered_kept types.NameResolution numbers block own number is first numbered = absurd (true≢false (sym is))
numbered_kept types.EnhancedPacket numbers block own number is first numbered = absurd (true≢false (sym is))
numbered_kept types.SystemdJournalExport numbers block own number is first numbered = absurd (true≢false (sym is))
numbered_kept (types.Unknown n) numbers block own number is first numbered = absurd (true≢false (sym is))

-- The text of a block that is kept as it is was made.
pub puts_whole : (numbers : List ℕ) (block : Framed) (made : Made) (result : Result (Unit {0}) PcapError) → is_statistics block.type_ ≡ false → PutsWhole block made result → PutsText numbers block made result
puts_whole numbers block made (Ok done) is puts = (carried_with (little_of block) block, whole_kept block.type_ numbers block is, puts.0, puts.1, puts.2)
puts_whole numbers block made (Err e) is puts = inl puts

-- The text of statistics was made.
pub puts_numbered : (numbers : List ℕ) (block : Framed) (made : Made) (result : Result (Unit {0}) PcapError) → is_statistics block.type_ ≡ true → PutsNumbered numbers block made result → PutsText numbers block made result
puts_numbered numbers block made (Ok done) is puts =
    (carried_with (with_number puts.2 block.body) block, numbered_kept block.type_ numbers block puts.0 puts.2 is puts.1 puts.3, puts.4, puts.5, puts.6)
puts_numbered numbers block made (Err e) is puts = puts

-- A block that gives something without a packet and an interface is kept.
pub gives_kept : (interfaces : List Interface) (block : Framed) → gives interfaces block ≡ true → is_packet block.type_ ≡ false → is_interface block.type_ ≡ false → is_carried interfaces block ≡ true
gives_kept interfaces block some no_packet no_interface =
    sym (ap (λ (b : Bool). b || (is_interface block.type_ || is_carried interfaces block)) no_packet ∙ ap (λ (b : Bool). b || is_carried interfaces block) no_interface) ∙ some

-- If a body is no enhanced packet, the block is made from the packet's bytes.
pub none_plain : (packet : InBlock) (found : Option Enhanced) → found ≡ None → (order : Endianness) (number units : ℕ) → block_under order number units packet found ≡ EnhancedBody (plain_packet number units packet.original_len packet.bytes)
none_plain packet found none order number units = ap (block_under order number units packet) none
