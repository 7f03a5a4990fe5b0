-- Strict reading takes each mended block, and mending a block has one result only.
use Rattle.std.proofs.Common.{◌≡◌, ◌≢◌, ◌≤◌, ◌<◌, ◌+◌, ◌-◌, ℕ, List, [], ◌∷◌, ◌++◌, length, take, drop, Bool, true, false, Option, Some, None, Result, Ok, Err, IfErr, refl, sym, ap, subst, ◌∙◌, arith, append_assoc, length-append}
use Rattle.std.specs.Prelude.{All, filter, replicate}
use Rattle.std.specs.List.{flat_map}
use Rattle.std.proofs.lemmas.List.Elements.{All-head, All-tail}
use Rattle.std.proofs.lemmas.List.{drop-append-le, drop-drop, drop-take, drop_at, length-drop, length-replicate, length-take, take-append-le, take-take, take_at, drop_all}
use Rattle.byteorder.specs.Endian.{big_number}
use Rattle.pcap_core.specs.declared.common.Endianness.{Endianness}
use Rattle.pcap_core.specs.Answer.{Order, Number, Verdict, whole, lacks, faulty, number_in}
use Rattle.pcap_core.specs.declared.rules.Rule.TheVariants as rules
use Rattle.pcap_core.specs.Faults.{Fault, Invalid}
use Rattle.pcap_core.specs.Padded.{Behind, Chain, Padded, up_to_4}
use Rattle.pcap_core.proofs.Padded.{behind_both, behind_number}
use Rattle.pcap_blocks.specs.declared.block_type.BlockType.{BlockType}
use Rattle.pcap_blocks.specs.declared.block_type.BlockType.TheVariants as types
use Rattle.pcap_options.specs.Values.{Entry, Kind, Value, shape_at, value_of}
use Rattle.pcap_options.specs.Options.{may_end_with_body, OptionText, OptionList, with_body, ListFault}
use Rattle.pcap_blocks.specs.ParsedBlock.{Body, BodySays}
use Rattle.pcap_blocks.specs.StoredPacket.{Stored, StoredFault, StoredHead}
use Rattle.pcap_blocks.specs.StoredPacket as stored
use Rattle.pcap_options.specs.InterfaceOption.{interface_description}
use Rattle.pcap_blocks.specs.InterfaceDescription.{InterfaceFault}
use Rattle.pcap_blocks.specs.InterfaceDescription as interfaces
use Rattle.pcap_options.specs.StatisticsOption.{interface_statistics}
use Rattle.pcap_blocks.specs.InterfaceStatistics.{StatisticsFault}
use Rattle.pcap_blocks.specs.InterfaceStatistics as statistics
use Rattle.pcap_options.specs.EnhancedOption.{enhanced_packet}
use Rattle.pcap_blocks.specs.EnhancedPacket.{EnhancedFault}
use Rattle.pcap_blocks.specs.EnhancedPacket as enhanced
use Rattle.pcap_options.specs.PacketOption.{packet_kind}
use Rattle.pcap_blocks.specs.Packet.{PacketBodyFault}
use Rattle.pcap_blocks.specs.Packet as packets
use Rattle.pcap_options.specs.SectionOption.{section_header}
use Rattle.pcap_blocks.specs.SectionHeader.{Section, SectionFault, SectionText, magic_order}
use Rattle.pcap_blocks.specs.SectionHeader as sections
use Rattle.pcap_blocks.specs.Time.{TimeText}
use Rattle.pcap_blocks.proofs.OneBody.{body_one}
use Rattle.pcap_options.proofs.OneList.{list_one}
use Rattle.pcap_tolerant_blocks.specs.OptionsAsIs.{JudgedText, judged}
use Rattle.pcap_tolerant_blocks.specs.SoundOptions.{IsPiece, Piece, SoundOptions, are_none, is_sound, kind_of, text_in}
use Rattle.pcap_tolerant_blocks.specs.declared.sound.OptionsOf.{OptionsOf}
use Rattle.pcap_tolerant_blocks.specs.declared.sound.OptionsOf.TheVariants as kinds
use Rattle.pcap_tolerant_blocks.proofs.OneSound.{sound_one}
use Rattle.pcap_written.specs.Raw.{Raw}
use Rattle.pcapfile_mended.specs.Mended.{Becomes, stays, has_body, is_left_out, IsTaken, IsTakenAfter, MendGrows, Mends, sound, stated, flawed, short, lost, OptionsAt, SaysOfRaw, front_length, options_in, packet_front, unstated, with_options}

-- ---- bytes after others

-- The bytes after the first n are those that remain when n are dropped.
behind_drop : {n : ℕ} (s rest : List ℕ) → Behind n s rest → rest ≡ drop n s
behind_drop {n} s rest b = sym (ap (drop n) b.text ∙ drop_at b.bytes rest n b.length_is)

-- A number is read from the first bytes.
number_front : (order : Order) (w n : ℕ) (s rest : List ℕ) → Number order w n s rest → order w (take w s) ≡ n
number_front order w n s rest x = ap (order w) (ap (take w) x.text ∙ take_at x.bytes rest w x.length_is) ∙ x.value

-- ---- sound options are a list

module _ (order : Order) (kind : Kind) where
  -- A list of options that is read is not malformed.
  no_fault : (options : List Entry) (s rest : List ℕ) (fault : Fault) → OptionList may_end_with_body order kind options s rest → ListFault may_end_with_body order kind s fault → ⊥
  no_fault options s rest fault list wrong =
      let one = list_one may_end_with_body order kind s in
      let same : whole options rest ≡ faulty fault = one.only (whole options rest) list ∙ sym (one.only (faulty fault) wrong) in
      absurd cc

  piece_value : (piece : Piece) (rest : List ℕ) (text : JudgedText order kind piece.option (piece.text ++ rest) rest) (r : Result Value Fault) → value_of order (shape_at kind text.code) text.v ≡ r → is_sound piece ≡ true
      → (entry : Entry) × OptionText order kind entry (piece.text ++ rest) rest
  piece_value piece rest text (Ok value) e is_good = (
    record { code = text.code; value = value },
    record { v = text.v; after_head = text.after_head; head = text.head; no_mark = text.no_mark; padded = text.padded; value_is = e },
  )
  piece_value piece rest text (Err fault) e is_good =
      let flawed : piece.option.flaws ≡ (judged text.code text.v (Err fault)).flaws = ap (λ o. o.flaws) (text.is ∙ ap (judged text.code text.v) e) in
      let no : are_none piece.option.flaws ≡ false = ap are_none flawed in
      absurd cc

  -- An option whose value breaks no rule is a strict option, whatever follows it.
  sound_piece : (piece : Piece) (rest : List ℕ) → IsPiece order kind piece → is_sound piece ≡ true → (entry : Entry) × OptionText order kind entry (piece.text ++ rest) rest
  sound_piece piece rest is is_good = let text = is rest in piece_value piece rest text (value_of order (shape_at kind text.code) text.v) refl is_good

  ChainOf : List ℕ → Type 0
  ChainOf s = (options : List Entry) × Chain (OptionText order kind) options s []

  one_kept : (piece : Piece) (pieces : List Piece) (sound : Bool) → is_sound piece ≡ sound → IsPiece order kind piece → ChainOf (flat_map text_in (filter is_sound pieces)) → ChainOf (flat_map text_in (filter is_sound (piece ∷ pieces)))
  unfolding ChainOf
  one_kept piece pieces true e is more =
      let after = flat_map text_in (filter is_sound pieces) in
      let first = sound_piece piece after is e in
      rw e (first.0 ∷ more.0, (after, first.1, more.1))
  one_kept piece pieces false e is more = rw e more

  kept_chain : (pieces : List Piece) → All (IsPiece order kind) pieces → ChainOf (flat_map text_in (filter is_sound pieces))
  unfolding ChainOf
  kept_chain [] are = ([], refl)
  kept_chain (piece ∷ pieces) are = one_kept piece pieces (is_sound piece) refl (All-head (IsPiece order kind) piece pieces are) (kept_chain pieces (All-tail (IsPiece order kind) piece pieces are))

  -- The sound options of a body, concatenated, are a strict list that ends with the body.
  pub kept_list : (s kept : List ℕ) → SoundOptions order kind s kept → (options : List Entry) × OptionList may_end_with_body order kind options kept []
  unfolding ChainOf
  kept_list s kept x =
      let chain = kept_chain x.pieces x.are in
      (chain.0, subst (λ (t : List ℕ). OptionList may_end_with_body order kind chain.0 t []) (sym x.kept_are) (with_body chain.1 tt refl))

-- ---- bodies that break no rule

no_lack : (order : Order) (type : BlockType) (s : List ℕ) (n : ℕ) → BodySays order type s (lacks n) → ⊥
no_lack order types.SectionHeader s n x = x
no_lack order _ s n x = x

taken_as : (order : Order) (type : BlockType) (s : List ℕ) (v : Verdict Body) → BodySays order type s v → ((fault : Fault) → BodySays order type s (faulty fault) → ⊥) → IsTaken order type s true
taken_as order type s (whole body rest) says none = (body, rest, says)
taken_as order type s (lacks n) says none = absurd (no_lack order type s n says)
taken_as order type s (faulty fault) says none = absurd (none fault says)

-- Strict reading takes a body that breaks no rule.
pub taken_unless : (order : Order) (type : BlockType) (s : List ℕ) → ((fault : Fault) → BodySays order type s (faulty fault) → ⊥) → IsTaken order type s true
taken_unless order type s none = let one = body_one order type s in taken_as order type s one.value one.holds none

module _ (order : Order) where
  interface_sound : (options : List Entry) (s rest : List ℕ) → 8 ≤ length s → OptionList may_end_with_body order interface_description options (drop 8 s) rest → (fault : Fault) → InterfaceFault order s fault → ⊥
  interface_sound options s rest long list fault (interfaces.short lt) = omega (arith, lt)
  interface_sound options s rest long list fault (interfaces.in_options _ after behind wrong) =
      no_fault order interface_description options (drop 8 s) rest fault list (subst (λ (t : List ℕ). ListFault may_end_with_body order interface_description t fault) (behind_drop s after behind) wrong)

  statistics_sound : (options : List Entry) (s rest : List ℕ) → 12 ≤ length s → OptionList may_end_with_body order interface_statistics options (drop 12 s) rest → (fault : Fault) → StatisticsFault order s fault → ⊥
  statistics_sound options s rest long list fault (statistics.short lt) = omega (arith, lt)
  statistics_sound options s rest long list fault (statistics.in_options _ after behind wrong) =
      no_fault order interface_statistics options (drop 12 s) rest fault list (subst (λ (t : List ℕ). ListFault may_end_with_body order interface_statistics t fault) (behind_drop s after behind) wrong)

  time_behind : (time : ℕ) (s rest : List ℕ) → TimeText order time s rest → Behind 8 s rest
  time_behind time s rest x = behind_both (behind_number x.high_is) (behind_number x.low_is)

  -- The captured length of a packet is after 12 bytes, and the packet's data after 20.
  head_says : (packet : Stored) (s from after : List ℕ) → Behind 4 s from → StoredHead order packet from after → (order 4 (take 4 (drop 12 s)) ≡ packet.captured_len) × Behind 20 s after
  head_says packet s from after first head =
      let twelve : Behind 12 s head.after_time = behind_both first (time_behind packet.timestamp from head.after_time head.time_is) in
      let captured = number_front order 4 packet.captured_len head.after_time head.after_captured head.captured_is in (
        subst (λ (t : List ℕ). order 4 (take 4 t) ≡ packet.captured_len) (behind_drop s head.after_time twelve) captured,
        behind_both (behind_both twelve (behind_number head.captured_is)) (behind_number head.original_is),
      )

  padded_behind : (v s rest : List ℕ) → Padded v s rest → Behind (up_to_4 (length v)) s rest
  padded_behind v s rest x = record { bytes = v ++ x.padding; text = x.text; length_is = length-append v x.padding ∙ x.aligned }

  stored_sound : (kind : Kind) (options : List Entry) (s rest : List ℕ) → packet_front order s ≤ length s → OptionList may_end_with_body order kind options (drop (packet_front order s) s) rest
      → (fault : Fault) (from : List ℕ) → Behind 4 s from → StoredFault order kind from fault → ⊥
  stored_sound kind options s rest long list fault from first (stored.short lt) = omega (arith, lt, long, ap length first.text, length-append first.bytes from, first.length_is)
  stored_sound kind options s rest long list fault from first (stored.cut packet after head lack) =
      let says = head_says packet s from after first head in
      let room : 20 + up_to_4 packet.captured_len ≤ length s = rw (← says.0) long in
      omega (arith, room, lack, ap length says.1.text, length-append says.1.bytes after, says.1.length_is)
  stored_sound kind options s rest long list fault from first (stored.in_options _ packet after after_bytes head captured padded wrong) =
      let says = head_says packet s from after first head in
      let all : Behind (20 + up_to_4 (length packet.bytes)) s after_bytes = behind_both says.1 (padded_behind packet.bytes after after_bytes padded) in
      let n : 20 + up_to_4 (length packet.bytes) ≡ packet_front order s = ap (λ (k : ℕ). 20 + up_to_4 k) (captured ∙ sym says.0) in
      let there : after_bytes ≡ drop (packet_front order s) s = behind_drop s after_bytes all ∙ ap (λ (k : ℕ). drop k s) n in
      no_fault order kind options (drop (packet_front order s) s) rest fault list (subst (λ (t : List ℕ). ListFault may_end_with_body order kind t fault) there wrong)

  enhanced_sound : (options : List Entry) (s rest : List ℕ) → packet_front order s ≤ length s → OptionList may_end_with_body order enhanced_packet options (drop (packet_front order s) s) rest → (fault : Fault) → EnhancedFault order s fault → ⊥
  enhanced_sound options s rest long list fault (enhanced.short lt) = omega (arith, lt, long)
  enhanced_sound options s rest long list fault (enhanced.in_packet _ after behind wrong) = stored_sound enhanced_packet options s rest long list fault after behind wrong

  packet_sound : (options : List Entry) (s rest : List ℕ) → packet_front order s ≤ length s → OptionList may_end_with_body order packet_kind options (drop (packet_front order s) s) rest → (fault : Fault) → PacketBodyFault order s fault → ⊥
  packet_sound options s rest long list fault (packets.short lt) = omega (arith, lt, long)
  packet_sound options s rest long list fault (packets.in_packet _ after behind wrong) = stored_sound packet_kind options s rest long list fault after behind wrong

section_sound : (e : Endianness) (options : List Entry) (s rest : List ℕ) → 16 ≤ length s → magic_order (big_number 4 (take 4 s)) ≡ Some e → OptionList may_end_with_body (number_in e) section_header options (drop 16 s) rest
    → (fault : Fault) → SectionFault s fault → ⊥
section_sound e options s rest long named list fault (sections.short lt) = omega (arith, lt)
section_sound e options s rest long named list fault (sections.no_magic magic after _ number none) =
    let other : magic_order (big_number 4 (take 4 s)) ≡ None = ap magic_order (number_front big_number 4 magic s after number) ∙ none in
    absurd cc
section_sound e options s rest long named list fault (sections.after_magic _ magic after own number names wrong) =
    let named_too : magic_order (big_number 4 (take 4 s)) ≡ Some own = ap magic_order (number_front big_number 4 magic s after number) ∙ names in
    let same : own ≡ e = cc in
    let behind : Behind 16 s wrong.after_version = behind_both (behind_number number) wrong.behind in
    let there = subst (λ (t : List ℕ). ListFault may_end_with_body (number_in own) section_header t fault) (behind_drop s wrong.after_version behind) wrong.in_options in
    no_fault (number_in e) section_header options (drop 16 s) rest fault list (subst (λ (o : Endianness). ListFault may_end_with_body (number_in o) section_header (drop 16 s) fault) same there)

-- ---- the result of mending

-- The first bytes of a body, followed by others than before.
module _ (n : ℕ) (s kept : List ℕ) (room : n ≤ length s) where
  front_length_is : length (take n s) ≡ n
  front_length_is = omega (arith, length-take n s)

  no_shorter : n ≤ length (take n s ++ kept)
  no_shorter = omega (arith, length-append (take n s) kept, front_length_is)

  behind_front : drop n (take n s ++ kept) ≡ kept
  behind_front = drop_at (take n s) kept n front_length_is

  -- Numbers in the first bytes are unchanged.
  same_front : (k w : ℕ) → k + w ≤ n → take w (drop k (take n s ++ kept)) ≡ take w (drop k s)
  same_front k w le =
      let m = n - k in
      let both : k + m ≡ n = omega arith in
      let inner : drop k (take n s) ≡ take m (drop k s) = ap (λ (j : ℕ). drop k (take j s)) (sym both) ∙ drop-take k m s in
      let cut : drop k (take n s ++ kept) ≡ take m (drop k s) ++ kept = drop-append-le k (take n s) kept (omega (arith, front_length_is)) ∙ ap (λ (t : List ℕ). t ++ kept) inner in
      let long : w ≤ length (take m (drop k s)) = omega (arith, length-take m (drop k s), length-drop k s) in
      ap (take w) cut ∙ take-append-le w (take m (drop k s)) kept long ∙ take-take w m (drop k s) (omega arith)

module _ (order : Order) (s kept : List ℕ) where
  -- The list of the kept options is where the options were.
  list_there : (kind : Kind) (n : ℕ) → n ≤ length s → SoundOptions order kind (drop n s) kept → (options : List Entry) × OptionList may_end_with_body order kind options (drop n (take n s ++ kept)) []
  list_there kind n room x =
      let list = kept_list order kind (drop n s) kept x in
      (list.0, subst (λ (t : List ℕ). OptionList may_end_with_body order kind list.0 t []) (sym (behind_front n s kept room)) list.1)

  interface_kept : 8 ≤ length s → SoundOptions order interface_description (drop 8 s) kept → IsTaken order types.InterfaceDescription (take 8 s ++ kept) true
  interface_kept room x =
      let list = list_there interface_description 8 room x in
      taken_unless order types.InterfaceDescription (take 8 s ++ kept) (interface_sound order list.0 (take 8 s ++ kept) [] (no_shorter 8 s kept room) list.1)

  statistics_kept : 12 ≤ length s → SoundOptions order interface_statistics (drop 12 s) kept → IsTaken order types.InterfaceStatistics (take 12 s ++ kept) true
  statistics_kept room x =
      let list = list_there interface_statistics 12 room x in
      taken_unless order types.InterfaceStatistics (take 12 s ++ kept) (statistics_sound order list.0 (take 12 s ++ kept) [] (no_shorter 12 s kept room) list.1)

  packet_list : (kind : Kind) → packet_front order s ≤ length s → SoundOptions order kind (drop (packet_front order s) s) kept
      → let t = take (packet_front order s) s ++ kept in (packet_front order t ≤ length t) × (options : List Entry) × OptionList may_end_with_body order kind options (drop (packet_front order t) t) []
  packet_list kind room x =
      let n = packet_front order s in
      let t = take n s ++ kept in
      let same : packet_front order t ≡ n = ap (λ (bytes : List ℕ). 20 + up_to_4 (order 4 bytes)) (same_front n s kept room 12 4 (omega arith)) in
      let list = list_there kind n room x in
      (rw same (no_shorter n s kept room), list.0, rw same list.1)

  enhanced_kept : packet_front order s ≤ length s → SoundOptions order enhanced_packet (drop (packet_front order s) s) kept → IsTaken order types.EnhancedPacket (take (packet_front order s) s ++ kept) true
  enhanced_kept room x =
      let t = take (packet_front order s) s ++ kept in
      let list = packet_list enhanced_packet room x in
      taken_unless order types.EnhancedPacket t (enhanced_sound order list.1 t [] list.0 list.2)

  packet_kept : packet_front order s ≤ length s → SoundOptions order packet_kind (drop (packet_front order s) s) kept → IsTaken order types.Packet (take (packet_front order s) s ++ kept) true
  packet_kept room x =
      let t = take (packet_front order s) s ++ kept in
      let list = packet_list packet_kind room x in
      taken_unless order types.Packet t (packet_sound order list.1 t [] list.0 list.2)

-- A section without a stated length is taken with these options.
section_taken : (order : Order) (e : Endianness) (options : List Entry) (s after rest : List ℕ) → 8 ≤ length s → magic_order (big_number 4 (take 4 s)) ≡ Some e → OptionList may_end_with_body (number_in e) section_header options after rest
    → IsTaken order types.SectionHeader (take 8 s ++ (replicate 8 255 ++ after)) true
section_taken order e options s after rest room named list =
    let behind = replicate {A = ℕ} 8 255 ++ after in
    let t = take 8 s ++ behind in
    let long : 16 ≤ length t = omega (arith, length-append (take 8 s) behind, front_length_is 8 s behind room, length-append (replicate {A = ℕ} 8 255) after, length-replicate {A = ℕ} 8 255) in
    let there : drop 16 t ≡ after = sym (drop-drop 8 8 t) ∙ ap (drop 8) (behind_front 8 s behind room) ∙ drop_at (replicate {A = ℕ} 8 255) after 8 (length-replicate {A = ℕ} 8 255) in
    let magic : magic_order (big_number 4 (take 4 t)) ≡ Some e = subst (λ (b : List ℕ). magic_order (big_number 4 b) ≡ Some e) (sym (same_front 8 s behind room 0 4 (omega arith))) named in
    taken_unless order types.SectionHeader t (section_sound e options t rest long magic (subst (λ (b : List ℕ). OptionList may_end_with_body (number_in e) section_header options b rest) (sym there) list))

-- The bytes before a section's options, without its length, and other options.
section_parts : (s kept : List ℕ) → 16 ≤ length s → unstated types.SectionHeader (take 16 s) ++ kept ≡ take 8 s ++ (replicate 8 255 ++ kept)
section_parts s kept room =
    let none : drop 16 (take 16 s) ≡ [] = drop_all 16 (take 16 s) (omega (arith, length-take 16 s)) in
    let front : take 8 (take 16 s) ≡ take 8 s = take-take 8 16 s (omega arith) in
    rw (none, front) (simp append_assoc)

section_kept : (order : Order) (e : Endianness) (s kept : List ℕ) → 16 ≤ length s → magic_order (big_number 4 (take 4 s)) ≡ Some e → SoundOptions (number_in e) section_header (drop 16 s) kept
    → IsTaken order types.SectionHeader (unstated types.SectionHeader (take 16 s) ++ kept) true
section_kept order e s kept room named x =
    let list = kept_list (number_in e) section_header (drop 16 s) kept x in
    subst (λ (t : List ℕ). IsTaken order types.SectionHeader t true) (sym (section_parts s kept room)) (section_taken order e list.0 s kept [] (omega arith) named list.1)

section_stated : (order : Order) (section : Section) (s rest : List ℕ) → SectionText section s rest → IsTaken order types.SectionHeader (unstated types.SectionHeader s) true
section_stated order section s rest x =
    let e = x.endianness in
    let v = x.after.version in
    let behind : Behind 16 s x.after.after_version = behind_both (behind_number x.magic_is) (behind_both (behind_both (behind_number v.major) (behind_number v.minor)) (behind_number v.length_number)) in
    let long : 16 ≤ length s = omega (arith, ap length behind.text, length-append behind.bytes x.after.after_version, behind.length_is) in
    let named : magic_order (big_number 4 (take 4 s)) ≡ Some e = ap magic_order (number_front big_number 4 section.magic s x.after_magic x.magic_is) ∙ x.names in
    section_taken order e section.options s (drop 16 s) rest (omega arith) named
    (subst (λ (t : List ℕ). OptionList may_end_with_body (number_in e) section_header section.options t rest) (behind_drop s x.after.after_version behind) x.after.options_are)

-- ---- the laws

stated_taken : (type : BlockType) (order : Order) (s : List ℕ) (body : Body) (rest : List ℕ) → BodySays order type s (whole body rest) → unstated type s ≢ s → IsTaken order type (unstated type s) true
stated_taken types.SectionHeader order s body rest says other = section_stated order says.0 s rest says.2
stated_taken _ order s body rest says other = absurd (other refl)

-- Strict reading takes a body with these options in this order if only its sound ones are kept.
TakenWith : BlockType → Endianness → List ℕ → List ℕ → OptionsOf → Endianness → Type 0
TakenWith type e s kept of order =
    front_length of (number_in order) s ≤ length s → SoundOptions (number_in order) (kind_of of) (drop (front_length of (number_in order) s) s) kept
    → IsTaken (number_in e) type (unstated type (take (front_length of (number_in order) s) s) ++ kept) true

taken_with : (type : BlockType) (e : Endianness) (s kept : List ℕ) (o of : OptionsOf) (d order : Endianness) → ◌≡◌ {A = Option OptionsOf} (Some o) (Some of) → ◌≡◌ {A = Option Endianness} (Some d) (Some order)
    → TakenWith type e s kept o d → TakenWith type e s kept of order
taken_with type e s kept o of d order same_of same_order taken =
    let same : o ≡ of = cc in
    let order_is : d ≡ order = cc in
    subst (λ (k : OptionsOf). TakenWith type e s kept k order) same (subst (λ (k : Endianness). TakenWith type e s kept o k) order_is taken)

flawed_taken : (type : BlockType) (e : Endianness) (s kept : List ℕ) (of : OptionsOf) (order : Endianness) → OptionsAt (record { type_ = type; endianness = e; body = s }) of order → TakenWith type e s kept of order
unfolding TakenWith
flawed_taken types.SectionHeader e s kept of order at = taken_with types.SectionHeader e s kept kinds.Section of order order at.of_type refl (λ room x. section_kept (number_in e) order s kept room at.named x)
flawed_taken types.InterfaceDescription e s kept of order at = taken_with types.InterfaceDescription e s kept kinds.Interface of e order at.of_type at.named (interface_kept (number_in e) s kept)
flawed_taken types.Packet e s kept of order at = taken_with types.Packet e s kept kinds.Packet of e order at.of_type at.named (packet_kept (number_in e) s kept)
flawed_taken types.InterfaceStatistics e s kept of order at = taken_with types.InterfaceStatistics e s kept kinds.InterfaceStatistics of e order at.of_type at.named (statistics_kept (number_in e) s kept)
flawed_taken types.EnhancedPacket e s kept of order at = taken_with types.EnhancedPacket e s kept kinds.EnhancedPacket of e order at.of_type at.named (enhanced_kept (number_in e) s kept)
flawed_taken _ e s kept of order at = let none : ◌≡◌ {A = Option OptionsOf} None (Some of) = at.of_type in absurd cc

short_taken : (order : Order) (s : List ℕ) → length s < 8 → IsTaken order types.InterfaceDescription (s ++ replicate (8 - length s) 0) true
short_taken order s lt =
    let t = s ++ replicate {A = ℕ} (8 - length s) 0 in
    let eight : length t ≡ 8 = omega (arith, length-append s (replicate {A = ℕ} (8 - length s) 0), length-replicate {A = ℕ} (8 - length s) 0) in
    let none : drop 8 t ≡ [] = drop_all 8 t (omega (arith, eight)) in
    let list : OptionList may_end_with_body order interface_description [] (drop 8 t) [] = with_body none tt refl in
    taken_unless order types.InterfaceDescription t (interface_sound order [] t [] (omega (arith, eight)) list)

pub mended_taken : (raw : Raw) (becomes : Becomes) → Mends raw becomes → IsTakenAfter raw becomes
unfolding TakenWith
mended_taken raw stays (sound body rest says same) = (body, rest, says)
mended_taken raw (has_body _) (stated body rest says other) = stated_taken raw.type_ (number_in raw.endianness) raw.body body rest says other
mended_taken raw (has_body _) (flawed fault of order kept says at x) = flawed_taken raw.type_ raw.endianness raw.body kept of order at at.room x
mended_taken raw (has_body _) (short is lt) = rw is (short_taken (number_in raw.endianness) raw.body lt)
mended_taken raw is_left_out (lost fault says none other) = tt

whole_or_not : (order : Order) (type : BlockType) (s : List ℕ) (body : Body) (rest : List ℕ) (fault : Fault) → BodySays order type s (whole body rest) → BodySays order type s (faulty fault) → ⊥
whole_or_not order type s body rest fault x y =
    let one = body_one order type s in
    let same : whole body rest ≡ faulty fault = one.only (whole body rest) x ∙ sym (one.only (faulty fault) y) in
    absurd cc

-- Strict reading refuses an interface too short for its fixed fields.
short_refused : (type : BlockType) (order : Order) (s : List ℕ) (body : Body) (rest : List ℕ) → type ≡ types.InterfaceDescription → length s < 8 → BodySays order type s (whole body rest) → ⊥
short_refused type order s body rest is lt x =
    let says = subst (λ (t : BlockType). BodySays order t s (whole body rest)) is x in
    whole_or_not order types.InterfaceDescription s body rest (Invalid rules.InterfaceTooShort) says (interfaces.short lt)

pub sound_stays : (raw : Raw) (becomes : Becomes) → IsTaken (number_in raw.endianness) raw.type_ raw.body true → unstated raw.type_ raw.body ≡ raw.body → Mends raw becomes → becomes ≡ stays
sound_stays raw stays taken same (sound body rest says _) = refl
sound_stays raw (has_body _) taken same (stated body rest says other) = absurd (other same)
sound_stays raw (has_body _) taken same (flawed fault of order kept says at x) = absurd (whole_or_not (number_in raw.endianness) raw.type_ raw.body taken.0 taken.1 fault taken.2 says)
sound_stays raw (has_body _) taken same (short is lt) = absurd (short_refused raw.type_ (number_in raw.endianness) raw.body taken.0 taken.1 is lt taken.2)
sound_stays raw is_left_out taken same (lost fault says none other) = absurd (whole_or_not (number_in raw.endianness) raw.type_ raw.body taken.0 taken.1 fault taken.2 says)

-- ---- blocks that are not left out

-- A block whose body strict reading takes isn't left out.
pub sound_is_left : (raw : Raw) → IsTaken (number_in raw.endianness) raw.type_ raw.body true → Mends raw is_left_out → ⊥
sound_is_left raw taken (lost fault says none other) = whole_or_not (number_in raw.endianness) raw.type_ raw.body taken.0 taken.1 fault taken.2 says

-- A block with room for its options isn't left out.
pub options_are_left : (raw : Raw) (of : OptionsOf) (order : Endianness) → OptionsAt raw of order → Mends raw is_left_out → ⊥
options_are_left raw of order at (lost fault says none other) = none of order at

-- An interface isn't left out.
pub interface_is_left : (raw : Raw) → raw.type_ ≡ types.InterfaceDescription → Mends raw is_left_out → ⊥
interface_is_left raw is (lost fault says none other) = other is

-- Such a block may need memory, like one whose body needs a list.
pub mend_grows : {A E : Type 0} (raw : Raw) → MendGrows raw → (r : Result A E) → IfErr r (λ _. MendGrows raw)
mend_grows raw grows (Ok x) = tt
mend_grows raw grows (Err e) = grows

-- ---- one result of mending

of_interface : (of : OptionsOf) → ◌≡◌ {A = Option OptionsOf} (Some kinds.Interface) (Some of) → (order : Order) (s : List ℕ) → front_length of order s ≡ 8
of_interface of e order s = let is : kinds.Interface ≡ of = cc in rw (← is) refl

-- An interface with room for its options has room for its fixed fields.
no_short_at : (raw : Raw) (of : OptionsOf) (order : Endianness) → OptionsAt raw of order → raw.type_ ≡ types.InterfaceDescription → length raw.body < 8 → ⊥
no_short_at raw of order at is lt =
    let of_type : ◌≡◌ {A = Option OptionsOf} (Some kinds.Interface) (Some of) = rw is at at.of_type in
    omega (arith, at.room, of_interface of of_type (number_in order) raw.body, lt)

-- The same options are kept for options of this kind and order.
kept_same : (raw : Raw) (of others : OptionsOf) (order second : Endianness) (kept more : List ℕ) → OptionsAt raw of order → OptionsAt raw others second
    → SoundOptions (number_in order) (kind_of of) (options_in raw of order) kept
    → SoundOptions (number_in second) (kind_of others) (options_in raw others second) more
    → has_body (with_options raw of order kept) ≡ has_body (with_options raw others second more)
kept_same raw of others order second kept more at there x y =
    let some_of : ◌≡◌ {A = Option OptionsOf} (Some others) (Some of) = sym there.of_type ∙ at.of_type in
    let some_order : ◌≡◌ {A = Option Endianness} (Some second) (Some order) = sym there.named ∙ at.named in
    let of_is : others ≡ of = cc in
    let order_is : second ≡ order = cc in
    let first = subst (λ (o : OptionsOf). SoundOptions (number_in second) (kind_of o) (options_in raw o second) more) of_is y in
    let both = subst (λ (e : Endianness). SoundOptions (number_in e) (kind_of of) (options_in raw of e) more) order_is first in
    let one = sound_one (number_in order) (kind_of of) (options_in raw of order) in
    let same : kept ≡ more = one.only kept x ∙ sym (one.only more both) in
    rw (of_is, order_is, same) refl

module _ (raw : Raw) where
  no_sound_fault : (body : Body) (rest : List ℕ) (fault : Fault) → SaysOfRaw raw (whole body rest) → SaysOfRaw raw (faulty fault) → ⊥
  no_sound_fault body rest fault x y = whole_or_not (number_in raw.endianness) raw.type_ raw.body body rest fault x y

  no_sound_short : (body : Body) (rest : List ℕ) → raw.type_ ≡ types.InterfaceDescription → length raw.body < 8 → SaysOfRaw raw (whole body rest) → ⊥
  no_sound_short body rest is lt x = short_refused raw.type_ (number_in raw.endianness) raw.body body rest is lt x

  stated_one : (becomes : Becomes) (body : Body) (rest : List ℕ) → SaysOfRaw raw (whole body rest) → unstated raw.type_ raw.body ≢ raw.body
      → Mends raw becomes → becomes ≡ has_body (unstated raw.type_ raw.body)
  stated_one stays body rest x other (sound _ _ says same) = absurd (other same)
  stated_one (has_body _) body rest x other (stated _ _ says _) = refl
  stated_one (has_body _) body rest x other (flawed fault of order kept says at are) = absurd (no_sound_fault body rest fault x says)
  stated_one (has_body _) body rest x other (short is lt) = absurd (no_sound_short body rest is lt x)
  stated_one is_left_out body rest x other (lost fault says none _) = absurd (no_sound_fault body rest fault x says)

  flawed_one : (becomes : Becomes) (fault : Fault) (of : OptionsOf) (order : Endianness) (kept : List ℕ) → SaysOfRaw raw (faulty fault) → OptionsAt raw of order
      → SoundOptions (number_in order) (kind_of of) (options_in raw of order) kept → Mends raw becomes → becomes ≡ has_body (with_options raw of order kept)
  flawed_one stays fault of order kept x at are (sound body rest says same) = absurd (no_sound_fault body rest fault says x)
  flawed_one (has_body _) fault of order kept x at are (stated body rest says _) = absurd (no_sound_fault body rest fault says x)
  flawed_one (has_body _) fault of order kept x at are (flawed _ others second more says there too) = kept_same raw others of second order more kept there at too are
  flawed_one (has_body _) fault of order kept x at are (short is lt) = absurd (no_short_at raw of order at is lt)
  flawed_one is_left_out fault of order kept x at are (lost _ says none other) = absurd (none of order at)

  short_one : (becomes : Becomes) → raw.type_ ≡ types.InterfaceDescription → length raw.body < 8 → Mends raw becomes
      → becomes ≡ has_body (raw.body ++ replicate (8 - length raw.body) 0)
  short_one stays is lt (sound body rest says same) = absurd (no_sound_short body rest is lt says)
  short_one (has_body _) is lt (stated body rest says _) = absurd (no_sound_short body rest is lt says)
  short_one (has_body _) is lt (flawed fault of order kept says at are) = absurd (no_short_at raw of order at is lt)
  short_one (has_body _) is lt (short _ _) = refl
  short_one is_left_out is lt (lost fault says none other) = absurd (other is)

  lost_one : (becomes : Becomes) → Mends raw is_left_out → Mends raw becomes → becomes ≡ is_left_out
  lost_one stays left (sound body rest says same) = absurd (sound_is_left raw (body, rest, says) left)
  lost_one (has_body _) left (stated body rest says _) = absurd (sound_is_left raw (body, rest, says) left)
  lost_one (has_body _) left (flawed fault of order kept says at are) = absurd (options_are_left raw of order at left)
  lost_one (has_body _) left (short is lt) = absurd (interface_is_left raw is left)
  lost_one is_left_out left x = refl

  pub mended_one : (becomes other : Becomes) → Mends raw becomes → Mends raw other → other ≡ becomes
  mended_one stays other (sound body rest says same) x = sound_stays raw other (body, rest, says) same x
  mended_one (has_body _) other (stated body rest says others) x = stated_one other body rest says others x
  mended_one (has_body _) other (flawed fault of order kept says at are) x = flawed_one other fault of order kept says at are x
  mended_one (has_body _) other (short is lt) x = short_one other is lt x
  mended_one is_left_out other left x = lost_one other left x
