-- Packets of blocks that a reader takes from its buffer.
use Rattle.std.proofs.Common.{◌≡◌, ◌+◌, ℕ, List, [], length, map, take, Bool, true, false, Option, None, Some, Result, Ok, refl, sym, ap, ◌∙◌, subst}
use Rattle.std.specs.Prelude.{◌==◌, if◌then◌else◌}
use Rattle.std.specs.Io.Buffered.{reader_buffer, reader_capacity, reader_inner, reader_remaining}
use Rattle.std.specs.declared.io.buffered.BufReader.{BufReader}
use Rattle.pcap_times.specs.declared.clock.Timestamp.{Timestamp}
use Rattle.pcap_core.specs.declared.common.Endianness.{Endianness}
use Rattle.pcap_core.specs.declared.errors.PcapError.{PcapError}
use Rattle.pcap_blocks.specs.InterfaceDescription.{Interface}
use Rattle.pcap_blocks.specs.EnhancedPacket.{Enhanced}
use Rattle.pcap_blocks.specs.ParsedBlock.{EnhancedBody}
use Rattle.pcap_options.specs.Values.{Entry}
use Rattle.pcap_written.specs.Plain.{plain_packet}
use Rattle.pcap_blocks.specs.SectionHeader.{Section, magic_order}
use Rattle.pcap_ng.specs.declared.pcapng.enhanced.EnhancedNumbers.{EnhancedNumbers}
use Rattle.pcap_ng.specs.declared.pcapng.reader.PcapNgReader.{PcapNgReader}
use Rattle.pcap_ng.specs.Blocks.{Item}
use Rattle.pcap_ng.specs.Enhanced.{PacketText, enhanced_frame}
use Rattle.pcap_ng.specs.Frames.{FrameText, Framed, frame_format}
use Rattle.pcap_ng.specs.Lent.{body_in}
use Rattle.pcap_file.specs.Placing as placing
use Rattle.pcap_ng.specs.Reader.{body_of, interfaces_in_force, section_in_force, state_of, stream_of}
use Rattle.pcap_ng.specs.State.{interfaces_at, or_big, order_at, within}
use Rattle.pcap_ng.proofs.EnhancedFrames.{packet_item, packet_says}
use Rattle.pcap_ng.proofs.Lent.{held_block}
use Rattle.pcap_ng.proofs.Stretched.{own_text}
use Rattle.pcap_core.proofs.Texts.{front_of}
use Rattle.pcapfile_run.specs.BlockPackets.{HoldsPacket, InBlock}
use Rattle.pcapfile_merge.specs.declared.kept.Kept.{Kept}
use Rattle.pcapfile_merge.specs.declared.left_out.LeftOut.{LeftOut}
use Rattle.pcapfile_merge.specs.declared.made.Made.{Made}
use Rattle.pcapfile_merge.specs.declared.packet.Pending.{Pending}
use Rattle.pcapfile_merge.specs.declared.stored.Said.{Said}
use Rattle.pcapfile_merge.specs.BufferedBlocks.{PlainText, lent_by, progress_at, source_at, text_in}
use Rattle.pcapfile_merge.specs.Keeping.{Progress, is_carried, of_section, progress_with, with_item}
use Rattle.pcapfile_merge.specs.Passing.{TellsStored, TellsTaken, bytes_within, in_said}
use Rattle.pcapfile_merge.specs.Reordered.{little_entry}
use Rattle.pcapfile_merge.specs.Taking.{packet_in}
use Rattle.pcapfile_merge.specs.TakingBlocks.{GivesOf, IsGoing, IsTimeBy, TakesItem, numbered}
use Rattle.pcapfile_merge.proofs.Bodies.{nothing_made, plain_given}
use Rattle.pcapfile_merge.proofs.Lying.{front_taken}
use Rattle.pcapfile_merge.proofs.Turning.{passed_none}

-- What an enhanced packet in the buffer says.
abbrev pub said_of : EnhancedNumbers → Said
said_of packet = record { interface = packet.interface; units = Some packet.units; original_len = packet.original; len = packet.stored; left_out = 0 }

-- The result for what a block says is the result for the packet in the buffer.
pub told_there : (numbers others : List ℕ) (lent interfaces : List Interface) (said : Said) (packet : EnhancedNumbers) (result : Result Pending PcapError) → numbers ≡ others → lent ≡ interfaces → said ≡ said_of packet
    → ((bytes : List ℕ) → said.len ≡ length bytes → TellsStored numbers lent (in_said said bytes) said.left_out result) → (bytes : List ℕ) → packet.stored ≡ length bytes → TellsStored others interfaces (in_said (said_of packet) bytes) 0 result
told_there numbers others lent interfaces said packet result them there is tells =
    let at = subst (λ (n : List ℕ). (bytes : List ℕ) → said.len ≡ length bytes → TellsStored n lent (in_said said bytes) said.left_out result) them tells in
    let here = subst (λ (l : List Interface). (bytes : List ℕ) → said.len ≡ length bytes → TellsStored others l (in_said said bytes) said.left_out result) there at in
    subst (λ (s : Said). (bytes : List ℕ) → s.len ≡ length bytes → TellsStored others interfaces (in_said s bytes) s.left_out result) is here

either : {X : Type 0} (b : Bool) (x : X) → (if b then x else x) ≡ x
either true x = refl
either false x = refl

-- The body of a block is within its text.
packet_body : (e : Endianness) (packet : EnhancedNumbers) (s : List ℕ) (text : PlainText e packet s []) → body_in s ≡ text.body
unfolding frame_format
packet_body e packet s text = ap (λ (b : Framed). b.body) (held_block e (enhanced_frame e text.frame.0 text.body) s text.frame.1)

-- The block of an enhanced packet without options is the block of a packet.
pub plain_text_of : (e : Endianness) (packet : EnhancedNumbers) (s rest : List ℕ) → PlainText e packet s rest → PacketText e packet s rest
plain_text_of e packet s rest text = record { body = text.body; frame = text.frame; tells = (text.enhanced, text.after, text.text, text.tells) }

-- A block in front of other bytes is a block by itself.
pub plain_alone : (e : Endianness) (packet : EnhancedNumbers) (s rest : List ℕ) (n : ℕ) → PlainText e packet s rest → n + length rest ≡ length s → PlainText e packet (take n s) []
plain_alone e packet s rest n text size =
    let b = enhanced_frame e text.frame.0 text.body in
    let own = own_text e b s rest text.frame.1 in
    let same : take n s ≡ own.0 = front_of s own.0 rest n own.1 size in
    record {
      body = text.body;
      frame = (text.frame.0, subst (λ (t : List ℕ). FrameText e b t []) (sym same) own.2);
      enhanced = text.enhanced;
      after = text.after;
      text = text.text;
      tells = text.tells;
      plain = text.plain;
    }

-- The block of an enhanced packet without options is made from its numbers and bytes.
plain_enhanced : (order : Endianness) (number units : ℕ) (enhanced : Enhanced) → enhanced.packet.options ≡ [] → length enhanced.packet.bytes ≡ enhanced.packet.captured_len → units ≡ enhanced.packet.timestamp
    → EnhancedBody (numbered order number enhanced) ≡ EnhancedBody (plain_packet number units enhanced.packet.original_len enhanced.packet.bytes)
plain_enhanced order number units enhanced none captured counted =
    let packet = enhanced.packet in
    ap (λ (o : List Entry). EnhancedBody (record { interface_id = number; packet = record { timestamp = packet.timestamp; captured_len = packet.captured_len; original_len = packet.original_len; bytes = packet.bytes; options = map (little_entry order) o } })) none
    ∙ ap (λ (n : ℕ). EnhancedBody (record { interface_id = number; packet = record { timestamp = packet.timestamp; captured_len = n; original_len = packet.original_len; bytes = packet.bytes; options = [] } })) (sym captured)
    ∙ ap (λ (t : ℕ). EnhancedBody (plain_packet number t packet.original_len packet.bytes)) (sym counted)

-- The units of a time are those that its packet has.
units_of : (by : Interface) (counted : ℕ) (time : Option Timestamp) (units : ℕ) → IsTimeBy by (Some counted) time units → units ≡ counted
units_of by counted None units is = absurd is
units_of by counted (Some time) units is = is.1

-- The byte order of a section's blocks.
pub order_there : (section there : Section) (interfaces : List Interface) (e : Endianness) → section ≡ there → magic_order section.magic ≡ Some e → e ≡ order_at (within there interfaces)
unfolding order_at
order_there section there interfaces e same named = ap or_big (sym named) ∙ ap (λ (s : Section). or_big (magic_order s.magic)) same

module _ {R A : Type 0} (remaining : R → Option (List ℕ)) (numbers : List ℕ) (a : Progress) where
  -- The buffered reader takes the block that the reader takes and holds.
  pub held_taken : (shown : Option ℕ) (mid reader : PcapNgReader (BufReader R A)) (before kept : Kept) (made : Made) (result : Result (Option Pending) PcapError) → shown ≡ None → progress_at remaining shown mid before ≡ a
      → TellsTaken numbers (progress_with before (placing.source_of (reader_remaining remaining) mid)) (progress_with kept (placing.source_of (reader_remaining remaining) reader)) (lent_by made (body_of reader)) result
      → TellsTaken numbers a (progress_at remaining shown reader kept) (lent_by made (body_in (text_in shown reader))) result
  held_taken None mid reader before kept made result none same tells =
      subst (λ (s : Progress). TellsTaken numbers s (progress_at remaining None reader kept) (lent_by made (body_in (text_in None reader))) result) same tells
  held_taken (Some n) mid reader before kept made result none same tells = absurd (let no : ⊥ = cc in no)

  module _ (shown : Option ℕ) (reader : PcapNgReader (BufReader R A)) (kept : Kept) (packet : EnhancedNumbers) (n : ℕ) (none : shown ≡ None) (same : progress_at remaining shown reader kept ≡ a) (ready : a.source.done ≡ false)
      (text : PlainText (order_at (state_of reader)) packet (take n (reader_buffer (stream_of reader))) []) where
    item_there : Item
    item_there = packet_item (order_at (state_of reader)) text.frame.0 text.body (state_of reader)

    -- An enhanced packet isn't counted.
    uncounted : kept ≡ with_item item_there kept
    unfolding item_there
    uncounted = sym (ap (λ (l : LeftOut). record { left_out = l; before = kept.before; all = kept.all }) (either (is_carried (interfaces_at item_there.after) item_there.block) kept.left_out))

    starts : progress_at remaining None reader kept ≡ a
    starts = subst (λ (o : Option ℕ). progress_at remaining o reader kept ≡ a) none same

    going : IsGoing a.source
    going =
        let done : (source_at remaining None reader).done ≡ false = ap (λ (s : Progress). s.source.done) starts ∙ ready in
        (ready, sym (ap (λ (s : Progress). s.source.failed) starts) ∙ reader.unfailed done)

    next_there : TakesItem a (progress_at remaining (Some n) reader kept) item_there
    unfolding item_there
    next_there =
        let stream = stream_of reader in
        let s = reader_buffer stream in
        let done : (source_at remaining None reader).done ≡ false = ap (λ (s : Progress). s.source.done) starts ∙ ready in
        subst (λ (b : Progress). TakesItem b (progress_at remaining (Some n) reader kept) item_there) starts (
          record {
            took = (take n s, packet_says (order_at (state_of reader)) (section_in_force reader) (interfaces_in_force reader) refl text.frame.0 text.body (take n s) [] text.frame.1, front_taken (reader_capacity stream == 0) n s (remaining (reader_inner stream)));
            leads = refl;
            no_read_failed = reader.unfailed done;
            went_on = done;
            goes_on = done;
          },
          uncounted,
        )

    gives_there : (pending : Pending) (body : List ℕ) → body ≡ text.body
        → ((bytes : List ℕ) → packet.stored ≡ length bytes → TellsStored (of_section kept numbers) (interfaces_in_force reader) (in_said (said_of packet) bytes) 0 (Ok pending))
        → GivesOf (of_section kept numbers) (interfaces_in_force reader) item_there.block (Some (packet_in (bytes_within body pending) pending))
    unfolding item_there
    gives_there pending body same tells =
        let interfaces = interfaces_in_force reader in
        let enhanced = text.enhanced in
        let bytes = enhanced.packet.bytes in
        let says = text.tells in
        let stored : InBlock = record { interface = enhanced.interface_id; units = Some enhanced.packet.timestamp; original_len = enhanced.packet.original_len; bytes = bytes } in
        let is : in_said (said_of packet) bytes ≡ stored = rw (says.interface_is, says.units_are, says.original_is) refl in
        let holds : HoldsPacket interfaces item_there.block stored = record { body = EnhancedBody enhanced; rest = text.after; says = (enhanced, refl, text.text); packet_is = refl } in
        let said = subst (λ (p : InBlock). TellsStored (of_section kept numbers) interfaces p 0 (Ok pending)) is (tells bytes says.stored_is) in
        let units = units_of said.by enhanced.packet.timestamp pending.time pending.units said.time in
        plain_given (of_section kept numbers) interfaces item_there.block stored refl holds pending body same said
        (plain_enhanced item_there.block.endianness pending.number pending.units enhanced text.plain text.text.packet_is.captured units)

    -- A packet that is whole in the buffer was taken.
    pub shown_taken : (pending : Pending) (made : Made) → made.is_lent ≡ false
        → ((bytes : List ℕ) → packet.stored ≡ length bytes → TellsStored (of_section kept numbers) (interfaces_in_force reader) (in_said (said_of packet) bytes) 0 (Ok pending))
        → TellsTaken numbers a (progress_at remaining (Some n) reader kept) (lent_by made (body_in (text_in (Some n) reader))) (Ok (Some pending))
    unfolding item_there
    shown_taken pending made unmade tells =
        let there = body_in (text_in (Some n) reader) in
        let body = packet_body (order_at (state_of reader)) packet (take n (reader_buffer (stream_of reader))) text in
        (a, (passed_none a going).passes, item_there, next_there, gives_there pending (lent_by made there) (nothing_made made there unmade ∙ body) tells)
