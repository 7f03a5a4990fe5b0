-- A run over a stream of a capture: its header, and then packets under it.
use Rattle.std.proofs.Common.{◌≡◌, ℕ, List, [], true, false, Bool, map, All, refl, sym, subst, ◌∙◌, Some, None, Ok}
use Rattle.std.specs.Prelude.{Option, Result, IfOk, IfSome}
use Rattle.std.proofs.lemmas.List.{map-id}
use Rattle.pcap_core.specs.declared.errors.PcapError.{PcapError}
use Rattle.pcap_core.specs.declared.errors.PcapError.TheVariants.{OutOfMemory}
use Rattle.pcap_classic.specs.declared.pcap.header.PcapHeader.{PcapHeader}
use Rattle.pcap_classic.specs.declared.pcap.packet.Packet.{Packet}
use Rattle.pcap_classic.specs.declared.pcap.reader.PcapReader.{PcapReader}
use Rattle.pcap_classic.specs.declared.run.PcapRead.{PcapRead}
use Rattle.pcap_core.specs.Bytes.{IsOwned}
use Rattle.pcap_core.specs.Answer.{number_in}
use Rattle.pcap_items.specs.Format.{Format}
use Rattle.pcap_classic.specs.HeaderText.{HeaderSays, HeaderText}
use Rattle.pcap_classic.specs.Magic.{is_magic, order_of, resolution_of}
use Rattle.pcap_classic.specs.Packets.{format_under, reader_format, choice}
use Rattle.pcap_classic.specs.Captures.{TakesCapture, ReadsCapture}
use Rattle.pcap_classic.specs.PacketText.{Captured, content_of, packet_limit}
use Rattle.pcap_classic.specs.Reader.{stream_of, has_failed, is_done, data_of, OpensReader}
use Rattle.pcap_items.specs.Reading.{NextGives, Takes}
use Rattle.pcap_items.specs.Takes.{GivesItems, TakesItems, ReadsFront}
use Rattle.pcap_classic.proofs.HeadedPackets.{packets_lawful}
use Rattle.pcap_classic.proofs.Packets.{reader_lawful}
use Rattle.pcap_classic.proofs.Stable.{header_stable}
use Rattle.pcap_items.proofs.Taking.{run_reads, run_takes}

chosen_true : (b : Bool) (f g : Format (Unit {0}) Captured) → b ≡ true → (P : Format (Unit {0}) Captured → Type 0) → P (choice b f g) → P f
chosen_true true f g e P p = p
chosen_true false f g e P p = absurd cc

-- Under a valid magic number a reader reads packets.
pub under_valid : (limit : ℕ) (header : PcapHeader) → is_magic header.magic_number ≡ true → (P : Format (Unit {0}) Captured → Type 0) → P (reader_format limit header) → P (format_under limit header)
unfolding reader_format
under_valid limit header valid P p = chosen_true (is_magic header.magic_number) (format_under limit header) _ valid P p

module _ (limit : ℕ) (header : PcapHeader) (now : Option (List ℕ)) (failed : Bool) (most : ℕ) (vs : List Captured) (fault : Option PcapError) where
  packets_known : (bytes : List ℕ) (after : Option (List ℕ)) → Takes HeaderSays (Some bytes) after header → TakesItems (format_under limit header) tt after now failed most vs fault
      → (rest : List ℕ) × HeaderText header bytes rest × ReadsFront (format_under limit header) tt rest most vs fault failed
  packets_known bytes None took items = absurd took.2
  packets_known bytes (Some rest) took items = (
    rest,
    subst (λ (s : List ℕ). HeaderText header s rest) (sym took.2) (header_stable.text took.0 rest [] header took.1),
    run_reads (format_under limit header) (packets_lawful limit (number_in (order_of header.magic_number)) (resolution_of header.magic_number)) tt rest now failed most vs fault items,
  )

  -- If the bytes are known, the packets are those of their front.
  pub packets_read : (known after : Option (List ℕ)) → Takes HeaderSays known after header → TakesItems (format_under limit header) tt after now failed most vs fault
      → IfSome known (λ bytes. (rest : List ℕ) × HeaderText header bytes rest × ReadsFront (format_under limit header) tt rest most vs fault failed)
  packets_read None after took items = tt
  packets_read (Some bytes) after took items = packets_known bytes after took items

module _ {T : Type 0} (remaining : T → Option (List ℕ)) (most : ℕ) (stream : T) (old now : PcapReader T) (opened : OpensReader remaining stream (Ok old)) where
  -- The result of one call of a reader's `next`.
  abbrev pub GivesPacket : PcapReader T → Option (Result Packet PcapError) → PcapReader T → Type 0
  GivesPacket a r b =
      (b.header ≡ a.header)
      × NextGives ((reader_format packet_limit a.header).says tt) content_of (remaining (stream_of a)) (remaining (stream_of b)) (is_done a) (is_done b) (has_failed a) (has_failed b) r
      × IfSome r (λ given. IfOk given (λ packet. IsOwned packet.data_)) × (data_of b ≡ data_of a)

  -- The packets that a new reader returned.
  pub packets_given : (packets : List Packet) (fault : Option PcapError) → GivesItems GivesPacket (λ refused e. e ≡ OutOfMemory refused) old now most packets fault
      → TakesItems (format_under packet_limit old.header) tt (remaining (stream_of old)) (remaining (stream_of now)) (has_failed now) most (map content_of packets) fault
      × (now.header ≡ old.header) × All (λ packet. IsOwned packet.data_) packets
  packets_given packets fault run =
      let h = old.header in
      let all = run_takes (reader_format packet_limit h) (λ packet. packet) content_of (λ packet. IsOwned packet.data_) GivesPacket (λ refused e. e ≡ OutOfMemory refused) (λ a. a.header ≡ h)
      (λ a. tt) (λ a. remaining (stream_of a)) is_done has_failed (λ a. content_of) (reader_lawful packet_limit h) (record {
        keeps = λ a b r kept step. step.0 ∙ kept;
        next = λ a b r kept step. rw kept at step.1;
        item = λ a b x step. (refl, refl, step.2);
        none = λ a b step. refl;
        refusal = λ a b e step. refl;
        memory = λ refused e is. rw is tt;
      }) old now most packets fault (refl, opened.0, opened.1) run in
      let vs : all.0.items ≡ map content_of packets = sym (map-id all.0.items) ∙ all.0.parts in
      (under_valid packet_limit h opened.2.1.valid (λ f. TakesItems f tt (remaining (stream_of old)) (remaining (stream_of now)) (has_failed now) most (map content_of packets) fault) (rw vs at all.0.run), all.1, all.3)

  pub capture_taken : (read : PcapRead) → GivesItems GivesPacket (λ refused e. e ≡ OutOfMemory refused) old now most read.packets.items read.fault → read.header ≡ now.header → read.failed ≡ has_failed now
      → TakesCapture (remaining stream) most read
  capture_taken read run header failed =
      let given = packets_given read.packets.items read.fault run in
      record { after = remaining (stream_of old); now = remaining (stream_of now); header = rw (header, given.1) opened.2; items = rw (header, given.1, failed) given.0 }

pub capture_read : (known : Option (List ℕ)) (most : ℕ) (read : PcapRead) → TakesCapture known most read → IfSome known (λ bytes. ReadsCapture bytes most read)
capture_read known most read x = packets_read packet_limit read.header x.now read.failed most (map content_of read.packets.items) read.fault known x.after x.header x.items
