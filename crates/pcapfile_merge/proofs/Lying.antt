-- Packets that are whole in a buffer.
use Rattle.std.proofs.Common.{◌≡◌, ◌+◌, ◌≤◌, ℕ, List, [], ◌++◌, length, take, drop, Bool, true, false, Option, None, Some, sym, ap, subst, ◌∙◌, append_assoc}
use Rattle.std.specs.Prelude.{◌==◌, if◌then◌else◌, Result, Ok}
use Rattle.std.specs.Io.Buffered.{reader_buffer, reader_capacity, reader_inner, reader_remaining}
use Rattle.std.specs.Io.KnownBytes.{Consumes, prepend_known}
use Rattle.std.specs.declared.io.buffered.BufReader.{BufReader}
use Rattle.std.proofs.Math.Seq.{take-append-add}
use Rattle.std.proofs.lemmas.List.{length-take-le, take-append-drop}
use Rattle.pcap_core.specs.declared.errors.PcapError.{PcapError}
use Rattle.pcap_core.specs.Answer.{whole}
use Rattle.pcap_items.specs.Filling.{Stated}
use Rattle.pcap_items.specs.Reading.{NextGives}
use Rattle.pcap_classic.specs.declared.pcap.header.PcapHeader.{PcapHeader}
use Rattle.pcap_classic.specs.declared.pcap.packet.PacketHeader.{PacketHeader}
use Rattle.pcap_classic.specs.declared.pcap.reader.PcapReader.{PcapReader}
use Rattle.pcap_classic.specs.Packets.{reader_format}
use Rattle.pcap_classic.specs.PacketText.{packet_limit}
use Rattle.pcap_classic.specs.Reader.{has_failed, is_done, lent_packet, stream_of}
use Rattle.pcap_classic.specs.StatedPackets.{KnowsHeader}
use Rattle.pcap_classic.proofs.StatedPackets.{shown_stands}
use Rattle.pcapfile_merge.specs.Buffered.{LiesWhole, left_behind, lent_at, lent_of}

-- The reader takes the first bytes of what it read ahead.
pub front_taken : (b : Bool) (n : ℕ) (s : List ℕ) (known : Option (List ℕ)) → Consumes (if b then None else prepend_known s known) (if b then None else prepend_known (drop n s) known) (take n s)
front_taken true n s known = tt
front_taken false n s None = tt
front_taken false n s (Some rest) = ap (λ (l : List ℕ). l ++ rest) (sym (take-append-drop n s)) ∙ append_assoc (take n s) (drop n s) rest

-- A header and as many bytes after it as it states are a whole packet.
pub lies_whole : (header : PcapHeader) (head : PacketHeader) (n m : ℕ) (s before after : List ℕ) → s ≡ before ++ after → length before ≡ m → m ≡ (reader_format packet_limit header).head tt → KnowsHeader header head n before → n ≤ length after
    → LiesWhole header s head (m + n)
lies_whole header head n m s before after split count is knows within =
    let long : length (take n after) ≡ n = length-take-le n after within in
    let text : take (m + n) s ≡ before ++ take n after = ap (take (m + n)) split ∙ ap (λ (k : ℕ). take (k + n) (before ++ after)) (sym count) ∙ take-append-add before after n in
    let stated : Stated (KnowsHeader header) ((reader_format packet_limit header).head tt) head (take (m + n) s) = record {
      front = before;
      body = take n after;
      split = text;
      length_is = count ∙ is;
      knows = subst (λ (k : ℕ). KnowsHeader header head k before) (sym long) knows;
    } in
    shown_stands header head (take (m + n) s) stated

module _ {R A : Type 0} (remaining : R → Option (List ℕ)) (header : PcapHeader) (before : Option (List ℕ)) (done failed : Bool) where
  -- A packet that is lent from the buffer was taken.
  pub shown_given : (shown : Option ℕ) (reader : PcapReader (BufReader R A)) (head : PacketHeader) (n : ℕ) → shown ≡ None → left_behind remaining (lent_of shown) (stream_of reader) ≡ before → reader.header ≡ header → is_done reader ≡ done → done ≡ false
      → LiesWhole reader.header (reader_buffer (stream_of reader)) head n
      → NextGives ((reader_format packet_limit header).says tt) (lent_at (Some n) reader) before (left_behind remaining n (stream_of reader)) done (is_done reader) failed (has_failed reader) (Some (Ok head))
  shown_given None reader head n none left same is ready lies =
      let stream = stream_of reader in
      let s = reader_buffer stream in
      let went_on : is_done reader ≡ false = is ∙ ready in
      let took : Consumes before (left_behind remaining n stream) (take n s) =
      subst (λ (l : Option (List ℕ)). Consumes l (left_behind remaining n stream) (take n s)) left (front_taken (reader_capacity stream == 0) n s (remaining (reader_inner stream))) in
      let said : (reader_format packet_limit header).says tt (take n s) (whole (lent_at (Some n) reader head) []) =
      subst (λ (h : PcapHeader). (reader_format packet_limit h).says tt (take n s) (whole (lent_at (Some n) reader head) [])) same lies in
      rw ready (went_on, reader.unfailed went_on, (take n s, said, took))
  shown_given (Some m) reader head n none left same is ready lies = absurd (let no : ⊥ = cc in no)

  -- What the reader gives and holds is given by the buffered reader.
  pub held_given : (shown : Option ℕ) (mid new : PcapReader (BufReader R A)) (result : Option (Result PacketHeader PcapError)) → shown ≡ None → left_behind remaining (lent_of shown) (stream_of mid) ≡ before → mid.header ≡ header → is_done mid ≡ done
      → has_failed mid ≡ failed
      → NextGives ((reader_format packet_limit mid.header).says tt) (lent_packet new) (reader_remaining remaining (stream_of mid)) (reader_remaining remaining (stream_of new)) (is_done mid) (is_done new) (has_failed mid) (has_failed new) result
      → NextGives ((reader_format packet_limit header).says tt) (lent_at shown new) before (left_behind remaining (lent_of shown) (stream_of new)) done (is_done new) failed (has_failed new) result
  held_given None mid new result none left same is was gives =
      let after = left_behind remaining 0 (stream_of new) in
      let view = lent_at None new in
      subst (λ (l : Option (List ℕ)). NextGives ((reader_format packet_limit header).says tt) view l after done (is_done new) failed (has_failed new) result) left
      (subst (λ (h : PcapHeader). NextGives ((reader_format packet_limit h).says tt) view (left_behind remaining 0 (stream_of mid)) after done (is_done new) failed (has_failed new) result) same
      (subst (λ (b : Bool). NextGives ((reader_format packet_limit mid.header).says tt) view (left_behind remaining 0 (stream_of mid)) after b (is_done new) failed (has_failed new) result) is
      (subst (λ (b : Bool). NextGives ((reader_format packet_limit mid.header).says tt) view (left_behind remaining 0 (stream_of mid)) after (is_done mid) (is_done new) b (has_failed new) result) was gives)))
  held_given (Some m) mid new result none left same is was gives = absurd (let no : ⊥ = cc in no)
