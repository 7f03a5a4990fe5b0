-- Whole packets that follow each other in a buffer, and are written directly from it.
use Rattle.std.proofs.Common.{◌≡◌, ◌≤◌, ◌<◌, ℕ, ◌+◌, ◌-◌, List, [], ◌∷◌, ◌++◌, length, take, drop, refl, ap, sym, ◌∙◌, subst, arith, append_assoc, append-nil, length-append, take-append-drop, length-drop, Bool, Some, None, ◌⊎◌, inl, inr}
use Rattle.std.specs.Prelude.{Option}
use Rattle.std.proofs.lemmas.Bool.{cases_lt}
use Rattle.std.proofs.lemmas.List.{append_cancel_right, length-take}
use Rattle.std.proofs.lemmas.List.Elements.{All-take}
use Rattle.std.proofs.lemmas.Grind.{flat_map-append}
use Rattle.std.specs.List.{flat_map}
use Rattle.std.specs.Io.KnownBytes.{Appends}
use Rattle.std.proofs.KnownBytes.{Appends-trans}
use Rattle.pcap_core.specs.declared.errors.PcapError.{PcapError}
use Rattle.pcap_classic.specs.declared.pcap.header.PcapHeader.{PcapHeader}
use Rattle.pcap_core.specs.Answer.{number_in, whole, lacks, faulty, Refuses}
use Rattle.pcap_core.specs.Bytes.{IsBytes}
use Rattle.pcap_core.specs.Codec.{number_bytes}
use Rattle.pcap_items.specs.Format.{Texts}
use Rattle.pcap_items.specs.Copying as core
use Rattle.pcap_items.specs.Copying.{each_written}
use Rattle.pcap_items.specs.Writing.{AppendsPart}
use Rattle.pcap_items.proofs.Copying.{appends_apart}
use Rattle.pcap_classic.specs.Copies.{PacketIsSaid}
use Rattle.pcap_classic.specs.Magic.{order_of, resolution_of}
use Rattle.pcap_classic.specs.Packets.{format_under, packet_format, reader_format}
use Rattle.pcap_classic.specs.PacketText.{Captured, PacketSays, packet_limit}
use Rattle.pcap_classic.specs.Stretches.{TakesWhole, SendsWhole, SendsTorn, Sends}
use Rattle.pcap_classic.specs.Written.{record_bytes, written_under}
use Rattle.pcap_items.proofs.Formats.{beginning, nil_of_length, text_same, nothing_no_text, texts_more, texts_own, texts_push}
use Rattle.pcap_items.proofs.Fronts.{stops}
use Rattle.pcap_core.proofs.Texts.{front_of, rest_of}
use Rattle.pcap_core.proofs.WrittenNumbers.{back_bytes}
use Rattle.pcap_classic.proofs.Concrete.{packet_written, packets_written}
use Rattle.pcap_classic.proofs.Copied.{lawful_under}
use Rattle.pcap_classic.proofs.Packets.{packets_refuse, reader_whole}

some_left : (all gone left : List ℕ) → all ≡ gone ++ left → length gone < length all → 0 < length left
some_left all gone left split longer = omega (arith, longer, ap length {x = all} {y = gone ++ left} split, length-append gone left)

module _ (header : PcapHeader) where
  -- Bytes that are refused begin with no packet.
  pub refused_none : (bytes : List ℕ) (e : PcapError)
      → Refuses ⊥ (λ n. PacketSays packet_limit (number_in (order_of header.magic_number)) (resolution_of header.magic_number) bytes (lacks n))
      (λ fault. PacketSays packet_limit (number_in (order_of header.magic_number)) (resolution_of header.magic_number) bytes (faulty fault)) e
      → (packet : Captured) (after : List ℕ) → PacketIsSaid header bytes (whole packet after) → ⊥
  refused_none bytes e refuses packet after text =
      let f = format_under packet_limit header in
      elim (cases_lt 0 (length bytes)) [
        | inl some ↦ (stops f (lawful_under header) tt bytes e some (packets_refuse packet_limit (number_in (order_of header.magic_number)) (resolution_of header.magic_number) tt bytes e refuses)).longest packet after text
        | inr none ↦ nothing_no_text f (lawful_under header) tt packet after (subst (λ (s : List ℕ). PacketIsSaid header s (whole packet after)) (nil_of_length bytes (omega (arith, none))) text)
      ]

  -- The rest is no longer than the bytes.
  pub rest_within : (bytes rest : List ℕ) (packets : List Captured) → Texts (format_under packet_limit header) tt packets bytes rest → length rest ≤ length bytes
  rest_within bytes rest packets texts =
      let own = texts_own (format_under packet_limit header) (lawful_under header) tt packets bytes rest texts in
      omega (arith, ap length own.1, length-append own.0 rest)

  -- If two sequences of packets begin the same bytes, the one that leaves fewer bytes is longer. The other one is followed by
  -- a packet.
  goes_on : (ks ps : List Captured) (s mid rest : List ℕ) → Texts (format_under packet_limit header) tt ks s mid → Texts (format_under packet_limit header) tt ps s rest
      → length rest < length mid → (packet : Captured) × (after : List ℕ) × PacketIsSaid header mid (whole packet after) × (length ks < length ps)
  goes_on [] [] s mid rest x y less = absurd (omega (arith, less, ap length x, ap length y))
  goes_on [] (p ∷ ps) s mid rest x y less = (p, y.0, subst (λ (t : List ℕ). PacketIsSaid header t (whole p y.0)) x y.1, omega arith)
  goes_on (k ∷ ks) [] s mid rest x y less = absurd (omega (arith, less, rest_within s mid (k ∷ ks) x, ap length y))
  goes_on (k ∷ ks) (p ∷ ps) s mid rest x y less =
      let one = text_same (format_under packet_limit header) (lawful_under header) tt p k s y.0 x.0 y.1 x.1 in
      let more = goes_on ks ps x.0 mid rest x.2 (subst (λ (t : List ℕ). Texts (format_under packet_limit header) tt ps t rest) one.1 y.2) less in
      (more.0, more.1, more.2, omega (arith, more.3))

  -- One more packet is written.
  pub sends_more : (text : Captured → List ℕ) (bytes rest after : List ℕ) (a b c : Option (List ℕ)) (n : ℕ) (packet : Captured) → SendsWhole header text bytes rest a b n
      → PacketIsSaid header rest (whole packet after) → Appends b c (text packet) → SendsWhole header text bytes after a c (n + 1)
  sends_more text bytes rest after a b c n packet so_far next out =
      let goes : flat_map text (so_far.packets ++ packet ∷ []) ≡ flat_map text so_far.packets ++ text packet =
      flat_map-append text so_far.packets (packet ∷ []) ∙ ap (λ l. flat_map text so_far.packets ++ l) (append-nil (text packet)) in
      record {
        packets = so_far.packets ++ packet ∷ [];
        count = length-append so_far.packets (packet ∷ []) ∙ omega (arith, so_far.count);
        texts = texts_push (format_under packet_limit header) tt so_far.packets packet bytes rest after so_far.texts next;
        out = subst (λ l. Appends a c l) (sym goes) (Appends-trans a b c (flat_map text so_far.packets) (text packet) so_far.out out);
      }

  -- If the bytes begin with a packet, it is the one that is taken.
  one_taken : (middle rest after : List ℕ) (n : ℕ) (packet : Captured) (qs : List Captured) → length qs ≡ n → Texts (format_under packet_limit header) tt qs middle rest → n ≤ 1
      → (n ≡ 1) ⊎ ((p : Captured) (r : List ℕ) → PacketIsSaid header rest (whole p r) → ⊥) → PacketIsSaid header middle (whole packet after) → after ≡ rest
  one_taken middle rest after n packet [] count texts within ends text =
      elim ends [ inl one ↦ absurd (omega (arith, one, count)) | inr none ↦ absurd (none packet after (subst (λ (t : List ℕ). PacketIsSaid header t (whole packet after)) texts text)) ]
  one_taken middle rest after n packet (q ∷ []) count texts within ends text =
      (text_same (format_under packet_limit header) (lawful_under header) tt packet q middle after texts.0 text texts.1).1 ∙ texts.2
  one_taken middle rest after n packet (q ∷ r ∷ qs) count texts within ends text = absurd (omega (arith, count, within))

  -- All packets of a sequence were written.
  pub all_sent : (bytes rest : List ℕ) (a b : Option (List ℕ)) (most n used : ℕ) → IsBytes bytes → (all : TakesWhole header bytes rest most n) → used + length rest ≡ length bytes
      → Appends a b (take used bytes) → SendsWhole header (written_under header) bytes rest a b n
  all_sent bytes rest a b most n used fits all count out =
      let written = packets_written packet_limit (order_of header.magic_number) (resolution_of header.magic_number) all.packets bytes rest fits all.texts in
      record {
        packets = all.packets;
        count = all.count;
        texts = all.texts;
        out = subst (λ (l : List ℕ). Appends a b l) (front_of bytes (flat_map (written_under header) all.packets) rest used written count) out;
      }

  packet_bytes : (s rest : List ℕ) (packet : Captured) → IsBytes s → PacketIsSaid header s (whole packet rest) → s ≡ written_under header packet ++ rest
  unfolding packet_format
  packet_bytes s rest packet fits text = (packet_written packet_limit (order_of header.magic_number) (resolution_of header.magic_number) packet s rest fits text).0

  -- Held bytes that are a packet are its text, under each header with the same magic number.
  pub held_written : (out : PcapHeader) (held : List ℕ) (packet : Captured) → header.magic_number ≡ out.magic_number → IsBytes held
      → (reader_format packet_limit header).says tt held (whole packet []) → written_under out packet ≡ held
  held_written out held packet same fits says =
      let written = packet_bytes held [] packet fits (reader_whole packet_limit header held [] packet says).1 in
      ap (λ n. record_bytes (number_bytes (order_of n)) (resolution_of n) packet) (sym same) ∙ sym (append-nil (written_under header packet)) ∙ sym written

  -- The written bytes of a packet's text hold no whole packet, so a part of the text is left.
  torn_text : (gone back behind : List ℕ) (packet : Captured) → IsBytes (gone ++ back) → ((p : Captured) (s : List ℕ) → PacketIsSaid header gone (whole p s) → ⊥)
      → PacketIsSaid header (gone ++ back) (whole packet behind) → (left : List ℕ) × (written_under header packet ≡ gone ++ left) × (0 < length left)
  torn_text gone back behind packet fits none text =
      let laws = lawful_under header in
      let bytes = written_under header packet in
      let written : gone ++ back ≡ bytes ++ behind = packet_bytes (gone ++ back) behind packet fits text in
      let own = laws.own tt (gone ++ back) behind packet text in
      let alone : PacketIsSaid header bytes (whole packet []) =
      subst (λ (s : List ℕ). PacketIsSaid header s (whole packet [])) (append_cancel_right own.0 bytes behind (sym own.1 ∙ written)) own.2 in
      let longer : length gone < length bytes = elim (cases_lt (length gone) (length bytes)) [
        | inl lt ↦ lt
        | inr ge ↦
            let z = beginning bytes behind gone back (sym written) ge in
            absurd (none packet z.0 (subst (λ (s : List ℕ). PacketIsSaid header s (whole packet z.0)) (sym z.1) ((laws.stable tt).text bytes z.0 [] packet alone)))
      ] in
      let rest = beginning gone back bytes behind written (omega (arith, longer)) in
      (rest.0, rest.1, some_left bytes gone rest.0 rest.1 longer)

  -- After the packets that were written whole comes a packet of which a part was written.
  torn_behind : (front back begun behind after : List ℕ) (a b : Option (List ℕ)) (most k j : ℕ) (packet : Captured) → IsBytes front → IsBytes (front ++ back) → TakesWhole header front begun most k → k < most
      → Appends a b front → TakesWhole header (begun ++ back) behind 1 j → PacketIsSaid header (begun ++ back) (whole packet after) → SendsTorn header (written_under header) (front ++ back) behind a b k
  torn_behind front back begun behind after a b most k j packet front_fits fits ones fewer out one says =
      let f = format_under packet_limit header in
      let laws = lawful_under header in
      let texts = texts_more f laws tt ones.packets front begun back ones.texts in
      let own = texts_own f laws tt ones.packets (front ++ back) (begun ++ back) texts in
      let none : (p : Captured) (s : List ℕ) → PacketIsSaid header begun (whole p s) → ⊥ = elim ones.stops [ inl full ↦ absurd (omega (arith, full, fewer)) | inr none ↦ none ] in
      let after_is : after ≡ behind = one_taken (begun ++ back) behind after j packet one.packets one.count one.texts one.within one.stops says in
      let text = subst (λ (s : List ℕ). PacketIsSaid header (begun ++ back) (whole packet s)) {x = after} {y = behind} after_is says in
      let torn = torn_text begun back behind packet (back_bytes own.0 (begun ++ back) (subst IsBytes {x = front ++ back} {y = own.0 ++ (begun ++ back)} own.1 fits)) none text in
      let written = packets_written packet_limit (order_of header.magic_number) (resolution_of header.magic_number) ones.packets front begun front_fits ones.texts in
      let apart = appends_apart a b (flat_map (written_under header) ones.packets) begun (subst (λ (l : List ℕ). Appends a b l) {x = front} {y = flat_map (written_under header) ones.packets ++ begun} written out) in
      record {
        middle = begun ++ back;
        mid = apart.0;
        whole_ones = record { packets = ones.packets; count = ones.count; texts = texts; out = apart.1 };
        packet = packet;
        next = text;
        out = (torn.0, torn.2, record { gone = begun; split = torn.1; out = apart.2 });
      }

  -- A write failed within a sequence of packets, after `gone` bytes: the packets that were written whole, and the next, which is torn.
  pub torn_sent : (bytes rest begun behind : List ℕ) (a b : Option (List ℕ)) (most n k j used gone : ℕ) → IsBytes bytes → TakesWhole header bytes rest most n → used + length rest ≡ length bytes
      → gone < used → Appends a b (take gone bytes) → TakesWhole header (take gone bytes) begun most k → TakesWhole header (drop (gone - length begun) bytes) behind 1 j
      → SendsTorn header (written_under header) bytes behind a b k × (k < most)
  torn_sent bytes rest begun behind a b most n k j used gone fits all count less out ones one =
      let f = format_under packet_limit header in
      let laws = lawful_under header in
      let front = take gone bytes in
      let back = drop gone bytes in
      let split : front ++ back ≡ bytes = take-append-drop gone bytes in
      let texts : Texts f tt ones.packets bytes (begun ++ back) =
      subst (λ (s : List ℕ). Texts f tt ones.packets s (begun ++ back)) {x = front ++ back} {y = bytes} split (texts_more f laws tt ones.packets front begun back ones.texts) in
      let own = texts_own f laws tt ones.packets bytes (begun ++ back) texts in
      let begun_within = rest_within front begun ones.packets ones.texts in
      let front_length : length front ≡ gone = omega (arith, count, less, length-take gone bytes) in
      let back_length : gone + length back ≡ length bytes = omega (arith, count, less, length-drop gone bytes) in
      let middle_length : length (begun ++ back) ≡ length begun + length back = length-append begun back in
      let next = goes_on ones.packets all.packets bytes (begun ++ back) rest texts all.texts (omega (arith, count, less, back_length, middle_length)) in
      let fewer : k < most = omega (arith, next.3, all.within, all.count, ones.count) in
      let at : drop (gone - length begun) bytes ≡ begun ++ back =
      rest_of bytes own.0 (begun ++ back) (gone - length begun) own.1 (omega (arith, back_length, middle_length, front_length, begun_within)) in
      let taken = subst (λ (s : List ℕ). TakesWhole header s behind 1 j) {x = drop (gone - length begun) bytes} {y = begun ++ back} at one in
      let front_fits = All-take (λ byte. byte < 256) gone bytes fits in
      let all_fits = subst IsBytes {x = bytes} {y = front ++ back} (sym split) fits in
      let sent = torn_behind front back begun behind next.1 a b most k j next.0 front_fits all_fits ones fewer out taken next.2 in
      (subst (λ (s : List ℕ). SendsTorn header (written_under header) s behind a b k) {x = front ++ back} {y = bytes} split sent, fewer)

  pub sends_within : (text : Captured → List ℕ) (bytes rest : List ℕ) (a b : Option (List ℕ)) (most n : ℕ) (old new : Bool) (fault : Option PcapError)
      → Sends header text bytes rest a b most n old new fault → length rest ≤ length bytes
  sends_within text bytes rest a b most n old new None sends = rest_within bytes rest sends.0.packets sends.0.texts
  sends_within text bytes rest a b most n old new (Some e) sends =
      let torn = sends.0 in
      rest_within bytes rest (torn.whole_ones.packets ++ torn.packet ∷ []) (texts_push (format_under packet_limit header) tt torn.whole_ones.packets torn.packet bytes torn.middle rest torn.whole_ones.texts torn.next)

  module _ (out : PcapHeader) (shown rest : List ℕ) (p q : Option (List ℕ)) (n used : ℕ) (count : used + length rest ≡ length shown) where
    -- The packets that were written whole, as the front of the buffer.
    whole_shown : SendsWhole header (written_under out) shown rest p q n → core.SendsWhole (format_under packet_limit header) (each_written (written_under out)) tt (take used shown) p q n
    whole_shown sent =
        let f = format_under packet_limit header in
        let own = texts_own f (lawful_under header) tt sent.packets shown rest sent.texts in
        record {
          items = sent.packets;
          count = sent.count;
          texts = subst (λ (l : List ℕ). Texts f tt sent.packets l []) (sym (front_of shown own.0 rest used own.1 count)) own.2;
          leave = refl;
          out = sent.out;
        }

    -- The packet that was torn, as the next one of the buffer.
    torn_shown : SendsTorn header (written_under out) shown rest p q n → core.SendsTorn (format_under packet_limit header) (each_written (written_under out)) tt (take used shown) p q n
    torn_shown sent =
        let f = format_under packet_limit header in
        let laws = lawful_under header in
        let own = texts_own f laws tt sent.whole_ones.packets shown sent.middle sent.whole_ones.texts in
        let next = laws.own tt sent.middle rest sent.packet sent.next in
        let split : shown ≡ (own.0 ++ next.0) ++ rest = own.1 ∙ ap (λ l. own.0 ++ l) next.1 ∙ sym (append_assoc own.0 next.0 rest) in
        record {
          front = own.0;
          text = next.0;
          split = front_of shown (own.0 ++ next.0) rest used split count;
          mid = sent.mid;
          whole_ones = record { items = sent.whole_ones.packets; count = sent.whole_ones.count; texts = own.2; leave = refl; out = sent.whole_ones.out };
          item = sent.packet;
          is_text = next.2;
          out = subst (λ (l : List ℕ). AppendsPart sent.mid q l) (sym (append-nil (written_under out sent.packet))) sent.out;
        }

    pub sends_shown : (most : ℕ) (old new : Bool) (fault : Option PcapError) → Sends header (written_under out) shown rest p q most n old new fault
        → core.Sends (format_under packet_limit header) (each_written (written_under out)) tt (take used shown) p q most n old new fault
    sends_shown most old new None sends = (whole_shown sends.0, sends.1, sends.2)
    sends_shown most old new (Some e) sends = (torn_shown sends.0, sends.1, sends.2, sends.3)
