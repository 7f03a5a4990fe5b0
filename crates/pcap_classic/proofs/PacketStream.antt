-- A packet from a stream is its header and then its data.
use Rattle.std.proofs.Common.{◌≡◌, ℕ, List, [], ◌++◌, length, Bool, sym, append-nil, Err, Some, None, ◌⊎◌, inl, inr, arith}
use Rattle.std.specs.Prelude.{⊤, Option, IfSome}
use Rattle.std.specs.Io.KnownBytes.{Consumes}
use Rattle.std.proofs.KnownBytes.{Consumes-trans}
use Rattle.pcap_classic.specs.declared.common.TsResolution.{TsResolution}
use Rattle.pcap_core.specs.declared.errors.PcapError.{PcapError}
use Rattle.pcap_classic.specs.declared.pcap.packet.PacketHeader.{PacketHeader}
use Rattle.pcap_core.specs.Answer.{Order, lacks, faulty}
use Rattle.pcap_items.specs.Early.{EarlyFault}
use Rattle.pcap_core.specs.Faults.{Fault}
use Rattle.pcap_classic.specs.PacketText.{content_of, PacketHeaderText, PacketHeaderSays, PacketText, PacketSays}
use Rattle.pcap_items.specs.Reading.{IsFaultOf, TakesAsked, Reads, ReadsWhere}
use Rattle.pcap_items.specs.Streams.{TakesFewer, HasCauseToTake}
use Rattle.pcap_classic.specs.Packets.{packet_format}
use Rattle.pcap_items.proofs.Asked.{asked_more}
use Rattle.pcap_items.proofs.Pulling.{array_asked}
use Rattle.pcap_classic.proofs.HeadedPackets.{packet_stable, packets_lawful}
use Rattle.pcap_classic.proofs.FieldNumbers.{head_length}
use Rattle.pcap_core.proofs.Refusals.{shows_more}
use Rattle.pcap_classic.proofs.Stable.{packet_header_more}

module _ (limit : ℕ) (order : Order) (r : TsResolution) where
  pub packet_joined : (header : PacketHeader) (t bytes : List ℕ) → PacketHeaderText limit order r header t [] → length bytes ≡ header.incl_len
      → PacketText limit order r (record { header = header; bytes = bytes }) (t ++ bytes) []
  packet_joined header t bytes text count = record {
    after = bytes;
    header = packet_header_more bytes limit order r header t [] text;
    data_is = sym (append-nil bytes);
    whole = count;
  }

  early_more : (rest : List ℕ) (fault : Fault) → EarlyFault (PacketHeaderSays limit order r) rest fault → EarlyFault (PacketSays limit order r) rest fault
  early_more rest fault early = record { n = early.n; lack = inl early.lack; certain = early.certain }

  shown_more : (known : Option (List ℕ)) (fault : Fault)
      → IfSome known (λ rest. PacketHeaderSays limit order r rest (faulty fault) ⊎ EarlyFault (PacketHeaderSays limit order r) rest fault)
      → IfSome known (λ rest. PacketSays limit order r rest (faulty fault) ⊎ EarlyFault (PacketSays limit order r) rest fault)
  shown_more None fault shown = tt
  shown_more (Some rest) fault shown = elim shown [ inl stands ↦ inl stands | inr early ↦ inr (early_more rest fault early) ]

  -- An error of a packet's header is an error of the packet.
  pub header_refuses_packet : (e : PcapError) (before after : Option (List ℕ)) → Reads (PacketHeaderSays limit order r) (λ (header : PacketHeader). header) before after (Err e)
      → ReadsWhere ⊤ (PacketSays limit order r) content_of before after (Err e)
  header_refuses_packet e before after why = (
    record {
      taken = why.0.taken;
      from_stream = why.0.from_stream;
      asked = λ n less. let short = why.0.asked n less in record { n = short.n; lack = inl short.lack };
    },
    elim why.1 [
      | inl io ↦ inl io
      | inr (inl memory) ↦ absurd memory.0
      | inr (inr bad) ↦
          let step : (fault : Fault) → IsFaultOf (PacketHeaderSays limit order r) before fault → IsFaultOf (PacketSays limit order r) before fault =
          λ fault is. record { bytes = is.bytes; stands = is.stands; some = is.some; shown = shown_more before fault is.shown } in
          inr (inr (shows_more step e bad))
    ],
  )

  -- The header was taken, and less data than it states.
  data_asked : (header : PacketHeader) (t : List ℕ) (before mid after : Option (List ℕ)) → PacketHeaderText limit order r header t [] → Consumes before mid t
      → TakesFewer header.incl_len mid after → TakesAsked (PacketSays limit order r) before after
  unfolding packet_format
  data_asked header t before mid after text came part =
      let ask : PacketSays limit order r t (lacks header.incl_len) = inr (record { header = header; after = []; text = text; some = omega (arith, part.2); missing = omega arith }) in
      let long : length t ≡ 16 = omega (arith, head_length order text.head t [] text.text) in
      let short = array_asked (PacketSays limit order r) (packet_stable limit order r) 16 (λ s n sum some. inl (record { some = some; missing = sum })) t (omega (arith, long)) in
      record {
        taken = t ++ part.0;
        from_stream = Consumes-trans before mid after t part.0 came part.1;
        asked = asked_more (packet_format limit order r) (packets_lawful limit order r) tt header.incl_len t part.0 ask (omega (arith, part.2)) short;
      }

  -- The data did not come.
  pub data_refuses_packet : (e : PcapError) (header : PacketHeader) (t : List ℕ) (before mid after : Option (List ℕ)) (old new : Bool) → PacketHeaderText limit order r header t [] → Consumes before mid t
      → TakesFewer header.incl_len mid after → HasCauseToTake header.incl_len mid old new e → ReadsWhere ⊤ (PacketSays limit order r) content_of before after (Err e)
  data_refuses_packet e header t before mid after old new text came part cause = (
    data_asked header t before mid after text came part,
    elim cause [ inl (inl memory) ↦ inr (inl (tt, memory.0)) | inl (inr failed) ↦ inl failed.0 | inr ended ↦ inl ended.0 ],
  )
