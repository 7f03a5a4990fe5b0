-- The output of a conversion from classic to PcapNg, as a reader reads it.
use Rattle.std.specs.Prelude.{◌≡◌, ◌+◌, ◌/◌, ◌%◌, ◌^◌, ◌++◌, ℕ, List, [], length, Option, None, pos}
use Rattle.std.specs.Io.KnownBytes.{Appends}
use Rattle.std.specs.List.{AllZip}
use Rattle.pcap_items.specs.Format.{Front}
use Rattle.pcap_items.specs.Takes.{ReadsFront}
use Rattle.pcap_classic.specs.declared.pcap.header.PcapHeader.{PcapHeader}
use Rattle.pcap_classic.specs.declared.run.copy.Copied.{Copied}
use Rattle.pcap_classic.specs.Front.{CaptureFront}
use Rattle.pcap_classic.specs.HeaderText.{HeaderText}
use Rattle.pcap_classic.specs.Packets.{format_under}
use Rattle.pcap_classic.specs.PacketText.{Captured, packet_limit}
use Rattle.pcap_times.specs.declared.clock.Timestamp.{Timestamp}
use Rattle.pcap_ng.specs.Blocks.{Item, block_format}
use Rattle.pcap_file.specs.Converted.{converted, little_texts}
use Rattle.pcap_ng.specs.State.{opening}
use Rattle.pcap_ng.specs.Written.{IsBodyOf}

-- AreBlocksOf: the bytes are a PcapNg capture of the blocks of these packets, with nothing behind them.
pub record AreBlocksOf (header : PcapHeader) (packets : List Captured) (bytes : List ℕ) : Type 0 where
  pub items : List Item
  pub front : Front block_format opening items bytes []
  pub bodies : AllZip IsBodyOf items (converted header packets)

-- IsConversion: the output is a PcapNg capture of the first packets of the input's front: all of them, the first `most`, or those
-- before an error.
pub record IsConversion (bytes : List ℕ) (out_before out_now : Option (List ℕ)) (most : ℕ) (copied : Copied) : Type 0 where
  pub header : PcapHeader
  pub after : List ℕ
  pub packets : List Captured
  pub header_text : HeaderText header bytes after
  pub reads : ReadsFront (format_under packet_limit header) tt after most packets copied.fault copied.read_failed
  pub count : length packets ≡ copied.packets
  pub out : Appends out_before out_now (little_texts (converted header packets))
  pub blocks : AreBlocksOf header packets (little_texts (converted header packets))

-- ConvertsEach: the blocks of all of these packets were written, and nothing was refused.
pub record ConvertsEach (header : PcapHeader) (packets : List Captured) (out_before out_now : Option (List ℕ)) (copied : Copied) : Type 0 where
  pub fine : copied.fault ≡ None
  pub count : copied.packets ≡ length packets
  pub out : Appends out_before out_now (little_texts (converted header packets))

-- The exact time of a packet: its seconds plus the whole seconds among its nanoseconds, and the remaining nanoseconds.
abbrev pub exact_time : Captured → Timestamp
exact_time packet = record { seconds = pos (packet.header.ts_sec + packet.header.ts_nsec / 10 ^ 9); nanoseconds = packet.header.ts_nsec % 10 ^ 9 }

-- BeginsConverted: the output is a beginning of the conversion of these bytes' capture: its header and all packets of its front.
pub record BeginsConverted (bytes gone : List ℕ) : Type 0 where
  pub header : PcapHeader
  pub packets : List Captured
  pub rest : List ℕ
  pub front : CaptureFront packet_limit header packets bytes rest
  pub more : List ℕ
  pub split : little_texts (converted header packets) ≡ gone ++ more
