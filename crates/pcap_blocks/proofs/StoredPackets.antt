-- Lemmas for the calls that read packets and statistics.
use Rattle.std.proofs.Common.{◌≡◌, ◌<◌, ℕ, List, [], length}
use Rattle.pcap_core.specs.Answer.{Order, Number}
use Rattle.pcap_core.specs.Faults.{Fault, Invalid}
use Rattle.pcap_core.specs.declared.rules.Rule.TheVariants.{EnhancedCut}
use Rattle.pcap_core.specs.Padded.{up_to_4, Padded, Behind}
use Rattle.pcap_options.specs.Values.{Entry, Kind}
use Rattle.pcap_options.specs.Options.{may_end_with_body, ListFault, OptionsMayGrow}
use Rattle.pcap_blocks.specs.StoredPacket.{Stored, StoredHead, StoredFault, StoredMayGrow, cut, in_options}
use Rattle.pcap_blocks.specs.Time.{TimeText}
use Rattle.pcap_options.specs.EnhancedOption.{enhanced_packet}
use Rattle.pcap_blocks.specs.EnhancedPacket.{EnhancedFault}
use Rattle.pcap_blocks.specs.EnhancedPacket as enhanced
use Rattle.pcap_options.specs.PacketOption.{packet_kind}
use Rattle.pcap_blocks.specs.Packet.{PacketBodyFault}
use Rattle.pcap_blocks.specs.Packet as body
use Rattle.pcap_options.specs.StatisticsOption.{interface_statistics}
use Rattle.pcap_blocks.specs.InterfaceStatistics.{StatisticsFault}
use Rattle.pcap_blocks.specs.InterfaceStatistics as statistics
use Rattle.pcap_core.proofs.Padded.{behind_number, behind_both}

abbrev pub stored : ℕ → ℕ → ℕ → List ℕ → List Entry → Stored
stored t n o bytes options = record { timestamp = t; captured_len = n; original_len = o; bytes = bytes; options = options }

pub stored_head : {order : Order} {t n o : ℕ} {s s1 s2 rest : List ℕ} (bytes : List ℕ) (options : List Entry) → TimeText order t s s1 → Number order 4 n s1 s2 → Number order 4 o s2 rest → StoredHead order (stored t n o bytes options) s rest
stored_head bytes options a b c = record { after_time = _; after_captured = _; time_is = a; captured_is = b; original_is = c }

pub stored_cut : (order : Order) (kind : Kind) (t n o : ℕ) (s rest : List ℕ) → StoredHead order (stored t n o [] []) s rest → length rest < up_to_4 n → StoredFault order kind s (Invalid EnhancedCut)
stored_cut order kind t n o s rest head lt = cut (stored t n o [] []) rest head lt

pub stored_fails : (order : Order) (kind : Kind) (t n o : ℕ) (v s rest after : List ℕ) → StoredHead order (stored t n o v []) s rest → length v ≡ n → Padded v rest after → (f : Fault) → ListFault may_end_with_body order kind after f → StoredFault order kind s f
stored_fails order kind t n o v s rest after head is padded f fault = in_options f (stored t n o v []) rest after head is padded fault

pub stored_grows : (order : Order) (kind : Kind) (t n o : ℕ) (v s rest after : List ℕ) → StoredHead order (stored t n o v []) s rest → length v ≡ n → Padded v rest after → OptionsMayGrow order kind after → StoredMayGrow order kind s
stored_grows order kind t n o v s rest after head is padded grows = record { packet = stored t n o v []; after_head = rest; after_bytes = after; head = head; captured = is; padded = padded; grows = grows }

pub behind_time : {order : Order} {t : ℕ} {s rest : List ℕ} → TimeText order t s rest → Behind 8 s rest
behind_time t = behind_both (behind_number t.high_is) (behind_number t.low_is)

pub enhanced_fails : (order : Order) (s after : List ℕ) → Behind 4 s after → (f : Fault) → StoredFault order enhanced_packet after f → EnhancedFault order s f
enhanced_fails order s after behind f fault = enhanced.in_packet f after behind fault

pub packet_fails : (order : Order) (s after : List ℕ) → Behind 4 s after → (f : Fault) → StoredFault order packet_kind after f → PacketBodyFault order s f
packet_fails order s after behind f fault = body.in_packet f after behind fault

pub statistics_fails : (order : Order) (s after : List ℕ) → Behind 12 s after → (f : Fault) → ListFault may_end_with_body order interface_statistics after f → StatisticsFault order s f
statistics_fails order s after behind f fault = statistics.in_options f after behind fault
