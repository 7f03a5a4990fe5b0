-- What the results have in common of the calls that read options, records and names.
use Rattle.std.proofs.Common.{◌≡◌, ◌≢◌, ◌+◌, ◌*◌, ◌^◌, ◌≤◌, ℕ, ℤ, List, [], ◌∷◌, ◌++◌, length, take, drop, Some, None, refl, sym, subst, w32, to_z, of_z}
use Rattle.pcap_core.specs.declared.errors.PcapError.{PcapError}
use Rattle.pcap_core.specs.declared.errors.PcapError.TheVariants as errors
use Rattle.pcap_core.specs.Answer.{Order, Number, Verdict, lacks, faulty, Refuses}
use Rattle.pcap_core.specs.Faults.{Fault, Shows}
use Rattle.pcap_core.specs.Padded.{Behind, Chain}
use Rattle.pcap_core.proofs.Padded.{chain_more}
use Rattle.pcap_options.specs.Names.{NameText, NamesText}
use Rattle.pcap_options.specs.Records.{KeptText, RecordsText}
use Rattle.pcap_options.specs.Record.{Address, AddressText, NameRecord, End, RecordText}
use Rattle.pcap_blocks.specs.StoredPacket.{StoredHead}
use Rattle.pcap_options.proofs.Naming.{split_parts}
use Rattle.pcap_blocks.proofs.StoredPackets.{stored}
use Rattle.pcapfile_values.specs.declared.errors.PcapfileError.{PcapfileError}
use Rattle.pcapfile_values.specs.Refusals.{ShowsError, TellsRefusal}
use Rattle.pcapfile_c.specs.declared.records.PcapfileRecord.{PcapfileRecord}
use Rattle.pcapfile_c.specs.Records.{ShowsAddress, ShowsRecord}
use Rattle.pcapfile_c.proofs.Refused.{tells_refusal}

-- An error that shows a fault refuses for this fault.
shown_refuses : (L : ℕ → Type 0) (F : Fault → Type 0) (e : PcapError) → Shows F e → Refuses ⊥ L F e
shown_refuses L F (errors.InvalidField text) shown = shown
shown_refuses L F (errors.IoError io) shown = shown
shown_refuses L F (errors.Utf8Error utf) shown = shown
shown_refuses L F _ shown = absurd shown

-- The status and the struct report a fault that an error shows.
pub tells_shown : {V : Type 0} (IsSaid : Verdict V → Type 0) (e : PcapError) (told : PcapfileError) (z : ℤ)
    → Shows (λ fault. IsSaid (faulty fault)) e → ShowsError e told z → TellsRefusal IsSaid told (to_z w32 (of_z w32 z))
tells_shown IsSaid e told z shown shows =
    tells_refusal IsSaid e told z (shown_refuses (λ n. IsSaid (lacks n)) (λ fault. IsSaid (faulty fault)) e shown) shows

-- The first bytes of a body.
pub behind_first : (n : ℕ) (s a b : List ℕ) → a ≡ take n s → b ≡ drop n s → length a ≡ n → Behind n s b
behind_first n s a b front back long = record { bytes = a; text = split_parts n s a b front back; length_is = long }

-- The time and the lengths of a packet.
pub packet_head : (order : Order) (high low n o : ℕ) (s a b c d bytes : List ℕ) → Number order 4 high s a → Number order 4 low a b → Number order 4 n b c → Number order 4 o c d
    → StoredHead order (stored (high * 2 ^ 32 + low) n o bytes []) s d
packet_head order high low n o s a b c d bytes h l m k = record {
  after_time = b;
  after_captured = c;
  time_is = record { high = high; low = low; after_high = a; high_is = h; low_is = l; both = refl };
  captured_is = m;
  original_is = k;
}

-- One more name.
pub names_more : (s left rest name : List ℕ) → (names : List (List ℕ)) × Chain NameText names s left → NameText name left rest
    → (names : List (List ℕ)) × Chain NameText names s rest
names_more s left rest name so_far text = (so_far.0 ++ name ∷ [], chain_more NameText so_far.0 s left rest name so_far.1 text)

-- An address and its names.
pub address_found : (type width : ℕ) (v a b : List ℕ) (shown : PcapfileRecord) → width + 2 ≤ length v → a ≡ take width v → b ≡ drop width v → length a ≡ width
    → shown.type_ ≡ type → shown.address.now ≡ a → shown.names.now ≡ b → (names : List (List ℕ)) × NamesText names b []
    → (address : Address) × ShowsAddress type address shown × AddressText width address v []
address_found type width v a b shown long front back wide type_is address_is names_is names = (
  record { bytes = a; names = names.0 },
  record { type_is = type_is; bytes_are = address_is; names_are = subst (λ (l : List ℕ). NamesText names.0 l []) (sym names_is) names.1 },
  record { after = b; long = long; parts = split_parts width v a b front back; wide = wide; names_are = names.1 },
)

-- A record that a struct shows is not the end.
shown_no_end : (r : NameRecord) (shown : PcapfileRecord) → ShowsRecord r (Some shown) → r ≢ End
shown_no_end End shown shows e = absurd shows
shown_no_end _ shown shows e = absurd cc

-- A record that no struct shows is the end.
none_is_end : (r : NameRecord) → ShowsRecord r None → r ≡ End
none_is_end End shows = refl
none_is_end _ shows = absurd shows

-- One more record.
pub records_more : (order : Order) (s left rest : List ℕ) (shown : PcapfileRecord) → (records : List NameRecord) × Chain (KeptText order) records s left
    → (r : NameRecord) × ShowsRecord r (Some shown) × RecordText order r left rest → (records : List NameRecord) × Chain (KeptText order) records s rest
records_more order s left rest shown so_far found =
    let kept : KeptText order found.0 left rest = record { record_is = found.2; no_end = shown_no_end found.0 shown found.1 } in
    (so_far.0 ++ found.0 ∷ [], chain_more (KeptText order) so_far.0 s left rest found.0 so_far.1 kept)

-- All records.
pub records_end : (order : Order) (s left rest : List ℕ) → (records : List NameRecord) × Chain (KeptText order) records s left
    → (r : NameRecord) × ShowsRecord r None × RecordText order r left rest → (records : List NameRecord) × RecordsText order records s rest
records_end order s left rest so_far found =
    let end : RecordText order End left rest = subst (λ (r : NameRecord). RecordText order r left rest) (none_is_end found.0 found.1) found.2 in
    (so_far.0, record { end = left; are = so_far.1; ends = end })
