-- Written names are read again.
use Rattle.std.proofs.Common.{◌≡◌, ℕ, ◌<◌, ◌^◌, List, [], ◌∷◌, ◌++◌, length, refl, sym, ap, subst, ◌∙◌, append_assoc, arith}
use Rattle.std.specs.Prelude.{All}
use Rattle.std.specs.List.{flat_map}
use Rattle.std.proofs.lemmas.List.Concat.{flat_map-cons}
use Rattle.std.proofs.lemmas.List.Elements.{All-head, All-tail}
use Rattle.pcap_core.specs.Answer.{Order, whole}
use Rattle.pcap_core.specs.Codec.{Encoder, IsCodec}
use Rattle.pcap_core.specs.Padded.{Chain}
use Rattle.pcap_options.specs.Names.{NameText}
use Rattle.pcap_options.specs.Record.{Address, AddressText, NameRecord, End, Ipv4, Ipv6, Other, Form, RecordText, RecordValueSays, form_of}
use Rattle.pcap_options.specs.NameOption.{name_resolution}
use Rattle.pcap_options.specs.Records.{KeptText, RecordsText}
use Rattle.pcap_blocks.specs.NameResolution.{Resolution, ResolutionText}
use Rattle.pcap_written.specs.Text.{coded_bytes, padded_bytes, list_text}
use Rattle.pcap_written.specs.Bodies.{name_text, address_text, record_text, resolution_text}
use Rattle.pcap_written.specs.Fits.{IsFitName, IsFitAddress, IsFitOther, IsFitRecord, IsFitResolution}
use Rattle.pcap_written.proofs.OptionsAgain.{three, padded_again, coded_again, list_again}

names_again : (names : List (List ℕ)) → All IsFitName names → Chain NameText names (flat_map name_text names) []
names_again [] fit = refl
names_again (n ∷ ns) fit =
    let one = All-head IsFitName n ns fit in
    let more = flat_map name_text ns in
    (more, record { parts = flat_map-cons name_text n ns ∙ append_assoc n (0 ∷ []) more; no_zero = one.no_zero; string = one.string }, names_again ns (All-tail IsFitName n ns fit))

address_again : (width : ℕ) (a : Address) → IsFitAddress width a → AddressText width a (address_text a) []
address_again width a fit = record {
  after = flat_map name_text a.names;
  long = fit.some;
  parts = refl;
  wide = fit.wide;
  names_are = record { are = names_again a.names fit.names; nothing_left = refl };
}

other_says : (type len : ℕ) (v : List ℕ) → IsFitOther type len v → RecordValueSays (form_of type) v (whole (Other type len v) [])
other_says type len v fit = subst (λ (f : Form). RecordValueSays f v (whole (Other type len v) [])) (sym fit.unnamed) (ap (λ (n : ℕ). Other type n v) fit.whole, refl)

module _ (order : Order) (write : Encoder) (c : IsCodec order write) where
  value_again : (r : NameRecord) (type : ℕ) (v rest : List ℕ) → type < 2 ^ 16 → length v < 2 ^ 16 → RecordValueSays (form_of type) v (whole r [])
      → RecordText order r (coded_bytes write type v ++ rest) rest
  value_again r type v rest fits short says =
      let text : RecordText order r (write 2 type ++ (write 2 (length v) ++ (padded_bytes v ++ rest))) rest = record {
        type = type;
        v = v;
        after = padded_bytes v ++ rest;
        head = coded_again order write c type (length v) (padded_bytes v ++ rest) fits short;
        value_is = says;
        padded = padded_again v rest;
      } in
      subst (λ (s : List ℕ). RecordText order r s rest) (sym (three (write 2 type) (write 2 (length v)) (padded_bytes v) rest)) text

  record_again : (r : NameRecord) (rest : List ℕ) → IsFitRecord r → KeptText order r (record_text write r ++ rest) rest
  record_again End rest fit = absurd fit
  record_again (Ipv4 a) rest fit = record { record_is = value_again (Ipv4 a) 1 (address_text a) rest (omega arith) fit.short (a, refl, address_again 4 a fit); no_end = λ e. absurd cc }
  record_again (Ipv6 a) rest fit = record { record_is = value_again (Ipv6 a) 2 (address_text a) rest (omega arith) fit.short (a, refl, address_again 16 a fit); no_end = λ e. absurd cc }
  record_again (Other type len v) rest fit = record { record_is = value_again (Other type len v) type v rest fit.fits fit.short (other_says type len v fit); no_end = λ e. absurd cc }

  records_again : (rs : List NameRecord) (rest : List ℕ) → All IsFitRecord rs → Chain (KeptText order) rs (flat_map (record_text write) rs ++ rest) rest
  records_again [] rest fit = refl
  records_again (r ∷ rs) rest fit =
      let f = record_text write in
      let more = flat_map f rs ++ rest in
      let split : flat_map f (r ∷ rs) ++ rest ≡ f r ++ more = ap (λ (s : List ℕ). s ++ rest) (flat_map-cons f r rs) ∙ append_assoc (f r) (flat_map f rs) rest in
      let one = record_again r more (All-head IsFitRecord r rs fit) in
      (more, subst (λ (s : List ℕ). KeptText order r s more) (sym split) one, records_again rs rest (All-tail IsFitRecord r rs fit))

  pub resolution_again : (b : Resolution) → IsFitResolution order write b → ResolutionText order b (resolution_text write b) []
  resolution_again b fit =
      let list = list_text write name_resolution b.options in
      let end = record_text write End ++ list in
      let ends : RecordText order End end list = value_again End 0 [] list (omega arith) (omega arith) (refl, refl, refl) in
      let records : RecordsText order b.records (resolution_text write b) list = record { end = end; are = records_again b.records end fit.records; ends = ends } in
      record { after = list; records_are = records; options_are = list_again order write c name_resolution b.options fit.options }
