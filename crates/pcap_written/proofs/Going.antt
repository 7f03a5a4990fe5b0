-- Blocks that are written after others.
use Rattle.std.proofs.Common.{ℕ, List, [], ◌∷◌, ◌++◌, refl, sym, ap, ◌∙◌, append_assoc, append-nil, subst}
use Rattle.std.specs.Prelude.{Option, Ok}
use Rattle.std.specs.Io.KnownBytes.{Appends}
use Rattle.pcap_core.specs.Codec.{number_bytes}
use Rattle.pcap_blocks.specs.ParsedBlock.{Body}
use Rattle.pcap_written.specs.declared.place.Place.{Place}
use Rattle.pcap_written.specs.declared.writer.PcapNgWriter.{PcapNgWriter}
use Rattle.pcap_written.specs.Bodies.{text_of}
use Rattle.pcap_written.specs.Capture.{AreWritten, IsWritten}
use Rattle.pcap_written.specs.Mixed.{GoesOut, GoOut, Written, of_bytes}
use Rattle.pcap_written.specs.Raw.{Raw, WritesRaw, raw_text}
use Rattle.pcap_written.specs.Writing.{OpensWriter, WritesBlock, opening_place, place_of, stream_of}

-- One more block of a value.
pub goes_on : (at mid end : Place) (bodies : List Body) (body : Body) (bytes text : List ℕ) → AreWritten at bodies bytes mid → IsWritten mid body text end
    → AreWritten at (bodies ++ body ∷ []) (bytes ++ text) end
goes_on at mid end [] body bytes text so_far one =
    let here : IsWritten at body text end = subst (λ (p : Place). IsWritten p body text end) so_far.1 one in
    (end, text, [], here, ap (λ (s : List ℕ). s ++ text) so_far.0 ∙ sym (append-nil text), (refl, refl))
goes_on at mid end (first ∷ bodies) body bytes text (behind, head, more, there, parts, others) one =
    (behind, head, more ++ text, there, ap (λ (s : List ℕ). s ++ text) parts ∙ append_assoc head more text, goes_on behind mid end bodies body more text others one)

-- One more block of a value or of bytes.
pub all_go_on : (at mid end : Place) (blocks : List Written) (block : Written) (bytes text : List ℕ) → GoOut at blocks bytes mid → GoesOut mid block text end
    → GoOut at (blocks ++ block ∷ []) (bytes ++ text) end
all_go_on at mid end [] block bytes text so_far one =
    let here : GoesOut at block text end = subst (λ (p : Place). GoesOut p block text end) so_far.1 one in
    (end, text, [], here, ap (λ (s : List ℕ). s ++ text) so_far.0 ∙ sym (append-nil text), (refl, refl))
all_go_on at mid end (first ∷ blocks) block bytes text (behind, head, more, there, parts, others) one =
    (behind, head, more ++ text, there, ap (λ (s : List ℕ). s ++ text) parts ∙ append_assoc head more text, all_go_on behind mid end blocks block more text others one)

-- A successful call that writes a block of a value.
pub good_call : (W : Type 0) (contents : W → Option (List ℕ)) (old new : PcapNgWriter W) (body : Body) (done : Unit {0})
    → WritesBlock contents old new body (Ok done)
    → (text : List ℕ) × IsWritten (place_of old) body text (place_of new) × Appends (contents (stream_of old)) (contents (stream_of new)) text
good_call W contents old new body done (good, (still, place, fit, out)) = (text_of (number_bytes (place_of new).endianness) body, record { place = place; fit = fit; text = refl }, out)

pub good_opening : (W : Type 0) (contents : W → Option (List ℕ)) (writer : W) (made : PcapNgWriter W) (body : Body) → OpensWriter contents body writer (Ok made)
    → (text : List ℕ) × IsWritten opening_place body text (place_of made) × Appends (contents writer) (contents (stream_of made)) text
good_opening W contents writer made body (still, place, fit, out) = (text_of (number_bytes (place_of made).endianness) body, record { place = place; fit = fit; text = refl }, out)

-- A successful call that writes a block of bytes.
pub good_raw_call : (W : Type 0) (contents : W → Option (List ℕ)) (old new : PcapNgWriter W) (raw : Raw) (done : Unit {0}) → WritesRaw contents old new raw (Ok done)
    → GoesOut (place_of old) (of_bytes raw) (raw_text raw) (place_of new) × Appends (contents (stream_of old)) (contents (stream_of new)) (raw_text raw)
good_raw_call W contents old new raw done (good, (still, tells, out)) = ((tells, refl), out)
