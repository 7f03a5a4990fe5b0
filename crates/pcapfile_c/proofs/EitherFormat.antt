-- The result of the call that reads a packet of a capture of either format.
use Rattle.std.proofs.Common.{◌≡◌, ℕ, ℤ, List, refl, ap, subst, inl, inr, pos, w32, of_z}
use Rattle.pcap_classic.specs.HeaderText.{HeaderSays}
use Rattle.pcapfile_values.specs.declared.any_packets.PcapfileAnyPacket.{PcapfileAnyPacket}
use Rattle.pcapfile_values.specs.declared.errors.PcapfileError.{PcapfileError}
use Rattle.pcapfile_values.specs.declared.shown.PcapfileHeader.{PcapfileHeader}
use Rattle.pcapfile_values.specs.declared.shown.PcapfilePacket.{PcapfilePacket}
use Rattle.pcapfile_values.specs.AnyPackets.{ShowsCaptured}
use Rattle.pcapfile_values.specs.Shown.{captured}
use Rattle.pcapfile_c.specs.declared.any.PcapfileCapture.{PcapfileCapture}
use Rattle.pcapfile_c.specs.AnyCaptures.{EndTells, HasEnded, TakesCaptured}
use Rattle.pcapfile_c.specs.Calls.{PacketsSaid}
use Rattle.pcapfile_c.specs.Push.{TakesFront}
use Rattle.pcapfile_c.specs.Readers.{header_reader}
use Rattle.pcapfile_c.proofs.Refused.{refusal_not_0}

-- A packet was read and is shown.
pub front_found : (before now : PcapfileHeader) (s rest : List ℕ) (old packet : PcapfilePacket) (error told : PcapfileError) (z : ℤ) → TakesFront (header_reader before s old error) (header_reader now rest packet told) z
    → of_z w32 z ≡ 0 → (start any : PcapfileAnyPacket) → ShowsCaptured now.link (captured packet) any → TakesCaptured (header_reader before s start error) (header_reader now rest any told) (pos 0)
front_found before now s rest old packet error told z (inl x) ok start any shows = inl (refl, x.1, captured packet, x.2, shows)
front_found before now s rest old packet error told z (inr (inl x)) ok start any shows = absurd (refusal_not_0 (PacketsSaid now.magic_number rest) told z x.2 ok)
front_found before now s rest old packet error told z (inr (inr x)) ok start any shows = absurd (refusal_not_0 (HeaderSays s) told z x.4 ok)

-- No packet was read.
pub front_refused : (before now : PcapfileHeader) (s rest : List ℕ) (old packet : PcapfilePacket) (error told : PcapfileError) (z : ℤ) → TakesFront (header_reader before s old error) (header_reader now rest packet told) z
    → (of_z w32 z ≡ 0 → ⊥) → (any : PcapfileAnyPacket) → TakesCaptured (header_reader before s any error) (header_reader now rest any told) z
front_refused before now s rest old packet error told z (inl x) refused any = absurd (refused (ap (of_z w32) x.0))
front_refused before now s rest old packet error told z (inr (inl x)) refused any = inr (inl (refl, x.1, x.2))
front_refused before now s rest old packet error told z (inr (inr x)) refused any = inr (inr (refl, x.1, x.2, x.3, x.4))

-- The call has not reached the end of the capture.
pub not_ended : (capture : PcapfileCapture) (rest : List ℕ) (error : PcapfileError) (Tells : PcapfileError → ℤ → Type 0) (told : PcapfileError) (z : ℤ)
    → ((z ≡ pos 1) × HasEnded capture rest → ⊥) → Tells told z → EndTells capture rest error Tells told z
not_ended capture rest error Tells told z not tells = inr (λ one ended. not (one, ended), tells)

-- The call has reached the end of the capture.
pub ended : (capture : PcapfileCapture) (rest : List ℕ) (error : PcapfileError) (Tells : PcapfileError → ℤ → Type 0) (request : PcapfileError) (z : ℤ)
    → (z ≡ pos 1) × HasEnded capture rest → Tells request z → EndTells capture rest error Tells error (pos 8)
ended capture rest error Tells request z end tells = inl (refl, refl, end.1, request, subst (λ (k : ℤ). Tells request k) end.0 tells)
