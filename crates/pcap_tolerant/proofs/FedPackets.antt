-- Packets read leniently from a capture that comes in pieces.
use Rattle.std.proofs.Common.{◌≡◌, ℕ, List, length, map, refl, sym, ap, subst, ◌∙◌, inl, inr}
use Rattle.pcap_items.specs.Format.{Front}
use Rattle.pcap_items.specs.Pieces.{HoldsItems, IsFedUpTo, IsOpening}
use Rattle.pcap_items.specs.Run.{IsRest}
use Rattle.pcap_items.proofs.Formats.{front_same}
use Rattle.pcap_items.proofs.Pieces.{made_opening}
use Rattle.pcap_classic.specs.declared.pcap.header.PcapHeader.{PcapHeader}
use Rattle.pcap_classic.specs.HeaderText.{HeaderSays}
use Rattle.pcap_classic.specs.Parser.{header_of}
use Rattle.pcap_classic.proofs.One.{header_same}
use Rattle.pcap_classic.proofs.Pieces.{header_opening}
use Rattle.pcap_tolerant.specs.declared.pieces.OwnedRunAsIs.{OwnedRunAsIs}
use Rattle.pcap_tolerant.specs.declared.run.ParserAsIs.{ParserAsIs}
use Rattle.pcap_tolerant.specs.Pieces.{HoldsAsIs, IsOwnedRunAsIs, OpensUnder, owned_as_is, set_to}
use Rattle.pcap_tolerant.specs.Run.{Setting, any_as_is, as_is_under, setting_of}
use Rattle.pcap_tolerant.proofs.KnownPackets.{under_lawful}
use Rattle.pcap_tolerant.proofs.Runs.{front_under, run_under}

pub under_opening : (limit : ℕ) → IsOpening (OpensUnder limit)
under_opening limit = made_opening (set_to limit) HeaderSays header_opening

pub holds_as_is : (limit : ℕ) (s : List ℕ) (n : ℕ) → HoldsItems (OpensUnder limit) any_as_is s n → HoldsAsIs limit s n
holds_as_is limit s n (inl x) =
    let header : PcapHeader = x.4.0 in
    let front = subst (λ (q : Setting). Front (as_is_under q.limit q.header) tt x.2 x.1 x.3) x.4.1 (front_under x.0 x.2 x.1 x.3 x.5) in
    inl (header, x.2, x.3, record { after = x.1; header_text = x.4.2; front = front }, x.6)
holds_as_is limit s n (inr x) = inr (λ header after text. x.0 (set_to limit header) after (header, refl, text), x.1)

-- The result of feeding all pieces is the run over the joined bytes.
pub fed_run : (limit : ℕ) (s : List ℕ) (parser : ParserAsIs) (run : OwnedRunAsIs)
    → IsFedUpTo (OpensUnder limit) any_as_is (λ packet. packet) (setting_of parser) s run.rest run.used (map owned_as_is run.packets.items) → run.header ≡ header_of parser.parser → IsOwnedRunAsIs limit run s
fed_run limit s parser run x same =
    let r = x.reaches in
    let u = run_under r.first (setting_of parser) (map owned_as_is run.packets.items) r.after x.left run.rest r.leads x.rest_is in
    let packets = map owned_as_is run.packets.items in
    let set : set_to limit r.opening.0 ≡ setting_of parser = sym r.opening.1 ∙ u.same in
    let header : r.opening.0 ≡ run.header = ap (λ (q : Setting). q.header) set ∙ sym same in
    let front = subst (λ (q : Setting). Front (as_is_under q.limit q.header) tt packets r.after x.left) r.opening.1 u.front in
    let rest = subst (λ (q : Setting). IsRest ((as_is_under q.limit q.header).says tt) x.left run.rest) r.opening.1 u.rest_is in
    record {
      left = x.left;
      front = record { after = r.after; header_text = rw (← header) r.opening.2; front = rw (← header) front };
      used = x.used_is;
      rest = rw (← header) rest;
    }

-- The number of packets that lenient reading finds in given bytes is unique.
pub held_same : (limit : ℕ) (s : List ℕ) (n m : ℕ) → HoldsAsIs limit s n → HoldsAsIs limit s m → n ≡ m
held_same limit s n m (inl x) (inl y) =
    let is = header_same x.0 y.0 s x.3.after y.3.after x.3.header_text y.3.header_text in
    let behind : Front (as_is_under limit x.0) tt x.1 y.3.after x.2 = subst (λ (t : List ℕ). Front (as_is_under limit x.0) tt x.1 t x.2) is.1 x.3.front in
    let here = subst (λ (h : PcapHeader). Front (as_is_under limit h) tt x.1 y.3.after x.2) is.0 behind in
    let same = front_same (as_is_under limit y.0) (under_lawful limit y.0) tt x.1 y.1 y.3.after x.2 y.2 here y.3.front in
    x.4 ∙ ap length same.0 ∙ sym y.4
held_same limit s n m (inl x) (inr y) = absurd (y.0 x.0 x.3.after x.3.header_text)
held_same limit s n m (inr x) (inl y) = absurd (x.0 y.0 y.3.after y.3.header_text)
held_same limit s n m (inr x) (inr y) = x.1 ∙ sym y.1
