-- The facts that the head of a packet read leniently states.
use Rattle.std.proofs.Common.{◌≡◌, ◌<◌, ℕ, List, [], ◌++◌, length, drop, Bool, refl, sym, ap, subst, ◌∙◌, arith, append-nil, inl, inr, Option, Result, Ok, Err, Some, None}
use Rattle.std.proofs.lemmas.List.{drop_at}
use Rattle.pcap_core.specs.declared.errors.PcapError.{PcapError}
use Rattle.pcap_core.specs.Answer.{number_in, whole, lacks, faulty, Refuses}
use Rattle.pcap_core.specs.Faults.{Shows}
use Rattle.pcap_items.specs.Filling.{Stated, StatesRest, FillsHeaded}
use Rattle.pcap_items.specs.Format.{IsLawful}
use Rattle.pcap_items.specs.Lent.{HoldsText}
use Rattle.pcap_items.specs.Reading.{Pulls}
use Rattle.pcap_core.proofs.Refusals.{refuses_shows}
use Rattle.pcap_classic.specs.declared.pcap.header.PcapHeader.{PcapHeader}
use Rattle.pcap_classic.specs.Magic.{order_of, resolution_of}
use Rattle.pcap_classic.specs.PacketText.{RecordHeadText, LacksHead}
use Rattle.pcap_classic.proofs.Stable.{head_more}
use Rattle.pcap_tolerant.specs.declared.as_is.HeadAsIs.{HeadAsIs}
use Rattle.pcap_tolerant.specs.AsIs.{raised, numbers_of, packet_with, HasLongHead, as_is_format}
use Rattle.pcap_tolerant.specs.KnownHeads.{KnowsAsIs, held_as_is}
use Rattle.pcap_tolerant.specs.Run.{as_is_under}
use Rattle.pcap_tolerant.proofs.AsIs.{as_is_lawful}

module _ (limit : ℕ) (header : PcapHeader) where
  pub under_lawful : IsLawful (as_is_under limit header)
  under_lawful = as_is_lawful (raised limit) (number_in (order_of header.magic_number)) (resolution_of header.magic_number)

  pub under_head : (as_is_under limit header).head tt ≡ 16
  unfolding as_is_format
  under_head = refl

  -- A known head and the data behind it are a packet.
  as_is_stands : (head : HeadAsIs) (n : ℕ) (front body s : List ℕ) → KnowsAsIs limit header head n front → s ≡ front ++ body → length body ≡ n
      → (as_is_under limit header).says tt s (whole (packet_with head body) [])
  unfolding as_is_format
  as_is_stands head n front body s k split count =
      let order = number_in (order_of header.magic_number) in
      let more : RecordHeadText order (numbers_of head) (front ++ body) body = head_more body order (numbers_of head) front [] k.text.text in
      record {
        after = body;
        text = subst (λ (l : List ℕ). RecordHeadText order (numbers_of head) l body) (sym split) more;
        below = k.text.below;
        flaws_are = k.text.flaws_are;
        data_is = sym (append-nil body);
        whole = count ∙ sym k.follows;
      }

  -- A known head alone lacks its data.
  as_is_lacks : (head : HeadAsIs) (n : ℕ) (s : List ℕ) → KnowsAsIs limit header head n s → 0 < n → (as_is_under limit header).says tt s (lacks n)
  unfolding as_is_format
  as_is_lacks head n s k some = inr (record { head = numbers_of head; after = []; text = k.text.text; below = k.text.below; some = some; missing = omega (arith, k.follows) })

  -- Sixteen bytes that are no head with a stored length of at most the limit are refused.
  pub long_refused : (s : List ℕ) (e : PcapError) → length s ≡ 16 → Refuses ⊥ (λ n. LacksHead s n) (HasLongHead (raised limit) (number_in (order_of header.magic_number)) s) e
      → Shows (λ fault. (as_is_under limit header).says tt s (faulty fault)) e
  unfolding as_is_format
  long_refused s e long refuses =
      refuses_shows (λ n. LacksHead s n) (HasLongHead (raised limit) (number_in (order_of header.magic_number)) s) e (λ n lack. omega (arith, long, lack.some, lack.missing)) refuses

  -- A known head states how many bytes follow it.
  pub head_states : (head : HeadAsIs) (s : List ℕ) → KnowsAsIs limit header head head.incl_len s → StatesRest ((as_is_under limit header).says tt) (KnowsAsIs limit header) s (Ok (head, head.incl_len))
  head_states head s knows = (
    knows,
    λ none. inl (packet_with head [], as_is_stands head head.incl_len s [] s knows (sym (append-nil s)) (sym none)),
    λ some. as_is_lacks head head.incl_len s knows some,
  )

  -- Held bytes are the packet of their head.
  pub held_stands : (head : HeadAsIs) (s : List ℕ) → Stated (KnowsAsIs limit header) ((as_is_under limit header).head tt) head s → (as_is_under limit header).says tt s (whole (held_as_is s head) [])
  held_stands head s t =
      let long : length t.front ≡ 16 = t.length_is ∙ under_head in
      let back : drop 16 s ≡ t.body = ap (drop 16) t.split ∙ drop_at t.front t.body 16 long in
      subst (λ (l : List ℕ). (as_is_under limit header).says tt s (whole (packet_with head l) [])) (sym back) (as_is_stands head (length t.body) t.front t.body s t.knows t.split refl)

  -- A filled buffer holds the packet that was taken.
  pub as_is_held : (before after : Option (List ℕ)) (held : List ℕ) (failed : Bool) (result : Result (Option HeadAsIs) PcapError)
      → FillsHeaded ((as_is_under limit header).says tt) (KnowsAsIs limit header) ((as_is_under limit header).head tt) before after held failed result
      → Pulls ((as_is_under limit header).says tt) (held_as_is held) before after failed result
  as_is_held before after held failed (Ok (Some head)) x = (x.0, (held, held_stands head held x.1, x.4))
  as_is_held before after held failed (Ok None) x = (x.0, x.2, x.3)
  as_is_held before after held failed (Err e) x = x

  -- The held bytes are the text of that packet.
  pub as_is_text : (before after : Option (List ℕ)) (held : List ℕ) (failed : Bool) (result : Result (Option HeadAsIs) PcapError)
      → FillsHeaded ((as_is_under limit header).says tt) (KnowsAsIs limit header) ((as_is_under limit header).head tt) before after held failed result
      → HoldsText ((as_is_under limit header).says tt) (held_as_is held) before after held result
  as_is_text before after held failed (Ok (Some head)) x = (held_stands head held x.1, x.4)
  as_is_text before after held failed (Ok None) x = x.1
  as_is_text before after held failed (Err e) x = tt
