-- Packets read leniently behind a header: the state of their format is the header and the limit.
use Rattle.std.proofs.Common.{◌≡◌, ℕ, List, [], ◌∷◌, refl, sym, subst, ◌∙◌, arith}
use Rattle.std.proofs.lemmas.List.{map-id}
use Rattle.pcap_items.specs.declared.rest.Rest.{Rest}
use Rattle.pcap_core.specs.Answer.{whole}
use Rattle.pcap_items.specs.Format.{Front, IsLawful, Texts, state_after}
use Rattle.pcap_items.specs.Items.{GrowsIn, LeadsTo}
use Rattle.pcap_items.specs.Run.{IsRest}
use Rattle.pcap_items.proofs.Items.{grows_some}
use Rattle.pcap_items.proofs.Showing.{rest_no_text}
use Rattle.pcap_classic.specs.HeaderText.{HeaderText}
use Rattle.pcap_tolerant.specs.AsIs.{AsIs, as_is_format}
use Rattle.pcap_tolerant.specs.Run.{as_is_under, Setting, any_as_is, HasPacketAsIs}
use Rattle.pcap_tolerant.proofs.KnownPackets.{under_lawful}

pub any_lawful : IsLawful any_as_is
unfolding as_is_format
any_lawful = record {
  one = λ q s. (under_lawful q.limit q.header).one tt s;
  stable = λ q. (under_lawful q.limit q.header).stable tt;
  own = λ q s rest packet x. (under_lawful q.limit q.header).own tt s rest packet x;
  some = λ q. omega arith;
  asks = λ q s n x. (under_lawful q.limit q.header).asks tt s n x;
  short = λ q s n sum some. (under_lawful q.limit q.header).short tt s n sum some;
  last = λ q s more n m long x count y. (under_lawful q.limit q.header).last tt s more n m long x count y;
}

state_stays : (q : Setting) (packets : List AsIs) → state_after any_as_is q packets ≡ q
state_stays q [] = refl
state_stays q (packet ∷ packets) = state_stays q packets

texts_under : (q : Setting) (packets : List AsIs) (s rest : List ℕ) → Texts any_as_is q packets s rest → Texts (as_is_under q.limit q.header) tt packets s rest
texts_under q [] s rest texts = texts
texts_under q (packet ∷ packets) s rest texts = (texts.0, texts.1, texts_under q packets texts.0 rest texts.2)

-- The front of a capture, with its header and the limit as the state.
pub front_under : (q : Setting) (packets : List AsIs) (s rest : List ℕ) → Front any_as_is q packets s rest → Front (as_is_under q.limit q.header) tt packets s rest
front_under q packets s rest front = record {
  texts = texts_under q packets s rest front.texts;
  longest = λ packet after x. front.longest packet after (subst (λ (p : Setting). any_as_is.says p rest (whole packet after)) (sym (state_stays q packets)) x);
}

-- The packets of a run, and the state of its rest.
pub record RunUnder (q next : Setting) (packets : List AsIs) (s left : List ℕ) (rest : Rest) : Type 0 where
  pub same : q ≡ next
  pub front : Front (as_is_under q.limit q.header) tt packets s left
  pub rest_is : IsRest ((as_is_under q.limit q.header).says tt) left rest

pub run_under : (q next : Setting) (packets : List AsIs) (s left : List ℕ) (rest : Rest) → LeadsTo any_as_is (λ packet. packet) q next packets s left
    → IsRest (any_as_is.says next) left rest → RunUnder q next packets s left rest
run_under q next packets s left rest leads is =
    let same : q ≡ next = sym (state_stays q leads.values) ∙ leads.state_is in
    let all : leads.values ≡ packets = sym (map-id leads.values) ∙ leads.parts in
    let said : IsRest ((as_is_under q.limit q.header).says tt) left rest = rw same is in
    record {
      same = same;
      front = record {
        texts = rw (← all) (texts_under q leads.values s left leads.texts);
        longest = rest_no_text (as_is_under q.limit q.header) (under_lawful q.limit q.header) tt left rest said;
      };
      rest_is = said;
    }

pub has_packet : (q : Setting) (bytes rest : List ℕ) → HeaderText q.header bytes rest → GrowsIn any_as_is (λ _ _. ⊥) q rest → HasPacketAsIs q.limit bytes
has_packet q bytes rest text grown =
    let some = grows_some any_as_is any_lawful q rest grown in
    (q.header, some.0, some.1, some.2, record { after = rest; header_text = text; front = front_under q (some.0 ∷ some.1) rest some.2 some.3 })
