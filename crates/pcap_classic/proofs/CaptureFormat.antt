-- Packets after a header, which is the state of their format.
use Rattle.std.proofs.Common.{◌≡◌, ℕ, List, [], ◌∷◌, refl, sym, subst, ◌∙◌, arith, inl, inr}
use Rattle.std.proofs.lemmas.List.{map-id}
use Rattle.pcap_core.specs.declared.errors.PcapError.{PcapError}
use Rattle.pcap_items.specs.declared.run.items.Ended.{Ended}
use Rattle.pcap_core.specs.Answer.{number_in, whole}
use Rattle.pcap_items.specs.Format.{Front, IsLawful, Texts, state_after}
use Rattle.pcap_items.specs.Items.{EndsWith, LeadsTo, ShowsFault, rest_of}
use Rattle.pcap_items.specs.Requested.{ItemRequests, RequestsAt, RunRequests, head_short, head_alone, head_first}
use Rattle.pcap_items.specs.Run.{IsRest}
use Rattle.pcap_items.proofs.Items.{ended_rest, leads_front}
use Rattle.pcap_classic.specs.declared.pcap.header.PcapHeader.{PcapHeader}
use Rattle.pcap_classic.specs.Magic.{order_of, resolution_of}
use Rattle.pcap_classic.specs.Packets.{capture_format, format_under, packet_format}
use Rattle.pcap_classic.specs.PacketText.{Captured, packet_limit}
use Rattle.pcap_classic.proofs.HeadedPackets.{packets_lawful}

pub under_lawful : (limit : ℕ) (header : PcapHeader) → IsLawful (format_under limit header)
under_lawful limit header = packets_lawful limit (number_in (order_of header.magic_number)) (resolution_of header.magic_number)

pub capture_lawful : (limit : ℕ) → IsLawful (capture_format limit)
unfolding packet_format
capture_lawful limit = record {
  one = λ header s. (under_lawful limit header).one tt s;
  stable = λ header. (under_lawful limit header).stable tt;
  own = λ header s rest packet x. (under_lawful limit header).own tt s rest packet x;
  some = λ q. omega arith;
  asks = λ header s n x. (under_lawful limit header).asks tt s n x;
  short = λ header s n sum some. (under_lawful limit header).short tt s n sum some;
  last = λ header s more n m long x count y. (under_lawful limit header).last tt s more n m long x count y;
}

pub state_stays : (limit : ℕ) (header : PcapHeader) (packets : List Captured) → state_after (capture_format limit) header packets ≡ header
state_stays limit header [] = refl
state_stays limit header (packet ∷ packets) = state_stays limit header packets

pub texts_under : (limit : ℕ) (header : PcapHeader) (packets : List Captured) (s rest : List ℕ) → Texts (capture_format limit) header packets s rest → Texts (format_under limit header) tt packets s rest
texts_under limit header [] s rest texts = texts
texts_under limit header (packet ∷ packets) s rest texts = (texts.0, texts.1, texts_under limit header packets texts.0 rest texts.2)

-- The front of a capture, with its header as a state.
pub front_under : (limit : ℕ) (header : PcapHeader) (packets : List Captured) (s rest : List ℕ) → Front (capture_format limit) header packets s rest → Front (format_under limit header) tt packets s rest
front_under limit header packets s rest front = record {
  texts = texts_under limit header packets s rest front.texts;
  longest = λ packet after x. front.longest packet after (subst (λ (h : PcapHeader). (capture_format limit).says h rest (whole packet after)) (sym (state_stays limit header packets)) x);
}

-- The packets of a run, and the state of its rest.
pub record RunUnder (header next : PcapHeader) (packets : List Captured) (s left : List ℕ) (ended : Ended PcapError) : Type 0 where
  pub same : header ≡ next
  pub front : Front (format_under packet_limit header) tt packets s left
  pub rest : IsRest ((format_under packet_limit header).says tt) left (rest_of ended)

pub run_under : (header next : PcapHeader) (packets : List Captured) (s left : List ℕ) (ended : Ended PcapError) → LeadsTo (capture_format packet_limit) (λ packet. packet) header next packets s left
    → EndsWith ShowsFault ((capture_format packet_limit).says next) left ended → RunUnder header next packets s left ended
run_under header next packets s left ended leads ends =
    let f = capture_format packet_limit in
    let same : header ≡ next = sym (state_stays packet_limit header leads.values) ∙ leads.state_is in
    let all : leads.values ≡ packets = sym (map-id leads.values) ∙ leads.parts in
    let front = leads_front f (capture_lawful packet_limit) (λ packet. packet) ShowsFault header next packets s left ended leads ends in
    record {
      same = same;
      front = subst (λ (l : List Captured). Front (format_under packet_limit header) tt l s left) all (front_under packet_limit header leads.values s left front);
      rest = rw same (ended_rest (f.says next) left ended ends);
    }

-- The requests in both formats are the same.
requests_at_under : (limit : ℕ) (header : PcapHeader) (s ns : List ℕ) → RequestsAt (capture_format limit) header s ns → RequestsAt (format_under limit header) tt s ns
unfolding packet_format
requests_at_under limit header s ns (head_short short is) = head_short short is
requests_at_under limit header s ns (head_alone bytes more text long none is) = head_alone bytes more text long none is
requests_at_under limit header s ns (head_first bytes more n text long lack is) = head_first bytes more n text long lack is

item_requests_under : (limit : ℕ) (header : PcapHeader) (packets : List Captured) (s rest ns : List ℕ) → ItemRequests (capture_format limit) header packets s rest ns → ItemRequests (format_under limit header) tt packets s rest ns
item_requests_under limit header [] s rest ns x = x
item_requests_under limit header (packet ∷ packets) s rest ns x =
    (x.0, x.1, x.2, x.3, requests_at_under limit header s x.1 x.4, item_requests_under limit header packets x.0 rest x.2 x.5, x.6)

pub run_requests_under : (limit : ℕ) (header : PcapHeader) (packets : List Captured) (s rest ns : List ℕ) → RunRequests (capture_format limit) header packets s rest ns → RunRequests (format_under limit header) tt packets s rest ns
run_requests_under limit header packets s rest ns x = record {
  for_items = x.for_items;
  at_rest = x.at_rest;
  items = item_requests_under limit header packets s rest x.for_items x.items;
  last = elim x.last [
    | inl none ↦ inl none
    | inr some ↦ inr (some.0, requests_at_under limit header rest x.at_rest (subst (λ (h : PcapHeader). RequestsAt (capture_format limit) h rest x.at_rest) (state_stays limit header packets) some.1))
  ];
  all = x.all;
}
