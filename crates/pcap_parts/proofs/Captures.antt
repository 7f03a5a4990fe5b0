-- The run over a classic capture is the runs over its parts.
use Rattle.std.proofs.Common.{◌≡◌, ℕ, List, ◌++◌, length, map, sym, ap, subst, arith, length-append}
use Rattle.pcap_classic.specs.declared.pcap.header.PcapHeader.{PcapHeader}
use Rattle.pcap_classic.specs.declared.run.PcapRun.{PcapRun}
use Rattle.pcap_classic.specs.PacketText.{packet_limit, content_of}
use Rattle.pcap_classic.specs.Packets.{format_under}
use Rattle.pcap_classic.specs.Run.{IsRun}
use Rattle.pcap_items.specs.Format.{Front}
use Rattle.pcap_items.specs.Run.{IsRest}
use Rattle.pcap_classic.proofs.CaptureFormat.{under_lawful}
use Rattle.pcap_classic.proofs.One.{header_same}
use Rattle.pcap_classic.proofs.Pieces.{header_opening}
use Rattle.pcap_classic.proofs.Texts.{header_length}
use Rattle.pcap_parts.specs.declared.cut.Cut.{Cut}
use Rattle.pcap_parts.specs.Captures.{IsCut, IsRunInParts}
use Rattle.pcap_parts.specs.Parts.{AreCuts, InParts}
use Rattle.pcap_parts.proofs.InParts.{in_parts}

-- CutRun: the bytes behind the header of a run's capture, which is cut there, with their packets and what is left.
pub record CutRun (run : PcapRun) (header : PcapHeader) (cuts : List Cut) (bytes : List ℕ) : Type 0 where
  pub same : run.header ≡ header
  pub opening : List ℕ
  pub after : List ℕ
  pub split : bytes ≡ opening ++ after
  pub left : List ℕ
  pub front : Front (format_under packet_limit header) tt (map content_of run.packets.items) after left
  pub cuts_are : AreCuts (format_under packet_limit header) tt after (length opening) (length (opening ++ after)) cuts
  pub rest : IsRest ((format_under packet_limit header).says tt) left run.rest

pub cut_run : (run : PcapRun) (header : PcapHeader) (cuts : List Cut) (bytes : List ℕ) → IsRun run bytes → IsCut header cuts bytes → CutRun run header cuts bytes
cut_run run header cuts bytes x y =
    let e = header_same run.header header bytes x.front.after y.after x.front.header_text y.header_text in
    let f = format_under packet_limit header in
    let ps = map content_of run.packets.items in
    let there : Front f tt ps x.front.after x.left = subst (λ (k : PcapHeader). Front (format_under packet_limit k) tt ps x.front.after x.left) e.0 x.front.front in
    let h = header_opening.ends bytes y.after header y.header_text in
    let long : length h.0 ≡ 24 = omega (arith, ap length {x = bytes} {y = h.0 ++ y.after} h.1, length-append h.0 y.after, header_length header bytes y.after y.header_text) in
    let whole_cuts : AreCuts f tt y.after 24 (length (h.0 ++ y.after)) cuts = subst (λ (t : List ℕ). AreCuts f tt y.after 24 (length t) cuts) h.1 y.cuts_are in
    record {
      same = e.0;
      opening = h.0;
      after = y.after;
      split = h.1;
      left = x.left;
      front = subst (λ (t : List ℕ). Front f tt ps t x.left) e.1 there;
      cuts_are = subst (λ (n : ℕ). AreCuts f tt y.after n (length (h.0 ++ y.after)) cuts) (sym long) whole_cuts;
      rest = subst (λ (k : PcapHeader). IsRest ((format_under packet_limit k).says tt) x.left run.rest) e.0 x.rest;
    }

pub run_parts : (run : PcapRun) (header : PcapHeader) (cuts : List Cut) (bytes : List ℕ) → IsRun run bytes → IsCut header cuts bytes → IsRunInParts run header cuts bytes
run_parts run header cuts bytes x y =
    let r = cut_run run header cuts bytes x y in
    let f = format_under packet_limit header in
    let ps = map content_of run.packets.items in
    let parts : InParts f tt ps r.left (r.opening ++ r.after) cuts = in_parts f (under_lawful packet_limit header) tt r.opening r.after r.left ps cuts r.front r.cuts_are in
    record { same = r.same; left = r.left; rest = r.rest; parts = subst (λ (t : List ℕ). InParts f tt ps r.left t cuts) (sym r.split) parts }
