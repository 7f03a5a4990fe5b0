use Rattle.std.proofs.Common.{◌≡◌, ◌∙◌, List, ℕ, [], ◌∷◌, true, false, refl, sym, ap, subst, rules}
use Rattle.std.specs.Io.KnownBytes.{Appends}
use Rattle.std.proofs.lemmas.Bool.{true≢false}
use Rattle.pcap_ng.specs.Reader.{lent_item, text_of}
use Rattle.pcapfile_cut.specs.BlockCuts.{Between, Lent, has_packet, is_enough as enough, pending_in, place_of}
use Rattle.pcapfile_cut.proofs.BlockCuts.{put_pending}
use Rattle.pcapfile_cut.proofs.blocks.BlockCutter.cut_next.Goals as goal
use Rattle.pcapfile_cut.proofs.blocks.BlockCutter.cut_next.Goals.{else-has_packet-via-then-has_packet+else-is_enough, else-has_packet-via-else-has_packet}

pub returns : goal.returns
returns g c =
    let a = place_of g.R.Read.remaining c.args.self.now in
    let m = place_of g.R.Read.remaining c.lend.new.self in
    let reader = c.lend.new.self.reader in
    let header = c.in-Some.header in
    let block : Lent = record { item = lent_item reader header; text = text_of reader } in
    let old = c.args.outcome.now in
    let lent : Between a m [] = rw c.in-Some.is at c.in_ok-header.ensures.next in
    let pending : m.pending ≡ block ∷ [] = ap (pending_in reader) (sym c.in_ok-header.ensures.pending ∙ c.in-Some.is) in
    let has = c.holds_packet-has_packet.ensures in
    let needed : has_packet block ≡ true → enough c.args.wanted old.packets old.bytes ≡ false =
    elim c.else-has_packet.branch [
      | else-has_packet-via-then-has_packet+else-is_enough w ↦ λ is. sym w.is_enough.ensures ∙ w.if-is_enough.false
      | else-has_packet-via-else-has_packet w ↦ λ is. absurd (true≢false (sym is ∙ sym has ∙ w.if-has_packet.false))
    ] in
    record {
      block = block;
      between = put_pending a m block lent pending;
      went = subst (λ (t : List ℕ). Appends (g.W.Write.contents c.args.output.now) (g.W.Write.contents c.put.new.writer) t) c.text.ensures c.in_ok-put.ensures.out;
      pending = refl;
      needed = needed;
      counts = search rules;
    }
