use Rattle.std.proofs.Common.{[], ◌∷◌, List, subst}
use Rattle.std.proofs.lemmas.List.Elements.{All-cons}
use Rattle.pcap_core.specs.Bytes.{IsOwned}
use Rattle.pcap_items.specs.Pieces.{HoldsItems, joined_pieces}
use Rattle.pcap_items.proofs.Pieces.{after_each_more}
use Rattle.pcap_tolerant_captures.specs.declared.block.BlockAsIs.{BlockAsIs}
use Rattle.pcap_tolerant_captures.specs.Pieces.{FirstSays, HoldsBlocksAsIs, kept_format}
use Rattle.pcap_tolerant_captures.specs.Run.{IsFirstFlawed}
use Rattle.pcap_tolerant_captures.proofs.FedBlocks.{fed_front, fed_owned, fed_used, first_opening, holds_as_is, kept_lawful}
use Rattle.pcap_tolerant_captures.proofs.pieces.pieces_pcapng_as_is.Goals as goal

pub feed_pieces-requires-clause-lawful : goal.feed_pieces-requires-clause-lawful
feed_pieces-requires-clause-lawful c = kept_lawful

pub feed_pieces-requires-clause-opening : goal.feed_pieces-requires-clause-opening
feed_pieces-requires-clause-opening c = first_opening

pub first_flawed-first_flawed-requires : goal.first_flawed-first_flawed-requires
first_flawed-first_flawed-requires c =
    let fed = c.in_ok-fed.fed in
    rw c.as_slice.ensures.value (fed_used (joined_pieces c.args.pieces.now) fed.parser fed.items.items fed.used fed.rest c.in_ok-fed.ensures.fed)

pub returns-clause-run : goal.returns-clause-run
returns-clause-run c =
    let fed = c.in_ok-fed.fed in
    let known = c.in_ok-fed.ensures.fed in
    record {
      left = known.left;
      front = fed_front (joined_pieces c.args.pieces.now) fed.parser fed.items.items fed.used fed.rest known;
      used = known.used_is;
      rest = known.rest_is;
      first_flawed = subst (λ (l : List BlockAsIs). IsFirstFlawed (fed.parser.first ∷ l) c.first_flawed-first_flawed.result) c.as_slice.ensures.value c.first_flawed-first_flawed.ensures;
    }

pub returns-clause-numbers : goal.returns-clause-numbers
returns-clause-numbers c = after_each_more (HoldsItems FirstSays kept_format) HoldsBlocksAsIs holds_as_is [] c.args.pieces.now _ c.in_ok-fed.ensures.numbers

pub returns-clause-owned : goal.returns-clause-owned
returns-clause-owned c =
    let fed = c.in_ok-fed.fed in
    let first = fed_owned (joined_pieces c.args.pieces.now) fed.parser fed.items.items fed.used fed.rest c.in_ok-fed.ensures.fed in
    All-cons (λ (block : BlockAsIs). IsOwned block.block.body) fed.parser.first fed.items.items first c.in_ok-fed.ensures.owned
