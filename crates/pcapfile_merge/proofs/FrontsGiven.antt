-- Sources of blocks give the first blocks of fronts.
use Rattle.std.proofs.Common.{◌≡◌, ℕ, List, [], Option, None, Some, sym, subst, ◌∙◌, inl, inr}
use Rattle.std.specs.Io.KnownBytes.{Consumes, IsAtEnd}
use Rattle.std.proofs.lemmas.Bool.{true≢false}
use Rattle.std.proofs.lemmas.List.{append-nil}
use Rattle.pcap_items.specs.Format.{Front, Texts, state_after}
use Rattle.pcap_items.proofs.Formats.{front_goes_on, has_front, nothing_no_text, texts_more}
use Rattle.pcap_ng.specs.Blocks.{Item, block_format}
use Rattle.pcap_file.specs.Placing.{TakesNone}
use Rattle.pcap_ng.proofs.BlockFormat.{blocks_lawful}
use Rattle.pcapfile_merge.specs.Fronts.{AreOfAll, AreOfFirst}
use Rattle.pcapfile_merge.specs.Keeping.{Progress}
use Rattle.pcapfile_merge.specs.Packets.{Packet}
use Rattle.pcapfile_merge.specs.Sources.{BlocksGave}

module _ (numbers : List ℕ) (a b : Progress) (given : List Packet) (s : List ℕ) (gave : BlocksGave numbers a b given) where
  texts_known : (after : List ℕ) → Consumes (Some s) (Some after) gave.took.bytes → Texts block_format a.source.state gave.items s after
  texts_known after took =
      subst (λ (l : List ℕ). Texts block_format a.source.state gave.items l after) (sym took) (texts_more block_format blocks_lawful a.source.state gave.items gave.took.bytes [] after gave.took.texts)

  first_of : (left : Option (List ℕ)) → Consumes (Some s) left gave.took.bytes → AreOfFirst numbers a s given
  first_of None took = absurd took
  first_of (Some after) took =
      let front = has_front block_format blocks_lawful a.source.state s in
      let on = front_goes_on block_format blocks_lawful a.source.state gave.items front.0 s after front.1 (texts_known after took) front.2 in (
        on.0,
        front.1,
        record {
          items = gave.items;
          packets = gave.packets;
          front = subst (λ (l : List Item). Front block_format a.source.state l s front.1) on.1 front.2;
          gives = gave.gives;
          given_are = gave.given_are;
        },
      )

  all_of : (left : Option (List ℕ)) → Consumes (Some s) left gave.took.bytes → IsAtEnd left → AreOfAll numbers a s given
  all_of None took end = absurd took
  all_of (Some after) took end =
      let texts = subst (λ (l : List ℕ). Texts block_format a.source.state gave.items s l) end (texts_known after took) in
      let front : Front block_format a.source.state gave.items s [] =
      record { texts = texts; longest = λ v rest text. nothing_no_text block_format blocks_lawful (state_after block_format a.source.state gave.items) v rest text } in
      record {
        items = gave.items;
        packets = gave.packets;
        front = subst (λ (l : List Item). Front block_format a.source.state l s []) (sym (append-nil gave.items)) front;
        gives = gave.gives;
        given_are = gave.given_are;
      }

  pub first_given : a.source.left ≡ Some s → AreOfFirst numbers a s given
  first_given is = first_of b.source.left (subst (λ (l : Option (List ℕ)). Consumes l b.source.left gave.took.bytes) is gave.took.took)

  pub all_given : (now : Progress) → TakesNone b.source now.source → a.source.left ≡ Some s → AreOfAll numbers a s given
  all_given now none is =
      let took = subst (λ (l : Option (List ℕ)). Consumes l b.source.left gave.took.bytes) is gave.took.took in
      elim none.why [ inl end ↦ all_of b.source.left took end | inr done ↦ absurd (true≢false (sym done ∙ gave.goes_on.0)) ]
