-- Runs over blocks whose bytes are shown when the parser requests them.
use Rattle.std.proofs.Common.{◌≡◌, ℕ, List, ◌∷◌, ◌++◌, drop, map, refl, sym, ap, subst, ◌∙◌, arith, append_assoc, length-append, length-drop}
use Rattle.std.proofs.lemmas.List.{length-map}
use Rattle.pcap_core.specs.declared.errors.PcapError.{PcapError}
use Rattle.pcap_items.specs.declared.run.items.Ended.{Ended}
use Rattle.pcap_core.specs.Answer.{whole}
use Rattle.pcap_items.specs.Exact.{ExactItems}
use Rattle.pcap_items.specs.Items.{ShowsFault, rest_of}
use Rattle.pcap_items.specs.Requested.{AsksItem, RunRequests}
use Rattle.pcap_items.proofs.Items.{ended_no_text, ended_rest}
use Rattle.pcap_items.proofs.Requested.{item_texts, requests_at_few}
use Rattle.pcap_items.proofs.Showing.{exact_few}
use Rattle.pcap_ng.specs.declared.run.NgRun.{NgRun}
use Rattle.pcap_ng.specs.Blocks.{Item, block_format}
use Rattle.pcap_ng.specs.Exact.{IsExact}
use Rattle.pcap_ng.specs.Frames.{framed_of}
use Rattle.pcap_ng.specs.Opening.{OpeningSays}
use Rattle.pcap_ng.specs.Parser.{state_of}
use Rattle.pcap_ng.specs.Run.{IsRun}
use Rattle.pcap_ng.specs.State.{State, opening}
use Rattle.pcap_ng.proofs.BlockFormat.{blocks_lawful}

-- A run whose requests were counted is an exact run.
pub exact_is : (run : NgRun) (ended : Ended PcapError) (q : State) (bytes earlier mid now : List ℕ) (start before count : ℕ) → OpeningSays bytes (whole q (drop start bytes)) → AsksItem block_format opening bytes earlier mid 0 before
    → run.rest ≡ rest_of ended → ExactItems block_format (λ (item : Item). item.block) ShowsFault q (state_of run.parser) (map framed_of run.blocks.items) bytes start run.used ended mid now before count → IsExact run count bytes earlier now
unfolding block_format
exact_is run ended q bytes earlier mid now start before count text asked rest x =
    let first : Item = record { block = text.0; after = q } in
    let left = drop run.used bytes in
    let last = state_of run.parser in
    let longest = ended_no_text block_format blocks_lawful ShowsFault last left ended x.ends in
    let is : IsRun run bytes = record {
      left = left;
      front = record {
        first = first;
        items = x.values;
        front = record {
          texts = (drop start bytes, text.1, item_texts block_format q x.values (drop start bytes) left x.asked.for_items x.asked.items);
          longest = subst (λ (p : State). (item : Item) (t : List ℕ) → block_format.says p left (whole item t) → ⊥) (sym x.state_is) longest;
        };
        blocks_are = x.parts;
        in_force = x.state_is;
      };
      used = omega (arith, x.within, length-drop run.used bytes);
      rest = rw rest (ended_rest (block_format.says last) left ended x.ends);
    } in
    let all : RunRequests block_format opening (first ∷ x.values) bytes left (asked.requests ++ x.requests) = record {
      for_items = asked.requests ++ x.asked.for_items;
      at_rest = x.asked.at_rest;
      items = (drop start bytes, asked.requests, x.asked.for_items, text.1, asked.asked, x.asked.items, refl);
      last = x.asked.last;
      all = ap (λ (l : List ℕ). asked.requests ++ l) x.asked.all ∙ sym (append_assoc asked.requests x.asked.for_items x.asked.at_rest);
    } in
    let two = requests_at_few block_format opening bytes asked.requests asked.asked in
    record {
      run_is = is;
      requests = asked.requests ++ x.requests;
      asked = all;
      grown = x.grown ∙ ap (λ (l : List ℕ). l ++ x.requests) asked.grown ∙ append_assoc earlier asked.requests x.requests;
      counted = omega (arith, x.counted, asked.counted, length-append asked.requests x.requests);
      few = omega (arith, exact_few x, asked.counted, two, length-map run.blocks.items framed_of);
    }
