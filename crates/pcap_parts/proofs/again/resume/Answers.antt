use Rattle.std.proofs.Common.{◌≡◌, ℕ, List, [], ◌∷◌, ◌++◌, drop, refl, sym, ap, subst, ◌∙◌, append_assoc, inr}
use Rattle.std.proofs.lemmas.Result.{err_from_is_err_and}
use Rattle.std.proofs.lemmas.List.{map-append}
use Rattle.pcap_core.specs.Answer.{whole, lacks, faulty, Refuses}
use Rattle.pcap_ng.specs.Blocks.{BlockSays, MayGrow, item_of}
use Rattle.pcap_ng.specs.Opening.{OpeningSays}
use Rattle.pcap_ng.specs.Parser.{state_of}
use Rattle.pcap_parts.specs.Resume.{IsFed, RefusesNext, from_places}
use Rattle.pcap_parts.proofs.Resumed.{fed_first, fed_more}
use Rattle.pcap_parts.proofs.again.resume.Goals as goal

pub loop-place-init : goal.loop-place-init
loop-place-init c =
    let q = state_of c.in_ok-parser.parser in
    let rest = c.in_ok-parser.field-0-0.now in
    let says : OpeningSays (drop c.args.header c.args.bytes.now) (whole q rest) =
    subst (λ (s : List ℕ). OpeningSays s (whole q rest)) c.from_place.ensures c.in_ok-parser.ensures.tells in
    record { done = []; split = refl; fed = fed_first (drop c.args.header c.args.bytes.now) rest q says }

pub returns-in_err-block-clause-refused : goal.returns-in_err-block-clause-refused
returns-in_err-block-clause-refused c =
    let inv = c.loop-place.invariant in
    let place = c.in-Some.place.now in
    let bytes = c.args.bytes.now in
    let p = state_of c.loop-place.parser in
    let error = c.in_err-block.field-0.0 in
    let from = λ (k : ℕ). drop k bytes in
    let left : c.loop-place.left.now ≡ place ∷ c.in-Some.others.now = c.in-Some.ensures.cases.0 in
    let slice = drop place bytes in
    let refused : Refuses (MayGrow p slice) (λ n. BlockSays p slice (lacks n)) (λ fault. BlockSays p slice (faulty fault)) error =
    subst (λ (s : List ℕ). Refuses (MayGrow p s) (λ n. BlockSays p s (lacks n)) (λ fault. BlockSays p s (faulty fault)) error) c.from_place-in-Some.ensures c.in_err-block.ensures.tells in
    let split : from_places bytes c.args.interfaces.now ≡ from_places bytes inv.done ++ slice ∷ from_places bytes c.in-Some.others.now =
    ap (λ (l : List ℕ). from_places bytes l) (inv.split ∙ ap (λ (l : List ℕ). inv.done ++ l) left) ∙ map-append from inv.done (place ∷ c.in-Some.others.now) in
    let next : RefusesNext (drop c.args.header bytes) (from_places bytes c.args.interfaces.now) error =
    record { given = from_places bytes inv.done; slice = slice; others = from_places bytes c.in-Some.others.now; split = split; state = p; fed = inv.fed; refused = refused } in
    let p = err_from_is_err_and c.from_residual-in_err-block.result c.from_residual-in_err-block.ensures.1 in
    rw (p.1, p.2) (inr next)

pub loop-place-preserved : goal.loop-place-preserved
loop-place-preserved c =
    let inv = c.loop-place.invariant in
    let place = c.in-Some.place.now in
    let bytes = c.args.bytes.now in
    let p = state_of c.loop-place.parser in
    let item = item_of (state_of c.next_block.new.self) c.in_ok-block.block in
    let rest = c.in_ok-block.field-0-0.now in
    let left : c.loop-place.left.now ≡ place ∷ c.in-Some.others.now = c.in-Some.ensures.cases.0 in
    let says : BlockSays p (drop place bytes) (whole item rest) =
    subst (λ (s : List ℕ). BlockSays p s (whole item rest)) c.from_place-in-Some.ensures c.in_ok-block.ensures.tells in
    let fed : IsFed (drop c.args.header bytes) (from_places bytes inv.done ++ drop place bytes ∷ []) (state_of c.next_block.new.self) =
    fed_more (drop c.args.header bytes) (drop place bytes) rest (from_places bytes inv.done) p item inv.fed says in
    record {
      done = inv.done ++ place ∷ [];
      split = inv.split ∙ ap (λ (l : List ℕ). inv.done ++ l) left ∙ sym (append_assoc inv.done (place ∷ []) c.in-Some.others.now);
      fed = subst (λ (l : List (List ℕ)). IsFed (drop c.args.header bytes) l (state_of c.next_block.new.self)) (sym (map-append (λ (k : ℕ). drop k bytes) inv.done (place ∷ []))) fed;
    }
