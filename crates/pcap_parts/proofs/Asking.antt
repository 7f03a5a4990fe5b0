-- A parser that is made again at the places of a cut finds whole blocks there.
use Rattle.std.proofs.Common.{ℕ, List, [], ◌∷◌, ◌++◌, subst, inl, inr}
use Rattle.pcap_core.specs.declared.errors.PcapError.{PcapError}
use Rattle.pcap_core.specs.declared.errors.PcapError.TheVariants as errors
use Rattle.pcap_core.specs.Answer.{Verdict, whole, lacks, faulty, Refuses}
use Rattle.pcap_core.specs.Errors.{IsMemory}
use Rattle.pcap_items.specs.Format.{Format, state_after, IsLawful}
use Rattle.pcap_core.specs.Laws.{ExactlyOne}
use Rattle.pcap_items.proofs.Formats.{text_same}
use Rattle.pcap_items.proofs.Fronts.{said_not_refused}
use Rattle.pcap_ng.specs.Blocks.{MayGrow, block_format}
use Rattle.pcap_ng.specs.Opening.{OpeningSays}
use Rattle.pcap_ng.specs.State.{State, opening}
use Rattle.pcap_ng.proofs.BlockFormat.{blocks_lawful}
use Rattle.pcap_ng.proofs.FirstBlock.{opening_one}
use Rattle.pcap_parts.specs.Resume.{Fed, IsFed, RefusesOne}

-- Bytes that hold a whole item are refused only if memory runs out.
memory_alone : {V : Type 0} (IsSaid : Verdict V → Type 0) → ExactlyOne IsSaid → (Grows : Type 0) (v : V) (rest : List ℕ) → IsSaid (whole v rest)
    → (e : PcapError) → Refuses Grows (λ n. IsSaid (lacks n)) (λ fault. IsSaid (faulty fault)) e → IsMemory e
memory_alone IsSaid one Grows v rest text (errors.OutOfMemory x) h = tt
memory_alone IsSaid one Grows v rest text e h = absurd (said_not_refused IsSaid one v rest text e h)

-- If slices were fed up to one of them, that slice begins with an item.
next_fed : {S V : Type 0} (f : Format S V) → IsLawful f → (q : S) (vs ws : List V) (given others : List (List ℕ)) (s : List ℕ) → Fed f q vs (given ++ s ∷ others) → Fed f q ws given
    → (v : V) × (rest : List ℕ) × f.says (state_after f q ws) s (whole v rest)
next_fed f laws q (v ∷ vs) [] [] others s all some = (v, all.0, all.1)
next_fed {V = V} f laws q (v ∷ vs) (w ∷ ws) (g ∷ given) others s all some =
    let one = text_same f laws q v w g all.0 some.0 all.1 some.1 in
    let more : Fed f (f.goes q w) vs (given ++ s ∷ others) = subst (λ (u : V). Fed f (f.goes q u) vs (given ++ s ∷ others)) one.0 all.2 in
    next_fed f laws (f.goes q w) vs ws given others s more some.2
next_fed f laws q [] ws [] others s all some = absurd all
next_fed f laws q [] ws (g ∷ given) others s all some = absurd all
next_fed f laws q (v ∷ vs) _ _ others s all some = absurd some

-- Slices from which a parser was fed are refused only if memory runs out.
pub fed_not_refused : (s : List ℕ) (slices : List (List ℕ)) (q : State) (e : PcapError) → IsFed s slices q → RefusesOne s slices e → IsMemory e
unfolding block_format
fed_not_refused s slices q e fed (inl header) =
    memory_alone (OpeningSays s) (opening_one s) (MayGrow opening s) fed.header.after fed.fed.0 (fed.header.block, fed.fed.1) e header
fed_not_refused s slices q e fed (inr next) =
    let all : Fed block_format opening (fed.header ∷ fed.others) ((s ∷ next.given) ++ next.slice ∷ next.others) =
    subst (λ (l : List (List ℕ)). Fed block_format opening (fed.header ∷ fed.others) (s ∷ l)) next.split fed.fed in
    let found = next_fed block_format blocks_lawful opening (fed.header ∷ fed.others) (next.fed.header ∷ next.fed.others) (s ∷ next.given) next.others next.slice all next.fed.fed in
    let text : block_format.says next.state next.slice (whole found.0 found.1) = subst (λ (p : State). block_format.says p next.slice (whole found.0 found.1)) next.fed.state_is found.2 in
    memory_alone (block_format.says next.state next.slice) (blocks_lawful.one next.state next.slice) (MayGrow next.state next.slice) found.0 found.1 text e next.refused
