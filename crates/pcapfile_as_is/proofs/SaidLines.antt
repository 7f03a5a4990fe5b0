-- This file proves which lines are written for flaws, one after another.
use Rattle.std.proofs.Common.{◌≡◌, ◌<◌, ◌-◌, ◌+◌, take, drop, length-drop, ℕ, suc, List, [], ◌∷◌, ◌++◌, length, map, get_or, Bool, true, false, Option, Ok, Err, refl, sym, ap, ◌∙◌, subst, arith, append_assoc, append-nil, length-append}
use Rattle.std.specs.Prelude.{◌==◌, codes, not, Result}
use Rattle.std.specs.Io.KnownBytes.{Appends}
use Rattle.std.specs.List.{flat_map}
use Rattle.std.proofs.KnownBytes.{Appends-nil, Appends-trans}
use Rattle.std.proofs.lemmas.Bool.{eqb-true}
use Rattle.std.proofs.Math.Seq.{take-length, take-suc}
use Rattle.std.proofs.lemmas.List.{map-append, flat_map_more}
use Rattle.std.proofs.lemmas.List.Concat.{flat_map-append}
use Rattle.pcap_core.specs.declared.errors.PcapError.TheVariants.{IoError}
use Rattle.pcap_core.specs.Answer.{Order}
use Rattle.pcap_items.specs.Writing.{AppendsPart}
use Rattle.pcap_items.proofs.Writing.{part_of_first, part_of_second}
use Rattle.pcap_options.specs.Values.{Kind}
use Rattle.pcap_tolerant_blocks.specs.declared.flaws.Broken.TheVariants as broken
use Rattle.pcap_tolerant_blocks.specs.declared.flaws.Broken.{Broken}
use Rattle.pcap_tolerant_blocks.specs.declared.flaws.Flaw.{Flaw}
use Rattle.pcap_tolerant_blocks.specs.Flaws.{Said, fault_of, said_of}
use Rattle.pcap_tolerant_blocks.specs.NextFlaw.{HasFlaws}
use Rattle.pcap_program.specs.declared.exit.Exit.{Exit}
use Rattle.pcap_program.specs.declared.exit.Exit.TheVariants.{Io, Memory}
use Rattle.pcap_program.specs.Exits.{IsMemoryExit}
use Rattle.pcap_program.specs.Lines.{WritesLine}
use Rattle.pcapfile_as_is.specs.BlockLines.{WritesFlaws, fault_line, said_line, said_lines}
use Rattle.pcapfile_as_is.specs.Counts.{are_some}

-- ---- the line of a flaw is not empty

some_text : (place front behind : List ℕ) → 0 < length front → 0 < length (place ++ (front ++ behind))
some_text place front behind some = omega (arith, some, length-append place (front ++ behind), length-append front behind)

fault_some : (place option : List ℕ) (b : Broken) → 0 < length (fault_line place option (fault_of b))
fault_some place option (broken.Rule rule) = some_text place (codes " breaks rule ") _ (omega arith)
fault_some place option broken.TooShort = some_text place (codes " is too short") _ (omega arith)
fault_some place option broken.NotUtf8 = some_text place (codes " is not UTF-8") _ (omega arith)

-- Nothing of the line was written.
pub none_of_line : (place : List ℕ) (flaw : Flaw) (before : Option (List ℕ)) → AppendsPart before before (said_line place (said_of flaw))
none_of_line place flaw before =
    (said_line place (said_of flaw), fault_some place _ flaw.broken, record { gone = []; split = refl; out = Appends-nil before })

-- ---- the text of flaws

-- The text of one more flaw.
pub next_text : (text : Said → List ℕ) (made : List ℕ) (flaws : List Flaw) (told : ℕ) (d : Flaw) → told < length flaws → made ≡ flat_map text (map said_of (take told flaws))
    → made ++ text (said_of (get_or flaws told d)) ≡ flat_map text (map said_of (take (told + 1) flaws))
next_text text made flaws told d more so_far =
    let flaw = get_or flaws told d in
    let count : suc told ≡ told + 1 = omega arith in
    let cut : take (told + 1) flaws ≡ take told flaws ++ flaw ∷ [] = ap (λ (k : ℕ). take k flaws) (sym count) ∙ take-suc flaws told d more in
    let all : map said_of (take (told + 1) flaws) ≡ map said_of (take told flaws) ++ said_of flaw ∷ [] = ap (map said_of) cut ∙ map-append said_of (take told flaws) (flaw ∷ []) in
    ap (λ (l : List ℕ). l ++ text (said_of flaw)) so_far ∙ flat_map_more text [] (map said_of (take told flaws)) (said_of flaw) ∙ sym (ap (flat_map text) all)

-- ---- the lines of flaws

-- The lines of some first flaws were written, and the options that are left have the others.
pub record PutSoFar (order : Order) (kind : Kind) (place : List ℕ) (flaws : List Said) (left : List ℕ) (has_flaw : Bool) (before now : Option (List ℕ)) : Type 0 where
  pub said : List Said
  pub others : List Said
  pub split : flaws ≡ said ++ others
  pub are_left : HasFlaws order kind others left
  pub some : has_flaw ≡ are_some said
  pub out : Appends before now (said_lines place said)

some_if : (empty : Bool) → (empty ≡ true → ⊥) → true ≡ not empty
some_if true differs = absurd (differs refl)
some_if false differs = refl

-- All bytes after the first n.
pub all_behind : (n : ℕ) (s : List ℕ) → take (length s - n) (drop n s) ≡ drop n s
all_behind n s = ap (λ (k : ℕ). take k (drop n s)) (sym (length-drop n s)) ∙ take-length (drop n s)

some_more : (said : List Said) (flaw : Said) → true ≡ are_some (said ++ flaw ∷ [])
some_more said flaw =
    let all = said ++ flaw ∷ [] in
    some_if (length all == 0) (λ is. omega (arith, eqb-true (length all) 0 is, length-append said (flaw ∷ [])))

module _ (order : Order) (kind : Kind) (place : List ℕ) (flaws : List Said) where
  -- A flaw of the options that are left, after which others are left.
  abbrev Begins : Flaw → List ℕ → List ℕ → Type 0
  Begins flaw left rest = (more : List Said) → HasFlaws order kind more left → (others : List Said) × (more ≡ said_of flaw ∷ others) × HasFlaws order kind others rest

  pub none_put : (s : List ℕ) (before : Option (List ℕ)) → HasFlaws order kind flaws s → PutSoFar order kind place flaws s false before before
  none_put s before has = record { said = []; others = flaws; split = refl; are_left = has; some = refl; out = Appends-nil before }

  pub one_put : (left rest : List ℕ) (has_flaw : Bool) (before mid now : Option (List ℕ)) (flaw : Flaw) → PutSoFar order kind place flaws left has_flaw before mid → Begins flaw left rest
      → WritesLine (λ line. line ≡ said_line place (said_of flaw)) mid now (Ok tt) → PutSoFar order kind place flaws rest true before now
  one_put left rest has_flaw before mid now flaw so_far begins wrote =
      let here = begins so_far.others so_far.are_left in
      let front = said_lines place so_far.said in
      let text : front ++ wrote.0 ≡ said_lines place (so_far.said ++ said_of flaw ∷ []) = ap (λ (l : List ℕ). front ++ l) wrote.1 ∙ flat_map_more (said_line place) [] so_far.said (said_of flaw) in
      record {
        said = so_far.said ++ said_of flaw ∷ [];
        others = here.0;
        split = so_far.split ∙ ap (λ (l : List Said). so_far.said ++ l) here.1 ∙ sym (append_assoc so_far.said (said_of flaw ∷ []) here.0);
        are_left = here.2;
        some = some_more so_far.said (said_of flaw);
        out = subst (λ (l : List ℕ). Appends before now l) text (Appends-trans before mid now front wrote.0 so_far.out wrote.2);
      }

  pub all_put : (left : List ℕ) (has_flaw : Bool) (before now : Option (List ℕ)) → PutSoFar order kind place flaws left has_flaw before now → ((more : List Said) → HasFlaws order kind more left → more ≡ [])
      → WritesFlaws place flaws before now (Ok has_flaw)
  all_put left has_flaw before now so_far none =
      let all : flaws ≡ so_far.said = so_far.split ∙ ap (λ (l : List Said). so_far.said ++ l) (none so_far.others so_far.are_left) ∙ append-nil so_far.said in
      (so_far.some ∙ ap are_some (sym all), subst (λ (l : List Said). Appends before now (said_lines place l)) (sym all) so_far.out)

  pub torn_put : (left rest : List ℕ) (has_flaw : Bool) (before mid now : Option (List ℕ)) (flaw : Flaw) (exit : Exit) → PutSoFar order kind place flaws left has_flaw before mid → Begins flaw left rest
      → WritesLine (λ line. line ≡ said_line place (said_of flaw)) mid now (Err exit) → (IsMemoryExit exit → ⊥) → WritesFlaws place flaws before now (Err exit)
  torn_put left rest has_flaw before mid now flaw (Io (IoError e)) so_far begins torn known =
      let here = begins so_far.others so_far.are_left in
      let front = said_lines place so_far.said in
      let line = said_line place (said_of flaw) in
      let more = said_lines place here.0 in
      let part : AppendsPart mid now line = subst (λ (l : List ℕ). AppendsPart mid now l) torn.1 torn.2 in
      let all : front ++ (line ++ more) ≡ said_lines place flaws =
      sym (ap (said_lines place) (so_far.split ∙ ap (λ (l : List Said). so_far.said ++ l) here.1) ∙ flat_map-append (said_line place) so_far.said (said_of flaw ∷ here.0)) in
      (front ++ (line ++ more), all, part_of_second front (line ++ more) before mid now so_far.out (part_of_first line more mid now part))
  torn_put left rest has_flaw before mid now flaw Memory so_far begins torn known = absurd (known tt)
  torn_put left rest has_flaw before mid now flaw _ so_far begins torn known = absurd torn

-- The one flaw of a body without options.
pub alone_put : (place : List ℕ) (flaw : Flaw) (before now : Option (List ℕ)) → WritesLine (λ line. line ≡ said_line place (said_of flaw)) before now (Ok tt) → WritesFlaws place (said_of flaw ∷ []) before now (Ok true)
alone_put place flaw before now wrote = (refl, subst (λ (l : List ℕ). Appends before now l) (wrote.1 ∙ sym (append-nil (said_line place (said_of flaw)))) wrote.2)

pub alone_torn : (place : List ℕ) (flaw : Flaw) (before now : Option (List ℕ)) (exit : Exit) → WritesLine (λ line. line ≡ said_line place (said_of flaw)) before now (Err exit) → WritesFlaws place (said_of flaw ∷ []) before now (Err exit)
alone_torn place flaw before now (Io (IoError e)) torn = (torn.0, torn.1 ∙ sym (append-nil (said_line place (said_of flaw))), torn.2)
alone_torn place flaw before now Memory torn = torn
alone_torn place flaw before now _ torn = absurd torn
