-- Lemmas about bytes that are written by several calls.
use Rattle.std.proofs.Common.{ℕ, List, ◌++◌, take, drop, ap, sym, ◌∙◌, append_assoc, length-append, length-drop, arith, Ok, Err}
use Rattle.std.specs.Prelude.{Option, Result}
use Rattle.std.proofs.lemmas.List.{take-append-drop}
use Rattle.std.specs.Io.KnownBytes.{Appends}
use Rattle.std.proofs.KnownBytes.{Appends-trans}
use Rattle.pcap_core.specs.declared.errors.PcapError.{PcapError}
use Rattle.pcap_core.specs.declared.errors.PcapError.TheVariants as errors
use Rattle.pcap_items.specs.declared.stream.writing.Torn.{Torn}
use Rattle.pcap_core.specs.Errors.{IsIo}
use Rattle.pcap_items.specs.Writing.{Writes, AppendsPart, WritesAll, WritesOrTears}

pub writes_more : (bytes left : List ℕ) (a b c : Option (List ℕ)) (n : ℕ) → Writes bytes left a b → Appends b c (take n left) → Writes bytes (drop n left) a c
writes_more bytes left a b c n so_far out = record {
  gone = so_far.gone ++ take n left;
  split = so_far.split ∙ ap (λ (l : List ℕ). so_far.gone ++ l) (sym (take-append-drop n left)) ∙ sym (append_assoc so_far.gone (take n left) (drop n left));
  out = Appends-trans a b c so_far.gone (take n left) so_far.out out;
}

-- a torn write, without the number of bytes that were written
pub tears_all : (bytes : List ℕ) (a b : Option (List ℕ)) (torn : Torn) → WritesOrTears a b bytes (Err torn) → WritesAll a b bytes (Err torn.error)
tears_all bytes a b torn out = torn_as torn.error out.0
  where
    part : AppendsPart a b bytes
    part = (
      drop torn.gone bytes,
      omega (arith, out.1, length-drop torn.gone bytes),
      record { gone = take torn.gone bytes; split = sym (take-append-drop torn.gone bytes); out = out.2 },
    )

    torn_as : (e : PcapError) → IsIo e → WritesAll a b bytes (Err e)
    torn_as (errors.IoError x) io = part
    torn_as _ io = absurd io

-- a beginning of the first of two pieces, or the first and a beginning of the second
pub part_of_first : (first second : List ℕ) (a b : Option (List ℕ)) → AppendsPart a b first → AppendsPart a b (first ++ second)
part_of_first first second a b part = (
  part.0 ++ second,
  omega (arith, part.1, length-append part.0 second),
  record {
    gone = part.2.gone;
    split = ap (λ (l : List ℕ). l ++ second) part.2.split ∙ append_assoc part.2.gone part.0 second;
    out = part.2.out;
  },
)

pub part_of_second : (first second : List ℕ) (a b c : Option (List ℕ)) → Appends a b first → AppendsPart b c second → AppendsPart a c (first ++ second)
part_of_second first second a b c whole part = (
  part.0,
  part.1,
  record {
    gone = first ++ part.2.gone;
    split = ap (λ (l : List ℕ). first ++ l) part.2.split ∙ sym (append_assoc first part.2.gone part.0);
    out = Appends-trans a b c first part.2.gone whole part.2.out;
  },
)

-- two writes in order: the first fails, or the second ends them
pub first_fails : (first second : List ℕ) (a b : Option (List ℕ)) (e : PcapError) → WritesAll a b first (Err e) → WritesAll a b (first ++ second) (Err e)
first_fails first second a b (errors.IoError x) out = part_of_first first second a b out
first_fails first second a b _ out = absurd out

pub second_ends : (first second : List ℕ) (a b c : Option (List ℕ)) (r : Result (Unit {0}) PcapError) → Appends a b first → WritesAll b c second r → WritesAll a c (first ++ second) r
second_ends first second a b c (Ok u) whole out = Appends-trans a b c first second whole out
second_ends first second a b c (Err (errors.IoError x)) whole out = part_of_second first second a b c whole out
second_ends first second a b c _ whole out = absurd out
