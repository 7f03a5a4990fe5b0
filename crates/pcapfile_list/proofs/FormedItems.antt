-- This file proves how a packet in a form is written: its line, and the rows of its bytes.
use Rattle.std.proofs.Common.{◌≡◌, ◌<◌, ◌+◌, ◌-◌, ◌∙◌, ℕ, suc, List, [], ◌++◌, length, Bool, true, false, Option, Ok, Err, refl, sym, ap, subst, arith, append_assoc}
use Rattle.std.specs.Prelude.{IfErr, Result, codes, flat_map}
use Rattle.std.specs.List.{range_with_len}
use Rattle.std.specs.Io.KnownBytes.{Appends}
use Rattle.std.proofs.KnownBytes.{Appends-nil, Appends-trans}
use Rattle.pcap_core.specs.declared.errors.PcapError.TheVariants as errors
use Rattle.pcap_items.specs.Writing.{AppendsPart, Writes}
use Rattle.pcap_items.proofs.Writing.{part_of_first, part_of_second}
use Rattle.pcap_program.specs.declared.exit.Exit.{Exit}
use Rattle.pcap_program.specs.declared.exit.Exit.TheVariants as exits
use Rattle.pcap_program.specs.Exits.{IsMemoryExit}
use Rattle.pcap_program.specs.Lines.{WritesLine}
use Rattle.pcapfile_lines.specs.declared.form.Form.{Form}
use Rattle.pcapfile_lines.specs.declared.seen.Seen.{Seen}
use Rattle.pcapfile_lines.specs.Lines.{IsItemIn, IsLineIn}
use Rattle.pcapfile_lines.specs.Rows.{has_rows, nth_row, row_count, rows_text, with_rows}

-- The rows from this number on, and the empty line.
abbrev pub rows_from : List ℕ → ℕ → List ℕ
rows_from bytes number = flat_map (nth_row bytes) (range_with_len number (row_count (length bytes) - number)) ++ codes "\n"

-- The next row.
rows_next : (bytes : List ℕ) (number : ℕ) → number < row_count (length bytes) → rows_from bytes number ≡ nth_row bytes number ++ rows_from bytes (number + 1)
rows_next bytes number less =
    let left = row_count (length bytes) - (number + 1) in
    let count : row_count (length bytes) - number ≡ suc left = omega (arith, less) in
    ap (λ (c : ℕ). flat_map (nth_row bytes) (range_with_len number c) ++ codes "\n") count ∙ append_assoc (nth_row bytes number) (flat_map (nth_row bytes) (range_with_len (number + 1) left)) (codes "\n")

-- No row is left.
rows_last : (bytes : List ℕ) → rows_from bytes (row_count (length bytes)) ≡ codes "\n"
rows_last bytes =
    let count : row_count (length bytes) - row_count (length bytes) ≡ 0 = omega arith in
    ap (λ (c : ℕ). flat_map (nth_row bytes) (range_with_len (row_count (length bytes)) c) ++ codes "\n") count

-- The last of several writes ends them.
writes_last : (all last : List ℕ) (a b c : Option (List ℕ)) (result : Result (Unit {0}) Exit) → Writes all last a b → WritesLine (λ l. l ≡ last) b c result → IfErr result (λ exit. IsMemoryExit exit → ⊥)
    → WritesLine (λ l. l ≡ all) a c result
writes_last all last a b c (Ok done) so_far out no_memory =
    (all, refl, subst (λ (l : List ℕ). Appends a c l) (sym so_far.split) (Appends-trans a b c so_far.gone last so_far.out (subst (λ (l : List ℕ). Appends b c l) out.1 out.2)))
writes_last all last a b c (Err (exits.Io (errors.IoError e))) so_far out no_memory =
    (all, refl, subst (λ (l : List ℕ). AppendsPart a c l) (sym so_far.split) (part_of_second so_far.gone last a b c so_far.out (subst (λ (l : List ℕ). AppendsPart b c l) out.1 out.2)))
writes_last all last a b c (Err exits.Memory) so_far out no_memory = absurd (no_memory tt)
writes_last all last a b c (Err _) so_far out no_memory = absurd out

module _ (bytes : List ℕ) where
  pub rows_begin : (a : Option (List ℕ)) → Writes (rows_text bytes) (rows_from bytes 0) a a
  rows_begin a =
      let count : row_count (length bytes) ≡ row_count (length bytes) - 0 = omega arith in
      record { gone = []; split = ap (λ (c : ℕ). flat_map (nth_row bytes) (range_with_len 0 c) ++ codes "\n") count; out = Appends-nil a }

  module _ (number : ℕ) (less : number < row_count (length bytes)) (a b c : Option (List ℕ)) (so_far : Writes (rows_text bytes) (rows_from bytes number) a b) where
    abbrev row : List ℕ
    row = nth_row bytes number

    -- One more row was written.
    pub rows_more : WritesLine (λ l. l ≡ row) b c (Ok tt) → Writes (rows_text bytes) (rows_from bytes (number + 1)) a c
    rows_more out = record {
      gone = so_far.gone ++ row;
      split = so_far.split ∙ ap (λ (l : List ℕ). so_far.gone ++ l) (rows_next bytes number less) ∙ sym (append_assoc so_far.gone row (rows_from bytes (number + 1)));
      out = Appends-trans a b c so_far.gone row so_far.out (subst (λ (l : List ℕ). Appends b c l) out.1 out.2);
    }

    -- The next row was torn.
    pub rows_torn : (exit : Exit) → WritesLine (λ l. l ≡ row) b c (Err exit) → (IsMemoryExit exit → ⊥) → WritesLine (λ l. l ≡ rows_text bytes) a c (Err exit)
    rows_torn (exits.Io (errors.IoError e)) out no_memory =
        let rest = rows_from bytes (number + 1) in
        let first = part_of_first row rest b c (subst (λ (l : List ℕ). AppendsPart b c l) out.1 out.2) in
        let next = subst (λ (l : List ℕ). AppendsPart b c l) (sym (rows_next bytes number less)) first in
        (rows_text bytes, refl, subst (λ (l : List ℕ). AppendsPart a c l) (sym so_far.split) (part_of_second so_far.gone (rows_from bytes number) a b c so_far.out next))
    rows_torn exits.Memory out no_memory = absurd (no_memory tt)
    rows_torn _ out no_memory = absurd out

  -- All rows were written, and then the empty line.
  pub rows_ended : (a b c : Option (List ℕ)) (result : Result (Unit {0}) Exit) → Writes (rows_text bytes) (rows_from bytes (row_count (length bytes))) a b → WritesLine (λ l. l ≡ codes "\n") b c result
      → IfErr result (λ exit. IsMemoryExit exit → ⊥) → WritesLine (λ l. l ≡ rows_text bytes) a c result
  rows_ended a b c result so_far out no_memory = writes_last (rows_text bytes) (codes "\n") a b c result (subst (λ (l : List ℕ). Writes (rows_text bytes) l a b) (rows_last bytes) so_far) out no_memory

module _ (form : Form) (number : ℕ) (packet : Option Seen) (bytes line : List ℕ) (is : IsLineIn form number packet line) where
  -- A part of a line is a part of the line with rows.
  part_with : (rows : Bool) (a b : Option (List ℕ)) → AppendsPart a b line → AppendsPart a b (with_rows rows line bytes)
  part_with true a b part = part_of_first line (rows_text bytes) a b part
  part_with false a b part = part

  -- The line was torn.
  pub line_torn : (a b : Option (List ℕ)) (exit : Exit) → WritesLine (λ l. l ≡ line) a b (Err exit) → WritesLine (IsItemIn form number packet bytes) a b (Err exit)
  line_torn a b (exits.Io (errors.IoError e)) out = (with_rows (has_rows form) line bytes, (line, is, refl), part_with (has_rows form) a b (subst (λ (l : List ℕ). AppendsPart a b l) out.1 out.2))
  line_torn a b exits.Memory out = out
  line_torn a b _ out = absurd out

  -- The line was written, and no rows follow it.
  pub line_alone : has_rows form ≡ false → (a b : Option (List ℕ)) → WritesLine (λ l. l ≡ line) a b (Ok tt) → WritesLine (IsItemIn form number packet bytes) a b (Ok tt)
  line_alone none a b out = (line, (line, is, ap (λ (rows : Bool). with_rows rows line bytes) (sym none)), subst (λ (l : List ℕ). Appends a b l) out.1 out.2)

  -- The line was written, and then the rows.
  module _ (some : has_rows form ≡ true) where
    with : line ++ rows_text bytes ≡ with_rows (has_rows form) line bytes
    with = ap (λ (rows : Bool). with_rows rows line bytes) (sym some)

    pub line_and_rows : (a b c : Option (List ℕ)) (result : Result (Unit {0}) Exit) → WritesLine (λ l. l ≡ line) a b (Ok tt) → WritesLine (λ t. t ≡ rows_text bytes) b c result → IfErr result (λ exit. IsMemoryExit exit → ⊥)
        → WritesLine (IsItemIn form number packet bytes) a c result
    line_and_rows a b c (Ok done) out rows no_memory =
        let first = subst (λ (l : List ℕ). Appends a b l) out.1 out.2 in
        (line ++ rows_text bytes, (line, is, with), Appends-trans a b c line (rows_text bytes) first (subst (λ (l : List ℕ). Appends b c l) rows.1 rows.2))
    line_and_rows a b c (Err (exits.Io (errors.IoError e))) out rows no_memory =
        let first = subst (λ (l : List ℕ). Appends a b l) out.1 out.2 in
        (line ++ rows_text bytes, (line, is, with), part_of_second line (rows_text bytes) a b c first (subst (λ (l : List ℕ). AppendsPart b c l) rows.1 rows.2))
    line_and_rows a b c (Err exits.Memory) out rows no_memory = absurd (no_memory tt)
    line_and_rows a b c (Err _) out rows no_memory = absurd rows
