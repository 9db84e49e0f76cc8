-- Laws of the lattice file: its length, that a file written is read again as the same lattice, and that an accepted file is the file of
-- the lattice read from it.
use Rattle.std.specs.Prelude.{◌≡◌, ◌↔◌, ◌&&◌, List, ◌++◌, ℕ, suc, ◌+◌, ◌*◌, ◌/◌, ◌%◌, ◌≤◌, ◌<◌, leb, ℤ, pos, nat_abs, get_or, take}
use Rattle.std.proofs.Math.Path.{refl}
use Rattle.std.proofs.Common.{sym, ap, ◌∙◌, div-add-mod', div-lt_iff_lt-mul, mod-lt, arith, leb→le, le→leb, length-append}
use Rattle.std.proofs.Math.Option.{none}
use Rattle.std.proofs.Math.Dec.{eqb→eq, eqb_refl}
use Rattle.std.specs.Float.Ieee.Fits.{and_i}
use Rattle.std.proofs.Math.ListN.{length}
use Rattle.std.proofs.Math.Facts.{and_yes}
use Rattle.algebra.specs.Table.{joined, tabulate_same, tabulate_take, get_d_tabulate, length_joined}
use Rattle.rules.specs.Grid.{Lattice, limit, in_range, within, controls, control, store}
use Rattle.rules.specs.Answers.{cells, short, call}
use Rattle.rules.specs.Bytes.{bytes_of, value_bytes, value_at}
use Rattle.rules.specs.LatticeFile.{LH, LR, Le, row_record, lattice_file, row_length, row_start, lattice_file_length, file_m, file_n}
use Rattle.rules.specs.LatticeFile.{lattice_head_check, row_check, end_check, lattice_file_check, file_lattice}
use Rattle.rules.specs.LatticeFile.{read_lattice_check, read_lattice_call, write_lattice_check}
use Rattle.rules.proofs.Laws.Checks.{required, require_met, range_check_size, size_range_check, within_bounds, then_first, then_rest, then_none, first_of_none, first_of_all, in_range_size, size_in_range}
use Rattle.rules.specs.Laws.Bytes.{AreBytes, Spans}
use Rattle.rules.proofs.Laws.Bytes.{spans_whole, spans_file, spans_join, spans_split, spans_moved, spans_joined, spans_part, spans_fits}
use Rattle.rules.proofs.Laws.Bytes.{length_bytes_of, length_value_bytes, number_read, number_spans, value_read, value_spans, record_fits, record_mark, record_met}
use Rattle.rules.specs.Calls.{cells_check, lattice_check}
use Rattle.rules.specs.Laws.Surface.{Same}
use Rattle.rules.proofs.Laws.Surface.{length_store, control_store, control_within}
use Rattle.rules.specs.Laws.LatticeFile.{Writable, Reads, OfLattice}

-- ---- the length

length_values : (m : ℕ) (lattice : List ℤ) (r : ℕ) → length (joined (m + 3) (λ c. value_bytes (control m lattice c r))) ≡ 8 * (m + 3)
length_values m lattice r = length_joined 8 _ (λ c. length_value_bytes (control m lattice c r)) (m + 3) ∙ omega arith

length_row_record : (m : ℕ) (lattice : List ℤ) (r : ℕ) → length (row_record m lattice r) ≡ row_length m
unfolding row_record row_length LR
length_row_record m lattice r =
    rw (length-append (LR ++ bytes_of 2 r) (joined (m + 3) (λ c. value_bytes (control m lattice c r))), length_values m lattice r, length_bytes_of 2 r) (omega arith)

pub length_lattice_file : (m n : ℕ) (lattice : List ℤ) → length (lattice_file m n lattice) ≡ lattice_file_length m n
unfolding lattice_file lattice_file_length row_start LH Le
length_lattice_file m n lattice =
    simp (length-append, length_bytes_of, length_joined (row_length m) (row_record m lattice) (length_row_record m lattice)) (omega arith)

-- ---- where the fields stand: the file is its fields in their places, both ways

-- in a row that begins at byte s
record Row (file : List ℕ) (s m r : ℕ) (lattice : List ℤ) : Type 0 where
  mark : Spans file s (s + 2) LR
  number : Spans file (s + 2) (s + 4) (bytes_of 2 r)
  value : (c : ℕ) → c < m + 3 → Spans file (s + 4 + 8 * c) (s + 4 + 8 * suc c) (value_bytes (control m lattice c r))

record Fields (file : List ℕ) (m n : ℕ) (lattice : List ℤ) : Type 0 where
  head : Spans file 0 2 LH
  across : Spans file 2 4 (bytes_of 2 m)
  up : Spans file 4 6 (bytes_of 2 n)
  row : (r : ℕ) → r < n + 3 → Row file (row_start m r) m r lattice
  end : Spans file (row_start m (n + 3)) (row_start m (n + 3) + 2) Le
  rows : Spans file (row_start m (n + 3) + 2) (row_start m (n + 3) + 4) (bytes_of 2 (n + 3))

next_row : (m r : ℕ) → row_start m r + row_length m ≡ row_start m (suc r)
unfolding row_start
next_row m r = omega arith

first_row : (m : ℕ) → 6 ≡ row_start m 0
unfolding row_start
first_row m = omega arith

row_fields : {file : List ℕ} {s m r : ℕ} {lattice : List ℤ} → Spans file s (s + row_length m) (row_record m lattice r) → Row file s m r lattice
unfolding row_record row_length
row_fields {file} {s} {m} {r} {lattice} x =
    let values = spans_split (LR ++ bytes_of 2 r) (joined (m + 3) (λ c. value_bytes (control m lattice c r))) (s + 4) x (omega (arith, length_values m lattice r)) in
    let number = spans_split LR (bytes_of 2 r) (s + 2) values.0 (omega (arith, length_bytes_of 2 r)) in
    record {
      mark = number.0;
      number = number.1;
      value = spans_part (λ c. s + 4 + 8 * c) (λ c. value_bytes (control m lattice c r)) (m + 3) (λ c. omega (arith, length_value_bytes (control m lattice c r)))
          (spans_moved (omega arith) (omega arith) values.1);
    }

row_spans : {file : List ℕ} {s m r : ℕ} {lattice : List ℤ} → Row file s m r lattice → Spans file s (s + row_length m) (row_record m lattice r)
unfolding row_record row_length
row_spans {file} {s} {m} {r} {lattice} x =
    spans_join (spans_join x.mark x.number)
    (spans_moved (omega arith) (omega arith) (spans_joined (λ c. s + 4 + 8 * c) _ (m + 3) x.value))

file_fields : {file : List ℕ} {m n : ℕ} {lattice : List ℤ} → Spans file 0 (lattice_file_length m n) (lattice_file m n lattice) → Fields file m n lattice
unfolding lattice_file lattice_file_length
file_fields {file} {m} {n} {lattice} x =
    let s = row_start m (n + 3) in
    let first = LH ++ bytes_of 2 m in
    let lead = first ++ bytes_of 2 n in
    let records = joined (n + 3) (row_record m lattice) in
    let rows = spans_split (lead ++ records ++ Le) (bytes_of 2 (n + 3)) (s + 2) x (omega (arith, length_bytes_of 2 (n + 3))) in
    let end = spans_split (lead ++ records) Le s rows.0 (unfold Le in refl) in
    let body = spans_split lead records 6 end.0 (rw (length_joined (row_length m) (row_record m lattice) (length_row_record m lattice) (n + 3)) (unfold row_start in refl)) in
    let up = spans_split first (bytes_of 2 n) 4 body.0 (omega (arith, length_bytes_of 2 n)) in
    let across = spans_split LH (bytes_of 2 m) 2 up.0 (omega (arith, length_bytes_of 2 m)) in
    let next : (r : ℕ) → row_start m r + length (row_record m lattice r) ≡ row_start m (suc r) = λ r. omega (arith, next_row m r, length_row_record m lattice r) in
    record {
      head = across.0;
      across = across.1;
      up = up.1;
      row = λ r l. row_fields (spans_moved refl (sym (next_row m r)) (spans_part (row_start m) (row_record m lattice) (n + 3) next (spans_moved (first_row m) refl body.1) r l));
      end = end.1;
      rows = rows.1;
    }

file_spans : {file : List ℕ} {m n : ℕ} {lattice : List ℤ} → Fields file m n lattice → Spans file 0 (lattice_file_length m n) (lattice_file m n lattice)
unfolding lattice_file lattice_file_length
file_spans {file} {m} {n} {lattice} x =
    let rows = spans_joined (row_start m) (row_record m lattice) (n + 3) (λ r l. spans_moved refl (next_row m r) (row_spans (x.row r l))) in
    spans_join
    (spans_join (spans_join (spans_join (spans_join x.head x.across) x.up) (spans_moved (sym (first_row m)) refl rows)) x.end)
    x.rows

-- ---- a lattice's list, from its control values

-- column and row of place q
column_below : (m q : ℕ) → q % (m + 3) < m + 3
column_below m q = mod-lt q (omega arith)

row_below : (m n q : ℕ) → q < controls m n → q / (m + 3) < n + 3
unfolding controls
row_below m n q l = (div-lt_iff_lt-mul {k = m + 3} (omega arith)).1 (omega arith)

store_same : (m n : ℕ) (f g : Lattice) → Same m n f g → store m n f ≡ store m n g
unfolding store
store_same m n f g e =
    tabulate_same (controls m n) _ _ (λ q l. e.same (q % (m + 3)) (q / (m + 3)) (column_below m q) (row_below m n q l))

store_control : (m n : ℕ) (lattice : List ℤ) → controls m n ≤ length lattice → store m n (control m lattice) ≡ take (controls m n) lattice
unfolding store control
store_control m n lattice h =
    tabulate_same (controls m n) _ _ (λ q l. ap (λ i. get_or lattice i (pos 0)) (div-add-mod' q (m + 3)))
    ∙ tabulate_take (controls m n) lattice (pos 0) h

-- ---- what is read of a file with these fields

module _ {file : List ℕ} {m n : ℕ} {lattice : List ℤ} (w : Writable m n lattice) (x : Fields file m n lattice) where
  small : (m ≤ 512) × (n ≤ 512)
  small = ((within_bounds 1 512 m w.across).1, (within_bounds 1 512 n w.up).1)

  read_m : file_m file ≡ m
  unfolding file_m
  read_m = number_read 2 (omega (arith, small.0)) x.across

  read_n : file_n file ≡ n
  unfolding file_n
  read_n = number_read 2 (omega (arith, small.1)) x.up

  in_range_lem : (r c : ℕ) → r < n + 3 → c < m + 3 → nat_abs (control m lattice c r) ≤ limit
  in_range_lem r c k l = (control_within m n lattice w.range).size c r l k

  read_value : (r c : ℕ) → r < n + 3 → c < m + 3 → value_at file (row_start m r + 4 + 8 * c) ≡ control m lattice c r
  read_value r c k l = value_read (in_range_lem r c k l) ((x.row r k).value c l)

  head_met : lattice_head_check file ≡ none
  unfolding lattice_head_check
  head_met =
      then_none _ _ (record_met LH (unfold LH in refl) file 0 6 (spans_fits x.up (omega arith)) x.head)
      ∙ then_none _ _ (require_met _ _ (rw read_m w.across))
      ∙ require_met _ _ (rw read_n w.up)

  row_fits : (r : ℕ) → r < n + 3 → row_start m r + row_length m ≤ length file
  unfolding row_length
  row_fits r l = spans_fits (row_spans (x.row r l)) (omega arith)

  row_met : (r : ℕ) → r < n + 3 → row_check m file r ≡ none
  unfolding row_check
  row_met r l =
      then_none _ _ (record_met LR (unfold LR in refl) file (row_start m r) (row_length m) (row_fits r l) (x.row r l).mark)
      ∙ then_none _ _ (require_met _ _ (rw (number_read 2 (omega (arith, small.1)) (x.row r l).number) (eqb_refl r)))
      ∙ first_of_all (m + 3) _ (λ c k. require_met (in_range (value_at file (row_start m r + 4 + 8 * c))) _ (rw (read_value r c l k) (size_in_range (control m lattice c r) (in_range_lem r c l k))))

  end_met : length file ≡ lattice_file_length m n → end_check m n file ≡ none
  unfolding end_check lattice_file_length
  end_met l =
      then_none _ _ (record_met Le (unfold Le in refl) file (row_start m (n + 3)) 4 (omega arith) x.end)
      ∙ then_none _ _ (require_met _ _ (rw (number_read 2 (omega (arith, small.1)) x.rows) (eqb_refl (n + 3))))
      ∙ require_met _ _ (rw l (eqb_refl (row_start m (n + 3) + 4)))

  check_met : length file ≡ lattice_file_length m n → lattice_file_check file ≡ none
  unfolding lattice_file_check
  check_met l = rw (read_m, read_n) (then_none _ _ head_met ∙ then_none _ _ (first_of_all (n + 3) (row_check m file) row_met) ∙ end_met l)

  read_lattice : file_lattice file ≡ take (controls m n) lattice
  unfolding file_lattice
  read_lattice =
      rw (read_m, read_n) (store_same m n _ (control m lattice) (record { same = λ s t l k. read_value t s k l }) ∙ store_control m n lattice w.stored)

-- ---- what an accepted file has shown

module _ (file : List ℕ) (e : lattice_file_check file ≡ none) where
  head_none : lattice_head_check file ≡ none
  unfolding lattice_file_check
  head_none = then_first _ _ e

  row_none : (r : ℕ) → r < file_n file + 3 → row_check (file_m file) file r ≡ none
  unfolding lattice_file_check
  row_none = first_of_none (file_n file + 3) (row_check (file_m file) file) (then_first _ _ (then_rest _ _ e))

  end_none : end_check (file_m file) (file_n file) file ≡ none
  unfolding lattice_file_check
  end_none = then_rest _ _ (then_rest _ _ e)

  value_size : (r c : ℕ) → r < file_n file + 3 → c < file_m file + 3 → nat_abs (value_at file (row_start (file_m file) r + 4 + 8 * c)) ≤ limit
  unfolding row_check
  value_size r c k l =
      in_range_size _ (required _ _ (first_of_none (file_m file + 3) _ (then_rest _ _ (then_rest _ _ (row_none r k))) c l))

  pub read_writable : Writable (file_m file) (file_n file) (file_lattice file)
  unfolding lattice_head_check file_lattice store
  read_writable = record {
    across = required _ _ (then_first _ _ (then_rest _ _ head_none));
    up = required _ _ (then_rest _ _ (then_rest _ _ head_none));
    stored = omega (arith, length_store (file_m file) (file_n file) (λ s t. value_at file (row_start (file_m file) t + 4 + 8 * s)));
    range = λ q l. rw (get_d_tabulate (controls (file_m file) (file_n file)) _ q (pos 0) l) (value_size _ _ (row_below (file_m file) (file_n file) q l) (column_below (file_m file) q));
  }

  read_length : length file ≡ lattice_file_length (file_m file) (file_n file)
  unfolding end_check lattice_file_length
  read_length = eqb→eq _ _ (required _ _ (then_rest _ _ (then_rest _ _ end_none)))

  read_row : AreBytes file → (r : ℕ) → r < file_n file + 3 → Row file (row_start (file_m file) r) (file_m file) r (file_lattice file)
  unfolding row_check row_length file_lattice
  read_row h r l =
      let m = file_m file in
      let s = row_start m r in
      let fits = record_fits LR (unfold LR in refl) file s (row_length m) (then_first _ _ (row_none r l)) in
      record {
        mark = record_mark LR (unfold LR in refl) file s (row_length m) (then_first _ _ (row_none r l));
        number = number_spans h 2 (eqb→eq _ _ (required _ _ (then_first _ _ (then_rest _ _ (row_none r l))))) (omega arith) (omega arith);
        value = λ c k. value_spans h (sym ((control_store m (file_n file) _).same c r k l)) (omega arith) (omega arith);
      }

  read_fields : AreBytes file → Fields file (file_m file) (file_n file) (file_lattice file)
  unfolding lattice_head_check end_check lattice_file_length file_m file_n
  read_fields h =
      let s = row_start (file_m file) (file_n file + 3) in
      let fits = record_fits LH (unfold LH in refl) file 0 6 (then_first _ _ head_none) in
      record {
        head = record_mark LH (unfold LH in refl) file 0 6 (then_first _ _ head_none);
        across = number_spans h 2 refl (omega arith) (omega arith);
        up = number_spans h 2 refl (omega arith) (omega arith);
        row = read_row h;
        end = record_mark Le (unfold Le in refl) file s 4 (then_first _ _ end_none);
        rows = number_spans h 2 (eqb→eq _ _ (required _ _ (then_first _ _ (then_rest _ _ end_none)))) (omega arith) (omega (arith, read_length));
      }

  pub written_read : AreBytes file → lattice_file (file_m file) (file_n file) (file_lattice file) ≡ file
  written_read h = spans_file (rw read_length (file_spans (read_fields h)))

pub read_written : (m n : ℕ) (lattice : List ℤ) → Writable m n lattice → Reads (lattice_file m n lattice) m n (take (controls m n) lattice)
unfolding read_lattice_call read_lattice_check call
read_written m n lattice w =
    let file = lattice_file m n lattice in
    let x : Fields file m n lattice = file_fields (spans_moved refl (length_lattice_file m n lattice) (spans_whole file)) in
    let accepts = check_met w x (length_lattice_file m n lattice) in
    let checks : (output : List ℤ) → controls m n ≤ length output → read_lattice_check file output ≡ none =
    λ output l. then_none _ _ accepts ∙ require_met _ _ (rw (read_m w x, read_n w x) (le→leb (controls m n) (length output) l)) in
    record {
      accepts = accepts;
      across = read_m w x;
      up = read_n w x;
      lattice = read_lattice w x;
      reads = λ output l. rw (checks output l, read_m w x, read_n w x, read_lattice w x);
    }

pub accepted_files : (file : List ℕ) → AreBytes file → (lattice_file_check file ≡ none) ↔ OfLattice file
accepted_files file h = (
  λ e. record { m = file_m file; n = file_n file; lattice = file_lattice file; writable = read_writable file e; written = written_read file e h },
  λ o. rw (← o.written) (read_written o.m o.n o.lattice o.writable).accepts,
)

-- what the writer asks, besides a slice that is long enough
pub writer_accepts : (m n : ℕ) (lattice : List ℤ) (output : List ℕ)
    → (write_lattice_check m n lattice output ≡ none) ↔ (Writable m n lattice × (lattice_file_length m n ≤ length output))
unfolding write_lattice_check cells_check lattice_check
writer_accepts m n lattice output =
    let a = within 1 512 m in
    let b = within 1 512 n in
    let c = leb (controls m n) (length lattice) in
    let d = leb (lattice_file_length m n) (length output) in (
      λ e.
          let sides = and_yes a b (required (a && b) cells (then_first _ _ e)) in
          let long = and_yes c d (required (c && d) short (then_first _ _ (then_rest _ _ e))) in
          (record { across = sides.0; up = sides.1; stored = leb→le _ _ long.0; range = range_check_size _ _ _ (then_rest _ _ (then_rest _ _ e)) }, leb→le _ _ long.1),
      λ p.
          then_none _ _ (require_met (a && b) cells (and_i a b p.0.across p.0.up))
          ∙ then_none _ _ (require_met (c && d) short (and_i c d (le→leb _ _ p.0.stored) (le→leb _ _ p.1)))
          ∙ size_range_check _ _ _ p.0.range,
    )
