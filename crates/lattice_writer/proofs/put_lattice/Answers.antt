-- The head, the rows and the end, laid one after another, are the file.
use Rattle.std.proofs.Common.{◌≡◌, refl, sym, ap, ap₂, ◌∙◌, List, [], ◌∷◌, ◌++◌, ℕ, ◌+◌, ℤ, length, length-append, arith}
use Rattle.algebra.specs.Table.{joined, over, laid, laid_front, laid_over, length_joined}
use Rattle.rules.specs.Bytes.{bytes_of}
use Rattle.rules.proofs.Laws.Bytes.{length_bytes_of}
use Rattle.rules.specs.LatticeFile.{LH, Le, row_record, lattice_file, row_length, row_start, lattice_file_length}
use Rattle.lattice_layout.specs.Places.{row_long}
use Rattle.lattice_writer.proofs.put_lattice.Goals as goal
use Rattle.lattice_writer.proofs.put_lattice.Goals.{After-row_start-s}

-- the next entries, laid where a result ends
next : (k : ℕ) (r new d e f : List ℕ) → k ≡ length r → e ≡ over r d → f ≡ laid k new e → f ≡ over (r ++ new) d
next k r new d e f i p q = q ∙ ap₂ (λ j x. laid j new x) i p ∙ laid_over r new d

head_long : (m n : ℕ) → length (LH ++ bytes_of 2 m ++ bytes_of 2 n) ≡ 6
unfolding LH
head_long m n = simp (length-append, length_bytes_of)

rows_long : (m n : ℕ) (lattice : List ℤ) → length (LH ++ bytes_of 2 m ++ bytes_of 2 n ++ joined (n + 3) (row_record m lattice)) ≡ row_start m (n + 3)
unfolding row_start
rows_long m n lattice =
    length-append (LH ++ bytes_of 2 m ++ bytes_of 2 n) (joined (n + 3) (row_record m lattice))
    ∙ ap₂ ◌+◌ (head_long m n) (length_joined (row_length m) (row_record m lattice) (row_long m lattice) (n + 3))

file : (m n s : ℕ) (lattice : List ℤ) (d e f g h k l : List ℕ) → s ≡ row_start m (n + 3)
    → e ≡ laid 0 (0x4C ∷ 0x48 ∷ []) d
    → f ≡ laid 2 (bytes_of 2 m) e
    → g ≡ laid 4 (bytes_of 2 n) f
    → h ≡ laid 6 (joined (n + 3) (row_record m lattice)) g
    → k ≡ laid s (0x4C ∷ 0x45 ∷ []) h
    → l ≡ laid (s + 2) (bytes_of 2 (n + 3)) k
    → l ≡ over (lattice_file m n lattice) d
unfolding lattice_file LH Le
file m n s lattice d e f g h k l start p q r t u v =
    let e' = p ∙ laid_front LH d in
    let f' = next 2 LH (bytes_of 2 m) d e f refl e' q in
    let g' = next 4 (LH ++ bytes_of 2 m) (bytes_of 2 n) d f g (omega (arith, length_bytes_of 2 m)) f' r in
    let h' = next 6 (LH ++ bytes_of 2 m ++ bytes_of 2 n) (joined (n + 3) (row_record m lattice)) d g h (sym (head_long m n)) g' t in
    let body = LH ++ bytes_of 2 m ++ bytes_of 2 n ++ joined (n + 3) (row_record m lattice) in
    let k' = next s body Le d h k (start ∙ sym (rows_long m n lattice)) h' u in
    next (s + 2) (body ++ Le) (bytes_of 2 (n + 3)) d k l (omega (arith, length-append body Le, rows_long m n lattice)) k' v

-- where the end starts
starts : (c : After-row_start-s) → c.row_start-s.result ≡ row_start c.args.cells.m (c.args.cells.n + 3)
starts c = c.row_start-s.ensures.0 ∙ ap (row_start c.args.cells.m) c.rows-rows.ensures

pub put_mark-requires : goal.put_mark-requires
unfolding lattice_file_length row_start
put_mark-requires c = omega arith

pub put_u16-requires : goal.put_u16-requires
unfolding lattice_file_length row_start
put_u16-requires c = omega arith

pub put_u16-requires-2 : goal.put_u16-requires-2
unfolding lattice_file_length row_start
put_u16-requires-2 c = omega arith

pub put_rows-requires : goal.put_rows-requires
unfolding lattice_file_length
put_rows-requires c = (omega arith, omega arith)

pub put_mark-requires-2 : goal.put_mark-requires-2
unfolding lattice_file_length
put_mark-requires-2 c = omega (arith, starts (goal.at.put_mark-requires-2 c).After-row_start-s)

pub put_u16-requires-3 : goal.put_u16-requires-3
unfolding lattice_file_length
put_u16-requires-3 c = omega (arith, starts (goal.at.put_u16-requires-3 c).After-row_start-s)

pub returns-clause-bytes_written : goal.returns-clause-bytes_written
unfolding lattice_file_length
returns-clause-bytes_written c = ap (λ s. s + 4) (starts (goal.at.returns-clause-bytes_written c).After-row_start-s)

pub returns-clause-output_after : goal.returns-clause-output_after
returns-clause-output_after c =
    let a = c.args in
    let last = c.put_u16-3.ensures ∙ ap (λ k. laid (c.row_start-s.result + 2) (bytes_of 2 k) c.put_mark-2.new.output) c.rows-rows.ensures in
    file a.cells.m a.cells.n _ a.lattice.now a.output.now _ _ _ _ _ _ (starts (goal.at.returns-clause-output_after c).After-row_start-s)
    c.put_mark.ensures c.put_u16.ensures c.put_u16-2.ensures c.put_rows.ensures c.put_mark-2.ensures last
