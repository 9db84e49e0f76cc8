-- A survey that the program takes passes the fit's checks 1 to 6 and 17, and the lattice file of what the fit leaves is the answer.
use Rattle.std.specs.Prelude.{ℕ, ◌+◌, ◌*◌, ◌≤◌, ◌≡◌, refl, List, ◌++◌, ℤ, length}
use Rattle.std.proofs.Common.{sym, ap, ap₂, ◌∙◌, mul-le-mul, arith, le-leb}
use Rattle.std.proofs.Math.Option.{none}
use Rattle.algebra.specs.Table.{over, joined_same}
use Rattle.rules.specs.Grid.{controls, control}
use Rattle.rules.specs.Fit.{Shape, columns, rows, Survey, point_count, single_lattice, difference_check, in_levels_check}
use Rattle.rules.specs.Answers.{Refusal, Check, require, ◌then◌, Answer, accepted, refused, Outcome, outcome}
use Rattle.rules.specs.Calls.{CellCounts, Lent, K, room_check, lent_check, fit_check, fit_call}
use Rattle.rules.specs.Bytes.{bytes_of, value_bytes}
use Rattle.rules.specs.LatticeFile.{LH, LR, Le, row_record, lattice_file, row_length, row_start, lattice_file_length}
use Rattle.rules.specs.Program.{refused_line, written}
use Rattle.rules.proofs.Laws.Checks.{then_none}
use Rattle.rules.specs.Laws.Passed.{FitAccepted}
use Rattle.rules.proofs.Laws.Passed.{surveyed_passes, placed_pass, fit_accepted, fit_refused}
use Rattle.rules.proofs.Laws.Base.{length_single}
use Rattle.rules.specs.Laws.Surface.{Same}
use Rattle.rules.proofs.Laws.Surface.{control_over}
use Rattle.refused_line.specs.Wrote.{Wrote}
use Rattle.respond.specs.Taken.{Taken, answer_text}

-- what is written is the answer
pub written_as : {x y d o : List ℕ} {n : ℕ} → x ≡ y → Wrote x d n o → Wrote y d n o
written_as {d = d} e w = record { long = w.long ∙ ap length e; is = w.is ∙ ap (λ l. over l d) e }

-- ---- sizes

controls_most : {m n : ℕ} → m ≤ 16 → n ≤ 16 → controls m n ≤ 361
unfolding controls
controls_most h k = mul-le-mul {n₂ = 19} {m₂ = 19} (omega arith) (omega arith)

file_most : {m n : ℕ} → m ≤ 16 → n ≤ 16 → lattice_file_length m n ≤ 2_974
unfolding lattice_file_length row_start row_length
file_most {m} {n} h k = let most : (n + 3) * (4 + 8 * (m + 3)) ≤ 2_964 = mul-le-mul {n₂ = 19} {m₂ = 156} (omega arith) (omega arith) in omega arith

-- ---- a file depends on the control values alone

file_reads : (m n : ℕ) (l r : List ℤ) → Same m n (control m l) (control m r) → lattice_file m n l ≡ lattice_file m n r
unfolding lattice_file row_record
file_reads m n l r s =
    ap (λ b. (LH ++ bytes_of 2 m ++ bytes_of 2 n) ++ b ++ Le ++ bytes_of 2 (n + 3))
    (joined_same (n + 3) (row_record m l) (row_record m r)
    (λ t h. ap (λ b. LR ++ bytes_of 2 t ++ b) (joined_same (m + 3) _ _ (λ c k. ap value_bytes (s.same c t k h)))))

-- ---- the fit

module _ {a : Shape} {s : Survey} (t : Taken a s) (w : Lent) (lattice : 361 ≡ length w.lattice) (residual : 535 ≡ length w.residual) (whole : 1_618 ≡ length w.whole) (floats : 722 ≡ length w.floats) where
  K-most : K a ≤ 361
  unfolding K
  K-most = controls_most t.across t.up

  lent_met : lent_check a (point_count s) w ≡ none
  unfolding lent_check room_check require
  lent_met =
      let p = point_count s in
      let few = t.few in
      let most = K-most in
      rw
      (le-leb (K a) (length w.lattice) (omega arith), le-leb p (length w.residual) (omega arith), le-leb (3 * K a + p) (length w.whole) (omega arith), le-leb (2 * K a) (length w.floats) (omega arith))
      refl

  fit_is : fit_check a s w ≡ (difference_check s.zs then in_levels_check a s)
  unfolding fit_check
  fit_is =
      then_none _ _ (surveyed_passes a s t.writable.surveyed)
      ∙ then_none _ _ lent_met
      ∙ then_none _ _ (placed_pass 16 (columns a a.h) (rows a a.h) s t.writable.placed)

  -- so the answer is what the fit's whole check decides
  answer_of_fit : answer_text a s ≡ written (fit_check a s w) a s
  unfolding answer_text
  answer_of_fit = ap (λ (judged : Check). written judged a s) (sym fit_is)

  module _ {told : Answer CellCounts} {left : Lent} (fitted : outcome told left ≡ fit_call a s w) where
    answered_by : told ≡ (fit_call a s w).answered
    answered_by = ap (λ (o : Outcome CellCounts Lent). o.answered) fitted

    -- the fit is refused by r
    pub refusal : (r : Refusal) → told ≡ refused r → refused_line r ≡ answer_text a s
    unfolding written
    refusal r e = rw (answer_of_fit, fit_refused a s w r (sym answered_by ∙ e)) refl

    -- the fit is accepted with m by n cells
    module _ (m n : ℕ) (e : told ≡ accepted (record { m = m; n = n })) where
      fine : FitAccepted a s w (record { m = m; n = n })
      fine = fit_accepted a s w (record { m = m; n = n }) (sym answered_by ∙ e)

      across : columns a a.h ≡ m
      across = ap (λ (c : CellCounts). c.m) fine.counts

      up : rows a a.h ≡ n
      up = ap (λ (c : CellCounts). c.n) fine.counts

      pub room : (controls m n ≤ 361) × (lattice_file_length m n ≤ 2_974)
      room =
          let p : m ≤ 16 = rw (← across) t.across in
          let q : n ≤ 16 = rw (← up) t.up in
          (controls_most p q, file_most p q)

      answer_is : answer_text a s ≡ lattice_file m n (single_lattice a s)
      unfolding written
      answer_is = rw (answer_of_fit, fine.unrefused, across, up) refl

      pub file_is : lattice_file m n left.lattice ≡ answer_text a s
      file_is =
          ap (λ (o : Outcome CellCounts Lent). lattice_file m n o.slices.lattice) fitted
          ∙ ap (lattice_file m n) fine.lattice_is
          ∙ file_reads m n _ _ (control_over m n (single_lattice a s) w.lattice (length_single a s ∙ ap₂ controls across up))
          ∙ sym answer_is
