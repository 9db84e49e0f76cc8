-- What the fit answers and leaves: a refusal before the levels is the rules' and leaves all as it was; what `run` leaves, cleared, is the rules'.
use Rattle.std.proofs.Common.{◌≡◌, sym, ap, subst, ◌∙◌, ◌&&◌, List, ◌++◌, ℕ, ◌+◌, ◌*◌, ◌≤◌, take, drop, leb, leb→le, ℤ, pos, length, replicate}
use Rattle.std.proofs.Math.Facts.{and_yes}
use Rattle.std.proofs.Math.Seq.{length-take-le}
use Rattle.std.proofs.lemmas.List.{length-replicate}
use Rattle.std.specs.Float.Ieee.{Float}
use Rattle.std.proofs.Math.Option.{none, some}
use Rattle.algebra.specs.Table.{over, over_length}
use Rattle.rules.specs.Grid.{cells_at, controls}
use Rattle.rules.specs.Level.{zero64}
use Rattle.rules.specs.Fit.{Shape, columns, rows, Survey, point_count, from_base, difference_check, in_levels_check}
use Rattle.rules.specs.Answers.{Refusal, short, Check, ◌then◌, Answer, refused, outcome}
use Rattle.rules.specs.Calls.{CellCounts, Lent, lent, K, survey_check, room_check, lent_check, points_check, cleared, fit_end, fit_call}
use Rattle.rules.specs.Demand3.{Demand3}
use Rattle.rules.specs.Laws.Checks.{AllInRange}
use Rattle.rules.proofs.Laws.Checks.{required, then_first, then_rest}
use Rattle.rules.specs.Laws.Passed.{Surveyed}
use Rattle.rules.proofs.Laws.Passed.{points_passed, based_surveyed, based_placed, controls_fit}
use Rattle.rules.proofs.Laws.Refused.{early_check, grouped, early_only}
use Rattle.rules.proofs.Laws.Distance.{demand3}
use Rattle.scratch.specs.Scratch.{Levelable}

-- ---- the fit

-- what is checked of the points: 5, 6 and 17, and then 15
abbrev pub pointed : Shape → Survey → Check
pointed a s = points_check 16 (columns a a.h) (rows a a.h) s then difference_check s.zs

module _ (a : Shape) (s : Survey) (l : Lent) where
  -- what the contract says of an answer and the four slices
  abbrev Promised : Answer CellCounts → Lent → Type 0
  Promised t n = (outcome t n ≡ fit_call a s l) × Demand3 a s t n.lattice

  promised : {t : Answer CellCounts} {n : Lent} → outcome t n ≡ fit_call a s l → Promised t n
  promised e = (e, subst (λ o. Demand3 a s o.answered o.slices.lattice) (sym e) (demand3 a s l))

  refused_early : {r : Refusal} → early_check a s l ≡ some r → Promised (refused r) l
  unfolding fit_call fit_end ◌then◌
  refused_early {r} e = promised (rw (grouped a s l, e, (early_only a s l).only r e))

  pub refused_head : {r : Refusal} → survey_check a s ≡ some r → Promised (refused r) l
  unfolding ◌then◌
  refused_head e = refused_early (rw e)

  module _ (head : survey_check a s ≡ none) where
    pub refused_room : {r : Refusal} → lent_check a (point_count s) l ≡ some r → Promised (refused r) l
    unfolding ◌then◌
    refused_room e = refused_early (rw (head, e))

    module _ (room : lent_check a (point_count s) l ≡ none) where
      pub refused_points : {r : Refusal} → pointed a s ≡ some r → Promised (refused r) l
      unfolding ◌then◌
      refused_points e = refused_early (rw (head, room, e))

      -- what `run` leaves is cleared
      pub run_cleared : {t : Answer CellCounts} {most : ℕ} (n : Lent) {whole : List ℤ} {floats : List Float} → pointed a s ≡ none → most ≡ K a
          → outcome t (cleared a (point_count s) n) ≡ fit_end a s l (in_levels_check a s)
          → whole ≡ over (replicate (3 * most + point_count s) (pos 0)) n.whole → floats ≡ over (replicate (2 * most) zero64) n.floats
          → Promised t (lent n.lattice n.residual whole floats)
      unfolding fit_call cleared ◌then◌
      run_cleared {t} {most} n points most_is ends w f =
          promised (rw (grouped a s l, head, room, points, w, f, most_is) ends)

-- ---- what the checks before the levels have shown

-- `room` finds what the rules' check of the lent slices does
pub room_is : (a : Shape) (p most : ℕ) (l : Lent) → most ≡ K a
    → room_check most p (length l.lattice) (length l.residual) (length l.whole) (length l.floats) ≡ lent_check a p l
unfolding lent_check
room_is a p most l e = rw e

-- the slices are long enough
pub record Roomy (p most lattice residual whole floats : ℕ) : Type 0 where
  pub for_lattice : most ≤ lattice
  pub for_residual : p ≤ residual
  pub for_whole : 3 * most + p ≤ whole
  pub for_floats : 2 * most ≤ floats

pub roomy : (p most lattice residual whole floats : ℕ) → room_check most p lattice residual whole floats ≡ none → Roomy p most lattice residual whole floats
unfolding room_check
roomy p most lattice residual whole floats e =
    let s = and_yes (leb most lattice && leb p residual && leb (3 * most + p) whole) (leb (2 * most) floats) (required _ short e) in
    let r = and_yes (leb most lattice && leb p residual) (leb (3 * most + p) whole) s.0 in
    let q = and_yes (leb most lattice) (leb p residual) r.0 in
    record {
      for_lattice = leb→le most lattice q.0;
      for_residual = leb→le p residual q.1;
      for_whole = leb→le (3 * most + p) whole r.1;
      for_floats = leb→le (2 * most) floats s.1;
    }

-- heights of points that are in order are in range
pub heights_ranged : (m n : ℕ) (s : Survey) → length s.zs ≡ point_count s → points_check 16 m n s ≡ none → AllInRange (length s.zs) s.zs
heights_ranged m n s many e i l = (points_passed 16 m n s e i (rw (← many) l)).z_size

pub controls_few : (m n : ℕ) → m ≤ 512 → n ≤ 512 → controls m n ≤ 265_225
unfolding controls
controls_few m n h k = controls_fit m n h k

-- the cells of level h as the code has them
module _ (a : Shape) {m n : ℕ} (m_is : m ≡ cells_at a.m0 a.h) (n_is : n ≡ cells_at a.n0 a.h) where
  pub most_is : {most : ℕ} → most ≡ controls m n → most ≡ K a
  unfolding K columns rows
  most_is e = e ∙ rw (m_is, n_is)

  -- the code's check of the points is that of the rules
  pub points_is : (s : Survey) → (points_check 16 m n s then difference_check s.zs) ≡ pointed a s
  unfolding columns rows
  points_is s = rw (m_is, n_is)

pub run_ready : {a : Shape} {s : Survey} {most lattice residual whole floats : ℕ} → Surveyed a s → pointed a s ≡ none → most ≡ K a → most ≤ 265_225
    → Roomy (point_count s) most lattice residual whole floats → Levelable a (from_base s) most whole floats
run_ready {a = a} {s = s} shown e most_is few r = record {
  surveyed = based_surveyed shown;
  placed = based_placed shown (then_rest _ _ e) (points_passed 16 (columns a a.h) (rows a a.h) s (then_first _ _ e));
  most_is = most_is;
  most_fits = few;
  whole_room = r.for_whole;
  floats_room = r.for_floats;
}

-- a part that is filled is laid over the start of its slice
pub filled : {A : Type 0} (k : ℕ) (v : A) (d : List A) {new : List A} → k ≤ length d → new ≡ replicate (length (take k d)) v → new ++ drop k d ≡ over (replicate k v) d
filled k v d h is =
    ap (λ r. r ++ drop k d) (is ∙ ap (λ i. replicate i v) (length-take-le k d h)) ∙ sym (over_length k (replicate k v) d (length-replicate k v))
