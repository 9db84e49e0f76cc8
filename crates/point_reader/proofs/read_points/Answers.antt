-- A refusal, the file's or that a slice is short, leaves the four slices; an accepted file is copied to them.
use Rattle.std.proofs.Common.{◌⊎◌, inl, inr, ◌<◌, ◌≡◌, refl, sym, ap, ◌∙◌, false, ◌&&◌, List, ℕ, ◌≤◌, ℤ, leb, eqb→eq, length, arith}
use Rattle.std.proofs.Math.Option.{none, some}
use Rattle.std.proofs.lemmas.Result.{err_from_is_err_and}
use borrow.Author.Tests.{le-leb, lt-leb}
use Rattle.algebra.specs.Table.{tabulate, over}
use Rattle.rules.specs.Fit.{Survey, survey}
use Rattle.rules.specs.Answers.{Refusal, require, ◌then◌, short, Answer, accepted, refused, answer, outcome}
use Rattle.rules.specs.PointFile.{Header, file_points, kind_of, file_start, file_x, file_y, file_z, file_q, file_survey, point_file_check, read_points_check, over_lists, read_points_call}
use Rattle.rules.proofs.Laws.Checks.{required, then_rest, answer_none, answer_value, answer_refused, call_refused, call_accepted}
use Rattle.point_records.specs.declared.Kind.{Kind}
use Rattle.point_records.specs.Read.{header, ruled, Held}
use Rattle.point_reader.proofs.read_points.Goals as goal
use Rattle.point_reader.proofs.read_points.Goals.{In_ok-header}

-- a file that is accepted with the header a
module _ (file : List ℕ) (a : Header) (told : accepted a ≡ answer (point_file_check file) (header file)) where
  passed : point_file_check file ≡ none
  passed = answer_none _ _ a (sym told)

  count : file_points file ≡ a.points
  count = ap (λ (b : Header). b.points) (answer_value (point_file_check file) (header file) a (sym told))

  -- holds the records that its header counts
  held : {kind : Kind} → ruled kind ≡ kind_of file → Held file kind a.points
  unfolding point_file_check
  held is =
      let ends : length file ≡ file_start file (file_points file) = eqb→eq _ _ (required _ _ (then_rest _ _ (then_rest _ _ passed))) in
      record { alike = is; complete = rw (← count) (omega arith) }

-- the tests of the four slices' room, in their order
module _ (p : ℕ) {x y z q : ℕ} where
  too_short : (x < p) ⊎ ((p ≤ x) × (y < p)) ⊎ ((p ≤ x) × (p ≤ y) × (z < p)) ⊎ ((p ≤ x) × (p ≤ y) × (p ≤ z) × (q < p))
      → (leb p x && leb p y && leb p z && leb p q) ≡ false
  too_short (inl a) = simp (lt-leb _ _ a)
  too_short (inr (inl h)) = simp (le-leb _ _ h.0, lt-leb _ _ h.1)
  too_short (inr (inr (inl h))) = simp (le-leb _ _ h.0, le-leb _ _ h.1, lt-leb _ _ h.2)
  too_short (inr (inr (inr h))) = simp (le-leb _ _ h.0, le-leb _ _ h.1, le-leb _ _ h.2, lt-leb _ _ h.3)

module _ (file : List ℕ) (lent : Survey) where
  refusal : (r : Refusal) → read_points_check file lent ≡ some r → outcome (refused r) lent ≡ read_points_call file lent
  unfolding read_points_call
  refusal r e = call_refused _ _ _ lent r e

  at_file : {told : Answer Header} (r : Refusal) → told ≡ answer (point_file_check file) (header file) → told ≡ refused r → outcome told lent ≡ read_points_call file lent
  unfolding read_points_check ◌then◌
  at_file r judged e = rw e (refusal r (rw (answer_refused (point_file_check file) (header file) r (sym judged ∙ e))))

  -- the file is accepted, with the header a
  module _ (a : Header) (told : accepted a ≡ answer (point_file_check file) (header file)) where
    at_length : (leb a.points (length lent.xs) && leb a.points (length lent.ys) && leb a.points (length lent.zs) && leb a.points (length lent.qs)) ≡ false
        → outcome (refused short) lent ≡ read_points_call file lent
    unfolding read_points_check require ◌then◌
    at_length e = refusal short (rw (passed file a told, count file a told, e))

    -- and every slice is long enough
    copied : a.points ≤ length lent.xs → a.points ≤ length lent.ys → a.points ≤ length lent.zs → a.points ≤ length lent.qs
        → {x y q : List ℕ} {z : List ℤ}
        → x ≡ over (tabulate a.points (file_x file)) lent.xs
        → y ≡ over (tabulate a.points (file_y file)) lent.ys
        → z ≡ over (tabulate a.points (file_z file)) lent.zs
        → q ≡ over (tabulate a.points (file_q file)) lent.qs
        → outcome (accepted a) (survey x y z q) ≡ read_points_call file lent
    unfolding read_points_check read_points_call over_lists file_survey require ◌then◌
    copied lx ly lz lq ex ey ez eq =
        let n = count file a told in
        let whole = answer_value (point_file_check file) (header file) a (sym told) in
        let fine : read_points_check file lent ≡ none = rw (passed file a told, n, le-leb _ _ lx, le-leb _ _ ly, le-leb _ _ lz, le-leb _ _ lq) in
        rw (ex, ey, ez, eq, ← n, ← whole) (call_accepted _ _ _ lent fine)

-- the four slices as they were lent
abbrev given : In_ok-header → Survey
given c = let a = c.args in survey a.xs.now a.ys.now a.zs.now a.qs.now

pub returns-in_err-header : goal.returns-in_err-header
returns-in_err-header c =
    let a = c.args in
    let p = err_from_is_err_and c.from_residual.result c.from_residual.ensures.1 in
    rw (p.1, p.2) (at_file _ (survey a.xs.now a.ys.now a.zs.now a.qs.now) _ c.in_err-header.ensures refl)

pub returns-then-xs-p : goal.returns-then-xs-p
returns-then-xs-p c = at_length _ (given (goal.at.returns-then-xs-p c).In_ok-header) _ c.in_ok-header.ensures (too_short _ c.then-xs-p.either)

pub copy-requires : goal.copy-requires
copy-requires c = (held _ _ c.in_ok-header.ensures c.kind_of.ensures, omega arith, omega arith, omega arith, omega arith)

pub returns : goal.returns
returns c =
    let new = c.copy.ensures in
    copied _ (given (goal.at.returns c).In_ok-header) _ c.in_ok-header.ensures c.if-xs-p.false c.if-ys-p.false c.if-zs-p.false c.if-qs-p.false
    new.x new.y new.z new.q
