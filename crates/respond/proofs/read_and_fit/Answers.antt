-- Each way out tells what the rules say at its test.
use Rattle.std.proofs.Common.{◌≡◌, ℕ, ◌≤◌, List, length, take, true, refl, sym, ◌∙◌, arith, leb-true, leb-false, length-take-le}
use Rattle.std.proofs.lemmas.Result.{err_from_is_err_and}
use Rattle.rules.specs.Fit.{survey}
use Rattle.survey.specs.Survey.{shape_of}
use Rattle.point_records.specs.Read.{header_of}
use Rattle.respond.proofs.Reading.{few, too_long, refusal, ReadAs, read_as, points_fit, shape_most, too_many, answer_is, taken}
use Rattle.respond.proofs.read_and_fit.Goals as goal
use Rattle.respond.proofs.read_and_fit.Goals.{In_ok-header, Else-not-few_cells}

pub returns-then-not-few_bytes : goal.returns-then-not-few_bytes
returns-then-not-few_bytes c = (too_long _ (leb-false _ _ (sym c.few_bytes.ensures ∙ c.if-not-few_bytes.true)), refl)

pub returns-in_err-header : goal.returns-in_err-header
returns-in_err-header c =
    let p = err_from_is_err_and c.from_residual.result c.from_residual.ensures.1 in
    rw (p.1, p.2)
    (refusal _ (leb-true _ _ (sym c.few_bytes.ensures ∙ c.if-not-few_bytes.false)) _ refl refl refl refl c.in_err-header.ensures _ refl, refl)

-- the reader has accepted the file
read : (c : In_ok-header)
    → ReadAs c.args.input.now (header_of c.in_ok-header.header) (survey c.read_points.new.xs c.read_points.new.ys c.read_points.new.zs c.read_points.new.qs)
read c =
    read_as _ (leb-true _ _ (sym c.few_bytes.ensures ∙ c.if-not-few_bytes.false)) _ refl refl refl refl
    c.in_ok-header.ensures _ refl (λ i. (c.type_inv.input i).fits)

pub few_cells-requires : goal.few_cells-requires
few_cells-requires c = shape_most (read (goal.at.few_cells-requires c).In_ok-header)

pub returns-then-not-few_cells : goal.returns-then-not-few_cells
returns-then-not-few_cells c =
    (too_many (read (goal.at.returns-then-not-few_cells c).In_ok-header) (sym c.few_cells.ensures ∙ c.if-not-few_cells.true), refl)

-- a slice has room for the points
room : {A : Type 0} (xs : List A) {p : ℕ} → p ≤ 535 → length xs ≡ 535 → p ≤ length xs
room xs h e = omega arith

-- and its first are as many
firsts : {A : Type 0} (xs : List A) {p : ℕ} → p ≤ 535 → length xs ≡ 535 → p ≡ length (take p xs)
firsts xs h e = sym (length-take-le _ xs (room xs h e))

pub slice_bounds-xs-end : goal.slice_bounds-xs-end
slice_bounds-xs-end c = room _ (points_fit (read (goal.at.slice_bounds-xs-end c).In_ok-header)) c.read_points.auto.xs

pub slice_bounds-fit_and_write-end : goal.slice_bounds-fit_and_write-end
slice_bounds-fit_and_write-end c = firsts _ (points_fit (read (goal.at.slice_bounds-fit_and_write-end c).In_ok-header)) c.read_points.auto.xs

pub slice_bounds-ys-end : goal.slice_bounds-ys-end
slice_bounds-ys-end c = room _ (points_fit (read (goal.at.slice_bounds-ys-end c).In_ok-header)) c.read_points.auto.ys

pub slice_bounds-fit_and_write-end-2 : goal.slice_bounds-fit_and_write-end-2
slice_bounds-fit_and_write-end-2 c = firsts _ (points_fit (read (goal.at.slice_bounds-fit_and_write-end-2 c).In_ok-header)) c.read_points.auto.ys

pub slice_bounds-zs-end : goal.slice_bounds-zs-end
slice_bounds-zs-end c = room _ (points_fit (read (goal.at.slice_bounds-zs-end c).In_ok-header)) c.read_points.auto.zs

pub slice_bounds-fit_and_write-end-3 : goal.slice_bounds-fit_and_write-end-3
slice_bounds-fit_and_write-end-3 c = firsts _ (points_fit (read (goal.at.slice_bounds-fit_and_write-end-3 c).In_ok-header)) c.read_points.auto.zs

pub slice_bounds-qs-end : goal.slice_bounds-qs-end
slice_bounds-qs-end c = room _ (points_fit (read (goal.at.slice_bounds-qs-end c).In_ok-header)) c.read_points.auto.qs

pub slice_bounds-fit_and_write-end-4 : goal.slice_bounds-fit_and_write-end-4
slice_bounds-fit_and_write-end-4 c = firsts _ (points_fit (read (goal.at.slice_bounds-fit_and_write-end-4 c).In_ok-header)) c.read_points.auto.qs

-- nor has it too many cells
fits : (c : Else-not-few_cells) → few (shape_of c.in_ok-header.header.shape) ≡ true
fits c = sym c.few_cells.ensures ∙ c.if-not-few_cells.false

pub fit_and_write-requires : goal.fit_and_write-requires
fit_and_write-requires c =
    let p = goal.at.fit_and_write-requires c in
    (taken (read p.In_ok-header) (fits p.Else-not-few_cells), c.requires)

pub returns : goal.returns
returns c =
    let p = goal.at.returns c in
    rw (← answer_is (read p.In_ok-header) (fits p.Else-not-few_cells)) c.fit_and_write.ensures
