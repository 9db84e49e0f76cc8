use Rattle.std.proofs.Common.{◌≡◌, Bool, ℕ, ◌*◌, ◌^◌, ◌≤◌, ◌<◌, true, false, List, length, get_or, T, refl, sym, ap, subst, ◌∙◌, arith, to_z, of_z, below_none, below_more}
use Rattle.std.proofs.Math.Option.{none, some}
use Rattle.std.proofs.lemmas.Bool.{le-leb, lt-leb}
use Rattle.std.specs.Prelude.{ℤ, pos}
use Rattle.std.specs.Int.{w64}
use Rattle.std.specs.Int.Signed.{mag}
use Rattle.machine.specs.Held.{Held, Number, number, itself, read, plus, fits}
use Rattle.machine.specs.Tests.{plain}
use Rattle.rules.specs.Grid.{limit, in_range, inside}
use Rattle.rules.specs.Fit.{total}
use Rattle.rules.specs.Answers.{Refusal, Check, position, range, require, ◌then◌, first_of, accepted, refused, answer}
use Rattle.rules.specs.Calls.{spot_check}
use Rattle.rules.proofs.Laws.Base.{total_more, total_size}
use Rattle.rules.specs.Laws.Checks.{AllInRange}
use Rattle.rules.proofs.Laws.Checks.{required, then_rest, first_of_all, first_of_at, in_range_size}
use Rattle.point_checks.specs.Spots.{spot_at}
use Rattle.point_checks.proofs.spots.Goals as goal

module _ (m n : ℕ) (xs ys : List ℕ) (zs : List ℤ) (i : ℕ) where
  abbrev found : Check
  found = spot_at m n xs ys zs i

  past_right : 16 * m < get_or xs i 0 → found ≡ some (position i)
  unfolding spot_check require ◌then◌ inside
  past_right x = simp (lt-leb _ _ x)

  past_top : get_or xs i 0 ≤ 16 * m → 16 * n < get_or ys i 0 → found ≡ some (position i)
  unfolding spot_check require ◌then◌ inside
  past_top x y = simp (le-leb _ _ x, lt-leb _ _ y)

  out : get_or xs i 0 ≤ 16 * m → get_or ys i 0 ≤ 16 * n → in_range (get_or zs i (pos 0)) ≡ false → found ≡ some (range i)
  unfolding spot_check require ◌then◌ inside
  out x y z = simp (le-leb _ _ x, le-leb _ _ y, z)

  fine : get_or xs i 0 ≤ 16 * m → get_or ys i 0 ≤ 16 * n → in_range (get_or zs i (pos 0)) ≡ true → found ≡ none
  unfolding spot_check require ◌then◌ inside
  fine x y z = simp (le-leb _ _ x, le-leb _ _ y, z)

  -- point i is the first that is refused
  first : (r : Refusal) (v : ℤ) → ((k : ℕ) → k < i → spot_at m n xs ys zs k ≡ none) → i < length xs → found ≡ some r
      → refused r ≡ answer (first_of (length xs) (spot_at m n xs ys zs)) v
  unfolding answer
  first r v before l e = rw (first_of_at (length xs) i _ r (first_of_all i _ before) l e) refl

  -- the heights before it are in range
  ranged : ((k : ℕ) → k < i → spot_at m n xs ys zs k ≡ none) → AllInRange i zs
  unfolding spot_check
  ranged before k l = in_range_size _ (required _ (range k) (then_rest _ _ (before k l)))

-- the sum with the height of a turn, which is in range as those before it are
module _ (zs : List ℤ) (i : ℕ) (s : ℤ) (is : s ≡ total i zs) (few : i ≤ 65_535) (before : AllInRange i zs) where
  module _ (here : in_range (get_or zs i (pos 0)) ≡ true) where
    abbrev sum : Number
    sum =
        let so_far : Held s (total i zs) (65_535 * limit) = record { is = is; size = omega (arith, total_size i zs before, few) } in
        number (plus so_far (read tt (itself (get_or zs i (pos 0)) limit (in_range_size _ (subst T (sym here) tt)))))

-- `in_range` was handed the height's bits, read back
tested : (z : ℤ) → mag z < 2 ^ 63 → {b : Bool} → b ≡ in_range (to_z w64 (of_z w64 z)) → in_range z ≡ b
tested z f e = sym (e ∙ ap in_range (plain z f))

-- ---- what it finds

pub loop-i-init : goal.loop-i-init
unfolding total
loop-i-init c = (below_none _, refl)

pub returns-then-right-xs : goal.returns-then-right-xs
returns-then-right-xs c =
    let a = c.args in
    let l = c.loop-i in
    first a.cells.m a.cells.n a.xs.now a.ys.now a.zs.now l.i _ _ l.invariant.0 c.loop-i-test.true (past_right a.cells.m a.cells.n a.xs.now a.ys.now a.zs.now l.i (omega arith))

pub returns-then-top-ys : goal.returns-then-top-ys
returns-then-top-ys c =
    let a = c.args in
    let l = c.loop-i in
    first a.cells.m a.cells.n a.xs.now a.ys.now a.zs.now l.i _ _ l.invariant.0 c.loop-i-test.true
    (past_top a.cells.m a.cells.n a.xs.now a.ys.now a.zs.now l.i (omega arith) (omega arith))

pub returns-then-not-in_range : goal.returns-then-not-in_range
returns-then-not-in_range c =
    let a = c.args in
    let l = c.loop-i in
    first a.cells.m a.cells.n a.xs.now a.ys.now a.zs.now l.i _ _ l.invariant.0 c.loop-i-test.true
    (out a.cells.m a.cells.n a.xs.now a.ys.now a.zs.now l.i (omega arith) (omega arith) (tested _ (omega arith) c.if-not-in_range.ensures))

pub overflow_add-sum : goal.overflow_add-sum
overflow_add-sum c =
    let a = c.args in
    let l = c.loop-i in
    fits tt (sum a.zs.now l.i _ l.invariant.1 (omega arith) (ranged a.cells.m a.cells.n a.xs.now a.ys.now a.zs.now l.i l.invariant.0) (tested _ (omega arith) c.if-not-in_range.ensures)).held

pub loop-i-preserved : goal.loop-i-preserved
loop-i-preserved c =
    let a = c.args in
    let l = c.loop-i in
    let here : in_range (get_or a.zs.now l.i (pos 0)) ≡ true = tested _ (omega arith) c.if-not-in_range.ensures in (
      below_more _ _ l.invariant.0 (fine a.cells.m a.cells.n a.xs.now a.ys.now a.zs.now l.i (omega arith) (omega arith) here),
      (read tt (sum a.zs.now l.i _ l.invariant.1 (omega arith) (ranged a.cells.m a.cells.n a.xs.now a.ys.now a.zs.now l.i l.invariant.0) here).held).is ∙ sym (total_more l.i a.zs.now),
    )

pub returns : goal.returns
unfolding answer
returns c =
    let last : length c.args.xs.now ≡ c.loop-i.i = omega arith in
    rw (last, first_of_all _ _ c.loop-i.invariant.0) (ap accepted c.loop-i.invariant.1)
