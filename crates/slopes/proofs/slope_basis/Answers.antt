-- Nothing wraps for U up to 512, and what the others leave of 0 is the third slope numerator.
use Rattle.std.proofs.Common.{◌≡◌, ℕ, ◌≤◌, le_trans, ◌∙◌, [], ◌∷◌, ℤ, pos, negsuc, ◌-ℤ◌, ◌*ℤ◌}
use Rattle.algebra.specs.Solver.{Expr, var, con, ◌⊠◌, ◌⊟◌, solve}
use Rattle.machine.specs.Held.{Number, number, literal, cast, read, minus, times, fits}
use Rattle.rules.specs.Surface.{square}
use Rattle.rules.specs.Slope.{slope_numerator}
use Rattle.rules.specs.Laws.Slope.{slope_quoted}
use Rattle.slopes.proofs.slope_basis.Goals as goal

-- ---- the code's expressions

module _ (unit a : ℕ) (asked : (unit ≤ 512) × (a ≤ unit)) where
  abbrev u : Number
  u = number (cast unit 512 asked.0 tt)

  abbrev t : Number
  t = number (cast a 512 (le_trans asked.1 asked.0) tt)

  abbrev rest : Number
  rest = number (minus u.held t.held)

  abbrev thousand_rest : Number
  thousand_rest = number (times (literal (negsuc 999)) (read tt rest.held))

  abbrev b0 : Number
  b0 = number (times (read tt thousand_rest.held) (read tt rest.held))

  abbrev thousand_t : Number
  thousand_t = number (times (literal (pos 1_000)) t.held)

  abbrev b3 : Number
  b3 = number (times (read tt thousand_t.held) t.held)

  abbrev three : Number
  three = number (times (literal (pos 3)) (read tt b3.held))

  abbrev four_t : Number
  four_t = number (times (literal (pos 4_000)) t.held)

  abbrev four_tu : Number
  four_tu = number (times (read tt four_t.held) u.held)

  abbrev b1 : Number
  b1 = number (minus (read tt three.held) (read tt four_tu.held))

  abbrev left0 : Number
  left0 = number (minus (literal (pos 0)) (read tt b0.held))

  abbrev left1 : Number
  left1 = number (minus (read tt left0.held) (read tt b1.held))

  abbrev b2 : Number
  b2 = number (minus (read tt left1.held) (read tt b3.held))

-- ---- the slope numerators as the code has them, for the solver: each of first, second and last is 1,000 times one, and the third is what they leave

first : Expr → Expr → Expr
first u t = con (negsuc 999) ⊠ (u ⊟ t) ⊠ (u ⊟ t)

last : Expr → Expr
last t = con (pos 1_000) ⊠ t ⊠ t

second : Expr → Expr → Expr
second u t = con (pos 3) ⊠ last t ⊟ con (pos 4_000) ⊠ t ⊠ u

module _ (U a : ℤ) where
  thousand : ℕ → Expr
  thousand k = con (pos 1_000) ⊠ slope_quoted (var 0) (var 1) k

  first_is : negsuc 999 *ℤ (U -ℤ a) *ℤ (U -ℤ a) ≡ pos 1_000 *ℤ slope_numerator U a 0
  unfolding slope_numerator square slope_quoted first thousand
  first_is = solve (first (var 0) (var 1)) (thousand 0) (U ∷ a ∷ []) tt

  second_is : pos 3 *ℤ (pos 1_000 *ℤ a *ℤ a) -ℤ pos 4_000 *ℤ a *ℤ U ≡ pos 1_000 *ℤ slope_numerator U a 1
  unfolding slope_numerator square slope_quoted second last thousand
  second_is = solve (second (var 0) (var 1)) (thousand 1) (U ∷ a ∷ []) tt

  third_is : pos 0 -ℤ negsuc 999 *ℤ (U -ℤ a) *ℤ (U -ℤ a) -ℤ (pos 3 *ℤ (pos 1_000 *ℤ a *ℤ a) -ℤ pos 4_000 *ℤ a *ℤ U) -ℤ pos 1_000 *ℤ a *ℤ a ≡ pos 1_000 *ℤ slope_numerator U a 2
  unfolding slope_numerator square slope_quoted first second last thousand
  third_is = solve (con (pos 0) ⊟ first (var 0) (var 1) ⊟ second (var 0) (var 1) ⊟ last (var 1)) (thousand 2) (U ∷ a ∷ []) tt

  last_is : pos 1_000 *ℤ a *ℤ a ≡ pos 1_000 *ℤ slope_numerator U a 3
  unfolding slope_numerator square slope_quoted last thousand
  last_is = solve (last (var 1)) (thousand 3) (U ∷ a ∷ []) tt

-- ---- what it returns

pub returns : goal.returns
returns c =
    let U = pos c.args.unit in
    let a = pos c.args.a in
    record {
      n0 = (read tt (b0 c.args.unit c.args.a c.requires).held).is ∙ first_is U a;
      n1 = (read tt (b1 c.args.unit c.args.a c.requires).held).is ∙ second_is U a;
      n2 = (read tt (b2 c.args.unit c.args.a c.requires).held).is ∙ third_is U a;
      n3 = (read tt (b3 c.args.unit c.args.a c.requires).held).is ∙ last_is U a;
    }

-- ---- nothing wraps

pub overflow_sub-b2-2 : goal.overflow_sub-b2-2
overflow_sub-b2-2 c = fits tt (left1 c.args.unit c.args.a c.requires).held

pub overflow_sub-b2-3 : goal.overflow_sub-b2-3
overflow_sub-b2-3 c = fits tt (b2 c.args.unit c.args.a c.requires).held
