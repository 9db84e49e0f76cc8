-- Nothing wraps for U up to 512, and what the others leave of 6U³ is the third numerator.
use Rattle.std.proofs.Common.{◌≡◌, ℕ, ◌*◌, ◌≤◌, ap, ◌∙◌, le_trans, [], ◌∷◌, ℤ, pos, ◌+ℤ◌, ◌-ℤ◌, ◌*ℤ◌}
use Rattle.algebra.specs.Solver.{var, con, ◌⊞◌, ◌⊠◌, ◌⊟◌, solve}
use Rattle.machine.specs.Held.{Held, Number, number, literal, cast, read, plus, minus, times, fits}
use Rattle.rules.specs.Surface.{square, cube, numerator}
use Rattle.rules.specs.Laws.Basis.{quoted}
use Rattle.basis.proofs.basis_of.Goals as goal
use Rattle.basis.proofs.basis_of.Goals.{After-cube-b3}

-- what a call of `cube` returns
cubed : {x z r : ℤ} {B : ℕ} → Held x z B → r ≡ cube x → Held r (cube z) (B * B * B)
unfolding cube
cubed h e = record { is = e ∙ ap cube h.is; size = (times (times h h) h).size }

-- ---- the code's expressions

module _ (unit a : ℕ) (h : (unit ≤ 512) × (a ≤ unit)) where
  abbrev u : Number
  u = number (cast unit 512 h.0 tt)

  abbrev t : Number
  t = number (cast a 512 (le_trans h.1 h.0) tt)

  abbrev rest : Number
  rest = number (minus u.held t.held)

  abbrev six_t : Number
  six_t = number (times (literal (pos 6)) t.held)

  abbrev six_tt : Number
  six_tt = number (times (read tt six_t.held) t.held)

  abbrev six_ttu : Number
  six_ttu = number (times (read tt six_tt.held) u.held)

module _ (c : After-cube-b3) where
  abbrev uuu : Number
  uuu = number (read tt (cubed (u c.args.unit c.args.a c.requires).held c.cube-uuu.ensures))

  abbrev b0 : Number
  b0 = number (read tt (cubed (read tt (rest c.args.unit c.args.a c.requires).held) c.cube-b0.ensures))

  abbrev b3 : Number
  b3 = number (read tt (cubed (t c.args.unit c.args.a c.requires).held c.cube-b3.ensures))

  abbrev three : Number
  three = number (times (literal (pos 3)) b3.held)

  abbrev less : Number
  less = number (minus (read tt three.held) (read tt (six_ttu c.args.unit c.args.a c.requires).held))

  abbrev four : Number
  four = number (times (literal (pos 4)) uuu.held)

  abbrev b1 : Number
  b1 = number (plus (read tt less.held) (read tt four.held))

  abbrev six : Number
  six = number (times (literal (pos 6)) uuu.held)

  abbrev left0 : Number
  left0 = number (minus (read tt six.held) b0.held)

  abbrev left1 : Number
  left1 = number (minus (read tt left0.held) (read tt b1.held))

  abbrev b2 : Number
  b2 = number (minus (read tt left1.held) b3.held)

-- ---- the numerators as the code has them

second_is : (U a : ℤ) → pos 3 *ℤ cube a -ℤ pos 6 *ℤ a *ℤ a *ℤ U +ℤ pos 4 *ℤ cube U ≡ numerator U a 1
unfolding numerator square cube quoted
second_is U a =
    let u = var 0 in
    let t = var 1 in
    solve (con (pos 3) ⊠ (t ⊠ t ⊠ t) ⊟ con (pos 6) ⊠ t ⊠ t ⊠ u ⊞ con (pos 4) ⊠ (u ⊠ u ⊠ u)) (quoted u t 1) (U ∷ a ∷ []) tt

third_is : (U a : ℤ) → pos 6 *ℤ cube U -ℤ numerator U a 0 -ℤ numerator U a 1 -ℤ numerator U a 3 ≡ numerator U a 2
unfolding numerator square cube quoted
third_is U a =
    let u = var 0 in
    let q = quoted u (var 1) in
    solve (con (pos 6) ⊠ (u ⊠ u ⊠ u) ⊟ q 0 ⊟ q 1 ⊟ q 3) (q 2) (U ∷ a ∷ []) tt

-- ---- what it returns

pub returns : goal.returns
unfolding numerator
returns c =
    let U = pos c.args.unit in
    let a = pos c.args.a in
    let made = (goal.at.returns c).After-cube-b3 in
    record {
      n0 = (b0 made).held.is;
      n1 = (read tt (b1 made).held).is ∙ second_is U a;
      n2 = (read tt (b2 made).held).is ∙ ap (λ v. pos 6 *ℤ cube U -ℤ numerator U a 0 -ℤ v -ℤ numerator U a 3) (second_is U a) ∙ third_is U a;
      n3 = (b3 made).held.is;
    }

-- ---- nothing wraps

pub overflow_mul-b1 : goal.overflow_mul-b1
overflow_mul-b1 c = fits tt (three ((goal.at.overflow_mul-b1 c).After-cube-b3)).held

pub overflow_mul-b1-4 : goal.overflow_mul-b1-4
overflow_mul-b1-4 c = fits tt (six_ttu c.args.unit c.args.a c.requires).held

pub overflow_sub-b1 : goal.overflow_sub-b1
overflow_sub-b1 c = fits tt (less ((goal.at.overflow_sub-b1 c).After-cube-b3)).held

pub overflow_mul-b1-5 : goal.overflow_mul-b1-5
overflow_mul-b1-5 c = fits tt (four ((goal.at.overflow_mul-b1-5 c).After-cube-b3)).held

pub overflow_add-b1 : goal.overflow_add-b1
overflow_add-b1 c = fits tt (b1 ((goal.at.overflow_add-b1 c).After-cube-b3)).held

pub overflow_mul-b2 : goal.overflow_mul-b2
overflow_mul-b2 c = fits tt (six ((goal.at.overflow_mul-b2 c).After-cube-b3)).held

pub overflow_sub-b2 : goal.overflow_sub-b2
overflow_sub-b2 c = fits tt (left0 ((goal.at.overflow_sub-b2 c).After-cube-b3)).held

pub overflow_sub-b2-2 : goal.overflow_sub-b2-2
overflow_sub-b2-2 c = fits tt (left1 ((goal.at.overflow_sub-b2-2 c).After-cube-b3)).held

pub overflow_sub-b2-3 : goal.overflow_sub-b2-3
overflow_sub-b2-3 c = fits tt (b2 ((goal.at.overflow_sub-b2-3 c).After-cube-b3)).held
