-- What the contracts of a height's steps cite beside the rules.
use Rattle.std.specs.Prelude.{ℕ, zero, suc, ◌+◌, ◌*◌, ◌^◌, ◌≤◌, ◌<◌, ◌≡◌, List, ℤ, pos, length, get_or}
use Rattle.rules.specs.Rounding.{near}
use Rattle.rules.specs.Grid.{controls}
use Rattle.rules.specs.Surface.{numerator, denominator, cell, offset, weighted}
use Rattle.rules.specs.Laws.Basis.{total_size}
use Rattle.rules.specs.Laws.Checks.{AllInRange}
use Rattle.rules.specs.Laws.Passed.{Gridded}
use Rattle.basis.specs.declared.Basis.{Basis}
use Rattle.basis.specs.declared.Spot.{Spot}

-- b holds the four weights w
pub record Holds (b : Basis) (w : ℕ → ℤ) : Type 0 where
  pub n0 : b.b0 ≡ w 0
  pub n1 : b.b1 ≡ w 1
  pub n2 : b.b2 ≡ w 2
  pub n3 : b.b3 ≡ w 3

-- b holds the four numerators of the offset a in a cell of U positions
abbrev pub Weighs : Basis → ℕ → ℕ → Type 0
Weighs b U a = Holds b (numerator (pos U) (pos a))

-- p is the cell and the offset of the position x on m cells of U positions
pub record Located (p : Spot) (U m x : ℕ) : Type 0 where
  pub cell_is : p.cell ≡ cell U m x
  pub offset_is : p.offset ≡ offset U m x

-- four values as weights or as what is weighed
abbrev pub four : ℤ → ℤ → ℤ → ℤ → ℕ → ℤ
four p q r s zero = p
four p q r s (suc zero) = q
four p q r s (suc (suc zero)) = r
four p q r s (suc (suc (suc k))) = s

abbrev pub numerators : Basis → ℕ → ℤ
numerators b = four b.b0 b.b1 b.b2 b.b3

-- the sum of the numerators' sizes
abbrev pub weight_size : Basis → ℕ
weight_size b = total_size (numerators b)

-- the values that stand from place q on, each `apart` places from the one before
abbrev pub spaced : List ℤ → ℕ → ℕ → ℕ → ℤ
spaced lattice q apart k = get_or lattice (q + k * apart) (pos 0)

-- four such values are stored and in range, and b weighs them with no sum too large
pub record Summable (lattice : List ℤ) (q apart : ℕ) (b : Basis) : Type 0 where
  pub stored : q + 3 * apart < length lattice
  pub weight_most : weight_size b ≤ 805_306_368
  pub ranged : AllInRange (q + 3 * apart + 1) lattice

-- their sum
abbrev pub line_sum : List ℤ → ℕ → ℕ → Basis → ℤ
line_sum lattice q apart b = weighted (numerators b) (spaced lattice q apart) 0

-- four such values are stored and in range, and b weighs them over 6U³
pub record Weighable (lattice : List ℤ) (q apart : ℕ) (b : Basis) (e : ℕ) : Type 0 where
  pub e_most : e ≤ 9
  pub stored : q + 3 * apart < length lattice
  pub weight_most : weight_size b ≤ denominator (2 ^ e)
  pub ranged : AllInRange (q + 3 * apart + 1) lattice

-- near of their sum over 6U³
unfoldable pub line_height : List ℤ → ℕ → ℕ → Basis → ℕ → ℤ
line_height lattice q apart b U = near (line_sum lattice q apart b) (denominator U)

-- a lattice that heights can be read from without a check
pub record Grounded (m n e : ℕ) (lattice : List ℤ) : Type 0 where
  pub grid : Gridded m n e
  pub long : controls m n ≤ length lattice
  pub ranged : AllInRange (controls m n) lattice

-- the same with a position in it
pub record Readable (m n e : ℕ) (lattice : List ℤ) (x y : ℕ) : Type 0 where
  pub grounded : Grounded m n e lattice
  pub x_inside : x ≤ 2 ^ e * m
  pub y_inside : y ≤ 2 ^ e * n
