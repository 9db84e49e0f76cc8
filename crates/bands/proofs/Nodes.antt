-- A node by its y sum: above the stage exactly if the sum is above the greatest one whose height is not.
use mathlib.Core.Path.{◌≡◌}
use mathlib.Core.Logic.{inl, inr}
use mathlib.Core.List.{List}
use Prim.Native.Nat.{ℕ, ◌+◌, ◌*◌, ◌^◌, ◌≤◌, ◌<◌}
use lib.IntN.{ℤ}
use lib.Signed.{◌≤ℤ◌, ◌<ℤ◌, clash_ℤ}
use Rattle.algebra.specs.Size.{≤ℤ_or-<ℤ}
use Rattle.rules.specs.Rounding.{near}
use Rattle.rules.specs.Surface.{denominator}
use Rattle.basis.specs.Weighing.{Weighs, Located}
use Rattle.basis.specs.declared.Basis.{Basis}
use Rattle.basis.specs.declared.Spot.{Spot}
use Rattle.strips.specs.Strips.{Ringed, node_sum, height_at}
use Rattle.strips.specs.Reading.{node_is}
use Rattle.strips.specs.declared.piece.Strip.{Strip}
use Rattle.bands.specs.Bands.{Threshold}

sum_low : {stage : ℤ} {e : ℕ} {most : ℤ} → Threshold stage e most → (v : ℤ) → v ≤ℤ most → near v (denominator (2 ^ e)) ≤ℤ stage
sum_low {stage} {e} t v h = elim (≤ℤ_or-<ℤ (near v (denominator (2 ^ e))) stage) [ inl l ↦ l | inr k ↦ clash_ℤ ((t.from v).0 k) h ]

-- row j lies in cell row k
module _ (s : Strip) (j : ℕ) (inside : s.nodes.y0 + s.nodes.step * j ≤ 2 ^ s.grid.e * s.grid.cells.n) {p : Spot} (found : Located p (2 ^ s.grid.e) s.grid.cells.n (s.nodes.y0 + s.nodes.step * j)) {b : Basis}
    {unit : ℕ} (is : unit ≡ 2 ^ s.grid.e) (weighs : Weighs b unit p.offset) {k : ℕ} (in_Cell : p.cell ≡ k) {l : List ℤ} {from to : ℕ} {ring : List ℤ} (has : Ringed s l from to (k + 4) (k + 4) ring)
    {stage most : ℤ} (t : Threshold stage s.grid.e most) (i : ℕ) (m : from ≤ i) (n : i < to) where
  height_is : near (node_sum b ring k i) (denominator (2 ^ s.grid.e)) ≡ height_at s l j (s.column + i)
  height_is = let here : Ringed s l from to (p.cell + 4) (p.cell + 4) ring = rw in_Cell has in rw in_Cell at (node_is s j inside found is weighs here i m n)

  pub node_high : most <ℤ node_sum b ring k i → stage <ℤ height_at s l j (s.column + i)
  node_high h = rw (← height_is) ((t.from (node_sum b ring k i)).1 h)

  pub node_low : node_sum b ring k i ≤ℤ most → height_at s l j (s.column + i) ≤ℤ stage
  node_low h = rw (← height_is) (sum_low t (node_sum b ring k i) h)
