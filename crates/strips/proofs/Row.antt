-- One raster row of a strip in the output: it has its place there, and its nodes are the heights.
use mathlib.Core.Path.{◌≡◌, ap}
use mathlib.Core.List.{List}
use Prim.Native.Nat.{ℕ, ◌+◌, ◌*◌, ◌^◌, ◌≤◌, ◌<◌}
use native.Mathlib.Nat.{mul-le-mul_right}
use native.Mathlib.Omega.{arith}
use lib.IntN.{ℤ}
use Rattle.algebra.specs.Table.{tabulate, tabulate_same, laid}
use Rattle.basis.specs.Weighing.{Weighs, Located}
use Rattle.basis.specs.declared.Basis.{Basis}
use Rattle.basis.specs.declared.Spot.{Spot}
use Rattle.strips.specs.Strips.{Ringed, Room, node_at, height_at}
use Rattle.strips.specs.Reading.{node_is}
use Rattle.strips.specs.declared.piece.Strip.{Strip}

pub row_room : (s : Strip) {rows room : ℕ} → Room s rows room → (j : ℕ) → j < rows → j * s.nodes.columns + s.column + s.w ≤ room
row_room s r j h = omega (arith, mul-le-mul_right s.nodes.columns h, s.inside.narrow, r.fits)

module _ (s : Strip) (j : ℕ) (inside : s.nodes.y0 + s.nodes.step * j ≤ 2 ^ s.grid.e * s.grid.cells.n) {p : Spot} (found : Located p (2 ^ s.grid.e) s.grid.cells.n (s.nodes.y0 + s.nodes.step * j)) {b : Basis} {unit : ℕ}
    (is : unit ≡ 2 ^ s.grid.e) (weighs : Weighs b unit p.offset) where
  pub row_filled : {l ring : List ℤ} → Ringed s l 0 s.w (p.cell + 4) (p.cell + 4) ring → (start : ℕ) (before : List ℤ)
      → laid start (tabulate s.w (node_at s.grid.e b ring p.cell)) before ≡ laid start (tabulate s.w (λ i. height_at s l j (s.column + i))) before
  unfolding node_at
  row_filled has start before = ap (λ r. laid start r before) (tabulate_same s.w _ _ (λ i h. node_is s j inside found is weighs has i (omega arith) h))
