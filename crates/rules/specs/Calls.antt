-- The calls of documents 01 and 02 on lent slices: each one's checks in their order, and then its answer and what its slices hold afterwards. Definitions only.
-- Files have theirs in LatticeFile and PointFile, the program in Program, pond storage in Storage, the ground above a stage in Above.
use Rattle.std.specs.Prelude.{ℕ, zero, suc, ◌+◌, ◌*◌, ◌/◌, ◌%◌, ◌&&◌, ◌||◌, cond, List, leb, eqb, ℤ, pos, Float, length, replicate}
use Rattle.std.proofs.Math.Option.{none, some}
use Rattle.algebra.specs.Table.{tabulate, over}
use Rattle.rules.specs.Grid.{within, in_range, confident, inside, controls, control, store}
use Rattle.rules.specs.Surface.{height}
use Rattle.rules.specs.Slope.{slope_x, slope_y}
use Rattle.rules.specs.Level.{Point, zero64}
use Rattle.rules.specs.Refinement.{refined}
use Rattle.rules.specs.Fit.{Shape, columns, rows, Survey, point_count, point_at, single_lattice, last_residuals, difference_check, in_levels_check}
use Rattle.rules.specs.Answers.{cells, levels, unit, lists, short, position, range, confidence, size, in_levels}
use Rattle.rules.specs.Answers.{Check, require, ◌then◌, first_of, range_check, Answer, accepted, refused, answer, Outcome, outcome, call}

-- ---- checks that several calls share

-- cell counts that a call returns
pub record CellCounts : Type 0 where
  pub m : ℕ
  pub n : ℕ

-- 1: "cells a side outside 1..16 (fit, point writer), 1..256 (refine), 1..512 (others)"
unfoldable pub cells_check : ℕ → ℕ → ℕ → Check
cells_check most m n = require (within 1 most m && within 1 most n) cells

-- 2: "Heights may be read with U = 16, 32, 64, 128, 256 or 512"
unfoldable pub unit_check : ℕ → Check
unit_check U = require (eqb U 16 || eqb U 32 || eqb U 64 || eqb U 128 || eqb U 256 || eqb U 512) unit

-- 2: "h above 5"
unfoldable pub h_check : ℕ → Check
h_check h = require (leb h 5) levels

-- 3: "x, y, z lists differ in length, or over 65,535 points", and of document 02 "a fourth list that check 3 covers"
unfoldable pub lists_check : Survey → Check
lists_check s =
    let p = point_count s in
    require (eqb p (length s.ys) && eqb p (length s.zs) && eqb p (length s.qs) && leb p 65_535) lists

-- 8: "columns or rows above 8,193"
unfoldable pub counts_check : ℕ → ℕ → Check
counts_check across down = require (leb across 8_193 && leb down 8_193) size

-- 6, over a lattice: the first control value out of range
unfoldable pub lattice_check : ℕ → ℕ → List ℤ → Check
lattice_check m n lattice = range_check (controls m n) lattice range

-- 6: a stage out of range, with place 0
unfoldable pub stage_check : ℤ → Check
stage_check stage = require (in_range stage) (range 0)

-- "5 before 6 in a point": point i, on m by n cells of U positions
unfoldable pub spot_check : ℕ → ℕ → ℕ → ℕ → Point → Check
spot_check U m n i p = require (inside U m p.x && inside U n p.y) (position i) then require (in_range p.z) (range i)

-- and 17 "after 6 in each point"
unfoldable pub point_check : ℕ → ℕ → ℕ → ℕ → Point → Check
point_check U m n i p = spot_check U m n i p then require (confident p.q) (confidence i)

-- "Points go in list order"
unfoldable pub points_check : ℕ → ℕ → ℕ → Survey → Check
points_check U m n s = first_of (point_count s) (λ i. point_check U m n i (point_at s i))

-- 1, 2 and 3, of the fit and of the point writer
unfoldable pub survey_check : Shape → Survey → Check
survey_check a s = cells_check 16 a.m0 a.n0 then h_check a.h then lists_check s

-- ---- height

unfoldable pub height_check : ℕ → ℕ → ℕ → List ℤ → ℕ → ℕ → Check
height_check m n U lattice x y =
    cells_check 512 m n
    then unit_check U
    then require (leb (controls m n) (length lattice)) short
    then lattice_check m n lattice
    then require (inside U m x && inside U n y) (position 0)

unfoldable pub height_answer : ℕ → ℕ → ℕ → List ℤ → ℕ → ℕ → Answer ℤ
height_answer m n U lattice x y = answer (height_check m n U lattice x y) (height U m n (control m lattice) x y)

-- ---- slope, of document 02

-- both slopes at a position
pub record Slopes : Type 0 where
  pub along_x : ℤ
  pub along_y : ℤ

-- "Positions and lattices are refused as for heights."
unfoldable pub slope_answer : ℕ → ℕ → ℕ → List ℤ → ℕ → ℕ → Answer Slopes
slope_answer m n U lattice x y =
    answer (height_check m n U lattice x y) (record { along_x = slope_x U m n (control m lattice) x y; along_y = slope_y U m n (control m lattice) x y })

-- ---- refinement: "m by n cells become 2m by 2n; the input has 1 to 256 a side"

unfoldable pub refine_check : ℕ → ℕ → List ℤ → List ℤ → Check
refine_check m n lattice output =
    cells_check 256 m n
    then require (leb (controls m n) (length lattice) && leb (controls (2 * m) (2 * n)) (length output)) short
    then lattice_check m n lattice

unfoldable pub refine_call : ℕ → ℕ → List ℤ → List ℤ → Outcome CellCounts (List ℤ)
refine_call m n lattice output =
    call (refine_check m n lattice output) (record { m = 2 * m; n = 2 * n }) (over (store (2 * m) (2 * n) (refined (control m lattice))) output) output

-- ---- raster

-- "columns × rows nodes from (x0, y0) at one step"
pub record Nodes : Type 0 where
  pub x0 : ℕ
  pub y0 : ℕ
  pub step : ℕ
  pub across : ℕ
  pub down : ℕ

abbrev pub nodes_at : ℕ → ℕ → ℕ → ℕ → ℕ → Nodes
nodes_at x0 y0 step across down = record { x0 = x0; y0 = y0; step = step; across = across; down = down }

-- "Step 0 now stands for 8", of document 02
unfoldable pub default_step : ℕ
default_step = 8

-- what a caller's step stands for, where 0 stands for d
unfoldable pub step_of : ℕ → ℕ → ℕ
step_of d zero = d
step_of d (suc s) = suc s

-- the nodes that a caller asks for
abbrev pub nodes : ℕ → ℕ → ℕ → ℕ → ℕ → Nodes
nodes x0 y0 step across down = nodes_at x0 y0 (step_of default_step step) across down

-- the position of node q; nodes go "row by row"
unfoldable pub node_x : Nodes → ℕ → ℕ
node_x g q = g.x0 + g.step * (q % g.across)

unfoldable pub node_y : Nodes → ℕ → ℕ
node_y g q = g.y0 + g.step * (q / g.across)

-- the height at node q
abbrev pub node_height : ℕ → ℕ → ℕ → List ℤ → Nodes → ℕ → ℤ
node_height m n U lattice g q = height U m n (control m lattice) (node_x g q) (node_y g q)

-- 8: "step above 8,192, or columns or rows above 8,193"
unfoldable pub size_check : ℕ → ℕ → ℕ → Check
size_check step across down = require (leb step 8_192) size then counts_check across down

-- 5: node q, and the first node, that is past the last position along x or along y
unfoldable pub node_check : ℕ → ℕ → Nodes → ℕ → Check
node_check right top g q = require (leb (node_x g q) right && leb (node_y g q) top) (position q)

unfoldable pub nodes_check : ℕ → ℕ → Nodes → Check
nodes_check right top g = first_of (g.across * g.down) (node_check right top g)

unfoldable pub raster_check : ℕ → ℕ → ℕ → List ℤ → Nodes → List ℤ → Check
raster_check m n U lattice g output =
    cells_check 512 m n
    then unit_check U
    then size_check g.step g.across g.down
    then require (leb (controls m n) (length lattice) && leb (g.across * g.down) (length output)) short
    then lattice_check m n lattice
    then nodes_check (U * m) (U * n) g

-- "A raster writes the heights of columns × rows nodes"
unfoldable pub raster_call : ℕ → ℕ → ℕ → List ℤ → Nodes → List ℤ → Outcome ℕ (List ℤ)
raster_call m n U lattice g output =
    let count = g.across * g.down in
    call (raster_check m n U lattice g output) count (over (tabulate count (node_height m n U lattice g)) output) output

-- ---- fit

-- the four slices that the caller of a fit lends
pub record Lent : Type 0 where
  pub lattice : List ℤ
  pub residual : List ℤ
  pub whole : List ℤ
  pub floats : List Float

abbrev pub lent : List ℤ → List ℤ → List ℤ → List Float → Lent
lent lattice residual whole floats = record { lattice = lattice; residual = residual; whole = whole; floats = floats }

-- "K is (m0 × 2^h + 3)(n0 × 2^h + 3)"
unfoldable pub K : Shape → ℕ
K a = controls (columns a a.h) (rows a a.h)

-- "For p points the caller lends at least: lattice K, residuals p, whole scratch 3K+p, f64 scratch 2K": slices of these lengths
unfoldable pub room_check : ℕ → ℕ → ℕ → ℕ → ℕ → ℕ → Check
room_check K p lattice residual whole floats = require (leb K lattice && leb p residual && leb (3 * K + p) whole && leb (2 * K) floats) short

unfoldable pub lent_check : Shape → ℕ → Lent → Check
lent_check a p lent = room_check (K a) p (length lent.lattice) (length lent.residual) (length lent.whole) (length lent.floats)

unfoldable pub fit_check : Shape → Survey → Lent → Check
fit_check a s lent =
    survey_check a s
    then lent_check a (point_count s) lent
    then points_check 16 (columns a a.h) (rows a a.h) s
    then difference_check s.zs
    then in_levels_check a s

-- "An accepted fit returns the cell counts of level h"
abbrev pub finest : Shape → CellCounts
finest a = record { m = columns a a.h; n = rows a a.h }

-- "On acceptance lattice and residuals hold the result in their first K and p places"
unfoldable pub results : Shape → Survey → Lent → Lent
results a s lent =
    record { lattice = over (single_lattice a s) lent.lattice; residual = over (last_residuals a s) lent.residual; whole = lent.whole; floats = lent.floats }

-- "the named scratch prefixes are zero (+0 in f64). Places past these prefixes never change"
unfoldable pub cleared : Shape → ℕ → Lent → Lent
cleared a p lent = record {
  lattice = lent.lattice;
  residual = lent.residual;
  whole = over (replicate (3 * K a + p) (pos 0)) lent.whole;
  floats = over (replicate (2 * K a) zero64) lent.floats;
}

-- "After acceptance or refusal 7 the named scratch prefixes are zero"; after 13 and 14 "the same slices left and the scratch zero as after 7"
unfoldable pub fit_end : Shape → Survey → Lent → Check → Outcome CellCounts Lent
fit_end a s lent none = outcome (accepted (finest a)) (cleared a (point_count s) (results a s lent))
fit_end a s lent (some r) = outcome (refused r) (cond (in_levels r) (cleared a (point_count s) lent) lent)

unfoldable pub fit_call : Shape → Survey → Lent → Outcome CellCounts Lent
fit_call a s lent = fit_end a s lent (fit_check a s lent)
