-- The block that the code makes has the rule's weights, and its sixteen places lie in the lattice.
use Rattle.std.proofs.Common.{◌≡◌, ℕ, ◌+◌, ◌*◌, ◌^◌, ◌<◌, ◌≤◌, List, ℤ, pos, refl, ap, ◌∙◌, arith, pow_pos}
use Rattle.std.specs.Prelude.{Float}
use Rattle.std.specs.Int.{w64}
use Rattle.std.proofs.lemmas.Int.{to_z-of_z}
use Rattle.algebra.specs.Table.{tabulate}
use Rattle.rules.specs.Grid.{controls}
use Rattle.rules.specs.Level as rule
use Rattle.rules.proofs.Laws.Basis.{offset_within}
use Rattle.rules.specs.Laws.Passed.{Gridded}
use Rattle.basis.specs.Weighing.{Located}
use Rattle.basis.specs.declared.Spot.{Spot}
use Rattle.weights.specs.Block.{block_of, weight_at, point_block}
use Rattle.point_sums.specs.Sums.{block_added}
use Rattle.level_sums.specs.Gathered.{point_added}
use Rattle.level_sums.proofs.Scatter.{place_of, room, controls_most}
use Rattle.level_sums.proofs.add_point.Goals as goal

-- ---- with the position's cells and offsets at hand

asked : (e : ℕ) {m x : ℕ} {at : Spot} → Located at (2 ^ e) m x → 0 < m → x ≤ 2 ^ e * m → at.offset ≤ 2 ^ e
asked e {m} {x} l some inside = rw l.offset_is (offset_within (2 ^ e) m x (pow_pos e) some inside)

module _ {m n e x y : ℕ} (grid : Gridded m n e) {across up : Spot} (ax : Located across (2 ^ e) m x) (ay : Located up (2 ^ e) n y) (width : ℕ) (wide : width ≡ m + 3) (v : ℤ) (q : ℕ) where
  abbrev point : rule.Point
  point = record { x = x; y = y; z = v; q = q }

  place_is : up.cell * width + across.cell ≡ place_of (2 ^ e) m n point
  place_is = rw (wide, ax.cell_is, ay.cell_is)

  place_room : up.cell * width + across.cell + 3 * (m + 3) + 4 ≤ controls m n
  place_room = omega (arith, place_is, room (2 ^ e) m n point grid.m_some grid.n_some)

  place_fits : up.cell * width + across.cell < 2 ^ 64
  place_fits = omega (arith, place_room, controls_most m n grid.m_most grid.n_most)

  added : {b c : List Float} {w : List (List Float)} {z confidence : Float} {now : List Float} (sums : List Float)
      → b ≡ tabulate 4 (rule.basis (2 ^ e) across.offset) → c ≡ tabulate 4 (rule.basis (2 ^ e) up.offset) → w ≡ block_of b c → z ≡ rule.float v → confidence ≡ rule.float (pos q)
      → now ≡ block_added confidence (weight_at w) z (m + 3) (controls m n) sums (up.cell * width + across.cell) → now ≡ point_added (2 ^ e) m n point sums
  unfolding point_added point_block
  added sums eb ec ew ez eq is = rw (is, ew, eb, ec, ez, eq, place_is, ax.offset_is, ay.offset_is)

-- ---- what the steps ask

pub axis-requires : goal.axis-requires
axis-requires c = let p = c.args.grid.gridded in (p.e_most, asked _ c.locate-across.ensures p.m_some c.requires.inside.0)

pub axis-requires-2 : goal.axis-requires-2
axis-requires-2 c = let p = c.args.grid.gridded in (p.e_most, asked _ c.locate-up.ensures p.n_some c.requires.inside.1)

pub overflow_mul-up : goal.overflow_mul-up
overflow_mul-up c = omega (arith, place_fits c.args.grid.gridded c.locate-across.ensures c.locate-up.ensures c.width.result c.width.ensures c.args.z c.args.q)

pub overflow_add-up : goal.overflow_add-up
overflow_add-up c = omega (arith, place_fits c.args.grid.gridded c.locate-across.ensures c.locate-up.ensures c.width.result c.width.ensures c.args.z c.args.q)

pub add_block-requires-clause-inside : goal.add_block-requires-clause-inside
add_block-requires-clause-inside c = place_room c.args.grid.gridded c.locate-across.ensures c.locate-up.ensures c.width.result c.width.ensures c.args.z c.args.q

-- ---- what it returns

pub returns : goal.returns
returns c =
    added c.args.grid.gridded c.locate-across.ensures c.locate-up.ensures c.width.result c.width.ensures c.args.z c.args.q c.args.sums.now
    c.axis.ensures c.axis-2.ensures c.block-w.ensures (c.nearest_i64_to_f64.ensures ∙ ap rule.float (to_z-of_z w64 _ c.ranges.z)) refl c.add_block.ensures
