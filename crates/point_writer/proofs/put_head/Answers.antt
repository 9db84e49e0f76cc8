-- The mark, four bytes stored one after another, and the number of points.
use Rattle.std.proofs.Common.{◌≡◌, refl, ap, ◌∙◌, List, [], ◌∷◌, ◌++◌, ℕ, ◌≤◌, ◌<◌, mod-eq_of_lt, length, arith}
use Rattle.std.proofs.Math.ListN.{set}
use Rattle.algebra.specs.Table.{over, laid, length_laid, laid_sets, laid_after, laid_as_over}
use Rattle.rules.specs.Bytes.{bytes_of}
use Rattle.rules.specs.Fit.{shape}
use Rattle.rules.specs.PointFile.{PH, point_head}
use Rattle.point_writer.proofs.put_head.Goals as goal

parts : (m0 n0 h p : ℕ) (d : List ℕ) {marked whole : List ℕ} → m0 < 256 → n0 < 256 → h < 256 → 8 ≤ length d
    → marked ≡ laid 0 PH d
    → whole ≡ laid 6 (bytes_of 2 p) (set (set (set (set marked 2 m0) 3 n0) 4 h) 5 0)
    → whole ≡ over (point_head (shape m0 n0 h) p) d
unfolding PH bytes_of point_head
parts m0 n0 h p d {marked} a b c l e₁ e₂ =
    e₂
    ∙ ap (laid 6 (bytes_of 2 p)) (laid_sets 2 four marked room ∙ ap (laid 2 four) e₁ ∙ laid_after 0 2 PH four d (omega arith) refl)
    ∙ laid_after 0 6 (PH ++ four) (bytes_of 2 p) d (omega arith) refl
    ∙ laid_as_over 0 (PH ++ four ++ bytes_of 2 p) d (omega arith)
    ∙ rw (mod-eq_of_lt a, mod-eq_of_lt b, mod-eq_of_lt c)
  where
    four : List ℕ
    four = m0 ∷ n0 ∷ h ∷ 0 ∷ []

    room : 6 ≤ length marked
    room = omega (arith, ap length e₁, length_laid 0 PH d (omega arith))

pub returns : goal.returns
unfolding PH
returns c = parts _ _ _ _ _ c.requires.0 c.requires.1 c.requires.2 c.requires.4 c.put_mark.ensures c.put_u16.ensures
