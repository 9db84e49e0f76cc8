-- A row that is written to the first sums and the second sums, each by itself, is the rule's row over both.
use Rattle.std.proofs.Common.{◌≡◌, ℕ, ◌+◌, ◌-◌, ◌*◌, ◌<◌, ◌≤◌, List, ◌++◌, length, take, drop, refl, sym, ap, ap₂, ◌∙◌, add-one, add_assoc, append_assoc, drop-drop, get_or-append-add, mul-le-mul_right, arith, rules}
use Rattle.std.specs.Prelude.{Float}
use Rattle.std.specs.Float.{nan}
use Rattle.std.proofs.Math.ListN.{get_or-append}
use Rattle.std.proofs.Math.Seq.{take-append-le, take-append-add, drop-append-add}
use Rattle.std.proofs.lemmas.List.{drop-append-le}
use Rattle.algebra.specs.Table.{tabulate, laid, area_part, length_tabulate, tabulate_same, length_laid, get_d_area}
use Rattle.rules.specs.Grid.{controls}
use Rattle.rules.specs.Level as rule
use Rattle.weights.specs.Block.{weight_at}
use Rattle.point_sums.specs.Sums.{pair_of, pair_at, row, rows}
use Rattle.point_sums.proofs.add_block.Goals as goal

-- ---- what is laid in one of two joined lists

laid_left : (q : ℕ) (r a b : List Float) → q + length r ≤ length a → laid q r (a ++ b) ≡ laid q r a ++ b
unfolding laid
laid_left q r a b h =
    rw (take-append-le q a b (omega arith), drop-append-le (q + length r) a b h, append_assoc (take q a) (r ++ drop (q + length r) a) b, append_assoc r (drop (q + length r) a) b) refl

laid_right : (q : ℕ) (r a b : List Float) → laid (length a + q) r (a ++ b) ≡ a ++ laid q r b
unfolding laid
laid_right q r a b =
    rw (add_assoc (length a) q (length r), take-append-add a b q, drop-append-add a b (q + length r)) (append_assoc a (take q b) (r ++ drop (q + length r) b))

-- four that are written to a part of their own
part_laid : (q : ℕ) (r d : List Float) → length r ≡ 4 → take q d ++ (r ++ drop (q + 4 - q) (drop q d)) ≡ laid q r d
unfolding laid
part_laid q r d e =
    let k : q + 4 - q ≡ 4 = omega arith in
    rw (k, drop-drop 4 q d, e) refl

-- ---- a row

module _ (f : ℕ → rule.Sums → rule.Sums) (a b : List Float) (q : ℕ) (in_first : q + 4 ≤ length a) where
  -- the pairs that are handed to the row
  pair_is : (k : ℕ) → k < 4 → pair_of (take (q + 4 - q) (drop q a)) (take (q + 4 - q) (drop q b)) k ≡ pair_at (length a) (a ++ b) (q + k)
  unfolding pair_at
  pair_is k h =
      rw (area_part q 4 a, area_part q 4 b, get_d_area q 4 a k nan h, get_d_area q 4 b k nan h, get_or-append a b nan (q + k) (omega arith), get_or-append-add a b (q + k) nan) refl

  row_is : {x y : List Float} → x ≡ tabulate 4 (λ k. (f k (pair_of (take (q + 4 - q) (drop q a)) (take (q + 4 - q) (drop q b)) k)).first)
      → y ≡ tabulate 4 (λ k. (f k (pair_of (take (q + 4 - q) (drop q a)) (take (q + 4 - q) (drop q b)) k)).second)
      → (take q a ++ (x ++ drop (q + 4 - q) (drop q a))) ++ (take q b ++ (y ++ drop (q + 4 - q) (drop q b))) ≡ row f (length a) (a ++ b) q
  unfolding row
  row_is {x} {y} e g = ap₂ ◌++◌ (part_laid q x a (ap length ex ∙ length_tabulate 4 _)) (part_laid q y b (ap length ey ∙ length_tabulate 4 _)) ∙ rw (ex, ey) (sym both)
    where
      first : ℕ → Float
      first k = (f k (pair_at (length a) (a ++ b) (q + k))).first

      second : ℕ → Float
      second k = (f k (pair_at (length a) (a ++ b) (q + k))).second

      ex : x ≡ tabulate 4 first
      ex = e ∙ tabulate_same 4 _ _ (λ k h. ap (λ v. (f k v).first) (pair_is k h))

      ey : y ≡ tabulate 4 second
      ey = g ∙ tabulate_same 4 _ _ (λ k h. ap (λ v. (f k v).second) (pair_is k h))

      room : q + length (tabulate 4 first) ≤ length a
      room = rw (length_tabulate 4 first) in_first

      both : laid (length a + q) (tabulate 4 second) (laid q (tabulate 4 first) (a ++ b)) ≡ laid q (tabulate 4 first) a ++ laid q (tabulate 4 second) b
      both =
          rw (laid_left q (tabulate 4 first) a b room, ← length_laid q (tabulate 4 first) a room) (laid_right q (tabulate 4 second) (laid q (tabulate 4 first) a) b)

-- ---- a turn of the loop

turn : (f : ℕ → ℕ → rule.Sums → rule.Sums) (width count q l start : ℕ) (sums a b : List Float) {x y : List Float} → start ≡ q + l * width → start + 4 ≤ length a → length a ≡ count
    → a ++ b ≡ rows f width count l sums q
    → x ≡ tabulate 4 (λ k. (f k l (pair_of (take (start + 4 - start) (drop start a)) (take (start + 4 - start) (drop start b)) k)).first)
    → y ≡ tabulate 4 (λ k. (f k l (pair_of (take (start + 4 - start) (drop start a)) (take (start + 4 - start) (drop start b)) k)).second)
    → (take start a ++ (x ++ drop (start + 4 - start) (drop start a))) ++ (take start b ++ (y ++ drop (start + 4 - start) (drop start b))) ≡ rows f width count (l + 1) sums q
unfolding rows
turn f width count q l start sums a b s room many so_far e g =
    rw (add-one l) (row_is (λ k. f k l) a b start room e g ∙ rw (many, so_far, s) refl)

pub loop-l-init : goal.loop-l-init
unfolding rows
loop-l-init c = record { count = omega arith; added = sym c.split_at_mut-first.ensures.value }

pub loop-l-preserved : goal.loop-l-preserved
loop-l-preserved c =
    let a = c.args in
    let l = c.loop-l in
    let w = c.width.ensures in
    record {
      count = search rules;
      added = turn (λ k i. rule.grown a.confidence (weight_at a.w k i) a.z c.squares-s.result) (a.cells.m + 3) (controls a.cells.m a.cells.n) a.q l.l _ a.sums.now l.first l.second
          (ap (λ w. a.q + l.l * w) w) (rw w (omega (arith, mul-le-mul_right {m = l.l} {n = 3} (a.cells.m + 3) (omega arith)))) l.invariant.count l.invariant.added c.add_row.ensures.first_sums c.add_row.ensures.second_sums;
    }
