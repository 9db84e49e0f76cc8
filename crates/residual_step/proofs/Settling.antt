-- The first half of a level: what `gather`, `settle_all` and `lower` leave is the level lattice of the rules and the residuals less its heights.
use Rattle.std.proofs.Common.{◌≡◌, refl, sym, ap, ◌∙◌, Bool, List, ◌++◌, inl, ℕ, suc, ◌+◌, ◌-◌, ◌*◌, ◌^◌, ◌≤◌, arith, T, ℤ, length, take, drop}
use Rattle.std.proofs.Math.ListN.{length-append}
use Rattle.std.specs.Float.Ieee.{Float}
use Rattle.algebra.specs.Table.{Free, over, laid, area, tabulate, length_tabulate, tabulate_same, laid_part, area_laid, length_area, free_length, free_part, free_area, free_wider, free_over}
use Rattle.rules.specs.Answers.{require, first_of, quotient, residual}
use Rattle.rules.specs.Grid.{controls}
use Rattle.rules.specs.Fit.{Shape, columns, rows, unit_of, Survey, point_count, points_of, valued, level_value, level_height, present, or_zero, level_of, lowered, residuals, level, quotient_check, residual_check}
use Rattle.rules.proofs.Laws.Checks.{range_check_size}
use Rattle.rules.proofs.Laws.Fit.{length_level, length_residuals}
use Rattle.answers.specs.Cause.{ok_check}
use Rattle.rules.specs.Laws.Checks.{AllInRange}
use Rattle.level_sums.specs.Gathered.{sum_table}
use Rattle.level_sums.specs.Pairs.{length_sums}
use Rattle.level_values.specs.Values.{settled_at, SettledAll}
use Rattle.residual_step.proofs.Level.{values_table, refused_table}
use Rattle.fit_steps.specs.Steps.{Written}
use Rattle.lowering.specs.Lowered.{less_heights}
use Rattle.scratch.specs.Scratch.{LevelReady, Halfway, Judged, places}
use Rattle.scratch.specs.Sizes.{few}
use Rattle.scratch.specs.Judging.{judged}
use Rattle.scratch.specs.Kept.{level_ranged, running_kept, residuals_kept}
use Rattle.scratch.proofs.Split.{put, front_part, front_put, back_part, back_put, written_part}

-- ---- level k

module _ {a : Shape} {s : Survey} {most k m n e : ℕ} {whole : List ℤ} {F : ℕ} (b : LevelReady a s most k m n e whole F) {count : ℕ} (counted : count ≡ controls m n) where
  places_is : count ≡ places a k
  places_is = counted ∙ rw (b.celled.m_is, b.celled.n_is)

  pub count_few : count ≤ most
  count_few = rw places_is (few b.celled k (omega arith))

  abbrev before : Survey
  before = valued s (residuals a s k)

  -- the residuals as they are lent, in scratch that is split between the lattices and them
  pub lent_is : (front back : List ℤ) → whole ≡ front ++ back → length front ≡ 3 * most → {p : ℕ} → p ≡ point_count s → take p back ≡ residuals a s k
  lent_is front back split at p_is =
      ap (λ j. take j back) p_is ∙ back_part whole front back split (3 * most) (point_count s) at ∙ b.before.residuals_there.is

  -- ---- what `gather` leaves

  module _ {lent : List ℤ} (lent_is : lent ≡ residuals a s k) (d : List Float) {sums : List Float} (gathered : sums ≡ over (sum_table (2 ^ e) m n (points_of (valued s lent))) d) where
    sums_are : sums ≡ over (sum_table (unit_of a k) (columns a k) (rows a k) (points_of before)) d
    sums_are = gathered ∙ rw (b.unit_is, b.celled.m_is, b.celled.n_is, lent_is)

    pub sums_free : 2 * most ≤ length d → Free 0 (2 * most) d sums
    sums_free h = rw sums_are (free_over (2 * most) _ d (rw (length_sums (unit_of a k) (columns a k) (rows a k) (points_of before), ← places_is) (omega (arith, count_few))) h)

    -- ---- what `settle_all` finds and leaves

    module _ (front back : List ℤ) (split : whole ≡ front ++ back) (at : length front ≡ 3 * most) {ok : Bool} {part : List ℤ}
        (w : SettledAll count sums ok (take (2 * most + count - 2 * most) (drop (2 * most) front)) part) where
      many : 2 * most + count - 2 * most ≡ count
      many = omega arith

      abbrev lattices : List ℤ
      lattices = put (2 * most) (2 * most + count - 2 * most) part front

      now_is : lattices ++ back ≡ put (2 * most) count part whole
      now_is = ap (λ c. put (2 * most) c part front ++ back) many ∙ front_put whole front back split (2 * most) count (omega (arith, count_few)) part

      settled : SettledAll count sums ok (area (2 * most) count whole) part
      settled = rw (many, front_part whole front back split (2 * most) count (omega (arith, count_few))) at w

      now_free : Free (2 * most) count whole (lattices ++ back)
      unfolding area
      now_free = rw now_is (free_part (2 * most) count count whole part (omega arith) (omega (arith, b, count_few)) settled.free)

      pub level_free : Free 0 (3 * most + point_count s) whole (lattices ++ back)
      level_free = free_wider now_free (omega (arith, b, count_few)) 0 (3 * most + point_count s) (omega arith) (omega (arith, b, count_few)) (omega (arith, b))

      pub lattices_long : length lattices ≡ 3 * most
      lattices_long = omega (arith, at, free_length now_free (omega (arith, b, count_few)), length-append lattices back, ap length split, length-append front back)

      level_laid : T ok → lattices ++ back ≡ laid (2 * most) (level a s k) whole
      unfolding area level level_of level_value
      level_laid t =
          now_is
          ∙ ap (λ u. put (2 * most) count u whole) (settled.is t)
          ∙ laid_part (2 * most) count _ whole (rw (length_tabulate count (λ q. or_zero (settled_at count sums q))) (omega arith)) (omega (arith, b, count_few))
          ∙ ap (λ r. laid (2 * most) r whole)
          (ap (λ c. tabulate c (λ q. or_zero (settled_at c sums q))) places_is ∙ values_table (unit_of a k) (columns a k) (rows a k) (points_of before) d sums sums_are)

      pub quotients_judged : {t : Bool} → ok ≡ t → Judged (quotient_check a s k) (Halfway a s most k k) (ok_check t (quotient k)) (lattices ++ back)
      unfolding quotient_check level_value
      quotients_judged e =
          judged (quotient k)
          (sym (refused_table (unit_of a k) (columns a k) (rows a k) (points_of before) d sums sums_are (quotient k))
          ∙ ap (λ c. first_of c (λ q. require (present (settled_at c sums q)) (quotient k))) (sym places_is)
          ∙ settled.found (quotient k))
          e
          (λ t n. record {
            level_there = record {
              is = ap (area (2 * most) (places a k)) (level_laid t) ∙ area_laid (2 * most) (places a k) (level a s k) whole (length_level a s k) (omega (arith, b));
              running_before = λ j h. running_kept now_free (omega (arith, b, count_few)) (b.before.running_before j h) (few b.celled j (omega arith)) (omega arith);
            };
            residuals_there = residuals_kept now_free (omega (arith, b, count_few)) b.before.residuals_there (omega (arith, b, count_few));
          })

  -- ---- level lattice k in its place: its heights are taken from the residuals

  module _ (front back : List ℤ) (at : length front ≡ 3 * most) (h : Halfway a s most k k (front ++ back)) (room : 3 * most + point_count s ≤ length (front ++ back))
      {p : ℕ} (p_is : p ≡ point_count s) where
    abbrev level_part : List ℤ
    level_part = take (2 * most + count - 2 * most) (drop (2 * most) front)

    level_part_is : level_part ≡ level a s k
    level_part_is =
        let e : 2 * most + count - 2 * most ≡ count = omega arith in
        ap (λ c. take c (drop (2 * most) front)) e
        ∙ front_part (front ++ back) front back refl (2 * most) count (omega (arith, count_few))
        ∙ ap (λ c. area (2 * most) c (front ++ back)) places_is
        ∙ h.level_there.is

    residuals_at : take p back ≡ area (3 * most) (point_count s) (front ++ back)
    residuals_at = ap (λ j. take j back) p_is ∙ back_part (front ++ back) front back refl (3 * most) (point_count s) at

    -- what `lower` asks
    pub level_long : controls m n ≤ length level_part
    level_long = rw (level_part_is, length_level a s k, ← places_is, counted) (omega arith)

    pub level_part_ranged : AllInRange (controls m n) level_part
    level_part_ranged = rw (← counted, level_part_is, places_is) (level_ranged a s k)

    pub residuals_long : length (take p back) ≡ point_count s
    residuals_long = ap length residuals_at ∙ length_area (3 * most) (point_count s) (front ++ back) room

    pub residuals_ranged : AllInRange (length (take p back)) (take p back)
    residuals_ranged = rw (residuals_long, residuals_at, h.residuals_there.is) h.residuals_there.ranged

    lowered_is : less_heights m n e level_part s.xs s.ys (take p back) ≡ residuals a s (suc k)
    unfolding less_heights residuals lowered level_height level
    lowered_is = tabulate_same (point_count s) _ _ (λ i l. rw (level_part_is, residuals_at, h.residuals_there.is, b.unit_is, b.celled.m_is, b.celled.n_is))

    -- what it finds and leaves
    module _ {ok : Bool} {v : List ℤ} (w : Written ok 0 (point_count s) (less_heights m n e level_part s.xs s.ys (take p back)) (take p back) v) where
      abbrev last : List ℤ
      last = front ++ (v ++ drop p back)

      last_is : last ≡ put (3 * most) (point_count s) v (front ++ back)
      last_is = ap (λ j. front ++ (v ++ drop j back)) p_is ∙ back_put (front ++ back) front back refl (3 * most) (point_count s) at v

      written : Written ok (3 * most) (point_count s) (residuals a s (suc k)) (front ++ back) last
      written = rw last_is (written_part (rw (lowered_is, residuals_at) at w) (rw (length_residuals a s (suc k) b.as_many_z) (omega arith)) room)

      pub lowered_free : Free 0 (3 * most + point_count s) (front ++ back) last
      lowered_free = free_wider written.free room 0 (3 * most + point_count s) (omega arith) (omega arith) (omega arith)

      pub residuals_judged : {t : Bool} → ok ≡ t → Judged (residual_check a s k) (Halfway a s most k (suc k)) (ok_check t (residual k)) last
      unfolding residual_check
      residuals_judged e =
          judged (residual k) (written.found (residual k)) e
          (λ t r. record {
            level_there = record {
              is = free_area written.free room (2 * most) (places a k) (inl (omega (arith, few b.celled k (omega arith)))) ∙ h.level_there.is;
              running_before = λ j l. running_kept written.free room (h.level_there.running_before j l) (few b.celled j (omega arith)) (omega arith);
            };
            residuals_there = record {
              is = ap (area (3 * most) (point_count s)) (written.is t)
                  ∙ area_laid (3 * most) (point_count s) (residuals a s (suc k)) (front ++ back) (length_residuals a s (suc k) b.as_many_z) (omega arith);
              ranged = range_check_size (point_count s) (residuals a s (suc k)) (λ i. residual k) r;
            };
          })
