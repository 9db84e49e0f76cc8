-- The second half of a level: what `copy_within`, or `refine_turn` and `add`, leave is the running lattice of the rules.
use Rattle.std.proofs.Common.{◌≡◌, refl, sym, ap, ap₂, ◌∙◌, Bool, List, ◌++◌, inr, ℕ, suc, ◌+◌, ◌-◌, ◌*◌, ◌/◌, ◌%◌, ◌≤◌, arith, ℤ, length, take, drop}
use Rattle.std.specs.List.{copy_within}
use Rattle.std.proofs.Math.Option.{none}
use Rattle.algebra.specs.Table.{Free, laid, area, area_part, length_area, area_laid, free_length, free_area, free_wider, free_laid, free_again}
use Rattle.rules.specs.Answers.{range_check, sum}
use Rattle.rules.specs.Grid.{limit, controls, control, store}
use Rattle.rules.specs.Refinement.{refined}
use Rattle.rules.specs.Fit.{Shape, columns, rows, Survey, level, running, sum_check}
use Rattle.rules.specs.Laws.Checks.{AllInRange}
use Rattle.rules.proofs.Laws.Checks.{range_check_size}
use Rattle.rules.proofs.Laws.Surface.{length_store, store_within, refined_within, control_within}
use Rattle.rules.proofs.Laws.Fit.{first_sums, next_running, length_level, length_running}
use Rattle.answers.specs.Cause.{ok_check}
use Rattle.fit_steps.specs.Steps.{summed, Written}
use Rattle.scratch.specs.Scratch.{area_within, Celled, RunningThere, LevelThere, SecondHalf, places}
use Rattle.scratch.specs.Sizes.{few, doubled_columns, doubled_rows, half_columns, half_rows}
use Rattle.scratch.specs.Judging.{judged}
use Rattle.scratch.specs.Kept.{level_ranged}
use Rattle.scratch.proofs.Split.{put, front_part, front_put, back_part, written_part}

-- running lattice j refined, as it is stored
refined_running : Shape → Survey → ℕ → List ℤ
refined_running a s j = store (2 * columns a j) (2 * rows a j) (refined (control (columns a j) (running a s j)))

module _ {a : Shape} {s : Survey} {most k : ℕ} {whole : List ℤ} {m n : ℕ} (z : Celled a k most m n) (b : LevelThere a s most k whole) (room : 3 * most ≤ length whole)
    {count : ℕ} (counted : count ≡ controls m n) where
  abbrev to : ℕ
  to = k % 2 * most

  to_within : to ≤ most
  to_within = area_within k most

  places_is : count ≡ places a k
  places_is = counted ∙ rw (z.m_is, z.n_is)

  pub count_few : count ≤ most
  count_few = rw places_is (few z k (omega arith))

  level_is : area (2 * most) count whole ≡ level a s k
  level_is = ap (λ c. area (2 * most) c whole) places_is ∙ b.is

  -- ---- level 0

  module _ (first : k ≡ 0) {last : List ℤ} (copied : last ≡ copy_within whole (2 * most) (2 * most + count) 0) where
    laid_there : last ≡ laid 0 (area (2 * most) count whole) whole
    unfolding laid
    laid_there =
        let few : 2 * most + count - 2 * most ≡ length (area (2 * most) count whole) = omega (arith, length_area (2 * most) count whole (omega (arith, count_few))) in
        copied ∙ ap₂ (λ r k. r ++ drop (0 + k) whole) (area_part (2 * most) count whole) few

    pub copied_free : Free 0 (2 * most) whole last
    copied_free =
        rw laid_there (free_laid 0 (2 * most) (area (2 * most) count whole) whole (rw (length_area (2 * most) count whole (omega (arith, count_few))) (omega (arith, count_few))) (omega arith))

    pub first_judged : SecondHalf a s most k none last
    unfolding running
    first_judged = record {
      is = rw first (sym (first_sums a s));
      leaves = λ _. record {
        is =
            ap₂ (λ n c. area n c last) start (sym places_is)
            ∙ ap (area 0 count) laid_there
            ∙ area_laid 0 count (area (2 * most) count whole) whole (length_area (2 * most) count whole (omega (arith, count_few))) (omega arith)
            ∙ level_is
            ∙ same;
        ranged = rw (← same) (level_ranged a s k);
      };
    }
      where
        start : to ≡ 0
        start = rw first (omega arith)

        same : level a s k ≡ running a s k
        same = rw first

  -- ---- level j + 1, whose cells halved are those of level j

  module _ (j : ℕ) (next : k ≡ suc j) where
    abbrev from : ℕ
    from = j % 2 * most

    abbrev before : ℕ
    before = controls (m / 2) (n / 2)

    abbrev finer : List ℤ
    finer = refined_running a s j

    there : RunningThere a s most j whole
    there = b.running_before j next

    before_is : before ≡ places a j
    before_is = rw (half_columns z j next, half_rows z j next)

    refined_is : controls (2 * (m / 2)) (2 * (n / 2)) ≡ places a k
    refined_is = rw (half_columns z j next, half_rows z j next, doubled_columns z j next, doubled_rows z j next)

    running_is : area from before whole ≡ running a s j
    running_is = rw before_is there.is

    -- what `refine_turn` asks
    pub few_before : before ≤ most
    few_before = rw before_is (few z j (omega arith))

    pub few_refined : controls (2 * (m / 2)) (2 * (n / 2)) ≤ most
    few_refined = rw refined_is (few z k (omega arith))

    pub before_ranged : AllInRange before (area from before whole)
    before_ranged = rw (running_is, before_is) there.ranged

    -- ---- running lattice j, refined

    length_finer : length finer ≡ places a k
    unfolding refined_running
    length_finer = length_store (2 * columns a j) (2 * rows a j) _ ∙ rw (doubled_columns z j next, doubled_rows z j next)

    finer_ranged : AllInRange (places a k) finer
    unfolding refined_running
    finer_ranged =
        rw (doubled_columns z j next, doubled_rows z j next)
        (store_within (2 * columns a j) (2 * rows a j) _ limit
        (refined_within (columns a j) (rows a j) _ limit (control_within (columns a j) (rows a j) (running a s j) there.ranged)))

    module _ {now : List ℤ} (refines : now ≡ laid to (store (2 * (m / 2)) (2 * (n / 2)) (refined (control (m / 2) (area from before whole)))) whole) where
      finer_laid : now ≡ laid to finer whole
      unfolding refined_running
      finer_laid = refines ∙ rw (running_is, half_columns z j next, half_rows z j next)

      free : Free to count whole now
      free = rw finer_laid (record { values = finer; as_many = length_finer ∙ sym places_is; is = refl })

      pub long : length now ≡ length whole
      long = free_length free (omega (arith, to_within, count_few))

      finer_at : area to count now ≡ finer
      finer_at = ap (area to count) finer_laid ∙ area_laid to count finer whole (length_finer ∙ sym places_is) (omega (arith, to_within))

      level_at : area (2 * most) count now ≡ level a s k
      level_at = free_area free (omega (arith, to_within, count_few)) (2 * most) count (inr (omega (arith, to_within, count_few))) ∙ level_is

      -- ---- scratch split between the running lattices and the level lattice

      module _ (front back : List ℤ) (split : now ≡ front ++ back) (at : length front ≡ 2 * most) where
        abbrev level_part : List ℤ
        level_part = take count back

        abbrev running_part : List ℤ
        running_part = take (to + count - to) (drop to front)

        level_part_is : level_part ≡ level a s k
        level_part_is = back_part now front back split (2 * most) count at ∙ level_at

        running_part_at : running_part ≡ area to count now
        running_part_at =
            let e : to + count - to ≡ count = omega arith in
            ap (λ c. take c (drop to front)) e ∙ front_part now front back split to count (omega (arith, to_within, count_few))

        running_part_is : running_part ≡ finer
        running_part_is = running_part_at ∙ finer_at

        level_long : length level_part ≡ count
        level_long = ap length level_part_is ∙ length_level a s k ∙ sym places_is

        -- what `add` asks
        pub as_many : length level_part ≡ length running_part
        as_many = level_long ∙ sym (ap length running_part_is ∙ length_finer ∙ sym places_is)

        pub addable : AllInRange (length level_part) level_part × AllInRange (length level_part) running_part
        addable = rw (level_long, level_part_is, running_part_is, places_is) (level_ranged a s k, finer_ranged)

        sums_are : summed (length level_part) running_part level_part ≡ running a s k
        unfolding summed refined_running
        sums_are = rw (level_long, level_part_is, running_part_is, places_is, next) (sym (next_running a s j))

        -- what it finds and leaves
        module _ {ok : Bool} {v : List ℤ} (w : Written ok 0 (length level_part) (summed (length level_part) running_part level_part) running_part v) where
          abbrev last : List ℤ
          last = put to (to + count - to) v front ++ back

          last_is : last ≡ put to count v now
          last_is =
              let e : to + count - to ≡ count = omega arith in
              ap (λ c. put to c v front ++ back) e ∙ front_put now front back split to count (omega (arith, to_within, count_few)) v

          written : Written ok to count (running a s k) now last
          written =
              rw last_is
              (written_part (rw (sums_are, level_long, running_part_at) at w) (rw (length_running a s k, places_is) (omega arith)) (omega (arith, long, to_within, count_few)))

          pub sums_judged : {b : Bool} → ok ≡ b → SecondHalf a s most k (ok_check b (sum k)) last
          unfolding sum_check
          sums_judged e =
              judged (sum k) (ap (λ c. range_check c (running a s k) (λ i. sum k)) (sym places_is) ∙ written.found (sum k)) e
              (λ t r. record {
                is = ap (area to (places a k)) (written.is t) ∙ area_laid to (places a k) (running a s k) now (length_running a s k) (omega (arith, long, to_within));
                ranged = range_check_size (places a k) (running a s k) (λ i. sum k) r;
              })

          pub added_free : Free 0 (2 * most) whole last
          added_free =
              free_again (omega arith)
              (free_wider free (omega (arith, to_within, count_few)) 0 (2 * most) (omega arith) (omega (arith, to_within, count_few)) (omega arith))
              (free_wider written.free (omega (arith, long, to_within, count_few)) 0 (2 * most) (omega arith) (omega (arith, to_within, count_few)) (omega (arith, long)))
