-- The first node outside, where nodes go row by row: x0 and y0 are tested first, then the columns of row 0, then the rows.
use mathlib.Core.Path.{◌≡◌, sym}
use mathlib.Core.Option.{none, some}
use Prim.Native.Nat.{ℕ, ◌+◌, ◌-◌, ◌*◌, ◌/◌, ◌%◌, ◌≤◌, ◌<◌}
use native.Mathlib.Nat.{mul-pos, mul-zero, zero-mod, zero-mul, mod-eq_of_lt, mod-lt, div-eq_of_lt, div-lt_iff_lt-mul, mul_comm, mul-div_cancel, mul-div-le, lt-mul-div-succ, mul-le-mul_left, mul-le-mul_right, lt_of_lt_of_le, not-suc-le-zero}
use native.Mathlib.Omega.{arith}
use borrow.Author.Tests.{le-leb, lt-leb}
use Rattle.rules.specs.Answers.{Check, require, position, first_of}
use Rattle.rules.specs.Calls.{Nodes, nodes_at, node_x, node_y, node_check, nodes_check}
use Rattle.rules.proofs.Laws.Checks.{first_of_all, first_of_at}

-- ---- steps of one axis: as many as fit between the first position and the last

step_inside : (first last step i : ℕ) → first ≤ last → i < (last - first) / step + 1 → first + step * i ≤ last
step_inside first last step i f h =
    let k : i ≤ (last - first) / step = omega arith in
    omega (arith, mul-le-mul_left step k, mul-div-le (last - first) step)

step_outside : (first last step : ℕ) → 0 < step → first ≤ last → last < first + step * ((last - first) / step + 1)
step_outside first last step s f = omega (arith, lt-mul-div-succ (last - first) s)

module _ (right top x0 y0 step columns rows : ℕ) where
  abbrev g : Nodes
  g = nodes_at x0 y0 step columns rows

  pub no_columns : columns ≡ 0 → none ≡ nodes_check right top g
  unfolding nodes_check first_of
  no_columns e = rw (e, zero-mul rows)

  pub no_rows : rows ≡ 0 → none ≡ nodes_check right top g
  unfolding nodes_check first_of
  no_rows e = rw (e, mul-zero columns)

  module _ (some-step : 0 < step) (across : 0 < columns) (down : 0 < rows) where
    node : ℕ → Check
    node = node_check right top g

    node_fine : (q : ℕ) → x0 + step * (q % columns) ≤ right → y0 + step * (q / columns) ≤ top → node q ≡ none
    unfolding node node_check require node_x node_y
    node_fine q h k = rw (le-leb (x0 + step * (q % columns)) right h, le-leb (y0 + step * (q / columns)) top k)

    past_right : (q : ℕ) → right < x0 + step * (q % columns) → node q ≡ some (position q)
    unfolding node node_check require node_x node_y
    past_right q h = rw (lt-leb (x0 + step * (q % columns)) right h)

    past_top : (q : ℕ) → x0 + step * (q % columns) ≤ right → top < y0 + step * (q / columns) → node q ≡ some (position q)
    unfolding node node_check require node_x node_y
    past_top q h k = rw (le-leb (x0 + step * (q % columns)) right h, lt-leb (y0 + step * (q / columns)) top k)

    -- node q is the first that is refused
    first : (q : ℕ) → q < columns * rows → ((i : ℕ) → i < q → node i ≡ none) → node q ≡ some (position q) → some (position q) ≡ nodes_check right top g
    unfolding nodes_check node
    first q l before e = sym (first_of_at (columns * rows) q node (position q) (first_of_all q node before) l e)

    nothing_before : (i : ℕ) → i < 0 → node i ≡ none
    nothing_before i h = absurd (not-suc-le-zero h)

    pub first_past_right : right < x0 → some (position 0) ≡ nodes_check right top g
    first_past_right h = first 0 (mul-pos across down) nothing_before (past_right 0 (omega arith))

    module _ (x-starts : x0 ≤ right) where
      pub first_past_top : top < y0 → some (position 0) ≡ nodes_check right top g
      first_past_top h =
          first 0 (mul-pos across down) nothing_before (past_top 0 (rw (zero-mod columns, mul-zero step) (omega arith)) (omega arith))

      module _ (y-starts : y0 ≤ top) where
        pub row_past_right : (right - x0) / step + 1 < columns → some (position ((right - x0) / step + 1)) ≡ nodes_check right top g
        row_past_right h =
            let k = (right - x0) / step + 1 in
            first k (lt_of_lt_of_le h (rw (mul_comm columns rows) (omega (arith, mul-le-mul_right columns down))))
            (λ i l.
            let in_row : i < columns = omega arith in
            node_fine i (rw (mod-eq_of_lt in_row) (step_inside x0 right step i x-starts l)) (rw (div-eq_of_lt in_row, mul-zero step) (omega arith)))
            (past_right k (rw (mod-eq_of_lt h) (step_outside x0 right step some-step x-starts)))

        module _ (wide : columns ≤ (right - x0) / step + 1) where
          x_fine : (q : ℕ) → x0 + step * (q % columns) ≤ right
          x_fine q = step_inside x0 right step (q % columns) x-starts (lt_of_lt_of_le (mod-lt q across) wide)

          pub column_past_top : (top - y0) / step + 1 < rows → some (position (((top - y0) / step + 1) * columns)) ≡ nodes_check right top g
          column_past_top h =
              let k = (top - y0) / step + 1 in
              first (k * columns) (rw (mul_comm columns rows) (omega (arith, mul-le-mul_right columns h)))
              (λ i l. node_fine i (x_fine i) (step_inside y0 top step (i / columns) y-starts ((div-lt_iff_lt-mul across).1 l)))
              (past_top (k * columns) (x_fine (k * columns)) (rw (mul-div_cancel k across) (step_outside y0 top step some-step y-starts)))

          pub all_inside : rows ≤ (top - y0) / step + 1 → none ≡ nodes_check right top g
          unfolding nodes_check node
          all_inside h =
              sym
              (first_of_all (columns * rows) node
              (λ i l.
              node_fine i (x_fine i)
              (step_inside y0 top step (i / columns) y-starts (lt_of_lt_of_le ((div-lt_iff_lt-mul across).1 (rw (mul_comm rows columns) l)) h))))
