-- Refinement row by row, for every loop that writes rows: which are written, what the next one reads, its two steps, sums down the columns and
-- what is weighed along them, and its places among the stored values.
use Rattle.std.specs.Prelude.{◌≡◌, List, ◌++◌, ℕ, ◌+◌, ◌-◌, ◌*◌, ◌/◌, ◌%◌, ◌≤◌, ◌<◌, ℤ, pos, nat_abs, length, take, drop}
use Rattle.std.proofs.Math.Path.{refl, sym, ap}
use Rattle.std.proofs.Common.{◌∙◌, inl, inr, ⊎_elim, length-take, length-drop}
use Rattle.std.proofs.Math.Nat.{mul-le-mul_right}
use native.Mathlib.Omega.{arith}
use Rattle.std.proofs.Math.ListN.{get_or}
use Rattle.algebra.specs.Table.{Apart, tabulate, over, laid, area, length_tabulate, get_d_tabulate, tabulate_same, length_filled, get_d_over}
use Rattle.algebra.specs.Partly.{Partly, begun, stored_part, part_kept, finished}
use Rattle.rules.specs.Rounding.{near}
use Rattle.rules.specs.Grid.{limit, controls, control, store}
use Rattle.rules.specs.Refinement as rule
use Rattle.rules.specs.Laws.Checks.{AllInRange}
use Rattle.rules.proofs.Laws.Surface.{control_size, at_place}
use Rattle.rules.proofs.Laws.TwoScale.{masked_size, finer_reads, finer_swap}
use Rattle.refined_rows.specs.Read.{RowsRead}

-- the sum of column s for row t
abbrev pub down : ℕ → List ℤ → ℕ → ℕ → ℤ
down m lattice t s = rule.finer (control m lattice s) t

-- the new value at place q
abbrev pub value : ℕ → List ℤ → ℕ → ℤ
value m lattice q = rule.refined (control m lattice) (q % (2 * m + 3)) (q / (2 * m + 3))

-- l is the slice d with the rows before t laid from `to` on; row t begins at start, and sums has room for the sums down its columns
pub record RowsDone (m n : ℕ) (lattice d : List ℤ) (to t start : ℕ) (sums l : List ℤ) : Type 0 where
  pub few : m ≤ 256
  pub stored : controls m n ≤ length lattice
  pub ranged : AllInRange (controls m n) lattice
  pub room : to + controls (2 * m) (2 * n) ≤ length d
  pub rows : t ≤ 2 * n + 3
  pub next : start ≡ to + t * (2 * m + 3)
  pub wide : length sums ≡ 259
  pub partly : Partly to (t * (2 * m + 3)) (value m lattice) d l

pub no_row : (m n : ℕ) (lattice d : List ℤ) (to : ℕ) (sums : List ℤ) → m ≤ 256 → controls m n ≤ length lattice → AllInRange (controls m n) lattice
    → to + controls (2 * m) (2 * n) ≤ length d → length sums ≡ 259 → RowsDone m n lattice d to 0 to sums d
no_row m n lattice d to sums few stored ranged room wide =
    record { few = few; stored = stored; ranged = ranged; room = room; rows = omega arith; next = omega arith; wide = wide; partly = begun to (0 * (2 * m + 3)) (value m lattice) d (omega arith) }

module _ {m n : ℕ} {lattice d : List ℤ} {to t start : ℕ} {sums l : List ℤ} (p : RowsDone m n lattice d to t start sums l) where
  pub every_row : t ≡ 2 * n + 3 → l ≡ laid to (store (2 * m) (2 * n) (rule.refined (control m lattice))) d
  unfolding store controls
  every_row e =
      let all : t * (2 * m + 3) ≡ (2 * m + 3) * (2 * n + 3) = ap (λ (i : ℕ). i * (2 * m + 3)) e ∙ omega arith in
      finished p.partly all refl

  -- ---- row t

  module _ (h : t < 2 * n + 3) where
    row_below : t * (2 * m + 3) + (2 * m + 3) ≤ controls (2 * m) (2 * n)
    unfolding controls
    row_below = omega (arith, mul-le-mul_right (2 * m + 3) h)

    pub row_room : start + (2 * m + 3) ≤ length l
    row_room = omega (arith, row_below)

    pub part_room : 2 * m + 3 ≤ length (take (start + (2 * m + 3) - start) (drop start l))
    part_room = simp (length-take, length-drop) (omega (arith, row_room))

    -- what lies apart from the new lattice is as it was
    pub apart_kept : (k j : ℕ) → Apart k j to (controls (2 * m) (2 * n)) → take (k + j - k) (drop k l) ≡ area k j d
    apart_kept k j a = part_kept p.partly k j (omega arith) (⊎_elim inl (λ b. inr (omega (arith, row_below))) a)

    pub row_read : RowsRead m t lattice
    unfolding controls
    row_read =
        let last : t / 2 + t % 2 + 2 ≤ n + 3 = omega arith in
        let most : (t / 2 + t % 2 + 2) * (m + 3) ≤ (m + 3) * (n + 3) = omega (arith, mul-le-mul_right (m + 3) last) in
        record { stored = omega (arith, p.stored); ranged = λ i k. p.ranged i (omega arith) }

    module _ {new : List ℤ} (holds : new ≡ over (tabulate (m + 3) (down m lattice t)) sums) where
      sum_at : (s : ℕ) → s < m + 3 → get_or new s (pos 0) ≡ down m lattice t s
      sum_at s k =
          rw holds
          (get_d_over (tabulate (m + 3) (down m lattice t)) sums s (pos 0) (rw (length_tabulate (m + 3) (down m lattice t)) k)
          ∙ get_d_tabulate (m + 3) (down m lattice t) s (pos 0) k)

      pub row_sums : (s : ℕ) → s < m + 3 → nat_abs (get_or new s (pos 0)) ≤ 32_000_000_000
      unfolding rule.finer
      row_sums s k =
          rw (sum_at s k)
          (masked_size (t % 2) (control m lattice s) (t / 2) limit (λ q l. control_size m (t / 2 + t % 2 + 2) s q lattice row_read.ranged k (omega arith)))

      -- weighed along, they are the doubly weighted sums
      row_is : tabulate (2 * m + 3) (λ s. near (rule.finer (λ q. get_or new q (pos 0)) s) 64) ≡ tabulate (2 * m + 3) (λ s. value m lattice (t * (2 * m + 3) + s))
      unfolding rule.refined
      row_is =
          tabulate_same (2 * m + 3) _ _
          (λ s k.
          ap (λ v. near v 64) (finer_reads m (λ q. get_or new q (pos 0)) (down m lattice t) sum_at s k ∙ finer_swap (control m lattice) s t)
          ∙ sym (at_place (2 * m) (rule.refined (control m lattice)) s t k))

      -- row t is written to the part of the slice that is lent for it
      pub next_row : {v : List ℤ} → v ≡ over (tabulate (2 * m + 3) (λ s. near (rule.finer (λ q. get_or new q (pos 0)) s) 64)) (take (start + (2 * m + 3) - start) (drop start l))
          → RowsDone m n lattice d to (t + 1) (start + (2 * m + 3)) new (take start l ++ (v ++ drop (start + (2 * m + 3) - start) (drop start l)))
      next_row e = record {
        few = p.few;
        stored = p.stored;
        ranged = p.ranged;
        room = p.room;
        rows = omega arith;
        next = omega arith;
        wide = length_filled (m + 3) (down m lattice t) sums (omega arith) holds ∙ p.wide;
        partly =
            stored_part p.partly (2 * m + 3) p.next (omega arith) (omega (arith, row_below))
            (e ∙ ap (λ r. over r (take (start + (2 * m + 3) - start) (drop start l))) row_is);
      }
