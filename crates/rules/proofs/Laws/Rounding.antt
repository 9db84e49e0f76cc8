-- The laws of floor and near, for any divisor d ≥ 1: their bounds, that these fix them, and what follows from near's distance alone.
use Rattle.std.specs.Prelude.{◌≡◌, refl, Bool, true, false, not, cond, ◌↔◌, ℕ, zero, suc, ◌+◌, ◌*◌, ◌≤◌, ◌<◌, T, eqb, ℤ, pos, negsuc, neg_ℤ, nat_abs, ◌+ℤ◌, ◌-ℤ◌, ◌*ℤ◌, ◌≤ℤ◌, ◌<ℤ◌}
use Rattle.std.proofs.Common.{sym, ap, subst, ◌∙◌, inl, inr, zero-le, mod-lt, arith, eqb→eq}
use Rattle.std.proofs.Math.Nat.{le_of_mul-le-mul_left}
use Rattle.std.proofs.Math.Decide.{dec_lt}
use Rattle.std.proofs.Math.IntN.{neg_ℤ-neg_ℤ, +ℤ_idr, +ℤ_invr}
use Rattle.std.specs.Int.Signed.{shr_z, ≤ℤ_refl}
use Rattle.algebra.specs.Difference.{split, whole}
use Rattle.algebra.specs.Size.{≤ℤ_antisym, <ℤ_suc, suc-≤ℤ, ≤ℤ_or-<ℤ, ≡_or-<ℤ, ≤ℤ_scale, <ℤ_cancel, nat_abs_sum, nat_abs_neg, nat_abs_product, same_of_nat_abs}
use Rattle.rules.specs.Rounding.{floor, near_up, near_down, even, near}
use Rattle.rules.proofs.Laws.Floor.{floor_bound, below, below_floor}
use Rattle.rules.specs.Laws.Rounding.{Floored, WithinHalf, odd, Tie, Nearest, middle, Rounds}

pub floor_unique : (v : ℤ) (d : ℕ) (n : ℤ) → 0 < d → Floored v d n → n ≡ floor v d
floor_unique v d n h f = ≤ℤ_antisym ((below_floor v n d h).1 f.low) (below v d (floor v d) n (floor_bound v d h).low f.high)

-- what lies on the other side of 0 is as far away
opposite_distance : (v n : ℤ) (d : ℕ) → nat_abs (pos 2 *ℤ (pos d *ℤ neg_ℤ n -ℤ neg_ℤ v)) ≡ nat_abs (pos 2 *ℤ (pos d *ℤ n -ℤ v))
opposite_distance v n d = rw (split v, split n) (simp whole (omega arith))

opposite_nearest : {v : ℤ} {d : ℕ} {n : ℤ} → Nearest v d n → Nearest (neg_ℤ v) d (neg_ℤ n)
unfolding Tie
opposite_nearest {v} {d} {n} f = record {
  distance = rw (opposite_distance v n d) f.distance;
  tie = λ e. rw (nat_abs_neg n) (f.tie (sym (opposite_distance v n d) ∙ e));
}

-- halves up: 2v + d over 2d lies from n on and below n + 1
up_bound : (v : ℤ) (d : ℕ) → 0 < d → Floored (pos 2 *ℤ v +ℤ pos d) (2 * d) (near_up v d)
unfolding near_up
up_bound v d h = floor_bound (pos 2 *ℤ v +ℤ pos d) (2 * d) (omega arith)

pub up_distance : (v : ℤ) (d : ℕ) → 0 < d → WithinHalf v d (near_up v d)
up_distance v d h = let f = up_bound v d h in close v (near_up v d) f.low f.high
  where
    close : (v n : ℤ) → (pos (2 * d) *ℤ n) ≤ℤ (pos 2 *ℤ v +ℤ pos d) → (pos 2 *ℤ v +ℤ pos d) <ℤ (pos (2 * d) *ℤ (n +ℤ pos 1)) → WithinHalf v d n
    close v n = rw (split v, split n) (simp whole (omega arith))

down_distance : (v : ℤ) (d : ℕ) → 0 < d → WithinHalf v d (near_down v d)
unfolding near_down
down_distance v d h = let w = near_up (neg_ℤ v) d in rw (← opposite_distance v (neg_ℤ w) d, neg_ℤ-neg_ℤ w) (up_distance (neg_ℤ v) d h)

-- where halves down is exactly a half away, halves up is 1 more, so that one of the two is even
down_tie : (v : ℤ) (d : ℕ) → 0 < d → odd (near_up v d) ≡ 1 → Tie v d (near_down v d)
unfolding Tie near_down
down_tie v d h =
    let f = up_bound v d h in
    let g = up_bound (neg_ℤ v) d h in
    λ up e.
    let b = twice v u w f.low f.high g.low g.high e in
    parity u w (<ℤ_cancel (2 * d) (pos 0) (u +ℤ w) b.0) (<ℤ_cancel (2 * d) (u +ℤ w) (pos 2) b.1) up
  where
    u : ℤ
    u = near_up v d

    w : ℤ
    w = near_up (neg_ℤ v) d

    twice : (v u w : ℤ) → (pos (2 * d) *ℤ u) ≤ℤ (pos 2 *ℤ v +ℤ pos d) → (pos 2 *ℤ v +ℤ pos d) <ℤ (pos (2 * d) *ℤ (u +ℤ pos 1))
        → (pos (2 * d) *ℤ w) ≤ℤ (pos 2 *ℤ neg_ℤ v +ℤ pos d) → (pos 2 *ℤ neg_ℤ v +ℤ pos d) <ℤ (pos (2 * d) *ℤ (w +ℤ pos 1)) → nat_abs (pos 2 *ℤ (pos d *ℤ neg_ℤ w -ℤ v)) ≡ d
        → ((pos (2 * d) *ℤ pos 0) <ℤ (pos (2 * d) *ℤ (u +ℤ w))) × ((pos (2 * d) *ℤ (u +ℤ w)) <ℤ (pos (2 * d) *ℤ pos 2))
    twice v u w = rw (split v, split u, split w) (simp whole (omega arith))

    parity : (u w : ℤ) → pos 0 <ℤ (u +ℤ w) → (u +ℤ w) <ℤ pos 2 → odd u ≡ 1 → odd (neg_ℤ w) ≡ 0
    parity u w = rw (split u, split w) (simp whole (omega arith))

pub near_nearest : (v : ℤ) (d : ℕ) → 0 < d → Nearest v d (near v d)
unfolding near even Tie
near_nearest v d h = go (eqb (odd u) 0) (eqb→eq (odd u) 0) (λ t. not_zero (odd u) t (mod-lt (nat_abs u) {m = 2} (omega arith)))
  where
    u : ℤ
    u = near_up v d

    not_zero : (n : ℕ) → T (not (eqb n 0)) → n < 2 → n ≡ 1
    not_zero zero t l = absurd t
    not_zero (suc n) t l = omega arith

    go : (b : Bool) → (T b → odd u ≡ 0) → (T (not b) → odd u ≡ 1) → Nearest v d (cond b u (near_down v d))
    go true f g = record { distance = up_distance v d h; tie = λ e. f tt }
    go false f g = record { distance = down_distance v d h; tie = down_tie v d h (g tt) }

-- of a number and the next one is odd
two_even : (m n : ℤ) → m <ℤ n → n <ℤ (m +ℤ pos 2) → odd m ≡ 0 → odd n ≡ 0 → ⊥
two_even m n = rw (split m, split n) (simp whole (omega arith))

-- two numbers no more than a half away differ by 1 at most, and then both are exactly a half away and cannot both be even
not_two : {v : ℤ} {d : ℕ} {m n : ℤ} → 0 < d → Nearest v d m → Nearest v d n → n ≤ℤ m
unfolding Tie
not_two {v} {d} {m} {n} h f g = elim (≤ℤ_or-<ℤ n m) [
  | inl l ↦ l
  | inr k ↦ let a = apart v m n (≤ℤ_scale d ((suc-≤ℤ m n).1 k)) f.distance g.distance in absurd (two_even m n k (<ℤ_cancel d n (m +ℤ pos 2) a.2) (f.tie a.0) (g.tie a.1))
]
  where
    apart : (v m n : ℤ) → (pos d *ℤ (m +ℤ pos 1)) ≤ℤ (pos d *ℤ n) → WithinHalf v d m → WithinHalf v d n
        → (nat_abs (pos 2 *ℤ (pos d *ℤ m -ℤ v)) ≡ d) × (nat_abs (pos 2 *ℤ (pos d *ℤ n -ℤ v)) ≡ d) × ((pos d *ℤ n) <ℤ (pos d *ℤ (m +ℤ pos 2)))
    apart v m n = rw (split v, split m, split n) (simp whole (omega arith))

-- so that the distance and the tie rule fix near
pub nearest_unique : (v : ℤ) (d : ℕ) (n : ℤ) → 0 < d → Nearest v d n → n ≡ near v d
nearest_unique v d n h f = let g = near_nearest v d h in ≤ℤ_antisym (not_two h g f) (not_two h f g)

pub near_odd : (v : ℤ) (d : ℕ) → 0 < d → near (neg_ℤ v) d ≡ neg_ℤ (near v d)
near_odd v d h = sym (nearest_unique (neg_ℤ v) d (neg_ℤ (near v d)) h (opposite_nearest (near_nearest v d h)))

-- twice a number over twice a divisor
pub near_double : (v : ℤ) (d : ℕ) → 0 < d → near (pos 2 *ℤ v) (2 * d) ≡ near v d
unfolding Tie
near_double v d h = sym (nearest_unique (pos 2 *ℤ v) (2 * d) n (omega arith) (record { distance = omega (arith, sizes v n, f.distance); tie = λ e. f.tie (omega (arith, sizes v n, e)) }))
  where
    n : ℤ
    n = near v d

    f : Nearest v d n
    f = near_nearest v d h

    sizes : (v n : ℤ) → nat_abs (pos 2 *ℤ (pos (2 * d) *ℤ n -ℤ pos 2 *ℤ v)) ≡ 2 * nat_abs (pos 2 *ℤ (pos d *ℤ n -ℤ v))
    sizes v n = rw (split v, split n) (simp whole (omega arith))

-- Over an even divisor code adds its half, less a digit b, and takes the floor. At an exact half, where v + d is 2d · n, b is to say whether n is odd.
pub near_even : (v : ℤ) (d b : ℕ) → 0 < d → b ≤ 1 → ((n : ℤ) → v +ℤ pos d ≡ pos (2 * d) *ℤ n → b ≡ odd n) → near v (2 * d) ≡ floor (v +ℤ (pos d -ℤ pos b)) (2 * d)
unfolding Tie
near_even v d b h l at-half = sym (nearest_unique v (2 * d) n (omega arith) (record { distance = close v n f.low f.high; tie = tied (dec_lt b 1) }))
  where
    n : ℤ
    n = floor (v +ℤ (pos d -ℤ pos b)) (2 * d)

    f : Floored (v +ℤ (pos d -ℤ pos b)) (2 * d) n
    f = floor_bound (v +ℤ (pos d -ℤ pos b)) (2 * d) (omega arith)

    close : (v n : ℤ) → (pos (2 * d) *ℤ n) ≤ℤ (v +ℤ (pos d -ℤ pos b)) → (v +ℤ (pos d -ℤ pos b)) <ℤ (pos (2 * d) *ℤ (n +ℤ pos 1)) → WithinHalf v (2 * d) n
    close v n = rw (split v, split n) (simp whole (omega arith))

    below : (v n : ℤ) → b < 1 → (v +ℤ (pos d -ℤ pos b)) <ℤ (pos (2 * d) *ℤ (n +ℤ pos 1)) → nat_abs (pos 2 *ℤ (pos (2 * d) *ℤ n -ℤ v)) ≡ 2 * d → v +ℤ pos d ≡ pos (2 * d) *ℤ n
    below v n = rw (split v, split n) (simp whole (omega arith))

    above : (v n : ℤ) → 1 ≤ b → (pos (2 * d) *ℤ n) ≤ℤ (v +ℤ (pos d -ℤ pos b)) → nat_abs (pos 2 *ℤ (pos (2 * d) *ℤ n -ℤ v)) ≡ 2 * d → v +ℤ pos d ≡ pos (2 * d) *ℤ (n +ℤ pos 1)
    above v n = rw (split v, split n) (simp whole (omega arith))

    before : (n : ℤ) → odd (n +ℤ pos 1) ≡ 1 → odd n ≡ 0
    before n = rw (split n) (simp whole (omega arith))

    tied : Dec (b < 1) → nat_abs (pos 2 *ℤ (pos (2 * d) *ℤ n -ℤ v)) ≡ 2 * d → odd n ≡ 0
    tied (yes k) e = sym (at-half n (below v n k f.high e)) ∙ omega arith
    tied (no k) e = before n (sym (at-half (n +ℤ pos 1) (above v n (omega arith) f.low e)) ∙ omega arith)

-- near is above z past z + 1/2, and at that exactly if z is odd
pub near_above : (v z : ℤ) (d : ℕ) → 0 < d → (z <ℤ near v d) ↔ (middle z d (odd z) <ℤ (pos 2 *ℤ v))
unfolding Tie
near_above v z d h = (
  λ k. elim (≤ℤ_or-<ℤ (pos 2 *ℤ v) (middle z d (odd z))) [
    | inl l ↦ let a = over v n z (odd z) (≤ℤ_scale d ((suc-≤ℤ z n).1 k)) l f.distance in absurd (two_even z n k (<ℤ_cancel d n (z +ℤ pos 2) a.2) a.0 (f.tie a.1))
    | inr l ↦ l
  ],
  λ k. elim (≤ℤ_or-<ℤ n z) [
    | inl l ↦ let a = under v n z (odd z) (mod-lt (nat_abs z) {m = 2} (omega arith)) (≤ℤ_scale d l) k f.distance in absurd (one_odd n z l (<ℤ_cancel d z (n +ℤ pos 1) a.2) (f.tie a.1) a.0)
    | inr l ↦ l
  ],
)
  where
    n : ℤ
    n = near v d

    f : Nearest v d n
    f = near_nearest v d h

    over : (v n z : ℤ) (b : ℕ) → (pos d *ℤ (z +ℤ pos 1)) ≤ℤ (pos d *ℤ n) → (pos 2 *ℤ v) ≤ℤ middle z d b → WithinHalf v d n
        → (b ≡ 0) × (nat_abs (pos 2 *ℤ (pos d *ℤ n -ℤ v)) ≡ d) × ((pos d *ℤ n) <ℤ (pos d *ℤ (z +ℤ pos 2)))
    over v n z b = rw (split v, split n, split z) (simp whole (omega arith))

    under : (v n z : ℤ) (b : ℕ) → b < 2 → (pos d *ℤ n) ≤ℤ (pos d *ℤ z) → middle z d b <ℤ (pos 2 *ℤ v) → WithinHalf v d n
        → (b ≡ 1) × (nat_abs (pos 2 *ℤ (pos d *ℤ n -ℤ v)) ≡ d) × ((pos d *ℤ z) <ℤ (pos d *ℤ (n +ℤ pos 1)))
    under v n z b = rw (split v, split n, split z) (simp whole (omega arith))

    one_odd : (m n : ℤ) → m ≤ℤ n → n <ℤ (m +ℤ pos 1) → odd m ≡ 0 → odd n ≡ 1 → ⊥
    one_odd m n = rw (split m, split n) (simp whole (omega arith))

-- ---- what follows from the distance alone, however an exact half is treated

pub near_distance : (v : ℤ) (d : ℕ) → 0 < d → nat_abs (pos 2 *ℤ (pos d *ℤ near v d -ℤ v)) ≤ d
near_distance v d h = (near_nearest v d h).distance

-- at v = w the two values are one since r is a function, and else they cannot cross
pub rounds_monotone : {d : ℕ} {r : ℤ → ℤ} → Rounds d r → (v w : ℤ) → v ≤ℤ w → r v ≤ℤ r w
rounds_monotone {d} {r} R v w h = elim (≡_or-<ℤ h) [
  | inl e ↦ subst (λ (x : ℤ). r v ≤ℤ r x) e (≤ℤ_refl (r v))
  | inr k ↦ (<ℤ_suc (r v) (r w)).0 (<ℤ_cancel d (r v) (r w +ℤ pos 1) (apart v w (r v) (r w) (R.distance v) (R.distance w) k))
]
  where
    apart : (v w m n : ℤ) → nat_abs (pos 2 *ℤ (pos d *ℤ m -ℤ v)) ≤ d → nat_abs (pos 2 *ℤ (pos d *ℤ n -ℤ w)) ≤ d → v <ℤ w → (pos d *ℤ m) <ℤ (pos d *ℤ (n +ℤ pos 1))
    apart v w m n = rw (split v, split w, split m, split n) (simp whole (omega arith))

-- what is within B units of n is rounded to within B of n
pub rounds_about : {d : ℕ} {r : ℤ → ℤ} → Rounds d r → (v n : ℤ) (B : ℕ) → nat_abs (v -ℤ pos d *ℤ n) ≤ d * B → nat_abs (r v -ℤ n) ≤ B
rounds_about {d} {r} R v n B h =
    let whole-size : 2 * d * nat_abs (r v -ℤ n) ≤ d + 2 * (d * B) = omega (arith, nat_abs_product (pos (2 * d)) (r v -ℤ n), ap nat_abs (parts v (r v) n), nat_abs_sum (pos 2 *ℤ (pos d *ℤ r v -ℤ v)) (pos 2 *ℤ (v -ℤ pos d *ℤ n)), nat_abs_product (pos 2) (v -ℤ pos d *ℤ n), R.distance v) in
    let twice : 2 * nat_abs (r v -ℤ n) ≤ 2 * B + 1 = le_of_mul-le-mul_left {k = d} (omega arith) R.positive in
    omega arith
  where
    parts : (v m n : ℤ) → pos (2 * d) *ℤ (m -ℤ n) ≡ pos 2 *ℤ (pos d *ℤ m -ℤ v) +ℤ pos 2 *ℤ (v -ℤ pos d *ℤ n)
    parts v m n = rw (split v, split m, split n) (simp whole (omega arith))

pub rounds_exact : {d : ℕ} {r : ℤ → ℤ} → Rounds d r → (n : ℤ) → r (pos d *ℤ n) ≡ n
rounds_exact {d} {r} R n =
    let h : nat_abs (r (pos d *ℤ n) -ℤ n) ≤ 0 = rounds_about R (pos d *ℤ n) n 0 (rw (+ℤ_invr (pos d *ℤ n)) zero-le) in
    same_of_nat_abs (r (pos d *ℤ n)) n (omega arith)

pub rounds_within : {d : ℕ} {r : ℤ → ℤ} → Rounds d r → (v : ℤ) (B : ℕ) → nat_abs v ≤ d * B → nat_abs (r v) ≤ B
rounds_within {d} {r} R v B h = rw (+ℤ_idr (r v)) at (rounds_about R v (pos 0) B (rw (from_zero v) h))
  where
    from_zero : (v : ℤ) → v -ℤ pos d *ℤ pos 0 ≡ v
    from_zero v = rw (split v) (simp whole (omega arith))

-- ---- so of near

pub near_rounds : (d : ℕ) → 0 < d → Rounds d (λ v. near v d)
near_rounds d h = record { positive = h; distance = λ v. near_distance v d h }

pub near_monotone : (v w : ℤ) (d : ℕ) → 0 < d → v ≤ℤ w → near v d ≤ℤ near w d
near_monotone v w d h = rounds_monotone (near_rounds d h) v w

pub near_exact : (n : ℤ) (d : ℕ) → 0 < d → near (pos d *ℤ n) d ≡ n
near_exact n d h = rounds_exact (near_rounds d h) n

-- what is at most n units is rounded to at most n
pub near_most : (v n : ℤ) (d : ℕ) → 0 < d → v ≤ℤ (pos d *ℤ n) → near v d ≤ℤ n
near_most v n d h l = rw (near_exact n d h) at (near_monotone v (pos d *ℤ n) d h l)

pub near_within : (v : ℤ) (d B : ℕ) → 0 < d → nat_abs v ≤ d * B → nat_abs (near v d) ≤ B
near_within v d B h = rounds_within (near_rounds d h) v B

-- ---- how code divides: by a shift

pub shift_floor : (v : ℤ) (d : ℕ) → shr_z v d ≡ floor v d
unfolding floor
shift_floor (pos a) d = refl
shift_floor (negsuc a) d = refl
