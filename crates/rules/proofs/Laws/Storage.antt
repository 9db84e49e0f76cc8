-- Laws of pond storage: a higher stage never stores less, how much there is at most, and how code works it out: litres in two parts, and a raster part by part.
use Rattle.std.specs.Prelude.{◌≡◌, List, ℕ, zero, suc, ◌+◌, ◌*◌, ◌/◌, ◌%◌, ◌≤◌, ◌<◌, leb, ℤ, pos, nat_abs, length, get_or, ◌≤ℤ◌}
use Rattle.std.proofs.Common.{sym, ap, ap₂, ◌∙◌, le_trans, add-le-add, mul-le-mul, mul-le-mul_right, add-zero, add-suc, add_assoc, arith, lit<, leb→le}
use Rattle.std.proofs.Math.Option.{none, some}
use Rattle.algebra.specs.Difference.{split, whole, pos_part-⊝}
use Rattle.algebra.specs.Size.{div_rises, product_div}
use Rattle.rules.specs.Grid.{limit, within}
use Rattle.rules.specs.Answers.{short, side, range, place, require}
use Rattle.rules.specs.Calls.{counts_check, stage_check}
use Rattle.rules.specs.Storage.{depth, depths, litres, storage, side_check, pond_check, heights_check, storage_check}
use Rattle.rules.specs.Laws.Checks.{AllInRange, Part}
use Rattle.rules.proofs.Laws.Checks.{required, within_bounds, then_both, range_check_size, range_check_refusal}
use Rattle.rules.proofs.Laws.Passed.{counts_passed, stage_passed}

-- ---- "A higher stage never stores less"

depth_rises : (z low high : ℤ) → low ≤ℤ high → depth low z ≤ depth high z
unfolding depth
depth_rises z low high = rw (split z, split low, split high) (simp (whole, pos_part-⊝) (omega arith))

pub depths_rise : (n : ℕ) (heights : List ℤ) (low high : ℤ) → low ≤ℤ high → depths n heights low ≤ depths n heights high
unfolding depths
depths_rise zero heights low high h = omega arith
depths_rise (suc n) heights low high h = add-le-add (depths_rise n heights low high h) (depth_rises (get_or heights n (pos 0)) low high h)

pub litres_rise : (s : ℕ) {a b : ℕ} → a ≤ b → litres a s ≤ litres b s
unfolding litres
litres_rise s h = div_rises 100_000 (lit< tt) (mul-le-mul_right (s * s) h)

pub storage_rises : (columns rows : ℕ) (heights : List ℤ) (s : ℕ) (low high : ℤ) → low ≤ℤ high
    → storage columns rows heights low s ≤ storage columns rows heights high s
unfolding storage
storage_rises columns rows heights s low high h = litres_rise s (depths_rise (columns * rows) heights low high h)

-- ---- how much there is at most

pub depth_most : (stage z : ℤ) → nat_abs stage ≤ limit → nat_abs z ≤ limit → depth stage z ≤ 8_000_000_000
unfolding depth
depth_most stage z = rw (split stage, split z) (simp (whole, pos_part-⊝) (omega arith))

pub depths_most : (n : ℕ) (heights : List ℤ) (stage : ℤ) → nat_abs stage ≤ limit → AllInRange n heights → depths n heights stage ≤ n * 8_000_000_000
unfolding depths
depths_most zero heights stage h all = omega arith
depths_most (suc n) heights stage h all =
    omega (arith, depths_most n heights stage h (λ i l. all i (omega arith)), depth_most stage (get_or heights n (pos 0)) h (all n (omega arith)))

-- of 8,193 × 8,193 nodes, and at a side of 100
pub sum_most : (n : ℕ) (heights : List ℤ) (stage : ℤ) → n ≤ 8_193 * 8_193 → nat_abs stage ≤ limit → AllInRange n heights
    → depths n heights stage ≤ 537_001_992_000_000_000
sum_most n heights stage l h all = le_trans (depths_most n heights stage h all) (mul-le-mul_right 8_000_000_000 l)

pub litres_most : (sum s : ℕ) → sum ≤ 537_001_992_000_000_000 → s ≤ 100 → litres sum s ≤ 53_700_199_200_000_000
unfolding litres
litres_most sum s h k = div_rises 100_000 (lit< tt) (mul-le-mul h (mul-le-mul k k))

-- ---- what passed checks have shown

pub pond_passed : (columns rows : ℕ) (heights : List ℤ) (s : ℕ) → pond_check columns rows heights s ≡ none
    → (columns * rows ≤ 8_193 * 8_193) × (columns * rows ≤ length heights) × (s ≤ 100) × (0 < s)
unfolding pond_check side_check
pond_passed columns rows heights s e =
    let room = leb (columns * rows) (length heights) in
    let a = then_both (counts_check columns rows) _ e in
    let b = then_both (require room short) _ a.1 in
    let counts = counts_passed columns rows a.0 in
    let sides = within_bounds 1 100 s (required (within 1 100 s) side b.1) in
    (mul-le-mul counts.0 counts.1, leb→le (columns * rows) (length heights) (required room short b.0), sides.1, sides.0)

pub heights_passed : (n : ℕ) (heights : List ℤ) → heights_check n heights ≡ none → AllInRange n heights
unfolding heights_check
heights_passed n heights e = range_check_size n heights (λ i. range (i + 1)) e

-- the place of a refusal is that of one of n heights
pub place_most : (n : ℕ) (heights : List ℤ) (p : ℕ) → heights_check n heights ≡ some (range p) → p ≤ n
unfolding heights_check
place_most n heights p e =
    let q = range_check_refusal n heights (λ j. range (j + 1)) (range p) e in
    let same : q.0 + 1 ≡ p = ap place q.3 in
    omega (arith, same, q.1)

-- the litres of an accepted storage
pub storage_most : (columns rows : ℕ) (heights : List ℤ) (stage : ℤ) (s : ℕ) → storage_check columns rows heights stage s ≡ none
    → storage columns rows heights stage s ≤ 53_700_199_200_000_000
unfolding storage_check storage
storage_most columns rows heights stage s e =
    let a = then_both (pond_check columns rows heights s) _ e in
    let b = then_both (stage_check stage) _ a.1 in
    let p = pond_passed columns rows heights s a.0 in
    litres_most (depths (columns * rows) heights stage) s (sum_most (columns * rows) heights stage p.0 (stage_passed stage b.0) (heights_passed (columns * rows) heights b.1)) p.2

-- ---- how code works it out

-- the floor, with no product that leaves 64 bits
pub litres_parts : (sum s : ℕ) → litres sum s ≡ sum / 100_000 * (s * s) + sum % 100_000 * (s * s) / 100_000
unfolding litres
litres_parts sum s = product_div sum (s * s) 100_000 (lit< tt)

-- the sum so far, and the sum of a part that goes on there
pub depths_part : (i w : ℕ) (heights part : List ℤ) (stage : ℤ) → Part i w heights part
    → depths (i + w) heights stage ≡ depths i heights stage + depths w part stage
unfolding depths
depths_part i zero heights part stage h = ap (λ n. depths n heights stage) (add-zero i) ∙ sym (add-zero (depths i heights stage))
depths_part i (suc w) heights part stage h =
    ap (λ n. depths n heights stage) (add-suc i w)
    ∙ ap₂ (λ a z. a + depth stage z) (depths_part i w heights part stage (λ k l. h k (omega arith))) (sym (h w (omega arith)))
    ∙ add_assoc (depths i heights stage) (depths w part stage) (depth stage (get_or part w (pos 0)))
