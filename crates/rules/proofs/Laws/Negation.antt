-- Document 02's job 9: "Negating every height of a point list must negate lattice and residuals, or give the same refusal with the same place." All follows
-- from near being odd; and so heights, slopes, refinement and raster of a negated lattice are the negated ones, or are refused alike.
use Rattle.std.specs.Prelude.{◌≡◌, Bool, true, false, ◌&&◌, cond, List, [], ◌∷◌, ◌++◌, map, leb, negsuc, ◌+ℤ◌, ◌*ℤ◌, Float, length, get_or, take}
use Rattle.std.proofs.Math.Path.{refl, sym, ap, ap₂, fun_ext}
use Rattle.std.proofs.Common.{◌-ℤ◌, ◌∙◌, add-one, arith, take_at}
use Rattle.std.proofs.Math.Option
use Rattle.std.proofs.Math.Option.{Option, none, some}
use Rattle.std.proofs.lemmas.List.{map-append, length-map}
use Prim.Native.Nat.{ℕ, zero, suc, ◌+◌, ◌-◌, ◌*◌, ◌/◌, ◌%◌, ◌<◌}
use Rattle.std.proofs.Math.IntN.{ℤ, pos, neg_ℤ, neg_ℤ-+ℤ}
use Rattle.std.specs.Float.Ieee.{lt, odd, of_bits, of_fields}
use Rattle.std.proofs.Math.ListN.{get_or-map}
use Rattle.std.proofs.Math.Pow.{pow_pos}
use Rattle.algebra.specs.Ring.{*ℤ_idl, *ℤ_left_comm, negℤ-*ℤ}
use Rattle.algebra.specs.Table.{tabulate, over, length_tabulate}
use Rattle.rules.specs.Rounding.{near}
use Rattle.rules.specs.Grid.{Lattice, in_range, confident, inside, unit_at, controls, control, store}
use Rattle.rules.specs.Surface.{denominator, cell, offset, along, height}
use Rattle.rules.specs.Slope.{slope_numerator, slope_denominator, slope_along, slope_x, slope_y}
use Rattle.rules.specs.Level.{◌⊕◌, ◌⊗◌, ◌⊘◌, float, zero64, Point, Sums, no_sums, weight, squares, grown, uses, touched, gathered}
use Rattle.rules.specs.Level.{fitted, untouched, coefficient, settled, fitted_at}
use Rattle.rules.specs.Refinement.{finer, finer2, refined}
use Rattle.rules.specs.Fit.{Shape, columns, rows, unit_of, Survey, point_count, point_at, points_of, valued, total, near_mean, base, shifted, differences, from_base}
use Rattle.rules.specs.Fit.{level_value, or_zero, level_of, level_height, lowered, raised, residuals, level, running, single_lattice, last_residuals}
use Rattle.rules.specs.Fit.{present, quotient_check, residual_check, sum_check, level_check, levels_check, difference_check, final_check, in_levels_check}
use Rattle.rules.specs.Answers.{Refusal, position, range, confidence, difference, quotient, residual, sum}
use Rattle.rules.specs.Answers.{Check, require, ◌then◌, first_of, range_check, accepted, answer, call}
use Rattle.rules.specs.Calls.{lattice_check, height_check, height_answer, slope_answer, refine_check, refine_call, Nodes, node_x, node_y, node_height}
use Rattle.rules.specs.Calls.{raster_check, raster_call, lists_check, spot_check, point_check, points_check, survey_check}
use Rattle.rules.specs.Calls.{Lent, K, lent_check, fit_check, results, cleared, fit_end, fit_call}
use Rattle.rules.proofs.Laws.Rounding.{near_odd}
use Rattle.rules.specs.Laws.Opposite.{Opposite, numbers}
use Rattle.rules.proofs.Laws.Opposite.{opposite_sum, opposite_product, opposite_quotient, opposite_float, opposite_settled, range_odd}
use Rattle.rules.proofs.Laws.Basis.{weighted_scale, along_scale}
use Rattle.rules.proofs.Laws.Surface.{denominator_positive, length_store}
use Rattle.rules.proofs.Laws.Slope.{slope_denominator_positive}
use Rattle.rules.proofs.Laws.TwoScale.{finer_multiple}
use Rattle.rules.proofs.Laws.Checks.{then_first, then_rest}
use Rattle.rules.proofs.Laws.Passed.{unit_positive}
use Rattle.rules.proofs.Laws.Base.{length_single}
use Rattle.rules.specs.Laws.Negation.{negated, opposite, upside_down, with_value, Mirrored, opposite_slopes, Opposed, Overturned}

pub length_negated : (values : List ℤ) → length (negated values) ≡ length values
unfolding negated
length_negated values = length-map values neg_ℤ

-- past the end both are 0
pub negated_at : (values : List ℤ) (i : ℕ) → get_or (negated values) i (pos 0) ≡ neg_ℤ (get_or values i (pos 0))
unfolding negated
negated_at values i = get_or-map neg_ℤ values i (pos 0)

-- a table of what F makes of the entries of another
mapped : {A B : Type 0} (F : A → B) (n : ℕ) (f : ℕ → A) (g : ℕ → B) → ((i : ℕ) → g i ≡ F (f i)) → tabulate n g ≡ map F (tabulate n f)
unfolding tabulate
mapped F zero f g e = refl
mapped F (suc n) f g e = ap₂ (λ l x. l ++ (x ∷ [])) (mapped F n f g e) (e n) ∙ sym (map-append F (tabulate n f) (f n ∷ []))

negated_tabulate : (n : ℕ) (f g : ℕ → ℤ) → ((i : ℕ) → g i ≡ neg_ℤ (f i)) → tabulate n g ≡ negated (tabulate n f)
unfolding negated
negated_tabulate = mapped neg_ℤ

pub negated_store : (m n : ℕ) (f g : Lattice) → ((s t : ℕ) → g s t ≡ neg_ℤ (f s t)) → store m n g ≡ negated (store m n f)
unfolding store
negated_store m n f g e = negated_tabulate (controls m n) _ _ (λ q. e (q % (m + 3)) (q / (m + 3)))

pub negated_control : (m : ℕ) (values : List ℤ) → control m (negated values) ≡ opposite (control m values)
unfolding control
negated_control m values = λ i s t. negated_at values (t * (m + 3) + s) i

-- they are in range alike
range_at : (values : List ℤ) (i : ℕ) → in_range (get_or (negated values) i (pos 0)) ≡ in_range (get_or values i (pos 0))
range_at values i = ap in_range (negated_at values i) ∙ range_odd (get_or values i (pos 0))

pub negated_check : (n : ℕ) (values : List ℤ) (r : ℕ → Refusal) → range_check n (negated values) r ≡ range_check n values r
unfolding range_check
negated_check n values r = λ t. first_of n (λ i. require (range_at values i t) (r i))

negated_same : (n : ℕ) (values : List ℤ) (r : ℕ → Refusal) {other : List ℤ} → other ≡ negated values → range_check n other r ≡ range_check n values r
negated_same n values r e = ap (λ v. range_check n v r) e ∙ negated_check n values r

-- ---- the surface is odd

-- what passes any factor on passes a negation on
odd_of : (F : (ℕ → ℤ) → ℤ) → ((c : ℤ) (f : ℕ → ℤ) → F (λ s. c *ℤ f s) ≡ c *ℤ F f) → (f : ℕ → ℤ) → F (λ s. neg_ℤ (f s)) ≡ neg_ℤ (F f)
odd_of F scale f = ap F (fun_ext λ s. sym (minus (f s))) ∙ scale (negsuc 0) f ∙ minus (F f)
  where
    minus : (z : ℤ) → negsuc 0 *ℤ z ≡ neg_ℤ z
    minus z = negℤ-*ℤ (pos 1) z ∙ ap neg_ℤ (*ℤ_idl z)

pub along_odd : (U m x : ℕ) (f : ℕ → ℤ) → along U m x (λ s. neg_ℤ (f s)) ≡ neg_ℤ (along U m x f)
along_odd U m x = odd_of (along U m x) (along_scale U m x)

-- near over e of what F makes of values that are near over d: of a height, and of a slope
rounded_odd : (d e : ℕ) → 0 < d → 0 < e → (F : (ℕ → ℤ) → ℤ) → ((f : ℕ → ℤ) → F (λ s. neg_ℤ (f s)) ≡ neg_ℤ (F f))
    → (f g : ℕ → ℤ) → ((s : ℕ) → g s ≡ neg_ℤ (f s)) → near (F (λ s. near (g s) d)) e ≡ neg_ℤ (near (F (λ s. near (f s) d)) e)
rounded_odd d e h k F odd f g opposed =
    ap (λ v. near v e) (ap F (fun_ext λ s. ap (λ v. near v d) (opposed s) ∙ near_odd (f s) d h) ∙ odd (λ s. near (f s) d))
    ∙ near_odd (F (λ s. near (f s) d)) e k

module _ (U m n : ℕ) (h : 0 < U) (f : Lattice) (x y : ℕ) where
  pub height_odd : height U m n (opposite f) x y ≡ neg_ℤ (height U m n f x y)
  unfolding height
  height_odd =
      let d = denominator_positive U h in
      rounded_odd (denominator U) (denominator U) d d (along U n y) (along_odd U n y) _ _ (λ t. along_odd U m x (λ s. f s t))

  pub slope_x_odd : slope_x U m n (opposite f) x y ≡ neg_ℤ (slope_x U m n f x y)
  unfolding slope_x slope_along
  slope_x_odd =
      let w = slope_numerator (pos U) (pos (offset U m x)) in
      let nano : (ℕ → ℤ) → ℤ = λ g. pos 1_000 *ℤ slope_along U m x g in
      rounded_odd (denominator U) (slope_denominator U) (denominator_positive U h) (slope_denominator_positive U h) nano
      (odd_of nano (λ c g. ap (λ v. pos 1_000 *ℤ v) (weighted_scale w c g (cell U m x)) ∙ *ℤ_left_comm (pos 1_000) c (slope_along U m x g)))
      (λ s. along U n y (λ t. f s t)) (λ s. along U n y (λ t. neg_ℤ (f s t))) (λ s. along_odd U n y (λ t. f s t))

pub slope_y_odd : (U m n : ℕ) → 0 < U → (f : Lattice) (x y : ℕ) → slope_y U m n (opposite f) x y ≡ neg_ℤ (slope_y U m n f x y)
unfolding slope_y
slope_y_odd U m n h f x y = slope_x_odd U n m h (λ t s. f s t) y x

pub refined_odd : (f : Lattice) (s t : ℕ) → refined (opposite f) s t ≡ neg_ℤ (refined f s t)
unfolding refined finer2
refined_odd f s t =
    ap (λ v. near v 64) (ap (λ g. finer g t) (fun_ext λ r. each (λ q. f q r) s) ∙ each (λ r. finer (λ q. f q r) s) t)
    ∙ near_odd (finer2 f s t) 64 (omega arith)
  where
    each : (f : ℕ → ℤ) (s : ℕ) → finer (λ q. neg_ℤ (f q)) s ≡ neg_ℤ (finer f s)
    each f s = odd_of (λ g. finer g s) (λ c g. finer_multiple c g s) f

answer_with : {A : Type 0} (c : Check) (f : A → A) (v w : A) → (c ≡ none → w ≡ f v) → answer c w ≡ with_value f (answer c v)
unfolding answer with_value
answer_with none f v w h = ap accepted (h refl)
answer_with (some r) f v w h = refl

-- the first places of two slices with negated results
front : (n : ℕ) (r d e : List ℤ) {other : List ℤ} → length r ≡ n → other ≡ negated r → take n (over other e) ≡ negated (take n (over r d))
unfolding over
front n r d e {other} l o = take_at other _ n (ap length o ∙ length_negated r ∙ l) ∙ o ∙ ap negated (sym (take_at r _ n l))

mirrored_call : {A : Type 0} (c : Check) (v : A) (n : ℕ) (r d e : List ℤ) {other : List ℤ} → length r ≡ n → (c ≡ none → other ≡ negated r)
    → Mirrored n (call c v (over r d) d) (call c v (over other e) e)
unfolding call
mirrored_call none v n r d e l o = record { answers = refl; written = λ w is. front n r d e l (o refl) }
mirrored_call (some f) v n r d e l o = record { answers = refl; written = λ w is. cc }

-- the height that a stored lattice gives
stored_odd : (U m n : ℕ) → 0 < U → (l : List ℤ) (x y : ℕ) → height U m n (control m (negated l)) x y ≡ neg_ℤ (height U m n (control m l) x y)
stored_odd U m n h l x y = rw (negated_control m l) (height_odd U m n h (control m l) x y)

module _ (m n : ℕ) (l : List ℤ) where
  lattice_check_lem : lattice_check m n (negated l) ≡ lattice_check m n l
  unfolding lattice_check
  lattice_check_lem = negated_check (controls m n) l range

  module _ (U : ℕ) where
    module _ (x y : ℕ) where
      height_check_lem : height_check m n U (negated l) x y ≡ height_check m n U l x y
      unfolding height_check
      height_check_lem = rw (length_negated l, lattice_check_lem) refl

      unit_checked : height_check m n U l x y ≡ none → 0 < U
      unfolding height_check
      unit_checked e = unit_positive U (then_first _ _ (then_rest _ _ e))

      pub height_call : height_answer m n U (negated l) x y ≡ with_value neg_ℤ (height_answer m n U l x y)
      unfolding height_answer
      height_call =
          rw height_check_lem (answer_with (height_check m n U l x y) neg_ℤ _ _ (λ e. stored_odd U m n (unit_checked e) l x y))

      pub slope_call : slope_answer m n U (negated l) x y ≡ with_value opposite_slopes (slope_answer m n U l x y)
      unfolding slope_answer
      slope_call =
          rw (height_check_lem, negated_control m l)
          (answer_with (height_check m n U l x y) opposite_slopes _ _ (λ e i.
          record { along_x = slope_x_odd U m n (unit_checked e) (control m l) x y i; along_y = slope_y_odd U m n (unit_checked e) (control m l) x y i }))

    -- two rasters, both lent room or neither
    pub raster_call_lem : (g : Nodes) (output output' : List ℤ) → let count = g.across * g.down in leb count (length output') ≡ leb count (length output)
        → Mirrored count (raster_call m n U l g output) (raster_call m n U (negated l) g output')
    unfolding raster_call raster_check
    raster_call_lem g output output' room =
        rw (length_negated l, lattice_check_lem, room)
        (mirrored_call (raster_check m n U l g output) _ _ (tabulate (g.across * g.down) (node_height m n U l g)) output output' (length_tabulate _ _) (λ e.
        negated_tabulate (g.across * g.down) _ _ (λ q. stored_odd U m n (unit_positive U (then_first _ _ (then_rest _ _ e))) l (node_x g q) (node_y g q))))

  -- and two refinements
  pub refine_call_lem : (output output' : List ℤ) → let count = controls (2 * m) (2 * n) in leb count (length output') ≡ leb count (length output)
      → Mirrored count (refine_call m n l output) (refine_call m n (negated l) output')
  unfolding refine_call refine_check
  refine_call_lem output output' room =
      rw (length_negated l, lattice_check_lem, negated_control m l, room)
      (mirrored_call (refine_check m n l output) _ _ (store (2 * m) (2 * n) (refined (control m l))) output output' (length_store _ _ _)
      (λ e. negated_store (2 * m) (2 * n) _ _ (refined_odd (control m l))))

-- ---- the base

total_odd : (n : ℕ) (values : List ℤ) → total n (negated values) ≡ neg_ℤ (total n values)
unfolding total
total_odd zero values = refl
total_odd (suc n) values = ap₂ ◌+ℤ◌ (total_odd n values) (negated_at values n) ∙ sym (neg_ℤ-+ℤ (total n values) (get_or values n (pos 0)))

mean_odd : (v : ℤ) (n : ℕ) → near_mean (neg_ℤ v) n ≡ neg_ℤ (near_mean v n)
unfolding near_mean
mean_odd v zero = refl
mean_odd v (suc n) = near_odd v (suc n) (omega arith)

pub base_odd : (zs : List ℤ) → base (negated zs) ≡ neg_ℤ (base zs)
unfolding base
base_odd zs = rw (length_negated zs, total_odd (length zs) zs) (mean_odd (total (length zs) zs) (length zs))

shifted_odd : (b : ℤ) (values : List ℤ) → shifted (neg_ℤ b) (negated values) ≡ negated (shifted b values)
unfolding shifted
shifted_odd b values =
    rw (length_negated values)
    (negated_tabulate (length values) _ _ (λ i. ap (λ z. z +ℤ neg_ℤ b) (negated_at values i) ∙ sym (neg_ℤ-+ℤ (get_or values i (pos 0)) b)))

pub differences_odd : (zs : List ℤ) → differences (negated zs) ≡ negated (differences zs)
unfolding differences
differences_odd zs = rw (base_odd zs) (shifted_odd (neg_ℤ (base zs)) zs)

no_sums_lem : Opposed no_sums no_sums
unfolding no_sums of_bits of_fields odd
no_sums_lem = record { first = numbers false false 0 (pos 0) (λ l. absurd (omega arith)); second = refl }

grown_opposed : (q w S : Float) {y z : Float} {one other : Sums} → Opposite y z → Opposed one other → Opposed (grown q w y S one) (grown q w z S other)
unfolding grown
grown_opposed q w S o p = record {
  first = opposite_sum p.first (opposite_product (q ⊗ (w ⊗ w)) (opposite_quotient S (opposite_product w o)));
  second = ap (λ v. v ⊕ q ⊗ (w ⊗ w)) p.second;
}

-- a point with its value negated
abbrev turned : Point → Point
turned p = record { x = p.x; y = p.y; z = neg_ℤ p.z; q = p.q }

touched_opposed : (U m n s t : ℕ) (p : Point) {one other : Sums} → Opposed one other → Opposed (touched U m n s t p one) (touched U m n s t (turned p) other)
unfolding touched weight
touched_opposed U m n s t p {one} {other} o = by (uses (cell U m p.x) s && uses (cell U n p.y) t)
  where
    q : Float
    q = float (pos p.q)

    w : Float
    w = weight U m n p (s - cell U m p.x) (t - cell U n p.y)

    S : Float
    S = squares (weight U m n p)

    by : (b : Bool) → Opposed (cond b (grown q w (float p.z) S one) one) (cond b (grown q w (float (neg_ℤ p.z)) S other) other)
    by true = grown_opposed q w S (opposite_float p.z) o
    by false = o

gathered_opposed : (U m n s t : ℕ) (ps : List Point) {one other : Sums} → Opposed one other
    → Opposed (gathered U m n s t ps one) (gathered U m n s t (map turned ps) other)
unfolding gathered
gathered_opposed U m n s t [] o = o
gathered_opposed U m n s t (p ∷ ps) o = gathered_opposed U m n s t ps (touched_opposed U m n s t p o)

settled_opposed : {one other : Sums} → Opposed one other → settled (coefficient other) ≡ Option.map neg_ℤ (settled (coefficient one))
unfolding settled coefficient
settled_opposed {one} {other} o = rw o.second (by (lt zero64 one.second))
  where
    by : (b : Bool) → settled (cond b (fitted (other.first ⊘ one.second)) untouched)
        ≡ Option.map neg_ℤ (settled (cond b (fitted (one.first ⊘ one.second)) untouched))
    by true = opposite_settled (opposite_quotient one.second o.first)
    by false = refl

points_turned : (s : Survey) → points_of (upside_down s) ≡ map turned (points_of s)
unfolding points_of
points_turned s =
    mapped turned (point_count s) (point_at s) (point_at (upside_down s))
    (λ i t. record { x = get_or s.xs i 0; y = get_or s.ys i 0; z = negated_at s.zs i t; q = get_or s.qs i 0 })

module _ (a : Shape) (k : ℕ) where
  value_odd : (s : Survey) (i j : ℕ) → level_value a k (upside_down s) i j ≡ Option.map neg_ℤ (level_value a k s i j)
  unfolding level_value fitted_at
  value_odd s i j = rw (points_turned s) (settled_opposed (gathered_opposed (unit_of a k) (columns a k) (rows a k) i j (points_of s) no_sums_lem))

  level_of_odd : (s : Survey) → level_of a k (upside_down s) ≡ negated (level_of a k s)
  unfolding level_of or_zero
  level_of_odd s = negated_store (columns a k) (rows a k) _ _ (λ i j. ap or_zero (value_odd s i j) ∙ by (level_value a k s i j))
    where
      by : (o : Option ℤ) → or_zero (Option.map neg_ℤ o) ≡ neg_ℤ (or_zero o)
      by none = refl
      by (some z) = refl

  lowered_odd : (lattice : List ℤ) (s : Survey) → lowered a k (negated lattice) (upside_down s) ≡ negated (lowered a k lattice s)
  unfolding lowered level_height unit_of unit_at
  lowered_odd lattice s =
      negated_tabulate (point_count s) _ _ (λ i.
      let p = point_at s i in
      ap₂ ◌-ℤ◌ (negated_at s.zs i) (stored_odd (unit_of a k) (columns a k) (rows a k) (omega (arith, pow_pos (a.h - k))) lattice p.x p.y)
      ∙ sym (neg_ℤ-+ℤ p.z (neg_ℤ (level_height a k lattice p))))

  raised_odd : (lattice added : List ℤ) → raised a k (negated lattice) (negated added) ≡ negated (raised a k lattice added)
  unfolding raised
  raised_odd lattice added =
      let f = control (columns a k) lattice in
      let g = control (columns a (suc k)) added in
      rw (negated_control (columns a k) lattice, negated_control (columns a (suc k)) added)
      (negated_store (columns a (suc k)) (rows a (suc k)) _ _ (λ i j.
      ap (λ z. z +ℤ neg_ℤ (g i j)) (refined_odd f i j) ∙ sym (neg_ℤ-+ℤ (refined f i j) (g i j))))

-- ---- all levels

module _ (a : Shape) (s : Survey) where
  residuals_odd : (k : ℕ) → residuals a (upside_down s) k ≡ negated (residuals a s k)
  unfolding residuals
  residuals_odd zero = refl
  residuals_odd (suc k) =
      let before = valued s (residuals a s k) in
      ap (λ v. lowered a k (level_of a k (valued s v)) (valued s v)) (residuals_odd k)
      ∙ ap (λ v. lowered a k v (upside_down before)) (level_of_odd a k before)
      ∙ lowered_odd a k (level_of a k before) before

  -- the sums of a control value in level k, with the residuals that r has before it
  abbrev sums_by : Survey → ℕ → ℕ → ℕ → Sums
  sums_by r k i j = gathered (unit_of a k) (columns a k) (rows a k) i j (points_of (valued s (residuals a r k))) no_sums

  -- the first are opposite or zeros of either sign, the second equal
  pub sums_opposed : (k i j : ℕ) → Opposed (sums_by s k i j) (sums_by (upside_down s) k i j)
  sums_opposed k i j =
      rw (residuals_odd k, points_turned (valued s (residuals a s k)))
      (gathered_opposed (unit_of a k) (columns a k) (rows a k) i j (points_of (valued s (residuals a s k))) no_sums_lem)

  level_odd : (k : ℕ) → level a (upside_down s) k ≡ negated (level a s k)
  unfolding level
  level_odd k = ap (λ v. level_of a k (valued s v)) (residuals_odd k) ∙ level_of_odd a k (valued s (residuals a s k))

  running_odd : (k : ℕ) → running a (upside_down s) k ≡ negated (running a s k)
  unfolding running
  running_odd zero = level_odd zero
  running_odd (suc k) = ap₂ (raised a k) (running_odd k) (level_odd (suc k)) ∙ raised_odd a k (running a s k) (level a s (suc k))

  level_check_lem : (k : ℕ) → level_check a (upside_down s) k ≡ level_check a s k
  unfolding level_check quotient_check residual_check sum_check present
  level_check_lem k = λ t.
      first_of (controls (columns a k) (rows a k)) (λ q. require (alike (q % (columns a k + 3)) (q / (columns a k + 3)) t) (quotient k))
      then negated_same (point_count s) (residuals a s (suc k)) (λ i. residual k) (residuals_odd (suc k)) t
      then negated_same (controls (columns a k) (rows a k)) (running a s k) (λ q. sum k) (running_odd k) t
    where
      by : (o : Option ℤ) → present (Option.map neg_ℤ o) ≡ present o
      by none = refl
      by (some z) = refl

      alike : (i j : ℕ) → present (level_value a k (valued s (residuals a (upside_down s) k)) i j) ≡ present (level_value a k (valued s (residuals a s k)) i j)
      alike i j =
          let before = valued s (residuals a s k) in
          ap (λ v. present (level_value a k (valued s v) i j)) (residuals_odd k) ∙ ap present (value_odd a k before i j) ∙ by (level_value a k before i j)

-- ---- the whole fit

module _ (a : Shape) (s : Survey) where
  pub lattice_negated : single_lattice a (upside_down s) ≡ negated (single_lattice a s)
  unfolding single_lattice
  lattice_negated = rw (base_odd s.zs, differences_odd s.zs, running_odd a (from_base s) a.h) (shifted_odd (base s.zs) _)

  pub residuals_negated : last_residuals a (upside_down s) ≡ negated (last_residuals a s)
  unfolding last_residuals
  residuals_negated = rw (differences_odd s.zs) (residuals_odd a (from_base s) (a.h + 1))

  survey_check_lem : survey_check a (upside_down s) ≡ survey_check a s
  unfolding survey_check lists_check
  survey_check_lem = rw (length_negated s.zs) refl

  points_check_lem : (U m n : ℕ) → points_check U m n (upside_down s) ≡ points_check U m n s
  unfolding points_check point_check spot_check
  points_check_lem U m n = λ t.
      first_of (point_count s) (λ i.
      let p = point_at s i in
      (require (inside U m p.x && inside U n p.y) (position i) then require (range_at s.zs i t) (range i)) then require (confident p.q) (confidence i))

  difference_check_lem : difference_check (negated s.zs) ≡ difference_check s.zs
  unfolding difference_check
  difference_check_lem = rw (length_negated s.zs) (negated_same (length s.zs) (differences s.zs) difference (differences_odd s.zs))

  in_levels_check_lem : in_levels_check a (upside_down s) ≡ in_levels_check a s
  unfolding in_levels_check levels_check final_check
  in_levels_check_lem =
      rw (differences_odd s.zs) (λ t.
      first_of (a.h + 1) (λ k. level_check_lem a (from_base s) k t)
      then negated_same (controls (columns a a.h) (rows a a.h)) (single_lattice a s) (λ q. sum a.h) lattice_negated t)

  pub fit_check_lem : (lent lent' : Lent) → lent_check a (point_count s) lent' ≡ lent_check a (point_count s) lent → fit_check a (upside_down s) lent' ≡ fit_check a s lent
  unfolding fit_check
  fit_check_lem lent lent' room = λ t.
      survey_check_lem t then room t then points_check_lem 16 (columns a a.h) (rows a a.h) t then difference_check_lem t then in_levels_check_lem t

  length_last : length (last_residuals a s) ≡ point_count s
  unfolding last_residuals residuals lowered
  length_last = rw (add-one a.h) (length_tabulate (point_count s) _)

pub negation : (a : Shape) (s : Survey) (lent lent' : Lent) → lent_check a (point_count s) lent' ≡ lent_check a (point_count s) lent
    → Overturned a (point_count s) (fit_call a s lent) (fit_call a (upside_down s) lent')
unfolding fit_call fit_end results cleared K
negation a s lent lent' room = rw (fit_check_lem a s lent lent' room) (ends (fit_check a s lent))
  where
    ends : (c : Check) → Overturned a (point_count s) (fit_end a s lent c) (fit_end a (upside_down s) lent' c)
    ends none = record {
      answers = refl;
      lattice = λ k e. front (K a) (single_lattice a s) lent.lattice lent'.lattice (length_single a s) (lattice_negated a s);
      residual = λ k e. front (point_count s) (last_residuals a s) lent.residual lent'.residual (length_last a s) (residuals_negated a s);
    }
    ends (some r) = record { answers = refl; lattice = λ k e. cc; residual = λ k e. cc }
