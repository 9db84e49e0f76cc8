-- Laws of the ground above a stage: what a yes and a no tell, that a higher stage never turns a no into a yes, that it is no where no control value is above, and
-- that its checks are the raster's.
use Rattle.std.specs.Prelude.{◌≡◌, Bool, not, ◌&&◌, List, ℕ, ◌+◌, ◌*◌, ◌≤◌, ◌<◌, ℤ, length, ◌≤ℤ◌, ◌<ℤ◌}
use Rattle.std.proofs.Math.Path.{refl, ap}
use Rattle.std.proofs.Common.{sym, ◌∙◌, subst, arith, le-leb}
use Rattle.std.proofs.Math.Bool.{true, false}
use Rattle.std.proofs.Math.Option.{none}
use Rattle.std.proofs.Math.Dec.{T, leb, not_T}
use Rattle.std.specs.Float.Ieee.Bits.{is_true, is_false}
use Rattle.std.specs.Int.Signed.{lt_z, lt_z_yes, lt_z_no, clash_ℤ}
use Rattle.algebra.specs.Size.{≤ℤ_trans}
use Rattle.rules.specs.Grid.{controls, control}
use Rattle.rules.specs.Answers.{short, require, ◌then◌}
use Rattle.rules.specs.Calls.{cells_check, unit_check, stage_check, lattice_check, Nodes, node_x, node_y, size_check, nodes_check, raster_check}
use Rattle.rules.specs.Above.{any_of, above, any_above, above_check}
use Rattle.rules.proofs.Laws.AnyOf.{any_of_none, any_of_some}
use Rattle.rules.proofs.Laws.Basis.{cell_below}
use Rattle.rules.proofs.Laws.Checks.{then_first, then_rest, then_none}
use Rattle.rules.specs.Laws.Surface.{Inside}
use Rattle.rules.proofs.Laws.Surface.{height_most}

-- ---- some of many

pub any_of_each : (n i : ℕ) (t : ℕ → Bool) → any_of n t ≡ false → i < n → t i ≡ false
any_of_each n i t e l = go (t i) refl
  where
    go : (b : Bool) → t i ≡ b → b ≡ false
    go true is = sym (any_of_some n i t l is) ∙ e
    go false is = refl

-- ---- one height

module _ (stage z : ℤ) where
  pub above_yes : stage <ℤ z → above stage z ≡ true
  unfolding above
  above_yes h = is_true (lt_z stage z) h.lt

  pub above_no : z ≤ℤ stage → above stage z ≡ false
  unfolding above
  above_no h = is_false (lt_z stage z) (not_T (lt_z stage z) (λ t. clash_ℤ (lt_z_yes t) h))

  pub yes_above : above stage z ≡ true → stage <ℤ z
  unfolding above
  yes_above e = lt_z_yes (subst T (sym e) tt)

  pub no_above : above stage z ≡ false → z ≤ℤ stage
  unfolding above
  no_above e = lt_z_no (subst (λ b. T (not b)) (sym e) tt)

-- ---- nodes

module _ (m n U : ℕ) (l : List ℤ) (g : Nodes) where
  -- a higher stage never turns a no into a yes
  pub above_falls : (low high : ℤ) → low ≤ℤ high → any_above m n U l g low ≡ false → any_above m n U l g high ≡ false
  unfolding any_above
  above_falls low high h e =
      let count = g.across * g.down in
      any_of_none count _ (λ q k. above_no high _ (≤ℤ_trans (no_above low _ (any_of_each count q _ e k)) h))

  -- no node stands above a stage that no control value is above
  pub low_ground : (stage : ℤ) → ((s t : ℕ) → s < m + 3 → t < n + 3 → control m l s t ≤ℤ stage)
      → ((q : ℕ) → q < g.across * g.down → Inside U m n (node_x g q) (node_y g q)) → any_above m n U l g stage ≡ false
  unfolding any_above
  low_ground stage b i =
      any_of_none (g.across * g.down) _
      (λ q k.
      let x = node_x g q in
      let y = node_y g q in
      above_no stage _
      (height_most U m n x y (i q k) (control m l) stage
      (λ s t _ right _ top. b s t (omega (arith, cell_below U m x (i q k).across)) (omega (arith, cell_below U n y (i q k).up)))))

-- ---- its checks beside the raster's

module _ (m n U : ℕ) (l : List ℤ) (g : Nodes) (stage : ℤ) where
  pub stage_checked : above_check m n U l g stage ≡ none → stage_check stage ≡ none
  unfolding above_check
  stage_checked e =
      let sized = then_rest (unit_check U) _ (then_rest (cells_check 512 m n) _ e) in
      let long = then_rest (size_check g.step g.across g.down) _ sized in
      then_first (stage_check stage) _ (then_rest (require (leb (controls m n) (length l)) short) _ long)

  -- "the raster's other checks hold": those of a raster that is lent room for its nodes
  pub raster_check_lem : (d : List ℤ) → g.across * g.down ≤ length d → stage_check stage ≡ none → above_check m n U l g stage ≡ raster_check m n U l g d
  unfolding above_check raster_check
  raster_check_lem d room e =
      let long = leb (controls m n) (length l) in
      let both : leb (controls m n) (length l) && leb (g.across * g.down) (length d) ≡ long = ap (λ b. long && b) (le-leb (g.across * g.down) (length d) room) ∙ and_true long in
      ap (λ c. cells_check 512 m n then unit_check U then size_check g.step g.across g.down then c)
      (ap (λ c. require long short then c) (then_none (stage_check stage) _ e) ∙ ap (λ b. require b short then lattice_check m n l then nodes_check (U * m) (U * n) g) (sym both))
    where
      and_true : (b : Bool) → (b && true) ≡ b
      and_true true = refl
      and_true false = refl
