use Rattle.std.proofs.Common.{◌≡◌, ℕ, ◌+◌, ◌*◌, ◌/◌, ◌%◌, ◌<◌, refl, ap, ◌∙◌, add-one, arith}
use Rattle.std.specs.Prelude.{Float}
use Rattle.rules.specs.Level as rule
use Rattle.rules.specs.Level.{◌⊕◌, ◌⊗◌}
use Rattle.weights.specs.Block.{weight_at}
use Rattle.weights.proofs.squares.Invariants.{partial}
use Rattle.weights.proofs.squares.Goals as goal

all : (w : ℕ → ℕ → Float) → partial w 16 ≡ rule.squares w
unfolding partial rule.squares rule.add_squares
all w = refl

more : (w : ℕ → ℕ → Float) (k l : ℕ) (s : Float) → l < 4 → s ≡ partial w (4 * k + l) → s ⊕ w k l ⊗ w k l ≡ partial w (4 * k + (l + 1))
unfolding partial
more w k l s h e =
    let next : 4 * k + (l + 1) ≡ 4 * k + l + 1 = omega arith in
    let row : (4 * k + l) / 4 ≡ k = omega arith in
    let column : (4 * k + l) % 4 ≡ l = omega arith in
    rw (e, next, add-one (4 * k + l), row, column)

pub loop-k-init : goal.loop-k-init
unfolding partial
loop-k-init c = refl

pub loop-l-preserved : goal.loop-l-preserved
loop-l-preserved c = more (weight_at c.args.w) c.loop-k.k c.loop-l.l _ (omega arith) c.loop-l.invariant

pub returns : goal.returns
returns c = let e : 4 * c.loop-k.k ≡ 16 = omega arith in c.loop-k.invariant ∙ ap (partial (weight_at c.args.w)) e ∙ all (weight_at c.args.w)
