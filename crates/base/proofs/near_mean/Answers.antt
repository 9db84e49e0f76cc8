use Rattle.std.proofs.Common.{◌≡◌, refl, ap, ◌∙◌, ℕ, zero, suc, ◌≤◌, arith}
use Rattle.std.specs.Prelude.{ℤ}
use Rattle.machine.specs.Held.{itself, read, returned}
use Rattle.rules.specs.Rounding.{near}
use Rattle.rules.specs.Fit.{near_mean}
use Rattle.base.proofs.near_mean.Goals as goal

of_some : (v : ℤ) (n : ℕ) → 1 ≤ n → near v n ≡ near_mean v n
unfolding near_mean
of_some v zero h = absurd (omega arith)
of_some v (suc n) h = refl

pub returns-then-p-eq0 : goal.returns-then-p-eq0
unfolding near_mean
returns-then-p-eq0 c = rw c.if-p-eq0.true refl

pub returns : goal.returns
returns c =
    let a = c.args in
    returned c.near_any.type_inv c.near_any.ensures
    ∙ ap (λ v. near v a.p) (read tt (itself a.sum 262_140_000_000_000 c.requires.0)).is
    ∙ of_some a.sum a.p (omega arith)
