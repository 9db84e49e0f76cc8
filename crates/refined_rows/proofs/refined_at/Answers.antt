-- The sums that it reads are those of the mask, and their weighed sum is small enough to round.
use Rattle.std.proofs.Common.{◌≡◌, ℕ, List, get_or, ℤ, pos, ap, ◌∙◌, arith, w64, to_z, of_z}
use Rattle.machine.specs.Tests.{plain}
use Rattle.rules.specs.Rounding.{near}
use Rattle.rules.specs.Refinement as rule
use Rattle.rules.proofs.Laws.TwoScale.{masked_size}
use Rattle.refined_rows.proofs.Weighed.{learnt, weighed}
use Rattle.refined_rows.proofs.refined_at.Goals as goal
use Rattle.refined_rows.proofs.refined_at.Goals.{After-masked}

-- the sums that it weighs
abbrev at : List ℤ → ℕ → ℤ
at sums i = get_or sums i (pos 0)

-- what `masked` gave
sum : (c : After-masked) → to_z w64 (of_z w64 c.masked.result) ≡ rule.masked c.args.odd (at c.args.sums.now) c.args.c
sum c =
    let a = c.args in
    plain c.masked.result c.masked.type_inv ∙ c.masked.ensures ∙ learnt (weighed a.odd a.c (at a.sums.now) c.requires.0 c.requires.2)

pub near_shift-requires : goal.near_shift-requires
near_shift-requires c =
    let a = c.args in
    (rw (sum c) (omega (arith, masked_size a.odd (at a.sums.now) a.c 32_000_000_000 c.requires.2)), omega arith, omega arith)

pub returns : goal.returns
returns c =
    plain c.near_shift.result c.near_shift.type_inv ∙ c.near_shift.ensures ∙ ap (λ v. near v 64) (sum ((goal.at.returns c).After-masked))
