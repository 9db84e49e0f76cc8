-- Where all differences are in range there is the base, and else they are gone through.
use Rattle.std.proofs.Common.{◌≡◌, ◌≤◌, Bool, true, List, length, sym, ap, ◌∙◌, arith, to_z, of_z}
use Rattle.std.proofs.Math.Option.{none}
use Rattle.std.proofs.Math.IntN.{+ℤ_idl}
use Rattle.std.proofs.lemmas.Result.{err_from_is_err_and}
use Rattle.std.specs.Prelude.{ℤ, pos, neg_ℤ, ◌-ℤ◌}
use Rattle.std.specs.Int.{w64}
use Rattle.machine.specs.Held.{Number, number, Held, literal, read, minus, fits, small}
use Rattle.rules.specs.Grid.{limit}
use Rattle.rules.specs.Answers.{Refusal, difference, range_check}
use Rattle.rules.specs.Fit.{total, near_mean, base, shifted, differences, difference_check}
use Rattle.rules.proofs.Laws.Base.{total_size, base_size}
use Rattle.rules.specs.Laws.Checks.{AllInRange}
use Rattle.rules.proofs.Laws.Checks.{range_check_size, size_range_check, none_answer, some_answer}
use Rattle.answers.specs.Cause.{ok_check}
use Rattle.base.proofs.settle.Goals as goal

-- ---- what the answer is, by what was found

-- all are in range with x added, which is 0 less the base
none_far : (zs : List ℤ) (x : ℤ) → x ≡ pos 0 -ℤ base zs → range_check (length zs) (shifted x zs) difference ≡ none → difference_check zs ≡ none
unfolding difference_check differences
none_far zs x is e = rw (← +ℤ_idl (neg_ℤ (base zs)), ← is) e

-- whatever refuses them
any_refusal : (zs : List ℤ) (x : ℤ) {ok : Bool} → ((r : Refusal) → range_check (length zs) (shifted x zs) (λ i. r) ≡ ok_check ok r) → ok ≡ true
    → range_check (length zs) (shifted x zs) difference ≡ none
any_refusal zs x e t =
    size_range_check (length zs) (shifted x zs) difference (range_check_size (length zs) (shifted x zs) (λ i. difference 0) (e (difference 0) ∙ ap (λ ok. ok_check ok (difference 0)) t))

-- ---- the numbers, of heights in range

module _ (zs : List ℤ) (sum : ℤ) (few : length zs ≤ 65_535) (ranged : AllInRange (length zs) zs) (is : sum ≡ total (length zs) zs) where
  sum_held : Held (to_z w64 (of_z w64 sum)) (total (length zs) zs) 262_140_000_000_000
  sum_held = read tt (record { is = is; size = omega (arith, total_size (length zs) zs ranged, few) })

  base_is : {b : ℤ} → b ≡ near_mean (to_z w64 (of_z w64 sum)) (length zs) → b ≡ base zs
  unfolding base
  base_is e = e ∙ ap (λ v. near_mean v (length zs)) sum_held.is

abbrev base_held : (zs : List ℤ) (b : ℤ) → AllInRange (length zs) zs → b ≡ base zs → Held (to_z w64 (of_z w64 b)) (base zs) limit
base_held zs b ranged is = read tt (record { is = is; size = base_size zs ranged })

-- 0 less the base
abbrev lowering : (zs : List ℤ) (b : ℤ) → AllInRange (length zs) zs → b ≡ base zs → Number
lowering zs b ranged is = number (minus (literal (pos 0)) (base_held zs b ranged is))

-- ---- what it answers

pub returns-else-not-all_shifted : goal.returns-else-not-all_shifted
returns-else-not-all_shifted c =
    let zs = c.args.zs.now in
    let q = c.requires in
    let is = base_is zs c.args.sum q.0 q.1 q.2 c.near_mean-base.ensures in
    none_answer (base zs) (none_far zs _ (read tt (lowering zs _ q.1 is).held).is (any_refusal zs _ c.all_shifted.ensures c.if-not-all_shifted.false)) (base_held zs _ q.1 is).is

pub returns-in_ok-first_far : goal.returns-in_ok-first_far
returns-in_ok-first_far c =
    let zs = c.args.zs.now in
    let q = c.requires in
    none_answer (base zs) (sym c.in_ok-first_far.ensures) (base_held zs _ q.1 (base_is zs c.args.sum q.0 q.1 q.2 c.near_mean-base.ensures)).is

pub returns-in_err-first_far : goal.returns-in_err-first_far
returns-in_err-first_far c =
    let p = err_from_is_err_and c.from_residual.result c.from_residual.ensures.1 in
    rw (p.1, p.2) (some_answer (base c.args.zs.now) (sym c.in_err-first_far.ensures))

-- ---- what its calls ask

pub near_mean-base-requires : goal.near_mean-base-requires
near_mean-base-requires c =
    let q = c.requires in
    (small 262_140_000_000_000 tt (sum_held c.args.zs.now c.args.sum q.0 q.1 q.2), q.0)

pub overflow_sub-base : goal.overflow_sub-base
overflow_sub-base c =
    let zs = c.args.zs.now in
    let q = c.requires in
    fits tt (lowering zs _ q.1 (base_is zs c.args.sum q.0 q.1 q.2 c.near_mean-base.ensures)).held

pub all_shifted-requires : goal.all_shifted-requires
all_shifted-requires c =
    let zs = c.args.zs.now in
    let q = c.requires in
    (q.1, small limit tt (read tt (lowering zs _ q.1 (base_is zs c.args.sum q.0 q.1 q.2 c.near_mean-base.ensures)).held))

pub first_far-requires : goal.first_far-requires
first_far-requires c =
    let zs = c.args.zs.now in
    let q = c.requires in
    (q.1, (base_held zs _ q.1 (base_is zs c.args.sum q.0 q.1 q.2 c.near_mean-base.ensures)).is)
