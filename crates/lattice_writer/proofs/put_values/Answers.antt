-- Each value's bytes follow those of the values before it.
use Rattle.std.proofs.Common.{◌≡◌, sym, ap, ◌∙◌, List, ℕ, ◌+◌, ◌*◌, ◌^◌, ◌<◌, ◌≤◌, ℤ, pos, length, get_or, arith}
use Rattle.std.specs.Int.Signed.{mag}
use Rattle.algebra.specs.Table.{joined, laid, laid_none, laid_joined}
use Rattle.machine.specs.Tests.{plain}
use Rattle.rules.specs.Bytes.{value_bytes}
use Rattle.rules.proofs.Laws.Bytes.{length_value_bytes}
use Rattle.lattice_writer.specs.Written.{bytes_of_values}
use Rattle.lattice_writer.proofs.put_values.Goals as goal

-- one value more; z is the machine's reading of it
more : (values : List ℤ) (s i : ℕ) (z : ℤ) (d e l : List ℕ) → s ≤ length d → e ≡ laid s (bytes_of_values values i) d → z ≡ get_or values i (pos 0)
    → l ≡ laid (s + 8 * i) (value_bytes z) e → l ≡ laid s (bytes_of_values values (i + 1)) d
more values s i z d e l h before is next =
    next
    ∙ ap (λ x. laid (s + 8 * i) (value_bytes x) e) is
    ∙ ap (λ x. laid (s + 8 * i) (value_bytes (get_or values i (pos 0))) x) before
    ∙ laid_joined s (s + 8 * i) i 8 (λ c. value_bytes (get_or values c (pos 0))) d (λ j. length_value_bytes (get_or values j (pos 0))) h (omega arith)

pub loop-c-init : goal.loop-c-init
unfolding joined
loop-c-init c = sym (laid_none _ _)

pub loop-c-preserved : goal.loop-c-preserved
loop-c-preserved c =
    let a = c.args in
    let fits : mag (get_or a.values.now c.loop-c.c (pos 0)) < 2 ^ 63 = omega arith in
    more a.values.now a.s c.loop-c.c _ a.output.now c.loop-c.output _ (omega arith) c.loop-c.invariant (plain (get_or a.values.now c.loop-c.c (pos 0)) fits) c.put_value.ensures
