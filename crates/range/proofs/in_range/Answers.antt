-- The value fits an i64, so the two tests tell of its size.
use Rattle.std.proofs.Common.{◌≡◌, true, false, ℤ, pos, negsuc, sym, refl, ap, ◌∙◌, arith, suc, T, subst, leb-true, leb-false, le-leb}
use Rattle.std.proofs.lemmas.Bool.{lt-leb}
use Rattle.std.specs.Prelude.{int_le}
use Rattle.machine.specs.Tests.{plain}
use Rattle.rules.specs.Grid.{limit, in_range}
use Rattle.range.proofs.in_range.Goals as goal

-- not below the least, the test against the greatest decides
upper : (z : ℤ) → int_le (negsuc 3_999_999_999) z ≡ true → int_le z (pos limit) ≡ in_range z
unfolding in_range
upper (pos a) t = refl
upper (negsuc a) t = sym (le-leb (suc a) limit (omega (arith, leb-true a 3_999_999_999 t)))

-- below the least, it is out of range
lower : (z : ℤ) → int_le (negsuc 3_999_999_999) z ≡ false → int_le (negsuc 3_999_999_999) z ≡ in_range z
unfolding in_range
lower (pos a) f = absurd (subst T f tt)
lower (negsuc a) f = f ∙ sym (lt-leb (suc a) limit (omega (arith, leb-false a 3_999_999_999 f)))

pub returns-then-z-geminus4000000000 : goal.returns-then-z-geminus4000000000
returns-then-z-geminus4000000000 c =
    let p = plain c.args.z c.ranges.z.sfits in
    ap (λ z. int_le z (pos limit)) p ∙ upper c.args.z (ap (int_le (negsuc 3_999_999_999)) (sym p) ∙ c.if-z-geminus4000000000.true)

pub returns-else-z-geminus4000000000 : goal.returns-else-z-geminus4000000000
returns-else-z-geminus4000000000 c =
    let p = plain c.args.z c.ranges.z.sfits in
    ap (int_le (negsuc 3_999_999_999)) p ∙ lower c.args.z (ap (int_le (negsuc 3_999_999_999)) (sym p) ∙ c.if-z-geminus4000000000.false)
