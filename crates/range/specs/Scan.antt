-- What a scan of many values tells at once: bits of which the top one is 0 exactly if a value is in range.
use Rattle.std.specs.Prelude.{◌≡◌, ℕ, ◌+◌, ◌%◌, ◌^◌, ◌<◌, ◌≤◌, Bool, true, false, ◌&&◌, List, get_or, ℤ, pos, negsuc, bit_or, nat_le, nat_lt, slice_index_or, unsigned_abs, refl}
use Rattle.std.proofs.Common.{sym, ap, ◌∙◌, add-one, arith, leb-true, leb-false, lt-ltb, le-ltb, to_z, of_z}
use Rattle.std.proofs.Math.Option.{none, some}
use Rattle.std.proofs.lemmas.Nat.{or_lt}
use Rattle.std.specs.Int.Signed.{mag}
use Rattle.std.specs.Int.{w64}
use Rattle.machine.specs.Bits.{or_least, or_below}
use Rattle.machine.specs.Tests.{plain}
use Rattle.rules.specs.Bytes.{complement}
use Rattle.rules.specs.Grid.{limit, in_range}
use Rattle.rules.specs.Answers.{Refusal, require, ◌then◌, first_of, range_check, short}
use Rattle.rules.specs.Laws.Checks.{NoneOut, SomeOut}
use Rattle.rules.proofs.Laws.Checks.{range_check_size, size_range_check}
use Rattle.answers.specs.Cause.{ok_check}

-- what a test of a stored value tells: it was handed the bits of z, read back
pub tested : (z : ℤ) (b : Bool) → mag z < 2 ^ 63 → b ≡ in_range (to_z w64 (of_z w64 z)) → b ≡ in_range z
tested z b fits e = e ∙ ap in_range (plain z fits)

-- the 64 bits of how far z is above the least value in range and how far below the greatest
pub record Apart (z : ℤ) (above below : ℕ) : Type 0 where
  pub from_least : above ≡ (complement 8 z + limit) % 2 ^ 64
  pub to_greatest : (below + complement 8 z) % 2 ^ 64 ≡ limit
  pub fits : below < 2 ^ 64

inside : (z : ℤ) (above below : ℕ) → Apart z above below → unsigned_abs z ≤ limit → (above < 2 ^ 63) × (below < 2 ^ 63)
unfolding complement
inside (pos v) above below p h = (omega arith, omega arith)
inside (negsuc v) above below p h = (omega arith, omega arith)

outside : (z : ℤ) (above below : ℕ) → Apart z above below → mag z < 2 ^ 63 → limit < unsigned_abs z → 2 ^ 63 ≤ bit_or above below
unfolding complement
outside (pos v) above below p h l = omega (arith, (or_least above below).1)
outside (negsuc v) above below p h l = omega (arith, (or_least above below).0)

pub range_bits : (z : ℤ) (above below : ℕ) → Apart z above below → mag z < 2 ^ 63 → nat_lt (bit_or above below) (2 ^ 63) ≡ in_range z
unfolding in_range
range_bits z above below p h = go (nat_le (unsigned_abs z) limit) refl
  where
    go : (b : Bool) → nat_le (unsigned_abs z) limit ≡ b → nat_lt (bit_or above below) (2 ^ 63) ≡ b
    go true t = let i = inside z above below p (leb-true (unsigned_abs z) limit t) in lt-ltb _ _ (or_lt 63 above below i.0 i.1)
    go false t = le-ltb _ _ (outside z above below p h (leb-false (unsigned_abs z) limit t))

-- two tests in a row that r refuses are one
ok_then : (a b : Bool) (r : Refusal) → (ok_check a r then require b r) ≡ ok_check (a && b) r
unfolding ◌then◌ require
ok_then true true r = refl
ok_then true false r = refl
ok_then false b r = refl

-- where one refusal for all of n values refuses none, none is out of range
pub all_none_out : (n : ℕ) (values : List ℤ) (ok : Bool) → ((r : Refusal) → range_check n values (λ i. r) ≡ ok_check ok r) → ok ≡ true → NoneOut n values
all_none_out n values ok e t f = size_range_check n values f (range_check_size n values (λ i. short) (e short ∙ ap (λ b. ok_check b short) t))

-- and where it refuses, one is
pub all_some_out : (n : ℕ) (values : List ℤ) (ok : Bool) → ((r : Refusal) → range_check n values (λ i. r) ≡ ok_check ok r) → ok ≡ false → SomeOut n values
all_some_out n values ok e t p = apart (sym (p (λ i. short)) ∙ e short ∙ ap (λ b. ok_check b short) t)
  where
    apart : none ≡ some short → ⊥
    apart e = let z : ◌≡◌ {A = ℕ} 0 1 = cc in omega arith

-- the top bit of all that was joined is still 0 exactly if none of the first i values is refused
abbrev pub Scanned : ℕ → ℕ → List ℤ → Type 0
Scanned i bits values = (r : Refusal) → range_check i values (λ i. r) ≡ ok_check (nat_lt bits (2 ^ 63)) r

-- a turn of the scan
pub scan_more : (i bits more : ℕ) (values : List ℤ) → Scanned i bits values → nat_lt more (2 ^ 63) ≡ in_range (slice_index_or values i (pos 0)) → Scanned (i + 1) (bit_or bits more) values
unfolding range_check first_of
scan_more i bits more values p t r =
    let z = get_or values i (pos 0) in
    ap (λ k. range_check k values (λ i. r)) (add-one i)
    ∙ ap (λ c. c then require (in_range z) r) (p r)
    ∙ ok_then (nat_lt bits (2 ^ 63)) (in_range z) r
    ∙ ap (λ b. ok_check b r) (ap (λ b. nat_lt bits (2 ^ 63) && b) (sym t) ∙ sym (or_below 63 bits more))
