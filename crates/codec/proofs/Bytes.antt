-- The library's bytes of a number, and its reading of them, are those of the files; and what is put in a part of an output is laid there.
use Rattle.std.proofs.Common.{◌≡◌, ℕ, zero, suc, ◌+◌, ◌-◌, ◌*◌, ◌/◌, ◌%◌, ◌^◌, ◌≤◌, ◌<◌, List, ◌∷◌, ◌++◌, length, take, drop, get_or, ℤ, pos, negsuc, refl, sym, ap, ◌∙◌, arith, w64, to_z, of_z, lt-ltb, le-ltb, Bool, true, false, cond, ltb, div-one, pow-suc, ap₂, ltb-true, ltb-false}
use Rattle.std.proofs.Math.Nat.{div-div-eq-div-mul}
use Rattle.std.specs.Int.{bytes_low_first, byte_at, from_le_bytes}
use borrow.Rule.Slice.PartMut.{put_mid, Post-is}
use Rattle.algebra.specs.Table.{laid}
use Rattle.rules.specs.Bytes.{bytes_of, complement, uncomplement, number_at}
use Rattle.rules.specs.Laws.Bytes.{entries}
use Rattle.rules.proofs.Laws.Bytes.{number_at_entries}

-- k bytes of n from byte i on, the lowest first
pub low_first : (k i n : ℕ) → bytes_low_first i k n ≡ bytes_of k (n / 256 ^ i)
unfolding bytes_of
low_first zero i n = refl
low_first (suc k) i n = ap₂ (λ b bs. b ∷ bs) (here i) (low_first k (suc i) n ∙ ap (bytes_of k) above)
  where
    here : (i : ℕ) → byte_at i n ≡ n / 256 ^ i % 256
    here zero = ap (λ v. v % 256) (sym (div-one n))
    here (suc i) = refl

    above : n / 256 ^ suc i ≡ n / 256 ^ i / 256
    above = ap (λ d. n / d) (pow-suc 256 i) ∙ sym (div-div-eq-div-mul n (256 ^ i) 256)

-- all w bytes of n
pub all_low_first : (w n : ℕ) → bytes_low_first 0 w n ≡ bytes_of w n
all_low_first w n = low_first w 0 n ∙ ap (bytes_of w) (div-one n)

-- two's complement, written and read
pub bits_of : (z : ℤ) → of_z w64 z ≡ complement 8 z
unfolding complement
bits_of (pos n) = refl
bits_of (negsuc n) = refl

pub read_bits : (v : ℕ) → to_z w64 v ≡ uncomplement 8 v
unfolding uncomplement
read_bits v = go (ltb v (2 ^ 63)) refl
  where
    go : (b : Bool) → ltb v (2 ^ 63) ≡ b → to_z w64 v ≡ cond (ltb (2 * v) (256 ^ 8)) (pos v) (negsuc (256 ^ 8 - suc v))
    go true e = let l = ltb-true v (2 ^ 63) e in simp (e, lt-ltb (2 * v) (256 ^ 8) (omega arith))
    go false e = let l = ltb-false v (2 ^ 63) e in simp (e, le-ltb (2 * v) (256 ^ 8) (omega arith))

-- eight bytes that are those from byte `at` on
pub eight : (file bytes : List ℕ) (at : ℕ) → ((i : ℕ) → i < 8 → get_or bytes i 0 ≡ get_or file (at + i) 0) → from_le_bytes w64 bytes ≡ number_at 8 file at
unfolding entries
eight file bytes at e =
    omega
    (arith, e 0 (omega arith), e 1 (omega arith), e 2 (omega arith), e 3 (omega arith), e 4 (omega arith), e 5 (omega arith), e 6 (omega arith), e 7 (omega arith), number_at_entries 8 file at)

pub written : (at k : ℕ) (bytes d : List ℕ) → length bytes ≡ k → at + k ≤ length d → put_mid at (at + k - at) d bytes ≡ laid at bytes d
unfolding laid
written at k bytes d long room =
    ap (λ u. take at d ++ (bytes ++ u)) (Post-is at (at + k) d (omega arith))
    ∙ ap (λ k. take at d ++ (bytes ++ drop (at + k) d)) (sym long)
