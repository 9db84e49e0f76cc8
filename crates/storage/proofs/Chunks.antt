-- A list in chunks of 64: where one lies, and what is behind it.
use Rattle.std.proofs.Common.{◌≡◌, ℕ, ◌+◌, ◌-◌, ◌*◌, ◌≤◌, ◌<◌, min, List, ◌++◌, length, take, drop, refl, sym, ap, ◌∙◌, length-drop, drop-drop, drop_of_length-le, drop_at, arith}
use Rattle.std.proofs.Math.Decide.{dec_lt}
use Rattle.std.proofs.Math.Seq.{take-append_seam}
use Rattle.std.specs.Prelude.{ℤ}
use Rattle.algebra.specs.Table.{area}

-- `block` is chunk b, and `next` what is behind it
pub record Chunk (values : List ℤ) (b : ℕ) (block next : List ℤ) : Type 0 where
  pub at : block ++ next ≡ drop (64 * b) values
  pub many : length block ≡ min 64 (length (block ++ next))
  pub some : 0 < length (block ++ next)

-- as an iterator over chunks tells of a step
pub chunk : {values : List ℤ} {b size : ℕ} {rest block next : List ℤ} → size ≡ 64 → rest ≡ drop (64 * b) values
    → (rest ≡ block ++ next) × (length block ≡ min size (length rest)) × (0 < length rest) → Chunk values b block next
chunk {rest = rest} s e step = record { at = sym step.0 ∙ e; many = step.1 ∙ ap (λ k. min k (length rest)) s ∙ ap (λ l. min 64 (length l)) step.0; some = rw step.0 at step.2 }

module _ {values : List ℤ} {b : ℕ} {block next : List ℤ} (c : Chunk values b block next) where
  left : length (block ++ next) ≡ length values - 64 * b
  left = ap length c.at ∙ length-drop (64 * b) values

  pub chunk_some : 0 < length block
  chunk_some = omega (arith, c.many, c.some)

  pub chunk_ends : 64 * b + length block ≤ length values
  chunk_ends = omega (arith, left, c.many, c.some)

  pub this_place : min (64 * b) (length values) ≡ 64 * b
  this_place = omega (arith, left, c.some)

  pub next_place : min (64 * (b + 1)) (length values) ≡ 64 * b + length block
  next_place = omega (arith, left, c.many, c.some)

  pub chunk_is : block ≡ area (64 * b) (length block) values
  unfolding area
  chunk_is = sym (take-append_seam block next) ∙ ap (take (length block)) c.at

  pub next_is : next ≡ drop (64 * (b + 1)) values
  next_is = sym (drop_at block next (length block) refl) ∙ ap (drop (length block)) c.at ∙ drop-drop (length block) (64 * b) values ∙ go (dec_lt (length values) (64 * (b + 1)))
    where
      go : Dec (length values < 64 * (b + 1)) → drop (64 * b + length block) values ≡ drop (64 * (b + 1)) values
      go (yes l) = drop_of_length-le values (omega (arith, next_place)) ∙ sym (drop_of_length-le values (omega arith))
      go (no g) = let e : 64 * b + length block ≡ 64 * (b + 1) = omega (arith, next_place) in ap (λ k. drop k values) e

-- where nothing is left
pub all_passed : (values : List ℤ) (b : ℕ) {rest : List ℤ} → rest ≡ drop (64 * b) values → length rest ≡ 0 → min (64 * b) (length values) ≡ length values
all_passed values b {rest} e none = let left : length rest ≡ length values - 64 * b = ap length e ∙ length-drop (64 * b) values in omega arith
