-- The ring laws of ℤ that the library leaves out: the product is associative, distributes over the sum, and passes a negation out.
-- Each goes by one induction on the first factor, by successor and predecessor.
use Rattle.std.specs.Prelude.{◌≡◌, zero, suc, ℤ, pos, negsuc, neg_ℤ, ◌+ℤ◌, ◌-ℤ◌, ◌*ℤ◌}
use Rattle.std.proofs.Common.{sym, ◌∙◌, ap, ap₂}
use Rattle.std.proofs.Math.IntN.{suc_ℤ, pred_ℤ, suc_ℤ-+ℤ, pred_ℤ-+ℤ, suc_ℤ-*ℤ, pred_ℤ-*ℤ, +ℤ_idl, +ℤ_assoc, +ℤ_comm, zero-*ℤ, *ℤ_comm, *ℤ-one, one, neg_ℤ-suc_ℤ, neg_ℤ-pred_ℤ, neg_ℤ-neg_ℤ, neg_ℤ-+ℤ, -ℤ-+ℤ_cancel}

-- from 0 up and down, a step at a time
by_steps : (P : ℤ → Type 0) → P (pos 0) → ((k : ℤ) → P k → P (suc_ℤ k)) → ((k : ℤ) → P k → P (pred_ℤ k)) → (k : ℤ) → P k
by_steps P z s p (pos zero) = z
by_steps P z s p (pos (suc n)) = s (pos n) (by_steps P z s p (pos n))
by_steps P z s p (negsuc zero) = p (pos 0) z
by_steps P z s p (negsuc (suc n)) = p (negsuc n) (by_steps P z s p (negsuc n))

-- ---- sums
+ℤ_swap : (a b c : ℤ) → a +ℤ b +ℤ c ≡ a +ℤ c +ℤ b
+ℤ_swap a b c = +ℤ_assoc a b c ∙ ap (λ x. a +ℤ x) (+ℤ_comm b c) ∙ sym (+ℤ_assoc a c b)

pub +ℤ_interchange : (a b c d : ℤ) → (a +ℤ b) +ℤ (c +ℤ d) ≡ (a +ℤ c) +ℤ (b +ℤ d)
+ℤ_interchange a b c d = sym (+ℤ_assoc (a +ℤ b) c d) ∙ ap (λ x. x +ℤ d) (+ℤ_swap a b c) ∙ +ℤ_assoc (a +ℤ c) b d

pub eq_of_difference : (a b : ℤ) → a -ℤ b ≡ pos 0 → a ≡ b
eq_of_difference a b h = sym (-ℤ-+ℤ_cancel a b) ∙ ap (λ x. x +ℤ b) h ∙ +ℤ_idl b

-- ---- products
pub *ℤ_idr : (a : ℤ) → a *ℤ pos 1 ≡ a
unfolding one
*ℤ_idr a = *ℤ-one a

pub *ℤ_idl : (a : ℤ) → pos 1 *ℤ a ≡ a
*ℤ_idl a = *ℤ_comm (pos 1) a ∙ *ℤ_idr a

pub *ℤ_distribr : (a b c : ℤ) → (a +ℤ b) *ℤ c ≡ a *ℤ c +ℤ b *ℤ c
*ℤ_distribr a b c = by_steps (λ k. (k +ℤ b) *ℤ c ≡ k *ℤ c +ℤ b *ℤ c)
    (ap (λ x. x *ℤ c) (+ℤ_idl b) ∙ sym (ap (λ x. x +ℤ b *ℤ c) (zero-*ℤ c) ∙ +ℤ_idl (b *ℤ c)))
    (λ k h. ap (λ x. x *ℤ c) (suc_ℤ-+ℤ k b) ∙ suc_ℤ-*ℤ (k +ℤ b) c ∙ ap (λ x. x +ℤ c) h ∙ +ℤ_swap (k *ℤ c) (b *ℤ c) c ∙ sym (ap (λ x. x +ℤ b *ℤ c) (suc_ℤ-*ℤ k c)))
    (λ k h. ap (λ x. x *ℤ c) (pred_ℤ-+ℤ k b) ∙ pred_ℤ-*ℤ (k +ℤ b) c ∙ ap (λ x. x -ℤ c) h ∙ +ℤ_swap (k *ℤ c) (b *ℤ c) (neg_ℤ c) ∙ sym (ap (λ x. x +ℤ b *ℤ c) (pred_ℤ-*ℤ k c)))
    a

pub *ℤ_distribl : (a b c : ℤ) → a *ℤ (b +ℤ c) ≡ a *ℤ b +ℤ a *ℤ c
*ℤ_distribl a b c = *ℤ_comm a (b +ℤ c) ∙ *ℤ_distribr b c a ∙ ap₂ (λ x y. x +ℤ y) (*ℤ_comm b a) (*ℤ_comm c a)

pub negℤ-*ℤ : (a b : ℤ) → neg_ℤ a *ℤ b ≡ neg_ℤ (a *ℤ b)
negℤ-*ℤ a b = by_steps (λ k. neg_ℤ k *ℤ b ≡ neg_ℤ (k *ℤ b))
    (zero-*ℤ b ∙ sym (ap neg_ℤ (zero-*ℤ b)))
    (λ k h. ap (λ x. x *ℤ b) (neg_ℤ-suc_ℤ k) ∙ pred_ℤ-*ℤ (neg_ℤ k) b ∙ ap (λ x. x -ℤ b) h ∙ sym (ap neg_ℤ (suc_ℤ-*ℤ k b) ∙ neg_ℤ-+ℤ (k *ℤ b) b))
    (λ k h. ap (λ x. x *ℤ b) (neg_ℤ-pred_ℤ k) ∙ suc_ℤ-*ℤ (neg_ℤ k) b ∙ ap₂ (λ x y. x +ℤ y) h (sym (neg_ℤ-neg_ℤ b)) ∙ sym (ap neg_ℤ (pred_ℤ-*ℤ k b) ∙ neg_ℤ-+ℤ (k *ℤ b) (neg_ℤ b)))
    a

pub *ℤ_assoc : (a b c : ℤ) → (a *ℤ b) *ℤ c ≡ a *ℤ (b *ℤ c)
*ℤ_assoc a b c = by_steps (λ k. (k *ℤ b) *ℤ c ≡ k *ℤ (b *ℤ c))
    (ap (λ x. x *ℤ c) (zero-*ℤ b) ∙ zero-*ℤ c ∙ sym (zero-*ℤ (b *ℤ c)))
    (λ k h. ap (λ x. x *ℤ c) (suc_ℤ-*ℤ k b) ∙ *ℤ_distribr (k *ℤ b) b c ∙ ap (λ x. x +ℤ b *ℤ c) h ∙ sym (suc_ℤ-*ℤ k (b *ℤ c)))
    (λ k h. ap (λ x. x *ℤ c) (pred_ℤ-*ℤ k b) ∙ *ℤ_distribr (k *ℤ b) (neg_ℤ b) c ∙ ap₂ (λ x y. x +ℤ y) h (negℤ-*ℤ b c) ∙ sym (pred_ℤ-*ℤ k (b *ℤ c)))
    a

-- a factor moves past the one in front of it
pub *ℤ_left_comm : (a b c : ℤ) → a *ℤ (b *ℤ c) ≡ b *ℤ (a *ℤ c)
*ℤ_left_comm a b c = sym (*ℤ_assoc a b c) ∙ ap (λ x. x *ℤ c) (*ℤ_comm a b) ∙ *ℤ_assoc b a c
