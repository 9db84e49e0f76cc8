-- Polynomial identities over ℤ, decided by computation: two expressions in any number of variables are equal at every
-- environment when the Horner form of their difference is zero (`solve`). The last lines show how to call it.
use Rattle.std.specs.Prelude.{◌≡◌, refl, List, [], ◌∷◌, Bool, true, false, ℕ, zero, suc, T, ℤ, pos, negsuc, neg_ℤ, ◌+ℤ◌, ◌-ℤ◌, ◌*ℤ◌, get_or}
use Rattle.std.proofs.Common.{sym, ◌∙◌, ap, ap₂}
use Rattle.std.proofs.Math.IntN.{+ℤ_idl, +ℤ_idr, +ℤ_assoc, +ℤ_comm, *ℤ-zero, *ℤ_comm}
use Rattle.algebra.specs.Ring.{+ℤ_interchange, eq_of_difference, *ℤ_idl, *ℤ_idr, *ℤ_distribl, *ℤ_distribr, negℤ-*ℤ, *ℤ_assoc, *ℤ_left_comm}

-- ---- expressions
infixl 70 ◌⊞◌ ◌⊟◌
infixl 75 ◌⊠◌
pub data Expr : Type 0 where
  var : ℕ → Expr
  con : ℤ → Expr
  ◌⊞◌ ◌⊠◌ : Expr → Expr → Expr
  neg : Expr → Expr

abbrev pub ◌⊟◌ : Expr → Expr → Expr
a ⊟ b = a ⊞ neg b

-- an environment lists the values of `var 0`, `var 1`, ..
abbrev pub den : Expr → List ℤ → ℤ
den (var i) ρ = get_or ρ i (pos 0)
den (con c) ρ = c
den (a ⊞ b) ρ = den a ρ +ℤ den b ρ
den (a ⊠ b) ρ = den a ρ *ℤ den b ρ
den (neg a) ρ = neg_ℤ (den a ρ)

-- ---- Horner forms: `hor a b` is a + x·b, with x the first variable and a in the others
pub data Horner : Type 0 where
  coef : ℤ → Horner
  hor : Horner → Horner → Horner

abbrev first : List ℤ → ℤ
first ρ = get_or ρ 0 (pos 0)

abbrev rest : List ℤ → List ℤ
rest [] = []
rest (x ∷ ρ) = ρ

abbrev val : Horner → List ℤ → ℤ
val (coef c) ρ = c
val (hor a b) ρ = val a (rest ρ) +ℤ first ρ *ℤ val b ρ

-- `hor`, but a number stays a number: so a form is zero only where it is `coef (pos 0)`, and none grows by empty terms
abbrev join : Horner → Horner → Horner
join (hor a b) q = hor (hor a b) q
join (coef c) (hor a b) = hor (coef c) (hor a b)
join (coef c) (coef (pos zero)) = coef c
join (coef c) (coef (pos (suc n))) = hor (coef c) (coef (pos (suc n)))
join (coef c) (coef (negsuc n)) = hor (coef c) (coef (negsuc n))

abbrev variable : ℕ → Horner
variable zero = hor (coef (pos 0)) (coef (pos 1))
variable (suc i) = hor (variable i) (coef (pos 0))

abbrev shift : ℤ → Horner → Horner
shift c (coef d) = coef (c +ℤ d)
shift c (hor a b) = hor (shift c a) b

abbrev add : Horner → Horner → Horner
add (coef c) q = shift c q
add (hor a b) (coef d) = shift d (hor a b)
add (hor a b) (hor a' b') = join (add a a') (add b b')

abbrev scale : ℤ → Horner → Horner
scale c (coef d) = coef (c *ℤ d)
scale c (hor a b) = join (scale c a) (scale c b)

-- a form times one without the first variable, given as the function f that multiplies by it
abbrev times : (Horner → Horner) → Horner → Horner
times f (coef d) = join (f (coef d)) (coef (pos 0))
times f (hor a b) = join (f a) (times f b)

abbrev mul : Horner → Horner → Horner
mul (coef c) q = scale c q
mul (hor a b) (coef d) = scale d (hor a b)
mul (hor a b) (hor a' b') = add (times (λ q. mul a q) (hor a' b')) (join (coef (pos 0)) (mul b (hor a' b')))

abbrev pub norm : Expr → Horner
norm (var i) = variable i
norm (con c) = coef c
norm (a ⊞ b) = add (norm a) (norm b)
norm (a ⊠ b) = mul (norm a) (norm b)
norm (neg a) = scale (negsuc 0) (norm a)

abbrev pub is_zero : Horner → Bool
is_zero (coef (pos zero)) = true
is_zero (coef (pos (suc n))) = false
is_zero (coef (negsuc n)) = false
is_zero (hor a b) = false

-- ---- each operation on forms is the one on values
join_val : (a b : Horner) (ρ : List ℤ) → val (join a b) ρ ≡ val a (rest ρ) +ℤ first ρ *ℤ val b ρ
join_val (hor a b) q ρ = refl
join_val (coef c) (hor a b) ρ = refl
join_val (coef c) (coef (pos zero)) ρ = sym (ap (λ x. c +ℤ x) (*ℤ-zero (first ρ)) ∙ +ℤ_idr c)
join_val (coef c) (coef (pos (suc n))) ρ = refl
join_val (coef c) (coef (negsuc n)) ρ = refl

rest_at : (ρ : List ℤ) (i : ℕ) → get_or (rest ρ) i (pos 0) ≡ get_or ρ (suc i) (pos 0)
rest_at [] i = refl
rest_at (x ∷ ρ) i = refl

variable_val : (i : ℕ) (ρ : List ℤ) → val (variable i) ρ ≡ get_or ρ i (pos 0)
variable_val zero ρ = +ℤ_idl _ ∙ *ℤ_idr (first ρ)
variable_val (suc i) ρ =
    ap₂ (λ x y. x +ℤ y) (variable_val i (rest ρ)) (*ℤ-zero (first ρ)) ∙ +ℤ_idr _ ∙ rest_at ρ i

shift_val : (c : ℤ) (p : Horner) (ρ : List ℤ) → val (shift c p) ρ ≡ c +ℤ val p ρ
shift_val c (coef d) ρ = refl
shift_val c (hor a b) ρ = ap (λ x. x +ℤ first ρ *ℤ val b ρ) (shift_val c a (rest ρ)) ∙ +ℤ_assoc c _ _

add_val : (p q : Horner) (ρ : List ℤ) → val (add p q) ρ ≡ val p ρ +ℤ val q ρ
add_val (coef c) q ρ = shift_val c q ρ
add_val (hor a b) (coef d) ρ = shift_val d (hor a b) ρ ∙ +ℤ_comm d _
add_val (hor a b) (hor a' b') ρ =
    join_val (add a a') (add b b') ρ
    ∙ ap₂ (λ x y. x +ℤ first ρ *ℤ y) (add_val a a' (rest ρ)) (add_val b b' ρ)
    ∙ ap (λ x. val a (rest ρ) +ℤ val a' (rest ρ) +ℤ x) (*ℤ_distribl (first ρ) (val b ρ) (val b' ρ))
    ∙ +ℤ_interchange (val a (rest ρ)) (val a' (rest ρ)) (first ρ *ℤ val b ρ) (first ρ *ℤ val b' ρ)

-- a factor common to both parts of a form
out : (v x a b : ℤ) → v *ℤ a +ℤ x *ℤ (v *ℤ b) ≡ v *ℤ (a +ℤ x *ℤ b)
out v x a b = ap (λ y. v *ℤ a +ℤ y) (*ℤ_left_comm x v b) ∙ sym (*ℤ_distribl v a (x *ℤ b))

scale_val : (c : ℤ) (p : Horner) (ρ : List ℤ) → val (scale c p) ρ ≡ c *ℤ val p ρ
scale_val c (coef d) ρ = refl
scale_val c (hor a b) ρ =
    join_val (scale c a) (scale c b) ρ
    ∙ ap₂ (λ x y. x +ℤ first ρ *ℤ y) (scale_val c a (rest ρ)) (scale_val c b ρ)
    ∙ out c (first ρ) (val a (rest ρ)) (val b ρ)

times_val : (f : Horner → Horner) (v : ℤ) (q : Horner) (ρ : List ℤ)
    → ((r : Horner) → val (f r) (rest ρ) ≡ v *ℤ val r (rest ρ)) → val (times f q) ρ ≡ v *ℤ val q ρ
times_val f v (coef d) ρ h =
    join_val (f (coef d)) (coef (pos 0)) ρ ∙ ap₂ (λ x y. x +ℤ y) (h (coef d)) (*ℤ-zero (first ρ)) ∙ +ℤ_idr (v *ℤ d)
times_val f v (hor a b) ρ h =
    join_val (f a) (times f b) ρ
    ∙ ap₂ (λ x y. x +ℤ first ρ *ℤ y) (h a) (times_val f v b ρ h)
    ∙ out v (first ρ) (val a (rest ρ)) (val b ρ)

mul_val : (p q : Horner) (ρ : List ℤ) → val (mul p q) ρ ≡ val p ρ *ℤ val q ρ
mul_val (coef c) q ρ = scale_val c q ρ
mul_val (hor a b) (coef d) ρ = scale_val d (hor a b) ρ ∙ *ℤ_comm d _
mul_val (hor a b) (hor a' b') ρ =
    add_val (times (λ q. mul a q) (hor a' b')) (join (coef (pos 0)) (mul b (hor a' b'))) ρ
    ∙ ap₂ (λ x y. x +ℤ y) (times_val (λ q. mul a q) va (hor a' b') ρ (λ r. mul_val a r (rest ρ))) (join_val (coef (pos 0)) (mul b (hor a' b')) ρ ∙ +ℤ_idl _)
    ∙ ap (λ x. va *ℤ w +ℤ x) (ap (λ x. first ρ *ℤ x) (mul_val b (hor a' b') ρ) ∙ sym (*ℤ_assoc (first ρ) (val b ρ) w))
    ∙ sym (*ℤ_distribr va (first ρ *ℤ val b ρ) w)
  where
    va : ℤ
    va = val a (rest ρ)

    w : ℤ
    w = val (hor a' b') ρ

norm_val : (e : Expr) (ρ : List ℤ) → val (norm e) ρ ≡ den e ρ
norm_val (var i) ρ = variable_val i ρ
norm_val (con c) ρ = refl
norm_val (a ⊞ b) ρ = add_val (norm a) (norm b) ρ ∙ ap₂ (λ x y. x +ℤ y) (norm_val a ρ) (norm_val b ρ)
norm_val (a ⊠ b) ρ = mul_val (norm a) (norm b) ρ ∙ ap₂ (λ x y. x *ℤ y) (norm_val a ρ) (norm_val b ρ)
norm_val (neg a) ρ =
    scale_val (negsuc 0) (norm a) ρ ∙ negℤ-*ℤ (pos 1) (val (norm a) ρ) ∙ ap neg_ℤ (*ℤ_idl (val (norm a) ρ) ∙ norm_val a ρ)

zero_val : (p : Horner) (ρ : List ℤ) → T (is_zero p) → val p ρ ≡ pos 0
zero_val (coef (pos zero)) ρ t = refl
zero_val (coef (pos (suc n))) ρ t = absurd t
zero_val (coef (negsuc n)) ρ t = absurd t
zero_val (hor a b) ρ t = absurd t

pub solve : (e₁ e₂ : Expr) (ρ : List ℤ) → T (is_zero (norm (e₁ ⊟ e₂))) → den e₁ ρ ≡ den e₂ ρ
solve e₁ e₂ ρ t = eq_of_difference (den e₁ ρ) (den e₂ ρ) (sym (norm_val (e₁ ⊟ e₂) ρ) ∙ zero_val (norm (e₁ ⊟ e₂)) ρ t)

-- ---- how to call it: the two sides over variables, their values in order, and `tt`
square_of_sum : (x y : ℤ) → (x +ℤ y) *ℤ (x +ℤ y) ≡ x *ℤ x +ℤ pos 2 *ℤ x *ℤ y +ℤ y *ℤ y
square_of_sum x y =
    let a = var 0 in
    let b = var 1 in
    solve ((a ⊞ b) ⊠ (a ⊞ b)) (a ⊠ a ⊞ con (pos 2) ⊠ a ⊠ b ⊞ b ⊠ b) (x ∷ y ∷ []) tt

difference_of_squares : (x y : ℤ) → (x -ℤ y) *ℤ (x +ℤ y) ≡ x *ℤ x -ℤ y *ℤ y
difference_of_squares x y =
    let a = var 0 in
    let b = var 1 in
    solve ((a ⊟ b) ⊠ (a ⊞ b)) (a ⊠ a ⊟ b ⊠ b) (x ∷ y ∷ []) tt
