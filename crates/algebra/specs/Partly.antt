-- A slice while values are laid in it one after another: what is laid so far, and that all else is as it was.
use Rattle.std.specs.Prelude.{◌≡◌, refl, List, ◌++◌, ℕ, ◌+◌, ◌-◌, ◌≤◌, ◌<◌, ℤ, pos, length, get_or, take, drop, set}
use Rattle.std.proofs.Common.{sym, ap, ◌∙◌, arith, length-set}
use Rattle.algebra.specs.Table.{Apart, tabulate, over, area, laid, length_tabulate, length_laid, laid_none, laid_part, laid_store, laid_next, area_part, area_apart, get_d_apart, get_d_area}

-- l is the slice d with the first i of the values f laid from n on
pub record Partly (n i : ℕ) (f : ℕ → ℤ) (d l : List ℤ) : Type 0 where
  pub is : l ≡ laid n (tabulate i f) d
  pub long : length l ≡ length d

pub begun : (n i : ℕ) (f : ℕ → ℤ) (d : List ℤ) → i ≡ 0 → Partly n i f d d
unfolding tabulate
begun n i f d e = record { is = rw e (sym (laid_none n d)); long = refl }

module _ {n i : ℕ} {f : ℕ → ℤ} {d l : List ℤ} (p : Partly n i f d l) where
  -- the next value is stored
  pub stored : {v : ℤ} → n + i < length d → v ≡ f i → Partly n (i + 1) f d (set l (n + i) v)
  stored {v} h e = record { is = laid_store n i f d h p.is e; long = length-set l (n + i) v ∙ p.long }

  -- the next w values are written to a part that is lent, which begins where they belong
  pub stored_part : {a k : ℕ} (w : ℕ) {v : List ℤ} → a ≡ n + i → k ≡ i + w → n + k ≤ length d
      → v ≡ over (tabulate w (λ j. f (i + j))) (take (a + w - a) (drop a l)) → Partly n k f d (take a l ++ (v ++ drop (a + w - a) (drop a l)))
  stored_part {a} {k} w {v} s e h o = record { is = is; long = ap length is ∙ length_laid n (tabulate k f) d (rw (length_tabulate k f) h) }
    where
      next : List ℤ
      next = tabulate w (λ j. f (i + j))

      is : take a l ++ (v ++ drop (a + w - a) (drop a l)) ≡ laid n (tabulate k f) d
      is =
          ap (λ u. take a l ++ (u ++ drop (a + w - a) (drop a l))) o
          ∙ laid_part a (a + w - a) next l (rw (length_tabulate w (λ j. f (i + j))) (omega arith)) (omega (arith, p.long))
          ∙ ap (λ b. laid b next l) s
          ∙ laid_next n i w f d (omega arith) p.is
          ∙ ap (λ j. laid n (tabulate j f) d) (sym e)

  -- what the step has not reached
  pub part_kept : (k j : ℕ) → n ≤ length d → Apart k j n i → take (k + j - k) (drop k l) ≡ area k j d
  part_kept k j h a = area_part k j l ∙ rw p.is (area_apart k j n (tabulate i f) d (rw (length_tabulate i f) a) h)

  -- an entry of an area that it has not reached yet
  pub entry_kept : (k j q : ℕ) → q < j → n ≤ length d → Apart (k + q) 1 n i → get_or l (k + q) (pos 0) ≡ get_or (area k j d) q (pos 0)
  entry_kept k j q h r a =
      ap (λ l. get_or l (k + q) (pos 0)) p.is ∙ get_d_apart (k + q) n (tabulate i f) d (pos 0) (rw (length_tabulate i f) a) r ∙ sym (get_d_area k j d q (pos 0) h)

  -- all is laid
  pub finished : {k : ℕ} {r : List ℤ} → i ≡ k → tabulate k f ≡ r → l ≡ laid n r d
  finished e a = p.is ∙ ap (λ r. laid n r d) (ap (λ k. tabulate k f) e ∙ a)
