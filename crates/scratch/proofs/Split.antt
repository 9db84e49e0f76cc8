-- Whole scratch that is split in two: parts of either half, as they are lent and as they come back, are areas of the whole.
use Rattle.std.proofs.Common.{◌≡◌, refl, sym, ap, ◌∙◌, Bool, List, ◌++◌, append_assoc, ℕ, ◌+◌, ◌-◌, ◌≤◌, arith, T, ℤ, length, take, drop}
use Rattle.std.proofs.Math.Seq.{take-append-le, take_at}
use Rattle.std.proofs.Common.{length-drop, drop_at, drop-drop}
use Rattle.std.proofs.lemmas.List.{drop-append-le}
use Rattle.algebra.specs.Table.{Free, over, laid, area, laid_front, laid_part, free_part}
use Rattle.fit_steps.specs.Steps.{Written}

-- a slice in which v has come back for its k places from n on
abbrev pub put : ℕ → ℕ → List ℤ → List ℤ → List ℤ
put n k v whole = take n whole ++ (v ++ drop k (drop n whole))

module _ (whole front back : List ℤ) (is : whole ≡ front ++ back) where
  module _ (n k : ℕ) (within : n + k ≤ length front) where
    short : k ≤ length (drop n front)
    short = rw (length-drop n front) (omega arith)

    past : drop n whole ≡ drop n front ++ back
    past = ap (drop n) is ∙ drop-append-le n front back (omega arith)

    pub front_part : take k (drop n front) ≡ area n k whole
    unfolding area
    front_part = sym (ap (take k) past ∙ take-append-le k (drop n front) back short)

    pub front_put : (v : List ℤ) → put n k v front ++ back ≡ put n k v whole
    front_put v =
        append_assoc (take n front) (v ++ drop k (drop n front)) back
        ∙ ap (λ l. take n front ++ l) (append_assoc v (drop k (drop n front)) back)
        ∙ sym (ap (λ l. l ++ (v ++ drop k (drop n whole))) (ap (take n) is ∙ take-append-le n front back (omega arith))
        ∙ ap (λ l. take n front ++ (v ++ l)) (ap (drop k) past ∙ drop-append-le k (drop n front) back short))

  module _ (n k : ℕ) (at : length front ≡ n) where
    rest : drop n whole ≡ back
    rest = ap (drop n) is ∙ drop_at front back n at

    pub back_part : take k back ≡ area n k whole
    unfolding area
    back_part = ap (take k) (sym rest)

    pub back_put : (v : List ℤ) → front ++ (v ++ drop k back) ≡ put n k v whole
    back_put v = sym (ap (λ l. take n l ++ (v ++ drop k (drop n whole))) is ∙ ap (λ l. l ++ (v ++ drop k (drop n whole))) (take_at front back n at) ∙ ap (λ l. front ++ (v ++ drop k l)) rest)

-- what is written to an area that is lent is written to the whole
pub written_part : {ok : Bool} {n k : ℕ} {values whole v : List ℤ} → Written ok 0 k values (area n k whole) v → length values ≤ k → n + k ≤ length whole
    → Written ok n k values whole (put n k v whole)
unfolding area
written_part {n = n} {k} {values} {whole} w few room = record {
  found = w.found;
  is = λ t. ap (λ l. put n k l whole) (w.is t ∙ laid_front values (take k (drop n whole))) ∙ laid_part n k values whole few room;
  free = free_part n k k whole _ (omega arith) room w.free;
}

-- what is written over the start of a half is laid in the whole
module _ (whole front back : List ℤ) (is : whole ≡ front ++ back) (r : List ℤ) where
  pub front_over : length r ≤ length front → over r front ++ back ≡ laid 0 r whole
  unfolding over
  front_over h = front_put whole front back is 0 (length r) (omega arith) r ∙ sym (laid_front r whole)

  pub back_over : (n : ℕ) → length front ≡ n → front ++ over r back ≡ laid n r whole
  unfolding over laid
  back_over n at = back_put whole front back is n (length r) at r ∙ ap (λ l. take n whole ++ (r ++ l)) (drop-drop (length r) n whole)
