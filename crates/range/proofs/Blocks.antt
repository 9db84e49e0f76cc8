-- A scan of a block: the values from place i to place j.
use Rattle.std.proofs.Common.{◌≡◌, Bool, false, ℕ, ◌+◌, ◌-◌, ◌≤◌, List, length, take, drop, ℤ, sym, ap, ◌∙◌, arith, length-take, length-drop, get_or-take, get_or-drop}
use Rattle.rules.specs.Answers.{Refusal, ◌then◌, range_check}
use Rattle.rules.specs.Laws.Checks.{Part, NoneOut, SomeOut}
use Rattle.rules.proofs.Laws.Checks.{then_none, none_out_start, range_check_part}
use Rattle.answers.specs.Cause.{ok_check}
use Rattle.range.specs.Scan.{all_some_out}

module _ (values : List ℤ) (i j : ℕ) (order : i ≤ j) (held : j ≤ length values) where
  abbrev block : List ℤ
  block = take (j - i) (drop i values)

  block_length : length block ≡ j - i
  block_length = omega (arith, length-take (j - i) (drop i values), length-drop i values)

  block_part : Part i (j - i) values block
  block_part k l = grind (arith, get_or-take, get_or-drop)

  -- a check of all values before j is that of those before i, and then that of the block
  pub joined : (f : ℕ → Refusal) → range_check j values f ≡ (range_check i values f then range_check (length block) block (λ k. f (i + k)))
  joined f =
      let all : i + (j - i) ≡ j = omega arith in
      ap (λ k. range_check k values f) (sym all)
      ∙ range_check_part i (j - i) values block f block_part
      ∙ ap (λ w. range_check i values f then range_check w block (λ k. f (i + k))) (sym block_length)

  -- and where none before i is out of range, it is that of the block
  pub behind : NoneOut i values → (f : ℕ → Refusal) → range_check j values f ≡ range_check (length block) block (λ k. f (i + k))
  behind none_before f = joined f ∙ then_none _ _ (none_before f)

  -- and where one refusal for all of the block's values refuses, one of them is out of range
  pub some_out : NoneOut i values → {ok : Bool} → ((r : Refusal) → range_check (length block) block (λ k. r) ≡ ok_check ok r) → ok ≡ false → SomeOut j values
  some_out none_before {ok} e t = all_some_out j values ok (λ r. behind none_before (λ k. r) ∙ e r) t

  pub none_out : NoneOut i values → NoneOut (length block) block → NoneOut j values
  none_out none_before none_there f = behind none_before f ∙ none_there (λ k. f (i + k))

-- the first n values as a block
pub none_out_first : (values : List ℤ) (n : ℕ) → n ≤ length values → NoneOut (length (take n values)) (take n values) → NoneOut n values
none_out_first values n held none_there =
    let all : n - 0 ≡ n = omega arith in
    none_out values 0 n (omega arith) held (none_out_start values) (rw all none_there)

pub some_out_first : (values : List ℤ) (n : ℕ) → n ≤ length values → {ok : Bool} → ((r : Refusal) → range_check (length (take n values)) (take n values) (λ k. r) ≡ ok_check ok r)
    → ok ≡ false → SomeOut n values
some_out_first values n held e t =
    let all : n - 0 ≡ n = omega arith in
    some_out values 0 n (omega arith) held (none_out_start values) (rw all e) t
