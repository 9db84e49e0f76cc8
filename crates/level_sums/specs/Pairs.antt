-- How long sums in scratch are, and the pair at each place.
use Rattle.std.specs.Prelude.{◌≡◌, ℕ, ◌+◌, ◌*◌, ◌/◌, ◌%◌, ◌<◌, List, ◌++◌, length, get_or, slice_index_or, Float}
use Rattle.std.proofs.Common.{sym, ap, ◌∙◌, arith, length-append, get_or-append-add}
use Rattle.std.specs.Float.{nan}
use Rattle.std.proofs.Math.ListN.{get_or-append}
use Rattle.algebra.specs.Table.{tabulate, over, length_tabulate, get_d_tabulate, get_d_over}
use Rattle.rules.specs.Grid.{controls}
use Rattle.rules.specs.Level as rule
use Rattle.point_sums.specs.Sums.{pair_at}
use Rattle.level_sums.specs.Gathered.{paired, sum_table}

-- ---- pairs in scratch

pub pair_path : {a b : rule.Sums} → a.first ≡ b.first → a.second ≡ b.second → a ≡ b
pair_path e g = λ i. record { first = e i; second = g i }

pub length_paired : (n : ℕ) (f : ℕ → rule.Sums) → length (paired n f) ≡ 2 * n
unfolding paired
length_paired n f = simp (length-append, length_tabulate) (omega arith)

-- a pair of those that are laid over a slice
pub pair_over : (n : ℕ) (f : ℕ → rule.Sums) (d : List Float) (q : ℕ) → q < n → pair_at n (over (paired n f) d) q ≡ f q
unfolding pair_at paired
pair_over n f d q h = pair_path (at q (omega arith) ∙ first) (at (n + q) (omega arith) ∙ second)
  where
    firsts : List Float
    firsts = tabulate n (λ q. (f q).first)

    seconds : List Float
    seconds = tabulate n (λ q. (f q).second)

    at : (i : ℕ) → i < 2 * n → slice_index_or (over (firsts ++ seconds) d) i nan ≡ slice_index_or (firsts ++ seconds) i nan
    at i l = get_d_over (firsts ++ seconds) d i nan (rw (length_paired n f) l)

    first : get_or (firsts ++ seconds) q nan ≡ (f q).first
    first = get_or-append firsts seconds nan q (rw (length_tabulate n (λ q. (f q).first)) h) ∙ get_d_tabulate n _ q nan h

    second : get_or (firsts ++ seconds) (n + q) nan ≡ (f q).second
    second =
        ap (λ k. get_or (firsts ++ seconds) (k + q) nan) (sym (length_tabulate n (λ q. (f q).first)))
        ∙ get_or-append-add firsts seconds q nan
        ∙ get_d_tabulate n _ q nan h

-- ---- the sums after all the points

pub length_sums : (U m n : ℕ) (points : List rule.Point) → length (sum_table U m n points) ≡ 2 * controls m n
unfolding sum_table
length_sums U m n points = length_paired (controls m n) _

pub pair_table : (U m n : ℕ) (points : List rule.Point) (d : List Float) (q : ℕ) → q < controls m n
    → pair_at (controls m n) (over (sum_table U m n points) d) q ≡ rule.gathered U m n (q % (m + 3)) (q / (m + 3)) points rule.no_sums
unfolding sum_table
pair_table U m n points d q h = pair_over (controls m n) _ d q h
