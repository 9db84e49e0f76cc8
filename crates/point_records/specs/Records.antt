-- A file's fields of one byte by its entries, what a head that is not refused has shown, and where the records of a file end.
use Rattle.std.specs.Prelude.{ℕ, ◌+◌, ◌≤◌, ◌<◌, ◌≡◌, refl, List, length, get_or}
use Rattle.std.proofs.Common.{ap, ◌∙◌, arith, leb→le}
use Rattle.std.proofs.Math.Option.{none}
use Rattle.rules.specs.Bytes.{number_at}
use Rattle.rules.specs.PointFile.{PH, size_of, point_start, file_shape, file_start, point_head_check}
use Rattle.rules.specs.Laws.Bytes.{entries}
use Rattle.rules.proofs.Laws.Bytes.{number_at_entries, record_fits}
use Rattle.rules.proofs.Laws.Checks.{required, within_bounds, then_first, then_rest}
use Rattle.rules.proofs.Laws.PointFields.{length_last, start_less}
use Rattle.point_records.specs.declared.Kind.{Kind}
use Rattle.point_records.specs.Read.{ruled, Held}

pub number_at_one : (file : List ℕ) (b : ℕ) → number_at 1 file b ≡ get_or file b 0
unfolding entries
number_at_one file b = let e : b + 0 ≡ b = omega arith in omega (arith, number_at_entries 1 file b, ap (λ i. get_or file i 0) e)

pub record HeadBounds (file : List ℕ) : Type 0 where
  pub complete : 8 ≤ length file
  pub m0 : get_or file 2 0 ≤ 16
  pub n0 : get_or file 3 0 ≤ 16
  pub h : get_or file 4 0 ≤ 5

pub head_passed : (file : List ℕ) → point_head_check file ≡ none → HeadBounds file
unfolding point_head_check file_shape PH
head_passed file e =
    let after-mark = then_rest _ _ e in
    let after-m0 = then_rest _ _ after-mark in
    let after-n0 = then_rest _ _ after-m0 in
    let m = within_bounds 1 16 (number_at 1 file 2) (required _ _ (then_first _ _ after-mark)) in
    let n = within_bounds 1 16 (number_at 1 file 3) (required _ _ (then_first _ _ after-m0)) in
    let k = leb→le (number_at 1 file 4) 5 (required _ _ (then_first _ _ after-n0)) in
    record {
      complete = record_fits PH refl file 0 8 (then_first _ _ e);
      m0 = omega (arith, m.1, number_at_one file 2);
      n0 = omega (arith, n.1, number_at_one file 3);
      h = omega (arith, k, number_at_one file 4);
    }

-- ---- the records that a file holds

-- where one starts, by the file's own kind
pub start_held : {file : List ℕ} {kind : Kind} {p s : ℕ} (i : ℕ) → Held file kind p → s ≡ point_start (ruled kind) i → s ≡ file_start file i
start_held i held e = e ∙ ap (λ k. point_start k i) held.alike

-- and that it ends within the file
module _ {file : List ℕ} {kind : Kind} {p : ℕ} (held : Held file kind p) (i : ℕ) (l : i < p) where
  pub record_held : point_start (ruled kind) i + size_of (ruled kind) ≤ length file
  record_held = omega (arith, start_less (ruled kind) i p l, ap (λ k. point_start k p) held.alike, held.complete)

  -- x, y and z at least
  pub fields_held : point_start (ruled kind) i + 14 ≤ length file
  fields_held = omega (arith, record_held, length_last (ruled kind) 0)
