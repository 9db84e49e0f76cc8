-- The word, the number, a space, the place and a newline, laid one after another, are the line.
use Rattle.std.proofs.Common.{◌≡◌, refl, sym, ap, ap₂, ◌∙◌, List, [], ◌∷◌, ◌++◌, ℕ, ◌+◌, ◌%◌, ◌^◌, ◌<◌, length, length-append}
use Rattle.std.specs.Fmt as std
use Rattle.std.proofs.lemmas.Fmt.{decimal_by_steps}
use Rattle.algebra.specs.Table.{laid, laid_over, over_none}
use Rattle.rules.specs.Answers.{number, place}
use Rattle.rules.specs.Program.{decimal, refused_line}
use Rattle.answers.specs.Cause.{cause}
use Rattle.refused_line.specs.Decimal.{decimal_one, decimal_more}
use Rattle.refused_line.specs.Wrote.{Wrote}
use Rattle.refused_line.proofs.put_refused.Goals as goal

-- the library's digits are the rules'
digits_are : (v : ℕ) → v < 2 ^ 64 → std.decimal v ≡ decimal v
digits_are v h =
    decimal_by_steps (λ n digits. digits ≡ decimal n) (λ n small. sym (decimal_one n small))
    (λ n digits large e. ap (λ l. l ++ ((48 + n % 10) ∷ [])) e ∙ sym (decimal_more n large)) v h

-- a number that was formatted
formatted : {bytes text : List ℕ} {v : ℕ} (w : ℕ) → v < 2 ^ 64 → bytes ≡ text → text ≡ std.decimal v → v ≡ w → bytes ≡ decimal w
formatted {v = v} w h a b e = a ∙ b ∙ digits_are v h ∙ ap decimal e

-- nothing is written yet
nothing : (d : List ℕ) → Wrote [] d 0 d
nothing d = record { long = refl; is = sym (over_none d) }

-- a text more
more : {written d e f text : List ℕ} {k j : ℕ} (new : List ℕ) → Wrote written d k e → text ≡ new → j ≡ k + length text → f ≡ laid k text e
    → Wrote (written ++ new) d j f
more {written} {d} {e} {f} {text} {k} new w is at laid_there = record {
  long = at ∙ ap₂ (λ a b. a + b) w.long (ap length is) ∙ sym (length-append written new);
  is = laid_there ∙ (λ i. laid (w.long i) (is i) (w.is i)) ∙ laid_over written new d;
}

pub returns : goal.returns
unfolding refused_line
returns c =
    let r = cause c.args.r in
    let word = more _ (nothing c.args.output.now) refl c.put-number.ensures.end_place c.put-number.ensures.output_after in
    let n = formatted (number r) c.number.type_inv c.as_bytes.ensures.value c.format.ensures.text c.number.ensures in
    let spaced = more _ (more _ word n c.put-space.ensures.end_place c.put-space.ensures.output_after) refl c.put-place.ensures.end_place c.put-place.ensures.output_after in
    let p = formatted (place r) c.place.type_inv c.as_bytes-2.ensures.value c.format-2.ensures.text c.place.ensures in
    more _ (more _ spaced p c.put-newline.ensures.end_place c.put-newline.ensures.output_after) refl c.put.ensures.end_place c.put.ensures.output_after
