-- A mark has two bytes, and each is compared.
use Rattle.std.proofs.Common.{true≢false, ◌≡◌, ℕ, suc, ◌+◌, ◌≤◌, ◌<◌, true, false, ◌&&◌, List, [], ◌∷◌, length, get_or, take, drop, refl, sym, ap, ◌∙◌, add-one, arith, eqb, length-take, length-drop, drop-cons}
use Rattle.std.proofs.lemmas.Bool.{lt-leb}
use mathlib.Core.Bool.{and-false, and-true}
use Rattle.rules.specs.Bytes.{same}
use Rattle.records.proofs.marked.Goals as goal
use Rattle.records.proofs.marked.Goals.{then-s-file, else-s-file}

-- fewer bytes than the mark's are no mark
too_few : (l mark : List ℕ) → length l < length mark → same l mark ≡ false
unfolding same
too_few l [] h = absurd (omega arith)
too_few [] (b ∷ mark) h = refl
too_few (a ∷ l) (b ∷ mark) h = rw (too_few l mark (omega arith)) (and-false (eqb a b))

-- where there are two, these are compared
both : (file mark : List ℕ) (s : ℕ) → length mark ≡ 2 → s + 2 ≤ length file
    → same (take 2 (drop s file)) mark ≡ (eqb (get_or file s 0) (get_or mark 0 0) && eqb (get_or file (s + 1) 0) (get_or mark 1 0))
unfolding same
both file [] s two h = absurd (omega arith)
both file (a ∷ []) s two h = absurd (omega arith)
both file (a ∷ b ∷ []) s two h =
    rw (add-one s, drop-cons file s 0 (omega arith), drop-cons file (suc s) 0 (omega arith)) (ap (λ t. eqb (get_or file s 0) a && t) (and-true _))
both file (a ∷ b ∷ d ∷ mark) s two h = absurd (omega arith)

pub returns-then-file-s : goal.returns-then-file-s
returns-then-file-s c =
    let a = c.args in
    elim c.if-s-file.branch [
      | then-s-file w ↦ rw (both a.file.now a.mark a.s (omega arith) (omega arith), sym w.value-is ∙ c.if-file-s.true) refl
      | else-s-file w ↦ let contrary : true ≡ false = sym c.if-file-s.true ∙ w.value-is ∙ lt-leb _ _ (omega arith) in absurd (true≢false contrary)
    ]

pub returns-else-file-s : goal.returns-else-file-s
returns-else-file-s c =
    let a = c.args in
    elim c.if-s-file.branch [
      | then-s-file w ↦ rw (both a.file.now a.mark a.s (omega arith) (omega arith), sym w.value-is ∙ c.if-file-s.false) c.if-file-s.false
      | else-s-file w ↦
          let few : length (take 2 (drop a.s a.file.now)) < length a.mark = simp (length-take, length-drop) (omega arith) in
          w.value-is ∙ lt-leb _ _ (omega arith) ∙ sym (too_few _ _ few)
    ]
