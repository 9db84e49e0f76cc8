-- What is written is the answer to all that the reader had left: it was read whole, or is longer than is taken, as what was read of it is.
use Rattle.std.proofs.Common.{◌≡◌, refl, ℕ, ◌<◌, List, [], ◌++◌, length, take, sym, ap, subst, ◌∙◌, arith, length-append, IfSome, Option, None, Some}
use Rattle.std.proofs.Math.Decide.{dec_lt}
use Rattle.std.proofs.lemmas.Bool.{lt-leb}
use Rattle.std.proofs.lemmas.List.{append-nil, take_at}
use Rattle.std.proofs.lemmas.Result.{on_ok_weaker}
use Rattle.std.specs.Io.KnownBytes.{Appends, Consumes, IsAtEnd}
use Rattle.algebra.specs.Table.{over}
use Rattle.rules.specs.Answers.{require, ◌then◌, short}
use Rattle.rules.specs.Program.{refused_line, program_check, written, program_output}
use Rattle.refused_line.specs.Wrote.{Wrote}
use Rattle.curlew.proofs.answer.Goals as goal

too_long : (input : List ℕ) → 7_508 < length input → program_output input ≡ refused_line short
unfolding program_output program_check written require ◌then◌
too_long input h = rw (lt-leb (length input) 7_508 h) refl

-- the first bytes of an input stand for it, where they are all of it or more than are taken
enough : (input read rest : List ℕ) → input ≡ read ++ rest → (length read < 7_509 → rest ≡ []) → program_output read ≡ program_output input
enough input read rest e ended = go (dec_lt (length read) 7_509)
  where
    go : Dec (length read < 7_509) → program_output read ≡ program_output input
    go (yes few) = ap program_output (sym (e ∙ ap (λ l. read ++ l) (ended few) ∙ append-nil read))
    go (no many) =
        too_long read (omega arith) ∙ sym (too_long input (omega (arith, ap length e, length-append read rest)))

answered : (P : List ℕ → Type 0) (before after : Option (List ℕ)) (read : List ℕ)
    → Consumes before after read → (length read < 7_509 → IsAtEnd after) → P (program_output read) → IfSome before (λ input. P (program_output input))
answered P None after read c ended h = tt
answered P (Some input) None read c ended h = absurd c
answered P (Some input) (Some rest) read c ended h = subst P (enough input read rest c ended) h

-- the answer's bytes
text_is : {text before after : List ℕ} {n : ℕ} → Wrote text before n after → take n after ≡ text
unfolding over
text_is {text = text} {before} {after} {n} w = ap (take n) w.is ∙ take_at text _ n (sym w.long)

pub returns : goal.returns
returns g c =
    let read = c.in_ok-n.ensures in
    on_ok_weaker c.write_all.result
    (λ wrote.
    answered (Appends _ _) _ _ (take c.in_ok-n.n c.read_full.new.buf) read.bytes
    (λ few. read.ended (omega (arith, read.within)))
    (subst (Appends _ _) (text_is c.respond-answer.ensures) wrote))
    c.write_all.ensures.bytes
