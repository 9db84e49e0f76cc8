-- What a read puts behind the bytes before it was read after them.
use Rattle.std.proofs.Common.{◌≡◌, ℕ, ◌+◌, ◌≤◌, List, ◌++◌, length, take, sym, ap, subst, ◌∙◌, arith, length-append, length-take-le}
use Rattle.std.proofs.lemmas.List.{take-append-le}
use Rattle.std.proofs.Math.Seq.{take-append-add}
use Rattle.std.specs.Io.KnownBytes.{Consumes}
use Rattle.std.proofs.KnownBytes.{Consumes-trans}
use Rattle.curlew.proofs.read_full.Goals as goal

behind : (front part rest : List ℕ) (d n : ℕ) → length front ≡ d → n ≤ length part → take (d + n) (front ++ (part ++ rest)) ≡ front ++ take n part
behind front part rest d n e h =
    ap (λ k. take (k + n) (front ++ (part ++ rest))) (sym e)
    ∙ take-append-add front (part ++ rest) n
    ∙ ap (λ l. front ++ l) (take-append-le n part rest h)

room : (front part rest : List ℕ) (d n : ℕ) → length front ≡ d → n ≤ length part → d + n ≤ length (front ++ (part ++ rest))
room front part rest d n e h = omega (arith, length-append front (part ++ rest), length-append part rest)

pub loop-done-preserved : goal.loop-done-preserved
loop-done-preserved g c =
    let before = c.loop-done.invariant in
    let read = c.in_ok-n.ensures in
    let done = length-take-le c.loop-done.done c.loop-done.buf before.0 in (
      room _ c.read_some.new.buf _ _ _ done read.within.0,
      subst (Consumes _ _) (sym (behind _ c.read_some.new.buf _ _ _ done read.within.0)) (Consumes-trans _ _ _ _ _ before.1 read.bytes),
    )
