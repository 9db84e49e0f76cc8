-- The loop keeps: it knows of the first i.
use Rattle.std.proofs.Common.{◌≡◌}
use Rattle.point_checks.specs.Sure.{all_sure}
use Rattle.point_checks.proofs.all_sure.Given as goal

abbrev pub invariant-loop-q : goal.invariant-loop-q
invariant-loop-q l = l.sure ≡ all_sure l.q-index l.qs
