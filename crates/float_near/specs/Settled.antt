-- What an answer of `near_float` says, in the rules' words: the value, or none where the quotient is refused.
use Rattle.std.proofs.Math.Option as rule
use Rattle.std.specs.Prelude.{Option, Some, None, ℤ}

abbrev pub settled_value : Option ℤ → rule.Option ℤ
settled_value (Some z) = rule.some z
settled_value None = rule.none
