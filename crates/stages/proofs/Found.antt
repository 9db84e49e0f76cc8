-- What a search tells, by the number that it has found.
use Rattle.std.proofs.Common.{◌≡◌, ℕ, ◌<◌, sym, ap, ◌∙◌}
use Rattle.std.specs.Prelude.{ℤ, Some, None}
use Rattle.rules.specs.Stage.{stage_at}
use Rattle.stages.specs.Numbered.{stage_numbered, numbered_some, numbered_none}

pub some_found : {z : ℤ} {k n : ℕ} → z ≡ stage_at k → k ≡ n → k < 8_000_000_001 → Some z ≡ stage_numbered n
some_found {k = k} is e h = ap Some is ∙ sym (numbered_some k h) ∙ ap stage_numbered e

pub none_found : {n : ℕ} → n ≡ 8_000_000_001 → None ≡ stage_numbered n
none_found e = sym (numbered_none e)
