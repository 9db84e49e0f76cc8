-- What a function that writes a text promises.
use Rattle.std.specs.Prelude.{ℕ, ◌≡◌, List, length}
use Rattle.algebra.specs.Table.{over}

-- the text stands at the start of the output, and the answer is its length; what lies past it is as before
pub record Wrote (text before : List ℕ) (answer : ℕ) (after : List ℕ) : Type 0 where
  pub long : answer ≡ length text
  pub is : after ≡ over text before
