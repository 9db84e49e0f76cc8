-- The machine's reading of an entry that a step has not reached yet: of an area, and of a slice that it writes from the start on.
use Rattle.std.specs.Prelude.{◌≡◌, ℕ, ◌+◌, ◌≤◌, ◌<◌, List, ℤ, pos, length, get_or}
use Rattle.std.specs.Int.{w64}
use Rattle.std.proofs.Common.{ap, ◌∙◌, to_z, of_z}
use Rattle.algebra.specs.Table.{Apart, tabulate, area, length_tabulate, laid_front, get_d_past}
use Rattle.algebra.specs.Partly.{Partly, entry_kept}
use Rattle.machine.specs.Held.{Held, read}
use Rattle.rules.specs.Grid.{limit}
use Rattle.rules.specs.Laws.Checks.{AllInRange}

pub entry_held : {n i : ℕ} {f : ℕ → ℤ} {d l : List ℤ} → Partly n i f d l → (k j q : ℕ) → q < j → n ≤ length d → Apart (k + q) 1 n i → AllInRange j (area k j d)
    → Held (to_z w64 (of_z w64 (get_or l (k + q) (pos 0)))) (get_or (area k j d) q (pos 0)) limit
entry_held p k j q h r a range = read tt (record { is = entry_kept p k j q h r a; size = range q h })

pub ahead : {i : ℕ} {f : ℕ → ℤ} {d l : List ℤ} → Partly 0 i f d l → (q : ℕ) → i ≤ q → get_or l q (pos 0) ≡ get_or d q (pos 0)
ahead {i} {f} {d} p q h = ap (λ l. get_or l q (pos 0)) (p.is ∙ laid_front (tabulate i f) d) ∙ get_d_past (tabulate i f) d q (pos 0) (rw (length_tabulate i f) h)

pub ahead_held : {i : ℕ} {f : ℕ → ℤ} {d l : List ℤ} → Partly 0 i f d l → (j q : ℕ) → q < j → i ≤ q → AllInRange j d
    → Held (to_z w64 (of_z w64 (get_or l q (pos 0)))) (get_or d q (pos 0)) limit
ahead_held p j q h k range = read tt (record { is = ahead p q k; size = range q h })
