-- What the laws of `proofs/Laws/LatticeFile` speak of.
use Rattle.std.specs.Prelude.{◌≡◌, List, ℕ, ◌≤◌, T, ℤ}
use Rattle.std.proofs.Math.Option.{none}
use Rattle.std.proofs.Math.ListN.{length}
use Rattle.algebra.specs.Table.{over}
use Rattle.rules.specs.Grid.{within, controls}
use Rattle.rules.specs.Answers.{accepted, outcome}
use Rattle.rules.specs.LatticeFile.{lattice_file, file_m, file_n}
use Rattle.rules.specs.LatticeFile.{lattice_file_check, file_lattice}
use Rattle.rules.specs.LatticeFile.{read_lattice_call}
use Rattle.rules.specs.Laws.Checks.{AllInRange}

-- what the writer asks: cell counts in bounds, and a control value in range for each place
pub record Writable (m n : ℕ) (lattice : List ℤ) : Type 0 where
  pub across : T (within 1 512 m)
  pub up : T (within 1 512 n)
  pub stored : controls m n ≤ length lattice
  pub range : AllInRange (controls m n) lattice

-- ---- written and read again

-- the reader accepts the file as that of m by n cells with these control values, and hands them over to every slice that is long enough
pub record Reads (file : List ℕ) (m n : ℕ) (values : List ℤ) : Type 0 where
  pub accepts : lattice_file_check file ≡ none
  pub across : file_m file ≡ m
  pub up : file_n file ≡ n
  pub lattice : file_lattice file ≡ values
  pub reads : (output : List ℤ) → controls m n ≤ length output
      → read_lattice_call file output ≡ outcome (accepted (record { m = m; n = n })) (over values output)

-- ---- the files that the reader accepts

-- it is the file of some lattice in bounds
pub record OfLattice (file : List ℕ) : Type 0 where
  pub m : ℕ
  pub n : ℕ
  pub lattice : List ℤ
  pub writable : Writable m n lattice
  pub written : lattice_file m n lattice ≡ file
