-- What the caller is told: document 01's table of refusals, with the number and the place of each. Definitions only.
use Rattle.std.specs.Prelude.{ℕ, zero, suc, Bool, true, false, List, ℤ, pos, get_or}
use Rattle.std.proofs.Math.Option.{Option, none, some}
use Rattle.rules.specs.Grid.{in_range}

-- The causes of the table, in its order. One that has a place holds it.
pub data Refusal : Type 0 where
  -- "cells a side outside 1..16 (fit, point writer), 1..256 (refine), 1..512 (others)"
  cells : Refusal
  -- "h above 5, or U not listed"
  levels : Refusal
  unit : Refusal
  -- "x, y, z lists differ in length, or over 65,535 points", and of document 02 "a fourth list that check 3 covers"
  lists : Refusal
  -- "a lent slice too short"
  short : Refusal
  -- "position outside": the point's or node's index, 0 for a single height
  position : ℕ → Refusal
  -- "height or control value out of range": its index
  range : ℕ → Refusal
  -- "q = 0 in a lent list", of document 02: the point's index
  confidence : ℕ → Refusal
  -- "where a difference is out of range", of document 02: the point's index
  difference : ℕ → Refusal
  -- "a quotient, then a residual, then a sum out of range in a level": the level
  quotient : ℕ → Refusal
  residual : ℕ → Refusal
  sum : ℕ → Refusal
  -- "step above 8,192, or columns or rows above 8,193"
  size : Refusal
  -- "a side outside its range", of document 02
  side : Refusal
  -- "None is reported precisely where even 4,000,000,000 stores less", of document 02
  no_stage : Refusal
  -- "record incomplete", "wrong mark": the byte of its start
  incomplete : ℕ → Refusal
  mark : ℕ → Refusal
  -- "field not allowed": the byte of the field
  field : ℕ → Refusal
  -- "bytes after the end": the first such byte
  trailing : ℕ → Refusal

-- the column "Number", and of document 02 "13 for a residual and 14 for a sum", 15, 16, 17 and 18
abbrev pub number : Refusal → ℕ
number cells = 1
number levels = 2
number unit = 2
number lists = 3
number short = 4
number (position i) = 5
number (range i) = 6
number (confidence i) = 17
number (difference i) = 15
number (quotient k) = 7
number (residual k) = 13
number (sum k) = 14
number size = 8
number side = 16
number no_stage = 18
number (incomplete b) = 9
number (mark b) = 10
number (field b) = 11
number (trailing b) = 12

-- the place of the column "Returned". "A refusal whose place .. [isn't] said returns place 0"
abbrev pub place : Refusal → ℕ
place cells = 0
place levels = 0
place unit = 0
place lists = 0
place short = 0
place (position i) = i
place (range i) = i
place (confidence i) = i
place (difference i) = i
place (quotient k) = k
place (residual k) = k
place (sum k) = k
place size = 0
place side = 0
place no_stage = 0
place (incomplete b) = b
place (mark b) = b
place (field b) = b
place (trailing b) = b

-- whether the fit had begun its levels, so that it used the scratch
abbrev pub in_levels : Refusal → Bool
in_levels cells = false
in_levels levels = false
in_levels unit = false
in_levels lists = false
in_levels short = false
in_levels (position i) = false
in_levels (range i) = false
in_levels (confidence i) = false
in_levels (difference i) = false
in_levels (quotient k) = true
in_levels (residual k) = true
in_levels (sum k) = true
in_levels size = false
in_levels side = false
in_levels no_stage = false
in_levels (incomplete b) = false
in_levels (mark b) = false
in_levels (field b) = false
in_levels (trailing b) = false

-- ---- checks, in the order in which they are made

-- what is wrong with the input, if anything
abbrev pub Check : Type 0
Check = Option Refusal

-- refused by r where the test fails
unfoldable pub require : Bool → Refusal → Check
require true r = none
require false r = some r

-- the first check that refuses
infixr 20 ◌then◌
unfoldable pub ◌then◌ : Check → Check → Check
none then d = d
some r then d = some r

-- "Every index is the first offender's": the first refusal among those of 0, 1, .. n - 1
unfoldable pub first_of : ℕ → (ℕ → Check) → Check
first_of zero f = none
first_of (suc n) f = first_of n f then f n

-- the first of n values that is out of range, refused by its index
unfoldable pub range_check : ℕ → List ℤ → (ℕ → Refusal) → Check
range_check n values refusal = first_of n (λ i. require (in_range (get_or values i (pos 0))) (refusal i))

-- ---- answers

-- an accepted call returns its values, a refused one its refusal
pub data Answer (A : Type 0) : Type 0 where
  accepted : A → Answer A
  refused : Refusal → Answer A

unfoldable pub answer : {A : Type 0} → Check → A → Answer A
answer none a = accepted a
answer (some r) a = refused r

-- ---- calls on lent slices

-- what a call answers, and what the slices lent to it hold afterwards
pub record Outcome (A B : Type 0) : Type 0 where
  pub answered : Answer A
  pub slices : B

abbrev pub outcome : {A B : Type 0} → Answer A → B → Outcome A B
outcome answered slices = record { answered = answered; slices = slices }

-- what its check leaves of a call: accepted, it returns v and the slices hold `after`; "Left as it was": a refusal leaves them as lent
unfoldable pub call : {A B : Type 0} → Check → A → B → B → Outcome A B
call none v after lent = outcome (accepted v) after
call (some r) v after lent = outcome (refused r) lent
