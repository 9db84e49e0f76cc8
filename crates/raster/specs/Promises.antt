-- What a raster promises beyond its equation with the rules. Where it is accepted, a height alone would be accepted at each node, and each is in range; there
-- are as many as were asked for, in at most 8,193 columns and rows, and the slice holds them.
-- Accepted or refused, at a given step it is the raster of the earlier default, when step 0 stood for 16; and of the negated lattice it has the negatives.
use Rattle.std.specs.Prelude.{◌≡◌, ◌&&◌, List, ℕ, ◌*◌, ◌≤◌, ◌<◌, T, ℤ, pos, nat_abs, length, get_or, Result}
use Rattle.std.proofs.Math.Path.{ap}
use Rattle.std.proofs.Common.{◌∙◌, arith, leb→le}
use Rattle.std.proofs.Math.Option.{none}
use Rattle.std.proofs.Math.Dec.{leb}
use Rattle.std.proofs.Math.Facts.{and_yes}
use Rattle.algebra.specs.Table.{tabulate, over, length_tabulate, get_d_tabulate, length_over, get_d_over}
use Rattle.rules.specs.Grid.{limit, inside, controls, control}
use Rattle.rules.specs.Answers.{require, short, position, size, ◌then◌, accepted, Outcome, outcome}
use Rattle.rules.specs.Calls.{Nodes, default_step, nodes, cells_check, unit_check, lattice_check, node_x, node_y, node_height, counts_check, size_check, node_check, nodes_check, height_check, raster_check, raster_call}
use Rattle.rules.proofs.Laws.Checks.{required, require_met, then_both, then_rest, first_of_none, call_unrefused, call_value, call_after}
use Rattle.rules.proofs.Laws.Surface.{height_within}
use Rattle.rules.proofs.Laws.Raster.{raster_where, given_raster, given_default}
use Rattle.rules.specs.Laws.Negation.{negated, Mirrored}
use Rattle.rules.proofs.Laws.Negation.{raster_call_lem}
use Rattle.heights.specs.Promises.{height_passed}
use Rattle.answers.specs.Told.{told}
use Rattle.answers.specs.declared.Refusal.{Refusal}

module _ (m n U : ℕ) (l : List ℤ) (g : Nodes) (d : List ℤ) where
  -- what the checks have shown
  record Passed : Type 0 where
    cells : cells_check 512 m n ≡ none
    unit : unit_check U ≡ none
    counts : counts_check g.across g.down ≡ none
    long : T (leb (controls m n) (length l))
    room : T (leb (g.across * g.down) (length d))
    ranges : lattice_check m n l ≡ none
    inside_all : nodes_check (U * m) (U * n) g ≡ none

  all_passed : raster_check m n U l g d ≡ none → Passed
  unfolding raster_check size_check
  all_passed h =
      let long = leb (controls m n) (length l) in
      let room = leb (g.across * g.down) (length d) in
      let a = then_both (cells_check 512 m n) _ h in
      let b = then_both (unit_check U) _ a.1 in
      let c = then_both (size_check g.step g.across g.down) _ b.1 in
      let e = then_both (require (long && room) short) _ c.1 in
      let f = then_both (lattice_check m n l) _ e.1 in
      let both = and_yes long room (required (long && room) short e.0) in
      record {
        cells = a.0;
        unit = b.0;
        counts = then_rest (require (leb g.step 8_192) size) _ c.0;
        long = both.0;
        room = both.1;
        ranges = f.0;
        inside_all = f.1;
      }

  -- the height at node q is accepted
  pub node_accepted : raster_check m n U l g d ≡ none → (q : ℕ) → q < g.across * g.down → height_check m n U l (node_x g q) (node_y g q) ≡ none
  unfolding nodes_check node_check height_check inside ◌then◌
  node_accepted h q k =
      let p = all_passed h in
      let on = leb (node_x g q) (U * m) && leb (node_y g q) (U * n) in
      rw (p.cells, p.unit, require_met (leb (controls m n) (length l)) short p.long, p.ranges)
      (require_met on (position 0) (required on (position q) (first_of_none (g.across * g.down) (node_check (U * m) (U * n) g) p.inside_all q k)))

  abbrev height_at : ℕ → ℤ
  height_at = node_height m n U l g

  -- an accepted raster of q nodes, and the slice that it leaves
  module _ (r : Result ℕ Refusal) (after : List ℤ) (rules : outcome (told r) after ≡ raster_call m n U l g d) (q : ℕ) (is : told r ≡ accepted q) where
    passed : raster_check m n U l g d ≡ none
    unfolding raster_call
    passed = call_unrefused _ _ _ d (told r) after rules q is

    all_counted : g.across * g.down ≡ q
    unfolding raster_call
    all_counted = call_value (raster_check m n U l g d) (g.across * g.down) _ d (told r) after rules q is

    -- as many as it was asked for
    pub many : g.across * g.down ≡ q
    many = all_counted

    -- in at most 8,193 columns and rows
    pub counted : counts_check g.across g.down ≡ none
    counted = (all_passed passed).counts

    written : after ≡ over (tabulate q height_at) d
    unfolding raster_call
    written = call_after (raster_check m n U l g d) _ _ d (told r) after rules q is ∙ ap (λ v. over (tabulate v height_at) d) all_counted

    -- and the slice has a place for each
    pub room_lent : q ≤ length d
    room_lent = rw (← all_counted) (leb→le (g.across * g.down) (length d) (all_passed passed).room)

    pub entries_held : q ≤ length after
    entries_held = rw (written, length_over (tabulate q height_at) d (rw (length_tabulate q height_at) room_lent)) room_lent

    -- entry i of the slice is the height at node i
    pub entry_height : (i : ℕ) → i < q → get_or after i (pos 0) ≡ node_height m n U l g i
    entry_height i h =
        ap (λ v. get_or v i (pos 0)) written ∙ get_d_over (tabulate q height_at) d i (pos 0) (rw (length_tabulate q height_at) h) ∙ get_d_tabulate q height_at i (pos 0) h

    pub entry_in_range : (i : ℕ) → i < q → nat_abs (get_or after i (pos 0)) ≤ 4_000_000_000
    entry_in_range i h =
        let p = height_passed m n U l (node_x g i) (node_y g i) (node_accepted passed i (rw all_counted h)) in
        rw (entry_height i h) (height_within U m n (node_x g i) (node_y g i) p.0 (control m l) limit p.1)

-- ---- the earlier default step

module _ (m n U : ℕ) (l : List ℤ) (x0 y0 across down : ℕ) (output : List ℤ) where
  -- these rules with document 01's "Step 0 stands for 16"
  abbrev pub earlier : ℕ → Outcome ℕ (List ℤ)
  earlier = raster_where m n U l x0 y0 across down output 16

  -- a call at this step, and the slice that it leaves, accepted or refused
  module _ (step : ℕ) (r : Result ℕ Refusal) (after : List ℤ) (rules : outcome (told r) after ≡ raster_call m n U l (nodes x0 y0 step across down) output) where
    pub as_earlier : 0 < step → outcome (told r) after ≡ earlier step
    as_earlier h = rules ∙ given_raster m n U l x0 y0 across down output default_step 16 step h

    -- "A caller that relied on 0 must give 16 explicitly, and its raster then equals the earlier one"
    pub sixteen_for_zero : step ≡ 16 → outcome (told r) after ≡ earlier 0
    sixteen_for_zero is = rules ∙ rw is (given_default m n U l x0 y0 across down output 16 default_step (omega arith))

-- of two calls that both were lent room, or both were not
pub negated_ground : (m n U : ℕ) (l : List ℤ) (g : Nodes) (before after before' after' : List ℤ) (r r' : Result ℕ Refusal) → outcome (told r) after ≡ raster_call m n U l g before
    → outcome (told r') after' ≡ raster_call m n U (negated l) g before' → let count = g.across * g.down in leb count (length before') ≡ leb count (length before)
    → Mirrored count (outcome (told r) after) (outcome (told r') after')
negated_ground m n U l g before after before' after' r r' rules rules' room = rw (rules, rules') (raster_call_lem m n l U g before before' room)
