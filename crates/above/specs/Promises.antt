-- What the call promises beyond its equation with the rules: it answers as a full raster of the same nodes would, refusals too; a yes has a node above the stage, and
-- a no has none; an empty rectangle is no; no is no at every higher stage, and where no control value is above the stage.
use Rattle.std.specs.Prelude.{◌≡◌, Bool, true, false, List, ℕ, ◌+◌, ◌*◌, ◌≤◌, ◌<◌, ℤ, pos, nat_abs, get_or, ◌≤ℤ◌, ◌<ℤ◌, Result}
use Rattle.std.proofs.Math.Path.{refl, sym, ap}
use Rattle.std.proofs.Common.{◌∙◌, le_of_eq}
use Rattle.std.proofs.Math.ListN.{length, replicate}
use Rattle.std.proofs.lemmas.List.{length-replicate}
use Rattle.rules.specs.Grid.{limit, control}
use Rattle.rules.specs.Answers.{Refusal, accepted, refused, outcome}
use Rattle.rules.specs.Calls.{Nodes, node_x, node_y, node_height, raster_check, raster_call}
use Rattle.rules.specs.Above.{any_of, above, any_above, above_check, above_answer}
use Rattle.rules.proofs.Laws.Checks.{answer_none, answer_value, none_answer, some_answer, call_unrefused, call_refusal}
use Rattle.rules.proofs.Laws.Passed.{stage_passes}
use Rattle.rules.proofs.Laws.AnyOf.{any_of_same, any_of_found}
use Rattle.rules.proofs.Laws.Above.{any_of_each, yes_above, no_above, above_falls, low_ground, stage_checked, raster_check_lem}
use Rattle.answers.specs.Told.{told}
use Rattle.answers.specs.declared.Refusal as code
use Rattle.heights.specs.Promises.{height_passed}
use Rattle.raster.specs.Promises.{node_accepted, many, room_lent, entry_height}

module _ (m n U : ℕ) (l : List ℤ) (g : Nodes) where
  abbrev count : ℕ
  count = g.across * g.down

  -- a call at this stage
  module _ (stage : ℤ) (r : Result Bool code.Refusal) (rules : told r ≡ above_answer m n U l g stage) where
    -- "equal to the full raster's answer": a raster of the same nodes, and the slice that it leaves
    module _ (d : List ℤ) (t : Result ℕ code.Refusal) (after : List ℤ) (raster : outcome (told t) after ≡ raster_call m n U l g d) (staged : nat_abs stage ≤ limit) where
      same_checks : count ≤ length d → above_check m n U l g stage ≡ raster_check m n U l g d
      same_checks room = raster_check_lem m n U l g stage d room (stage_passes stage staged)

      -- yes where some height in the slice is above the stage
      pub as_raster : (q : ℕ) → told t ≡ accepted q → told r ≡ accepted (any_of q (λ i. above stage (get_or after i (pos 0))))
      unfolding above_answer any_above raster_call
      as_raster q is =
          let nodes-all = many m n U l g d t after raster q is in
          let room : count ≤ length d = rw nodes-all (room_lent m n U l g d t after raster q is) in
          let fine = raster_check_lem m n U l g stage d room (stage_passes stage staged) ∙ call_unrefused (raster_check m n U l g d) count _ d (told t) after raster q is in
          let heights = any_of_same q _ _ (λ i h. ap (above stage) (entry_height m n U l g d t after raster q is i h)) in
          rules ∙ sym (none_answer _ fine (heights ∙ ap (λ q. any_of q (λ i. above stage (node_height m n U l g i))) (sym nodes-all)))

      -- the same refusal, with the same place, where there is room for the nodes
      pub refused_as_raster : count ≤ length d → (x : Refusal) → told t ≡ refused x → told r ≡ refused x
      unfolding above_answer raster_call
      refused_as_raster room x is =
          rules ∙ sym (some_answer _ (raster_check_lem m n U l g stage d room (stage_passes stage staged) ∙ call_refusal (raster_check m n U l g d) count _ d (told t) after raster x is))

    -- an answer
    module _ (b : Bool) (is : told r ≡ accepted b) where
      value : any_above m n U l g stage ≡ b
      unfolding above_answer
      value = answer_value (above_check m n U l g stage) (any_above m n U l g stage) b (sym rules ∙ is)

      -- yes exactly if some node stands above: a yes has one, and after a no there is none
      pub yes_node : b ≡ true → (q : ℕ) × (q < count) × (stage <ℤ node_height m n U l g q)
      unfolding any_above
      yes_node e = let found = any_of_found count _ (value ∙ e) in (found.0, found.1, yes_above stage (node_height m n U l g found.0) found.2)

      pub no_node : b ≡ false → (q : ℕ) → q < count → node_height m n U l g q ≤ℤ stage
      unfolding any_above
      no_node e q h = no_above stage (node_height m n U l g q) (any_of_each count q _ (value ∙ e) h)

      -- "An empty rectangle is no"
      pub empty_no : count ≡ 0 → b ≡ false
      unfolding any_above any_of
      empty_no e = sym value ∙ rw e refl

      -- no control value is above the stage
      pub low_no : ((s t : ℕ) → s < m + 3 → t < n + 3 → control m l s t ≤ℤ stage) → b ≡ false
      unfolding above_answer
      low_no low =
          let passed = answer_none (above_check m n U l g stage) (any_above m n U l g stage) b (sym rules ∙ is) in
          let d = replicate count (pos 0) in
          let fine = sym (raster_check_lem m n U l g stage d (le_of_eq (sym (length-replicate count (pos 0)))) (stage_checked m n U l g stage passed)) ∙ passed in
          sym value ∙ low_ground m n U l g stage low (λ q h. (height_passed m n U l (node_x g q) (node_y g q) (node_accepted m n U l g d fine q h)).0)

  -- two calls at two stages: a no stays a no at the higher one
  pub stays_no : (low high : ℤ) (r t : Result Bool code.Refusal) → told r ≡ above_answer m n U l g low → told t ≡ above_answer m n U l g high
      → (b : Bool) → told r ≡ accepted false → told t ≡ accepted b → low ≤ℤ high → b ≡ false
  stays_no low high r t at_low at_high b was is h = sym (value high t at_high b is) ∙ above_falls m n U l g low high h (value low r at_low false was)
