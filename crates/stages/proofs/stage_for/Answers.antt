-- The checks go in their order, and the number that is found last decides 18.
use Rattle.std.proofs.Common.{◌≡◌, ℕ, ◌+◌, ◌*◌, ◌≤◌, ◌<◌, leb, List, length, refl, sym, ap, ◌∙◌, arith}
use Rattle.std.proofs.Math.Decide.{dec_lt}
use Rattle.std.proofs.Math.Option.{none, some}
use Rattle.std.specs.Prelude.{ℤ, Option}
use Rattle.std.specs.Option.{ok_or}
use Rattle.std.proofs.lemmas.Result.{err_from_is_err_and}
use Rattle.rules.specs.Answers.{Refusal, Check, range, no_stage, Answer, accepted, refused}
use Rattle.rules.specs.Storage.{depths, litres, storage, pond_check, heights_check}
use Rattle.rules.specs.Stage.{LowestStage, enough, lowest_of, stage_at, stage_for, stage_for_check, stage_for_answer}
use Rattle.rules.proofs.Laws.Checks.{then_none, then_some, none_answer, some_answer}
use Rattle.rules.proofs.Laws.Storage.{pond_passed, heights_passed, place_most}
use Rattle.rules.proofs.Laws.Stage.{lowest_of_most, lowest_of_same, answer_lowest, reach_refused, reach_passed}
use Rattle.answers.specs.Told.{told}
use Rattle.answers.specs.declared.Refusal.TheVariants.{NoStage}
use Rattle.storage.proofs.Front.{front, front_length, front_check, front_depths}
use Rattle.stages.specs.Numbered.{stage_numbered, numbered_some, numbered_none}
use Rattle.stages.proofs.stage_for.Goals as goal
use Rattle.stages.proofs.stage_for.Goals.{In_ok-pond_checks}

-- ---- the answer, by what was found

module _ (columns rows : ℕ) (heights : List ℤ) (wanted s : ℕ) where
  abbrev count : ℕ
  count = columns * rows

  -- the number of the stage that is found
  abbrev number : ℕ
  number = lowest_of 8_000_000_001 (λ k. leb wanted (litres (depths count heights (stage_at k)) s))

  -- what the contract says of an answer
  abbrev Answers : Answer ℤ → Type 0
  Answers a = (a ≡ stage_for_answer columns rows heights wanted s) × ((z : ℤ) → a ≡ accepted z → LowestStage columns rows heights wanted s z)

  of_both : {a : Answer ℤ} → a ≡ stage_for_answer columns rows heights wanted s → Answers a
  of_both e = (e, λ z is. answer_lowest columns rows heights wanted s z (sym e ∙ is))

  by_pond : {r : Refusal} → pond_check columns rows heights s ≡ some r → Answers (refused r)
  unfolding stage_for_answer stage_for_check
  by_pond e = of_both (some_answer _ (then_some (pond_check columns rows heights s) _ e))

  module _ (ponded : pond_check columns rows heights s ≡ none) where
    by_height : {r : Refusal} → heights_check count heights ≡ some r → Answers (refused r)
    unfolding stage_for_answer stage_for_check
    by_height e = of_both (some_answer _ (then_none (pond_check columns rows heights s) _ ponded ∙ then_some (heights_check count heights) _ e))

    module _ (in_range : heights_check count heights ≡ none) where
      by_none : number ≡ 8_000_000_001 → Answers (refused no_stage)
      unfolding stage_for_answer stage_for_check enough storage
      by_none e =
          of_both
          (some_answer _
          (then_none (pond_check columns rows heights s) _ ponded
          ∙ then_none (heights_check count heights) _ in_range
          ∙ reach_refused columns rows heights wanted s e))

      by_stage : number < 8_000_000_001 → Answers (accepted (stage_at number))
      unfolding stage_for_answer stage_for_check stage_for enough storage
      by_stage l =
          of_both
          (none_answer _
          (then_none (pond_check columns rows heights s) _ ponded
          ∙ then_none (heights_check count heights) _ in_range
          ∙ reach_passed columns rows heights wanted s l)
          refl)

      -- what was found, as it is told
      by_number : {found : Option ℤ} → found ≡ stage_numbered number → Answers (told (ok_or found NoStage))
      by_number {found} is = go (dec_lt number 8_000_000_001)
        where
          go : Dec (number < 8_000_000_001) → Answers (told (ok_or found NoStage))
          go (yes l) = rw (is, numbered_some number l) (by_stage l)
          go (no l) =
              let most = lowest_of_most 8_000_000_001 (λ k. leb wanted (litres (depths count heights (stage_at k)) s)) in
              let past : number ≡ 8_000_000_001 = omega arith in
              rw (is, numbered_none past) (by_none past)

-- ---- what is known behind each check

module _ (c : In_ok-pond_checks) where
  abbrev n : ℕ
  n = c.args.columns * c.args.rows

  ponded : pond_check c.args.columns c.args.rows c.args.heights.now c.args.side ≡ none
  ponded = sym c.in_ok-pond_checks.ensures

  room : n ≤ length c.args.heights.now
  room = (pond_passed c.args.columns c.args.rows c.args.heights.now c.args.side ponded).1

  few : n ≤ 8_193 * 8_193
  few = (pond_passed c.args.columns c.args.rows c.args.heights.now c.args.side ponded).0

  -- what the scan of the raster tells
  scanned : {found : Check} → heights_check (length (front n c.args.heights.now room)) (front n c.args.heights.now room) ≡ found → heights_check n c.args.heights.now ≡ found
  scanned e = sym (front_check n c.args.heights.now room) ∙ e

-- the number that is found in the raster
front_number : (n : ℕ) (heights : List ℤ) (held : n ≤ length heights) (wanted side : ℕ)
    → lowest_of 8_000_000_001 (λ k. leb wanted (litres (depths (length (front n heights held)) (front n heights held) (stage_at k)) side))
    ≡ lowest_of 8_000_000_001 (λ k. leb wanted (litres (depths n heights (stage_at k)) side))
front_number n heights held wanted side = lowest_of_same 8_000_000_001 _ _ (λ k. ap (λ d. leb wanted (litres d side)) (front_depths n heights held (stage_at k)))

-- ---- what it answers

pub returns-in_err-pond_checks : goal.returns-in_err-pond_checks
returns-in_err-pond_checks c =
    let a = c.args in
    let f = err_from_is_err_and c.from_residual.result c.from_residual.ensures.1 in
    let p = by_pond a.columns a.rows a.heights.now a.wanted a.side (sym c.in_err-pond_checks.ensures) in
    rw (f.1, f.2) (record { answer = p.0; lowest_stage = p.1 })

pub returns-in-Some : goal.returns-in-Some
unfolding heights_check
returns-in-Some c =
    let a = c.args in
    let s = (goal.at.returns-in-Some c).In_ok-pond_checks in
    let p = by_height a.columns a.rows a.heights.now a.wanted a.side (ponded s) (scanned s (c.in-Some.ensures (λ i. range (i + 1)))) in
    record { answer = p.0; lowest_stage = p.1 }

pub returns : goal.returns
unfolding heights_check
returns c =
    let a = c.args in
    let s = (goal.at.returns c).In_ok-pond_checks in
    let p = by_number a.columns a.rows a.heights.now a.wanted a.side (ponded s) (scanned s (c.in_default.ensures (λ i. range (i + 1))))
    (c.lowest_stage.ensures ∙ ap stage_numbered (front_number (n s) a.heights.now (room s) a.wanted a.side)) in
    rw c.ok_or.ensures.value (record { answer = p.0; lowest_stage = p.1 })

-- ---- what its steps ask

pub overflow_mul-raster : goal.overflow_mul-raster
overflow_mul-raster c = omega (arith, few (goal.at.overflow_mul-raster c).In_ok-pond_checks)

pub slice_bounds-raster-end : goal.slice_bounds-raster-end
slice_bounds-raster-end c =
    let s = (goal.at.slice_bounds-raster-end c).In_ok-pond_checks in
    sym (front_length (n s) c.args.heights.now (room s))

pub overflow_add-result : goal.overflow_add-result
unfolding heights_check
overflow_add-result c =
    let a = c.args in
    let s = (goal.at.overflow_add-result c).In_ok-pond_checks in
    omega (arith, place_most (n s) a.heights.now _ (scanned s (c.in-Some.ensures (λ i. range (i + 1)))), few s)

pub lowest_stage-requires : goal.lowest_stage-requires
unfolding heights_check
lowest_stage-requires c =
    let a = c.args in
    let s = (goal.at.lowest_stage-requires c).In_ok-pond_checks in
    let p = pond_passed a.columns a.rows a.heights.now a.side (ponded s) in (
      omega (arith, front_length (n s) a.heights.now (room s), few s),
      heights_passed _ (front (n s) a.heights.now (room s)) (c.in_default.ensures (λ i. range (i + 1))),
      p.3,
      p.2,
    )
