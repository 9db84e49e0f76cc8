-- "Table of checked examples" of document 01: E1 to E8 and the three near examples, with halves of both signs wherever near stands, slopes that tell the
-- order of their roundings, bases that tell near from floor, what a raster's step 0 stands for, storages, stages for a wanted storage, the ground above a stage, and points with a
-- confidence and their files, with the order of their refusals, as one computed table.
use Rattle.std.specs.Prelude.{ℕ, zero, suc, ◌+◌, ◌*◌, ◌/◌, ◌%◌, Bool, true, false, ◌&&◌, cond, List, [], ◌∷◌, ◌++◌, T, leb, eqb, ℤ, pos, negsuc, neg_ℤ, Float, replicate, take, drop}
use Rattle.std.proofs.Math.Option.{Option, none, some}
use Rattle.std.specs.Float.{fin, binary64}
use Rattle.std.specs.Float.Ieee.{add, mul, div, of_int, of_bits, to_bits, size as digits}
use Rattle.algebra.specs.Difference.{pos_part}
use Rattle.rules.specs.Rounding.{floor, near_up, near_down, even, near}
use Rattle.rules.specs.Grid.{Lattice, in_range, confident, within, inside, cells_at, controls, control}
use Rattle.rules.specs.Surface.{square, cube, numerator, denominator, cell, offset, weighted, along, height}
use Rattle.rules.specs.Slope.{slope_numerator, slope_denominator, slope_along, slope_x, slope_y}
use Rattle.rules.specs.Level.{◌⊘◌, float, Point, basis, weight, add_squares, squares, no_sums, grown, uses, touched, signed, near_float, kept}
use Rattle.rules.specs.Refinement.{masked, finer, finer2, refined}
use Rattle.rules.specs.Fit.{Shape, shape, columns, rows, Survey, survey, total, near_mean, base}
use Rattle.rules.specs.Answers.{number, place, Check, require, ◌then◌, first_of, range_check, Answer, accepted, refused, answer}
use Rattle.rules.specs.Calls.{default_step, step_of, nodes, node_x, node_y, cells_check, unit_check, counts_check, lattice_check, stage_check, size_check, node_check, nodes_check}
use Rattle.rules.specs.Calls.{lists_check, spot_check, point_check, points_check}
use Rattle.rules.specs.Bytes.{bytes_of, number_of, complement, uncomplement, value_bytes, number_at, value_at, same, record_check}
use Rattle.rules.specs.PointFile.{PH, PT, PQ, Kind, pt, pq, point_record, point_head, point_start, file_shape, file_points, kind_of, file_x, file_y, file_z, last_number, file_q}
use Rattle.rules.specs.PointFile.{point_head_check, point_record_check, point_file_check}
use Rattle.rules.specs.Storage.{depth, depths, litres, storage, side_check, pond_check, heights_check, storage_check}
use Rattle.rules.specs.Stage.{enough, lowest_of, stage_at, reach_check, stage_for_check}
use Rattle.rules.specs.Above.{any_of, above, any_above, above_check, above_answer}

-- "one control value set, others 0": v in column s and row t, which are the indices (s - 1, t - 1)
unfoldable pub single : ℕ → ℕ → ℤ → Lattice
single s t v q r = cond (eqb q s && eqb r t) v (pos 0)

unfoldable pub equal : ℤ → ℤ → Bool
equal (pos a) (pos b) = eqb a b
equal (pos a) (negsuc b) = false
equal (negsuc a) (pos b) = false
equal (negsuc a) (negsuc b) = eqb a b

-- a line of the table: a value of the rules, and what the documents say that it is
pub record Line : Type 0 where
  pub found : ℤ
  pub said : ℤ

infix 4 ◌is◌
unfoldable pub ◌is◌ : ℤ → ℤ → Line
a is b = record { found = a; said = b }

unfoldable pub all_hold : List Line → Bool
all_hold [] = true
all_hold (l ∷ ls) = equal l.found l.said && all_hold ls

-- "Lattice 1 by 1, U = 16": the height at (x, y)
unfoldable pub height_of : Lattice → ℕ → ℕ → ℤ
height_of f x y = height 16 1 1 f x y

-- the refinement at document 01's indices (i, j), neither of which is -1 here
unfoldable pub refined_at : Lattice → ℕ → ℕ → ℤ
refined_at f i j = refined f (i + 1) (j + 1)

-- how many of the 5 × 5 refined control values differ from 0
unfoldable pub nonzero : Lattice → ℕ → ℕ
nonzero f zero = 0
nonzero f (suc q) = nonzero f q + cond (equal (refined f (q % 5) (q / 5)) (pos 0)) 0 1

-- a refusal's number, and its place as thousandths; 0 for none
unfoldable pub refusal_of : Check → ℤ
refusal_of none = pos 0
refusal_of (some r) = pos (1_000 * number r + place r)

abbrev too_high : ℤ
too_high = pos 4_000_000_001

-- the control value that a quotient becomes; where it is refused, a number that none can be
unfoldable pub kept_of : Float → ℤ
kept_of q = value_of (kept (near_float q))
  where
    value_of : Option ℤ → ℤ
    value_of none = too_high
    value_of (some z) = z

-- "Lattice 1 by 1", as stored: level ground, and a peak of the last control value
abbrev level : List ℤ
level = replicate 16 (pos 9)

abbrev peak : ℤ → List ℤ
peak v = replicate 15 (pos 0) ++ (v ∷ [])

-- whether ground stands above a stage: 1 for yes, 0 for no, or the refusal
unfoldable pub above_of : Answer Bool → ℤ
above_of (accepted b) = pos (cond b 1 0)
above_of (refused r) = refusal_of (some r)

-- one cell and no finer level, a survey of one point on it, numbers that f64 rounds, a point, and the start of a file of so many points
abbrev one_cell : Shape
one_cell = shape 1 1 0

abbrev point_of : ℕ → ℤ → ℕ → Survey
point_of x z q = survey (x ∷ []) (0 ∷ []) (z ∷ []) (q ∷ [])

abbrev seventh : Float
seventh = float (pos 1) ⊘ float (pos 7)

abbrev three_tenths : Float
three_tenths = float (pos 3) ⊘ float (pos 10)

abbrev nine : Point
nine = record { x = 0; y = 0; z = pos 9; q = 3 }

abbrev start : ℕ → List ℕ
start p = point_head one_cell p

-- a record of either kind, of the point (0, 0) with height 7 and confidence 1
abbrev seven : Kind → List ℕ
seven k = point_record k (record { x = 0; y = 0; z = pos 7; q = 1 })

unfoldable pub table : List Line
table =
    -- near(7/2) = 4, "near(-7/2) becomes -4", near(-5/3) = -2
    (near (pos 7) 2 is pos 4)
    ∷ (near (neg_ℤ (pos 7)) 2 is neg_ℤ (pos 4))
    ∷ (near (neg_ℤ (pos 5)) 3 is neg_ℤ (pos 2))
    -- "an exact half to the even neighbour": 5/2, -5/2, 1/2 and -1/2, and beside a half 7/3 and 8/3; halves up 7/2, -7/2, and 5/2
    ∷ (near (pos 5) 2 is pos 2)
    ∷ (near (neg_ℤ (pos 5)) 2 is neg_ℤ (pos 2))
    ∷ (near (pos 1) 2 is pos 0)
    ∷ (near (neg_ℤ (pos 1)) 2 is pos 0)
    ∷ (near (pos 7) 3 is pos 2)
    ∷ (near (pos 8) 3 is pos 3)
    ∷ (near_up (pos 7) 2 is pos 4)
    ∷ (near_up (neg_ℤ (pos 7)) 2 is neg_ℤ (pos 3))
    ∷ (near_up (pos 5) 2 is pos 3)
    -- E1 (0,0)=36: height at (0,0) is 16. E2 same, at (16,16): 1. E3 same, at (8,8): 8
    ∷ (height_of (single 1 1 (pos 36)) 0 0 is pos 16)
    ∷ (height_of (single 1 1 (pos 36)) 16 16 is pos 1)
    ∷ (height_of (single 1 1 (pos 36)) 8 8 is pos 8)
    -- "Example E4 becomes 0", (-1,0)=3 at (0,0). E5 (-1,0)=-3: 0
    ∷ (height_of (single 0 1 (pos 3)) 0 0 is pos 0)
    ∷ (height_of (single 0 1 (neg_ℤ (pos 3))) 0 0 is pos 0)
    -- (-1,0)=21, 15 and their negatives, at (0,0): the row is near of 7/2 and of 5/2, so the height near of 8/3 and of 4/3
    ∷ (height_of (single 0 1 (pos 21)) 0 0 is pos 3)
    ∷ (height_of (single 0 1 (neg_ℤ (pos 21))) 0 0 is neg_ℤ (pos 3))
    ∷ (height_of (single 0 1 (pos 15)) 0 0 is pos 1)
    ∷ (height_of (single 0 1 (neg_ℤ (pos 15))) 0 0 is neg_ℤ (pos 1))
    -- (-1,-1)=18, 54 and -54, at (0,0): the row is 3, 9 and -9, and the height near of 1/2, 3/2 and -3/2
    ∷ (height_of (single 0 0 (pos 18)) 0 0 is pos 0)
    ∷ (height_of (single 0 0 (pos 54)) 0 0 is pos 2)
    ∷ (height_of (single 0 0 (neg_ℤ (pos 54))) 0 0 is neg_ℤ (pos 2))
    -- E6 refine (0,0)=64: new (0,0) 36, (1,0) 24, (1,1) 16, (2,2) 1, (3,3) 0
    ∷ (refined_at (single 1 1 (pos 64)) 0 0 is pos 36)
    ∷ (refined_at (single 1 1 (pos 64)) 1 0 is pos 24)
    ∷ (refined_at (single 1 1 (pos 64)) 1 1 is pos 16)
    ∷ (refined_at (single 1 1 (pos 64)) 2 2 is pos 1)
    ∷ (refined_at (single 1 1 (pos 64)) 3 3 is pos 0)
    -- E7 refine (0,0)=1: only new (0,0) is 1
    ∷ (refined_at (single 1 1 (pos 1)) 0 0 is pos 1)
    ∷ (pos (nonzero (single 1 1 (pos 1)) 25) is pos 1)
    -- E8 (0,0)=-32: new (2,2) is 0, and so it is for 32; for 96 and -96 it is 2 and -2
    ∷ (refined_at (single 1 1 (neg_ℤ (pos 32))) 2 2 is pos 0)
    ∷ (refined_at (single 1 1 (pos 32)) 2 2 is pos 0)
    ∷ (refined_at (single 1 1 (pos 96)) 2 2 is pos 2)
    ∷ (refined_at (single 1 1 (neg_ℤ (pos 96))) 2 2 is neg_ℤ (pos 2))
    -- slopes, (-1,-1)=9, at (0,0): near of its column, and of its row, is 2, so each is near of -125/2; without that first rounding it were -47. With -9
    -- it is near of 125/2, and with 3 it is 0
    ∷ (slope_x 16 1 1 (single 0 0 (pos 9)) 0 0 is neg_ℤ (pos 62))
    ∷ (slope_y 16 1 1 (single 0 0 (pos 9)) 0 0 is neg_ℤ (pos 62))
    ∷ (slope_x 16 1 1 (single 0 0 (neg_ℤ (pos 9))) 0 0 is pos 62)
    ∷ (slope_x 16 1 1 (single 0 0 (pos 3)) 0 0 is pos 0)
    -- (-1,0)=3 and -3: the columns are 2 and -2, the rows 0
    ∷ (slope_x 16 1 1 (single 0 1 (pos 3)) 0 0 is neg_ℤ (pos 62))
    ∷ (slope_x 16 1 1 (single 0 1 (neg_ℤ (pos 3))) 0 0 is pos 62)
    ∷ (slope_y 16 1 1 (single 0 1 (pos 3)) 0 0 is pos 0)
    -- bases: near of a mean of 1/2, of -1/2, of 3/2, of -3/2, of 2/3 and of -2/3, and of no heights
    ∷ (base (pos 0 ∷ pos 1 ∷ []) is pos 0)
    ∷ (base (neg_ℤ (pos 1) ∷ pos 0 ∷ []) is pos 0)
    ∷ (base (pos 2 ∷ pos 1 ∷ []) is pos 2)
    ∷ (base (neg_ℤ (pos 1) ∷ neg_ℤ (pos 2) ∷ []) is neg_ℤ (pos 2))
    ∷ (base (pos 1 ∷ pos 1 ∷ pos 0 ∷ []) is pos 1)
    ∷ (base (neg_ℤ (pos 1) ∷ pos 0 ∷ neg_ℤ (pos 1) ∷ []) is neg_ℤ (pos 1))
    ∷ (base [] is pos 0)
    -- quotients: of 1/2, 3/2 and -5/2; 4,000,000,000.5 and its negative, both accepted, and the next f64 on either side, refused
    ∷ (kept_of (fin false 1 (negsuc 0)) is pos 0)
    ∷ (kept_of (fin false 3 (negsuc 0)) is pos 2)
    ∷ (kept_of (fin true 5 (negsuc 0)) is neg_ℤ (pos 2))
    ∷ (kept_of (fin false 8_000_000_001 (negsuc 0)) is pos 4_000_000_000)
    ∷ (kept_of (fin true 8_000_000_001 (negsuc 0)) is neg_ℤ (pos 4_000_000_000))
    ∷ (kept_of (fin false 8_388_608_001_048_577 (negsuc 20)) is too_high)
    ∷ (kept_of (fin true 8_388_608_001_048_577 (negsuc 20)) is too_high)
    -- "Step 0 now stands for 8": node 3 of two columns from (1, 2), at step 0 and at a given 16
    ∷ (pos (node_x (nodes 1 2 0 2 2) 3) is pos 9)
    ∷ (pos (node_y (nodes 1 2 0 2 2) 3) is pos 10)
    ∷ (pos (node_x (nodes 1 2 16 2 2) 3) is pos 17)
    ∷ (pos (node_y (nodes 1 2 16 2 2) 3) is pos 18)
    -- "the floor of (sum of depths × s²) / 100,000 litres": two depths of half a litre; one of a litre less 1 micrometre; one of a litre, and one of a
    -- litre less 1, beside a node that is dry by 1 micrometre; a litre 1 millimetre deep on a square metre
    ∷ (pos (storage 1 2 (pos 0 ∷ pos 0 ∷ []) (pos 50_000) 1) is pos 1)
    ∷ (pos (storage 1 1 (pos 1 ∷ []) (pos 100_000) 1) is pos 0)
    ∷ (pos (storage 2 1 (neg_ℤ (pos 100_000) ∷ pos 1 ∷ []) (pos 0) 1) is pos 1)
    ∷ (pos (storage 2 1 (neg_ℤ (pos 99_999) ∷ pos 1 ∷ []) (pos 0) 1) is pos 0)
    ∷ (pos (storage 1 1 (pos 0 ∷ []) (pos 1_000) 10) is pos 1)
    -- its refusals: 8, 4, 16, then 6, "the stage as index 0 and then the heights from 1"; past the raster nothing is looked at
    ∷ (refusal_of (storage_check 0 8_194 [] too_high 0) is pos 8_000)
    ∷ (refusal_of (storage_check 1 1 [] too_high 0) is pos 4_000)
    ∷ (refusal_of (storage_check 1 1 (too_high ∷ []) too_high 101) is pos 16_000)
    ∷ (refusal_of (storage_check 1 1 (too_high ∷ []) too_high 0) is pos 16_000)
    ∷ (refusal_of (storage_check 1 1 (too_high ∷ []) too_high 100) is pos 6_000)
    ∷ (refusal_of (storage_check 1 2 (pos 0 ∷ too_high ∷ []) (pos 0) 1) is pos 6_002)
    ∷ (refusal_of (storage_check 1 1 (pos 0 ∷ too_high ∷ []) (pos 0) 1) is pos 0)
    -- "stores at least the wanted litres": 1 litre on one node, at the stage that stores just that and a micrometre below it; "in range", from the lowest up
    ∷ (pos (cond (enough 1 1 (pos 0 ∷ []) 1 1 (pos 100_000)) 1 0) is pos 1)
    ∷ (pos (cond (enough 1 1 (pos 0 ∷ []) 1 1 (pos 99_999)) 1 0) is pos 0)
    ∷ (pos (lowest_of 5 (λ k. leb 3 k)) is pos 3)
    ∷ (pos (lowest_of 3 (λ k. leb 3 k)) is pos 3)
    ∷ (stage_at 0 is neg_ℤ (pos 4_000_000_000))
    ∷ (stage_at 8_000_000_000 is pos 4_000_000_000)
    -- its refusals: 8, 4, 16, 6 with the heights "indexed from 1", and 18 "last of all": 40,000 litres are just what 4,000,000,000 stores on one node at 0, and
    -- nothing is stored on no node
    ∷ (refusal_of (stage_for_check 0 8_194 [] 1 0) is pos 8_000)
    ∷ (refusal_of (stage_for_check 1 1 [] 1 0) is pos 4_000)
    ∷ (refusal_of (stage_for_check 1 1 (too_high ∷ []) 40_001 101) is pos 16_000)
    ∷ (refusal_of (stage_for_check 1 2 (pos 0 ∷ too_high ∷ []) 80_001 1) is pos 6_002)
    ∷ (refusal_of (stage_for_check 1 1 (pos 0 ∷ []) 40_000 1) is pos 0)
    ∷ (refusal_of (stage_for_check 1 1 (pos 0 ∷ []) 40_001 1) is pos 18_000)
    ∷ (refusal_of (stage_for_check 0 1 [] 0 1) is pos 0)
    ∷ (refusal_of (stage_for_check 0 1 [] 1 1) is pos 18_000)
    -- "Does any ground stand above a stage": level ground at 9, with the stage at 8 and at 9; the last node at 1 and all others at 0, with the stage at 0 and
    -- at 1; "An empty rectangle is no"
    ∷ (above_of (above_answer 1 1 16 level (nodes 0 0 0 3 3) (pos 8)) is pos 1)
    ∷ (above_of (above_answer 1 1 16 level (nodes 0 0 0 3 3) (pos 9)) is pos 0)
    ∷ (above_of (above_answer 1 1 16 (peak (pos 36)) (nodes 0 0 0 3 3) (pos 0)) is pos 1)
    ∷ (above_of (above_answer 1 1 16 (peak (pos 36)) (nodes 0 0 0 3 3) (pos 1)) is pos 0)
    ∷ (above_of (above_answer 1 1 16 level (nodes 0 0 0 0 3) (pos 8)) is pos 0)
    -- its refusals: 1, 2, 8, 4, 6 for the stage, "with place 0, before the lattice", 6 for the lattice, and 5 for a fourth node, though the first stands above
    ∷ (above_of (above_answer 0 1 0 [] (nodes 0 0 8_193 4 1) too_high) is pos 1_000)
    ∷ (above_of (above_answer 1 1 0 [] (nodes 0 0 8_193 4 1) too_high) is pos 2_000)
    ∷ (above_of (above_answer 1 1 16 [] (nodes 0 0 8_193 4 1) too_high) is pos 8_000)
    ∷ (above_of (above_answer 1 1 16 [] (nodes 0 0 0 4 1) too_high) is pos 4_000)
    ∷ (above_of (above_answer 1 1 16 (peak too_high) (nodes 0 0 0 4 1) too_high) is pos 6_000)
    ∷ (above_of (above_answer 1 1 16 (peak too_high) (nodes 0 0 0 4 1) (pos 8)) is pos 6_015)
    ∷ (above_of (above_answer 1 1 16 level (nodes 0 0 0 4 1) (pos 8)) is pos 5_003)
    -- "Confidence of a survey point": "a fourth list that check 3 covers"; "17 with the point's index for q = 0 in a lent list, after 6 in each point"
    ∷ (refusal_of (lists_check (survey (0 ∷ []) (0 ∷ []) (pos 7 ∷ []) [])) is pos 3_000)
    ∷ (refusal_of (lists_check (point_of 0 (pos 7) 0)) is pos 0)
    ∷ (refusal_of (points_check 16 1 1 (point_of 17 too_high 0)) is pos 5_000)
    ∷ (refusal_of (points_check 16 1 1 (point_of 16 too_high 0)) is pos 6_000)
    ∷ (refusal_of (points_check 16 1 1 (point_of 16 (pos 7) 0)) is pos 17_000)
    ∷ (refusal_of (points_check 16 1 1 (survey (0 ∷ 0 ∷ []) (0 ∷ 0 ∷ []) (pos 7 ∷ pos 7 ∷ []) (255 ∷ 0 ∷ []))) is pos 17_001)
    ∷ (refusal_of (points_check 16 1 1 (point_of 16 (pos 7) 255)) is pos 0)
    -- "The two sums grow by (q × (w × w)) × ((w × z) / S) and q × (w × w)": by their bits, with q = 3, w = 1/7, z = 7 and S = 3/10, where every other
    -- grouping rounds otherwise; and those of document 01's point (0, 0, 9) with q = 3, at the control value (0, 0), where S has no q in it
    ∷ (pos (to_bits binary64 (grown (float (pos 3)) seventh (float (pos 7)) three_tenths no_sums).first) is pos 4_596_520_836_008_691_336)
    ∷ (pos (to_bits binary64 (grown (float (pos 3)) seventh (float (pos 7)) three_tenths no_sums).second) is pos 4_588_984_199_897_581_526)
    ∷ (pos (to_bits binary64 (touched 16 1 1 1 1 nine no_sums).first) is pos 4_621_527_217_613_123_432)
    ∷ (pos (to_bits binary64 (touched 16 1 1 1 1 nine no_sums).second) is pos 4_603_512_819_103_641_448)
    -- "A point file has only PT or only PQ records", of 14 and of 15 bytes; "the first sets the kind"
    ∷ (refusal_of (point_file_check (start 2 ++ seven pt ++ seven pt)) is pos 0)
    ∷ (refusal_of (point_file_check (start 2 ++ seven pq ++ seven pq)) is pos 0)
    -- "A first record with under 14 bytes left is 9 before its mark is read, a PQ with 14 is 9 after it": PT and PQ with 13, PQ and neither with 14
    ∷ (refusal_of (point_file_check (start 1 ++ take 13 (seven pt))) is pos 9_008)
    ∷ (refusal_of (point_file_check (start 1 ++ take 13 (seven pq))) is pos 9_008)
    ∷ (refusal_of (point_file_check (start 1 ++ take 14 (seven pq))) is pos 9_008)
    ∷ (refusal_of (point_file_check (start 1 ++ PH ++ drop 2 (seven pt))) is pos 10_008)
    -- "later records are measured by the kind": PT with 14 and with 15 bytes left after PQ, PQ with 13 and with 14 left after PT
    ∷ (refusal_of (point_file_check (start 2 ++ seven pq ++ seven pt)) is pos 9_023)
    ∷ (refusal_of (point_file_check (start 2 ++ seven pq ++ seven pt ++ (1 ∷ []))) is pos 10_023)
    ∷ (refusal_of (point_file_check (start 2 ++ seven pt ++ take 13 (seven pq))) is pos 9_022)
    ∷ (refusal_of (point_file_check (start 2 ++ seven pt ++ take 14 (seven pq))) is pos 10_022)
    -- "in a file it is 11", at its byte and after z; a file of no points has no kind
    ∷ (refusal_of (point_file_check (start 1 ++ point_record pq (record { x = 0; y = 0; z = pos 7; q = 0 }))) is pos 11_022)
    ∷ (refusal_of (point_file_check (start 1 ++ point_record pq (record { x = 0; y = 0; z = too_high; q = 0 }))) is pos 11_014)
    ∷ (refusal_of (point_file_check (start 0 ++ seven pq)) is pos 12_008)
    -- "a PT point reads as q = 1"
    ∷ (pos (file_q (start 1 ++ seven pt) 0) is pos 1)
    ∷ (pos (file_q (start 1 ++ point_record pq (record { x = 0; y = 0; z = pos 7; q = 255 })) 0) is pos 255)
    ∷ []

-- the whole table, computed
pub examples : T (all_hold table)
unfolding table all_hold ◌is◌ equal single height_of refined_at nonzero floor near_up near_down even near square cube numerator denominator cell offset weighted along height masked finer finer2 refined slope_numerator slope_denominator slope_along slope_x slope_y total near_mean base signed near_float kept kept_of default_step step_of node_x node_y refusal_of pos_part depth depths litres storage in_range within require ◌then◌ first_of range_check counts_check side_check pond_check stage_check heights_check storage_check enough lowest_of stage_at reach_check stage_for_check above_of any_of above any_above control controls cells_check unit_check lattice_check size_check node_check nodes_check above_check answer above_answer lists_check points_check point_check spot_check inside confident columns rows cells_at bytes_of number_of complement uncomplement value_bytes number_at value_at same record_check PH PT PQ point_head point_record point_start file_shape file_points kind_of file_x file_y file_z last_number file_q point_head_check point_record_check point_file_check grown no_sums touched uses weight basis squares add_squares add mul div of_int of_bits to_bits digits
examples = tt
