-- Laws of the bytes of a file, for every width w: a number of w bytes and a signed number of w bytes, each both ways, what stands at a byte of a file
-- by the file's entries, and a file as parts that follow one another.
use Rattle.std.specs.Prelude.{◌≡◌, Bool, true, false, cond, List, [], ◌∷◌, ◌++◌, ltb, T, eqb, ℤ, pos, negsuc, nat_abs, length, get_or, take, drop}
use Rattle.std.proofs.Math.Path.{refl}
use Rattle.std.proofs.Common.{ap, ◌∙◌, sym, ap₂, append_assoc, append-nil, zero-add, suc-add, pow-suc, div-one, not-suc-le-zero, lt-ltb, le-ltb, lit<, le→leb, eqb→eq, length-append, length-take, length-drop, take-append-drop, drop-drop, get_or-drop, get_or-take, take_at, length-take-le}
use Rattle.std.proofs.Math.Option.{none}
use Prim.Native.Nat.{ℕ, zero, suc, ◌+◌, ◌-◌, ◌*◌, ◌/◌, ◌%◌, ◌^◌, ◌<◌, ◌≤◌}
use Rattle.std.proofs.Math.Nat.{pow-succ', one-le-pow, div-div-eq-div-mul}
use native.Mathlib.Omega.{arith}
use Rattle.std.proofs.Math.Decide.{dec_lt}
use Rattle.std.proofs.Math.Arith.{mod-mul}
use Rattle.std.proofs.Math.Dec.{leb→le, eqb_refl}
use Rattle.std.proofs.Math.ListN.{get_or-eq_default}
use Rattle.std.proofs.Math.Seq.{take-nil, drop-length, drop-append_seam}
use Rattle.std.specs.Float.Ieee.Fits.{and_i}
use Rattle.std.proofs.Math.Facts.{and_yes}
use Rattle.algebra.specs.Table.{joined}
use Rattle.rules.specs.Grid.{limit}
use Rattle.rules.specs.Answers.{mark}
use Rattle.rules.specs.Bytes.{bytes_of, number_of, complement, uncomplement, number_at, value_bytes, value_at, same, record_check}
use Rattle.rules.proofs.Laws.Checks.{required, require_met, then_first, then_rest, then_none}
use Rattle.rules.specs.Laws.Bytes.{AreBytes, Signed, entries, Spans}

-- ---- the bytes of a number

pub length_bytes_of : (w v : ℕ) → length (bytes_of w v) ≡ w
unfolding bytes_of
length_bytes_of zero v = refl
length_bytes_of (suc w) v = ap suc (length_bytes_of w (v / 256))

pub are_bytes_bytes_of : (w v : ℕ) → AreBytes (bytes_of w v)
unfolding bytes_of
are_bytes_bytes_of zero v i = lit< tt
are_bytes_bytes_of (suc w) v zero = omega arith
are_bytes_bytes_of (suc w) v (suc i) = are_bytes_bytes_of w (v / 256) i

pub number_of_below : (bs : List ℕ) → AreBytes bs → number_of bs < 256 ^ length bs
unfolding number_of
number_of_below [] h = lit< tt
number_of_below (b ∷ bs) h = omega (arith, h 0, pow-suc 256 (length bs), number_of_below bs (λ i. h (suc i)))

pub number_of_bytes_of : (w v : ℕ) → v < 256 ^ w → number_of (bytes_of w v) ≡ v
unfolding bytes_of number_of
number_of_bytes_of zero v h = omega arith
number_of_bytes_of (suc w) v h = omega (arith, number_of_bytes_of w (v / 256) (omega (arith, pow-suc 256 w)))

pub bytes_of_number_of : (bs : List ℕ) → AreBytes bs → bytes_of (length bs) (number_of bs) ≡ bs
unfolding bytes_of number_of
bytes_of_number_of [] h = refl
bytes_of_number_of (b ∷ bs) h =
    let low : (b + 256 * number_of bs) % 256 ≡ b = omega (arith, h 0) in
    let high : (b + 256 * number_of bs) / 256 ≡ number_of bs = omega (arith, h 0) in
    rw (low, high) (ap (λ l. b ∷ l) (bytes_of_number_of bs (λ i. h (suc i))))

-- the bytes of a number, some and then the others
pub bytes_of_split : (w u v : ℕ) → bytes_of (w + u) v ≡ bytes_of w v ++ bytes_of u (v / 256 ^ w)
unfolding bytes_of
bytes_of_split zero u v = rw (zero-add u, div-one v)
bytes_of_split (suc w) u v =
    rw (suc-add w u, pow-succ' 256 w, ← div-div-eq-div-mul v 256 (256 ^ w)) (ap (λ l. v % 256 ∷ l) (bytes_of_split w u (v / 256)))

-- the bytes above the lowest w do not matter to these
pub bytes_of_low : (w v : ℕ) → bytes_of w (v % 256 ^ w) ≡ bytes_of w v
unfolding bytes_of
bytes_of_low zero v = refl
bytes_of_low (suc w) v =
    let e : v % 256 ^ suc w ≡ (v / 256 % 256 ^ w) * 256 + v % 256 = ap (λ n. v % n) (pow-suc 256 w) ∙ mod-mul v (one-le-pow w 256 (lit< tt)) (lit< tt) in
    let low : (v % 256 ^ suc w) % 256 ≡ v % 256 = omega arith in
    let high : (v % 256 ^ suc w) / 256 ≡ v / 256 % 256 ^ w = omega arith in
    rw (low, high) (ap (λ l. v % 256 ∷ l) (bytes_of_low w (v / 256)))

-- ---- two's complement

pub complement_below : (w : ℕ) (z : ℤ) → Signed w z → complement w z < 256 ^ w
unfolding complement
complement_below w (pos v) h = omega arith
complement_below w (negsuc v) h = omega arith

pub uncomplement_complement : (w : ℕ) (z : ℤ) → Signed w z → uncomplement w (complement w z) ≡ z
unfolding complement uncomplement
uncomplement_complement w (pos v) h = simp (lt-ltb (2 * v) (256 ^ w) (omega arith))
uncomplement_complement w (negsuc v) h =
    simp (le-ltb (2 * (256 ^ w - suc v)) (256 ^ w) (omega arith)) (ap negsuc (omega arith))

pub complement_uncomplement : (w v : ℕ) → v < 256 ^ w → complement w (uncomplement w v) ≡ v
unfolding complement uncomplement
complement_uncomplement w v h = go (ltb (2 * v) (256 ^ w))
  where
    go : (b : Bool) → complement w (cond b (pos v) (negsuc (256 ^ w - suc v))) ≡ v
    go true = refl
    go false = omega arith

number_of_more : (w : ℕ) (l : List ℕ) → number_of (take (suc w) l) ≡ get_or l 0 0 + 256 * number_of (take w (drop 1 l))
unfolding number_of
number_of_more w [] = rw (take-nil w) refl
number_of_more w (b ∷ bs) = refl

pub number_at_past : (w : ℕ) (file : List ℕ) (b k : ℕ) → number_at w file (b + k) ≡ entries w file b k
unfolding number_of number_at entries
number_at_past zero file b k = refl
number_at_past (suc w) file b k =
    let next : b + k + 1 ≡ b + suc k = omega arith in
    let here : b + k + 0 ≡ b + k = omega arith in
    number_of_more w (drop (b + k) file)
    ∙ rw (get_or-drop (b + k) file 0 0, drop-drop 1 (b + k) file, next, here)
    (ap (λ n. get_or file (b + k) 0 + 256 * n) (number_at_past w file b (suc k)))

pub number_at_entries : (w : ℕ) (file : List ℕ) (b : ℕ) → number_at w file b ≡ entries w file b 0
number_at_entries w file b = let e : b ≡ b + 0 = omega arith in ap (number_at w file) e ∙ number_at_past w file b 0

pub spans_whole : (file : List ℕ) → Spans file 0 (length file) file
spans_whole file = record { cut = rw (drop-length file) (sym (append-nil file)); ends = omega arith }

pub spans_file : {file part : List ℕ} → Spans file 0 (length file) part → part ≡ file
spans_file {file} {part} x = sym (x.cut ∙ ap (λ l. part ++ l) (drop-length file) ∙ append-nil part)

pub spans_join : {file p q : List ℕ} {b c d : ℕ} → Spans file b c p → Spans file c d q → Spans file b d (p ++ q)
spans_join {file} {p} {q} {b} {c} {d} x y = record {
  cut = x.cut ∙ ap (λ l. p ++ l) y.cut ∙ sym (append_assoc p q (drop d file));
  ends = rw (length-append p q) (omega arith);
}

pub spans_split : (p q : List ℕ) (c : ℕ) {file : List ℕ} {b d : ℕ} → Spans file b d (p ++ q) → c + length q ≡ d → Spans file b c p × Spans file c d q
spans_split p q c {file} {b} {d} x e =
    (record { cut = x.cut ∙ append_assoc p q (drop d file) ∙ ap (λ l. p ++ l) (sym rest); ends = middle }, record { cut = rest; ends = e })
  where
    middle : b + length p ≡ c
    middle = omega (arith, x.ends, length-append p q)

    rest : drop c file ≡ q ++ drop d file
    rest =
        ap (λ k. drop k file) (sym middle)
        ∙ sym (drop-drop (length p) b file)
        ∙ ap (drop (length p)) (x.cut ∙ append_assoc p q (drop d file))
        ∙ drop-append_seam p (q ++ drop d file)

pub spans_moved : {file p : List ℕ} {b c d e : ℕ} → b ≡ d → c ≡ e → Spans file b c p → Spans file d e p
spans_moved {file} {p} g h x = rw (← g, ← h) x

-- Parts that follow one another, where part i begins at s i.
module _ {file : List ℕ} (s : ℕ → ℕ) (f : ℕ → List ℕ) where
  pub spans_joined : (n : ℕ) → ((i : ℕ) → i < n → Spans file (s i) (s (suc i)) (f i)) → Spans file (s 0) (s n) (joined n f)
  unfolding joined
  spans_joined zero h = record { cut = refl; ends = omega arith }
  spans_joined (suc n) h = spans_join (spans_joined n (λ i k. h i (omega arith))) (h n (omega arith))

  pub spans_part : (n : ℕ) → ((i : ℕ) → s i + length (f i) ≡ s (suc i)) → Spans file (s 0) (s n) (joined n f)
      → (i : ℕ) → i < n → Spans file (s i) (s (suc i)) (f i)
  unfolding joined
  spans_part zero e x i h = absurd (not-suc-le-zero h)
  spans_part (suc n) e x i h = let halves = spans_split (joined n f) (f n) (s n) x (e n) in go (dec_lt i n) (spans_part n e halves.0 i) halves.1
    where
      go : Dec (i < n) → (i < n → Spans file (s i) (s (suc i)) (f i)) → Spans file (s n) (s (suc n)) (f n) → Spans file (s i) (s (suc i)) (f i)
      go (yes l) before last = before l
      go (no g) before last = let at : i ≡ n = omega arith in rw at last

pub spans_take : {file part : List ℕ} {b c : ℕ} (w : ℕ) → length part ≡ w → Spans file b c part → take w (drop b file) ≡ part
spans_take {file} {part} {b} {c} w e x = ap (take w) x.cut ∙ take_at part (drop c file) w e

-- a part that is not empty ends within the file
pub spans_fits : {file part : List ℕ} {b c : ℕ} → Spans file b c part → b < c → c ≤ length file
spans_fits {file} {part} {b} {c} x l =
    let e : length file - b ≡ length part + (length file - c) =
    sym (length-drop b file) ∙ ap length x.cut ∙ length-append part (drop c file) ∙ ap (λ (k : ℕ). length part + k) (length-drop c file) in
    omega (arith, x.ends)

-- the w bytes from b on, where they are known
spans_of : {part : List ℕ} (file : List ℕ) (b w c : ℕ) → b + w ≡ c → take w (drop b file) ≡ part → length part ≡ w → Spans file b c part
spans_of {part} file b w c e t l = record {
  cut =
      sym (take-append-drop w (drop b file))
      ∙ ap₂ (λ p q. p ++ q) t (drop-drop w b file ∙ ap (λ k. drop k file) e);
  ends = omega arith;
}

-- ---- a number, a value and a mark as parts

pub number_read : {file : List ℕ} {b c v : ℕ} (w : ℕ) → v < 256 ^ w → Spans file b c (bytes_of w v) → number_at w file b ≡ v
unfolding number_at
number_read {v = v} w h x = ap number_of (spans_take w (length_bytes_of w v) x) ∙ number_of_bytes_of w v h

are_bytes_part : (file : List ℕ) → AreBytes file → (b w : ℕ) → AreBytes (take w (drop b file))
are_bytes_part file h b w i = go (dec_lt i w)
  where
    go : Dec (i < w) → get_or (take w (drop b file)) i 0 < 256
    go (yes k) = rw (get_or-take w (drop b file) i 0 k, get_or-drop b file i 0) (h (b + i))
    go (no g) =
        rw (get_or-eq_default (take w (drop b file)) 0 {n = i} (rw (length-take w (drop b file)) (omega arith))) (lit< tt)

-- a number that lies within a file of bytes
width : (file : List ℕ) (b w : ℕ) → b + w ≤ length file → length (take w (drop b file)) ≡ w
width file b w l = length-take-le w (drop b file) (rw (length-drop b file) (omega arith))

pub number_below : (file : List ℕ) → AreBytes file → (b w : ℕ) → b + w ≤ length file → number_at w file b < 256 ^ w
unfolding number_at
number_below file h b w l = rw (width file b w l) at (number_of_below (take w (drop b file)) (are_bytes_part file h b w))

pub number_spans : {file : List ℕ} → AreBytes file → {b c v : ℕ} (w : ℕ) → number_at w file b ≡ v → b + w ≡ c → c ≤ length file → Spans file b c (bytes_of w v)
unfolding number_at
number_spans {file} h {b} {c} {v} w n e l =
    let part = take w (drop b file) in
    let again : bytes_of (length part) (number_of part) ≡ part = bytes_of_number_of part (are_bytes_part file h b w) in
    spans_of file b w c e (sym (rw (width file b w (omega arith), n) at again)) (length_bytes_of w v)

range_signed : (z : ℤ) → nat_abs z ≤ limit → Signed 8 z
range_signed (pos v) h = omega arith
range_signed (negsuc v) h = omega arith

pub value_read : {file : List ℕ} {b c : ℕ} {z : ℤ} → nat_abs z ≤ limit → Spans file b c (value_bytes z) → value_at file b ≡ z
unfolding value_at value_bytes
value_read {z = z} h x =
    let s = range_signed z h in
    ap (uncomplement 8) (number_read 8 (complement_below 8 z s) x) ∙ uncomplement_complement 8 z s

pub value_spans : {file : List ℕ} → AreBytes file → {b c : ℕ} {z : ℤ} → value_at file b ≡ z → b + 8 ≡ c → c ≤ length file → Spans file b c (value_bytes z)
unfolding value_at value_bytes
value_spans {file} h {b} {c} n e l =
    number_spans h 8 (sym (complement_uncomplement 8 (number_at 8 file b) (number_below file h b 8 (omega arith))) ∙ ap (complement 8) n) e l

pub length_value_bytes : (z : ℤ) → length (value_bytes z) ≡ 8
unfolding value_bytes
length_value_bytes z = length_bytes_of 8 (complement 8 z)

same_equal : (xs ys : List ℕ) → T (same xs ys) → xs ≡ ys
unfolding same
same_equal [] [] t = refl
same_equal [] (y ∷ ys) t = absurd t
same_equal (x ∷ xs) [] t = absurd t
same_equal (x ∷ xs) (y ∷ ys) t =
    let p = and_yes (eqb x y) (same xs ys) t in
    ap₂ (λ z zs. z ∷ zs) (eqb→eq x y p.0) (same_equal xs ys p.1)

same_self : (xs : List ℕ) → T (same xs xs)
unfolding same
same_self [] = tt
same_self (x ∷ xs) = and_i (eqb x x) (same xs xs) (eqb_refl x) (same_self xs)

-- a record that is complete and has its mark
module _ (due : List ℕ) (e : length due ≡ 2) (file : List ℕ) (s n : ℕ) where
  pub record_fits : record_check due file s n ≡ none → s + n ≤ length file
  unfolding record_check
  record_fits p = leb→le (s + n) (length file) (required _ _ (then_first _ _ p))

  pub record_mark : record_check due file s n ≡ none → Spans file s (s + 2) due
  unfolding record_check
  record_mark p = spans_of file s 2 (s + 2) refl (same_equal (take 2 (drop s file)) due (required _ _ (then_rest _ _ p))) e

  pub record_met : s + n ≤ length file → Spans file s (s + 2) due → record_check due file s n ≡ none
  unfolding record_check
  record_met l x =
      then_none _ _ (require_met _ _ (le→leb (s + n) (length file) l))
      ∙ require_met (same (take 2 (drop s file)) due) (mark s) (rw (spans_take 2 e x) (same_self due))
