-- Stripes of a raster: one row more, one strip more, and all of them as one list.
use Rattle.std.specs.Prelude.{◌≡◌, refl, List, ℕ, zero, suc, ◌+◌, ◌-◌, ◌*◌, ◌/◌, ◌%◌, ◌≤◌, ◌<◌, ℤ, pos, length, get_or}
use Rattle.std.proofs.Common.{sym, ap, ◌∙◌, inl, inr, mul-le-mul_right, mul_comm, mod-lt, div-add-mod', div-lt_iff_lt-mul, zero-mul, not-suc-le-zero, arith, ext_get_or}
use Rattle.std.proofs.Math.Decide.{dec_lt}
use Rattle.algebra.specs.Table.{Apart, tabulate, over, laid, length_tabulate, get_d_tabulate, length_laid, get_d_laid, get_d_apart, length_over, get_d_over, get_d_past}
use Rattle.strips.specs.Strips.{Striped}

-- where a strip has no entry, nothing changes
pub unchanged : (columns rows from to : ℕ) (f : ℕ → ℕ → ℤ) (d : List ℤ) → ((j c : ℕ) → j < rows → from ≤ c → c < to → ⊥) → Striped columns rows from to f d d
unchanged columns rows from to f d none =
    record { same_length = refl; inside = λ j c h k n. absurd (none j c h k n); left = λ j c h k. refl; right = λ j c h k n. refl; past = λ q h. refl }

-- ---- one row more

-- row j, laid at its place
module _ (columns from w : ℕ) (f : ℕ → ℕ → ℤ) (j : ℕ) (first before : List ℤ) {after : List ℤ} (narrow : from + w ≤ columns) (room : j * columns + from + w ≤ length before)
    (row : after ≡ laid (j * columns + from) (tabulate w (λ i. f j (from + i))) before) where
  abbrev entries : List ℤ
  entries = tabulate w (λ i. f j (from + i))

  many : length entries ≡ w
  many = length_tabulate w (λ i. f j (from + i))

  others : (q : ℕ) → Apart q 1 (j * columns + from) (length entries) → get_or after q (pos 0) ≡ get_or before q (pos 0)
  others q a = ap (λ d. get_or d q (pos 0)) row ∙ get_d_apart q (j * columns + from) entries before (pos 0) a (omega arith)

  before_row : (q : ℕ) → q < j * columns + from → get_or after q (pos 0) ≡ get_or before q (pos 0)
  before_row q h = others q (inl (omega arith))

  after_row : (q : ℕ) → j * columns + from + w ≤ q → get_or after q (pos 0) ≡ get_or before q (pos 0)
  after_row q h = others q (inr (rw many h))

  in_row : (c : ℕ) → from ≤ c → c < from + w → get_or after (j * columns + c) (pos 0) ≡ f j c
  in_row c h k =
      let i = c - from in
      let place : j * columns + c ≡ j * columns + from + i = omega arith in
      let same : from + i ≡ c = omega arith in
      ap (λ q. get_or after q (pos 0)) place
      ∙ ap (λ d. get_or d (j * columns + from + i) (pos 0)) row
      ∙ get_d_laid (j * columns + from) entries before i (pos 0) (rw many (omega arith)) (omega arith)
      ∙ get_d_tabulate w (λ i. f j (from + i)) i (pos 0) (omega arith)
      ∙ ap (f j) same

  -- an earlier row ends before it
  earlier : (k c : ℕ) → k < j → c < columns → k * columns + c < j * columns
  earlier k c h l = omega (arith, mul-le-mul_right columns h)

  pub row_more : Striped columns j from (from + w) f first before → Striped columns (j + 1) from (from + w) f first after
  row_more had =
      record {
        same_length = ap length row ∙ length_laid (j * columns + from) entries before (rw many room) ∙ had.same_length;
        inside = λ k c h n m. inside k c n m (dec_lt k j) h;
        left = λ k c h n. left k c n (dec_lt k j) h;
        right = λ k c h n m. right k c n m (dec_lt k j) h;
        past = λ q h. after_row q (omega arith) ∙ had.past q (omega arith);
      }
    where
      inside : (k c : ℕ) → from ≤ c → c < from + w → Dec (k < j) → k < j + 1 → get_or after (k * columns + c) (pos 0) ≡ f k c
      inside k c n m (yes h) l = before_row (k * columns + c) (omega (arith, earlier k c h (omega arith))) ∙ had.inside k c h n m
      inside k c n m (no h) l = let same : k ≡ j = omega arith in rw same (in_row c n m)

      left : (k c : ℕ) → c < from → Dec (k < j) → k < j + 1 → get_or after (k * columns + c) (pos 0) ≡ get_or first (k * columns + c) (pos 0)
      left k c n (yes h) l = before_row (k * columns + c) (omega (arith, earlier k c h (omega arith))) ∙ had.left k c h n
      left k c n (no h) l =
          let same : k ≡ j = omega arith in
          rw same (before_row (j * columns + c) (omega arith) ∙ had.past (j * columns + c) (omega arith))

      right : (k c : ℕ) → from + w ≤ c → c < columns → Dec (k < j) → k < j + 1 → get_or after (k * columns + c) (pos 0) ≡ get_or first (k * columns + c) (pos 0)
      right k c n m (yes h) l = before_row (k * columns + c) (omega (arith, earlier k c h m)) ∙ had.right k c h n m
      right k c n m (no h) l =
          let same : k ≡ j = omega arith in
          rw same (after_row (j * columns + c) (omega arith) ∙ had.past (j * columns + c) (omega arith))

-- ---- strips side by side

some_factor : (a b q : ℕ) → q < a * b → 0 < a
some_factor zero b q h = absurd (not-suc-le-zero (rw (zero-mul b) at h))
some_factor (suc a) b q h = omega arith

module _ (columns rows : ℕ) (f : ℕ → ℕ → ℤ) where
  -- a strip from column k on and before column t
  pub strip_more : (k t : ℕ) {first before after : List ℤ} → k ≤ t
      → Striped columns rows 0 k f first before → Striped columns rows k t f before after → Striped columns rows 0 t f first after
  strip_more k t {after = after} later had new =
      record {
        same_length = new.same_length ∙ had.same_length;
        inside = λ j c h m n. inside j c h n (dec_lt c k);
        left = λ j c h n. absurd (not-suc-le-zero n);
        right = λ j c h n m. new.right j c h n m ∙ had.right j c h (omega arith) m;
        past = λ q h. new.past q h ∙ had.past q h;
      }
    where
      inside : (j c : ℕ) → j < rows → c < t → Dec (c < k) → get_or after (j * columns + c) (pos 0) ≡ f j c
      inside j c h n (yes l) = new.left j c h l ∙ had.inside j c h (omega arith) l
      inside j c h n (no l) = new.inside j c h (omega arith) n

  -- all columns: the list of the nodes, over what there was
  pub all_striped : {before after : List ℤ} → columns * rows ≤ length before → Striped columns rows 0 columns f before after
      → after ≡ over (tabulate (columns * rows) (λ q. f (q / columns) (q % columns))) before
  all_striped {before} {after} room had = ext_get_or (pos 0) after (over list before) (had.same_length ∙ sym (length_over list before (rw many room))) (λ q h. go q (dec_lt q (columns * rows)))
    where
      g : ℕ → ℤ
      g q = f (q / columns) (q % columns)

      list : List ℤ
      list = tabulate (columns * rows) g

      many : length list ≡ columns * rows
      many = length_tabulate (columns * rows) g

      go : (q : ℕ) → Dec (q < columns * rows) → get_or after q (pos 0) ≡ get_or (over list before) q (pos 0)
      go q (yes h) = inside (some_factor columns rows q h) ∙ sym (get_d_over list before q (pos 0) (rw many h) ∙ get_d_tabulate (columns * rows) g q (pos 0) h)
        where
          inside : 0 < columns → get_or after q (pos 0) ≡ g q
          inside c =
              let e : q ≡ q / columns * columns + q % columns = omega (arith, div-add-mod' q columns) in
              ap (λ p. get_or after p (pos 0)) e
              ∙ had.inside (q / columns) (q % columns) ((div-lt_iff_lt-mul c).1 (rw (mul_comm rows columns) h)) (omega arith) (mod-lt q c)
      go q (no h) = had.past q (omega (arith, mul_comm rows columns)) ∙ sym (get_d_past list before q (pos 0) (rw many (omega arith)))
