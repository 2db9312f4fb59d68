-- Order and range are kept by every operation. Assumes nothing.
use mathlib.Core.Path.{◌≡◌, refl, sym, ap, ◌∙◌}
use mathlib.Core.List.{List, [], ◌∷◌, ◌++◌}
use mathlib.Core.Bool.{Bool, true, false, not, cond, ◌&&◌}
use Prim.Native.Nat.{ℕ, ◌≤◌, ◌<◌}
use native.Mathlib.Omega.{arith}
use native.Mathlib.Decide.{dec_le}
use lib.Dec.{leb}
use borrow.Author.Tests.{le-leb, lt-leb, leb-true}
use Rattle.timestamp.specs.declared.Timestamp.{Timestamp}
use Rattle.timestamp.proofs.Tests.{apart, both}
use Rattle.command.specs.Entries.{Entry, stamp_in}
use Rattle.command.specs.Lists.{filter_b, all_b}
use Rattle.command.specs.Buffer.{in_range_of, later_than, placed_of}
use Rattle.command.specs.Ranks.{rank_of}
use Rattle.command.specs.Soundness.{in_order_after, in_order, ordered_in}
use Rattle.command.proofs.Ranks.{rank_in, in_range_rank, later_rank}

-- ---- in range and in order, as facts

pub in_range_tells : (m : Timestamp) (e : Entry) → in_range_of m e ≡ true → (16385 ≤ rank_in m e) × (rank_in m e ≤ 49150)
unfolding in_range_of
in_range_tells m e h =
    let a = apart (leb 16385 (rank_in m e)) (leb (rank_in m e) 49150) (sym (in_range_rank m.0 (stamp_in e)) ∙ h) in
    (leb-true 16385 (rank_in m e) a.0, leb-true (rank_in m e) 49150 a.1)

pub in_range_holds : (m : Timestamp) (e : Entry) → 16385 ≤ rank_in m e → rank_in m e ≤ 49150 → in_range_of m e ≡ true
unfolding in_range_of
in_range_holds m e low high = in_range_rank m.0 (stamp_in e) ∙ both (le-leb 16385 (rank_in m e) low) (le-leb (rank_in m e) 49150 high)

-- each entry is in range, none ranks below lo, and none below one before it
abbrev pub Ordered : Timestamp → ℕ → List Entry → Type 0
Ordered m lo [] = Unit {0}
Ordered m lo (x ∷ xs) = (lo ≤ rank_in m x) × (16385 ≤ rank_in m x) × (rank_in m x ≤ 49150) × Ordered m (rank_in m x) xs

not_later : (m : Timestamp) (x y : Entry) → not (later_than m y x) ≡ leb (rank_in m x) (rank_in m y)
not_later m x y = ap not (later_rank m y x) ∙ twice (leb (rank_in m x) (rank_in m y))
  where
    twice : (t : Bool) → not (not t) ≡ t
    twice true = refl
    twice false = refl

after_tells : (m : Timestamp) (x : Entry) (ys : List Entry) → in_order_after m x ys ≡ true → all_b (in_range_of m) ys ≡ true → Ordered m (rank_in m x) ys
unfolding in_order_after
after_tells m x [] h g = tt
after_tells m x (y ∷ ys) h g =
    let a = apart (not (later_than m y x)) (in_order_after m y ys) h in
    let b = apart (in_range_of m y) (all_b (in_range_of m) ys) g in
    let r = in_range_tells m y b.0 in
    (leb-true (rank_in m x) (rank_in m y) (sym (not_later m x y) ∙ a.0), r.0, r.1, after_tells m y ys a.1 b.1)

after_holds : (m : Timestamp) (x : Entry) (ys : List Entry) → Ordered m (rank_in m x) ys → (in_order_after m x ys ≡ true) × (all_b (in_range_of m) ys ≡ true)
unfolding in_order_after
after_holds m x [] s = (refl, refl)
after_holds m x (y ∷ ys) s =
    let r = after_holds m y ys s.3 in
    (both (not_later m x y ∙ le-leb (rank_in m x) (rank_in m y) s.0) r.0, both (in_range_holds m y s.1 s.2) r.1)

pub ordered_tells : (m : Timestamp) (xs : List Entry) → ordered_in m xs ≡ true → Ordered m 0 xs
unfolding in_order
ordered_tells m [] h = tt
ordered_tells m (x ∷ xs) h =
    let a = apart (in_order_after m x xs) (in_range_of m x && all_b (in_range_of m) xs) h in
    let b = apart (in_range_of m x) (all_b (in_range_of m) xs) a.1 in
    let r = in_range_tells m x b.0 in
    (omega arith, r.0, r.1, after_tells m x xs a.0 b.1)

pub ordered_holds : (m : Timestamp) (xs : List Entry) → Ordered m 0 xs → ordered_in m xs ≡ true
unfolding in_order
ordered_holds m [] s = refl
ordered_holds m (x ∷ xs) s =
    let r = after_holds m x xs s.3 in
    both r.0 (both (in_range_holds m x s.1 s.2) r.1)

-- ---- some go

ordered_lower : (m : Timestamp) (lo hi : ℕ) (xs : List Entry) → lo ≤ hi → Ordered m hi xs → Ordered m lo xs
ordered_lower m lo hi [] h s = tt
ordered_lower m lo hi (x ∷ xs) h s = (omega arith, s.1, s.2, s.3)

pub ordered_filter : (p : Entry → Bool) (m : Timestamp) (lo : ℕ) (xs : List Entry) → Ordered m lo xs → Ordered m lo (filter_b p xs)
ordered_filter p m lo [] s = tt
ordered_filter p m lo (x ∷ xs) s = step (p x) (ordered_filter p m (rank_in m x) xs s.3)
  where
    step : (v : Bool) → Ordered m (rank_in m x) (filter_b p xs) → Ordered m lo (cond v (x ∷ filter_b p xs) (filter_b p xs))
    step true r = (s.0, s.1, s.2, r)
    step false r = ordered_lower m lo (rank_in m x) (filter_b p xs) s.0 r

-- ---- the midpoint moves

-- two stamps in range of both midpoints stand in the same order to both
order_kept : (x y m t : ℕ) → 16385 ≤ rank_of m x → rank_of m x ≤ 49150 → 16385 ≤ rank_of m y → rank_of m y ≤ 49150 → 16385 ≤ rank_of t x → rank_of t x ≤ 49150
    → 16385 ≤ rank_of t y → rank_of t y ≤ 49150 → rank_of m x ≤ rank_of m y → rank_of t x ≤ rank_of t y
unfolding rank_of
order_kept x y m t a b c d e f g h i = omega arith

pub ordered_moved : (m t : Timestamp) (lo low : ℕ) (xs : List Entry)
    → ((y : Entry) → lo ≤ rank_in m y → 16385 ≤ rank_in m y → rank_in m y ≤ 49150 → 16385 ≤ rank_in t y → rank_in t y ≤ 49150 → low ≤ rank_in t y)
    → Ordered m lo xs → Ordered t low (filter_b (in_range_of t) xs)
ordered_moved m t lo low [] f s = tt
ordered_moved m t lo low (x ∷ xs) f s =
    step (in_range_of t x) refl
    (λ g. ordered_moved m t (rank_in m x) (rank_in t x) xs g s.3)
    (ordered_moved m t (rank_in m x) low xs (λ y a b c d e. f y (omega arith) b c d e) s.3)
  where
    step : (v : Bool) → in_range_of t x ≡ v → (((y : Entry) → rank_in m x ≤ rank_in m y → 16385 ≤ rank_in m y → rank_in m y ≤ 49150 → 16385 ≤ rank_in t y
        → rank_in t y ≤ 49150 → rank_in t x ≤ rank_in t y) → Ordered t (rank_in t x) (filter_b (in_range_of t) xs)) → Ordered t low (filter_b (in_range_of
        t) xs)
        → Ordered t low (cond v (x ∷ filter_b (in_range_of t) xs) (filter_b (in_range_of t) xs))
    step true e r n =
        let i = in_range_tells t x e in (
          f x s.0 s.1 s.2 i.0 i.1,
          i.0,
          i.1,
          r (λ y a b c d g. order_kept (stamp_in x) (stamp_in y) m.0 t.0 s.1 s.2 b c i.0 i.1 d g a),
        )
    step false e r n = n

-- ---- one more: among entries in order it goes before the first that ranks higher

abbrev pub insert_by : (Entry → ℕ) → Entry → List Entry → List Entry
insert_by k e [] = e ∷ []
insert_by k e (x ∷ xs) = cond (leb (k x) (k e)) (x ∷ insert_by k e xs) (e ∷ (x ∷ xs))

up_to : (m : Timestamp) (e x : Entry) → rank_in m x ≤ rank_in m e → later_than m e x ≡ false
up_to m e x h = later_rank m e x ∙ ap not (le-leb (rank_in m x) (rank_in m e) h)

beyond : (m : Timestamp) (e x : Entry) → rank_in m e < rank_in m x → later_than m e x ≡ true
beyond m e x h = later_rank m e x ∙ ap not (lt-leb (rank_in m x) (rank_in m e) h)

none_up_to : (m : Timestamp) (e : Entry) (lo : ℕ) (xs : List Entry) → rank_in m e < lo → Ordered m lo xs → filter_b (λ x. not (later_than m e x)) xs ≡ []
none_up_to m e lo [] h s = refl
none_up_to m e lo (x ∷ xs) h s = rw (beyond m e x (omega arith)) (none_up_to m e (rank_in m x) xs (omega arith) s.3)

all_beyond : (m : Timestamp) (e : Entry) (lo : ℕ) (xs : List Entry) → rank_in m e < lo → Ordered m lo xs → filter_b (later_than m e) xs ≡ xs
all_beyond m e lo [] h s = refl
all_beyond m e lo (x ∷ xs) h s = rw (beyond m e x (omega arith)) (ap (λ (l : List Entry). x ∷ l) (all_beyond m e (rank_in m x) xs (omega arith) s.3))

pub placed_is : (m : Timestamp) (e : Entry) (lo : ℕ) (xs : List Entry) → Ordered m lo xs → placed_of m e xs ≡ insert_by (rank_in m) e xs
unfolding placed_of
placed_is m e lo [] s = refl
placed_is m e lo (x ∷ xs) s = step (dec_le (rank_in m x) (rank_in m e)) (placed_is m e (rank_in m x) xs s.3)
  where
    step : Dec (rank_in m x ≤ rank_in m e) → filter_b (λ y. not (later_than m e y)) xs ++ (e ∷ filter_b (later_than m e) xs) ≡ insert_by (rank_in m) e xs
        → filter_b (λ y. not (later_than m e y)) (x ∷ xs) ++ (e ∷ filter_b (later_than m e) (x ∷ xs)) ≡ insert_by (rank_in m) e (x ∷ xs)
    step (yes h) ih = rw (up_to m e x h, le-leb (rank_in m x) (rank_in m e) h) (ap (λ (l : List Entry). x ∷ l) ih)
    step (no h) ih = rw (
      beyond m e x (omega arith),
      lt-leb (rank_in m x) (rank_in m e) (omega arith),
      none_up_to m e (rank_in m x) xs (omega arith)
          s.3,
      all_beyond m e (rank_in m x) xs (omega arith) s.3,
    )

ordered_insert_by : (m : Timestamp) (e : Entry) (lo : ℕ) (xs : List Entry) → 16385 ≤ rank_in m e → rank_in m e ≤ 49150 → lo ≤ rank_in m e → Ordered m lo xs
    → Ordered m lo (insert_by (rank_in m) e xs)
ordered_insert_by m e lo [] a b h s = (h, a, b, tt)
ordered_insert_by m e lo (x ∷ xs) a b h s = step (dec_le (rank_in m x) (rank_in m e)) (λ g. ordered_insert_by m e (rank_in m x) xs a b g s.3)
  where
    step : Dec (rank_in m x ≤ rank_in m e) → (rank_in m x ≤ rank_in m e → Ordered m (rank_in m x) (insert_by (rank_in m) e xs))
        → Ordered m lo (insert_by (rank_in m) e (x ∷ xs))
    step (yes g) ih = rw (le-leb (rank_in m x) (rank_in m e) g) (s.0, s.1, s.2, ih g)
    step (no g) ih = rw (lt-leb (rank_in m x) (rank_in m e) (omega arith)) (h, a, b, (omega arith, s.1, s.2, s.3))

pub ordered_placed : (m : Timestamp) (e : Entry) (xs : List Entry) → in_range_of m e ≡ true → Ordered m 0 xs → Ordered m 0 (placed_of m e xs)
ordered_placed m e xs h s =
    let r = in_range_tells m e h in
    rw (placed_is m e 0 xs s) (ordered_insert_by m e 0 xs r.0 r.1 (omega arith) s)
