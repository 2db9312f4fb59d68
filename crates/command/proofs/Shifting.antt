-- What a loop keeps that moves the entries later than a new one up by a slot, from the back: where it stops, the new one has its place. Assumes nothing.
use mathlib.Core.Path.{◌≡◌, sym, ap, ◌∙◌}
use mathlib.Core.List.{List, [], ◌∷◌, ◌++◌, append_assoc, append-nil}
use mathlib.Core.Bool.{true, not}
use Prim.Native.Nat.{ℕ, suc, ◌+◌, ◌-◌, ◌≤◌, ◌<◌}
use native.Mathlib.Omega.{arith}
use lib.ListN.{length, take, drop, get_or, set, replicate, length-set, drop_of_length-le, take-append-drop}
use lib.Seq.{take-suc, drop-cons, take-take, get_or-take, take-set-le, set_split, drop_at, length-take-le, drop-append-add}
use borrow.Author.Tests.{le-leb, lt-leb}
use Rattle.timestamp.specs.declared.Timestamp.{Timestamp}
use Rattle.command.specs.Entries.{Entry}
use Rattle.command.specs.Lists.{filter_b}
use Rattle.command.specs.Buffer.{blank, later_than, placed_of}
use Rattle.command.specs.Slots.{buffer_at, HasPlace, Placed}
use Rattle.command.proofs.Lists.{filter-append}
use Rattle.command.proofs.Holding.{as_laid, is_laid}
use Rattle.command.proofs.Ranks.{rank_in, later_rank}
use Rattle.command.proofs.Ordered.{Ordered, insert_by, placed_is}
use Rattle.command.proofs.Ledger.{placed_length}
use Rattle.command.proofs.Soundness.{sound_tells}
use Rattle.command.proofs.Tidy.{tidy_tells}

-- ---- a place, from the back

module _ (t : Timestamp) (x : Entry) where
  -- before an entry that is later
  placed_before : (ys : List Entry) (y : Entry) → rank_in t x < rank_in t y → placed_of t x (ys ++ (y ∷ [])) ≡ placed_of t x ys ++ (y ∷ [])
  unfolding placed_of
  placed_before ys y h =
      let later : later_than t x y ≡ true = later_rank t x y ∙ ap not (lt-leb (rank_in t y) (rank_in t x) h) in
      rw (filter-append (λ z. not (later_than t x z)) ys (y ∷ []), filter-append (later_than t x) ys (y ∷ []), later, append-nil)
      (sym (append_assoc (filter_b (λ z. not (later_than t x z)) ys) (x ∷ filter_b (later_than t x) ys) (y ∷ [])))

  last_ranks : (lo : ℕ) (ys : List Entry) (y : Entry) → Ordered t lo (ys ++ (y ∷ [])) → lo ≤ rank_in t y
  last_ranks lo [] y s = s.0
  last_ranks lo (z ∷ ys) y s = omega (arith, s.0, last_ranks (rank_in t z) ys y s.3)

  -- after an entry that is not later, and so after all before it
  inserted_last : (lo : ℕ) (ys : List Entry) (y : Entry) → Ordered t lo (ys ++ (y ∷ [])) → rank_in t y ≤ rank_in t x
      → insert_by (rank_in t) x (ys ++ (y ∷ [])) ≡ (ys ++ (y ∷ [])) ++ (x ∷ [])
  inserted_last lo [] y s h = rw (le-leb (rank_in t y) (rank_in t x) h)
  inserted_last lo (z ∷ ys) y s h =
      rw (le-leb (rank_in t z) (rank_in t x) (omega (arith, last_ranks (rank_in t z) ys y s.3)))
      (ap (λ (l : List Entry). z ∷ l) (inserted_last (rank_in t z) ys y s.3 h))

  ordered_front : (lo : ℕ) (ys zs : List Entry) → Ordered t lo (ys ++ zs) → Ordered t lo ys
  ordered_front lo [] zs s = tt
  ordered_front lo (y ∷ ys) zs s = (s.0, s.1, s.2, ordered_front (rank_in t y) ys zs s.3)

  placed_last : (ys : List Entry) (y : Entry) (zs : List Entry) → Ordered t 0 ((ys ++ (y ∷ [])) ++ zs) → rank_in t y ≤ rank_in t x
      → placed_of t x (ys ++ (y ∷ [])) ≡ (ys ++ (y ∷ [])) ++ (x ∷ [])
  placed_last ys y zs s h =
      let o = ordered_front 0 (ys ++ (y ∷ [])) zs s in
      placed_is t x 0 (ys ++ (y ∷ [])) o ∙ inserted_last 0 ys y o h

-- ---- the loop

-- of the first n of the slots `was`, in the slots e: those from i on stand one slot up, and x goes before them
pub record Shifting (was : List Entry) (n : ℕ) (t : Timestamp) (x : Entry) (i : ℕ) (e : List Entry) : Type 0 where
  pub slots : length e ≡ 64
  pub few : n < 64
  pub count : n ≡ length (take n was)
  pub most : i ≤ n
  pub order : Ordered t 0 (take n was)
  pub front : take i e ≡ take i (take n was)
  pub back : drop (suc i) e ≡ drop i (take n was) ++ replicate (63 - n) blank
  pub same : placed_of t x (take n was) ≡ placed_of t x (take i (take n was)) ++ drop i (take n was)

pub shift_none : (was : List Entry) (n : ℕ) (t : Timestamp) (x : Entry) → HasPlace was n t → Shifting was n t x n was
shift_none was n t x p =
    let xs = take n was in
    let q = tidy_tells (buffer_at was n t) p.slots p.tidy in
    let l = as_laid (buffer_at was n t) q.clean in
    let all : take n xs ≡ xs = take-take n n was (omega arith) in
    let none : drop n xs ≡ [] = drop_of_length-le xs {i = n} (omega (arith, l.count)) in
    let rest : 64 - length xs ≡ suc (63 - n) = omega (arith, l.count, p.few) in
    let next : suc n ≡ length xs + 1 = omega (arith, l.count) in
    record {
      slots = p.slots;
      few = p.few;
      count = l.count;
      most = omega arith;
      order = (sound_tells (buffer_at was n t) q.sound).order;
      front = sym all;
      back = ap (drop (suc n)) l.slots ∙ ap (λ (k : ℕ). drop k (xs ++ replicate (64 - length xs) blank)) next
          ∙ drop-append-add xs (replicate (64 - length xs) blank) 1 ∙ ap (λ (k : ℕ). drop 1 (replicate k blank)) rest
          ∙ ap (λ (l : List Entry). l ++ replicate (63 - n) blank) (sym none);
      same = rw (all, none) (sym (append-nil (placed_of t x xs)));
    }

module _ {was : List Entry} {n : ℕ} {t : Timestamp} {x : Entry} {i : ℕ} {e : List Entry} (s : Shifting was n t x i e) where
  -- x in the slot i, where it goes after all before it
  placed_at : placed_of t x (take i (take n was)) ≡ take i (take n was) ++ (x ∷ []) → Placed was n t x (set e i x)
  placed_at h =
      let xs = take n was in
      let zs = replicate (63 - n) blank in
      let left : 64 - length (placed_of t x xs) ≡ 63 - n = omega (arith, placed_length t x xs, s.count, s.few) in
      let stored : set e i x ≡ take i xs ++ (x ∷ (drop i xs ++ zs)) = set_split e i x (omega (arith, s.slots, s.few, s.most))
      ∙ rw (s.front, s.back) in
      let whole : placed_of t x xs ++ zs ≡ take i xs ++ (x ∷ (drop i xs ++ zs)) = rw (s.same, h) (simp append_assoc) in
      record {
        buffer = is_laid t (record {
          slots = stored ∙ sym whole ∙ ap (λ (k : ℕ). placed_of t x xs ++ replicate k blank) (sym left);
          count = omega (arith, placed_length t x xs, s.count);
        });
        slots = length-set e i x ∙ s.slots;
      }

  -- no entry is left
  pub shift_end : i ≡ 0 → Placed was n t x (set e 0 x)
  unfolding placed_of
  shift_end z = rw z at (placed_at (rw z))

  module _ (h : 0 < i) where
    read : get_or e (i - 1) blank ≡ get_or (take n was) (i - 1) blank
    read = sym (get_or-take i e (i - 1) blank (omega arith)) ∙ ap (λ (l : List Entry). get_or l (i - 1) blank) s.front
        ∙ get_or-take i (take n was) (i - 1) blank (omega arith)

    up : i ≡ suc (i - 1)
    up = omega arith

    front_last : take i (take n was) ≡ take (i - 1) (take n was) ++ (get_or e (i - 1) blank ∷ [])
    front_last = ap (λ (k : ℕ). take k (take n was)) up ∙ take-suc (take n was) (i - 1) blank (omega (arith, s.count, s.most))
        ∙ ap (λ (y : Entry). take (i - 1) (take n was) ++ (y ∷ [])) (sym read)

    back_first : drop (i - 1) (take n was) ≡ get_or e (i - 1) blank ∷ drop i (take n was)
    back_first = drop-cons (take n was) (i - 1) blank (omega (arith, s.count, s.most))
        ∙ ap (λ (y : Entry). y ∷ drop (suc (i - 1)) (take n was)) (sym read) ∙ ap (λ (k : ℕ). get_or e (i - 1) blank ∷ drop k (take n was)) (sym up)

    -- the entry before is not later
    pub shift_stop : rank_in t (get_or e (i - 1) blank) ≤ rank_in t x → Placed was n t x (set e i x)
    shift_stop g =
        let xs = take n was in
        let o : Ordered t 0 ((take (i - 1) xs ++ (get_or e (i - 1) blank ∷ [])) ++ drop i xs) = rw (← front_last, take-append-drop i xs) s.order in
        placed_at (rw front_last (placed_last t x (take (i - 1) xs) (get_or e (i - 1) blank) (drop i xs) o g))

    -- the entry before is later: it moves up
    pub shift_next : rank_in t x < rank_in t (get_or e (i - 1) blank) → Shifting was n t x (i - 1) (set e i (get_or e (i - 1) blank))
    shift_next g =
        let xs = take n was in
        let y = get_or e (i - 1) blank in
        let below : i - 1 ≤ i = omega arith in
        let few : i < length e = omega (arith, s.slots, s.few, s.most) in
        record {
          slots = length-set e i y ∙ s.slots;
          few = s.few;
          count = s.count;
          most = omega (arith, s.most);
          order = s.order;
          front = take-set-le (i - 1) e i y below ∙ sym (take-take (i - 1) i e below) ∙ ap (take (i - 1)) s.front ∙ take-take (i - 1) i xs below;
          back = ap (λ (k : ℕ). drop k (set e i y)) (sym up) ∙ ap (drop i) (set_split e i y few)
              ∙ drop_at (take i e) (y ∷ drop (suc i) e) i (length-take-le i e (omega arith)) ∙ rw (s.back, back_first);
          same = s.same ∙ rw (front_last, placed_before t x (take (i - 1) xs) y g, append_assoc, back_first);
        }
