-- What an addition does to a list of counts, by the place of the time's entry.
use Rattle.std.proofs.Common.{◌≡◌, ℕ, zero, suc, ◌+◌, ◌-◌, ◌<◌, ◌≤◌, Bool, true, false, cond, not, List, [], ◌∷◌, ◌++◌, map, length, get_or, take, drop, set, ℤ, pos, negsuc, ◌+ℤ◌, sym, refl, ap, ◌∙◌, add-one, one-add, arith}
use lib.Seq.{take-set-lt}
use borrow.Rule.Slice.PartMut.{put_mid, post_of}
use Rattle.std.specs.List.{prefix_len, between}
use Rattle.std.proofs.lemmas.List.Edits.{length-between}
use Rattle.std.proofs.lemmas.Slice.{between_is, drop-put_mid}
use Rattle.std.proofs.lemmas.List.{get_or-map, get_or-take, length-take, length-drop, length-append, length-take-le, length_push, take_all, take-take, take-map, take_at, take_more_set, drop_all, drop_more, drop-map, drop-drop, map-append, map_push, set_split, append-nil, append_assoc}
use Rattle.std.proofs.lemmas.Bool.{cond-true, cond-false, not-false}
use Rattle.lattice.specs.Orders.{at_once}
use Rattle.frontier.specs.Counts.{stopped, is_zero, entry, other, added}
use Rattle.frontier.specs.Tables.{in_use, Holds, counted}
use Rattle.frontier.proofs.Tables.{sub_zero, length_in_use}

-- the place, found in a part of the table
pub placed : {X A : Type 0} (p : A → Bool) (f : X → A) (xs : List X) (k len : ℕ) → k ≡ prefix_len p (map f (take (len - 0) xs)) → k ≡ prefix_len p (in_use f len xs)
placed p f xs k len e = e ∙ ap (λ m. prefix_len p (in_use f m xs)) (sub_zero len)

-- where the front that passes ends, the test fails
leading_stop : {A : Type 0} (p : A → Bool) (xs : List A) (d : A) → prefix_len p xs < length xs → p (get_or xs (prefix_len p xs) d) ≡ false
leading_stop p [] d h = absurd (omega arith)
leading_stop p (x ∷ xs) d h =
    let at : (b : Bool) → p x ≡ b → cond b (1 + prefix_len p xs) 0 < suc (length xs) → p (get_or (x ∷ xs) (cond b (1 + prefix_len p xs) 0) d) ≡ false = λ b. elim b as (λ b. p x ≡ b → cond b (1 + prefix_len p xs) 0 < suc (length xs) → p (get_or (x ∷ xs) (cond b (1 + prefix_len p xs) 0) d) ≡ false) [
      | true ↦ λ e k. rw one-add (leading_stop p xs d (omega arith))
      | false ↦ λ e k. e
    ] in
    at (p x) refl h

module _ {A : Type 0} (below : A → A → Bool) (t : A) (n : ℤ) where
  kept : (b : Bool) (x y : List (A × ℤ)) → not b ≡ true → cond b x y ≡ y
  kept true x y e = let z : ◌≡◌ {A = Bool} false true = e in cc
  kept false x y e = refl

  -- what stands before the place is kept
  added_from : (L : List (A × ℤ)) → added below L t n ≡ take (prefix_len (other below t) L) L ++ added below (drop (prefix_len (other below t) L) L) t n
  added_from [] = refl
  added_from (e ∷ es) =
      let l = prefix_len (other below t) es in
      let at : (b : Bool) → other below t e ≡ b → added below (e ∷ es) t n ≡ take (cond b (1 + l) 0) (e ∷ es) ++ added below (drop (cond b (1 + l) 0) (e ∷ es)) t n = λ b. elim b as (λ b. other below t e ≡ b → added below (e ∷ es) t n ≡ take (cond b (1 + l) 0) (e ∷ es) ++ added below (drop (cond b (1 + l) 0) (e ∷ es)) t n) [
        | true ↦ λ q. rw one-add (kept (at_once below e.0 t) _ _ q ∙ ap (λ r. e ∷ r) (added_from es))
        | false ↦ λ q. refl
      ] in
      at (other below t e) refl

  module _ (L : List (A × ℤ)) (k : ℕ) (place : k ≡ prefix_len (other below t) L) where
    pub added_hit : (e : A × ℤ) → e ≡ get_or L k e → k < length L → added below L t n ≡ take k L ++ (entry e.0 (stopped (e.1 +ℤ n)) ++ drop (k + 1) L)
    added_hit e is h =
        let stop : other below t e ≡ false = ap (other below t) is ∙ ap (λ i. other below t (get_or L i e)) place ∙ leading_stop (other below t) L e (omega arith) in
        added_from L
        ∙ ap (λ i. take i L ++ added below (drop i L) t n) (sym place)
        ∙ ap (λ r. take k L ++ added below r t n) (drop_more L k e h ∙ ap (λ v. v ∷ drop (k + 1) L) (sym is))
        ∙ ap (λ r. take k L ++ r) (cond-true (at_once below e.0 t) _ _ (not-false (at_once below e.0 t) stop))

    pub added_miss : length L ≤ k → added below L t n ≡ L ++ entry t n
    added_miss h =
        added_from L ∙ ap (λ i. take i L ++ added below (drop i L) t n) (sym place) ∙ ap (λ r. r ++ added below (drop k L) t n) (take_all k L h) ∙ ap (λ r. L ++ added below r t n) (drop_all k L h)

zero_not : (z : ℤ) → (z ≡ pos 0 → ⊥) → is_zero z ≡ false
zero_not (pos zero) h = absurd (h refl)
zero_not (pos (suc m)) h = refl
zero_not (negsuc m) h = refl

-- an entry of 0 is none
pub entry_none : {A : Type 0} (x : A) (z : ℤ) → z ≡ pos 0 → entry x z ≡ []
entry_none x z e = cond-true (is_zero z) [] ((x, z) ∷ []) (ap is_zero e)

pub entry_one : {A : Type 0} (x : A) (z : ℤ) → (z ≡ pos 0 → ⊥) → entry x z ≡ (x, z) ∷ []
entry_one x z h = cond-false (is_zero z) [] ((x, z) ∷ []) (zero_not z h)

-- a list of counts with one of them changed, as it is stored
module _ {X : Type 0} (xs : List (X × ℤ)) (len at : ℕ) (e : X × ℤ) (s : ℤ) (inside : at < len) (long : len ≤ length xs) where
  pub changed_none : (ys : List (X × ℤ)) → s ≡ pos 0 → take (len - 1) ys ≡ take at xs ++ drop (at + 1) (take len xs) → take (len - 1) ys ≡ take at xs ++ (entry e.0 s ++ drop (at + 1) (take len xs))
  changed_none ys z front = front ∙ ap (λ l. take at xs ++ (l ++ drop (at + 1) (take len xs))) (sym (entry_none e.0 s z))

  pub changed_one : (s ≡ pos 0 → ⊥) → take len (set xs at (e.0, s)) ≡ take at xs ++ (entry e.0 s ++ drop (at + 1) (take len xs))
  changed_one z =
      take-set-lt len xs at (e.0, s) inside
      ∙ set_split (take len xs) at (e.0, s) (omega (arith, length-take-le len xs long))
      ∙ ap (λ l. l ++ (e.0, s) ∷ drop (suc at) (take len xs)) (take-take at len xs (omega arith))
      ∙ ap (λ i. take at xs ++ (e.0, s) ∷ drop i (take len xs)) (sym (add-one at))
      ∙ ap (λ l. take at xs ++ (l ++ drop (at + 1) (take len xs))) (sym (entry_one e.0 s z))

-- the same of the table as it is read
module _ {X A : Type 0} (below : A → A → Bool) (value : X → A) (xs : List (X × ℤ)) (len : ℕ) (time : X) (n : ℤ) (k : ℕ) (place : k ≡ prefix_len (other below (value time)) (in_use (counted value) len xs)) (long : len ≤ length xs) where
  size : length (in_use (counted value) len xs) ≡ len
  size = length_in_use (counted value) len xs long

  entry_read : (e : X × ℤ) (z : ℤ) → map (counted value) (entry e.0 z) ≡ entry (value e.0) z
  entry_read e (pos zero) = refl
  entry_read e (pos (suc m)) = refl
  entry_read e (negsuc m) = refl

  -- the entry found, changed as it is stored
  pub update_hit : (e : X × ℤ) → k < len → e ≡ get_or xs k e → (m : ℕ) (ys : List (X × ℤ)) → m ≤ length ys → take m ys ≡ take k xs ++ (entry e.0 (stopped (e.1 +ℤ n)) ++ drop (k + 1) (take len xs)) → Holds (counted value) m ys (added below (in_use (counted value) len xs) (value time) n)
  update_hit e h is m ys short front =
      let L = in_use (counted value) len xs in
      let at : counted value e ≡ get_or L k (counted value e) = sym (get_or-map (counted value) (take len xs) k e (counted value e) (omega (arith, length-take-le len xs long)) ∙ ap (counted value) (get_or-take len xs k e h ∙ sym is)) in
      let reads : in_use (counted value) m ys ≡ added below L (value time) n =
      ap (map (counted value)) front
      ∙ map-append (counted value) (take k xs) (entry e.0 (stopped (e.1 +ℤ n)) ++ drop (k + 1) (take len xs))
      ∙ ap (λ l. map (counted value) l ++ map (counted value) (entry e.0 (stopped (e.1 +ℤ n)) ++ drop (k + 1) (take len xs))) (sym (take-take k len xs (omega arith)))
      ∙ ap (λ l. l ++ map (counted value) (entry e.0 (stopped (e.1 +ℤ n)) ++ drop (k + 1) (take len xs))) (sym (take-map (counted value) k (take len xs)))
      ∙ ap (λ l. take k L ++ l) (map-append (counted value) (entry e.0 (stopped (e.1 +ℤ n))) (drop (k + 1) (take len xs)) ∙ ap (λ l. l ++ map (counted value) (drop (k + 1) (take len xs))) (entry_read e (stopped (e.1 +ℤ n))) ∙ ap (λ l. entry (value e.0) (stopped (e.1 +ℤ n)) ++ l) (sym (drop-map (counted value) (k + 1) (take len xs))))
      ∙ sym (added_hit below (value time) n L k place (counted value e) at (omega (arith, size)))
      in
      (reads, ap length (sym reads) ∙ length_in_use (counted value) m ys short)

  module _ (h : len ≤ k) where
    miss : added below (in_use (counted value) len xs) (value time) n ≡ in_use (counted value) len xs ++ entry (value time) n
    miss = added_miss below (value time) n (in_use (counted value) len xs) k place (omega (arith, size))

    -- nothing is added
    pub update_none : n ≡ pos 0 → Holds (counted value) len xs (added below (in_use (counted value) len xs) (value time) n)
    update_none z =
        let reads = miss ∙ ap (λ l. in_use (counted value) len xs ++ l) (entry_none (value time) n z) ∙ append-nil (in_use (counted value) len xs) in
        (sym reads, ap length reads ∙ size)

    -- a new entry
    pub length_more : (n ≡ pos 0 → ⊥) → length (added below (in_use (counted value) len xs) (value time) n) ≡ len + 1
    length_more z = ap length (miss ∙ ap (λ l. in_use (counted value) len xs ++ l) (entry_one (value time) n z)) ∙ length_push (in_use (counted value) len xs) (value time, n) ∙ ap (λ m. m + 1) size

    pub update_more : (n ≡ pos 0 → ⊥) → len < length xs → Holds (counted value) (len + 1) (set xs len (time, n)) (added below (in_use (counted value) len xs) (value time) n)
    update_more z short =
        (ap (map (counted value)) (take_more_set xs len (time, n) short) ∙ map_push (counted value) (take len xs) (time, n) ∙ sym (miss ∙ ap (λ l. in_use (counted value) len xs ++ l) (entry_one (value time) n z)), length_more z)

-- an entry taken out by a turn of the part that begins with it
pub rotated_front : {X : Type 0} (xs ys : List X) (at len : ℕ) → at < len → len ≤ length xs → ys ≡ drop 1 (between at len xs) ++ take 1 (between at len xs) → take (len - 1) (put_mid at (len - at) xs ys) ≡ take at xs ++ drop (at + 1) (take len xs)
rotated_front xs ys at len h long e =
    let P = between at len xs in
    let front = take at xs ++ drop 1 P in
    let post = post_of at (len - at) xs in
    let n : length front ≡ len - 1 = length-append (take at xs) (drop 1 P) ∙ simp (length-take, length-drop) (omega (arith, length-take at xs, length-drop 1 P, length-between xs at len long)) in
    ap (λ l. take (len - 1) (take at xs ++ (l ++ post))) e
    ∙ ap (λ l. take (len - 1) (take at xs ++ l)) (append_assoc (drop 1 P) (take 1 P) post)
    ∙ ap (take (len - 1)) (sym (append_assoc (take at xs) (drop 1 P) (take 1 P ++ post)))
    ∙ take_at front (take 1 P ++ post) (len - 1) n
    ∙ ap (λ l. take at xs ++ l) (ap (drop 1) (between_is xs at len) ∙ drop-drop 1 at (take len xs))

pub rotated_rest : {X : Type 0} (xs ys : List X) (at len : ℕ) → at < len → len ≤ length xs → length ys ≡ length (between at len xs) → drop len (put_mid at (len - at) xs ys) ≡ drop len xs
rotated_rest xs ys at len h long e = drop-put_mid at (len - at) xs ys len (omega arith) (omega arith) (e ∙ length-between xs at len long)
