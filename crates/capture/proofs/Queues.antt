-- Messages in a table, put after those in use.
use Rattle.std.proofs.Common.{◌≡◌, ℕ, ◌+◌, ◌*◌, ◌^◌, ◌<◌, ◌≤◌, List, [], ◌∷◌, ◌++◌, map, length, take, set, ap, ◌∙◌, subst, lt_of_le_of_lt, mul-le-mul_right, one-mul}
use Rattle.std.proofs.lemmas.List.{take_more_set, map_push}
use Rattle.frontier.specs.Tables.{in_use}

-- the entry after those in use is written
pub pushed : {S M : Type 0} (reads : S → M) (xs : List S) (n : ℕ) (x : S) (m : M) → n < length xs → reads x ≡ m → in_use reads (n + 1) (set xs n x) ≡ in_use reads n xs ++ m ∷ []
pushed reads xs n x m h e = ap (map reads) (take_more_set xs n x h) ∙ map_push reads (take n xs) x ∙ ap (λ y. in_use reads n xs ++ y ∷ []) e

-- an entry of a table takes no more memory than the table
pub entry_fits : (n k : ℕ) → 0 < n → n * k < 2 ^ 63 → k < 2 ^ 63
entry_fits n k h fits = lt_of_le_of_lt (subst (λ m. m ≤ n * k) (one-mul k) (mul-le-mul_right k h)) fits
