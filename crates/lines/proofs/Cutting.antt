-- How a cut goes on behind the bytes that it has passed, and how bytes part into lines.
use Rattle.std.proofs.Common.{◌≡◌, ℕ, suc, ◌+◌, ◌-◌, ◌<◌, ◌≤◌, Bool, true, false, cond, eqb, List, [], ◌∷◌, ◌++◌, length, take, drop, Some, None, Option, sym, refl, ap, ◌∙◌, subst, append_assoc, arith}
use Rattle.std.proofs.lemmas.List.{take_all, length-drop, length-append, append-nil, drop-drop, drop_at, length_push, take_rest}
use Rattle.std.proofs.lemmas.Iterator.Adapters.{position_from-zero}
use Rattle.std.proofs.lemmas.Bool.{eqb-true, eqb-false, eq-eqb, ne_eqb}
use Rattle.std.specs.Prelude.{◌==◌}
use Rattle.std.specs.List.{position, position_from}
use Rattle.lines.specs.Cuts.{with_byte, cut_at, split_from}

-- bytes in which the first mark stands j bytes on, where the count began at k
cut_found : (mark : ℕ) (bs : List ℕ) (k i : ℕ) → position_from (λ b. b == mark) k bs ≡ Some i → (j : ℕ) × (i ≡ k + j) × (cut_at mark bs ≡ Some (take j bs, drop (suc j) bs))
cut_found mark [] k i e = let z : ◌≡◌ {A = ℕ} 0 1 = cc in absurd (omega arith)
cut_found mark (b ∷ bs) k i e =
    let Goal : Bool → Type 0 = λ v. (j : ℕ) × (i ≡ k + j) × (cond v (Some ([], bs)) (with_byte b (cut_at mark bs)) ≡ Some (take j (b ∷ bs), drop (suc j) (b ∷ bs))) in
    let here : Some k ≡ Some i → Goal true = λ h. let is : k ≡ i = cc in (0, omega arith, refl) in
    let there : position_from (λ b. b == mark) (k + 1) bs ≡ Some i → Goal false = λ h. let more = cut_found mark bs (k + 1) i h in (suc more.0, omega (arith, more.1), ap (with_byte b) more.2) in
    let case : (v : Bool) → cond v (Some k) (position_from (λ b. b == mark) (k + 1) bs) ≡ Some i → Goal v = λ v. elim v as (λ v. cond v (Some k) (position_from (λ b. b == mark) (k + 1) bs) ≡ Some i → Goal v) [ true ↦ here | false ↦ there ] in
    case (eqb b mark) e

-- bytes without the mark
cut_missed : (mark : ℕ) (bs : List ℕ) (k : ℕ) → position_from (λ b. b == mark) k bs ≡ None → cut_at mark bs ≡ None
cut_missed mark [] k e = refl
cut_missed mark (b ∷ bs) k e =
    let Goal : Bool → Type 0 = λ v. cond v (Some ([], bs)) (with_byte b (cut_at mark bs)) ≡ None in
    let case : (v : Bool) → cond v (Some k) (position_from (λ b. b == mark) (k + 1) bs) ≡ None → Goal v = λ v. elim v as (λ v. cond v (Some k) (position_from (λ b. b == mark) (k + 1) bs) ≡ None → Goal v) [
      | true ↦ λ h. let z : ◌≡◌ {A = ℕ} 0 1 = cc in absurd (omega arith)
      | false ↦ λ h. ap (with_byte b) (cut_missed mark bs (k + 1) h)
    ] in
    case (eqb b mark) e

-- the two parts as slices, of which the second has all that is left
pub cut_here : (mark : ℕ) (bs : List ℕ) (i : ℕ) → Some i ≡ position (λ b. b == mark) bs → cut_at mark bs ≡ Some (take i bs, take (length bs - (i + 1)) (drop (i + 1) bs))
cut_here mark bs i e =
    let found = cut_found mark bs 0 i (sym (e ∙ position_from-zero (λ b. b == mark) bs)) in
    let same : found.0 ≡ i = omega (arith, found.1) in
    let next : suc found.0 ≡ i + 1 = omega (arith, found.1) in
    let all : length (drop (i + 1) bs) ≤ length bs - (i + 1) = omega (arith, length-drop (i + 1) bs) in
    found.2 ∙ ap (λ n. Some (take n bs, drop (suc found.0) bs)) same ∙ ap (λ n. Some (take i bs, drop n bs)) next ∙ ap (λ xs. Some (take i bs, xs)) (sym (take_all (length bs - (i + 1)) (drop (i + 1) bs) all))

pub cut_nowhere : (mark : ℕ) (bs : List ℕ) → ◌≡◌ {A = Option ℕ} None (position (λ b. b == mark) bs) → cut_at mark bs ≡ None
cut_nowhere mark bs e = cut_missed mark bs 0 (sym (e ∙ position_from-zero (λ b. b == mark) bs))

-- the line that is cut off comes first, and the input goes on behind it
pub split_at : (begun bs : List ℕ) (p : List ℕ × List ℕ) → cut_at 10 bs ≡ Some p → split_from begun bs ≡ ((begun ++ p.0) ∷ (split_from [] p.1).0, (split_from [] p.1).1)
split_at begun [] p e = let z : ◌≡◌ {A = ℕ} 0 1 = cc in absurd (omega arith)
split_at begun (b ∷ bs) p e =
    let Goal : (List ℕ × List ℕ) → Bool → Type 0 = λ p v. cond v (begun ∷ (split_from [] bs).0, (split_from [] bs).1) (split_from (begun ++ b ∷ []) bs) ≡ ((begun ++ p.0) ∷ (split_from [] p.1).0, (split_from [] p.1).1) in
    let here : Some ([], bs) ≡ Some p → Goal p true = λ k. let is : ([], bs) ≡ p = cc in subst (λ q. Goal q true) is (ap (λ l. (l ∷ (split_from [] bs).0, (split_from [] bs).1)) (sym (append-nil begun))) in
    let there : (o : Option (List ℕ × List ℕ)) → cut_at 10 bs ≡ o → with_byte b o ≡ Some p → Goal p false = λ o. elim o as (λ o. cut_at 10 bs ≡ o → with_byte b o ≡ Some p → Goal p false) [
      | None ↦ λ _ k. let z : ◌≡◌ {A = ℕ} 0 1 = cc in absurd (omega arith)
      | Some q ↦ λ h k. let is : (b ∷ q.0, q.1) ≡ p = cc in subst (λ r. Goal r false) is (split_at (begun ++ b ∷ []) bs q h ∙ ap (λ l. (l ∷ (split_from [] q.1).0, (split_from [] q.1).1)) (append_assoc begun (b ∷ []) q.0))
    ] in
    let case : (v : Bool) → cond v (Some ([], bs)) (with_byte b (cut_at 10 bs)) ≡ Some p → Goal p v = λ v. elim v as (λ v. cond v (Some ([], bs)) (with_byte b (cut_at 10 bs)) ≡ Some p → Goal p v) [ true ↦ here | false ↦ there (cut_at 10 bs) refl ] in
    case (eqb b 10) e

-- bytes that no line ends
pub split_end : (begun bs : List ℕ) → cut_at 10 bs ≡ None → split_from begun bs ≡ ([], begun ++ bs)
split_end begun [] e = ap (λ l. ([], l)) (sym (append-nil begun))
split_end begun (b ∷ bs) e =
    let Goal : Bool → Type 0 = λ v. cond v (begun ∷ (split_from [] bs).0, (split_from [] bs).1) (split_from (begun ++ b ∷ []) bs) ≡ ([], begun ++ b ∷ bs) in
    let there : (o : Option (List ℕ × List ℕ)) → cut_at 10 bs ≡ o → with_byte b o ≡ None → Goal false = λ o. elim o as (λ o. cut_at 10 bs ≡ o → with_byte b o ≡ None → Goal false) [
      | None ↦ λ h _. split_end (begun ++ b ∷ []) bs h ∙ ap (λ l. ([], l)) (append_assoc begun (b ∷ []) bs)
      | Some q ↦ λ _ k. let z : ◌≡◌ {A = ℕ} 0 1 = cc in absurd (omega arith)
    ] in
    let case : (v : Bool) → cond v (Some ([], bs)) (with_byte b (cut_at 10 bs)) ≡ None → Goal v = λ v. elim v as (λ v. cond v (Some ([], bs)) (with_byte b (cut_at 10 bs)) ≡ None → Goal v) [ true ↦ λ k. let z : ◌≡◌ {A = ℕ} 0 1 = cc in absurd (omega arith) | false ↦ there (cut_at 10 bs) refl ] in
    case (eqb b 10) e

-- what is left behind a line is shorter
pub cut_shorter : (bs : List ℕ) (p : List ℕ × List ℕ) → cut_at 10 bs ≡ Some p → length p.1 < length bs
cut_shorter [] p e = let z : ◌≡◌ {A = ℕ} 0 1 = cc in absurd (omega arith)
cut_shorter (b ∷ bs) p e =
    let there : (o : Option (List ℕ × List ℕ)) → cut_at 10 bs ≡ o → with_byte b o ≡ Some p → length p.1 < suc (length bs) = λ o. elim o as (λ o. cut_at 10 bs ≡ o → with_byte b o ≡ Some p → length p.1 < suc (length bs)) [
      | None ↦ λ _ k. let z : ◌≡◌ {A = ℕ} 0 1 = cc in absurd (omega arith)
      | Some q ↦ λ h k. let is : q.1 ≡ p.1 = cc in omega (arith, cut_shorter bs q h, ap length is)
    ] in
    let case : (v : Bool) → cond v (Some ([], bs)) (with_byte b (cut_at 10 bs)) ≡ Some p → length p.1 < suc (length bs) = λ v. elim v as (λ v. cond v (Some ([], bs)) (with_byte b (cut_at 10 bs)) ≡ Some p → length p.1 < suc (length bs)) [ true ↦ λ k. let is : bs ≡ p.1 = cc in omega (arith, ap length is) | false ↦ there (cut_at 10 bs) refl ] in
    case (eqb b 10) e

-- the two parts of a cut, with the mark between them
pub cut_parts : (mark : ℕ) (bs : List ℕ) (p : List ℕ × List ℕ) → cut_at mark bs ≡ Some p → bs ≡ p.0 ++ mark ∷ p.1
cut_parts mark [] p e = let z : ◌≡◌ {A = ℕ} 0 1 = cc in absurd (omega arith)
cut_parts mark (b ∷ bs) p e =
    let Goal : (List ℕ × List ℕ) → Type 0 = λ q. b ∷ bs ≡ q.0 ++ mark ∷ q.1 in
    let there : (o : Option (List ℕ × List ℕ)) → cut_at mark bs ≡ o → with_byte b o ≡ Some p → Goal p = λ o. elim o as (λ o. cut_at mark bs ≡ o → with_byte b o ≡ Some p → Goal p) [
      | None ↦ λ _ k. let z : ◌≡◌ {A = ℕ} 0 1 = cc in absurd (omega arith)
      | Some q ↦ λ h k. let is : (b ∷ q.0, q.1) ≡ p = cc in subst Goal is (ap (λ l. b ∷ l) (cut_parts mark bs q h))
    ] in
    let case : (v : Bool) → eqb b mark ≡ v → cond v (Some ([], bs)) (with_byte b (cut_at mark bs)) ≡ Some p → Goal p = λ v. elim v as (λ v. eqb b mark ≡ v → cond v (Some ([], bs)) (with_byte b (cut_at mark bs)) ≡ Some p → Goal p) [
      | true ↦ λ is k. let same : ([], bs) ≡ p = cc in subst Goal same (ap (λ x. x ∷ bs) (eqb-true b mark is))
      | false ↦ λ _. there (cut_at mark bs) refl
    ] in
    case (eqb b mark) refl e

-- where the bytes from `at` on are cut, the part behind the mark begins so much further on
pub cut_on_at : (mark : ℕ) (bytes : List ℕ) (at : ℕ) (line behind : List ℕ) → cut_at mark (drop at bytes) ≡ Some (line, behind) → behind ≡ drop (at + (length line + 1)) bytes
cut_on_at mark bytes at line behind e =
    let n : length (line ++ mark ∷ []) ≡ length line + 1 = length_push line mark in
    let parts : drop at bytes ≡ (line ++ mark ∷ []) ++ behind = cut_parts mark (drop at bytes) (line, behind) e ∙ sym (append_assoc line (mark ∷ []) behind) in
    sym (drop_at (line ++ mark ∷ []) behind (length line + 1) n) ∙ ap (drop (length line + 1)) (sym parts) ∙ drop-drop (length line + 1) at bytes

pub cut_within : (mark : ℕ) (bytes : List ℕ) (at : ℕ) (line behind : List ℕ) → cut_at mark (drop at bytes) ≡ Some (line, behind) → at + (length line + 1) ≤ length bytes
cut_within mark bytes at line behind e = omega (arith, ap length (cut_parts mark (drop at bytes) (line, behind) e), length-drop at bytes, length-append line (mark ∷ behind))

-- `&bytes[at..]` has all bytes from `at` on
pub cut_rest : (mark : ℕ) (bytes : List ℕ) (at : ℕ) (o : Option (List ℕ × List ℕ)) → cut_at mark (take (length bytes - at) (drop at bytes)) ≡ o → cut_at mark (drop at bytes) ≡ o
cut_rest mark bytes at o e = ap (cut_at mark) (sym (take_rest bytes at)) ∙ e

pub none_ahead : (bytes : List ℕ) (at : ℕ) → at ≤ length bytes → eqb at (length bytes) ≡ eqb (length (drop at bytes)) 0
none_ahead bytes at h =
    let case : (v : Bool) → eqb at (length bytes) ≡ v → v ≡ eqb (length (drop at bytes)) 0 = λ v. elim v as (λ v. eqb at (length bytes) ≡ v → v ≡ eqb (length (drop at bytes)) 0) [
      | true ↦ λ e. sym (eq-eqb (length (drop at bytes)) 0 (omega (arith, eqb-true at (length bytes) e, length-drop at bytes)))
      | false ↦ λ e. sym (ne_eqb (length (drop at bytes)) 0 (λ k. eqb-false at (length bytes) e (omega (arith, length-drop at bytes))))
    ] in
    case (eqb at (length bytes)) refl
