-- A comparison is of the frontiers, whatever tables hold them.
use Rattle.std.proofs.Common.{◌≡◌, ℕ, Bool, true, List, [], ◌∷◌, length, None, sym, ap, ◌∙◌}
use Rattle.questions.specs.Questions.{first_no}
use Rattle.questions.proofs.Asking.{ask_next}
use Rattle.frontiers.specs.declared.frontier_table.FrontierTable.{FrontierTable}
use Rattle.frontiers.specs.Comparing.{Is}

-- a function of two lists that are equal to two others
pub same_of : {A B : Type 0} (F : A → A → B) (a b x y : A) → a ≡ x → b ≡ y → F a b ≡ F x y
same_of F a b x y p q = ap (λ v. F v b) p ∙ ap (F x) q

pub is_also : (f : FrontierTable) (xs ys : List (ℕ × ℕ)) → xs ≡ ys → Is f xs → Is f ys
is_also f xs ys e h = (h.0 ∙ e, ap length (sym e) ∙ h.1)

-- every frontier on the way fits
pub all_fit : (a b c d : Bool) → a ≡ true → b ≡ true → c ≡ true → d ≡ true → first_no ((a, 12) ∷ (b, 12) ∷ (c, 12) ∷ (d, 12) ∷ []) ≡ None
all_fit a b c d e f g h = ask_next a 12 ((b, 12) ∷ (c, 12) ∷ (d, 12) ∷ []) e ∙ ask_next b 12 ((c, 12) ∷ (d, 12) ∷ []) f ∙ ask_next c 12 ((d, 12) ∷ []) g ∙ ask_next d 12 [] h
