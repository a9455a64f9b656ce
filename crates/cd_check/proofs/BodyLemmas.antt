-- A set of texts as the list of them.
use Rattle.std.proofs.Common.{◌≡◌, ℕ, ◌||◌, Bool, true, false, cond, List, [], ◌∷◌, ◌++◌, map, refl, sym, ap, ◌∙◌, subst}
use Rattle.std.specs.Prelude.{bytes_eq}
use Rattle.std.specs.List.{list_any}
use Rattle.std.proofs.lemmas.Slice.Eq.{bytes_eq-Decides}
use Rattle.std.proofs.lemmas.List.{map-append}
use Rattle.std.proofs.lemmas.List.Folds.{list_any-append}
use Rattle.cd_check.specs.Bodies.{is_there, IsAdded}

-- a test of what is seen of each item
pub seen : {V : Type 0} (items : V → List ℕ) (w : List ℕ) (vs : List V) → list_any (λ v. bytes_eq w (items v)) vs ≡ is_there (map items vs) w
seen items w [] = refl
seen items w (v ∷ vs) = ap (λ (t : Bool). bytes_eq w (items v) || t) (seen items w vs)

there_by : (t : Bool) (b : List ℕ) (bs : List (List ℕ)) (w v : List ℕ) → bytes_eq v b ≡ t → w ≡ v → (t || is_there bs v) ≡ true → (is_there bs v ≡ true → is_there bs w ≡ true) → is_there (b ∷ bs) w ≡ true
there_by true b bs w v is e h others = rw (ap (λ (x : List ℕ). bytes_eq x b) e ∙ is) refl
there_by false b bs w v is e h others = or_right (bytes_eq w b) (is_there bs w) (others h)
  where
    or_right : (a c : Bool) → c ≡ true → (a || c) ≡ true
    or_right true c f = refl
    or_right false c f = f

there : (bs : List (List ℕ)) (w v : List ℕ) → w ≡ v → is_there bs v ≡ true → is_there bs w ≡ true
there [] w v e h = absurd cc
there (b ∷ bs) w v e h = there_by (bytes_eq v b) b bs w v refl e h (there bs w v e)

absorbed : (t : Bool) (bs : List (List ℕ)) (w v : List ℕ) → bytes_eq w v ≡ t → is_there bs v ≡ true → is_there bs w ≡ (t || is_there bs w)
absorbed true bs w v is h = there bs w v ((bytes_eq-Decides w v).0 is) h
absorbed false bs w v is h = refl

last : (a : Bool) (t : Bool) → (a || (t || false)) ≡ (t || a)
last true true = refl
last true false = refl
last false true = refl
last false false = refl

added_by : (t : Bool) (bs : List (List ℕ)) (v w : List ℕ) → is_there bs v ≡ t → is_there (cond t bs (bs ++ v ∷ [])) w ≡ (bytes_eq w v || is_there bs w)
added_by true bs v w is = absorbed (bytes_eq w v) bs w v refl is
added_by false bs v w is = list_any-append (λ (b : List ℕ). bytes_eq w b) bs (v ∷ []) ∙ last (is_there bs w) (bytes_eq w v)

added : (bs : List (List ℕ)) (v : List ℕ) → IsAdded bs (cond (is_there bs v) bs (bs ++ v ∷ [])) v
added bs v w = added_by (is_there bs v) bs v w refl

cond_map : {V : Type 0} (items : V → List ℕ) (t : Bool) (vs : List V) (v : V) → map items (cond t vs (vs ++ v ∷ [])) ≡ cond t (map items vs) (map items vs ++ items v ∷ [])
cond_map items true vs v = refl
cond_map items false vs v = map-append items vs (v ∷ [])

-- what an insertion leaves
pub inserted : {V : Type 0} (items : V → List ℕ) (vs new : List V) (v : V) → new ≡ cond (list_any (λ u. bytes_eq (items v) (items u)) vs) vs (vs ++ v ∷ []) → IsAdded (map items vs) (map items new) (items v)
inserted items vs new v is =
    let same : map items new ≡ cond (is_there (map items vs) (items v)) (map items vs) (map items vs ++ items v ∷ []) =
    ap (map items) is ∙ cond_map items (list_any (λ u. bytes_eq (items v) (items u)) vs) vs v ∙ ap (λ (t : Bool). cond t (map items vs) (map items vs ++ items v ∷ [])) (seen items (items v) vs) in
    subst (λ (bs : List (List ℕ)). IsAdded (map items vs) bs (items v)) (sym same) (added (map items vs) (items v))
