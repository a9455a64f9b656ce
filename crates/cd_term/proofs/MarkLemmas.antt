-- Terms with one variable marked, and the first variable from a number on.
use Rattle.std.proofs.Common.{◌≡◌, ℕ, zero, suc, ◌+◌, ◌<◌, ◌≤◌, Bool, true, false, Option, None, Some, option_map, List, [], ◌∷◌, ◌++◌, length, map, take, drop, get_or, nat_eq, nat_lt, ap, refl, sym, ◌∙◌, arith, if◌then◌else◌}
use Rattle.std.specs.List.{flat_map}
use Rattle.std.proofs.lemmas.List.{take_more, take_all, drop_more, drop_all, map-append}
use Rattle.std.proofs.lemmas.Bool.{false≢true}
use Rattle.cd_term.specs.declared.Term.{Term, out-Term}
use Rattle.cd_term.specs.declared.Term.TheVariants.{Var, App, outs-Var, outs-App}
use Rattle.cd_term.specs.declared.Term.TheOpen as layer
use Rattle.cd_term.specs.Terms.{variables_of, renamed_by, mark, marked, first_from}
use Rattle.cd_term.proofs.Equations.{substituted-Var, substituted-App, variables_of-Var, variables_of-App}
use Rattle.cd_term.proofs.VariableLaws.{App-injective}

pub Var-injective : (m n : ℕ) → Var m ≡ Var n → m ≡ n
Var-injective m n e =
    let layers : layer.Var m ≡ layer.Var n = sym (outs-Var m) ∙ ap out-Term e ∙ outs-Var n in cc

pub Var-App-apart : (n f : ℕ) (ts : List Term) → Var n ≡ App f ts → ⊥
Var-App-apart n f ts e =
    let layers : layer.Var n ≡ layer.App f ts = sym (outs-Var n) ∙ ap out-Term e ∙ outs-App f ts in cc

-- two lists whose images are equal
pub maps_length : {A B C : Type 0} (g : A → C) (h : B → C) (ts : List A) (us : List B) → map g ts ≡ map h us → length ts ≡ length us
maps_length g h [] [] e = refl
maps_length g h [] (u ∷ us) e = absurd (cc)
maps_length g h (t ∷ ts) [] e = absurd (cc)
maps_length g h (t ∷ ts) (u ∷ us) e = let rest : map g ts ≡ map h us = cc in ap suc (maps_length g h ts us rest)

maps_get : {A B C : Type 0} (g : A → C) (h : B → C) (ts : List A) (us : List B) (i : ℕ) (t : A) (u : B) → i < length ts → i < length us →
    map g ts ≡ map h us → g (get_or ts i t) ≡ h (get_or us i u)
maps_get g h [] us i t u lt below e = absurd (omega arith)
maps_get g h (x ∷ ts) [] i t u lt below e = absurd (omega arith)
maps_get g h (x ∷ ts) (y ∷ us) zero t u lt below e = cc
maps_get g h (x ∷ ts) (y ∷ us) (suc i) t u lt below e =
    let rest : map g ts ≡ map h us = cc in maps_get g h ts us i t u (omega arith) (omega arith) rest

pub maps_at : {A B C : Type 0} (g : A → C) (h : B → C) (ts : List A) (us : List B) (i : ℕ) (t : A) (u : B) → i < length ts → i < length us →
    t ≡ get_or ts i t → u ≡ get_or us i u → map g ts ≡ map h us → g t ≡ h u
maps_at g h ts us i t u lt below at beside e = ap g at ∙ maps_get g h ts us i t u lt below e ∙ sym (ap h beside)

pub maps_more : {A B C : Type 0} (g : A → C) (h : B → C) (ts : List A) (us : List B) (i : ℕ) (t : A) (u : B) → i < length ts → i < length us →
    t ≡ get_or ts i t → u ≡ get_or us i u → map g (take i ts) ≡ map h (take i us) → g t ≡ h u → map g (take (i + 1) ts) ≡ map h (take (i + 1) us)
maps_more g h ts us i t u lt below at beside e here =
    ap (map g) (take_more ts i t lt) ∙ map-append g (take i ts) (get_or ts i t ∷ [])
    ∙ ap (λ xs. xs ++ g (get_or ts i t) ∷ []) e
    ∙ ap (λ x. map h (take i us) ++ x ∷ []) (sym (ap g at) ∙ here ∙ ap h beside)
    ∙ sym (map-append h (take i us) (get_or us i u ∷ [])) ∙ sym (ap (map h) (take_more us i u below))

pub maps_all : {A B C : Type 0} (g : A → C) (h : B → C) (ts : List A) (us : List B) (i : ℕ) → length ts ≤ i → length us ≤ i →
    map g (take i ts) ≡ map h (take i us) → map g ts ≡ map h us
maps_all g h ts us i le over e = sym (ap (map g) (take_all i ts le)) ∙ e ∙ ap (map h) (take_all i us over)

-- marked variables and applications
pub marked-Var : (k n : ℕ) → marked k (Var n) ≡ Var (if nat_eq n k then 1 else 0)
marked-Var k = substituted-Var (mark k)

pub marked-App : (k f : ℕ) (ts : List Term) → marked k (App f ts) ≡ App f (map (marked k) ts)
marked-App k = substituted-App (mark k)

pub marked_apps : (k m f g : ℕ) (ts us : List Term) → marked k (App f ts) ≡ marked m (App g us) →
    (f ≡ g) × (map (marked k) ts ≡ map (marked m) us)
marked_apps k m f g ts us e =
    App-injective f g (map (marked k) ts) (map (marked m) us) (sym (marked-App k f ts) ∙ e ∙ marked-App m g us)

pub marked_same : (k m f g : ℕ) (ts us : List Term) → f ≡ g → map (marked k) ts ≡ map (marked m) us →
    marked k (App f ts) ≡ marked m (App g us)
marked_same k m f g ts us same e =
    marked-App k f ts ∙ ap (λ h. App h (map (marked k) ts)) same ∙ ap (App g) e ∙ sym (marked-App m g us)

pub marked_apart : (k m n f : ℕ) (ts : List Term) → marked k (Var n) ≡ marked m (App f ts) → ⊥
marked_apart k m n f ts e = Var-App-apart (if nat_eq n k then 1 else 0) f (map (marked m) ts) (sym (marked-Var k n) ∙ e ∙ marked-App m f ts)

pub marked_variables : (k m a b : ℕ) (x y : Bool) → nat_eq a k ≡ x → nat_eq b m ≡ y →
    (x ≡ y → marked k (Var a) ≡ marked m (Var b)) × (marked k (Var a) ≡ marked m (Var b) → x ≡ y)
marked_variables k m a b x y is at = (
  (λ e. marked-Var k a ∙ ap (λ c. Var (if c then 1 else 0)) (is ∙ e ∙ sym at) ∙ sym (marked-Var m b)),
  (λ e. sym is ∙ bits (nat_eq a k) (nat_eq b m) (Var-injective (if nat_eq a k then 1 else 0) (if nat_eq b m then 1 else 0)
      (sym (marked-Var k a) ∙ e ∙ marked-Var m b)) ∙ at),
)
  where
    bits : (c d : Bool) → ◌≡◌ {A = ℕ} (if c then 1 else 0) (if d then 1 else 0) → c ≡ d
    bits true true e = refl
    bits false false e = refl
    bits true false e = absurd (omega (arith, e))
    bits false true e = absurd (omega (arith, e))

-- the first number that isn't below another
pub first_from-append : (n : ℕ) (xs ys : List ℕ) → first_from n xs ≡ None → first_from n (xs ++ ys) ≡ first_from n ys
first_from-append n [] ys e = refl
first_from-append n (m ∷ xs) ys e = at (nat_lt m n) (first_from-append n xs ys) e
  where
    at : (b : Bool) → (first_from n xs ≡ None → first_from n (xs ++ ys) ≡ first_from n ys) →
        (if b then first_from n xs else Some m) ≡ None → (if b then first_from n (xs ++ ys) else Some m) ≡ first_from n ys
    at true rest e = rest e
    at false rest e = absurd (cc)

pub first_from-found : (n m : ℕ) (xs ys : List ℕ) → first_from n xs ≡ Some m → first_from n (xs ++ ys) ≡ Some m
first_from-found n m [] ys e = absurd (cc)
first_from-found n m (k ∷ xs) ys e = at (nat_lt k n) (first_from-found n m xs ys) e
  where
    at : (b : Bool) → (first_from n xs ≡ Some m → first_from n (xs ++ ys) ≡ Some m) →
        (if b then first_from n xs else Some k) ≡ Some m → (if b then first_from n (xs ++ ys) else Some k) ≡ Some m
    at true rest e = rest e
    at false rest e = e

found_at : (n : ℕ) (q : ℕ → ℕ) (k : ℕ) (xs ys : List ℕ) (o : Option ℕ) → first_from n xs ≡ o → Some k ≡ option_map q o →
    Some k ≡ option_map q (first_from n (xs ++ ys))
found_at n q k xs ys None is e = absurd (cc)
found_at n q k xs ys (Some m) is e = e ∙ sym (ap (option_map q) (first_from-found n m xs ys is))

none_at : (n : ℕ) (q : ℕ → ℕ) (xs : List ℕ) (o : Option ℕ) → first_from n xs ≡ o → None ≡ option_map q o → first_from n xs ≡ None
none_at n q xs None is e = is
none_at n q xs (Some m) is e = absurd (cc)

pub none_beside : (n : ℕ) (q : ℕ → ℕ) (xs ys : List ℕ) → None ≡ option_map q (first_from n xs) → first_from n (xs ++ ys) ≡ first_from n ys
none_beside n q xs ys e = first_from-append n xs ys (none_at n q xs (first_from n xs) refl e)

pub found_beside : (n : ℕ) (q : ℕ → ℕ) (k : ℕ) (xs ys : List ℕ) → Some k ≡ option_map q (first_from n xs) → Some k ≡ option_map q (first_from n (xs ++ ys))
found_beside n q k xs ys e = found_at n q k xs ys (first_from n xs) refl e

-- what is still to be looked at
abbrev pub IsLeft : ℕ → List Term → List Term → ℕ → Type 0
IsLeft n ts us i = (q : ℕ → ℕ) → ts ≡ map (renamed_by q) us →
    first_from n (flat_map variables_of us) ≡ first_from n (flat_map variables_of (drop i us))

rest_of : (us : List Term) (i : ℕ) (u : Term) → i < length us → u ≡ get_or us i u →
    flat_map variables_of (drop i us) ≡ variables_of u ++ flat_map variables_of (drop (i + 1) us)
rest_of us i u lt at = ap (flat_map variables_of) (drop_more us i u lt ∙ ap (λ v. v ∷ drop (i + 1) us) (sym at))

renamed_at : (q : ℕ → ℕ) (ts us : List Term) (i : ℕ) (t u : Term) → i < length ts → i < length us →
    t ≡ get_or ts i t → u ≡ get_or us i u → ts ≡ map (renamed_by q) us → t ≡ renamed_by q u
renamed_at q ts us i t u lt below at beside e = maps_at (λ x. x) (renamed_by q) ts us i t u lt below at beside (same ts ∙ e)
  where
    same : (ts : List Term) → map (λ x. x) ts ≡ ts
    same [] = refl
    same (t ∷ ts) = ap (λ us. t ∷ us) (same ts)

pub left_found : (n : ℕ) (ts us : List Term) (i k : ℕ) (t u : Term) → i < length ts → i < length us → t ≡ get_or ts i t → u ≡ get_or us i u →
    ((q : ℕ → ℕ) → t ≡ renamed_by q u → Some k ≡ option_map q (first_from n (variables_of u))) → IsLeft n ts us i →
    (q : ℕ → ℕ) → ts ≡ map (renamed_by q) us → Some k ≡ option_map q (first_from n (flat_map variables_of us))
left_found n ts us i k t u lt below at beside here left = λ q e.
    found_beside n q k (variables_of u) (flat_map variables_of (drop (i + 1) us)) (here q (renamed_at q ts us i t u lt below at beside e))
    ∙ sym (ap (option_map q) (left q e ∙ ap (first_from n) (rest_of us i u below beside)))

pub left_next : (n : ℕ) (ts us : List Term) (i : ℕ) (t u : Term) → i < length ts → i < length us → t ≡ get_or ts i t → u ≡ get_or us i u →
    ((q : ℕ → ℕ) → t ≡ renamed_by q u → None ≡ option_map q (first_from n (variables_of u))) → IsLeft n ts us i → IsLeft n ts us (i + 1)
left_next n ts us i t u lt below at beside here left = λ q e.
    left q e ∙ ap (first_from n) (rest_of us i u below beside)
    ∙ none_beside n q (variables_of u) (flat_map variables_of (drop (i + 1) us)) (here q (renamed_at q ts us i t u lt below at beside e))

pub left_none : (n : ℕ) (ts us : List Term) (i : ℕ) → length us ≤ i → IsLeft n ts us i →
    (q : ℕ → ℕ) → ts ≡ map (renamed_by q) us → None ≡ option_map q (first_from n (flat_map variables_of us))
left_none n ts us i le left = λ q e.
    sym (ap (option_map q) (left q e ∙ ap (λ vs. first_from n (flat_map variables_of vs)) (drop_all i us le)))

-- of an application, its arguments
pub beside_apps : (n f g : ℕ) (ts us : List Term) (r : Option ℕ) →
    ((q : ℕ → ℕ) → ts ≡ map (renamed_by q) us → r ≡ option_map q (first_from n (flat_map variables_of us))) →
    (q : ℕ → ℕ) → App f ts ≡ renamed_by q (App g us) → r ≡ option_map q (first_from n (variables_of (App g us)))
beside_apps n f g ts us r here = λ q e.
    here q (App-injective f g ts (map (renamed_by q) us) (e ∙ substituted-App (λ m. Var (q m)) g us)).1
    ∙ sym (ap (λ xs. option_map q (first_from n xs)) (variables_of-App g us))

pub beside_lengths : (f g : ℕ) (ts us : List Term) (q : ℕ → ℕ) → App f ts ≡ renamed_by q (App g us) → length ts ≡ length us
beside_lengths f g ts us q e =
    ap length (App-injective f g ts (map (renamed_by q) us) (e ∙ substituted-App (λ m. Var (q m)) g us)).1 ∙ map_length us
  where
    map_length : (us : List Term) → length (map (renamed_by q) us) ≡ length us
    map_length [] = refl
    map_length (u ∷ us) = ap suc (map_length us)

pub beside_apart : (n f : ℕ) (ts : List Term) (q : ℕ → ℕ) → (Var n ≡ renamed_by q (App f ts) → ⊥) × (App f ts ≡ renamed_by q (Var n) → ⊥)
beside_apart n f ts q = (
  (λ e. Var-App-apart n f (map (renamed_by q) ts) (e ∙ substituted-App (λ m. Var (q m)) f ts)),
  (λ e. Var-App-apart (q n) f ts (sym (e ∙ substituted-Var (λ m. Var (q m)) n))),
)

pub beside_variable : (n k m : ℕ) (b : Bool) → nat_lt m n ≡ b → (q : ℕ → ℕ) → Var k ≡ renamed_by q (Var m) →
    (if b then None else Some k) ≡ option_map q (first_from n (variables_of (Var m)))
beside_variable n k m b is q e =
    at b (Var-injective k (q m) (e ∙ substituted-Var (λ m. Var (q m)) m))
    ∙ ap (λ c. option_map q (if c then None else Some m)) (sym is) ∙ sym (ap (λ xs. option_map q (first_from n xs)) (variables_of-Var m))
  where
    at : (b : Bool) → k ≡ q m → (if b then None else Some k) ≡ option_map q (if b then None else Some m)
    at true e = refl
    at false e = ap Some e

-- what a comparison of two applications answers
abbrev pub Tells : ℕ → ℕ → Term → Term → Bool → Type 0
Tells k m t u b = (b ≡ true → marked k t ≡ marked m u) × (marked k t ≡ marked m u → b ≡ true)

pub apps_refused : (k m f g : ℕ) (t u : Term) (xs ys ts us : List Term) → t ≡ App f xs → u ≡ App g ys → ts ≡ xs → us ≡ ys →
    (map (marked k) ts ≡ map (marked m) us → ⊥) → Tells k m t u false
apps_refused k m f g t u xs ys ts us is at left right differ = (
  (λ e. absurd (false≢true e)),
  (λ e. absurd (differ (ap (map (marked k)) left
      ∙ (marked_apps k m f g xs ys (sym (ap (marked k) is) ∙ e ∙ ap (marked m) at)).1 ∙ sym (ap (map (marked m)) right)))),
)

pub apps_same : (k m f g : ℕ) (t u : Term) (xs ys ts us : List Term) → t ≡ App f xs → u ≡ App g ys → ts ≡ xs → us ≡ ys →
    f ≡ g → map (marked k) ts ≡ map (marked m) us → Tells k m t u true
apps_same k m f g t u xs ys ts us is at left right same e = (
  (λ _. ap (marked k) is ∙ marked_same k m f g xs ys same (sym (ap (map (marked k)) left) ∙ e ∙ ap (map (marked m)) right) ∙ sym (ap (marked m) at)),
  (λ _. refl),
)

-- what a search beside two applications answers
pub beside_apps_at : (n f g : ℕ) (t u : Term) (xs ys ts us : List Term) (r : Option ℕ) → t ≡ App f xs → u ≡ App g ys → ts ≡ xs → us ≡ ys →
    ((q : ℕ → ℕ) → ts ≡ map (renamed_by q) us → r ≡ option_map q (first_from n (flat_map variables_of us))) →
    (q : ℕ → ℕ) → t ≡ renamed_by q u → r ≡ option_map q (first_from n (variables_of u))
beside_apps_at n f g t u xs ys ts us r is at left right here = λ q e.
    beside_apps n f g xs ys r (λ q e. here q (left ∙ e ∙ sym (ap (map (renamed_by q)) right)) ∙ ap (λ vs. option_map q (first_from n (flat_map variables_of vs))) right)
    q (sym is ∙ e ∙ ap (renamed_by q) at)
    ∙ sym (ap (λ v. option_map q (first_from n (variables_of v))) at)
