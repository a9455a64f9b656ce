-- What a term is an instance of, and the shapes of it.
use Rattle.std.proofs.Common.{◌≡◌, ◌⊎◌, inl, inr, ℕ, suc, List, [], ◌∷◌, length, get_or, map, Option, Some, None, slice_get, option_map, ap, subst, refl, sym, ◌∙◌, arith}
use Rattle.std.proofs.lemmas.Option.{slice_get-map}
use Rattle.cd_term.specs.declared.Term.{Term, out-Term}
use Rattle.cd_term.specs.declared.Term.TheVariants.{Var, App, outs-Var, outs-App}
use Rattle.cd_term.specs.declared.Term.TheOpen as layer
use Rattle.cd_term.specs.Terms.{substituted}
use Rattle.cd_term.proofs.Equations.{substituted-App}
use Rattle.cd_term.proofs.TermInduction.{ind}
use Rattle.cd_contract.specs.Shapes.{mix, part, layer_shape, shape, Among, HasShapes, PartHasShapes}

pub shape-Var : (n k : ℕ) → shape (suc n) (Var k) ≡ 0
unfolding shape
shape-Var n k = ap (layer_shape (shape n)) (outs-Var k)

pub shape-App : (n f : ℕ) (ts : List Term) → shape (suc n) (App f ts) ≡ mix f (part (shape n) (slice_get ts 0)) (part (shape n) (slice_get ts 1))
unfolding shape
shape-App n f ts = ap (layer_shape (shape n)) (outs-App f ts)

pub shape-none : (t : Term) → shape 0 t ≡ 0
unfolding shape
shape-none t = refl

pub variable_shape : (n k : ℕ) (t : Term) → t ≡ Var k → shape (suc n) t ≡ 0
variable_shape n k t is = ap (shape (suc n)) is ∙ shape-Var n k

pub symbol_shape : (n f : ℕ) (t : Term) (ts : List Term) (a b : Option Term) → t ≡ App f ts → a ≡ slice_get ts 0 → b ≡ slice_get ts 1 →
    shape (suc n) t ≡ mix f (part (shape n) a) (part (shape n) b)
symbol_shape n f t ts a b is first second =
    ap (shape (suc n)) is ∙ shape-App n f ts ∙ ap (λ x. mix f (part (shape n) x) (part (shape n) (slice_get ts 1))) (sym first)
    ∙ ap (λ x. mix f (part (shape n) a) (part (shape n) x)) (sym second)

-- what an application is an instance of: a variable, or the symbol over what the arguments are instances of
pub record IsLayer (n : ℕ) (g : ℕ → Term) (f : ℕ) (ts : List Term) (p : Term) : Type 0 where
  pub first : Option Term
  pub second : Option Term
  pub one : option_map (substituted g) first ≡ slice_get ts 0
  pub other : option_map (substituted g) second ≡ slice_get ts 1
  pub made : shape (suc n) p ≡ mix f (part (shape n) first) (part (shape n) second)

pub apps_same : (f k : ℕ) (ts us : List Term) → App f ts ≡ App k us → (f ≡ k) × (ts ≡ us)
apps_same f k ts us e =
    let layers : layer.App f ts ≡ layer.App k us = sym (outs-App f ts) ∙ ap out-Term e ∙ outs-App k us in (cc, cc)

apart : (k f : ℕ) (ts : List Term) → App f ts ≡ Var k → ⊥
apart k f ts e = let layers : layer.App f ts ≡ layer.Var k = sym (outs-App f ts) ∙ ap out-Term e ∙ outs-Var k in cc

pub layers : (n : ℕ) (g : ℕ → Term) (f : ℕ) (ts : List Term) (t p : Term) → t ≡ App f ts → substituted g p ≡ t → (shape (suc n) p ≡ 0) ⊎ IsLayer n g f ts p
layers n g f ts t p is at = ind (λ p. substituted g p ≡ t → (shape (suc n) p ≡ 0) ⊎ IsLayer n g f ts p)
    (λ k e. inl (shape-Var n k))
    (λ k us each e.
    (let same = apps_same k f (map (substituted g) us) ts (sym (substituted-App g k us) ∙ e ∙ is) in
    inr (record {
      first = slice_get us 0;
      second = slice_get us 1;
      one = sym (slice_get-map (substituted g) us 0) ∙ ap (λ xs. slice_get xs 0) same.1;
      other = sym (slice_get-map (substituted g) us 1) ∙ ap (λ xs. slice_get xs 1) same.1;
      made = shape-App n k us ∙ ap (λ s. mix s (part (shape n) (slice_get us 0)) (part (shape n) (slice_get us 1))) same.0;
    })))
    p at

pub of_variable : (n k : ℕ) (g : ℕ → Term) (t p : Term) → t ≡ Var k → substituted g p ≡ t → shape (suc n) p ≡ 0
of_variable n k g t p is at = ind (λ p. substituted g p ≡ t → shape (suc n) p ≡ 0)
    (λ m e. shape-Var n m)
    (λ f us each e. absurd (apart k f (map (substituted g) us) (sym (substituted-App g f us) ∙ e ∙ is)))
    p at

pub nothing_part : (n : ℕ) (g : ℕ → Term) (q : Option Term) → option_map (substituted g) q ≡ None → part (shape n) q ≡ 1
nothing_part n g None e = refl
nothing_part n g (Some t) e = absurd (cc)

pub bare_part : (g : ℕ → Term) (q o : Option Term) → option_map (substituted g) q ≡ o → part (shape 0) q ≡ part (shape 0) o
bare_part g None None e = refl
bare_part g (Some p) (Some t) e = shape-none p ∙ sym (shape-none t)
bare_part g None (Some t) e = absurd (cc)
bare_part g (Some p) None e = absurd (cc)

pub some_part : (n : ℕ) (t : Term) (ms : List ℕ) → HasShapes n t ms → PartHasShapes n (Some t) ms
some_part n t ms has g None e = absurd (cc)
some_part n t ms has g (Some p) e = has g p (cc)

pub variable_shapes : (n k : ℕ) (t : Term) (ms : List ℕ) → t ≡ Var k → Among 0 ms → HasShapes (suc n) t ms
variable_shapes n k t ms is zero_ g p at = subst (λ m. Among m ms) (sym (of_variable n k g t p is at)) zero_

pub head_shapes : (f : ℕ) (t : Term) (ts : List Term) (m : ℕ) → t ≡ App f ts → m ≡ mix f (part (shape 0) (slice_get ts 0)) (part (shape 0) (slice_get ts 1)) →
    HasShapes 1 t (0 ∷ m ∷ [])
head_shapes f t ts m is made g p at = elim (layers 0 g f ts t p is at) [
  | inl star ↦ inl star
  | inr l ↦ inr (inl (l.made ∙ ap (λ a. mix f a (part (shape 0) l.second)) (bare_part g l.first (slice_get ts 0) l.one)
      ∙ ap (mix f (part (shape 0) (slice_get ts 0))) (bare_part g l.second (slice_get ts 1) l.other) ∙ sym made))
]

pub short_shapes : (f : ℕ) (t : Term) (ts : List Term) (a b c d : ℕ) → t ≡ App f ts → PartHasShapes 1 (slice_get ts 0) (a ∷ b ∷ []) →
    PartHasShapes 1 (slice_get ts 1) (c ∷ d ∷ []) → HasShapes 2 t (0 ∷ mix f a c ∷ mix f a d ∷ mix f b c ∷ mix f b d ∷ [])
short_shapes f t ts a b c d is one other g p at = elim (layers 1 g f ts t p is at) [
  | inl star ↦ inl star
  | inr l ↦ by (part (shape 1) l.first) (part (shape 1) l.second) (one g l.first l.one) (other g l.second l.other) l.made
]
  where
    by : (x y : ℕ) → Among x (a ∷ b ∷ []) → Among y (c ∷ d ∷ []) → shape 2 p ≡ mix f x y → Among (shape 2 p) (0 ∷ mix f a c ∷ mix f a d ∷ mix f b c ∷ mix f b d ∷ [])
    by x y (inl u) (inl v) made = inr (inl (made ∙ ap (λ z. mix f z y) u ∙ ap (mix f a) v))
    by x y (inl u) (inr (inl v)) made = inr (inr (inl (made ∙ ap (λ z. mix f z y) u ∙ ap (mix f a) v)))
    by x y (inr (inl u)) (inl v) made = inr (inr (inr (inl (made ∙ ap (λ z. mix f z y) u ∙ ap (mix f b) v))))
    by x y (inr (inl u)) (inr (inl v)) made = inr (inr (inr (inr (inl (made ∙ ap (λ z. mix f z y) u ∙ ap (mix f b) v)))))
    by x y (inr (inr v)) w made = absurd v
    by x y w (inr (inr v)) made = absurd v

-- what the code makes of an application
pub made_shape : (n f s x y m : ℕ) (t : Term) (ts xs : List Term) (a b : Option Term) → t ≡ App f ts → xs ≡ ts → a ≡ slice_get xs 0 → b ≡ slice_get xs 1 →
    s ≡ f → x ≡ part (shape n) a → y ≡ part (shape n) b → m ≡ mix s x y → m ≡ shape (suc n) t
made_shape n f s x y m t ts xs a b is same first second symbol one other made =
    let whole : shape (suc n) t ≡ mix f (part (shape n) a) (part (shape n) b) =
    symbol_shape n f t ts a b is (first ∙ ap (λ z. slice_get z 0) same) (second ∙ ap (λ z. slice_get z 1) same) in cc

pub made_heads : (f s x y m : ℕ) (t : Term) (ts xs : List Term) (a b : Option Term) → t ≡ App f ts → xs ≡ ts → a ≡ slice_get xs 0 → b ≡ slice_get xs 1 →
    s ≡ f → x ≡ part (shape 0) a → y ≡ part (shape 0) b → m ≡ mix s x y → HasShapes 1 t (0 ∷ m ∷ [])
made_heads f s x y m t ts xs a b is same first second symbol one other made =
    let p : a ≡ slice_get ts 0 = first ∙ ap (λ z. slice_get z 0) same in
    let q : b ≡ slice_get ts 1 = second ∙ ap (λ z. slice_get z 1) same in
    head_shapes f t ts m is (cc)

pub part_read : (n : ℕ) (o u : Option Term) (ms : List ℕ) → o ≡ u → PartHasShapes n o ms → PartHasShapes n u ms
part_read n o u ms is = subst (λ x. PartHasShapes n x ms) is

two_items : (xs : List ℕ) → length xs ≡ 2 → xs ≡ get_or xs 0 0 ∷ get_or xs 1 0 ∷ []
two_items [] e = absurd (omega (arith, e))
two_items (x ∷ []) e = absurd (omega (arith, e))
two_items (x ∷ y ∷ []) e = refl
two_items (x ∷ y ∷ z ∷ xs) e = absurd (omega (arith, e))

pub made_shapes : (f s m n u v : ℕ) (t : Term) (ts xs : List Term) (hs is : List ℕ) (a b : Option Term) → t ≡ App f ts → xs ≡ ts → a ≡ slice_get xs 0 → b ≡ slice_get xs 1 →
    s ≡ f → length hs ≡ 2 → length is ≡ 2 → PartHasShapes 1 a hs → PartHasShapes 1 b is → m ≡ mix s (get_or hs 0 0) (get_or is 0 0) →
    n ≡ mix s (get_or hs 0 0) (get_or is 1 0) → u ≡ mix s (get_or hs 1 0) (get_or is 0 0) → v ≡ mix s (get_or hs 1 0) (get_or is 1 0) →
    HasShapes 2 t (0 ∷ m ∷ n ∷ u ∷ v ∷ [])
made_shapes f s m n u v t ts xs hs is a b app same first second symbol two both one other e1 e2 e3 e4 =
    subst (HasShapes 2 t) lists
    (short_shapes f t ts (get_or hs 0 0) (get_or hs 1 0) (get_or is 0 0) (get_or is 1 0) app
    (part_read 1 a (slice_get ts 0) (get_or hs 0 0 ∷ get_or hs 1 0 ∷ []) (first ∙ ap (λ z. slice_get z 0) same) (subst (PartHasShapes 1 a) (two_items hs two) one))
    (part_read 1 b (slice_get ts 1) (get_or is 0 0 ∷ get_or is 1 0 ∷ []) (second ∙ ap (λ z. slice_get z 1) same) (subst (PartHasShapes 1 b) (two_items is both) other)))
  where
    lists : 0 ∷ mix f (get_or hs 0 0) (get_or is 0 0) ∷ mix f (get_or hs 0 0) (get_or is 1 0) ∷ mix f (get_or hs 1 0) (get_or is 0 0) ∷ mix f (get_or hs 1 0) (get_or is 1 0) ∷ []
        ≡ 0 ∷ m ∷ n ∷ u ∷ v ∷ []
    lists = cc
