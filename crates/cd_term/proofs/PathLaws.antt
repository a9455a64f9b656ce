-- Subterms and replacements: sizes, one path after another, and substitutions.
use Rattle.std.proofs.Common.{◌≡◌, ℕ, ◌+◌, ◌<◌, ◌≤◌, max, List, [], ◌∷◌, ◌++◌, length, map, Option, Some, None, slice_get, slice_set, option_and_then, option_map, ap, ◌∙◌, sym, subst, refl, arith}
use Rattle.std.proofs.lemmas.List.{map-set, set-get_or, get_or-set_same, length-set}
use Rattle.std.proofs.lemmas.Option.{slice_get-map, slice_get_within, slice_get-get_or, get_or_from_slice_get, same_Some}
use Rattle.cd_term.specs.declared.Term.{Term}
use Rattle.cd_term.specs.declared.Term.TheVariants.{Var, App}
use Rattle.cd_term.specs.Terms.{size_of, depth_of, substituted, subterm, replaced, argument}
use Rattle.cd_term.proofs.TermInduction.{ind}
use Rattle.cd_term.proofs.Equations.{substituted-App}
use Rattle.cd_term.proofs.Paths.{argument-Var, argument-App}
use Rattle.cd_term.proofs.Replaced.{put_size, put_depth, replaced-Var, replaced-in, replaced-out}

-- a path that leads to a subterm begins at a symbol
pub record StepsTo (i : ℕ) (path : List ℕ) (t u : Term) : Type 0 where
  pub symbol : ℕ
  pub args : List Term
  pub arg : Term
  pub is : t ≡ App symbol args
  pub here : slice_get args i ≡ Some arg
  pub rest : subterm path arg ≡ Some u

steps_at : (i : ℕ) (path : List ℕ) (u : Term) (f : ℕ) (ts : List Term) (o : Option Term) → slice_get ts i ≡ o →
    option_and_then (subterm path) o ≡ Some u → StepsTo i path (App f ts) u
steps_at i path u f ts None is e = absurd (cc)
steps_at i path u f ts (Some x) is e = record { symbol = f; args = ts; arg = x; is = refl; here = is; rest = e }

pub steps_to : (i : ℕ) (path : List ℕ) (u t : Term) → subterm (i ∷ path) t ≡ Some u → StepsTo i path t u
steps_to i path u = ind (λ t. subterm (i ∷ path) t ≡ Some u → StepsTo i path t u)
    (λ n e. let none = ap (option_and_then (subterm path)) (argument-Var i n) in absurd (cc))
    (λ f ts each e. steps_at i path u f ts (slice_get ts i) refl (sym (ap (option_and_then (subterm path)) (argument-App i f ts)) ∙ e))

-- and so does a path where something is replaced
pub record PutsIn (i : ℕ) (path : List ℕ) (new t v : Term) : Type 0 where
  pub symbol : ℕ
  pub args : List Term
  pub arg : Term
  pub changed : Term
  pub is : t ≡ App symbol args
  pub here : slice_get args i ≡ Some arg
  pub rest : replaced path new arg ≡ Some changed
  pub result : v ≡ App symbol (slice_set args i changed)

puts_changed : (i : ℕ) (path : List ℕ) (new v : Term) (f : ℕ) (ts : List Term) (x : Term) (o : Option Term) → slice_get ts i ≡ Some x →
    replaced path new x ≡ o → option_map (λ w. App f (slice_set ts i w)) o ≡ Some v → PutsIn i path new (App f ts) v
puts_changed i path new v f ts x None here is e = absurd (cc)
puts_changed i path new v f ts x (Some w) here is e =
    record { symbol = f; args = ts; arg = x; changed = w; is = refl; here = here; rest = is; result = sym (same_Some (App f (slice_set ts i w)) v e) }

puts_at : (i : ℕ) (path : List ℕ) (new v : Term) (f : ℕ) (ts : List Term) (o : Option Term) → slice_get ts i ≡ o →
    replaced (i ∷ path) new (App f ts) ≡ Some v → PutsIn i path new (App f ts) v
puts_at i path new v f ts None is e = let none = replaced-out (i ∷ path) i path new (App f ts) f ts refl refl is in absurd (cc)
puts_at i path new v f ts (Some x) is e = puts_changed i path new v f ts x (replaced path new x) is refl
    (sym (replaced-in (i ∷ path) i path new (App f ts) f ts x refl refl is) ∙ e)

pub puts_in : (i : ℕ) (path : List ℕ) (new v t : Term) → replaced (i ∷ path) new t ≡ Some v → PutsIn i path new t v
puts_in i path new v = ind (λ t. replaced (i ∷ path) new t ≡ Some v → PutsIn i path new t v)
    (λ n e. let none = replaced-Var (i ∷ path) i path new (Var n) n refl refl in absurd (cc))
    (λ f ts each e. puts_at i path new v f ts (slice_get ts i) refl e)

-- writing back what was there
same_args : (ts : List Term) (i : ℕ) (x : Term) → slice_get ts i ≡ Some x → slice_set ts i x ≡ ts
same_args ts i x e = subst (λ w. slice_set ts i w ≡ ts) (get_or_from_slice_get ts i x x e) (set-get_or ts i x)

new_arg : (ts : List Term) (i : ℕ) (w : Term) → i < length ts → slice_get (slice_set ts i w) i ≡ Some w
new_arg ts i w lt =
    let there : i < length (slice_set ts i w) = omega (arith, length-set ts i w) in
    slice_get-get_or (slice_set ts i w) i w there ∙ ap Some (get_or-set_same ts i w w lt)

-- the argument that a path goes through is the same for the subterm and for the replacement
same_arg : (f g : ℕ) (ts us : List Term) (i : ℕ) (x y t : Term) → t ≡ App f ts → t ≡ App g us → slice_get ts i ≡ Some x → slice_get us i ≡ Some y → x ≡ y
same_arg f g ts us i x y t a b here there =
    same_Some x y (sym here ∙ sym (argument-App i f ts) ∙ sym (ap (argument i) a) ∙ ap (argument i) b ∙ argument-App i g us ∙ there)

pub size_of-replaced : (path : List ℕ) (new t u v : Term) → subterm path t ≡ Some u → replaced path new t ≡ Some v →
    size_of v + size_of u ≡ size_of t + size_of new
size_of-replaced [] new t u v e p = omega (arith, ap size_of (same_Some t u e), ap size_of (same_Some new v p))
size_of-replaced (i ∷ path) new t u v e p =
    let s = steps_to i path u t e in let c = puts_in i path new v t p in
    let arg : s.arg ≡ c.arg = same_arg s.symbol c.symbol s.args c.args i s.arg c.arg t s.is c.is s.here c.here in
    let lt = slice_get_within c.args i c.arg c.here in
    omega (
      arith,
      size_of-replaced path new c.arg u c.changed (sym (ap (subterm path) arg) ∙ s.rest) c.rest,
      ap size_of c.result,
      put_size c.symbol c.args i c.changed lt,
      ap size_of c.is,
      ap (λ ts. size_of (App c.symbol ts)) (same_args c.args i c.arg c.here),
      put_size c.symbol c.args i c.arg lt,
    )

pub depth_of-replaced : (path : List ℕ) (new t v : Term) → replaced path new t ≡ Some v →
    (length path + depth_of new ≤ depth_of v) × (depth_of v ≤ max (depth_of t) (length path + depth_of new))
depth_of-replaced [] new t v p = let same = ap depth_of (same_Some new v p) in (omega arith, omega arith)
depth_of-replaced (i ∷ path) new t v p =
    let c = puts_in i path new v t p in
    let lt = slice_get_within c.args i c.arg c.here in
    let rest = depth_of-replaced path new c.arg c.changed c.rest in
    let after = ap depth_of c.result ∙ put_depth c.symbol c.args i c.changed lt in
    let before = ap depth_of c.is ∙ sym (ap (λ ts. depth_of (App c.symbol ts)) (same_args c.args i c.arg c.here)) ∙ put_depth c.symbol c.args i c.arg lt in
    (omega (arith, rest.0, after), omega (arith, rest.1, after, before))

pub subterm-replaced : (path : List ℕ) (new t v : Term) → replaced path new t ≡ Some v → subterm path v ≡ Some new
subterm-replaced [] new t v p = sym p
subterm-replaced (i ∷ path) new t v p =
    let c = puts_in i path new v t p in
    ap (subterm (i ∷ path)) c.result
    ∙ ap (option_and_then (subterm path)) (argument-App i c.symbol (slice_set c.args i c.changed)
    ∙ new_arg c.args i c.changed (slice_get_within c.args i c.arg c.here))
    ∙ subterm-replaced path new c.arg c.changed c.rest

pub replaced-same : (path : List ℕ) (t u : Term) → subterm path t ≡ Some u → replaced path u t ≡ Some t
replaced-same [] t u e = sym e
replaced-same (i ∷ path) t u e =
    let s = steps_to i path u t e in
    replaced-in (i ∷ path) i path u t s.symbol s.args s.arg refl s.is s.here
    ∙ ap (option_map (λ w. App s.symbol (slice_set s.args i w))) (replaced-same path s.arg u s.rest)
    ∙ ap Some (ap (App s.symbol) (same_args s.args i s.arg s.here) ∙ sym s.is)

after_front : (front back : List ℕ) (o : Option Term) →
    ((t : Term) → subterm (front ++ back) t ≡ option_and_then (subterm back) (subterm front t)) →
    option_and_then (subterm (front ++ back)) o ≡ option_and_then (subterm back) (option_and_then (subterm front) o)
after_front front back None rest = refl
after_front front back (Some x) rest = rest x

pub subterm-append : (front back : List ℕ) (t : Term) → subterm (front ++ back) t ≡ option_and_then (subterm back) (subterm front t)
subterm-append [] back t = refl
subterm-append (i ∷ front) back t = after_front front back (argument i t) (subterm-append front back)

-- below a substitution
pub subterm-substituted : (g : ℕ → Term) (path : List ℕ) (t u : Term) → subterm path t ≡ Some u →
    subterm path (substituted g t) ≡ Some (substituted g u)
subterm-substituted g [] t u e = ap (option_map (substituted g)) e
subterm-substituted g (i ∷ path) t u e =
    let s = steps_to i path u t e in
    ap (subterm (i ∷ path)) (ap (substituted g) s.is ∙ substituted-App g s.symbol s.args)
    ∙ ap (option_and_then (subterm path)) (argument-App i s.symbol (map (substituted g) s.args)
    ∙ slice_get-map (substituted g) s.args i ∙ ap (option_map (substituted g)) s.here)
    ∙ subterm-substituted g path s.arg u s.rest

pub replaced-substituted : (g : ℕ → Term) (path : List ℕ) (new t v : Term) → replaced path new t ≡ Some v →
    replaced path (substituted g new) (substituted g t) ≡ Some (substituted g v)
replaced-substituted g [] new t v p = ap (option_map (substituted g)) p
replaced-substituted g (i ∷ path) new t v p =
    let c = puts_in i path new v t p in
    replaced-in (i ∷ path) i path (substituted g new) (substituted g t) c.symbol (map (substituted g) c.args) (substituted g c.arg) refl
    (ap (substituted g) c.is ∙ substituted-App g c.symbol c.args)
    (slice_get-map (substituted g) c.args i ∙ ap (option_map (substituted g)) c.here)
    ∙ ap (option_map (λ w. App c.symbol (slice_set (map (substituted g) c.args) i w))) (replaced-substituted g path new c.arg c.changed c.rest)
    ∙ ap Some (ap (App c.symbol) (sym (map-set (substituted g) c.args i c.changed))
    ∙ sym (ap (substituted g) c.result ∙ substituted-App g c.symbol (slice_set c.args i c.changed)))
