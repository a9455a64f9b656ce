-- One level of a replacement, and its size and depth.
use Rattle.std.proofs.Common.{◌≡◌, ℕ, ◌+◌, ◌<◌, max, List, [], ◌∷◌, ◌++◌, length, map, take, drop, sum_by, Option, None, Some, IsSomeAnd, slice_get, slice_set, option_and_then, option_map, ap, ◌∙◌, sym, subst, refl, arith, add-one, append_assoc}
use Rattle.std.proofs.lemmas.List.{set_split, map-append}
use Rattle.std.proofs.lemmas.List.Sums.{sum_by-append, sum_by-cons}
use Rattle.cd_term.specs.declared.Term.{Term}
use Rattle.cd_term.specs.declared.Term.TheVariants.{Var, App, outs-App}
use Rattle.cd_term.specs.Terms.{put, put_step, subterm, replaced, argument, size_of, depth_of, greatest, IsWithin, IsMeasureOf}
use Rattle.cd_term.proofs.Equations.{size_of-App, depth_of-App}
use Rattle.cd_term.proofs.Measures.{greatest-append}
use Rattle.cd_term.proofs.Paths.{argument-Var, argument-App}

pub put-App : (i f : ℕ) (ts : List Term) (u : Term) → put i (App f ts) u ≡ App f (slice_set ts i u)
unfolding put
put-App i f ts u = ap (put_step i u) (outs-App f ts)

pub replaced-Var : (path : List ℕ) (i : ℕ) (rest : List ℕ) (new t : Term) (n : ℕ) → path ≡ i ∷ rest → t ≡ Var n →
    replaced path new t ≡ None
replaced-Var path i rest new t n p is = rw (p, is, argument-Var)

-- where the argument is not there
pub replaced-out : (path : List ℕ) (i : ℕ) (rest : List ℕ) (new t : Term) (f : ℕ) (ts : List Term) → path ≡ i ∷ rest → t ≡ App f ts →
    slice_get ts i ≡ None → replaced path new t ≡ None
replaced-out path i rest new t f ts p is out = rw (p, is, argument-App, out)

put_all : (o : Option Term) (f : ℕ) (ts : List Term) (i : ℕ) →
    option_map (put i (App f ts)) o ≡ option_map (λ v. App f (slice_set ts i v)) o
put_all None f ts i = refl
put_all (Some v) f ts i = ap Some (put-App i f ts v)

-- where the argument is there
pub replaced-in : (path : List ℕ) (i : ℕ) (rest : List ℕ) (new t : Term) (f : ℕ) (ts : List Term) (u : Term) → path ≡ i ∷ rest → t ≡ App f ts →
    slice_get ts i ≡ Some u → replaced path new t ≡ option_map (λ v. App f (slice_set ts i v)) (replaced rest new u)
replaced-in path i rest new t f ts u p is here =
    rw (p, is, argument-App, here) (put_all (replaced rest new u) f ts i)

pub ruleset replaced_rules = (replaced-Var, replaced-out, replaced-in)

-- the size and the depth with one argument replaced
pub put_size : (f : ℕ) (ts : List Term) (i : ℕ) (w : Term) → i < length ts →
    size_of (App f (slice_set ts i w)) ≡ 1 + (sum_by size_of (take i ts) + (size_of w + sum_by size_of (drop (i + 1) ts)))
put_size f ts i w lt =
    let split : slice_set ts i w ≡ take i ts ++ w ∷ drop (i + 1) ts = set_split ts i w lt ∙ ap (λ n. take i ts ++ w ∷ drop n ts) (sym (add-one i)) in
    omega (
      arith,
      size_of-App f (slice_set ts i w),
      ap (sum_by size_of) split,
      sum_by-append size_of (take i ts) (w ∷ drop (i + 1) ts),
      sum_by-cons size_of w (drop (i + 1) ts),
    )

pub put_depth : (f : ℕ) (ts : List Term) (i : ℕ) (w : Term) → i < length ts →
    depth_of (App f (slice_set ts i w))
    ≡ 1 + max (greatest (map depth_of (take i ts))) (max (depth_of w) (greatest (map depth_of (drop (i + 1) ts))))
put_depth f ts i w lt =
    let split : slice_set ts i w ≡ take i ts ++ w ∷ drop (i + 1) ts = set_split ts i w lt ∙ ap (λ n. take i ts ++ w ∷ drop n ts) (sym (add-one i)) in
    depth_of-App f (slice_set ts i w) ∙ ap (λ us. 1 + greatest (map depth_of us)) split
    ∙ ap (λ ns. 1 + greatest ns) (map-append depth_of (take i ts) (w ∷ drop (i + 1) ts))
    ∙ ap (λ n. 1 + n) (greatest-append (map depth_of (take i ts)) (map depth_of (w ∷ drop (i + 1) ts)))

-- the list of arguments with one replaced, as it is built
pub put_built : (ts us vs start front middle all : List Term) (i : ℕ) (w : Term) → start ≡ [] → front ≡ start ++ us → middle ≡ front ++ w ∷ [] → all ≡ middle ++ vs →
    i < length ts → us ≡ take i ts → vs ≡ drop (i + 1) ts → all ≡ slice_set ts i w
put_built ts us vs start front middle all i w empty first second third lt is are =
    let split : slice_set ts i w ≡ take i ts ++ w ∷ drop (i + 1) ts = set_split ts i w lt ∙ ap (λ n. take i ts ++ w ∷ drop n ts) (sym (add-one i)) in
    let joined : (us ++ w ∷ []) ++ vs ≡ us ++ w ∷ vs = append_assoc us (w ∷ []) vs in
    third ∙ ap (λ xs. xs ++ vs) (second ∙ ap (λ xs. xs ++ w ∷ []) (first ∙ ap (λ xs. xs ++ us) empty)) ∙ joined
    ∙ ap (λ xs. xs ++ w ∷ vs) is ∙ ap (λ xs. take i ts ++ w ∷ xs) are ∙ sym split

-- a path that leads out of the term leads out of the replacement too
nowhere_at : (i : ℕ) (path : List ℕ) (new t : Term) (o : Option Term) →
    ((u : Term) → subterm path u ≡ None → replaced path new u ≡ None) → option_and_then (subterm path) o ≡ None →
    option_and_then (λ arg. option_map (put i t) (replaced path new arg)) o ≡ None
nowhere_at i path new t None rest out = refl
nowhere_at i path new t (Some u) rest out = ap (option_map (put i t)) (rest u out)

pub replaced-nowhere : (path : List ℕ) (new t : Term) → subterm path t ≡ None → replaced path new t ≡ None
replaced-nowhere [] new t out = absurd (cc)
replaced-nowhere (i ∷ path) new t out = nowhere_at i path new t (argument i t) (replaced-nowhere path new) out

-- and a path in the term leads to a replacement
somewhere_map : (h : Term → Term) (o : Option Term) → option_map h o ≡ None → o ≡ None
somewhere_map h None out = refl
somewhere_map h (Some v) out = absurd (cc)

somewhere_at : (i : ℕ) (path : List ℕ) (new t : Term) (o : Option Term) →
    ((u : Term) → replaced path new u ≡ None → subterm path u ≡ None) →
    option_and_then (λ arg. option_map (put i t) (replaced path new arg)) o ≡ None → option_and_then (subterm path) o ≡ None
somewhere_at i path new t None rest out = refl
somewhere_at i path new t (Some u) rest out = rest u (somewhere_map (put i t) (replaced path new u) out)

pub replaced-somewhere : (path : List ℕ) (new t : Term) → replaced path new t ≡ None → subterm path t ≡ None
replaced-somewhere [] new t out = absurd (cc)
replaced-somewhere (i ∷ path) new t out = somewhere_at i path new t (argument i t) (replaced-somewhere path new) out

outside_at : (symbols levels : ℕ) (o : Option Term) → (o ≡ None → ⊥) → IsMeasureOf symbols levels o None →
    IsSomeAnd o (λ v. ¬ IsWithin symbols levels v)
outside_at symbols levels None there m = absurd (there refl)
outside_at symbols levels (Some v) there m = m

-- a replacement outside of the limits
pub replaced_outside : (symbols levels : ℕ) (path : List ℕ) (new t u : Term) → Some u ≡ subterm path t →
    IsMeasureOf symbols levels (replaced path new t) None → IsSomeAnd (replaced path new t) (λ v. ¬ IsWithin symbols levels v)
replaced_outside symbols levels path new t u there m =
    outside_at symbols levels (replaced path new t) (λ out. let none = replaced-somewhere path new t out in absurd (cc)) m

not_some : (symbols levels : ℕ) (o : Option Term) → o ≡ None → IsSomeAnd o (λ v. ¬ IsWithin symbols levels v) → ⊥
not_some symbols levels None out some = some
not_some symbols levels (Some v) out some = absurd (cc)

pub not_replaced : (symbols levels : ℕ) (path : List ℕ) (new t : Term) → subterm path t ≡ None →
    IsSomeAnd (replaced path new t) (λ v. ¬ IsWithin symbols levels v) → ⊥
not_replaced symbols levels path new t out = not_some symbols levels (replaced path new t) (replaced-nowhere path new t out)

pub replaced_refused : (symbols levels : ℕ) (path steps : List ℕ) (new t u : Term) → Some u ≡ subterm path t → steps ≡ path →
    IsMeasureOf symbols levels (replaced steps new t) None → IsSomeAnd (replaced path new t) (λ v. ¬ IsWithin symbols levels v)
replaced_refused symbols levels path steps new t u there same m =
    replaced_outside symbols levels path new t u there (subst (λ p. IsMeasureOf symbols levels (replaced p new t) None) same m)
