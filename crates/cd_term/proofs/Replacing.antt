-- Instances in which a subterm is replaced.
use Rattle.std.proofs.Common.{◌≡◌, ℕ, ◌+◌, ◌<◌, List, [], ◌∷◌, ◌++◌, length, map, take, drop, get_or, Option, None, Some, IfSome, IsSomeAnd, Result, Ok, Err, IsErrAnd, slice_get, slice_set, option_and_then, option_map, ap, ap₂, ◌∙◌, sym, subst, refl, arith}
use Rattle.std.proofs.lemmas.List.{drop-map, take-map, length-map, length-set, get_or-set_same, take-set, drop-set-lt}
use Rattle.std.proofs.lemmas.Option.{slice_get-map, slice_get-get_or, slice_get_within, same_Some}
use Rattle.cd_list.proofs.Lists.{set_same}
use Rattle.cd_term.specs.declared.TermFault.{TermFault}
use Rattle.cd_term.specs.declared.TermFault.TheVariants.{OutOfBounds, Memory}
use Rattle.cd_term.specs.declared.Term.{Term}
use Rattle.cd_term.specs.declared.Term.TheVariants.{Var, App}
use Rattle.cd_term.specs.Terms.{applied, put, argument, subterm, replaced, IsWithin, IsMeasureOf}
use Rattle.cd_term.specs.Instances.{replaced_under, IsBeside}
use Rattle.cd_term.proofs.TermInduction.{ind}
use Rattle.cd_term.proofs.Equations.{applied-App}
use Rattle.cd_term.proofs.Paths.{argument-Var, argument-App}
use Rattle.cd_term.proofs.PathLaws.{steps_to}
use Rattle.cd_term.proofs.Replaced.{put-App, replaced-in}
use Rattle.cd_term.proofs.VariableLaws.{App-injective}
use Rattle.cd_term.proofs.MarkLemmas.{Var-App-apart}
use Rattle.cd_term.proofs.Around.{set_around}
use Rattle.cd_term.proofs.Comparing.{applied_none}

-- ---- one level

pub under-Var : (r s : List Term) (path : List ℕ) (i : ℕ) (rest : List ℕ) (new t : Term) (n : ℕ) → path ≡ i ∷ rest → t ≡ Var n → replaced_under r s path new t ≡ None
under-Var r s path i rest new t n p is = rw (p, is, argument-Var)

pub under-out : (r s : List Term) (path : List ℕ) (i : ℕ) (rest : List ℕ) (new t : Term) (f : ℕ) (ts : List Term) → path ≡ i ∷ rest → t ≡ App f ts →
    slice_get ts i ≡ None → replaced_under r s path new t ≡ None
under-out r s path i rest new t f ts p is out = rw (p, is, argument-App, out)

put_all : (o : Option Term) (r : List Term) (f : ℕ) (ts : List Term) (i : ℕ) →
    option_map (put i (applied r (App f ts))) o ≡ option_map (λ v. App f (slice_set (map (applied r) ts) i v)) o
put_all None r f ts i = refl
put_all (Some v) r f ts i = ap Some (ap (λ x. put i x v) (applied-App r f ts) ∙ put-App i f (map (applied r) ts) v)

pub under-in : (r s : List Term) (path : List ℕ) (i : ℕ) (rest : List ℕ) (new t : Term) (f : ℕ) (ts : List Term) (u : Term) → path ≡ i ∷ rest → t ≡ App f ts →
    slice_get ts i ≡ Some u → replaced_under r s path new t ≡ option_map (λ v. App f (slice_set (map (applied r) ts) i v)) (replaced_under r s rest new u)
under-in r s path i rest new t f ts u p is here =
    rw (p, is, argument-App, here) (put_all (replaced_under r s rest new u) r f ts i)

-- ---- what it is: a replacement in the instance, where the path stays in the term

pub under-is : (r s : List Term) (path : List ℕ) (new t u : Term) → subterm path t ≡ Some u → replaced_under r s path new t ≡ replaced path (applied s new) (applied r t)
under-is r s [] new t u e = refl
under-is r s (i ∷ path) new t u e =
    let a = steps_to i path u t e in
    under-in r s (i ∷ path) i path new t a.symbol a.args a.arg refl a.is a.here
    ∙ ap (option_map (λ v. App a.symbol (slice_set (map (applied r) a.args) i v))) (under-is r s path new a.arg u a.rest)
    ∙ sym (replaced-in (i ∷ path) i path (applied s new) (applied r t) a.symbol (map (applied r) a.args) (applied r a.arg) refl
    (ap (applied r) a.is ∙ applied-App r a.symbol a.args)
    (slice_get-map (applied r) a.args i ∙ ap (option_map (applied r)) a.here))

nowhere_at : (r s : List Term) (i : ℕ) (path : List ℕ) (new t : Term) (o : Option Term) → ((u : Term) → subterm path u ≡ None → replaced_under r s path new u ≡ None) →
    option_and_then (subterm path) o ≡ None → option_and_then (λ arg. option_map (put i (applied r t)) (replaced_under r s path new arg)) o ≡ None
nowhere_at r s i path new t None rest out = refl
nowhere_at r s i path new t (Some u) rest out = ap (option_map (put i (applied r t))) (rest u out)

pub under-nowhere : (r s : List Term) (path : List ℕ) (new t : Term) → subterm path t ≡ None → replaced_under r s path new t ≡ None
under-nowhere r s [] new t out = absurd (cc)
under-nowhere r s (i ∷ path) new t out = nowhere_at r s i path new t (argument i t) (under-nowhere r s path new) out

-- a path that stays in the term leads to a replacement
somewhere_map : (h : Term → Term) (o : Option Term) → option_map h o ≡ None → o ≡ None
somewhere_map h None out = refl
somewhere_map h (Some v) out = absurd (cc)

somewhere_at : (r s : List Term) (i : ℕ) (path : List ℕ) (new t : Term) (o : Option Term) → ((u : Term) → replaced_under r s path new u ≡ None → subterm path u ≡ None) →
    option_and_then (λ arg. option_map (put i (applied r t)) (replaced_under r s path new arg)) o ≡ None → option_and_then (subterm path) o ≡ None
somewhere_at r s i path new t None rest out = refl
somewhere_at r s i path new t (Some u) rest out = rest u (somewhere_map (put i (applied r t)) (replaced_under r s path new u) out)

pub under-somewhere : (r s : List Term) (path : List ℕ) (new t : Term) → replaced_under r s path new t ≡ None → subterm path t ≡ None
under-somewhere r s [] new t out = absurd (cc)
under-somewhere r s (i ∷ path) new t out = somewhere_at r s i path new t (argument i t) (under-somewhere r s path new) out

-- without substitutions
none_at : (i : ℕ) (path : List ℕ) (new t : Term) (o : Option Term) → ((u : Term) → replaced_under [] [] path new u ≡ replaced path new u) →
    option_and_then (λ arg. option_map (put i (applied [] t)) (replaced_under [] [] path new arg)) o ≡ option_and_then (λ arg. option_map (put i t) (replaced path new arg)) o
none_at i path new t None rest = refl
none_at i path new t (Some u) rest = ap₂ (λ (x : Term) (p : Option Term). option_map (put i x) p) (applied_none t) (rest u)

pub under-none : (path : List ℕ) (new t : Term) → replaced_under [] [] path new t ≡ replaced path new t
under-none [] new t = ap Some (applied_none new)
under-none (i ∷ path) new t = none_at i path new t (argument i t) (under-none path new)

-- ---- measures

pub under_measured : (symbols levels : ℕ) (r s : List Term) (path : List ℕ) (i : ℕ) (rest : List ℕ) (new t : Term) (f : ℕ) (ts : List Term) (u : Term) (answer : Option ℕ) →
    path ≡ i ∷ rest → t ≡ App f ts → slice_get ts i ≡ Some u → IsMeasureOf symbols levels (option_map (λ v. App f (slice_set (map (applied r) ts) i v)) (replaced_under r s rest new u)) answer →
    IsMeasureOf symbols levels (replaced_under r s path new t) answer
under_measured symbols levels r s path i rest new t f ts u answer p is here m =
    subst (λ o. IsMeasureOf symbols levels o answer) (sym (under-in r s path i rest new t f ts u p is here)) m

pub measured_nowhere : (symbols levels : ℕ) (o : Option Term) → o ≡ None → IsMeasureOf symbols levels o None
measured_nowhere symbols levels o out = subst (λ p. IsMeasureOf symbols levels p None) (sym out) refl

pub unchanged_replaced : (none : List Term) (steps path : List ℕ) (new t : Term) → none ≡ [] → steps ≡ path → replaced_under none none steps new t ≡ replaced path new t
unchanged_replaced none steps path new t empty same = ap₂ (λ (s : List Term) (q : List ℕ). replaced_under s s q new t) empty same ∙ under-none path new t

-- want of memory isn't a term out of bounds
pub memory_apart : {X : Type 0} (r : Result X TermFault) → IsErrAnd r (λ e. e ≡ Memory) → r ≡ Err OutOfBounds → ⊥
memory_apart (Ok x) memory e = memory
memory_apart (Err f) memory e = cc

-- what is measured is within the limits
pub measured_within : (symbols levels n : ℕ) (o : Option Term) → IsMeasureOf symbols levels o (Some n) → IfSome o (IsWithin symbols levels)
measured_within symbols levels n None m = tt
measured_within symbols levels n (Some v) m = m.1

pub measured_not_outside : (symbols levels n : ℕ) (o : Option Term) → IsMeasureOf symbols levels o (Some n) → IsSomeAnd o (λ v. ¬ IsWithin symbols levels v) → ⊥
measured_not_outside symbols levels n None m out = out
measured_not_outside symbols levels n (Some v) m out = out m.1

pub within_map : (h : Term → Term) (ts : List Term) (i : ℕ) → i < length ts → i < length (map h ts)
within_map h ts i lt = omega (arith, length-map ts h)

-- ---- lists that differ in one place

-- what is written stands there
pub set_there : {A : Type 0} (xs : List A) (i : ℕ) (x : A) → i < length xs → slice_get (slice_set xs i x) i ≡ Some x
set_there xs i x lt =
    let long : i < length (slice_set xs i x) = omega (arith, length-set xs i x) in
    slice_get-get_or (slice_set xs i x) i x long ∙ ap Some (get_or-set_same xs i x x lt)

pub got : {A : Type 0} (xs : List A) (i : ℕ) (x : A) → i < length xs → x ≡ get_or xs i x → slice_get xs i ≡ Some x
got xs i x lt is = slice_get-get_or xs i x lt ∙ ap Some (sym is)

pub beside_set : (k : ℕ) (s ts us : List Term) (other : Term) → IsBeside k s ts us → slice_get us k ≡ Some other → us ≡ slice_set (map (applied s) ts) k other
beside_set k s ts us other b there =
    let lt : k < length (map (applied s) ts) = within_map (applied s) ts k b.within in
    sym (set_around (map (applied s) ts) k other lt
    ∙ ap₂ (λ (vs ws : List Term). vs ++ other ∷ ws) (take-map (applied s) k ts ∙ b.front) (drop-map (applied s) (k + 1) ts ∙ b.back)
    ∙ sym (set_around us k other (omega (arith, b.as_many, b.within)))
    ∙ set_same us k other there)

pub set_beside : (k : ℕ) (s ts us : List Term) (other : Term) → k < length ts → us ≡ slice_set (map (applied s) ts) k other → IsBeside k s ts us
set_beside k s ts us other lt is = record {
  as_many = omega (arith, ap length is, length-set (map (applied s) ts) k other, length-map ts (applied s));
  within = lt;
  front = sym (take-map (applied s) k ts) ∙ sym (take-set (map (applied s) ts) k other) ∙ ap (take k) (sym is);
  back = sym (drop-map (applied s) (k + 1) ts) ∙ sym (drop-set-lt (k + 1) (map (applied s) ts) k other (omega arith)) ∙ ap (drop (k + 1)) (sym is);
}

-- ---- symbols with arguments compared

-- what a replacement in one of the arguments says of both
pub record Meets (r s : List Term) (k : ℕ) (rest : List ℕ) (new : Term) (f g : ℕ) (ts us : List Term) : Type 0 where
  pub same : f ≡ g
  pub beside : IsBeside k r ts us
  pub inside : (x y : Term) → slice_get ts k ≡ Some x → slice_get us k ≡ Some y → replaced_under r s rest new x ≡ Some y

meets_changed : (r s : List Term) (k : ℕ) (rest : List ℕ) (new : Term) (f g : ℕ) (ts us : List Term) (x : Term) (o : Option Term) → slice_get ts k ≡ Some x → replaced_under r s rest new x ≡ o →
    option_map (λ v. App f (slice_set (map (applied r) ts) k v)) o ≡ Some (App g us) → Meets r s k rest new f g ts us
meets_changed r s k rest new f g ts us x None here is e = absurd cc
meets_changed r s k rest new f g ts us x (Some v) here is e =
    let both = App-injective f g (slice_set (map (applied r) ts) k v) us (same_Some (App f (slice_set (map (applied r) ts) k v)) (App g us) e) in
    let lt = slice_get_within ts k x here in
    record {
      same = both.0;
      beside = set_beside k r ts us v lt (sym both.1);
      inside = λ w y at there.
          ap (replaced_under r s rest new) (same_Some w x (sym at ∙ here)) ∙ is
          ∙ sym (set_there (map (applied r) ts) k v (within_map (applied r) ts k lt)) ∙ ap (λ (vs : List Term). slice_get vs k) both.1 ∙ there;
    }

meets_at : (r s : List Term) (k : ℕ) (rest : List ℕ) (new : Term) (f g : ℕ) (ts us : List Term) (o : Option Term) → slice_get ts k ≡ o →
    replaced_under r s (k ∷ rest) new (App f ts) ≡ Some (App g us) → Meets r s k rest new f g ts us
meets_at r s k rest new f g ts us None is e = let none = under-out r s (k ∷ rest) k rest new (App f ts) f ts refl refl is in absurd cc
meets_at r s k rest new f g ts us (Some x) is e =
    meets_changed r s k rest new f g ts us x (replaced_under r s rest new x) is refl (sym (under-in r s (k ∷ rest) k rest new (App f ts) f ts x refl refl is) ∙ e)

pub meets : (r s : List Term) (k : ℕ) (rest path : List ℕ) (new t u : Term) (f g : ℕ) (xs ys ts us : List Term) → path ≡ k ∷ rest → t ≡ App f xs → u ≡ App g ys → ts ≡ xs → us ≡ ys →
    replaced_under r s path new t ≡ Some u → Meets r s k rest new f g ts us
meets r s k rest path new t u f g xs ys ts us p is at same too e =
    meets_at r s k rest new f g ts us (slice_get ts k) refl
    (ap₂ (λ (q : List ℕ) (x : Term). replaced_under r s q new x) (sym p) (ap (App f) same ∙ sym is) ∙ e ∙ ap Some (at ∙ ap (App g) (sym too)))

pub joins : (r s : List Term) (k : ℕ) (rest path : List ℕ) (new t u : Term) (f g : ℕ) (xs ys ts us : List Term) (x y : Term) → path ≡ k ∷ rest → t ≡ App f xs → u ≡ App g ys → ts ≡ xs → us ≡ ys →
    f ≡ g → IsBeside k r ts us → slice_get ts k ≡ Some x → slice_get us k ≡ Some y → replaced_under r s rest new x ≡ Some y → replaced_under r s path new t ≡ Some u
joins r s k rest path new t u f g xs ys ts us x y p is at left right same b here there inside =
    under-in r s path k rest new t f ts x p (is ∙ ap (App f) (sym left)) here
    ∙ ap (option_map (λ v. App f (slice_set (map (applied r) ts) k v))) inside
    ∙ ap Some (ap₂ App same (sym (beside_set k r ts us y b there) ∙ right) ∙ sym at)

-- a variable isn't a symbol with arguments that are replaced, nor is a variable looked into
pub result_apart : (r s : List Term) (k : ℕ) (rest path : List ℕ) (new t : Term) (n : ℕ) → path ≡ k ∷ rest → replaced_under r s path new t ≡ Some (Var n) → ⊥
result_apart r s k rest path new t n p e = at t (sym (ap (λ (q : List ℕ). replaced_under r s q new t) p) ∙ e)
  where
    changed : (f : ℕ) (ts : List Term) (o : Option Term) → option_map (λ v. App f (slice_set (map (applied r) ts) k v)) o ≡ Some (Var n) → ⊥
    changed f ts None e = cc
    changed f ts (Some v) e = Var-App-apart n f (slice_set (map (applied r) ts) k v) (sym (same_Some (App f (slice_set (map (applied r) ts) k v)) (Var n) e))

    of_arg : (f : ℕ) (ts : List Term) (o : Option Term) → slice_get ts k ≡ o → replaced_under r s (k ∷ rest) new (App f ts) ≡ Some (Var n) → ⊥
    of_arg f ts None is e = let none = under-out r s (k ∷ rest) k rest new (App f ts) f ts refl refl is in cc
    of_arg f ts (Some x) is e = changed f ts (replaced_under r s rest new x) (sym (under-in r s (k ∷ rest) k rest new (App f ts) f ts x refl refl is) ∙ e)

    at : (t : Term) → replaced_under r s (k ∷ rest) new t ≡ Some (Var n) → ⊥
    at = ind (λ t. replaced_under r s (k ∷ rest) new t ≡ Some (Var n) → ⊥)
        (λ m e. let none = under-Var r s (k ∷ rest) k rest new (Var m) m refl refl in cc)
        (λ f ts each e. of_arg f ts (slice_get ts k) refl e)
