-- Steps along a path.
use Rattle.std.proofs.Common.{◌≡◌, ℕ, ◌+◌, ◌<◌, List, length, drop, get_or, None, slice_get, option_and_then, ap, drop-cons, add-one}
use Rattle.cd_term.specs.declared.Term.{Term}
use Rattle.cd_term.specs.declared.Term.TheVariants.{Var, App, outs-Var, outs-App}
use Rattle.cd_term.specs.Terms.{argument, argument_step, subterm}

pub argument-Var : (i n : ℕ) → argument i (Var n) ≡ None
unfolding argument
argument-Var i n = ap (argument_step i) (outs-Var n)

pub argument-App : (i f : ℕ) (ts : List Term) → argument i (App f ts) ≡ slice_get ts i
unfolding argument
argument-App i f ts = ap (argument_step i) (outs-App f ts)

-- one step along a path, at each kind of term
pub subterm-Var : (path : List ℕ) (i : ℕ) (t : Term) (n : ℕ) → i < length path → t ≡ Var n → subterm (drop i path) t ≡ None
subterm-Var path i t n lt is = rw (is, drop-cons path i 0, argument-Var)

pub subterm-App : (path : List ℕ) (i : ℕ) (t : Term) (f : ℕ) (ts : List Term) → i < length path → t ≡ App f ts →
    subterm (drop i path) t ≡ option_and_then (subterm (drop (i + 1) path)) (slice_get ts (get_or path i 0))
subterm-App path i t f ts lt is = rw (is, add-one, drop-cons path i 0, argument-App)

pub ruleset place_rules = (subterm-Var, subterm-App)
