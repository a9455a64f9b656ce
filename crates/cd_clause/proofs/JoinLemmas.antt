-- Two lists of literals one after the other, measured and built.
use Rattle.std.proofs.Common.{◌≡◌, ℕ, ◌+◌, ◌-◌, max, Some, List, ◌++◌, map, take, drop, remove, sum_by, ap, ◌∙◌, sym, subst, arith, add-one, append_assoc}
use Rattle.std.proofs.lemmas.List.{map-append}
use Rattle.std.proofs.lemmas.List.Sums.{sum_by-append}
use Rattle.cd_term.specs.declared.Term.{Term}
use Rattle.cd_term.specs.Terms.{greatest, applied}
use Rattle.cd_term.proofs.Measures.{greatest-append}
use Rattle.cd_clause.specs.declared.Literal.{Literal}
use Rattle.cd_clause.specs.declared.Clause.{Clause}
use Rattle.cd_clause.specs.Clauses.{literal_size, literal_depth, literal_changed, literals_changed, variable_bound_of, joined, AreLiteralsWithin, AreLiteralsMeasured}

sizes_append : (xs ys zs : List Literal) → zs ≡ xs ++ ys → sum_by literal_size zs ≡ sum_by literal_size xs + sum_by literal_size ys
sizes_append xs ys zs is = ap (sum_by literal_size) is ∙ sum_by-append literal_size xs ys

depths_append : (xs ys zs : List Literal) → zs ≡ xs ++ ys →
    greatest (map literal_depth zs) ≡ max (greatest (map literal_depth xs)) (greatest (map literal_depth ys))
depths_append xs ys zs is = ap (λ ls. greatest (map literal_depth ls)) is ∙ ap greatest (map-append literal_depth xs ys)
    ∙ greatest-append (map literal_depth xs) (map literal_depth ys)

pub first_outside : (symbols levels : ℕ) (xs ys zs : List Literal) → ¬ AreLiteralsWithin symbols levels xs → zs ≡ xs ++ ys → ¬ AreLiteralsWithin symbols levels zs
first_outside symbols levels xs ys zs out is within =
    out (omega (arith, sizes_append xs ys zs is, within.0), omega (arith, depths_append xs ys zs is, within.1))

pub second_outside : (symbols levels n : ℕ) (xs ys zs : List Literal) → AreLiteralsMeasured symbols levels xs (Some n) →
    ¬ AreLiteralsWithin (symbols - n) levels ys → zs ≡ xs ++ ys → ¬ AreLiteralsWithin symbols levels zs
second_outside symbols levels n xs ys zs m out is within =
    out (omega (arith, sizes_append xs ys zs is, within.0, m.0), omega (arith, depths_append xs ys zs is, within.1))

pub both_measured : (symbols levels n k : ℕ) (xs ys zs : List Literal) → AreLiteralsMeasured symbols levels xs (Some n) →
    AreLiteralsMeasured (symbols - n) levels ys (Some k) → zs ≡ xs ++ ys → AreLiteralsMeasured symbols levels zs (Some (n + k))
both_measured symbols levels n k xs ys zs m w is = (
  omega (arith, sizes_append xs ys zs is, m.0, w.0),
  (omega (arith, sizes_append xs ys zs is, m.0, m.1.0, w.0, w.1.0), omega (arith, depths_append xs ys zs is, m.1.1, w.1.1)),
)

-- all but one literal, changed
pub without_changed : (h : Term → Term) (ls us vs : List Literal) (i : ℕ) → us ≡ take i ls → vs ≡ drop (i + 1) ls →
    literals_changed h (remove ls i) ≡ literals_changed h us ++ literals_changed h vs
without_changed h ls us vs i is are =
    ap (λ ks. literals_changed h (take i ls ++ ks)) (ap (λ n. drop n ls) (sym (add-one i)) ∙ sym are)
    ∙ ap (λ ks. literals_changed h (ks ++ vs)) (sym is)
    ∙ map-append (literal_changed h) us vs

pub without_pushed : (h : Term → Term) (ls us vs start middle end : List Literal) (i : ℕ) → middle ≡ start ++ literals_changed h us →
    end ≡ middle ++ literals_changed h vs → us ≡ take i ls → vs ≡ drop (i + 1) ls → end ≡ start ++ literals_changed h (remove ls i)
without_pushed h ls us vs start middle end i first second is are =
    second ∙ ap (λ ks. ks ++ literals_changed h vs) first ∙ append_assoc start (literals_changed h us) (literals_changed h vs)
    ∙ ap (λ ks. start ++ ks) (sym (without_changed h ls us vs i is are))

-- the joined literals of what the code reads
pub joined_read : (a b : Clause) (i j : ℕ) (s moved : List Term) (xs ys : List Literal) → xs ≡ a.literals → ys ≡ b.literals →
    moved ≡ drop (variable_bound_of a) s →
    joined a i b j s ≡ literals_changed (applied s) (remove xs i) ++ literals_changed (applied moved) (remove ys j)
joined_read a b i j s moved xs ys first second is =
    ap (λ ls. literals_changed (applied s) (remove ls i) ++ literals_changed (applied (drop (variable_bound_of a) s)) (remove b.literals j)) (sym first)
    ∙ ap (λ ls. literals_changed (applied s) (remove xs i) ++ literals_changed (applied (drop (variable_bound_of a) s)) (remove ls j)) (sym second)
    ∙ ap (λ u. literals_changed (applied s) (remove xs i) ++ literals_changed (applied u) (remove ys j)) (sym is)

pub joined_within : (a b : Clause) (i j n : ℕ) (s t : List Term) → s ≡ t → AreLiteralsMeasured 65535 1000 (joined a i b j s) (Some n) →
    AreLiteralsWithin 65535 1000 (joined a i b j t)
joined_within a b i j n s t same m = subst (λ u. AreLiteralsWithin 65535 1000 (joined a i b j u)) same m.1
