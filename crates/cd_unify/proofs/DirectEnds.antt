-- What bound variables stand for in the end.
use Rattle.std.proofs.Common.{◌≡◌, ◌⊎◌, inl, inr, ℕ, zero, suc, ◌+◌, ◌-◌, ◌<◌, ◌≤◌, List, [], ◌∷◌, ◌++◌, length, map, take, get_or, sum_by, unwrap_or, ap, subst, sym, refl, ◌∙◌, arith, Option, Some, None, IfSome, Result, Ok, Err, IfOk, option_map}
use Rattle.std.specs.List.{flat_map}
use Rattle.std.proofs.lemmas.List.{get_or-map, length-map, take_all, take_more, get_or_past}
use Rattle.std.proofs.lemmas.Bool.{cases_lt}
use Rattle.std.proofs.lemmas.Option.{unwrap_or-slice_get}
use Rattle.cd_term.specs.declared.Term.{Term}
use Rattle.cd_term.specs.declared.Term.TheVariants.{Var, App}
use Rattle.cd_term.specs.Terms.{substituted, value_of, bound_of, greatest, size_of, depth_of, variables_of, firsts_after, rank, ranked, unranked, renumbered, AreWithin}
use Rattle.cd_term.proofs.Equations.{substituted-Var, substituted-App, size_of-Var, depth_of-Var, variables_of-App}
use Rattle.cd_term.proofs.Substitutions.{substituted-same, substituted-substituted}
use Rattle.cd_term.proofs.Measures.{next_measured, whole_measured, symbol_measured}
use Rattle.cd_term.proofs.Firsts.{firsts_more}
use Rattle.cd_term.proofs.VariableLaws.{value_of-map, renumbered-back}
use Rattle.cd_unify.specs.declared.direct.Standing.{Standing}
use Rattle.cd_unify.specs.declared.direct.Outcome.{Outcome}
use Rattle.cd_unify.specs.declared.direct.Outcome.TheVariants.{Equal, Apart}
use Rattle.cd_unify.specs.Unifiers.{raised, IsMgu, HaveNoUnifier}
use Rattle.cd_unify.specs.Robinson.{IsIdentity}
use Rattle.cd_unify.specs.Direct.{standing, bound_to, Solves, Settles, JoinsAll, resolved, Resolves, IsSurveyed, AreSurveyed, IsFinished}
use Rattle.cd_unify.proofs.MatchLemmas.{Gives}
use Rattle.cd_unify.proofs.GraphLemmas.{all_raised_none}
use Rattle.cd_unify.proofs.UnifierLemmas.{absorbed_mgu, within_renumbered}
use Rattle.cd_unify.proofs.DirectLemmas.{value_variable, value_symbol, bound_read}

pub ok_as : {X E : Type 0} (r : Result X E) (P Q : X → Type 0) → ((x : X) → P x → Q x) → IfOk r P → IfOk r Q
ok_as (Ok x) P Q f p = f x p
ok_as (Err e) P Q f p = tt

pub some_as : {X : Type 0} (o : Option X) (P Q : X → Type 0) → ((x : X) → P x → Q x) → IfSome o P → IfSome o Q
some_as (Some x) P Q f p = f x p
some_as None P Q f p = tt

pub some_at : {X : Type 0} (o : Option X) (x : X) (P : X → Type 0) → IfSome o P → o ≡ Some x → P x
some_at o x P p is = subst (λ o. IfSome o P) is p

-- ---- one replacement more

resolved_to : (vs : List (Option Term)) (n k : ℕ) (u : Term) → get_or vs k None ≡ Some u → resolved vs (suc n) k ≡ substituted (resolved vs n) u
unfolding resolved
resolved_to vs n k u is = ap (λ o. unwrap_or (option_map (substituted (resolved vs n)) o) (Var k)) is

resolved_unbound : (vs : List (Option Term)) (n k : ℕ) → get_or vs k None ≡ None → resolved vs n k ≡ Var k
unfolding resolved
resolved_unbound vs zero k is = refl
resolved_unbound vs (suc n) k is = ap (λ o. unwrap_or (option_map (substituted (resolved vs n)) o) (Var k)) is

pub resolves_on : (values : List (Option Standing)) (p next : Standing) (k levels : ℕ) (d : Option Standing) (P : Term → Type 0) → p.term.now ≡ Var k →
    p.up + k < length values → get_or values (p.up + k) d ≡ Some next → 0 < levels →
    Resolves (bound_to values) (levels - 1) (standing next) P → Resolves (bound_to values) levels (standing p) P
resolves_on values p next k levels d P var lt is some rest zero le = absurd (omega (arith, some, le))
resolves_on values p next k levels d P var lt is some rest (suc n) le =
    subst P (sym (value_variable (resolved (bound_to values) (suc n)) p k var
    ∙ resolved_to (bound_to values) n (p.up + k) (standing next) (bound_read values (p.up + k) d (Some next) lt is))) (rest n (omega (arith, le)))

pub resolves_here : (values : List (Option Standing)) (p : Standing) (k n : ℕ) (d : Option Standing) → p.term.now ≡ Var k → p.up + k < length values →
    get_or values (p.up + k) d ≡ None → substituted (resolved (bound_to values) n) (standing p) ≡ Var (p.up + k)
resolves_here values p k n d var lt is =
    value_variable (resolved (bound_to values) n) p k var ∙ resolved_unbound (bound_to values) n (p.up + k) (bound_read values (p.up + k) d None lt is)

-- ---- sizes, and variables noted

pub surveyed_on : (values : List (Option Standing)) (p next : Standing) (k symbols levels size : ℕ) (d : Option Standing) (old new : List ℕ) → p.term.now ≡ Var k →
    p.up + k < length values → get_or values (p.up + k) d ≡ Some next → 0 < levels →
    Resolves (bound_to values) (levels - 1) (standing next) (IsSurveyed symbols (levels - 1) old new size) →
    Resolves (bound_to values) levels (standing p) (IsSurveyed symbols levels old new size)
surveyed_on values p next k symbols levels size d old new var lt is some rest =
    resolves_on values p next k levels d (IsSurveyed symbols levels old new size) var lt is some
    (λ n le. record {
      size_is = (rest n le).size_is;
      within = ((rest n le).within.0, omega (arith, (rest n le).within.1));
      noted = (rest n le).noted;
    })

pub surveyed_here : (values : List (Option Standing)) (p : Standing) (k symbols levels : ℕ) (d : Option Standing) (old new : List ℕ) → p.term.now ≡ Var k →
    p.up + k < length values → get_or values (p.up + k) d ≡ None → 0 < symbols → 0 < levels → new ≡ firsts_after old (variables_of (Var (p.up + k))) →
    Resolves (bound_to values) levels (standing p) (IsSurveyed symbols levels old new 1)
surveyed_here values p k symbols levels d old new var lt is some more noted n le =
    subst (IsSurveyed symbols levels old new 1) (sym (resolves_here values p k n d var lt is)) (record {
      size_is = sym (size_of-Var (p.up + k));
      within = (omega (arith, size_of-Var (p.up + k)), omega (arith, depth_of-Var (p.up + k)));
      noted = noted;
    })

-- some of several terms
pub record SomeSurveyed (levels base : ℕ) (old new : List ℕ) (total : ℕ) (ts : List Term) (i : ℕ) : Type 0 where
  pub total_is : total ≡ base + sum_by size_of (take i ts)
  pub flat : greatest (map depth_of (take i ts)) ≤ levels
  pub noted : new ≡ firsts_after old (flat_map variables_of (take i ts))

pub survey_next : (ts : List Term) (i base total symbols levels n : ℕ) (x : Term) (old now new : List ℕ) → i < length ts → x ≡ get_or ts i x → total ≤ symbols →
    SomeSurveyed levels base old now total ts i → IsSurveyed (symbols - total) levels now new n x → SomeSurveyed levels base old new (total + n) ts (i + 1)
survey_next ts i base total symbols levels n x old now new lt at few so s =
    let m = next_measured ts i base total symbols levels n x lt at so.total_is few so.flat (s.size_is, s.within) in
    record {
      total_is = m.0;
      flat = m.2;
      noted = s.noted ∙ ap (λ xs. firsts_after xs (variables_of x)) so.noted
          ∙ sym (firsts_more old ts i x lt ∙ ap (λ u. firsts_after (firsts_after old (flat_map variables_of (take i ts))) (variables_of u)) (sym at));
    }

pub survey_symbol : (t : Term) (f : ℕ) (ts us : List Term) (i total symbols levels : ℕ) (old new : List ℕ) → t ≡ App f ts → us ≡ ts → length us ≤ i → 0 < levels →
    total ≤ symbols → SomeSurveyed (levels - 1) 1 old new total us i → IsSurveyed symbols levels old new total t
survey_symbol t f ts us i total symbols levels old new is same past some few so =
    let m = symbol_measured t f ts us symbols levels total is same some (whole_measured us i 1 total symbols (levels - 1) past so.total_is few so.flat) in
    record {
      size_is = m.0;
      within = m.1;
      noted = so.noted ∙ ap (firsts_after old) (ap (flat_map variables_of) (take_all i us past ∙ same) ∙ sym (ap variables_of is ∙ variables_of-App f ts));
    }

pub survey_list : (us : List Term) (i total symbols levels : ℕ) (old new : List ℕ) → length us ≤ i → total ≤ symbols →
    SomeSurveyed levels 0 old new total us i → AreSurveyed symbols levels old new total us
survey_list us i total symbols levels old new past few so =
    let m = whole_measured us i 0 total symbols levels past so.total_is few so.flat in
    record {
      size_is = omega (arith, m.0);
      within = (omega (arith, m.1), m.2);
      noted = so.noted ∙ ap (λ vs. firsts_after old (flat_map variables_of vs)) (take_all i us past);
    }

-- ---- terms built

pub built_next : (ts : List Term) (i : ℕ) (x u : Term) (done after : List Term) → i < length ts → x ≡ get_or ts i x → u ≡ x → done ≡ take i ts →
    after ≡ done ++ u ∷ [] → after ≡ take (i + 1) ts
built_next ts i x u done after lt at is so_far next =
    next ∙ ap (λ xs. xs ++ u ∷ []) so_far ∙ ap (λ v. take i ts ++ v ∷ []) (is ∙ at) ∙ sym (take_more ts i x lt)

pub built_here : (values : List (Option Standing)) (p : Standing) (k levels : ℕ) (d : Option Standing) (order : List ℕ) (t : Term) → p.term.now ≡ Var k →
    p.up + k < length values → get_or values (p.up + k) d ≡ None → t ≡ Var (rank order (p.up + k)) →
    Resolves (bound_to values) levels (standing p) (λ u. t ≡ substituted (ranked order) u)
built_here values p k levels d order t var lt is made n le =
    made ∙ sym (ap (substituted (ranked order)) (resolves_here values p k n d var lt is) ∙ substituted-Var (ranked order) (p.up + k))

pub built_symbol : (g h : ℕ → Term) (p : Standing) (f : ℕ) (ts us done : List Term) (i : ℕ) → p.term.now ≡ App f ts → us ≡ ts → length us ≤ i →
    done ≡ take i (map (substituted h) (map (substituted g) (map (raised p.up) us))) → App f done ≡ substituted h (substituted g (standing p))
built_symbol g h p f ts us done i is same past so_far =
    ap (App f) (so_far ∙ take_all i (map (substituted h) (map (substituted g) (map (raised p.up) us))) (omega (
      arith,
      past,
      length-map (map (substituted g) (map (raised p.up) us)) (substituted h),
      length-map (map (raised p.up) us) (substituted g),
      length-map us (raised p.up),
    ))
    ∙ ap (λ vs. map (substituted h) (map (substituted g) (map (raised p.up) vs))) same)
    ∙ sym (ap (substituted h) (value_symbol g p f ts is) ∙ substituted-App h f (map (substituted g) (map (raised p.up) ts)))

-- ---- the substitution that they make

value_past : (s : List Term) (k : ℕ) → length s ≤ k → value_of s k ≡ Var k
value_past s k le = unwrap_or-slice_get s k (Var k) ∙ get_or_past s k (Var k) le

-- each substitution that solves the values makes no difference between a variable and what it stands for
absorbs_at : (g : ℕ → Term) (vs : List (Option Term)) (n k : ℕ) (o : Option Term) → get_or vs k None ≡ o → Solves g vs →
    ((j : ℕ) → substituted g (resolved vs n j) ≡ g j) → substituted g (resolved vs (suc n) k) ≡ g k
absorbs_at g vs n k None is solves rest = ap (substituted g) (resolved_unbound vs (suc n) k is) ∙ substituted-Var g k
absorbs_at g vs n k (Some u) is solves rest =
    ap (substituted g) (resolved_to vs n k u is) ∙ substituted-substituted g (resolved vs n) u
    ∙ substituted-same (λ j. substituted g (resolved vs n j)) g rest u ∙ sym (given (cases_lt k (length vs)))
  where
    given : (k < length vs) ⊎ (length vs ≤ k) → g k ≡ substituted g u
    given (inl lt) = subst (Gives g k) (get_or-map (option_map (substituted g)) vs k None None lt ∙ ap (option_map (substituted g)) is) (solves k)
    given (inr le) = absurd (let none : None ≡ Some u = sym (get_or_past vs k None le) ∙ is in cc)

absorbs : (g : ℕ → Term) (vs : List (Option Term)) → Solves g vs → (n k : ℕ) → substituted g (resolved vs n k) ≡ g k
unfolding resolved
absorbs g vs solves zero k = substituted-Var g k
absorbs g vs solves (suc n) k = absorbs_at g vs n k (get_or vs k None) refl solves (absorbs g vs solves n)

-- the terms that the variables stand for
abbrev pub ends : List (Option Term) → List Term → ℕ → List Term
ends vs ids m = map (substituted (resolved vs m)) (map (raised 0) ids)

ends_covers : (vs : List (Option Term)) (ids : List Term) (m : ℕ) → length (ends vs ids m) ≡ length ids
ends_covers vs ids m = length-map (map (raised 0) ids) (substituted (resolved vs m)) ∙ length-map ids (raised 0)

end_is : (vars : ℕ) (vs : List (Option Term)) (ids : List Term) (m k : ℕ) → IsIdentity vars ids → length vs ≡ vars → value_of (ends vs ids m) k ≡ resolved vs m k
end_is vars vs ids m k id covers = elim (cases_lt k vars) [
  | inl lt ↦ ap (λ ts. value_of (map (substituted (resolved vs m)) ts) k) (all_raised_none ids)
      ∙ value_of-map (substituted (resolved vs m)) ids k (omega (arith, lt, id.covers))
      ∙ ap (substituted (resolved vs m)) (id.same k) ∙ substituted-Var (resolved vs m) k
  | inr le ↦ value_past (ends vs ids m) k (omega (arith, le, ends_covers vs ids m, id.covers))
      ∙ sym (resolved_unbound vs m k (get_or_past vs k None (omega (arith, le, covers))))
]

finished : (vars size : ℕ) (vs : List (Option Term)) (ids s : List Term) (order : List ℕ) → IsIdentity vars ids → length vs ≡ vars →
    ((m : ℕ) → 1000 ≤ m → AreSurveyed 65535 1000 [] order size (ends vs ids m)) →
    ((m : ℕ) → 1000 ≤ m → s ≡ map (substituted (ranked order)) (ends vs ids m)) → IsFinished vars vs s
finished vars size vs ids s order id covers surveyed built = record {
  ends = ends vs ids 1000;
  covers = ends_covers vs ids 1000 ∙ id.covers;
  solves = λ k. solves_at k (get_or vs k None) refl (cases_lt k (length vs));
  absorbed = λ g solves k lt. ap (substituted g) (end_is vars vs ids 1000 k id covers) ∙ absorbs g vs solves 1000 k;
  within = (surveyed 1000 (omega arith)).within;
  normal = normal 1000 (omega arith);
}
  where
    normal : (m : ℕ) → 1000 ≤ m → s ≡ renumbered (ends vs ids m)
    normal m le = built m le ∙ ap (λ o. map (substituted (ranked o)) (ends vs ids m)) (surveyed m le).noted

    back : (m : ℕ) → 1000 ≤ m → ends vs ids m ≡ map (substituted (unranked order)) s
    back m le = sym (ap (map (substituted (unranked order))) (normal m le)
        ∙ ap (λ o. map (substituted (unranked o)) (renumbered (ends vs ids m))) (surveyed m le).noted ∙ renumbered-back (ends vs ids m))

    stays : ends vs ids 1000 ≡ ends vs ids 1001
    stays = back 1000 (omega arith) ∙ sym (back 1001 (omega arith))

    e : ℕ → Term
    e = value_of (ends vs ids 1000)

    solves_at : (k : ℕ) (o : Option Term) → get_or vs k None ≡ o → (k < length vs) ⊎ (length vs ≤ k) →
        Gives e k (get_or (map (option_map (substituted e)) vs) k None)
    solves_at k o is (inr le) = subst (Gives e k) (sym (get_or_past (map (option_map (substituted e)) vs) k None (omega (arith, le, length-map vs (option_map (substituted e)))))) tt
    solves_at k None is (inl lt) =
        subst (Gives e k) (sym (get_or-map (option_map (substituted e)) vs k None None lt ∙ ap (option_map (substituted e)) is)) tt
    solves_at k (Some u) is (inl lt) =
        subst (Gives e k) (sym (get_or-map (option_map (substituted e)) vs k None None lt ∙ ap (option_map (substituted e)) is))
        (ap (λ ts. value_of ts k) stays ∙ end_is vars vs ids 1001 k id covers ∙ resolved_to vs 1000 k u is
        ∙ substituted-same (resolved vs 1000) e (λ j. sym (end_is vars vs ids 1000 j id covers)) u)

-- the same of what the calls answered
pub finished_from : (vars size : ℕ) (vs : List (Option Term)) (ids xs ys s : List Term) (start seen order : List ℕ) → IsIdentity vars ids → length vs ≡ vars →
    start ≡ [] → xs ≡ ids → ys ≡ ids → order ≡ seen → ((m : ℕ) → 1000 ≤ m → AreSurveyed 65535 1000 start seen size (ends vs xs m)) →
    ((m : ℕ) → 1000 ≤ m → s ≡ map (substituted (ranked order)) (ends vs ys m)) → IsFinished vars vs s
finished_from vars size vs ids xs ys s start seen order id covers none xi yi same surveyed built = finished vars size vs ids s seen id covers
    (λ m le. subst (λ zs. AreSurveyed 65535 1000 [] seen size (ends vs zs m)) xi (subst (λ b. AreSurveyed 65535 1000 b seen size (ends vs xs m)) none (surveyed m le)))
    (λ m le. built m le ∙ ap (λ o. map (substituted (ranked o)) (ends vs ys m)) same ∙ ap (λ zs. map (substituted (ranked seen)) (ends vs zs m)) yi)

-- ---- the answer

pub none_solved : (vs : List (Option Term)) → ((k : ℕ) → get_or vs k None ≡ None) → (g : ℕ → Term) → Solves g vs
none_solved vs none g k = elim (cases_lt k (length vs)) [
  | inl lt ↦ subst (Gives g k) (sym (get_or-map (option_map (substituted g)) vs k None None lt ∙ ap (option_map (substituted g)) (none k))) tt
  | inr le ↦ subst (Gives g k) (sym (get_or_past (map (option_map (substituted g)) vs) k None (omega (arith, le, length-map vs (option_map (substituted g)))))) tt
]

pub refuted : (old new : List (Option Term)) (left right : List Term) (o : Outcome) → ((k : ℕ) → get_or old k None ≡ None) → Settles (JoinsAll left right) old new o →
    o ≡ Apart → HaveNoUnifier left right
refuted old new left right o none is apart = record {
  none = λ g un. step g (none_solved old none g) un;
}
  where
    step : Settles (JoinsAll left right) old new Apart
    step = subst (Settles (JoinsAll left right) old new) apart is

pub unified : (vars : ℕ) (old new : List (Option Term)) (left right s : List Term) (o : Outcome) → ((k : ℕ) → get_or old k None ≡ None) →
    Settles (JoinsAll left right) old new o → o ≡ Equal → IsFinished vars new s →
    greatest (map bound_of left) ≤ vars → greatest (map bound_of right) ≤ vars → IsMgu vars left right s × AreWithin 65535 1000 s
unified vars old new left right s o none is equal f lb rb = (
  subst (IsMgu vars left right) (sym f.normal) (absorbed_mgu vars left right f.ends (record {
    covers = f.covers;
    unifies = ((step (value_of f.ends)).1 f.solves).1;
    general = λ g un k lt. f.absorbed g ((step g).0 (none_solved old none g, un)) k lt;
  }) lb rb),
  subst (AreWithin 65535 1000) (sym f.normal) (within_renumbered 65535 1000 f.ends f.within),
)
  where
    step : Settles (JoinsAll left right) old new Equal
    step = subst (Settles (JoinsAll left right) old new) equal is
