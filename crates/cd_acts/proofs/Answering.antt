-- What a search among held clauses answers, over the known entries.
use Rattle.std.proofs.Common.{◌≡◌, ◌↔◌, ◌⊎◌, inl, inr, ℕ, ◌≤◌, Bool, true, false, cond, List, [], ◌∷◌, ◌++◌, refl, ap, sym, ◌∙◌, subst, arith}
use Rattle.std.specs.Prelude.{filter_map, option_map, Option, Some, None, Result, Ok, Err, IsTrue}
use Rattle.std.specs.Cmp.{nat_cmp_is}
use Rattle.std.specs.List.{AllByRecursion as Each, cons_option}
use Rattle.std.specs.Ordering.{nat_cmp, ordering_then}
use Rattle.std.specs.declared.cmp.Ordering.{Ordering}
use Rattle.std.specs.declared.cmp.Ordering.TheVariants.{Less, Equal, Greater}
use Rattle.std.proofs.lemmas.Bool.{cases_lt}
use Rattle.cd_clause.specs.declared.Clause.{Clause}
use Rattle.cd_contract.specs.Hits as contract
use Rattle.cd_contract.specs.Hits.{AreStruck, Contracting, IsFirstOf, IsStruckBy, hits_with}
use Rattle.cd_contract.specs.Laws.{SubsumersHaveNoGreaterKeys}
use Rattle.cd_contract.specs.declared.held.Entry.{Entry}
use Rattle.cd_contract.specs.declared.held.Hit.{Hit}
use Rattle.cd_contract.specs.declared.held.Struck.{Struck}
use Rattle.cd_infer.specs.Conclusions as conclusions
use Rattle.cd_infer.specs.Conclusions.{PairAnswers, SoloAnswers}
use Rattle.cd_infer.specs.Laws.{PairsAreWithin, SolosAreWithin}
use Rattle.cd_infer.specs.declared.Conclusion.{Conclusion}
use Rattle.cd_kbo.specs.declared.order.Order.{Order}
use Rattle.cd_key.specs.Keys.{forms_compare}
use Rattle.cd_key.specs.Repeats.{repeats_of}
use Rattle.cd_ledger.specs.declared.records.Known.{Known}
use Rattle.cd_ledger.specs.declared.records.Record.{Record}
use Rattle.cd_ledger.specs.Records.{is_of}
use Rattle.cd_ledger.specs.Statuses.{is_held}
use Rattle.cd_machine.specs.Contraction.{hit_on}
use Rattle.cd_machine.specs.Hits.{AreHits, HowHolds, IsBackHit, IsBeater, IsForward, IsReducer, IsSubsumer, ReducesLater}
use Rattle.cd_machine.specs.Lists.{IsFirst}
use Rattle.cd_machine.specs.Rules.{IsConclusionWithin, KeyLess, PairConcludes, Reduces, SoloConcludes, Subsumes}
use Rattle.cd_names.specs.declared.How.{How}
use Rattle.cd_names.specs.declared.How.TheVariants as how
use Rattle.cd_names.specs.declared.names.Name.{Name}
use Rattle.cd_names.specs.Names.{name_eq}
use Rattle.cd_subsume.specs.Subsumption.{SubsumesBy}
use Rattle.cd_term.specs.Terms.{value_of}
use Rattle.cd_term.specs.declared.Term.{Term}
use Rattle.cd_term.specs.declared.TermFault.{TermFault}
use Rattle.cd_term.specs.declared.TermFault.TheVariants.{OutOfBounds, Memory}
use Rattle.cd_acts.specs.declared.rules.Concluded.{Concluded}
use Rattle.cd_acts.specs.declared.rules.Concluded.TheVariants as concluded
use Rattle.cd_acts.specs.declared.rules.Standing.{Standing}
use Rattle.cd_acts.specs.declared.rules.Standing.TheVariants.{Free, Reduced, Subsumed}
use Rattle.cd_acts.specs.Answers.{IsAlone, IsFirstNamed, IsSearched, IsStanding, IsSubsumedStanding, IsTogether}
use Rattle.cd_acts.specs.Hits.{AreAmong, by_name, how_in}
use Rattle.cd_acts.specs.Indexed.{AreOnce, AreOthers, entry_of, held_entry}
use Rattle.cd_acts.proofs.Names.{name_eq_refl, name_eq_sym, once_others, once_rest}
use Rattle.cd_acts.proofs.Several.{how_other}

-- ---- the first held clause that has a property is the first known entry that has it

prepend : (Q : Known → Type 0) (x : Known) (es : List Known) (e : Known) → (Q x → ⊥) → IsFirst Q es e → IsFirst Q (x ∷ es) e
prepend Q x es e never f = record { front = x ∷ f.front; back = f.back; split = ap (λ ys. x ∷ ys) f.split; is = f.is; first = (never, f.first) }

module _ (P : Entry → Type 0) (Q : Known → Type 0) (to : (e : Known) → is_held e ≡ true → P (entry_of e) → Q e) (held : (e : Known) → Q e → is_held e ≡ true) (from : (e : Known) → Q e → P (entry_of e)) where
  unheld : (e : Known) → is_held e ≡ false → Q e → ⊥
  unheld e x q = let y : true ≡ false = sym (held e q) ∙ x in absurd cc

  pub none_first : (es : List Known) → IsFirstOf P (filter_map held_entry es) None → Each (λ e. ¬ Q e) es
  none_first [] h = tt
  none_first (e ∷ es) h = go (is_held e) refl h (none_first es)
    where
      go : (b : Bool) → is_held e ≡ b → IsFirstOf P (cons_option (cond b (Some (entry_of e)) None) (filter_map held_entry es)) None → (IsFirstOf P (filter_map held_entry es) None → Each (λ y. ¬ Q y) es) → (¬ Q e) × Each (λ y. ¬ Q y) es
      go true x (inl y) rest = let z = y.1 in absurd cc
      go true x (inr y) rest = ((λ q. y.0 (from e q)), rest y.1)
      go false x y rest = (unheld e x, rest y)

  pub some_first : (es : List Known) (f : Entry) → IsFirstOf P (filter_map held_entry es) (Some f) → IsFirstNamed Q es f.name
  some_first [] f h = absurd cc
  some_first (e ∷ es) f h = go (is_held e) refl h (some_first es f)
    where
      later : (Q e → ⊥) → IsFirstNamed Q es f.name → IsFirstNamed Q (e ∷ es) f.name
      later never r = (r.0, prepend Q e es r.0 never r.1, r.2)

      go : (b : Bool) → is_held e ≡ b → IsFirstOf P (cons_option (cond b (Some (entry_of e)) None) (filter_map held_entry es)) (Some f) → (IsFirstOf P (filter_map held_entry es) (Some f) → IsFirstNamed Q es f.name) → IsFirstNamed Q (e ∷ es) f.name
      go true x (inl y) rest = (e, record { front = []; back = es; split = refl; is = to e x y.0; first = tt }, (let z : Some f ≡ Some (entry_of e) = y.1 in let w : f ≡ entry_of e = cc in ap (λ (v : Entry). v.name) w))
      go true x (inr y) rest = later (λ q. y.0 (from e q)) (rest y.1)
      go false x y rest = later (unheld e x) (rest y)

-- ---- which entries these are

module _ (order : Order) (c : Clause) where
  reducer_to : (e : Known) → is_held e ≡ true → Contracting order how.Reduces c None (entry_of e) → IsReducer order c e
  unfolding KeyLess Reduces
  reducer_to e h k = (h, k.below, k.contracts)

  reducer_held : (e : Known) → IsReducer order c e → is_held e ≡ true
  reducer_held e q = q.0

  reducer_from : (e : Known) → IsReducer order c e → Contracting order how.Reduces c None (entry_of e)
  unfolding KeyLess Reduces
  reducer_from e q = record { below = q.1; contracts = q.2 }

  no_reducer : (es : List Known) → IsFirstOf (Contracting order how.Reduces c None) (filter_map held_entry es) None → Each (λ e. ¬ IsReducer order c e) es
  no_reducer = none_first (Contracting order how.Reduces c None) (IsReducer order c) reducer_to reducer_held reducer_from

  a_reducer : (es : List Known) (f : Entry) → IsFirstOf (Contracting order how.Reduces c None) (filter_map held_entry es) (Some f) → IsFirstNamed (IsReducer order c) es f.name
  a_reducer = some_first (Contracting order how.Reduces c None) (IsReducer order c) reducer_to reducer_held reducer_from

  -- a subsumer with a name is below what it subsumes without one
  in_turn : (x y : Ordering) → x ≡ Equal → (y ≡ Less) ⊎ (y ≡ Equal) → ordering_then x (ordering_then y Less) ≡ Less
  in_turn x y e (inl f) = ap (λ z. ordering_then z (ordering_then y Less)) e ∙ ap (λ z. ordering_then z Less) f
  in_turn x y e (inr f) = ap (λ z. ordering_then z (ordering_then y Less)) e ∙ ap (λ z. ordering_then z Less) f

  at_most : (m n : ℕ) → m ≤ n → (nat_cmp m n ≡ Less) ⊎ (nat_cmp m n ≡ Equal)
  at_most m n le = elim (cases_lt m n) [
    | inl lt ↦ inl (sym (nat_cmp_is m n Less lt))
    | inr same ↦ inr (sym (nat_cmp_is m n Equal (let e : m ≡ n = omega (arith, le, same) in e)))
  ]

  unnamed_above : (d : Clause) (n : Name) → (forms_compare order d c ≡ Less) ⊎ ((forms_compare order d c ≡ Equal) × (repeats_of d.literals ≤ repeats_of c.literals)) → contract.KeyBelow order d (Some n) c None
  unnamed_above d n (inl less) = ap (λ x. ordering_then x (ordering_then (nat_cmp (repeats_of d.literals) (repeats_of c.literals)) Less)) less
  unnamed_above d n (inr same) = in_turn (forms_compare order d c) (nat_cmp (repeats_of d.literals) (repeats_of c.literals)) same.0 (at_most (repeats_of d.literals) (repeats_of c.literals) same.1)

  module _ (law : SubsumersHaveNoGreaterKeys) where
    subsumer_to : (e : Known) → is_held e ≡ true → Contracting order how.Subsumes c None (entry_of e) → IsSubsumer c e
    unfolding Subsumes
    subsumer_to e h k = (h, k.contracts)

    subsumer_held : (e : Known) → IsSubsumer c e → is_held e ≡ true
    subsumer_held e q = q.0

    subsumer_from : (e : Known) → IsSubsumer c e → Contracting order how.Subsumes c None (entry_of e)
    unfolding Subsumes
    subsumer_from e q = record { below = unnamed_above e.entry.clause e.entry.name (law order e.entry.clause c q.1); contracts = q.1 }

    no_subsumer : (es : List Known) → IsFirstOf (Contracting order how.Subsumes c None) (filter_map held_entry es) None → Each (λ e. ¬ IsSubsumer c e) es
    no_subsumer = none_first (Contracting order how.Subsumes c None) (IsSubsumer c) subsumer_to subsumer_held subsumer_from

    a_subsumer : (es : List Known) (f : Entry) → IsFirstOf (Contracting order how.Subsumes c None) (filter_map held_entry es) (Some f) → IsFirstNamed (IsSubsumer c) es f.name
    a_subsumer = some_first (Contracting order how.Subsumes c None) (IsSubsumer c) subsumer_to subsumer_held subsumer_from

    -- how a clause stands to the held ones, from a forward pass and, where it is subsumed, the first that reduces it
    pub standing_free : (es : List Known) → contract.IsForward order c None (filter_map held_entry es) None → IsStanding order c es Free
    standing_free es (inl x) = absurd cc
    standing_free es (inr (inl x)) = absurd cc
    standing_free es (inr (inr x)) = (no_reducer es x.1, no_subsumer es x.0)

    pub standing_reduced : (es : List Known) (h : Hit) → h.how ≡ how.Reduces → contract.IsForward order c None (filter_map held_entry es) (Some h) → IsStanding order c es (Reduced h.by)
    standing_reduced es h is (inl x) = (let y : Some h ≡ Some (record { by = x.0.name; how = how.Subsumes }) = x.2 in absurd cc)
    standing_reduced es h is (inr (inl x)) =
        let y : Some h ≡ Some (record { by = x.1.0.name; how = how.Reduces }) = x.1.2 in
        let z : h ≡ record { by = x.1.0.name; how = how.Reduces } = cc in
        subst (λ (n : Name). IsFirstNamed (IsReducer order c) es n) (sym (ap (λ (w : Hit). w.by) z)) (a_reducer es x.1.0 x.1.1)
    standing_reduced es h is (inr (inr x)) = absurd cc

    reducer_case : (es : List Known) (by : Name) (e : Option Entry) → IsFirstOf (Contracting order how.Reduces c None) (filter_map held_entry es) e → Some by ≡ option_map (λ x. x.name) e → IsStanding order c es (Reduced by)
    reducer_case es by None f is = absurd cc
    reducer_case es by (Some x) f is = subst (λ (n : Name). IsFirstNamed (IsReducer order c) es n) (let y : Some by ≡ Some x.name = is in let z : x.name ≡ by = cc in z) (a_reducer es x f)

    no_reducer_case : (es : List Known) (e : Option Entry) → IsFirstOf (Contracting order how.Reduces c None) (filter_map held_entry es) e → None ≡ option_map (λ x. x.name) e → Each (λ x. ¬ IsReducer order c x) es
    no_reducer_case es None f is = no_reducer es f
    no_reducer_case es (Some x) f is = absurd cc

    pub standing_both : (es : List Known) (by : Name) → contract.IsReducer order c None (filter_map held_entry es) (Some by) → IsStanding order c es (Reduced by)
    standing_both es by r = reducer_case es by r.0 r.1 r.2

    pub standing_subsumed : (es : List Known) (h : Hit) → h.how ≡ how.Subsumes → contract.IsForward order c None (filter_map held_entry es) (Some h) → contract.IsReducer order c None (filter_map held_entry es) None → IsStanding order c es (Subsumed h.by)
    standing_subsumed es h is (inl x) r =
        let y : Some h ≡ Some (record { by = x.0.name; how = how.Subsumes }) = x.2 in
        let z : h ≡ record { by = x.0.name; how = how.Subsumes } = cc in
        (no_reducer_case es r.0 r.1 r.2, subst (λ (n : Name). IsFirstNamed (IsSubsumer c) es n) (sym (ap (λ (w : Hit). w.by) z)) (a_subsumer es x.0 x.1))
    standing_subsumed es h is (inr (inl x)) r = (let y : Some h ≡ Some (record { by = x.1.0.name; how = how.Reduces }) = x.1.2 in absurd cc)
    standing_subsumed es h is (inr (inr x)) r = absurd cc

    pub standing_by : (es : List Known) (h : Hit) (x : Standing) → h.how ≡ how.Subsumes → contract.IsForward order c None (filter_map held_entry es) (Some h) → IsSubsumedStanding order c (filter_map held_entry es) h.by x → IsStanding order c es x
    standing_by es h (Reduced d) is f s = standing_both es d s
    standing_by es h (Subsumed d) is f s = subst (λ (n : Name). IsStanding order c es (Subsumed n)) (sym s.1) (standing_subsumed es h is f s.0)
    standing_by es h Free is f s = absurd s

pub subsumption_holds : (order : Order) (h : How) (d c : Clause) (s : List Term) → h ≡ how.Subsumes → SubsumesBy (value_of s) d c → IsTrue true ↔ HowHolds order h d c
unfolding Subsumes
subsumption_holds order h d c s is by = ((λ e. subst (λ (x : How). HowHolds order x d c) (sym is) (value_of s, by)), (λ y. refl))

-- ---- a record that comes

module _ (order : Order) (r : Record) where
  beater_to : (h : How) (e : Known) → is_held e ≡ true → Contracting order h r.clause (Some r.name) (entry_of e) → IsBeater order h r e
  unfolding KeyLess Subsumes Reduces
  beater_to how.Subsumes e x k = (x, k.below, k.contracts)
  beater_to how.Reduces e x k = (x, k.below, k.contracts)

  beater_held : (h : How) (e : Known) → IsBeater order h r e → is_held e ≡ true
  beater_held h e q = q.0

  beater_from : (h : How) (e : Known) → IsBeater order h r e → Contracting order h r.clause (Some r.name) (entry_of e)
  unfolding KeyLess Subsumes Reduces
  beater_from how.Subsumes e q = record { below = q.1; contracts = q.2 }
  beater_from how.Reduces e q = record { below = q.1; contracts = q.2 }

  no_beater : (h : How) (es : List Known) → IsFirstOf (Contracting order h r.clause (Some r.name)) (filter_map held_entry es) None → Each (λ e. ¬ IsBeater order h r e) es
  no_beater h = none_first (Contracting order h r.clause (Some r.name)) (IsBeater order h r) (beater_to h) (beater_held h) (beater_from h)

  a_beater : (h : How) (es : List Known) (f : Entry) → IsFirstOf (Contracting order h r.clause (Some r.name)) (filter_map held_entry es) (Some f) → IsFirstNamed (IsBeater order h r) es f.name
  a_beater h = some_first (Contracting order h r.clause (Some r.name)) (IsBeater order h r) (beater_to h) (beater_held h) (beater_from h)

  each_both : (P Q : Known → Type 0) (es : List Known) → Each P es → Each Q es → Each (λ e. P e × Q e) es
  each_both P Q [] a b = tt
  each_both P Q (e ∷ es) a b = ((a.0, b.0), each_both P Q es a.1 b.1)

  pub forward_is : (es : List Known) (hit : Option Hit) → contract.IsForward order r.clause (Some r.name) (filter_map held_entry es) hit → IsForward order r es hit
  forward_is es hit (inl x) =
      let b = a_beater how.Subsumes es x.0 x.1 in
      subst (λ (o : Option Hit). IsForward order r es o) (sym x.2) (b.0, b.1, b.2, tt)
  forward_is es hit (inr (inl x)) =
      let b = a_beater how.Reduces es x.1.0 x.1.1 in
      subst (λ (o : Option Hit). IsForward order r es o) (sym x.1.2) (b.0, b.1, b.2, no_beater how.Subsumes es x.0)
  forward_is es hit (inr (inr x)) =
      subst (λ (o : Option Hit). IsForward order r es o) (sym x.2)
      (each_both (λ e. ¬ IsBeater order how.Subsumes r e) (λ e. ¬ IsBeater order how.Reduces r e) es (no_beater how.Subsumes es x.0) (no_beater how.Reduces es x.1))

  -- ---- what the record hits

  among_with : (e : Known) (es : List Known) (o : Option How) (rest hits : List Struck) → is_held e ≡ true → AreAmong es rest → hits ≡ hits_with e.entry.name o rest → AreAmong (e ∷ es) hits
  among_with e es None rest hits x a is = inl (subst (λ hs. AreAmong es hs) (sym is) a)
  among_with e es (Some h) rest hits x a is = inr (record { of = e.entry.name; how = h }, rest, is, refl, x, a)

  pub struck_among : (es : List Known) (hits : List Struck) → AreStruck order r.clause r.name (filter_map held_entry es) hits → AreAmong es hits
  struck_among [] hits s = s
  struck_among (e ∷ es) hits s = go (is_held e) refl s (struck_among es)
    where
      go : (b : Bool) → is_held e ≡ b → AreStruck order r.clause r.name (cons_option (cond b (Some (entry_of e)) None) (filter_map held_entry es)) hits
          → ((hs : List Struck) → AreStruck order r.clause r.name (filter_map held_entry es) hs → AreAmong es hs) → AreAmong (e ∷ es) hits
      go true x y rest = among_with e es y.0 y.1 hits x (rest y.1 y.3) y.4
      go false x y rest = inl (rest hits y)

  back_hit : (e : Known) (o : Option How) → IsStruckBy order r.clause r.name (entry_of e) o → IsBackHit order r e o
  unfolding KeyLess Subsumes Reduces
  back_hit e None (inl never) = λ held below. absurd (never below)
  back_hit e None (inr neither) = λ held below. (neither.0, neither.1)
  back_hit e (Some how.Subsumes) s = (s.0, s.1)
  back_hit e (Some how.Reduces) s = (s.0, s.1.0, s.1.1)

  -- the hits behind an entry are of other names
  hits_later : (n : Name) (o : Option How) (rest hits : List Struck) → hits ≡ hits_with n o rest → (es : List Known) → AreOthers n es → Each (λ e. IsBackHit order r e (hit_on (by_name rest) e)) es → Each (λ e. IsBackHit order r e (hit_on (by_name hits) e)) es
  hits_later n None rest hits is es others all = subst (λ hs. Each (λ e. IsBackHit order r e (hit_on (by_name hs) e)) es) (sym is) all
  hits_later n (Some h) rest hits is es others all = subst (λ hs. Each (λ e. IsBackHit order r e (hit_on (by_name hs) e)) es) (sym is) (by es others all)
    where
      by : (xs : List Known) → AreOthers n xs → Each (λ e. IsBackHit order r e (hit_on (by_name rest) e)) xs → Each (λ e. IsBackHit order r e (hit_on (by_name (record { of = n; how = h } ∷ rest)) e)) xs
      by [] o a = tt
      by (x ∷ xs) o a = (subst (λ b. IsBackHit order r x (cond (is_held x) (cond b (Some h) (how_in rest x.entry.name)) None)) (sym o.0) a.0, by xs o.1 a.1)

  hit_here : (e : Known) (es : List Known) (o : Option How) (rest hits : List Struck) → hits ≡ hits_with e.entry.name o rest → AreAmong es rest → AreOthers e.entry.name es → how_in hits e.entry.name ≡ o
  hit_here e es None rest hits is a others = ap (λ hs. how_in hs e.entry.name) is ∙ how_other e.entry.name es rest a others
  hit_here e es (Some h) rest hits is a others = ap (λ hs. how_in hs e.entry.name) is ∙ ap (λ b. cond b (Some h) (how_in rest e.entry.name)) (name_eq_refl e.entry.name)

  unheld_hit : (e : Known) (hits : List Struck) → is_held e ≡ false → IsBackHit order r e (hit_on (by_name hits) e)
  unheld_hit e hits x = subst (λ b. IsBackHit order r e (cond b (by_name hits e) None)) (sym x) (λ held below. (let y : true ≡ false = sym held ∙ x in absurd cc))

  pub struck_hits : (es : List Known) (hits : List Struck) → AreOnce es → AreStruck order r.clause r.name (filter_map held_entry es) hits → AreHits order r es (by_name hits)
  struck_hits [] hits once s = tt
  struck_hits (e ∷ es) hits once s = go (is_held e) refl s (λ hs. struck_hits es hs (once_rest e es once))
    where
      go : (b : Bool) → is_held e ≡ b → AreStruck order r.clause r.name (cons_option (cond b (Some (entry_of e)) None) (filter_map held_entry es)) hits
          → ((hs : List Struck) → AreStruck order r.clause r.name (filter_map held_entry es) hs → AreHits order r es (by_name hs)) → AreHits order r (e ∷ es) (by_name hits)
      go true x y rest =
          let others = once_others e.entry.name e es once (name_eq_refl e.entry.name) in
          let here : hit_on (by_name hits) e ≡ y.0 = ap (λ b. cond b (how_in hits e.entry.name) None) x ∙ hit_here e es y.0 y.1 hits y.4 (struck_among es y.1 y.3) others in
          (subst (λ o. IsBackHit order r e o) (sym here) (back_hit e y.0 y.2), hits_later e.entry.name y.0 y.1 hits y.4 es others (rest y.1 y.3))
      go false x y rest = (unheld_hit e hits x, rest hits y)

-- ---- conclusions

within_to : (xs : List Conclusion) → Each conclusions.IsWithin xs → Each IsConclusionWithin xs
unfolding IsConclusionWithin
within_to [] h = tt
within_to (x ∷ xs) h = (h.0, within_to xs h.1)

within_from : (xs : List Conclusion) → Each IsConclusionWithin xs → Each conclusions.IsWithin xs
unfolding IsConclusionWithin
within_from [] h = tt
within_from (x ∷ xs) h = (h.0, within_from xs h.1)

pub alone_is : (order : Order) (a : Name) (c : Clause) (answer : Result (List Conclusion) TermFault) (x : Concluded) → SolosAreWithin → SoloAnswers order a c answer → IsSearched answer x → IsAlone order a c x
unfolding SoloConcludes
alone_is order a c answer (concluded.Found found) law s is = (let t = subst (λ r. SoloAnswers order a c r) is s in (t.0, within_to found t.1))
alone_is order a c answer concluded.TooLarge law s is = λ found f w. law order a c found f (within_from found w) (subst (λ r. SoloAnswers order a c r) is s)

pub together_is : (order : Order) (a : Name) (c : Clause) (b : Name) (d : Clause) (answer : Result (List Conclusion) TermFault) (x : Concluded) → PairsAreWithin → PairAnswers order a c b d answer → IsSearched answer x → IsTogether order a c b d x
unfolding PairConcludes
together_is order a c b d answer (concluded.Found found) law s is = (let t = subst (λ r. PairAnswers order a c b d r) is s in (t.0, within_to found t.1))
together_is order a c b d answer concluded.TooLarge law s is = λ found f w. law order a c b d found f (within_from found w) (subst (λ r. PairAnswers order a c b d r) is s)
